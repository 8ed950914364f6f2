-- What is left of what was left is left of all, and a send of what was left goes on.
use Rattle.std.proofs.Common.{◌≡◌, ◌∷◌, Ok, Err, refl, sym, ◌∙◌, subst, ap, arith, rules, eqb-true}
use Rattle.std.proofs.lemmas.List.{nil_from_length}
use Rattle.std.specs.Vec.{vec_items}
use Rattle.flume_core.specs.declared.error.TrySendError.TheVariants as try_send
use Rattle.flume_core.specs.declared.error.SendTimeoutError.TheVariants.{Timeout, Disconnected, NoMemory}
use Rattle.flume_calls.specs.ManySends.{IsRest}
use Rattle.flume.specs.ManySendSteps.{SendsManyOf, NoneLeft, AllTakenIn, IsClosed, IsRefused, FirstComesBack, GoesOn, error_list}
use Rattle.flume.proofs.InTimeLemmas.{send_in_time}
use Rattle.flume.proofs.ManySendStepLemmas.{batch_done, batch_full}
use Rattle.flume.proofs.ManySendLemmas.{rest_of_all, without_wait, behind_sent, left_by_first, late_first}
use Rattle.flume.proofs.sender.Sender.send_many_until.Goals as goal

pub send_to_full_until-requires : goal.send_to_full_until-requires
send_to_full_until-requires g c =
    let is : c.in-Err-Full.full.items ≡ c.in-Some.first ∷ c.pop_front.new.self.items = search rules in
    record { full = batch_full (rw c.in-Err-Full.field-0-is at c.in-Err-Full.ensures.made) _ _ is }

pub returns-in-Err-clause-timeout : goal.returns-in-Err-clause-timeout
returns-in-Err-clause-timeout g c = λ rest said.
    let same : c.put_back.result ≡ Timeout rest = cc in
    let left : IsRest c.loop-deadline.left.items c.in-Err-Full.full.items = rw c.in-Err-Full.field-0-is at c.in-Err-Full.ensures.answers in
    left_by_first _ _ _ _ c.in-Some.first c.in-Err.ended (Timeout rest.items) c.loop-deadline.invariant.last left (search rules)
    (λ back none. c.in-Err.ensures.no_memory back (ap Err none)) (ap (error_list vec_items) (sym same) ∙ c.put_back.ensures.list)

pub returns-in-Err-clause-disconnected : goal.returns-in-Err-clause-disconnected
returns-in-Err-clause-disconnected g c = λ rest said.
    let same : c.put_back.result ≡ Disconnected rest = cc in
    let left : IsRest c.loop-deadline.left.items c.in-Err-Full.full.items = rw c.in-Err-Full.field-0-is at c.in-Err-Full.ensures.answers in
    left_by_first _ _ _ _ c.in-Some.first c.in-Err.ended (Disconnected rest.items) c.loop-deadline.invariant.last left (search rules)
    (λ back none. c.in-Err.ensures.no_memory back (ap Err none)) (ap (error_list vec_items) (sym same) ∙ c.put_back.ensures.list)

pub returns-in-Err-clause-no_memory : goal.returns-in-Err-clause-no_memory
returns-in-Err-clause-no_memory g c = λ rest said.
    let same : c.put_back.result ≡ NoMemory rest = cc in
    let left : IsRest c.loop-deadline.left.items c.in-Err-Full.full.items = rw c.in-Err-Full.field-0-is at c.in-Err-Full.ensures.answers in
    left_by_first _ _ _ _ c.in-Some.first c.in-Err.ended (NoMemory rest.items) c.loop-deadline.invariant.last left (search rules)
    (λ back none. c.in-Err.ensures.no_memory back (ap Err none)) (ap (error_list vec_items) (sym same) ∙ c.put_back.ensures.list)

pub returns-in-Err-clause-in_time : goal.returns-in-Err-clause-in_time
returns-in-Err-clause-in_time g c = λ never rest said.
    let same : c.put_back.result ≡ Timeout rest = cc in
    let late = late_first rest.items _ c.in-Err.ended (ap (error_list vec_items) (sym same) ∙ c.put_back.ensures.list) in
    send_in_time c.in-Err.ensures.made.1 never late.0 (ap Err late.1)

pub returns-in-Err-Disconnected-clause-disconnected : goal.returns-in-Err-Disconnected-clause-disconnected
returns-in-Err-Disconnected-clause-disconnected g c = λ rest said.
    let same : c.into_vec.result ≡ rest = cc in
    let is = rw c.in-Err-Disconnected.field-0-is at c.in-Err-Disconnected.ensures.answers in
    rw (← same) (rw c.into_vec.ensures.items (without_wait _ _ (rest_of_all _ _ _ c.loop-deadline.invariant.last is)))

pub returns-in-Err-NoMemory-clause-no_memory : goal.returns-in-Err-NoMemory-clause-no_memory
returns-in-Err-NoMemory-clause-no_memory g c = λ rest said.
    let same : c.into_vec-in-Err-NoMemory.result ≡ rest = cc in
    let is = rw c.in-Err-NoMemory.field-0-is at c.in-Err-NoMemory.ensures.answers in
    rw (← same) (rw c.into_vec-in-Err-NoMemory.ensures.items (rest_of_all _ _ _ c.loop-deadline.invariant.last is))

pub loop-deadline-preserved : goal.loop-deadline-preserved
loop-deadline-preserved g c =
    let is : c.in-Err-Full.full.items ≡ c.in-Some.first ∷ c.pop_front.new.self.items = search rules in
    let left : IsRest c.loop-deadline.left.items c.in-Err-Full.full.items = rw c.in-Err-Full.field-0-is at c.in-Err-Full.ensures.answers in
    let done = rw c.in-Err-Full.field-0-is at c.in-Err-Full.ensures.made in
    let did = rw c.in-Err-Full.field-0-is at c.in-Err-Full.ensures.did in
    let sent = c.in-Ok-send_to_full_until.ensures in
    record {
      last = behind_sent _ _ _ _ _ c.loop-deadline.invariant.last left is;
      goes_on = λ new result rest. c.loop-deadline.invariant.goes_on new result
          (GoesOn (batch_done done did (ap (λ list. Err (try_send.Full list)) (sym is))) (sent.made, sent.did) rest);
    }

pub returns-in-Ok-clause-did : goal.returns-in-Ok-clause-did
returns-in-Ok-clause-did g c = c.loop-deadline.invariant.goes_on _ _ (AllTakenIn (batch_done c.in-Ok.ensures.made c.in-Ok.ensures.did refl))

pub returns-in-Err-clause-did : goal.returns-in-Err-clause-did
returns-in-Err-clause-did g c =
    let is : c.in-Err-Full.full.items ≡ c.in-Some.first ∷ c.pop_front.new.self.items = search rules in
    let done = rw c.in-Err-Full.field-0-is at c.in-Err-Full.ensures.made in
    let did = rw c.in-Err-Full.field-0-is at c.in-Err-Full.ensures.did in
    let sent = c.in-Err.ensures in
    rw c.put_back.ensures.list (c.loop-deadline.invariant.goes_on _ _
    (FirstComesBack (batch_done done did (ap (λ list. Err (try_send.Full list)) (sym is))) (sent.made, sent.did)))

pub returns-in-Err-Disconnected-clause-did : goal.returns-in-Err-Disconnected-clause-did
returns-in-Err-Disconnected-clause-did g c =
    let done = rw c.in-Err-Disconnected.field-0-is at c.in-Err-Disconnected.ensures.made in
    let did = rw c.in-Err-Disconnected.field-0-is at c.in-Err-Disconnected.ensures.did in
    c.loop-deadline.invariant.goes_on _ _
    (IsClosed (batch_done done did (ap (λ list. Err (try_send.Disconnected list)) c.into_vec.ensures.items)))

pub returns-in-Err-NoMemory-clause-did : goal.returns-in-Err-NoMemory-clause-did
returns-in-Err-NoMemory-clause-did g c =
    let done = rw c.in-Err-NoMemory.field-0-is at c.in-Err-NoMemory.ensures.made in
    let did = rw c.in-Err-NoMemory.field-0-is at c.in-Err-NoMemory.ensures.did in
    c.loop-deadline.invariant.goes_on _ _
    (IsRefused (batch_done done did (ap (λ list. Err (try_send.NoMemory list)) c.into_vec-in-Err-NoMemory.ensures.items)))

pub returns-clause-did : goal.returns-clause-did
returns-clause-did g c =
    let zero = eqb-true _ _ (sym c.is_empty.ensures ∙ c.loop-deadline-test.false) in
    let none = nil_from_length c.loop-deadline.left.items (omega (arith, zero)) in
    c.loop-deadline.invariant.goes_on _ _
    (subst (λ list. SendsManyOf g.K.Keeper.did c.args.deadline c.loop-deadline.me list c.loop-deadline.me (Ok tt)) (sym none) NoneLeft)
