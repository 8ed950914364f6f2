-- The first that found no room is polled, and if it comes back it is that one.
use Rattle.std.proofs.Common.{◌≡◌, Err, List, [], refl, sym, ap, rules}
use Rattle.flume_core.specs.declared.error.TrySendError.TheVariants.{Full, Disconnected, NoMemory}
use Rattle.flume.specs.ManySendPolls.{AllTakenIn, IsClosed, IsRefused, FirstIsPolled}
use Rattle.flume.proofs.ManySendLemmas.{first_poll_leaves}
use Rattle.flume.proofs.ManySendPollLemmas.{none_polled, polls_to}
use Rattle.flume.proofs.ManySendStepLemmas.{batch_at}
use Rattle.flume.proofs.SendPollLemmas.{error_holds_message}
use Rattle.flume.proofs.polled.many.Shared+T+R+A.poll_list.Goals as goal

pub returns-in-Err-Full-clause-leaves : goal.returns-in-Err-Full-clause-leaves
returns-in-Err-Full-clause-leaves g c =
    let left = rw c.in-Err-Full.field-0-is at c.in-Err-Full.ensures.answers in
    first_poll_leaves _ _ _ c.split_first-first.result.0 c.poll_locked.result left c.split_first-first.ensures.items
    (λ error ready. error_holds_message c.poll_locked.ensures.polled.polled c.split_first-first.result.0 refl error ready)

pub returns-in-Ok-clause-made : goal.returns-in-Ok-clause-made
returns-in-Ok-clause-made g c =
    let reachable = c.in-Ok.ensures.reachable in
    let none : c.new.result.items ≡ [] = search rules in
    polls_to (AllTakenIn (none_polled _ reachable) (batch_at reachable c.in-Ok.ensures.call.turn.0 refl)) none c.requires.ended

pub returns-in-Err-Full-clause-made : goal.returns-in-Err-Full-clause-made
returns-in-Err-Full-clause-made g c =
    let reachable = c.in-Err-Full.ensures.reachable in
    let turn = rw c.in-Err-Full.field-0-is at c.in-Err-Full.ensures.call.turn in
    let items = sym {A = List g.row.T.Denot} c.split_first-first.ensures.items in
    FirstIsPolled (none_polled _ reachable) (batch_at reachable turn.0 (ap {A = List g.row.T.Denot} (λ list. Err (Full list)) items))
    c.poll_locked.ensures.polled

pub returns-in-Err-Disconnected-clause-made : goal.returns-in-Err-Disconnected-clause-made
returns-in-Err-Disconnected-clause-made g c =
    let reachable = c.in-Err-Disconnected.ensures.reachable in
    let turn = rw c.in-Err-Disconnected.field-0-is at c.in-Err-Disconnected.ensures.call.turn in
    let items = sym {A = List g.row.T.Denot} c.split_first-first-in-Err-Disconnected.ensures.items in
    polls_to (IsClosed (none_polled _ reachable) (batch_at reachable turn.0 (ap {A = List g.row.T.Denot} (λ list. Err (Disconnected list)) items)))
    refl c.requires.ended

pub returns-in-Err-NoMemory-clause-made : goal.returns-in-Err-NoMemory-clause-made
returns-in-Err-NoMemory-clause-made g c =
    let reachable = c.in-Err-NoMemory.ensures.reachable in
    let turn = rw c.in-Err-NoMemory.field-0-is at c.in-Err-NoMemory.ensures.call.turn in
    let items = sym {A = List g.row.T.Denot} c.split_first-first-in-Err-NoMemory.ensures.items in
    polls_to (IsRefused (none_polled _ reachable) (batch_at reachable turn.0 (ap {A = List g.row.T.Denot} (λ list. Err (NoMemory list)) items)))
    refl c.requires.ended
