-- What callers cite: an invariant of their own, before the first call and after one more.
use Rattle.std.proofs.Common.{◌≡◌, ℕ, ◌+◌, List, [], ◌∷◌, ◌++◌, refl, arith}
use Rattle.std.proofs.lemmas.List.Sums.{sum_by-append}
use Rattle.std.specs.List.{sum_by}
use Rattle.flume_party.specs.Parties.{PartyState}
use Rattle.flume_actions.specs.Actions.{Action}
use Rattle.flume_actions.specs.Calls.{HasCalled}
use Rattle.flume_actions.proofs.CallerLemmas.{no_call, and_call}
use Rattle.flume_laws.specs.Invariants.{HasMadeCallsWhere}
use Rattle.flume_laws.specs.Together.{sum_over_all}

module _ {T A : Type 0} where
  -- no call yet
  pub no_call_where : (party : PartyState (Action T A)) {holds : (sent got : List T) → Type 0}
      → holds [] [] → HasMadeCallsWhere party party holds
  no_call_where party so = record { sent = []; got = []; calls = no_call party; so = so }

  -- a call more
  pub and_call_where : {old new new' : PartyState (Action T A)} {sent got : List T}
      {before after : (sent got : List T) → Type 0} → HasMadeCallsWhere old new before
      → HasCalled new new' sent got
      → ((all_sent all_got : List T) → before all_sent all_got
      → after (all_sent ++ sent) (all_got ++ got)) → HasMadeCallsWhere old new' after
  and_call_where {sent = sent} {got = got} first called then_so = record {
    sent = first.sent ++ sent;
    got = first.got ++ got;
    calls = and_call first.calls called refl refl;
    so = then_so first.sent first.got first.so;
  }

  -- a call more, where a number changes by the sums of what is sent and got
  pub and_call_summed : {old new new' : PartyState (Action T A)} (weight : T → ℕ)
      (start before after : ℕ) {some more : List T}
      → HasMadeCallsWhere old new
      (λ sent got. before + sum_by weight sent ≡ start + sum_by weight got)
      → HasCalled new new' some more
      → after + sum_by weight some ≡ before + sum_by weight more
      → HasMadeCallsWhere old new'
      (λ sent got. after + sum_by weight sent ≡ start + sum_by weight got)
  and_call_summed weight start before after {some = some} {more = more} first called change =
      and_call_where first called (λ sent got is. omega (
        arith,
        is,
        change,
        sum_by-append weight sent some,
        sum_by-append weight got more,
      ))

  -- if a number of each of two parties changes so, and the sums are the same, the total is kept
  pub total_kept : {old new old' new' : PartyState (Action T A)} (weight : T → ℕ)
      (first first' second second' : ℕ)
      (one : HasMadeCallsWhere old new
      (λ sent got. first' + sum_by weight sent ≡ first + sum_by weight got))
      (other : HasMadeCallsWhere old' new'
      (λ sent got. second' + sum_by weight sent ≡ second + sum_by weight got))
      → sum_over_all weight (other.sent ∷ one.sent ∷ [])
      ≡ sum_over_all weight (other.got ∷ one.got ∷ [])
      → first' + second' ≡ first + second
  total_kept weight first first' second second' one other sums =
      omega (arith, one.so, other.so, sums)
