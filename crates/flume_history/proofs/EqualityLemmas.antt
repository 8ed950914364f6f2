-- What equal replies have in common.
use Rattle.std.proofs.Common.{◌≡◌, ◌⊎◌, inl, inr, ◌↔◌, Bool, true, false, ◌&&◌, [], ◌∷◌, refl, ap₂, Vec, subst}
use Rattle.std.specs.Bool.{IsTrue}
use Rattle.std.specs.Cmp.{IsEquivalence, bool_eq_equiv}
use Rattle.std.specs.Cmp.Lexicographic.{options_equiv}
use Rattle.std.proofs.lemmas.Cmp.{nat_eq_equiv, lists_equiv}
use Rattle.flume_model.specs.declared.step.Reply.{Reply}
use Rattle.flume_model.specs.declared.step.Reply.TheVariants.{Sent, Full, Closed, NoMemory, Spent, Pending, Returned, Got, Parked}
use Rattle.flume_model.specs.declared.step.Reply.TheVariants.{Gone, Drained, Number, Flag, Capacity}
use Rattle.flume_model.specs.Log.{Log}
use Rattle.flume_model.specs.Replies.{SameReply}
use Rattle.flume_history.specs.Equal.{Equals}
use Rattle.flume_history.specs.Histories.{DescribesLog}
use Rattle.flume_history.specs.SameRuns.{IsNoMemory}
use Rattle.flume_history.proofs.OneRunLemmas.{want_or_not}

-- false isn't true
never : IsTrue false → ⊥
never e = let no : ⊥ = cc in no

-- two truths that hold together
both : (b c : Bool) → b ≡ true → c ≡ true → (b && c) ≡ true
both b c first second = ap₂ (λ x y. x && y) first second

module _ {T A : Type 0} (equal : T → T → Bool) where
  -- what equals `NoMemory` is it
  want : (recorded reply : Reply T A) → IsNoMemory recorded → Equals equal recorded reply → IsNoMemory reply
  want (NoMemory back) (NoMemory other) w h = tt
  want (NoMemory back) _ w h = absurd (never h)
  want _ reply w h = absurd w

  -- what isn't `NoMemory` equals none
  had_memory : (recorded reply : Reply T A) → (IsNoMemory recorded → ⊥) → Equals equal recorded reply → IsNoMemory reply → ⊥
  had_memory recorded (NoMemory other) none h w = against recorded none h
    where
      against : (recorded : Reply T A) → (IsNoMemory recorded → ⊥) → Equals equal recorded (NoMemory other) → ⊥
      against (NoMemory back) none h = none tt
      against _ none h = never h
  had_memory recorded _ none h w = w

  -- of two equal replies both are `NoMemory` or neither is
  pub same_want : (recorded reply : Reply T A) → Equals equal recorded reply → IsNoMemory recorded ↔ IsNoMemory reply
  same_want recorded reply h = by_want (want_or_not recorded)
    where
      by_want : IsNoMemory recorded ⊎ (IsNoMemory recorded → ⊥) → IsNoMemory recorded ↔ IsNoMemory reply
      by_want (inl w) = (λ v. want recorded reply w h, λ v. w)
      by_want (inr none) = (λ w. absurd (none w), λ w. absurd (had_memory recorded reply none h w))

  -- of two replies that equal one both are `NoMemory` or neither is
  pub tells_want : (recorded reply other : Reply T A) → Equals equal recorded reply → Equals equal recorded other
      → IsNoMemory reply ↔ IsNoMemory other
  tells_want recorded reply other h k = (
    λ w. (same_want recorded other k).0 ((same_want recorded reply h).1 w),
    λ w. (same_want recorded reply h).0 ((same_want recorded other k).1 w),
  )

  -- what equals a drained list equals one with the same messages
  drained : (recorded : Reply T A) (list other : Vec T A) → list.items ≡ other.items → Equals equal recorded (Drained list)
      → Equals equal recorded (Drained other)
  drained (Drained recorded) list other same h = rw same at h
  drained _ list other same h = absurd (never h)

  -- what equals a reply equals the same one
  pub goes_by_messages : (recorded reply other : Reply T A) → SameReply reply other → Equals equal recorded reply
      → Equals equal recorded other
  goes_by_messages recorded (Drained list) (Drained other) same h = drained recorded list other same h
  goes_by_messages recorded (Drained list) _ same h = subst (λ r. Equals equal recorded r) same h
  goes_by_messages recorded _ other same h = subst (λ r. Equals equal recorded r) same h

module _ {T A : Type 0} (equal : T → T → Bool) (laws : IsEquivalence equal) where
  -- a reply equals itself
  pub equals_itself : (reply : Reply T A) → Equals equal reply reply
  equals_itself (Sent filled) = (options_equiv nat_eq_equiv).refl filled
  equals_itself (Full message) = laws.refl message
  equals_itself (Closed message) = laws.refl message
  equals_itself (NoMemory back) = (options_equiv laws).refl back
  equals_itself (Spent back) = (options_equiv laws).refl back
  equals_itself (Pending ticket) = nat_eq_equiv.refl ticket
  equals_itself (Returned message closed) = both _ _ (laws.refl message) (bool_eq_equiv.refl closed)
  equals_itself (Got message) = laws.refl message
  equals_itself (Parked ticket) = nat_eq_equiv.refl ticket
  equals_itself (Gone closed filled) = both _ _ (bool_eq_equiv.refl closed) ((options_equiv nat_eq_equiv).refl filled)
  equals_itself (Drained list) = (lists_equiv laws).refl list.items
  equals_itself (Number number) = nat_eq_equiv.refl number
  equals_itself (Flag truth) = bool_eq_equiv.refl truth
  equals_itself (Capacity capacity) = (options_equiv nat_eq_equiv).refl capacity
  equals_itself _ = refl

  -- a log equals itself
  pub told_by_itself : (log : Log T A) → DescribesLog (Equals equal) log log
  told_by_itself [] = tt
  told_by_itself (p ∷ past) = (refl, equals_itself p.1, told_by_itself past)
