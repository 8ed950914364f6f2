-- Parties of which one makes the next action.
use Rattle.std.proofs.Common.{◌≡◌, ℕ, ◌+◌, ◌≤◌, List, [], ◌∷◌, ◌++◌, Option}
use Rattle.std.proofs.Common.{refl, ap, sym, subst, arith, if◌then◌else◌, ◌⊎◌, inl, inr}
use Rattle.flume_model.specs.Log.{is_ticket}
use Rattle.flume_party.specs.Interleavings.{Interleaving, End, Left, Right}
use Rattle.flume_actions.specs.Actions.{Action}
use Rattle.flume_laws.specs.Together.{Interleaved}
use Rattle.flume_laws.proofs.TurnLemmas.{parked_of}
use Rattle.flume_laws.proofs.PartyLemmas.{Member, actions_of, AreFree}

-- one if this is the ticket
abbrev pub here : ℕ → Option ℕ → ℕ
here t parked = if is_ticket t parked then 1 else 0

module _ {X : Type 0} where
  -- whose element the first one is
  pub first_of_two : (x : X) (xs ys zs : List X) → Interleaving xs ys (x ∷ zs)
      → ((more : List X) × (xs ≡ x ∷ more) × Interleaving more ys zs)
      ⊎ ((more : List X) × (ys ≡ x ∷ more) × Interleaving xs more zs)
  first_of_two x _ _ zs (Left {xs = xs} {ys = ys} rest) = inl (xs, refl, rest)
  first_of_two x _ _ zs (Right {xs = xs} {ys = ys} rest) = inr (ys, refl, rest)

  -- two lists that are merged to none have no element
  pub none_merged : (xs ys : List X) → Interleaving xs ys [] → (xs ≡ []) × (ys ≡ [])
  none_merged _ _ End = (refl, refl)

module _ {T A : Type 0} where
  -- how many parties are parked under the ticket
  abbrev pub parked_under : ℕ → List (Member T A) → ℕ
  parked_under t [] = 0
  parked_under t (m ∷ members) = here t (parked_of m.stand) + parked_under t members

  -- if one party becomes another
  pub parked_else : (t : ℕ) (before after : List (Member T A)) (m n : Member T A)
      → parked_under t (before ++ n ∷ after) + here t (parked_of m.stand)
      ≡ parked_under t (before ++ m ∷ after) + here t (parked_of n.stand)
  parked_else t [] after m n = omega arith
  parked_else t (x ∷ before) after m n = omega (arith, parked_else t before after m n)

  -- a party is one of those parked under its ticket
  pub parked_one : (t : ℕ) (before after : List (Member T A)) (m : Member T A)
      → here t (parked_of m.stand) ≤ parked_under t (before ++ m ∷ after)
  parked_one t [] after m = omega arith
  parked_one t (x ∷ before) after m = omega (arith, parked_one t before after m)

  -- no party that is free is parked
  pub free_unparked : (t : ℕ) (members : List (Member T A)) → AreFree members
      → parked_under t members ≡ 0
  free_unparked t [] free = refl
  free_unparked t (m ∷ members) free = omega (
    arith,
    ap (λ stand. here t (parked_of stand)) free.0,
    free_unparked t members free.1,
  )

  -- the party that makes the next action
  pub record Next (p : Action T A) (all : List (Action T A)) (members : List (Member T A))
      : Type 0 where
    pub before : List (Member T A)
    pub member : Member T A
    pub after : List (Member T A)
    pub later : List (Action T A)
    pub place : members ≡ before ++ member ∷ after
    pub first : member.actions ≡ p ∷ later
    pub rest : (m : Member T A) → m.actions ≡ later
        → Interleaved (actions_of (before ++ m ∷ after)) all

  -- some party makes it
  pub next : (members : List (Member T A)) (p : Action T A) (all : List (Action T A))
      → Interleaved (actions_of members) (p ∷ all) → Next p all members
  next [] p all merged = absurd (let none : ⊥ = cc in none)
  next (x ∷ members) p all merged =
      by_either merged.0 merged.1 (next members p)
      (first_of_two p x.actions merged.0 all merged.2)
    where
      by_either : (others : List (Action T A)) → Interleaved (actions_of members) others
          → ((more : List (Action T A)) → Interleaved (actions_of members) (p ∷ more)
          → Next p more members)
          → ((more : List (Action T A)) × (x.actions ≡ p ∷ more) × Interleaving more others all)
          ⊎ ((more : List (Action T A)) × (others ≡ p ∷ more) × Interleaving x.actions more all)
          → Next p all (x ∷ members)
      by_either others merged deeper (inl own) = record {
        before = [];
        member = x;
        after = members;
        later = own.0;
        place = refl;
        first = own.1;
        rest = λ m e.
            (others, merged, subst (λ list. Interleaving list others all) (sym e) own.2);
      }
      by_either others merged deeper (inr other) =
          let found = deeper other.0 (subst (Interleaved (actions_of members)) other.1 merged) in
          record {
            before = x ∷ found.before;
            member = found.member;
            after = found.after;
            later = found.later;
            place = ap (λ list. x ∷ list) found.place;
            first = found.first;
            rest = λ m e. (other.0, found.rest m e, other.2);
          }
