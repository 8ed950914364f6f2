-- A party and the shared trace, after each function.
use Rattle.std.proofs.Common.{◌≡◌, ℕ, ◌+◌, ◌≤◌, Bool, true, false, List, [], ◌∷◌, ◌++◌, length}
use Rattle.std.proofs.Common.{refl, ap, sym, subst, ◌∙◌, arith, length-append}
use Rattle.std.proofs.lemmas.List.{append-nil}
use Rattle.std.proofs.lemmas.List.Elements.{filter-append}
use Rattle.std.proofs.lemmas.List.Folds.{list_all-append}
use Rattle.std.proofs.lemmas.Grind.{flat_map-append}
use Rattle.std.specs.List.{filter, list_all}
use mathlib.Core.List.{IsPrefix}
use Rattle.flume_trace.specs.Positions.{AreApart, positions_from}
use Rattle.flume_trace.specs.Changes.{Appended, Joined}
use Rattle.flume_party.specs.Owners.{actions_of, AreOwned, AreUnowned, owned_writes, AreCounted}
use Rattle.flume_party.specs.Picks.{picked, Matches}
use Rattle.flume_party.specs.Interleavings.{Interleaving}
use Rattle.flume_party.proofs.PickLemmas.{below_more, below_append, picked_none, picked_prefix}
use Rattle.flume_party.proofs.PickLemmas.{picked_more}
use Rattle.flume_party.proofs.CountLemmas.{picked_length, all_picked}
use Rattle.flume_party.proofs.InterleavingLemmas.{interleaved, interleaved_pass, interleaved_joined}
use Rattle.flume_party.proofs.InterleavingLemmas.{picked_rest}

prefix_length : {X : Type 0} (xs ys : List X) → IsPrefix xs ys → length xs ≤ length ys
prefix_length xs ys p = omega (arith, sym (ap length p.1) ∙ length-append xs p.0)

module _ {E : Type 0} where
  -- the actions of a write more
  actions_more : (writes : List (List E)) (w : List E)
      → actions_of (writes ++ w ∷ []) ≡ actions_of writes ++ w
  actions_more writes w = flat_map-append (λ x. x) writes (w ∷ [])
      ∙ ap (λ last. actions_of writes ++ last) (append-nil w)

  -- the trace after one write
  pub written_one : (may : List (List E) → Type 0) (writes writes' seen seen' : List (List E))
      (ps ps' : List ℕ) (w : List E) → (e : Appended may writes writes' seen seen' ps ps')
      → e.more ≡ w ∷ [] → writes' ≡ writes ++ w ∷ []
  written_one may writes writes' seen seen' ps ps' w e one =
      e.written ∙ ap (λ more. writes ++ more) one

  -- its actions
  pub actions_written : (may : List (List E) → Type 0) (writes writes' seen seen' : List (List E))
      (ps ps' : List ℕ) (w : List E) → (e : Appended may writes writes' seen seen' ps ps')
      → e.more ≡ w ∷ [] → actions_of writes' ≡ actions_of writes ++ w
  actions_written may writes writes' seen seen' ps ps' w e one =
      ap actions_of (written_one may writes writes' seen seen' ps ps' w e one)
      ∙ actions_more writes w

  -- the actions at some positions stand in the trace, in their order
  pub has_part : (writes seen : List (List E)) (ps : List ℕ) (actions all : List E)
      → actions ≡ actions_of (picked ps seen) → seen ≡ writes → actions_of writes ≡ all
      → (others : List E) × Interleaving actions others all
  has_part writes seen ps actions all are saw is =
      let rest = picked_rest 0 ps seen in
      let others : List E = actions_of rest.0 in
      let whole = sym (ap actions_of saw ∙ is) in (
        others,
        subst (λ (z : List E × List E). Interleaving z.0 others z.1) (λ i. (sym are i, sym whole i))
            (interleaved_joined (picked ps seen) rest.0 seen rest.1),
      )

  module _ (is_owned : E → Bool) where
    -- a test that all pass leaves the list as it is
    filter_owned : (w : List E) → AreOwned is_owned w → filter is_owned w ≡ w
    filter_owned [] all = refl
    filter_owned (x ∷ w) all = grind (arith, filter_owned w, all)

    -- nobody's write isn't one of a party
    not_owned : (w : List E) → AreUnowned is_owned w → list_all is_owned w ≡ false
    not_owned [] none = absurd (none.some refl)
    not_owned (x ∷ w) none = grind (arith, none.unowned)

    -- a party's write more
    pub counted_owned : (writes : List (List E)) (w : List E) (n : ℕ) → AreCounted is_owned writes n
        → AreOwned is_owned w → AreCounted is_owned (writes ++ w ∷ []) (n + 1)
    counted_owned writes w n before all =
        let passes : filter (list_all is_owned) (w ∷ []) ≡ w ∷ [] = rw all refl in
        let owned : owned_writes is_owned (writes ++ w ∷ []) ≡ owned_writes is_owned writes ++ w ∷ [] =
        filter-append (list_all is_owned) writes (w ∷ [])
        ∙ ap (λ last. owned_writes is_owned writes ++ last) passes in
        let longer = length-append (owned_writes is_owned writes) (w ∷ []) in
        record {
          count = omega (arith, before.count, longer, ap length owned);
          owned = ap actions_of owned ∙ (actions_more (owned_writes is_owned writes) w
              ∙ (ap (λ first. first ++ w) before.owned
              ∙ (ap (λ last. filter is_owned (actions_of writes) ++ last) (sym (filter_owned w all))
              ∙ (sym (filter-append is_owned (actions_of writes) w)
              ∙ ap (filter is_owned) (sym (actions_more writes w))))));
        }

    -- nobody's write more
    pub counted_unowned : (writes : List (List E)) (w : List E) (n : ℕ)
        → AreCounted is_owned writes n → AreUnowned is_owned w
        → AreCounted is_owned (writes ++ w ∷ []) n
    counted_unowned writes w n before none =
        let passes : filter (list_all is_owned) (w ∷ []) ≡ [] = rw (not_owned w none) refl in
        let owned : owned_writes is_owned (writes ++ w ∷ []) ≡ owned_writes is_owned writes =
        filter-append (list_all is_owned) writes (w ∷ [])
        ∙ (ap (λ last. owned_writes is_owned writes ++ last) passes
        ∙ append-nil (owned_writes is_owned writes)) in
        record {
          count = before.count ∙ ap length (sym owned);
          owned = ap actions_of owned ∙ (before.owned
              ∙ (sym (append-nil (filter is_owned (actions_of writes)))
              ∙ (ap (λ last. filter is_owned (actions_of writes) ++ last) (sym none.unowned)
              ∙ (sym (filter-append is_owned (actions_of writes) w)
              ∙ ap (filter is_owned) (sym (actions_more writes w))))));
        }

    -- a party after a write of its own
    pub record Wrote (amount : ℕ) (seen seen' : List (List E)) (ps ps' : List ℕ) (w : List E)
        : Type 0 where
      pub keeps : Matches is_owned (amount + 1) seen' ps'
      pub picks : actions_of (picked ps' seen') ≡ actions_of (picked ps seen) ++ w

    wrote_here : (amount : ℕ) (seen writes : List (List E)) (ps : List ℕ) (w : List E)
        → Matches is_owned amount seen ps → AreOwned is_owned w → IsPrefix seen writes
        → Wrote amount seen (writes ++ w ∷ []) ps (ps ++ length writes ∷ []) w
    wrote_here amount seen writes ps w before all p =
        let n : ℕ = length writes in
        let longer : length (writes ++ w ∷ []) ≡ n + 1 = omega (arith, length-append writes (w ∷ [])) in
        let picks = picked_more ps seen writes w before.below p in
        record {
          keeps = record {
            number = omega (arith, length-append ps (n ∷ []), before.number);
            below = below_append (length (writes ++ w ∷ [])) ps (n ∷ [])
                (below_more (length seen) (length (writes ++ w ∷ [])) ps
                (omega (arith, prefix_length seen writes p, longer)) before.below)
                (omega (arith, longer), tt);
            owned = ap (list_all (list_all is_owned)) picks
                ∙ (list_all-append (list_all is_owned) (picked ps seen) (w ∷ [])
                ∙ grind (arith, before.owned, all));
          };
          picks = ap actions_of picks ∙ actions_more (picked ps seen) w;
        }

    pub wrote : (may : List (List E) → Type 0) (amount : ℕ) (writes writes' seen seen' : List (List E))
        (ps ps' : List ℕ) (w : List E) → (e : Appended may writes writes' seen seen' ps ps')
        → e.more ≡ w ∷ [] → Matches is_owned amount seen ps → AreOwned is_owned w
        → Wrote amount seen seen' ps ps' w
    wrote may amount writes writes' seen seen' ps ps' w e one before all =
        let s : seen' ≡ writes ++ w ∷ [] = e.saw_all ∙ ap (λ more. writes ++ more) one in
        let q : ps' ≡ ps ++ length writes ∷ [] =
        e.claimed ∙ ap (λ more. ps ++ positions_from (length writes) more) one in
        subst (λ (z : List (List E) × List ℕ). Wrote amount seen z.0 ps z.1 w)
        (λ i. (sym s i, sym q i)) (wrote_here amount seen writes ps w before all e.saw_prefix)

    -- a party after it saw all writes
    pub record Looked (amount : ℕ) (writes writes' seen seen' : List (List E)) (ps ps' : List ℕ)
        : Type 0 where
      pub keeps : Matches is_owned amount seen' ps'
      pub picks : picked ps' seen' ≡ picked ps seen
      pub saw_all : seen' ≡ writes
      pub writes_same : writes' ≡ writes
      pub positions_same : ps' ≡ ps

    looked_here : (amount : ℕ) (writes seen : List (List E)) (ps : List ℕ)
        → Matches is_owned amount seen ps → IsPrefix seen writes
        → Looked amount writes writes seen writes ps ps
    looked_here amount writes seen ps before p =
        let picks = picked_prefix ps seen writes before.below p in
        record {
          keeps = record {
            number = before.number;
            below = below_more (length seen) (length writes) ps (prefix_length seen writes p) before.below;
            owned = ap (list_all (list_all is_owned)) picks ∙ before.owned;
          };
          picks = picks;
          saw_all = refl;
          writes_same = refl;
          positions_same = refl;
        }

    pub looked : (may : List (List E) → Type 0) (amount : ℕ) (writes writes' seen seen' : List (List E))
        (ps ps' : List ℕ) → (e : Appended may writes writes' seen seen' ps ps') → e.more ≡ []
        → Matches is_owned amount seen ps → Looked amount writes writes' seen seen' ps ps'
    looked may amount writes writes' seen seen' ps ps' e nothing before =
        let none : writes ++ e.more ≡ writes = ap (λ more. writes ++ more) nothing ∙ append-nil writes in
        let w : writes' ≡ writes = e.written ∙ none in
        let s : seen' ≡ writes = e.saw_all ∙ none in
        let q : ps' ≡ ps = e.claimed
        ∙ (ap (λ more. ps ++ positions_from (length writes) more) nothing ∙ append-nil ps) in
        subst (λ (z : List (List E) × List (List E) × List ℕ).
        Looked amount writes z.0 seen z.1 ps z.2)
        (λ i. (sym w i, sym s i, sym q i)) (looked_here amount writes seen ps before e.saw_prefix)

    -- whoever has as many positions as there are writes of parties has all actions with an owner
    pub has_all : (amount n : ℕ) (writes seen : List (List E)) (ps : List ℕ)
        → Matches is_owned amount seen ps → IsPrefix seen writes → AreApart ps
        → AreCounted is_owned writes n → amount ≡ n
        → actions_of (picked ps seen) ≡ filter is_owned (actions_of writes)
    has_all amount n writes seen ps before p apart counted same =
        let here = looked_here amount writes seen ps before p in
        let number = picked_length ps writes here.keeps.below apart in
        let all = all_picked (list_all is_owned) 0 ps writes here.keeps.owned
        (number ∙ (here.keeps.number ∙ (same ∙ counted.count))) in
        ap actions_of (sym here.picks) ∙ (ap actions_of all ∙ counted.owned)

    -- two parties after they became one
    pub record Merges (m n : ℕ) (xs ys zs : List (List E)) (ps qs ps' : List ℕ) : Type 0 where
      pub keeps : Matches is_owned (m + n) zs ps'
      pub picks : Interleaving (actions_of (picked ps xs)) (actions_of (picked qs ys))
          (actions_of (picked ps' zs))

    merges_here : (m n : ℕ) (xs ys zs : List (List E)) (ps qs : List ℕ) → AreApart (ps ++ qs)
        → IsPrefix xs zs → IsPrefix ys zs → Matches is_owned m xs ps → Matches is_owned n ys qs
        → Merges m n xs ys zs ps qs (ps ++ qs)
    merges_here m n xs ys zs ps qs apart p q first second =
        let both = interleaved ps qs xs ys zs apart first.below second.below p q in
        let k : ℕ = length zs in
        record {
          keeps = record {
            number = omega (arith, length-append ps qs, first.number, second.number);
            below = below_append k ps qs
                (below_more (length xs) k ps (prefix_length xs zs p) first.below)
                (below_more (length ys) k qs (prefix_length ys zs q) second.below);
            owned = interleaved_pass (list_all is_owned) (picked ps xs) (picked qs ys)
                (picked (ps ++ qs) zs) both first.owned second.owned;
          };
          picks = interleaved_joined (picked ps xs) (picked qs ys) (picked (ps ++ qs) zs) both;
        }

    pub merges : (m n : ℕ) (xs ys zs : List (List E)) (ps qs ps' : List ℕ)
        → Joined xs ys zs ps qs ps' → Matches is_owned m xs ps → Matches is_owned n ys qs
        → Merges m n xs ys zs ps qs ps'
    merges m n xs ys zs ps qs ps' e first second =
        subst (λ list. Merges m n xs ys zs ps qs list) (sym e.claimed)
        (merges_here m n xs ys zs ps qs e.apart e.saw_own e.saw_other first second)

    -- a party without an action
    pub made_nothing : (seen : List (List E)) (ps : List ℕ) → ps ≡ [] → Matches is_owned 0 seen ps
    made_nothing seen ps is = rw is (record {
      number = refl;
      below = tt;
      owned = ap (list_all (list_all is_owned)) (picked_none seen);
    })

  -- no action is at no position
  pub no_actions : (seen : List (List E)) (ps : List ℕ) → ps ≡ [] → actions_of (picked ps seen) ≡ []
  no_actions seen ps is = ap (λ list. actions_of (picked list seen)) is
      ∙ ap actions_of (picked_none seen)

  -- with an owner of each action, all have one
  pub filter_all : (actions : List E) → filter (λ action. true) actions ≡ actions
  filter_all [] = refl
  filter_all (x ∷ actions) = ap (λ list. x ∷ list) (filter_all actions)
