-- The tickets of positions: no two are of one position, and new ones come from those left. Assumes
-- `Logic`.
use Rattle.std.proofs.Common.{◌≡◌, ℕ, suc, ◌+◌, ◌<◌, ◌==◌, Bool, true, false, List, [], ◌∷◌}
use Rattle.std.proofs.Common.{◌++◌, length, refl, arith}
use Rattle.std.proofs.lemmas.Bool.Decides.{nat_tests}
use seplogic.Ra.Ura.{Ura}
use base.Logic.{SProp, ent, sep, guard, never, guard_i, never_e, snd∗}
use base.Fml.{Fml}
use types.Logic.{Logic, sem}
use types.Keyed.{token, ticket, tickets_from, ticket_once, ticket_issued, entries_take}
use types.Kit.{‵, raw, ◌⊛◌, given, ◌$◌, ◌∵◌, !, qed, by, move, drop, split, fjoin, learn, check}
use types.Kit.{frame, done, use1, use2, rewrite}
use denote.Steps.{nothing}
use Rattle.flume_trace.specs.Positions.{is_among, AreApart, AreBelow, positions_from}
use Rattle.flume_trace.specs.Tokens.{tickets_of}

module _ {M : Type 1} {𝓤 : Ura M} (𝓛 : Logic 𝓤) (δ : ℕ) where
  abbrev ◌⊢◌ : SProp 𝓤 → SProp 𝓤 → Type 1
  P ⊢ Q = ent 𝓤 P Q

  abbrev ◌∗◌ : SProp 𝓤 → SProp 𝓤 → SProp 𝓤
  P ∗ Q = sep 𝓤 P Q

  abbrev ⟦◌⟧ : Fml → SProp 𝓤
  ⟦ P ⟧ = sem 𝓛 P

  infix 26 ◌⊢◌
  infixr 35 ◌∗◌
  -- the ticket of one position
  abbrev One : ℕ → Fml
  One p = ticket δ p

  -- the tickets of some
  abbrev Some : List ℕ → Fml
  Some ps = tickets_of δ ps

  -- the tickets of all positions from n on
  abbrev From : ℕ → Fml
  From n = tickets_from δ n

  -- whoever has the ticket of p beside those of qs sees that p isn't one of them
  abbrev IsNew : ℕ → List ℕ → Type 1
  IsNew p qs = ⟦ One p ⟧ ∗ ⟦ Some qs ⟧
      ⊢ guard 𝓤 (is_among p qs ≡ false) (⟦ One p ⟧ ∗ ⟦ Some qs ⟧)

  new_at : (p q : ℕ) (qs : List ℕ) (b : Bool) → (q == p) ≡ b → IsNew p qs → IsNew p (q ∷ qs)
  new_at p q qs true same rest =
      let is : q ≡ p = grind (arith, nat_tests) in
      qed 𝓛 (‵ (One p) ∷ ‵ (One q) ∷ ‵ (Some qs) ∷ []) ∵
      rewrite ! 1 (λ (m : ℕ). ‵ (One m)) is refl $
      use2 𝓛 (raw (never 𝓤)) (ticket_once 𝓛 δ p) $ move ! (1 ∷ []) $ drop ! $ by ! (never_e 𝓤 _)
  new_at p q qs false other rest =
      qed 𝓛 (‵ (One p) ∷ ‵ (One q) ∷ ‵ (Some qs) ∷ []) ∵ move ! (0 ∷ 2 ∷ []) $
      use2 𝓛 (given (is_among p qs ≡ false) (‵ (One p) ⊛ ‵ (Some qs))) rest $
      learn ! (λ new. split ! $ check ! (rw (other, new) refl) $
      frame ! $ move ! (1 ∷ 0 ∷ []) $ fjoin ! $ done !)

  is_new : (p : ℕ) (qs : List ℕ) → IsNew p qs
  is_new p [] = guard_i 𝓤 _ _ refl
  is_new p (q ∷ qs) = new_at p q qs (q == p) refl (is_new p qs)

  -- no two tickets are of one position
  pub are_apart : (ps : List ℕ) → ⟦ Some ps ⟧ ⊢ guard 𝓤 (AreApart ps) ⟦ Some ps ⟧
  are_apart [] = guard_i 𝓤 _ _ tt
  are_apart (p ∷ ps) = qed 𝓛 (‵ (One p) ∷ ‵ (Some ps) ∷ []) ∵ move ! (1 ∷ []) $
      use1 𝓛 (given (AreApart ps) (‵ (Some ps))) (are_apart ps) $
      learn ! (λ rest. move ! (1 ∷ 0 ∷ []) $
      use2 𝓛 (given (is_among p ps ≡ false) (‵ (One p) ⊛ ‵ (Some ps))) (is_new p ps) $
      learn ! (λ new. split ! $ check ! (new, rest) $ fjoin ! $ done !))

  -- no ticket is of a position that isn't taken yet
  pub are_below : (n : ℕ) (ps : List ℕ)
      → ⟦ Some ps ⟧ ∗ ⟦ From n ⟧ ⊢ guard 𝓤 (AreBelow n ps) (⟦ Some ps ⟧ ∗ ⟦ From n ⟧)
  are_below n [] = guard_i 𝓤 _ _ tt
  are_below n (p ∷ ps) =
      qed 𝓛 ((‵ (One p) ⊛ ‵ (Some ps)) ∷ ‵ (From n) ∷ []) ∵ split ! $ move ! (0 ∷ 2 ∷ []) $
      use2 𝓛 (given (p < n) (‵ (One p) ⊛ ‵ (From n))) (ticket_issued 𝓛 δ n p) $
      learn ! (λ below. split ! $ move ! (2 ∷ 1 ∷ []) $
      use2 𝓛 (given (AreBelow n ps) (‵ (Some ps) ⊛ ‵ (From n))) (are_below n ps) $
      learn ! (λ rest. split ! $ move ! (2 ∷ 0 ∷ []) $
      check ! (below, rest) $ fjoin ! $ frame ! $ done !))

  -- a ticket for each element of a list, and those that are left
  pub are_taken : {X : Type 0} (n m : ℕ) (xs : List X) → m ≡ n + length xs
      → ⟦ From n ⟧ ⊢ ⟦ Some (positions_from n xs) ⟧ ∗ ⟦ From m ⟧
  are_taken n m [] is =
      let same : n ≡ m = omega arith in
      qed 𝓛 (‵ (From n) ∷ []) ∵ rewrite ! 0 (λ (k : ℕ). ‵ (From k)) same refl $
      nothing ! $ frame ! $ done !
  are_taken n m (x ∷ xs) is = qed 𝓛 (‵ (From n) ∷ []) ∵
      use1 𝓛 (‵ (One n) ⊛ ‵ (From (suc n))) (entries_take token 𝓛 δ n (λ _. tt)) $
      split ! $ move ! (1 ∷ []) $
      use1 𝓛 (‵ (Some (positions_from (suc n) xs)) ⊛ ‵ (From m))
      (are_taken (suc n) m xs (omega arith)) $
      split ! $ move ! (2 ∷ 0 ∷ []) $ fjoin ! $ frame ! $ done !

  -- the tickets of two lists are those of both
  pub are_joined : (ps qs : List ℕ) → ⟦ Some ps ⟧ ∗ ⟦ Some qs ⟧ ⊢ ⟦ Some (ps ++ qs) ⟧
  are_joined [] qs = snd∗ 𝓤 ⟦ Some [] ⟧ ⟦ Some qs ⟧
  are_joined (p ∷ ps) qs =
      qed 𝓛 ((‵ (One p) ⊛ ‵ (Some ps)) ∷ ‵ (Some qs) ∷ []) ∵ split ! $ move ! (1 ∷ 2 ∷ []) $
      use2 𝓛 (‵ (Some (ps ++ qs))) (are_joined ps qs) $ move ! (1 ∷ 0 ∷ []) $ fjoin ! $ done !
