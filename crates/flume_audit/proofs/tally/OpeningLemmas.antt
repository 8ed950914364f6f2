-- A ledger's invariant is opened, and its book and a share get the same weight. Assumes `Logic`.
use Rattle.std.proofs.Common.{ℕ, zero, suc, ◌+◌, ◌<◌, List, [], ◌∷◌}
use seplogic.Ra.Ura.{Ura}
use base.Logic.{SProp, ent, sep, upd, upd_i}
use base.Fml.{Fml, ftrue, finv}
use types.Logic.{Logic, sem}
use types.Kit.{‵, raw, ◌⊛◌, some, later, ◌$◌, ◌∵◌, !, qed, done, move, drop, pick, split, learn}
use types.Kit.{use1, use3, settle, fsplit, fjoin, fpick, fpack, suffices, frame, assume, await}
use types.Kit.{updating, now}
use denote.Steps.{nothing}
use Rattle.std.specs.Sync.Ledger.{chain, row, IsBalanced, state, Rule, book_owns, share_owns}
use Rattle.flume_audit.proofs.tally.SumLemmas.{raised, raised_balanced}
use Rattle.flume_audit.proofs.tally.RowLemmas.{BothGrown, SomeBothGrown, both_grow}

module _ {M : Type 1} {𝓤 : Ura M} (𝓛 : Logic 𝓤) (γ parts : ℕ) where
  open 𝓛 use {H}

  abbrev ⟦◌⟧ : Fml → SProp 𝓤
  ⟦ P ⟧ = sem 𝓛 P

  abbrev ◌∗◌ : SProp 𝓤 → SProp 𝓤 → SProp 𝓤
  P ∗ Q = sep 𝓤 P Q

  abbrev ◌⊢◌ : SProp 𝓤 → SProp 𝓤 → Type 1
  P ⊢ Q = ent 𝓤 P Q

  infix 26 ◌⊢◌
  infixr 35 ◌∗◌
  -- what every token of the ledger knows of it
  abbrev kept : Fml
  kept = Rule γ parts

  -- rows in balance are what the invariant wants
  balanced_kept : (total : ℕ) (rows : List (ℕ × ℕ)) → IsBalanced parts (total, rows)
      → ⟦ chain ((0, total) ∷ rows) γ ⟧ ⊢ ⟦ kept ⟧
  balanced_kept total rows balanced = qed 𝓛 (‵ (chain ((0, total) ∷ rows) γ) ∷ []) ∵
      nothing ! $ fpack ! (IsBalanced parts (total, rows)) (λ _. ftrue) balanced $
      move ! (1 ∷ 0 ∷ []) $ fjoin ! $
      fpack ! (ℕ × List (ℕ × ℕ)) (state γ parts) (total, rows) $ done !

  -- the book's row and the share's row i, once both have more
  abbrev Raised : ℕ → ℕ → ℕ → ℕ × ℕ → SProp 𝓤
  Raised weight total i x =
      ⟦ row zero (0, total + weight) γ ⟧ ∗ ⟦ row (suc i) (raised weight x) γ ⟧

  -- within one opening of the invariant both rows get more
  rows_raised : (weight total i : ℕ) (x : ℕ × ℕ) → 0 < x.0
      → ⟦ finv kept ⟧ ∗ ⟦ row zero (0, total) γ ⟧ ∗ ⟦ row (suc i) x γ ⟧
      ⊢ H.⇛ (Raised weight total i x)
  rows_raised weight total i x has_part =
      let Q : SProp 𝓤 = Raised weight total i x in
      let Z : SProp 𝓤 = ⟦ kept ⟧ ∗ Q in
      qed 𝓛 (‵ (finv kept) ∷ ‵ (row zero (0, total) γ) ∷ ‵ (row (suc i) x γ) ∷ []) ∵
      suffices ! _ (𝓛.invs.inv_acc kept Q) $ frame ! $ assume ! (‵ kept) $
      fpick ! (λ s. fsplit ! $ move ! (1 ∷ []) $ fpick ! (λ balanced. drop ! $
      use3 𝓛 (raw (upd 𝓤 (SomeBothGrown 𝓛 weight s.0 total s.1 i x γ)))
      (both_grow 𝓛 weight s.0 total s.1 i x γ has_part) $
      settle 𝓛 Z (some (BothGrown 𝓛 weight s.0 total s.1 i x γ)) $
      pick ! (λ rows. learn ! (λ more. split ! $
      use1 𝓛 (‵ kept) (balanced_kept (total + weight) rows
      (raised_balanced weight parts s.0 total s.1 rows more.0 more.1 balanced)) $
      suffices ! Z (upd_i 𝓤 Z) $ frame ! $ done !))))

  -- a book and a share with a part, both of this ledger, get the same weight
  pub tokens_raised : (weight total : ℕ) (x : ℕ × ℕ) → 0 < x.0
      → ⟦ book_owns γ parts total ⟧ ∗ ⟦ share_owns γ parts x.0 x.1 ⟧
      ⊢ H.⇛ (⟦ book_owns γ parts (total + weight) ⟧ ∗ ⟦ share_owns γ parts x.0 (x.1 + weight) ⟧)
  unfolding book_owns share_owns
  tokens_raised weight total x has_part =
      let y : ℕ × ℕ = raised weight x in
      qed 𝓛 (‵ (book_owns γ parts total) ∷ ‵ (share_owns γ parts x.0 x.1) ∷ []) ∵ updating ! $
      fsplit ! $ move ! (2 ∷ []) $ fsplit ! $ move ! (1 ∷ []) $ fpick ! (λ i. move ! (1 ∷ []) $
      use1 𝓛 (‵ (finv kept) ⊛ ‵ (finv kept)) (𝓛.invs.inv_dup kept) $ split ! $
      move ! (0 ∷ 4 ∷ 2 ∷ []) $
      use3 𝓛 (later (‵ (row zero (0, total + weight) γ) ⊛ ‵ (row (suc i) y γ)))
      (rows_raised weight total i x has_part) $
      await ! tt $ split ! $ now ! $ move ! (2 ∷ 0 ∷ []) $ fjoin ! $ frame ! $
      fpack ! ℕ (λ j. row (suc j) y γ) i $ move ! (1 ∷ 0 ∷ []) $ fjoin ! $ done !)
