-- Rows along a ledger's chain: a holder's row is met there, and gets more. Assumes `Logic`.
use Rattle.std.proofs.Common.{◌≡◌, ℕ, zero, suc, ◌+◌, ◌<◌, List, [], ◌∷◌, refl, subst}
use seplogic.Ra.Ura.{Ura}
use base.Logic.{SProp, ent, sep, upd, upd_i}
use base.Stored.{Gv, Coded, gnil, gnum, gcons, coded×, coded_ℕ}
use base.Fml.{Fml, fex, fobs, fauth, fres}
use types.Logic.{Logic, sem}
use types.Kit.{Item, Goal, Seq, Step, step, mean, ‵, raw, ◌⊛◌, some, given}
use types.Kit.{◌$◌, ◌∵◌, !, qed, done, move, pick, split, learn, rewrite, check, show, suffices}
use types.Kit.{use2, settle, fsplit, fsplit3, fjoin, fjoin3, fpick, fpack}
use types.Tokens.{res_agree, name_agree}
use Rattle.std.specs.Sync.Ledger.{pair, cell, chain, past, row}
use Rattle.flume_audit.proofs.tally.SumLemmas.{raised, Outweighs, first_raised, rest_raised}

-- two numbers with the same value are the same
pair_one_to_one : (x y : ℕ × ℕ) → pair x ≡ pair y → x ≡ y
unfolding pair
pair_one_to_one = (coded× coded_ℕ coded_ℕ).inj

-- two numbers, as the value that a name follows
abbrev coded_pair : Coded (ℕ × ℕ)
coded_pair = record { code = pair; inj = pair_one_to_one }

-- the value is that of two numbers
abbrev IsTwo : Gv → Type 0
IsTwo gnil = ⊥
IsTwo (gnum n) = ⊥
IsTwo (gcons a b) = Unit {0}

-- two numbers are a value other than that of an open cell
pair_not_open : (x : ℕ × ℕ) → pair x ≡ gnil → ⊥
unfolding pair
pair_not_open x same = subst IsTwo same tt

module _ {M : Type 1} {𝓤 : Ura M} {𝓛 : Logic 𝓤} {K : Type 0}
    {Γ : List (Item 𝓤)} {G : Goal 𝓤 𝓛.H} where
  -- the cell γ is taken apart: its two halves, the row that it names and the rest
  cell_apart : K → (γ : ℕ) (x : ℕ × ℕ) (rest : ℕ → Fml)
      → ((c : ℕ × ℕ) → Seq K 𝓛 (‵ (fauth γ (pair c)) ∷ ‵ (fres γ (pair c))
      ∷ ‵ (fauth c.0 (pair x)) ∷ ‵ (rest c.1) ∷ Γ) G)
      → Seq K 𝓛 (‵ (fex (ℕ × ℕ) (cell γ x rest)) ∷ Γ) G
  cell_apart t γ x rest next = fpick t (λ c.
      fsplit3 t $ move t (2 ∷ []) $ fsplit t $ move t (2 ∷ 3 ∷ []) $ next c)

  -- the cell γ is put together again
  cell_whole : K → (γ : ℕ) (x : ℕ × ℕ) (rest : ℕ → Fml) (c : ℕ × ℕ)
      → Step K 𝓛 (‵ (fex (ℕ × ℕ) (cell γ x rest)) ∷ Γ) G
      (‵ (fauth γ (pair c)) ∷ ‵ (fres γ (pair c)) ∷ ‵ (fauth c.0 (pair x)) ∷ ‵ (rest c.1) ∷ Γ) G
  cell_whole t γ x rest c = step (λ s. move t (2 ∷ 3 ∷ []) $ fjoin t $ move t (1 ∷ 2 ∷ 0 ∷ []) $
      fjoin3 t $ fpack t (ℕ × ℕ) (cell γ x rest) c $ s)

  -- what a holder knows past the cell γ is known of what that cell names
  cell_met : K → (γ : ℕ) (known : ℕ × ℕ → Fml) (c : ℕ × ℕ)
      → Step K 𝓛 (‵ (fauth γ (pair c)) ∷ ‵ (fres γ (pair c)) ∷ ‵ (known c) ∷ Γ) G
      (‵ (fauth γ (pair c)) ∷ ‵ (fex (ℕ × ℕ) (past γ known)) ∷ Γ) G
  cell_met t γ known c = step (λ s. move t (1 ∷ []) $ fpick t (λ d.
      fsplit t $ move t (0 ∷ 2 ∷ []) $ res_agree t coded_pair (λ same.
      rewrite t 0 (λ (u : ℕ × ℕ). ‵ (fres γ (pair u))) same refl $
      rewrite t 2 (λ (u : ℕ × ℕ). ‵ (known u)) same refl $ move t (1 ∷ 0 ∷ []) $ s)))

  -- the holder's part of a row that is past the cell γ
  row_whole : K → (γ : ℕ) (known : ℕ × ℕ → Fml) (c : ℕ × ℕ)
      → Step K 𝓛 (‵ (fex (ℕ × ℕ) (past γ known)) ∷ Γ) G
      (‵ (fres γ (pair c)) ∷ ‵ (known c) ∷ Γ) G
  row_whole t γ known c = step (λ s. fjoin t $ fpack t (ℕ × ℕ) (past γ known) c $ s)

module _ {M : Type 1} {𝓤 : Ura M} (𝓛 : Logic 𝓤) where
  open 𝓛 use {A}

  abbrev ⟦◌⟧ : Fml → SProp 𝓤
  ⟦ P ⟧ = sem 𝓛 P

  abbrev ◌∗◌ : SProp 𝓤 → SProp 𝓤 → SProp 𝓤
  P ∗ Q = sep 𝓤 P Q

  abbrev ◌⊢◌ : SProp 𝓤 → SProp 𝓤 → Type 1
  P ⊢ Q = ent 𝓤 P Q

  infix 26 ◌⊢◌
  infixr 35 ◌∗◌
  -- no row is past an open cell
  none_past_open : (γ : ℕ) (known : ℕ × ℕ → Fml) (Z : SProp 𝓤)
      → ⟦ chain [] γ ⟧ ∗ ⟦ fex (ℕ × ℕ) (past γ known) ⟧ ⊢ Z
  none_past_open γ known Z =
      qed 𝓛 (‵ (chain [] γ) ∷ ‵ (fex (ℕ × ℕ) (past γ known)) ∷ []) ∵
      fsplit ! $ move ! (2 ∷ []) $ fpick ! (λ c. fsplit ! $ move ! (0 ∷ 3 ∷ []) $
      use2 𝓛 (given (pair c ≡ gnil) (‵ (fres γ (pair c)) ⊛ ‵ (fauth γ gnil)))
      (𝓛.names.res_agree γ (pair c) gnil) $
      learn ! (λ same. absurd (pair_not_open c same)))

  -- the rows became these, and row i is the one that has more
  abbrev pub Grown : ℕ → List (ℕ × ℕ) → ℕ → ℕ × ℕ → ℕ → List (ℕ × ℕ) → Item 𝓤
  Grown weight rows i x γ later =
      given (Outweighs weight rows later) (‵ (chain later γ) ⊛ ‵ (row i (raised weight x) γ))

  -- some rows have become so
  abbrev pub SomeGrown : ℕ → List (ℕ × ℕ) → ℕ → ℕ × ℕ → ℕ → SProp 𝓤
  SomeGrown weight rows i x γ = mean 𝓛 (some (Grown weight rows i x γ))

  -- the holder of row i, which has a part, gives it more
  pub row_grows : (weight : ℕ) (rows : List (ℕ × ℕ)) (i : ℕ) (x : ℕ × ℕ) (γ : ℕ) → 0 < x.0
      → ⟦ chain rows γ ⟧ ∗ ⟦ row i x γ ⟧ ⊢ upd 𝓤 (SomeGrown weight rows i x γ)
  row_grows weight [] zero x γ has_part = none_past_open γ (λ c. fobs c.0 (pair x)) _
  row_grows weight [] (suc i) x γ has_part = none_past_open γ (λ c. row i x c.1) _
  row_grows weight (z ∷ rows) zero x γ has_part =
      let y : ℕ × ℕ = raised weight x in
      let Z : SProp 𝓤 = SomeGrown weight (z ∷ rows) zero x γ in
      qed 𝓛 (‵ (chain (z ∷ rows) γ) ∷ ‵ (row zero x γ) ∷ []) ∵
      cell_apart ! γ z (chain rows) (λ c. move ! (0 ∷ 4 ∷ []) $
      cell_met ! γ (λ d. fobs d.0 (pair x)) c $ move ! (2 ∷ 4 ∷ []) $
      name_agree ! coded_pair (λ same.
      use2 𝓛 (raw (upd 𝓤 (A.obs c.0 (pair y) ∗ A.auth c.0 (pair y))))
      (𝓛.names.name_set_upd c.0 (pair x) (pair z) (pair y)) $
      settle 𝓛 Z (‵ (fobs c.0 (pair y)) ⊛ ‵ (fauth c.0 (pair y))) $ split ! $
      suffices ! Z (upd_i 𝓤 Z) $
      show ! (λ later. mean 𝓛 (Grown weight (z ∷ rows) zero x γ later)) (y ∷ rows) $
      check ! (first_raised weight x z rows has_part same) $
      move ! (3 ∷ 0 ∷ []) $ row_whole ! γ (λ d. fobs d.0 (pair y)) c $
      move ! (2 ∷ 3 ∷ 1 ∷ 4 ∷ []) $ cell_whole ! γ y (chain rows) c $ done !))
  row_grows weight (z ∷ rows) (suc i) x γ has_part =
      let y : ℕ × ℕ = raised weight x in
      let Z : SProp 𝓤 = SomeGrown weight (z ∷ rows) (suc i) x γ in
      qed 𝓛 (‵ (chain (z ∷ rows) γ) ∷ ‵ (row (suc i) x γ) ∷ []) ∵
      cell_apart ! γ z (chain rows) (λ c. move ! (0 ∷ 4 ∷ []) $
      cell_met ! γ (λ d. row i x d.1) c $ move ! (5 ∷ 2 ∷ []) $
      use2 𝓛 (raw (upd 𝓤 (SomeGrown weight rows i x c.1)))
      (row_grows weight rows i x c.1 has_part) $
      settle 𝓛 Z (some (Grown weight rows i x c.1)) $ pick ! (λ later. learn ! (λ more. split ! $
      suffices ! Z (upd_i 𝓤 Z) $
      show ! (λ after. mean 𝓛 (Grown weight (z ∷ rows) (suc i) x γ after)) (z ∷ later) $
      check ! (rest_raised weight z rows later more) $
      move ! (3 ∷ 1 ∷ []) $ row_whole ! γ (λ d. row i y d.1) c $
      move ! (2 ∷ 3 ∷ 4 ∷ 1 ∷ []) $ cell_whole ! γ z (chain later) c $ done !)))

  -- the book's row, which says `total`, and the share's row i have more, and so have the rows
  abbrev pub BothGrown : ℕ → ℕ → ℕ → List (ℕ × ℕ) → ℕ → ℕ × ℕ → ℕ → List (ℕ × ℕ) → Item 𝓤
  BothGrown weight old total rows i x γ later =
      given ((total ≡ old) × Outweighs weight rows later)
      (‵ (chain ((0, total + weight) ∷ later) γ) ⊛ ‵ (row zero (0, total + weight) γ)
      ⊛ ‵ (row (suc i) (raised weight x) γ))

  -- some rows have become so
  abbrev pub SomeBothGrown : ℕ → ℕ → ℕ → List (ℕ × ℕ) → ℕ → ℕ × ℕ → ℕ → SProp 𝓤
  SomeBothGrown weight old total rows i x γ =
      mean 𝓛 (some (BothGrown weight old total rows i x γ))

  -- the holder of the book's row and of a share's row, which has a part, gives both the same
  pub both_grow : (weight old total : ℕ) (rows : List (ℕ × ℕ)) (i : ℕ) (x : ℕ × ℕ) (γ : ℕ) → 0 < x.0
      → ⟦ chain ((0, old) ∷ rows) γ ⟧ ∗ ⟦ row zero (0, total) γ ⟧ ∗ ⟦ row (suc i) x γ ⟧
      ⊢ upd 𝓤 (SomeBothGrown weight old total rows i x γ)
  both_grow weight old total rows i x γ has_part =
      let y : ℕ × ℕ = raised weight x in
      let now : ℕ × ℕ = (0, total + weight) in
      let Z : SProp 𝓤 = SomeBothGrown weight old total rows i x γ in
      qed 𝓛 (‵ (chain ((0, old) ∷ rows) γ) ∷ ‵ (row zero (0, total) γ) ∷ ‵ (row (suc i) x γ) ∷ []) ∵
      cell_apart ! γ (0, old) (chain rows) (λ c. move ! (0 ∷ 4 ∷ []) $
      cell_met ! γ (λ d. fobs d.0 (pair (0, total))) c $ move ! (0 ∷ 6 ∷ []) $
      cell_met ! γ (λ d. row i x d.1) c $
      move ! (4 ∷ 6 ∷ []) $ name_agree ! coded_pair (λ same.
      use2 𝓛 (raw (upd 𝓤 (A.obs c.0 (pair now) ∗ A.auth c.0 (pair now))))
      (𝓛.names.name_set_upd c.0 (pair (0, total)) (pair (0, old)) (pair now)) $
      settle 𝓛 Z (‵ (fobs c.0 (pair now)) ⊛ ‵ (fauth c.0 (pair now))) $ split ! $
      move ! (7 ∷ 4 ∷ []) $
      use2 𝓛 (raw (upd 𝓤 (SomeGrown weight rows i x c.1)))
      (row_grows weight rows i x c.1 has_part) $
      settle 𝓛 Z (some (Grown weight rows i x c.1)) $ pick ! (λ later. learn ! (λ more. split ! $
      suffices ! Z (upd_i 𝓤 Z) $
      show ! (λ after. mean 𝓛 (BothGrown weight old total rows i x γ after)) later $
      check ! ((λ j. (same j).1), more) $
      move ! (5 ∷ 1 ∷ []) $ row_whole ! γ (λ d. row i y d.1) c $
      move ! (5 ∷ 2 ∷ []) $ row_whole ! γ (λ d. fobs d.0 (pair now)) c $
      move ! (4 ∷ 5 ∷ 3 ∷ 2 ∷ []) $ cell_whole ! γ now (chain later) c $ done !))))
