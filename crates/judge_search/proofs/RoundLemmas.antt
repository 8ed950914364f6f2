-- If a wake round ends at a receive, those behind it stay as they are.
use Rattle.std.proofs.Common.{◌≡◌, ℕ, ◌<◌, ◌++◌, Bool, true, false, List, [], ◌∷◌, length, take, drop, refl, sym, ◌∙◌, ap}
use Rattle.std.proofs.Common.{set, suc, ◌⊎◌, inl, inr}
use Rattle.flume_model.specs.declared.step.Kind.TheVariants.{Block, Plain, Arm}
use Rattle.judge_search.specs.declared.configuration.Status.TheVariants.{Woken, Filled}
use Rattle.std.proofs.lemmas.List.{set_split}
use Rattle.judge_search.specs.declared.configuration.ParkedReceive.{ParkedReceive}
use Rattle.judge_search.specs.Receives.{waits, round_of}

-- a wake round that changes one receive and goes no further
pub ends_here : (front i : ℕ) (cur all : List ParkedReceive) (new r : ParkedReceive) → i < length cur
    → round_of front all ≡ take i cur ++ round_of front (drop i cur) → drop i cur ≡ r ∷ drop (suc i) cur
    → round_of front (r ∷ drop (suc i) cur) ≡ new ∷ drop (suc i) cur → set cur i new ≡ round_of front all
ends_here front i cur all new r lt is at met =
    set_split cur i new lt ∙ ap (λ l. take i cur ++ l) (sym (ap (round_of front) at ∙ met)) ∙ sym is

-- a waiting receive that blocks is filled
pub meets_block : (front : ℕ) (r : ParkedReceive) (rs : List ParkedReceive) → waits r.status ≡ true → r.kind ≡ Block
    → round_of front (r ∷ rs) ≡ record { place = r.place; kind = r.kind; status = Filled front } ∷ rs
meets_block front r rs waiting kind = simp (waiting, kind) refl

-- one that is neither a stream nor blocks is woken
pub meets_plain : (front : ℕ) (r : ParkedReceive) (rs : List ParkedReceive) → waits r.status ≡ true
    → (r.kind ≡ Plain) ⊎ (r.kind ≡ Arm)
    → round_of front (r ∷ rs) ≡ record { place = r.place; kind = r.kind; status = Woken } ∷ rs
meets_plain front r rs waiting (inl kind) = simp (waiting, kind) refl
meets_plain front r rs waiting (inr kind) = simp (waiting, kind) refl
