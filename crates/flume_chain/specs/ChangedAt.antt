-- For every contract of a chain: its elements with one of them changed.
use Rattle.std.specs.Prelude.{ℕ, ◌==◌, List, [], ◌∷◌, if◌then◌else◌}
use Rattle.flume_chain.specs.declared.labelled.LabelledValue.{LabelledValue}
use Rattle.flume_chain.specs.Links.{with_new_value, with_new_label}
use Rattle.flume_chain.specs.ChainState.{ChainItem}

module _ {E : Type 0} where
  -- the elements with f of that at a place
  abbrev pub changed_at : (E → E) → ℕ → List (ChainItem E) → List (ChainItem E)
  changed_at f k [] = []
  changed_at f k (x ∷ xs) =
      (if k == x.place then record x { element = f x.element } else x) ∷ changed_at f k xs

module _ {L E : Type 0} where
  -- the elements with another value at a place where there is one
  abbrev pub with_value_at : ℕ → List (ChainItem (LabelledValue L E)) → E
      → List (ChainItem (LabelledValue L E))
  with_value_at k items v = changed_at (with_new_value v) k items

  -- the elements with another label at a place where there is one
  abbrev pub with_label_at : ℕ → List (ChainItem (LabelledValue L E)) → L
      → List (ChainItem (LabelledValue L E))
  with_label_at k items l = changed_at (with_new_label l) k items
