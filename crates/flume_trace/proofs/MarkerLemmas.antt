-- The machine value of a struct that is one marker.
use Rattle.std.proofs.Common.{◌≡◌, List, [], ◌∷◌, ◌++◌, refl, ap, ◌∙◌}
use mir.Val.{Val, vstruct, vcons, vnil, of_list}
use denote.RattleType.{RattleType}
use denote.Laws.{Is}
use denote.Shadow.{Pure, shadow}
use denote.Struct.Struct.{Struct}
use Rattle.std.specs.contracts.marker.PhantomData as marker

-- the value of the marker alone
abbrev bare : Val
bare = vstruct vnil

-- the value of the struct
abbrev pub mark : Val
mark = vstruct (vcons bare vnil)

module _ (X : RattleType) where
  -- what such a struct is, without its ghost fields
  abbrev pub Marker : RattleType
  Marker = Struct record { name = []; args = []; types = []; fields = marker.the_row X ∷ [] }

  -- it has no other value
  pub is_mark : (vs : List Val) → Is Marker (record {}, tt) vs → vs ≡ mark ∷ []
  is_mark vs is =
      let inner : is.0.0 ≡ bare ∷ [] = is.1.1.0.1.0 in
      is.1.0 ∙ ap (λ (ws : List Val). vstruct (of_list (ws ++ [])) ∷ []) inner

  -- it owns no memory
  pub mark_pure : Pure (Marker.own_val (record {}, tt) (mark ∷ []))
  mark_pure = λ vss. (tt, ((λ uss. (tt, tt)), tt))

  -- and it is one
  pub mark_shadow : shadow (Marker.own_val (record {}, tt) (mark ∷ []))
  mark_shadow = ((bare ∷ [], tt), (refl, ((tt, (refl, tt)), tt)))
