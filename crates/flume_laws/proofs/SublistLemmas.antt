-- Some elements of a list, in its order.
use Rattle.std.proofs.Common.{List, [], ◌∷◌, ◌++◌}
use Rattle.std.specs.List.{flat_map}
use Rattle.flume_party.specs.Interleavings.{Interleaving, End, Left, Right}
use Rattle.flume_party.proofs.InterleavingLemmas.{interleaved_swap}
use Rattle.flume_laws.specs.Offered.{IsSublist}
use Rattle.flume_laws.proofs.JoinLemmas.{only_right, one_behind, right_first}

module _ {X : Type 0} where
  -- none of them
  pub none_of : (xs : List X) → IsSublist [] xs
  none_of xs = (xs, only_right xs)

  -- those in front
  pub front_of : (xs ys : List X) → IsSublist xs (xs ++ ys)
  front_of xs ys = (ys, one_behind xs ys)

  -- all of them
  pub all_of : (xs : List X) → IsSublist xs xs
  all_of xs = ([], interleaved_swap [] xs xs (only_right xs))

  -- some of some
  pub some_of_some : {xs ys zs : List X} → IsSublist xs ys → IsSublist ys zs → IsSublist xs zs
  some_of_some few some =
      let merged = right_first _ few.0 _ some.0 _ few.1 some.1 in (merged.0, merged.2)

  -- of two lists, one behind the other
  pub some_of_both : {xs ys xs' ys' : List X} → IsSublist xs ys → IsSublist xs' ys'
      → IsSublist (xs ++ xs') (ys ++ ys')
  some_of_both {xs' = xs'} {ys' = ys'} some others =
      (some.0 ++ others.0, merged some.1)
    where
      merged : {xs rest ys : List X} → Interleaving xs rest ys
          → Interleaving (xs ++ xs') (rest ++ others.0) (ys ++ ys')
      merged End = others.1
      merged (Left more) = Left (merged more)
      merged (Right more) = Right (merged more)

-- of what each element makes
pub some_of_each : {X Y : Type 0} (f g : X → List Y) → ((x : X) → IsSublist (f x) (g x))
    → (xs : List X) → IsSublist (flat_map f xs) (flat_map g xs)
some_of_each f g each [] = none_of []
some_of_each f g each (x ∷ xs) = some_of_both (each x) (some_of_each f g each xs)
