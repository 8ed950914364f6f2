-- Sums over the lists of parties.
use Rattle.std.proofs.Common.{◌≡◌, ℕ, ◌+◌, List, [], ◌∷◌, ap, sym, ◌∙◌, arith}
use Rattle.std.proofs.lemmas.List.Sums.{sum_by-cons}
use Rattle.std.specs.List.{sum_by}
use Rattle.flume_party.specs.Interleavings.{Interleaving, End, Left, Right}
use Rattle.flume_laws.specs.Together.{Interleaved, AreExchanged, sum_over_all}

module _ {X : Type 0} (weight : X → ℕ) where
  -- the sum over an interleaving is that over both lists
  sum_merged : (xs ys zs : List X) → Interleaving xs ys zs
      → sum_by weight zs ≡ sum_by weight xs + sum_by weight ys
  sum_merged _ _ _ End = omega arith
  sum_merged _ _ _ (Left {x = x} {xs = xs} {ys = ys} {zs = zs} rest) = omega (
    arith,
    sum_by-cons weight x xs,
    sum_by-cons weight x zs,
    sum_merged xs ys zs rest,
  )
  sum_merged _ _ _ (Right {y = y} {xs = xs} {ys = ys} {zs = zs} rest) = omega (
    arith,
    sum_by-cons weight y ys,
    sum_by-cons weight y zs,
    sum_merged xs ys zs rest,
  )

  -- the sum over all lists is that over the line that they are merged to
  sum_of_line : (lists : List (List X)) (line : List X) → Interleaved lists line
      → sum_by weight line ≡ sum_over_all weight lists
  sum_of_line [] line none = ap (sum_by weight) none
  sum_of_line (xs ∷ lists) line merged = omega (
    arith,
    sum_by-cons (sum_by weight) xs lists,
    sum_merged xs merged.0 line merged.2,
    sum_of_line lists merged.0 merged.1,
  )

  pub same_sum : (sents gots : List (List X)) → AreExchanged sents gots
      → sum_over_all weight sents ≡ sum_over_all weight gots
  same_sum sents gots all =
      sym (sum_of_line sents all.0 all.1) ∙ sum_of_line gots all.0 all.2
