-- Lists that are merged of merged ones.
use Rattle.std.proofs.Common.{List, [], ◌∷◌, ◌++◌, sym, subst}
use Rattle.flume_party.specs.Interleavings.{Interleaving, End, Left, Right}
use Rattle.flume_party.proofs.InterleavingLemmas.{interleaved_alone, interleaved_swap}
use Rattle.flume_actions.specs.Actions.{Action}
use Rattle.flume_laws.specs.Together.{Interleaved, EachAreCalls, NoParty, AndParty}

module _ {X : Type 0} where
  -- a list merged with none
  pub only_right : (xs : List X) → Interleaving [] xs xs
  only_right [] = End
  only_right (x ∷ xs) = Right (only_right xs)

  -- two lists, one behind the other
  pub one_behind : (xs ys : List X) → Interleaving xs ys (xs ++ ys)
  one_behind [] ys = only_right ys
  one_behind (x ∷ xs) ys = Left (one_behind xs ys)

  -- of three lists, the last two are merged first
  pub right_first : (xs ys both zs all : List X) → Interleaving xs ys both → Interleaving both zs all
      → (others : List X) × Interleaving ys zs others × Interleaving xs others all
  right_first xs ys both zs all merged rest = by_rest rest xs ys merged
    where
      by_rest : {both zs all : List X} → Interleaving both zs all → (xs ys : List X)
          → Interleaving xs ys both
          → (others : List X) × Interleaving ys zs others × Interleaving xs others all
      by_rest End _ _ End = ([], End, End)
      by_rest (Right {y = z} rest) xs ys merged =
          let later = by_rest rest xs ys merged in
          (z ∷ later.0, Right later.1, Right later.2)
      by_rest (Left rest) _ _ (Left {xs = xs} {ys = ys} merged) =
          let later = by_rest rest xs ys merged in
          (later.0, later.1, Left later.2)
      by_rest (Left rest) _ _ (Right {y = y} {xs = xs} {ys = ys} merged) =
          let later = by_rest rest xs ys merged in
          (y ∷ later.0, Left later.1, Right later.2)

  -- the first two are
  left_first : {xs ys zs others all : List X} → Interleaving ys zs others
      → Interleaving xs others all
      → (both : List X) × Interleaving xs ys both × Interleaving both zs all
  left_first {xs = xs} {ys = ys} {zs = zs} {others = others} {all = all} merged rest =
      let other = right_first zs ys others xs all (interleaved_swap ys zs others merged)
      (interleaved_swap xs others all rest) in (
        other.0,
        interleaved_swap ys xs other.0 other.1,
        interleaved_swap zs other.0 all other.2,
      )

  -- many lists and many others are merged together
  pub joined : (lists others : List (List X)) {xs ys all : List X} → Interleaved lists xs
      → Interleaved others ys → Interleaving xs ys all → Interleaved (lists ++ others) all
  joined [] others {ys = ys} {all = all} none merged both =
      let same = interleaved_alone ys all (interleaved_swap [] ys all
      (subst (λ list. Interleaving list ys all) none both)) in
      subst (Interleaved others) (sym same) merged
  joined (list ∷ lists) others some merged both =
      let later = right_first _ _ _ _ _ some.2 both in
      (later.0, joined lists others some.1 merged later.1, later.2)

  -- and apart again
  pub parted : (lists others : List (List X)) {all : List X} → Interleaved (lists ++ others) all
      → (xs ys : List X) × Interleaved lists xs × Interleaved others ys × Interleaving xs ys all
  parted [] others {all = all} merged = ([], all, (λ i. []), merged, only_right all)
  parted (list ∷ lists) others merged =
      let later = parted lists others merged.1 in
      let first = left_first later.4 merged.2 in
      (first.0, later.1, (later.0, later.2, first.1), later.3, first.2)

module _ {T A : Type 0} where
  -- many parties and many others
  pub both_calls : {parties others : List (List (Action T A))} {sents gots sents' gots' : List (List T)}
      → EachAreCalls parties sents gots → EachAreCalls others sents' gots'
      → EachAreCalls (parties ++ others) (sents ++ sents') (gots ++ gots')
  both_calls NoParty some = some
  both_calls (AndParty calls rest) some = AndParty calls (both_calls rest some)
