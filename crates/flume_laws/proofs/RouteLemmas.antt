-- What each receiver got of each sender.
use Rattle.std.proofs.Common.{◌≡◌, List, [], ◌∷◌, refl}
use Rattle.flume_party.specs.Interleavings.{Interleaving, End, Left, Right}
use Rattle.flume_laws.specs.Together.{Interleaved, AreExchanged, AreEmpty, AreRouted}
use Rattle.flume_laws.specs.Together.{EachMerged, NoList, AndLists}

module _ {X : Type 0} where
  -- a list that is merged of two in two ways: its parts that are in one of both
  record Parts (a b c d : List X) : Type 0 where
    ac : List X
    bc : List X
    ad : List X
    bd : List X
    in_c : Interleaving ac bc c
    in_d : Interleaving ad bd d
    in_a : Interleaving ac ad a
    in_b : Interleaving bc bd b

  -- each element is in one of them
  parts : {a b c d line : List X} → Interleaving a b line → Interleaving c d line → Parts a b c d
  parts End End =
      record { ac = []; bc = []; ad = []; bd = []; in_c = End; in_d = End; in_a = End; in_b = End }
  parts (Left {x = x} p) (Left q) =
      let rest = parts p q in
      record {
        ac = x ∷ rest.ac;
        bc = rest.bc;
        ad = rest.ad;
        bd = rest.bd;
        in_c = Left rest.in_c;
        in_d = rest.in_d;
        in_a = Left rest.in_a;
        in_b = rest.in_b;
      }
  parts (Left {x = x} p) (Right q) =
      let rest = parts p q in
      record {
        ac = rest.ac;
        bc = rest.bc;
        ad = x ∷ rest.ad;
        bd = rest.bd;
        in_c = rest.in_c;
        in_d = Left rest.in_d;
        in_a = Right rest.in_a;
        in_b = rest.in_b;
      }
  parts (Right {y = y} p) (Left q) =
      let rest = parts p q in
      record {
        ac = rest.ac;
        bc = y ∷ rest.bc;
        ad = rest.ad;
        bd = rest.bd;
        in_c = Right rest.in_c;
        in_d = rest.in_d;
        in_a = rest.in_a;
        in_b = Left rest.in_b;
      }
  parts (Right {y = y} p) (Right q) =
      let rest = parts p q in
      record {
        ac = rest.ac;
        bc = rest.bc;
        ad = rest.ad;
        bd = y ∷ rest.bd;
        in_c = rest.in_c;
        in_d = Right rest.in_d;
        in_a = rest.in_a;
        in_b = Right rest.in_b;
      }

  -- nothing is merged of nothing
  none_left : {a b line : List X} → Interleaving a b line → line ≡ [] → (a ≡ []) × (b ≡ [])
  none_left End is = (refl, refl)
  none_left (Left rest) is = absurd (cc is)
  none_left (Right rest) is = absurd (cc is)

  -- so are many
  all_empty : (lists : List (List X)) {line : List X} → Interleaved lists line → line ≡ []
      → AreEmpty lists
  all_empty [] merged is = tt
  all_empty (xs ∷ lists) merged is =
      let none = none_left merged.2 is in
      (none.0, all_empty lists merged.1 none.1)

  -- what the receivers got of a sender, and what they got of the others
  record Divided (a b : List X) (gots : List (List X)) : Type 0 where
    of_first : List (List X)
    of_others : List (List X)
    first : Interleaved of_first a
    others : Interleaved of_others b
    each : EachMerged of_first of_others gots

  -- each receiver's list is divided
  divided : (gots : List (List X)) {a b line : List X} → Interleaving a b line
      → Interleaved gots line → Divided a b gots
  divided [] both merged =
      let none = none_left both merged in
      record {
        of_first = [];
        of_others = [];
        first = none.0;
        others = none.1;
        each = NoList;
      }
  divided (got ∷ gots) both merged =
      let some = parts both merged.2 in
      let rest = divided gots some.in_d merged.1 in
      record {
        of_first = some.ac ∷ rest.of_first;
        of_others = some.bc ∷ rest.of_others;
        first = (some.ad, rest.first, some.in_a);
        others = (some.bd, rest.others, some.in_b);
        each = AndLists some.in_c rest.each;
      }

  -- lists that are merged to one line in two ways
  routed_along : (sents gots : List (List X)) (line : List X) → Interleaved sents line
      → Interleaved gots line → AreRouted sents gots
  routed_along [] gots line sent got = all_empty gots got sent
  routed_along (xs ∷ sents) gots line sent got =
      let some = divided gots sent.2 got in (
        some.of_first,
        some.of_others,
        some.first,
        some.each,
        routed_along sents some.of_others sent.0 sent.1 some.others,
      )

  pub routed : (sents gots : List (List X)) → AreExchanged sents gots → AreRouted sents gots
  routed sents gots all = routed_along sents gots all.0 all.1 all.2
