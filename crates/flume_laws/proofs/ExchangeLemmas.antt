-- What whole calls sent is what they got, and then what is left.
use Rattle.std.proofs.Common.{List, ◌++◌, drop, length, Option, Some, ℕ, refl, ap, sym, subst, ◌∙◌}
use Rattle.std.proofs.Common.{take}
use Rattle.std.proofs.lemmas.List.{append-nil, length-map, map-append, nil_from_length}
use Rattle.std.proofs.lemmas.List.{take-append-drop}
use Rattle.std.specs.Prelude.{reverse}
use Rattle.flume_model.specs.Log.{Log, opens, Offer}
use Rattle.flume_model.specs.Offers.{kept, hand_outs}
use Rattle.flume_model.specs.Line.{messages}
use Rattle.flume_model.specs.WaitLaws.{IsWithinCapacity}
use Rattle.flume_model.proofs.order.KeptLemmas.{line_is_open}
use Rattle.flume_actions.specs.Actions.{Action, IsWhole}
use Rattle.flume_laws.specs.Together.{Interleaved, EachAreCalls, AreExchanged, IsExchangedSoFar}
use Rattle.flume_laws.proofs.MergeLemmas.{leave_out}
use Rattle.flume_laws.proofs.PartyLemmas.{all_parties, few_park}
use Rattle.flume_laws.proofs.SentOrderLemmas.{sent_in_order}
use Rattle.flume_laws.proofs.GotInOrderLemmas.{got_in_order}
use Rattle.flume_laws.proofs.LeftLemmas.{few_left}

module _ {T A : Type 0} where
  -- if so many messages are left
  pub exchange_so_far : {capacity : Option ℕ} {n : ℕ} {parties : List (List (Action T A))}
      {all : List (Action T A)} {sents gots : List (List T)} → Interleaved parties all
      → EachAreCalls parties sents gots → IsWhole capacity all (Some n)
      → IsExchangedSoFar capacity (length parties) sents gots n
  exchange_so_far {capacity = capacity} {n = n} {parties = parties} {sents = sents} {gots = gots}
      merged calls whole =
      let o = opens capacity 1 in
      let log : Log T A = reverse whole.history in
      let count = whole.counted n refl in
      let first = take (hand_outs log) (kept log) in
      let rest = drop (hand_outs log) (kept log) in
      let turns = subst (Interleaved parties) whole.all merged in
      let s = all_parties whole.history parties sents gots turns calls in
      let all = ap messages (sym (take-append-drop (hand_outs log) (kept log)))
      ∙ map-append (λ (offer : Offer T). offer.message) first rest in
      record {
        line = messages first;
        left = messages rest;
        sent = subst (Interleaved sents) all
            (leave_out sents _ (sent_in_order o whole.history _ _ whole.run s));
        got = leave_out gots _ (got_in_order o whole.history _ _ whole.run count.1 s);
        count = length-map rest (λ offer. offer.message)
            ∙ (ap length (sym (line_is_open log count.1)) ∙ count.0);
        within = subst (IsWithinCapacity capacity (length parties)) count.0
            (few_left o (length parties) whole.history _ _ whole.run count.1 s
            (few_park whole.history parties sents gots turns calls));
      }

  -- if none is
  pub exchange : {capacity : Option ℕ} {parties : List (List (Action T A))}
      {all : List (Action T A)} {sents gots : List (List T)} → Interleaved parties all
      → EachAreCalls parties sents gots → IsWhole capacity all (Some 0) → AreExchanged sents gots
  exchange {sents = sents} merged calls whole =
      let so_far = exchange_so_far merged calls whole in
      let none = nil_from_length so_far.left so_far.count in (
        so_far.line,
        subst (Interleaved sents)
            (ap (λ left. so_far.line ++ left) none ∙ append-nil so_far.line) so_far.sent,
        so_far.got,
      )
