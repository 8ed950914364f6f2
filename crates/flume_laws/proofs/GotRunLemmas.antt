-- What is handed out from a moment of a run on is what its parties are still due.
use Rattle.std.proofs.Common.{◌≡◌, ℕ, ◌||◌, false, List, [], ◌∷◌, ◌++◌, Option, Some}
use Rattle.std.proofs.Common.{None, refl, ap, sym, subst, ◌∙◌, arith}
use Rattle.std.proofs.lemmas.List.{append-nil, append_assoc}
use Rattle.std.specs.List.{flat_map}
use mathlib.Core.List.{reverse_aux}
use Rattle.flume_model.specs.Log.{Log, Opening, Change, is_ticket, change, was_filled, filled_by}
use Rattle.flume_model.specs.Offers.{hands_out, fill}
use Rattle.flume_model.specs.Counts.{is_over}
use Rattle.flume_model.specs.Fills.{shows_to, shown}
use Rattle.flume_model.specs.Channel.{Channel, channel}
use Rattle.flume_model.specs.Replies.{IsRun}
use Rattle.flume_model.proofs.EntryChangeLemmas.{fills}
use Rattle.flume_model.proofs.EntryShapeLemmas.{filled_if_named, entries_apart}
use Rattle.flume_model.proofs.fills.FillsKeptLemmas.{filled_holds, filled_stood}
use Rattle.flume_model.proofs.waits.WaitingStepLemmas.{stepped}
use Rattle.flume_actions.specs.Actions.{Action}
use Rattle.flume_laws.specs.Together.{Interleaved}
use Rattle.flume_laws.proofs.TurnLemmas.{Course}
use Rattle.flume_laws.proofs.PartyLemmas.{Member, actions_of}
use Rattle.flume_laws.proofs.GotMemberLemmas.{parked_under, parked_else}
use Rattle.flume_laws.proofs.GotMemberLemmas.{parked_one, next}
use Rattle.flume_laws.proofs.StandingLemmas.{Agree, Standing, standing_turn, standing_last}
use Rattle.flume_laws.proofs.GotDueLemmas.{Due, due_more, due_filled, due_none}
use Rattle.flume_laws.proofs.GotEntryLemmas.{stands, stands_by, held_stands}
use Rattle.flume_laws.proofs.GotEntryLemmas.{filled_was_empty}
use Rattle.flume_laws.proofs.GotEffectLemmas.{as_list, final, in_hand, named_is_filled}
use Rattle.flume_laws.proofs.GotParkedLemmas.{effect}
use Rattle.flume_laws.proofs.GotShownLemmas.{in_hand_else, in_hand_filled, run_before}
use Rattle.flume_laws.proofs.GotShownLemmas.{open_before}
use Rattle.flume_laws.proofs.GotShownLemmas.{shown_now}

module _ {T A : Type 0} where
  -- the messages that are handed out from a moment on
  abbrev pub to_come : (ℕ → Option T) → Log T A → List (Action T A) → List T
  to_come shown past [] = []
  to_come shown past (p ∷ rest) =
      flat_map (final shown) (hands_out (change past p.0 p.1)) ++ to_come shown (p ∷ past) rest

  -- they are what the parties are due, and this is how it stands in the end
  pub record Outcome (o : Opening) (most : ℕ) (seen : ℕ → Option T) (past : Log T A)
      (rest : List (Action T A)) (members : List (Member T A)) : Type 0 where
    pub due : Due (in_hand seen (was_filled past)) members (to_come seen past rest)
    pub last : Standing o most (reverse_aux rest past) []

  -- what was handed to parties before a step that filled one of them
  before_fill : (o : Opening) (seen : ℕ → Option T) (past : Log T A) (p : Action T A)
      (members : List (Member T A)) (line : List T) → IsRun o (p ∷ past)
      → is_over (p ∷ past) ≡ false → Agree o (p ∷ past) members
      → Due (in_hand seen (was_filled (p ∷ past))) members line
      → Due (in_hand seen (was_filled past)) members
      (flat_map (final seen) (fill (filled_by p.1)) ++ line)
  before_fill o seen past p members line run still agree d = by_fill (filled_by p.1) refl d
    where
      by_fill : (f : Option ℕ) → filled_by p.1 ≡ f
          → Due (in_hand seen (λ t. is_ticket t f || was_filled past t)) members line
          → Due (in_hand seen (was_filled past)) members (flat_map (final seen) (fill f) ++ line)
      by_fill None is d = d
      by_fill (Some t) is d =
          let done : Change T = change past p.0 p.1 in
          let c : Channel T = channel o past in
          let s = stepped o past p run still in
          let apart = entries_apart o past run.1 in
          let named : fills done ≡ Some t = sym (named_is_filled o past p.0 p.1 run.0) ∙ is in
          let holds = filled_holds c s.closes done t s.fit apart named in
          let stood = filled_stood c done t s.fit named in
          let empty = filled_if_named o past run.1 t stood.0 stood.1
          ∙ filled_was_empty c done t stood.0 s.fit apart named stood.1 in
          let one : parked_under t members ≡ 1 =
          agree t ∙ (ap (stands t) s.entries_are ∙ held_stands t holds.0 _ holds.3) in
          rw (append-nil (as_list (seen t)))
          (due_filled t (in_hand seen (was_filled past))
          (in_hand seen (λ u. is_ticket u (Some t) || was_filled past u)) (as_list (seen t)) members
          line (in_hand_else seen (was_filled past) t)
          (λ parked same. in_hand_filled seen (was_filled past) t parked empty same) one d)

  -- a step that is one party's
  owned : (o : Opening) (most : ℕ) (seen : ℕ → Option T) (past : Log T A) (p : Action T A)
      (rest later : List (Action T A)) (before after : List (Member T A)) (m : Member T A)
      → IsRun o (p ∷ past) → is_over (p ∷ past) ≡ false
      → ((t : ℕ) (x : T) → shows_to t p.0 p.1 ≡ Some x → seen t ≡ Some x)
      → Standing o most past (before ++ m ∷ after) → m.actions ≡ p ∷ later
      → ((n : Member T A) → n.actions ≡ later → Standing o most (p ∷ past) (before ++ n ∷ after)
      → Outcome o most seen (p ∷ past) rest (before ++ n ∷ after))
      → Outcome o most seen past (p ∷ rest) (before ++ m ∷ after)
  owned o most seen past p rest later before after m run still shows standing first deeper =
      let course = subst (λ list. Course list m.stand m.sent m.got) first m.course in
      let n : Member T A = record {
        stand = course.after;
        actions = later;
        sent = course.sent_later;
        got = course.got_later;
        course = course.rest;
      } in
      let s = stepped o past p run still in
      let e = effect o past seen p.0 p.1 m.stand course.after course.sent_now course.got_now
      course.turn run
      (λ t. omega (arith, standing.agree t, parked_one t before after m)) shows in
      let stand = λ (t : ℕ). stands_by (channel o past) s.closes (change past p.0 p.1) t s.fit
      (entries_apart o past run.1) in
      let agrees : Agree o (p ∷ past) (before ++ n ∷ after) = λ t. omega (
        arith,
        standing.agree t,
        parked_else t before after m n,
        stand t,
        ap (stands t) s.entries_are,
        e.moves t,
      ) in
      let rest_of = deeper n refl (standing_turn o most past p before after m n course.sent_now
      course.got_now run first course.turn agrees standing) in
      let line : List T = to_come seen (p ∷ past) rest in
      let filled : List T = flat_map (final seen) (fill (filled_by p.1)) in
      let d = due_more (in_hand seen (was_filled past)) before after m n course.got_now e.own
      (filled ++ line) course.got_is e.shows
      (before_fill o seen past p (before ++ n ∷ after) line run still agrees rest_of.due) in
      record {
        due = subst (Due (in_hand seen (was_filled past)) (before ++ m ∷ after))
            (sym (append_assoc e.own filled line) ∙ ap (λ list. list ++ line) (sym e.hands)) d;
        last = rest_of.last;
      }

  -- from each moment of a run on
  pub outcome : (o : Opening) (most : ℕ) (seen : ℕ → Option T) (rest : List (Action T A))
      (past : Log T A) (members : List (Member T A)) → IsRun o (reverse_aux rest past)
      → is_over (reverse_aux rest past) ≡ false
      → ((t : ℕ) → seen t ≡ shown (reverse_aux rest past) t) → Standing o most past members
      → Interleaved (actions_of members) rest → Outcome o most seen past rest members
  outcome o most seen [] past members run still same standing merged =
      let none = due_none (in_hand seen (was_filled past)) members refl merged in
      record { due = none.0; last = standing_last o most past members none.1 standing }
  outcome o most seen (p ∷ rest) past members run still same standing merged =
      let found = next members p rest merged in
      let now = run_before o rest (p ∷ past) run in
      subst (Outcome o most seen past (p ∷ rest)) (sym found.place)
      (owned o most seen past p rest found.later found.before found.after found.member now
      (open_before o rest (p ∷ past) run still)
      (λ t x is. same t ∙ shown_now o rest past p t x run is)
      (subst (Standing o most past) found.place standing) found.first
      (λ n is stands. outcome o most seen rest (p ∷ past) (found.before ++ n ∷ found.after) run
      still same stands (found.rest n is)))
