-- A history that was followed so far is followed on, or breaks.
use Rattle.std.proofs.Common.{◌≡◌, ◌↔◌, ℕ, suc, ◌+◌, ◌<◌, List, [], ◌∷◌, ◌++◌, Option, refl, sym, ◌∙◌, ap}
use Rattle.std.proofs.Common.{subst, arith, length, take, drop, reverse, take-append-drop}
use Rattle.std.proofs.Math.ListN.{get_or}
use Rattle.std.proofs.Math.Seq.{take-suc}
use Rattle.std.proofs.lemmas.List.{reverse-append}
use Rattle.flume_model.specs.declared.step.Step.{Step}
use Rattle.flume_model.specs.declared.step.Step.TheVariants.{TrySend}
use Rattle.flume_model.specs.declared.step.Reply.{Reply}
use Rattle.flume_model.specs.declared.step.Reply.TheVariants.{NoMemory}
use Rattle.flume_model.specs.Log.{Log, Opening, change, Stays}
use Rattle.flume_model.specs.Channel.{channel}
use Rattle.flume_model.specs.Replies.{IsReply, IsRun}
use Rattle.flume_model.specs.Replies.{SameReply}
use Rattle.flume_state.specs.State.{State}
use Rattle.flume_core.specs.Represents.{Represents}
use Rattle.flume_core.specs.NoMemoryRule.{NoMemoryIsLawful}
use Rattle.flume_history.specs.SameRuns.{IsNoMemory, SameSteps}
use Rattle.flume_history.specs.Histories.{DescribesLog, IsHistory, BreaksAt}
use Rattle.flume_history.specs.HandedIn.{handed_in}
use Rattle.flume_history.proofs.OneBlockedLemmas.{one_blocked}
use Rattle.flume_history.proofs.OneReplyLemmas.{one_reply}
use Rattle.flume_history.proofs.OneRunLemmas.{one_run}
use Rattle.flume_history.proofs.SameLogLemmas.{channel_same}
use Rattle.flume_history.proofs.NoMemoryRuleLemmas.{want_only}

module _ {T A : Type 0} where
  -- a reply that is no such one isn't `NoMemory`
  pub not_want : (reply : Reply T A) → ((back : Option T) → reply ≡ NoMemory back → ⊥) → IsNoMemory reply → ⊥
  not_want (NoMemory back) none w = none back refl
  not_want _ none w = w

  -- what was refused for memory changes nothing
  pub want_stays : (past : Log T A) (step : Step T) (back : Option T) → change past step (NoMemory back) ≡ Stays
  want_stays past (TrySend m) back = refl
  want_stays past _ back = refl

module _ {T A X : Type 0} (describes : X → Reply T A → Type 0) where
  -- what is said of two replies is `NoMemory` in both or in neither
  abbrev pub TellsWant : Type 0
  TellsWant = (x : X) (reply other : Reply T A) → describes x reply → describes x other → IsNoMemory reply ↔ IsNoMemory other

  -- what is said of a reply is said of the same one, wherever a drained list is kept
  abbrev pub GoesByMessages : Type 0
  GoesByMessages = (x : X) (reply other : Reply T A) → SameReply reply other → describes x reply → describes x other

module _ {T A X : Type 0} (describes : X → Reply T A → Type 0) (tells : TellsWant describes) where
  -- two logs of which the same is said have the same steps, of which the same ones wanted memory
  pub same_steps : (said : List (Step T × X)) (log other : Log T A) → DescribesLog describes said log → DescribesLog describes said other
      → SameSteps log other
  same_steps [] [] [] h k = tt
  same_steps [] [] (r ∷ other) h k = absurd k
  same_steps [] (q ∷ log) other h k = absurd h
  same_steps (p ∷ said) [] other h k = absurd h
  same_steps (p ∷ said) (q ∷ log) [] h k = absurd k
  same_steps (p ∷ said) (q ∷ log) (r ∷ other) h k =
      (sym h.0 ∙ k.0, tells p.1 q.1 r.1 h.1 k.1, same_steps said log other h.2 k.2)

  -- if nothing that is said of the next step is lawful, no run is said so with it
  pub not_with_next : (o : Opening) (said : List (Step T × X)) (p : Step T × X) (log : Log T A) → IsRun o log
      → DescribesLog describes said log
      → ((reply : Reply T A) → IsReply (channel o log) p.0 reply → describes p.1 reply → ⊥)
      → (other : Log T A) → IsRun o other → DescribesLog describes (p ∷ said) other → ⊥
  not_with_next o said p log run so none [] run' k = k
  not_with_next o said p log run so none (q ∷ other) run' k =
      let same = one_run o log other run run'.1 (same_steps said log other so k.2) in
      none q.1
      (subst (λ c. IsReply c p.0 q.1) (sym (channel_same o log other same))
      (subst (λ step. IsReply (channel o other) step q.1) (sym k.0) run'.0))
      k.1

module _ {T A X : Type 0} (describes : X → Reply T A → Type 0) (goes : GoesByMessages describes) where
  -- apart from `NoMemory`, nothing else is lawful than what the channel answered
  pub no_other : (o : Opening) (log : Log T A) (x : X) (step : Step T) (own : Reply T A) → IsRun o log → IsReply (channel o log) step own
      → (IsNoMemory own → ⊥) → (describes x own → ⊥) → (other : Reply T A) → IsReply (channel o log) step other → (IsNoMemory other → ⊥)
      → describes x other → ⊥
  no_other o log x step own run is wanted unsaid other also other_wanted said =
      unsaid (goes x other own (one_reply (channel o log) (one_blocked o log run) step other own also is other_wanted wanted) said)

module _ {T A X : Type 0} (describes : X → Reply T A → Type 0) where
  -- if memory may not be needed, or not so, no `NoMemory` is lawful that this is said of
  pub no_other_want : {S : Type 0} {o : Opening} {log : Log T A} {s : State T S} → Represents o log s → (x : X) (step : Step T)
      → (NoMemoryIsLawful s step → describes x (NoMemory (handed_in step)) → ⊥)
      → (reply : Reply T A) → IsReply (channel o log) step reply → describes x reply → IsNoMemory reply → ⊥
  no_other_want {S} {o} {log} {s} h x step none (NoMemory back) is said w =
      let only = want_only h step back is in
      none only.0 (subst (λ b. describes x (NoMemory b)) only.1 said)
  no_other_want h x step none _ is said w = w

module _ {E : Type 0} where
  -- the entries so far, the newest first, with the next one
  pub with_next : (history : List E) (place : ℕ) (p : E) → place < length history
      → p ≡ get_or history place p → reverse (take (place + 1) history) ≡ p ∷ reverse (take place history)
  with_next history place p within at =
      ap (λ n. reverse (take n history)) (let one : place + 1 ≡ suc place = omega arith in one)
      ∙ ap reverse (take-suc history place p within ∙ ap (λ x. take place history ++ x ∷ []) (sym at))
      ∙ reverse-append (take place history) (p ∷ [])

-- a part of a history is one: the later entries may be left out
module _ {T A X : Type 0} (describes : X → Reply T A → Type 0) where
  behind : (o : Opening) (later said : List (Step T × X)) (log : Log T A) → IsRun o log → DescribesLog describes (later ++ said) log
      → (past : Log T A) × IsRun o past × DescribesLog describes said past
  behind o [] said log run so = (log, run, so)
  behind o (p ∷ later) said [] run so = absurd so
  behind o (p ∷ later) said (q ∷ log) run so = behind o later said log run.1 so.2

  pub beginning : (o : Opening) (n : ℕ) (history : List (Step T × X)) → IsHistory describes o history
      → IsHistory describes o (take n history)
  beginning o n history h =
      let parts : reverse history ≡ reverse (drop n history) ++ reverse (take n history) =
      ap reverse (sym (take-append-drop n history)) ∙ reverse-append (take n history) (drop n history) in
      behind o (reverse (drop n history)) (reverse (take n history)) h.0 h.1 (subst (λ l. DescribesLog describes l h.0) parts h.2)

  -- a history that was followed so far, and isn't on
  pub breaks_at : (tells : TellsWant describes) (o : Opening) (history : List (Step T × X)) (place : ℕ) (p : Step T × X) (log : Log T A)
      → place < length history → p ≡ get_or history place p → IsRun o log → DescribesLog describes (reverse (take place history)) log
      → ((reply : Reply T A) → IsReply (channel o log) p.0 reply → describes p.1 reply → ⊥) → BreaksAt describes o history place
  breaks_at tells o history place p log within at run so none = record {
    is_within = within;
    before = (log, run, so);
    not_with_next = λ on. not_with_next describes tells o (reverse (take place history)) p log run so none on.0 on.1
        (subst (λ l. DescribesLog describes l on.0) (with_next history place p within at) on.2);
  }
