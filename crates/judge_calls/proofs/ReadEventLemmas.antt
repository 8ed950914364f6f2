-- The events that are read so far.
use Rattle.std.proofs.Common.{◌≡◌, ◌==◌, ℕ, ◌+◌, ◌<◌, ◌≤◌, max, if◌then◌else◌, Bool, false, List, [], ◌∷◌, ◌++◌, length, refl, sym, subst}
use Rattle.std.proofs.Common.{ap, ◌∙◌, arith}
use Rattle.std.specs.List.{AllZip}
use Rattle.std.specs.Str.Lines.{lines}
use Rattle.std.proofs.lemmas.List.{append_assoc, length_push}
use Rattle.judge_calls.specs.declared.event.Event.{Event}
use Rattle.judge_calls.specs.declared.event.Event.TheVariants.{Begins, Returns}
use Rattle.judge_calls.specs.Explanations.{thread_of}
use Rattle.flume_script.proofs.ScriptStepLemmas.{length_all_zip, all_zip_push}
use Rattle.judge_calls.specs.declared.fault.Fault.{Fault}
use Rattle.judge_calls.specs.Texts.{call_text, answer_text, IsNumberOf}
use Rattle.judge_calls.specs.EventLines.{IsEventLine, IsFault, IsName, name_of, begins_line, returns_line}
use Rattle.judge_calls.specs.Recordings.{AreNumbered, AreReadByCalls, AreEventLines, IsReadBy, EventsUpTo, asking_after, asks_capacity}
use Rattle.judge_calls.specs.NextEvents.{IsNextEvent}
use Rattle.judge_calls.proofs.LinePartLemmas.{no_event}
use Rattle.judge_calls.proofs.ThreadNameLemmas.{keeps_names}

module _ {A : Type 0} where
  -- which threads' last call asked for the capacity, after these events
  pub asking_behind : (ℕ → Bool) → List (Event ℕ A) → ℕ → Bool
  asking_behind asking [] = asking
  asking_behind asking (event ∷ events) = asking_behind (asking_after asking event) events

  -- after one more event
  asking_push : (asking : ℕ → Bool) (events : List (Event ℕ A)) (event : Event ℕ A)
      → asking_behind asking (events ++ event ∷ []) ≡ asking_after (asking_behind asking events) event
  unfolding asking_behind
  asking_push asking [] event = refl
  asking_push asking (first ∷ events) event = asking_push (asking_after asking first) events event

  -- by equal answers before an event it has equal ones after it
  asking_same : (asking asking' : ℕ → Bool) (event : Event ℕ A) → ((t : ℕ) → asking t ≡ asking' t) → (t : ℕ)
      → asking_after asking event t ≡ asking_after asking' event t
  asking_same asking asking' (Begins thread call) same t = ap (λ b. if t == thread then asks_capacity call else b) (same t)
  asking_same asking asking' (Returns thread answer) same t = same t

  -- and is read alike
  read_same : (asking asking' : ℕ → Bool) (event : Event ℕ A) → ((t : ℕ) → asking t ≡ asking' t) → IsReadBy asking event
      → IsReadBy asking' event
  read_same asking asking' (Begins thread call) same h = tt
  read_same asking asking' (Returns thread answer) same h = subst (λ b. IsNumberOf b answer) (same thread) h

  -- one more event that is read by its call
  read_push : (asking : ℕ → Bool) (events : List (Event ℕ A)) (event : Event ℕ A) → AreReadByCalls asking events
      → IsReadBy (asking_behind asking events) event → AreReadByCalls asking (events ++ event ∷ [])
  unfolding asking_behind
  read_push asking [] event all one = (one, tt)
  read_push asking (first ∷ events) event all one = (all.0, read_push (asking_after asking first) events event all.1 one)

  -- one more event of a thread that has appeared, or of the next one
  numbered_push : (known count count' : ℕ) (events : List (Event ℕ A)) (event : Event ℕ A) → AreNumbered known events count
      → thread_of event ≤ count → max count (thread_of event + 1) ≡ count' → AreNumbered known (events ++ event ∷ []) count'
  numbered_push known count count' [] event all next more =
      (subst (λ n. thread_of event ≤ n) (sym all) next, ap (λ n. max n (thread_of event + 1)) all ∙ more)
  numbered_push known count count' (first ∷ events) event all next more =
      (all.0, numbered_push (max known (thread_of first + 1)) count count' events event all.1 next more)

  -- a line is the same event if its thread keeps its name
  line_kept : (names names' : List (List ℕ)) (line : List ℕ) (event : Event ℕ A)
      → ((t : ℕ) → t < length names → name_of names' t ≡ name_of names t) → length names ≤ length names'
      → IsEventLine names line event → IsEventLine names' line event
  line_kept names names' line (Begins thread call) same more is = record {
    line_is = is.line_is ∙ ap (λ name. begins_line name (call_text call)) (sym (same thread is.known));
    fits = is.fits;
    known = omega arith;
    name = subst IsName (sym (same thread is.known)) is.name;
  }
  line_kept names names' line (Returns thread answer) same more is = record {
    line_is = is.line_is ∙ ap (λ name. returns_line name (answer_text answer)) (sym (same thread is.known));
    fits = is.fits;
    known = omega arith;
    name = subst IsName (sym (same thread is.known)) is.name;
  }

  -- so are lines
  lines_kept : (names names' : List (List ℕ)) (before : List (List ℕ)) (events : List (Event ℕ A))
      → ((t : ℕ) → t < length names → name_of names' t ≡ name_of names t) → length names ≤ length names'
      → AllZip (IsEventLine names) before events → AllZip (IsEventLine names') before events
  lines_kept names names' [] [] same more all = tt
  lines_kept names names' [] (event ∷ events) same more all = absurd all
  lines_kept names names' (line ∷ before) [] same more all = absurd all
  lines_kept names names' (line ∷ before) (event ∷ events) same more all =
      (line_kept names names' line event same more all.0, lines_kept names names' before events same more all.1)

  -- of the lines of the whole, those before the rest are these events, of threads with these names, and the last calls of these
  -- threads asked for the capacity
  pub record ReadEvents (whole rest : List ℕ) (events : List (Event ℕ A)) (names : List (List ℕ)) (asking : ℕ → Bool)
      : Type 0 where
    pub before : List (List ℕ)
    pub parts : lines whole ≡ before ++ lines rest
    pub right : AreEventLines before events names
    pub asked : (thread : ℕ) → asking thread ≡ asking_behind (λ t. false) events thread
    pub count : length before + length rest ≤ length whole

  -- before the first line
  pub none_read : (whole : List ℕ) (names : List (List ℕ)) (asking : ℕ → Bool) → names ≡ [] → ((t : ℕ) → asking t ≡ false)
      → ReadEvents whole whole [] names asking
  unfolding asking_behind
  none_read whole names asking none asks = rw none (record {
    before = [];
    parts = refl;
    right = record { are_lines = tt; distinct = λ t u before within. absurd (omega arith); numbered = refl; by_calls = tt };
    asked = asks;
    count = omega arith;
  })

  -- after one more event
  pub one_more : {whole rest : List ℕ} {events : List (Event ℕ A)} {names : List (List ℕ)} {asking : ℕ → Bool}
      (line later : List ℕ) (event : Event ℕ A) (names' : List (List ℕ)) (asking' : ℕ → Bool) (events' : List (Event ℕ A))
      → ReadEvents whole rest events names asking → lines rest ≡ line ∷ lines later → length later < length rest
      → IsNextEvent names asking line event names' asking' → events' ≡ events ++ event ∷ []
      → ReadEvents whole later events' names' asking'
  one_more {whole} {rest} {events} {names} {asking} line later event names' asking' events' read first shorter next pushed =
      let kept = keeps_names names next.name (thread_of event) names' next.numbering in
      let so_far : ℕ → Bool = asking_behind (λ t. false) events in
      rw pushed (record {
        before = read.before ++ line ∷ [];
        parts = read.parts ∙ ap (λ ls. read.before ++ ls) first ∙ sym (append_assoc read.before (line ∷ []) (lines later));
        right = record {
          are_lines = all_zip_push (IsEventLine names') read.before events line event
              (lines_kept names names' read.before events kept.same kept.more read.right.are_lines) next.is_line;
          distinct = kept.distinct read.right.distinct;
          numbered = numbered_push 0 (length names) (length names') events event read.right.numbered kept.next kept.count;
          by_calls = read_push (λ t. false) events event read.right.by_calls (read_same asking so_far event read.asked next.read_by);
        };
        asked = λ thread. next.asked thread ∙ asking_same asking so_far event read.asked thread
            ∙ sym (ap (λ f. f thread) (asking_push (λ t. false) events event));
        count = omega (arith, length_push read.before line);
      })

  -- at a line that is no event
  pub up_to : {whole rest : List ℕ} {events : List (Event ℕ A)} {names : List (List ℕ)} {asking : ℕ → Bool}
      (line later : List ℕ) (fault : Fault) (place : ℕ)
      → ReadEvents whole rest events names asking → lines rest ≡ line ∷ lines later → length later < length rest
      → IsFault A line fault → place ≡ length events
      → EventsUpTo A (lines whole) place fault × (place < length whole)
  up_to {whole} {rest} {events} {names} {asking} line later fault place read first shorter reason at =
      let same = length_all_zip (IsEventLine names) read.before events read.right.are_lines in (
        record {
          before = read.before;
          events = events;
          names = names;
          line = line;
          later = lines later;
          parts = read.parts ∙ ap (λ ls. read.before ++ ls) first;
          right = read.right;
          wrong = no_event line fault reason;
          reason = reason;
          place_is = same ∙ sym at;
        },
        omega arith,
      )
