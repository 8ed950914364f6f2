-- What an answer is whose text has a space, or none.
use Rattle.std.proofs.Common.{arith, subst, ap, get_or, ◌≡◌, ℕ, true, false, Some, None, List, ◌∷◌, ◌++◌, codes, sym, rules}
use Rattle.std.specs.Fmt.{decimal}
use Rattle.std.specs.Str.Parse.{AllDigits}
use Rattle.std.proofs.lemmas.Fmt.{decimal_is_IsNumeral}
use Rattle.std.specs.List.{All}
use Rattle.std.proofs.lemmas.List.{append_cancel_left}
use Rattle.flume_script.specs.ReplyTexts.{spaced}
use Rattle.judge_calls.specs.declared.call.Answer.{Answer}
use Rattle.judge_calls.specs.declared.call.Answer.TheVariants.{Sent, Full, Got, Empty, Disconnected, Timeout, NoMemory, Dropped}
use Rattle.judge_calls.specs.declared.call.Answer.TheVariants.{Drained}
use Rattle.judge_calls.specs.declared.call.Answer.TheVariants.{Done, NoEnd, CountFull, Number, Flag, Capacity, Unbounded}
use Rattle.judge_calls.specs.Texts.{FitsWord, IsAnswerText}
use Rattle.judge_calls.proofs.CutLemmas.{Without, Lacks, without, has_byte, same_cuts}
use Rattle.judge_calls.proofs.DigitLemmas.{decimal_without}

-- it is a message that was received, and this is its text
abbrev pub IsGotText : List ℕ → List ℕ → Type 0
IsGotText word later = (n : ℕ) × (word ≡ codes "got") × (later ≡ decimal n) × FitsWord n

-- a text with a space is no word that is written out
no_word : (before later text : List ℕ) → Lacks 32 text → before ++ 32 ∷ later ≡ text → IsGotText before later
no_word before later text lacks e = absurd (has_byte 32 before later text e (without 32 text lacks))

-- nor a printed number
not_number : (before later : List ℕ) (n : ℕ) → FitsWord n → before ++ 32 ∷ later ≡ decimal n → IsGotText before later
not_number before later n fits e = absurd (has_byte 32 before later (decimal n) e (decimal_without n fits))

-- a printed number doesn't begin with the word of a list
not_drained : (numbers : List ℕ) (n : ℕ) → FitsWord n → codes "drained" ++ numbers ≡ decimal n → ⊥
not_drained numbers n fits e =
    let digits = subst (AllDigits 10) (sym e) (decimal_is_IsNumeral n fits).0.1 in
    omega (arith, digits.0)

-- nor does a text whose third byte is another one
third : (numbers text : List ℕ) → codes "drained" ++ numbers ≡ text → (get_or text 2 0 ≡ 97 → ⊥) → ⊥
third numbers text e other = other (sym (ap (λ t. get_or t 2 0) e))

module _ {A : Type 0} where
  -- an answer that begins with the word of a list is one
  pub drained_answer : (numbers : List ℕ) → ((list : List ℕ) → All FitsWord list → ¬ (numbers ≡ spaced list))
      → (answer : Answer ℕ A) → ¬ IsAnswerText (codes "drained" ++ numbers) answer
  drained_answer numbers no_list (Got n) h = third numbers (codes "got " ++ decimal n) h.0 (λ e. omega arith)
  drained_answer numbers no_list (Drained messages) h =
      no_list messages h.1 (append_cancel_left (codes "drained") numbers (spaced messages) h.0)
  drained_answer numbers no_list (Number n) h = not_drained numbers n h.1 h.0
  drained_answer numbers no_list (Capacity (Some n)) h = not_drained numbers n h.1 h.0
  drained_answer numbers no_list Sent h = third numbers (codes "sent") h.0 (λ e. omega arith)
  drained_answer numbers no_list Full h = third numbers (codes "full") h.0 (λ e. omega arith)
  drained_answer numbers no_list Empty h = third numbers (codes "empty") h.0 (λ e. omega arith)
  drained_answer numbers no_list Disconnected h = third numbers (codes "disconnected") h.0 (λ e. omega arith)
  drained_answer numbers no_list Timeout h = third numbers (codes "timeout") h.0 (λ e. omega arith)
  drained_answer numbers no_list NoMemory h = third numbers (codes "nomemory") h.0 (λ e. omega arith)
  drained_answer numbers no_list Dropped h = third numbers (codes "dropped") h.0 (λ e. omega arith)
  drained_answer numbers no_list Done h = third numbers (codes "done") h.0 (λ e. omega arith)
  drained_answer numbers no_list NoEnd h = third numbers (codes "noend") h.0 (λ e. omega arith)
  drained_answer numbers no_list CountFull h = third numbers (codes "countfull") h.0 (λ e. omega arith)
  drained_answer numbers no_list (Flag true) h = third numbers (codes "true") h.0 (λ e. omega arith)
  drained_answer numbers no_list (Flag false) h = third numbers (codes "false") h.0 (λ e. omega arith)
  drained_answer numbers no_list (Capacity None) h = third numbers (codes "none") h.0 (λ e. omega arith)
  drained_answer numbers no_list Unbounded h = third numbers (codes "unbounded") h.0 (λ e. omega arith)

  -- an answer whose text has a space, and which is no list, is a message that was received
  pub cut_answer : (before later : List ℕ) → Without 32 before
      → ((list : List ℕ) → ¬ (before ++ 32 ∷ later ≡ codes "drained" ++ spaced list))
      → (answer : Answer ℕ A) → IsAnswerText (before ++ 32 ∷ later) answer → IsGotText before later
  cut_answer before later none no_list (Got n) h =
      let same = same_cuts 32 before (codes "got") later (decimal n) none (without 32 (codes "got") (search rules)) h.0 in
      (n, same.0, same.1, h.1)
  cut_answer before later none no_list (Drained messages) h = absurd (no_list messages h.0)
  cut_answer before later none no_list (Number n) h = not_number before later n h.1 h.0
  cut_answer before later none no_list (Capacity (Some n)) h = not_number before later n h.1 h.0
  cut_answer before later none no_list Sent h = no_word before later (codes "sent") (search rules) h.0
  cut_answer before later none no_list Full h = no_word before later (codes "full") (search rules) h.0
  cut_answer before later none no_list Empty h = no_word before later (codes "empty") (search rules) h.0
  cut_answer before later none no_list Disconnected h = no_word before later (codes "disconnected") (search rules) h.0
  cut_answer before later none no_list Timeout h = no_word before later (codes "timeout") (search rules) h.0
  cut_answer before later none no_list NoMemory h = no_word before later (codes "nomemory") (search rules) h.0
  cut_answer before later none no_list Dropped h = no_word before later (codes "dropped") (search rules) h.0
  cut_answer before later none no_list Done h = no_word before later (codes "done") (search rules) h.0
  cut_answer before later none no_list NoEnd h = no_word before later (codes "noend") (search rules) h.0
  cut_answer before later none no_list CountFull h = no_word before later (codes "countfull") (search rules) h.0
  cut_answer before later none no_list (Flag true) h = no_word before later (codes "true") (search rules) h.0
  cut_answer before later none no_list (Flag false) h = no_word before later (codes "false") (search rules) h.0
  cut_answer before later none no_list (Capacity None) h = no_word before later (codes "none") (search rules) h.0
  cut_answer before later none no_list Unbounded h = no_word before later (codes "unbounded") (search rules) h.0
