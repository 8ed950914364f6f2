-- A word that is no plain answer's is no answer, if it is no list and no number.
use Rattle.std.proofs.Common.{◌≡◌, true, false, Some, None, codes, sym, rules}
use Rattle.std.specs.Fmt.{decimal}
use Rattle.judge_calls.specs.declared.call.Answer.TheVariants.{Sent, Full, Got, Empty, Disconnected, Timeout, NoMemory, Dropped}
use Rattle.judge_calls.specs.declared.call.Answer.TheVariants.{Drained}
use Rattle.judge_calls.specs.declared.call.Answer.TheVariants.{Done, NoEnd, CountFull, Number, Flag, Capacity, Unbounded}
use Rattle.judge_calls.specs.Texts.{IsAnswerText}
use Rattle.judge_calls.proofs.CutLemmas.{has_byte}
use Rattle.judge_calls.proofs.answer_texts.plain_answer.Goals as goal

pub returns-else-is_text-14-clause-value : goal.returns-else-is_text-14-clause-value
returns-else-is_text-14-clause-value g c = λ answer. elim answer as (λ a. IsAnswerText c.args.word.now a → ⊥) [
  | Got n ↦ λ h. has_byte 32 (codes "got") (decimal n) c.args.word.now (sym h.0) c.requires.no_space
  | Drained messages ↦ λ h. c.requires.no_list messages h.0
  | Number n ↦ λ h. c.requires.no_number n h.1 h.0
  | Capacity (Some n) ↦ λ h. c.requires.no_number n h.1 h.0
  | Sent ↦ λ h. (let e : c.args.word.now ≡ codes "sent" = h.0 in search rules)
  | Full ↦ λ h. (let e : c.args.word.now ≡ codes "full" = h.0 in search rules)
  | Empty ↦ λ h. (let e : c.args.word.now ≡ codes "empty" = h.0 in search rules)
  | Disconnected ↦ λ h. (let e : c.args.word.now ≡ codes "disconnected" = h.0 in search rules)
  | Timeout ↦ λ h. (let e : c.args.word.now ≡ codes "timeout" = h.0 in search rules)
  | NoMemory ↦ λ h. (let e : c.args.word.now ≡ codes "nomemory" = h.0 in search rules)
  | Dropped ↦ λ h. (let e : c.args.word.now ≡ codes "dropped" = h.0 in search rules)
  | Done ↦ λ h. (let e : c.args.word.now ≡ codes "done" = h.0 in search rules)
  | NoEnd ↦ λ h. (let e : c.args.word.now ≡ codes "noend" = h.0 in search rules)
  | CountFull ↦ λ h. (let e : c.args.word.now ≡ codes "countfull" = h.0 in search rules)
  | Flag true ↦ λ h. (let e : c.args.word.now ≡ codes "true" = h.0 in search rules)
  | Flag false ↦ λ h. (let e : c.args.word.now ≡ codes "false" = h.0 in search rules)
  | Capacity None ↦ λ h. (let e : c.args.word.now ≡ codes "none" = h.0 in search rules)
  | Unbounded ↦ λ h. (let e : c.args.word.now ≡ codes "unbounded" = h.0 in search rules)
]
