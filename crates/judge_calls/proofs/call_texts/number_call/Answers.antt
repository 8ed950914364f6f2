-- A text with a space is a call only if the word before its first space is that of a call with a number.
use Rattle.std.proofs.Common.{◌≡◌, Some, codes, rules}
use Rattle.std.specs.Fmt.{decimal}
use Rattle.judge_calls.specs.declared.call.Call.TheVariants.{Send, SendTimeout, SendAsync, TrySend, SetCapacity}
use Rattle.judge_calls.specs.Texts.{call_word, call_number}
use Rattle.judge_calls.proofs.CallWordLemmas.{word_without, cut_worded}
use Rattle.judge_calls.proofs.call_texts.number_call.Goals as goal

pub returns-else-is_text-5 : goal.returns-else-is_text-5
returns-else-is_text-5 c = record {
  value = λ call h.
      let cut = cut_worded c.args.word.now (decimal c.args.number) (call_word call) (call_number call) c.requires.no_space
      (word_without call) h.0 in
      (elim call as (λ k. call_number k ≡ Some cut.0 → c.args.word.now ≡ call_word k → ⊥) [
        | Send n ↦ λ some same. (let e : c.args.word.now ≡ codes "send" = same in search rules)
        | SendTimeout n ↦ λ some same. (let e : c.args.word.now ≡ codes "send_timeout" = same in search rules)
        | SendAsync n ↦ λ some same. (let e : c.args.word.now ≡ codes "send_async" = same in search rules)
        | TrySend n ↦ λ some same. (let e : c.args.word.now ≡ codes "try_send" = same in search rules)
        | SetCapacity n ↦ λ some same. (let e : c.args.word.now ≡ codes "set_capacity" = same in search rules)
        | _ ↦ λ some same. cc
      ]) cut.1 cut.2;
}
