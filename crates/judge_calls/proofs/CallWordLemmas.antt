-- Where the word of a call ends: at the first space of its text.
use Rattle.std.proofs.Common.{◌≡◌, ℕ, Option, Some, None, List, ◌∷◌, ◌++◌, refl, codes, rules}
use Rattle.std.specs.Fmt.{decimal}
use Rattle.judge_calls.specs.declared.call.Call.{Call}
use Rattle.judge_calls.specs.declared.call.Call.TheVariants.{Send, SendTimeout, SendAsync, TrySend, SetCapacity, Recv, RecvTimeout}
use Rattle.judge_calls.specs.declared.call.Call.TheVariants.{RecvAsync, TryRecv}
use Rattle.judge_calls.specs.declared.call.Call.TheVariants.{Drain, CloneSender, CloneReceiver, DropSender, DropReceiver, Len, IsEmpty}
use Rattle.judge_calls.specs.declared.call.Call.TheVariants.{IsFull}
use Rattle.judge_calls.specs.declared.call.Call.TheVariants.{Capacity, SenderCount, ReceiverCount, IsDisconnected}
use Rattle.judge_calls.specs.Texts.{call_word, worded}
use Rattle.judge_calls.proofs.CutLemmas.{Without, without, has_byte, same_cuts}

-- the word of a call has no space
pub word_without : (call : Call ℕ) → Without 32 (call_word call)
word_without (Send n) = without 32 (codes "send") (search rules)
word_without (SendTimeout n) = without 32 (codes "send_timeout") (search rules)
word_without (SendAsync n) = without 32 (codes "send_async") (search rules)
word_without (TrySend n) = without 32 (codes "try_send") (search rules)
word_without (SetCapacity n) = without 32 (codes "set_capacity") (search rules)
word_without Recv = without 32 (codes "recv") (search rules)
word_without RecvTimeout = without 32 (codes "recv_timeout") (search rules)
word_without RecvAsync = without 32 (codes "recv_async") (search rules)
word_without TryRecv = without 32 (codes "try_recv") (search rules)
word_without Drain = without 32 (codes "drain") (search rules)
word_without CloneSender = without 32 (codes "clone_sender") (search rules)
word_without CloneReceiver = without 32 (codes "clone_receiver") (search rules)
word_without DropSender = without 32 (codes "drop_sender") (search rules)
word_without DropReceiver = without 32 (codes "drop_receiver") (search rules)
word_without Len = without 32 (codes "len") (search rules)
word_without IsEmpty = without 32 (codes "is_empty") (search rules)
word_without IsFull = without 32 (codes "is_full") (search rules)
word_without Capacity = without 32 (codes "capacity") (search rules)
word_without SenderCount = without 32 (codes "sender_count") (search rules)
word_without ReceiverCount = without 32 (codes "receiver_count") (search rules)
word_without IsDisconnected = without 32 (codes "is_disconnected") (search rules)

-- a text with a space that is a word and maybe a number is the word, the space and the number
pub cut_worded : (before later word : List ℕ) (number : Option ℕ) → Without 32 before → Without 32 word
    → before ++ 32 ∷ later ≡ worded word number → (n : ℕ) × (number ≡ Some n) × (before ≡ word) × (later ≡ decimal n)
cut_worded before later word None none plain e = absurd (has_byte 32 before later word e plain)
cut_worded before later word (Some n) none plain e =
    let same = same_cuts 32 before word later (decimal n) none plain e in
    (n, refl, same.0, same.1)
