-- A word that is no plain call's is no call, since a call with a number has a space.
use Rattle.std.proofs.Common.{◌≡◌, codes, sym, rules}
use Rattle.std.specs.Fmt.{decimal}
use Rattle.judge_calls.specs.declared.call.Call.TheVariants.{Send, SendTimeout, SendAsync, TrySend, SetCapacity, Recv, RecvTimeout}
use Rattle.judge_calls.specs.declared.call.Call.TheVariants.{RecvAsync, TryRecv}
use Rattle.judge_calls.specs.declared.call.Call.TheVariants.{Drain, CloneSender, CloneReceiver, DropSender, DropReceiver, Len, IsEmpty}
use Rattle.judge_calls.specs.declared.call.Call.TheVariants.{IsFull}
use Rattle.judge_calls.specs.declared.call.Call.TheVariants.{Capacity, SenderCount, ReceiverCount, IsDisconnected}
use Rattle.judge_calls.specs.Texts.{IsCallText}
use Rattle.judge_calls.proofs.CutLemmas.{has_byte}
use Rattle.judge_calls.proofs.call_texts.plain_call.Goals as goal

pub returns-else-is_text-16 : goal.returns-else-is_text-16
returns-else-is_text-16 c = record {
  value = λ call. elim call as (λ k. IsCallText c.args.word.now k → ⊥) [
    | Send n ↦ λ h. has_byte 32 (codes "send") (decimal n) c.args.word.now (sym h.0) c.requires.no_space
    | SendTimeout n ↦ λ h. has_byte 32 (codes "send_timeout") (decimal n) c.args.word.now (sym h.0) c.requires.no_space
    | SendAsync n ↦ λ h. has_byte 32 (codes "send_async") (decimal n) c.args.word.now (sym h.0) c.requires.no_space
    | TrySend n ↦ λ h. has_byte 32 (codes "try_send") (decimal n) c.args.word.now (sym h.0) c.requires.no_space
    | SetCapacity n ↦ λ h. has_byte 32 (codes "set_capacity") (decimal n) c.args.word.now (sym h.0) c.requires.no_space
    | Recv ↦ λ h. (let e : c.args.word.now ≡ codes "recv" = h.0 in search rules)
    | RecvTimeout ↦ λ h. (let e : c.args.word.now ≡ codes "recv_timeout" = h.0 in search rules)
    | RecvAsync ↦ λ h. (let e : c.args.word.now ≡ codes "recv_async" = h.0 in search rules)
    | TryRecv ↦ λ h. (let e : c.args.word.now ≡ codes "try_recv" = h.0 in search rules)
    | Drain ↦ λ h. (let e : c.args.word.now ≡ codes "drain" = h.0 in search rules)
    | CloneSender ↦ λ h. (let e : c.args.word.now ≡ codes "clone_sender" = h.0 in search rules)
    | CloneReceiver ↦ λ h. (let e : c.args.word.now ≡ codes "clone_receiver" = h.0 in search rules)
    | DropSender ↦ λ h. (let e : c.args.word.now ≡ codes "drop_sender" = h.0 in search rules)
    | DropReceiver ↦ λ h. (let e : c.args.word.now ≡ codes "drop_receiver" = h.0 in search rules)
    | Len ↦ λ h. (let e : c.args.word.now ≡ codes "len" = h.0 in search rules)
    | IsEmpty ↦ λ h. (let e : c.args.word.now ≡ codes "is_empty" = h.0 in search rules)
    | IsFull ↦ λ h. (let e : c.args.word.now ≡ codes "is_full" = h.0 in search rules)
    | Capacity ↦ λ h. (let e : c.args.word.now ≡ codes "capacity" = h.0 in search rules)
    | SenderCount ↦ λ h. (let e : c.args.word.now ≡ codes "sender_count" = h.0 in search rules)
    | ReceiverCount ↦ λ h. (let e : c.args.word.now ≡ codes "receiver_count" = h.0 in search rules)
    | IsDisconnected ↦ λ h. (let e : c.args.word.now ≡ codes "is_disconnected" = h.0 in search rules)
  ];
}
