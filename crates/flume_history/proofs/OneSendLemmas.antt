-- A send, and a blocked one that asks or leaves, has at most one reply other than `NoMemory`.
use Rattle.std.proofs.Common.{◌≡◌, ℕ}
use Rattle.std.proofs.Common.{refl, sym, ◌∙◌, ap, arith}
use Rattle.flume_model.specs.declared.step.Step.TheVariants.{TrySend, Send, PollSend, WithdrawSend}
use Rattle.flume_model.specs.declared.step.Reply.TheVariants.{Sent, Full, Closed, NoMemory, Spent}
use Rattle.flume_model.specs.declared.step.Reply.TheVariants.{Pending, Accepted, Waiting, Returned}
use Rattle.flume_model.specs.declared.step.Reply.TheVariants.{NoTicket}
use Rattle.flume_model.specs.Channel.{Channel, IsBlocked}
use Rattle.flume_model.specs.Replies.{IsReply}
use Rattle.flume_history.proofs.FunctionLemmas.{ap2}
use Rattle.flume_history.proofs.ApartLemmas.{open_or_closed, in_or_none, blocked_or_taken, dead_or_live, taken_or_not, Determines}

module _ {T A : Type 0} (c : Channel T) where
  -- a tried send
  pub try_send : (m : T) → Determines A (IsReply c (TrySend m))
  try_send m (NoMemory back) other h k n o = absurd (n tt)
  try_send m reply (NoMemory back) h k n o = absurd (o tt)
  try_send m (Sent filled) (Sent other) h k n o = ap (λ filled. Sent filled) (h.1 ∙ sym k.1)
  try_send m (Sent filled) (Full other) h k n o = absurd (in_or_none c h.0 k.0)
  try_send m (Sent filled) (Closed other) h k n o = absurd (open_or_closed c h.0.0 k.0)
  try_send m (Sent filled) _ h k n o = absurd k
  try_send m (Full back) (Sent other) h k n o = absurd (in_or_none c k.0 h.0)
  try_send m (Full back) (Full other) h k n o = ap (λ back. Full back) (h.1 ∙ sym k.1)
  try_send m (Full back) (Closed other) h k n o = absurd (open_or_closed c h.0.0 k.0)
  try_send m (Full back) _ h k n o = absurd k
  try_send m (Closed back) (Sent other) h k n o = absurd (open_or_closed c k.0.0 h.0)
  try_send m (Closed back) (Full other) h k n o = absurd (open_or_closed c k.0.0 h.0)
  try_send m (Closed back) (Closed other) h k n o = ap (λ back. Closed back) (h.1 ∙ sym k.1)
  try_send m (Closed back) _ h k n o = absurd k
  try_send m _ _ h k n o = absurd h

  -- a send
  pub send : (m : T) → Determines A (IsReply c (Send m))
  send m (NoMemory back) other h k n o = absurd (n tt)
  send m reply (NoMemory back) h k n o = absurd (o tt)
  send m (Sent filled) (Sent other) h k n o = ap (λ filled. Sent filled) (h.1 ∙ sym k.1)
  send m (Sent filled) (Pending u) h k n o = absurd (in_or_none c h.0 k.0)
  send m (Sent filled) (Spent other) h k n o = absurd (in_or_none c h.0 k.0)
  send m (Sent filled) (Closed other) h k n o = absurd (open_or_closed c h.0.0 k.0)
  send m (Sent filled) _ h k n o = absurd k
  send m (Pending t) (Sent other) h k n o = absurd (in_or_none c k.0 h.0)
  send m (Pending t) (Pending u) h k n o = ap (λ t. Pending t) (h.2 ∙ sym k.2)
  send m (Pending t) (Spent other) h k n o = absurd (let less = h.1 in let not_less = k.1 in omega arith)
  send m (Pending t) (Closed other) h k n o = absurd (open_or_closed c h.0.0 k.0)
  send m (Pending t) _ h k n o = absurd k
  send m (Spent back) (Sent other) h k n o = absurd (in_or_none c k.0 h.0)
  send m (Spent back) (Pending u) h k n o = absurd (let less = k.1 in let not_less = h.1 in omega arith)
  send m (Spent back) (Spent other) h k n o = ap (λ back. Spent back) (h.2 ∙ sym k.2)
  send m (Spent back) (Closed other) h k n o = absurd (open_or_closed c h.0.0 k.0)
  send m (Spent back) _ h k n o = absurd k
  send m (Closed back) (Sent other) h k n o = absurd (open_or_closed c k.0.0 h.0)
  send m (Closed back) (Pending u) h k n o = absurd (open_or_closed c k.0.0 h.0)
  send m (Closed back) (Spent other) h k n o = absurd (open_or_closed c k.0.0 h.0)
  send m (Closed back) (Closed other) h k n o = ap (λ back. Closed back) (h.1 ∙ sym k.1)
  send m (Closed back) _ h k n o = absurd k
  send m _ _ h k n o = absurd h

  -- a blocked send that asks
  pub poll_send :
      ((t : ℕ) (m back : T) → IsBlocked c t m → IsBlocked c t back → m ≡ back) → (t : ℕ)
      → Determines A (IsReply c (PollSend t))
  poll_send one t (NoMemory back) other h k n o = absurd (n tt)
  poll_send one t reply (NoMemory back) h k n o = absurd (o tt)
  poll_send one t NoTicket NoTicket h k n o = refl
  poll_send one t NoTicket Accepted h k n o = absurd (dead_or_live c t h k.0)
  poll_send one t NoTicket Waiting h k n o = absurd (dead_or_live c t h k.0.0)
  poll_send one t NoTicket (Returned back other) h k n o = absurd (dead_or_live c t h k.0.0)
  poll_send one t NoTicket _ h k n o = absurd k
  poll_send one t Accepted NoTicket h k n o = absurd (dead_or_live c t k h.0)
  poll_send one t Accepted Accepted h k n o = refl
  poll_send one t Accepted Waiting h k n o = absurd (taken_or_not c t h.1 k.0.1)
  poll_send one t Accepted (Returned back other) h k n o = absurd (blocked_or_taken c t _ k.0 h.1)
  poll_send one t Accepted _ h k n o = absurd k
  poll_send one t Waiting NoTicket h k n o = absurd (dead_or_live c t k h.0.0)
  poll_send one t Waiting Accepted h k n o = absurd (taken_or_not c t k.1 h.0.1)
  poll_send one t Waiting Waiting h k n o = refl
  poll_send one t Waiting (Returned back other) h k n o = absurd (open_or_closed c h.1 k.1)
  poll_send one t Waiting _ h k n o = absurd k
  poll_send one t (Returned m closed) NoTicket h k n o = absurd (dead_or_live c t k h.0.0)
  poll_send one t (Returned m closed) Accepted h k n o = absurd (blocked_or_taken c t _ h.0 k.1)
  poll_send one t (Returned m closed) Waiting h k n o = absurd (open_or_closed c k.1 h.1)
  poll_send one t (Returned m closed) (Returned back other) h k n o =
      ap2 (λ m closed. Returned m closed) (one t m back h.0 k.0) (h.2 ∙ sym k.2)
  poll_send one t (Returned m closed) _ h k n o = absurd k
  poll_send one t _ _ h k n o = absurd h

  -- a blocked send that leaves
  pub withdraw_send :
      ((t : ℕ) (m back : T) → IsBlocked c t m → IsBlocked c t back → m ≡ back) → (t : ℕ)
      → Determines A (IsReply c (WithdrawSend t))
  withdraw_send one t (NoMemory back) other h k n o = absurd (n tt)
  withdraw_send one t reply (NoMemory back) h k n o = absurd (o tt)
  withdraw_send one t NoTicket NoTicket h k n o = refl
  withdraw_send one t NoTicket Accepted h k n o = absurd (dead_or_live c t h k.0)
  withdraw_send one t NoTicket (Returned back other) h k n o = absurd (dead_or_live c t h k.0.0)
  withdraw_send one t NoTicket _ h k n o = absurd k
  withdraw_send one t Accepted NoTicket h k n o = absurd (dead_or_live c t k h.0)
  withdraw_send one t Accepted Accepted h k n o = refl
  withdraw_send one t Accepted (Returned back other) h k n o = absurd (blocked_or_taken c t _ k.0 h.1)
  withdraw_send one t Accepted _ h k n o = absurd k
  withdraw_send one t (Returned m closed) NoTicket h k n o = absurd (dead_or_live c t k h.0.0)
  withdraw_send one t (Returned m closed) Accepted h k n o = absurd (blocked_or_taken c t _ h.0 k.1)
  withdraw_send one t (Returned m closed) (Returned back other) h k n o =
      ap2 (λ m closed. Returned m closed) (one t m back h.0 k.0) (h.1 ∙ sym k.1)
  withdraw_send one t (Returned m closed) _ h k n o = absurd k
  withdraw_send one t _ _ h k n o = absurd h
