use Rattle.std.proofs.Common.{Some, ap, sym, ◌∙◌}
use Rattle.flume_state.specs.Notices.{due_now}
use Rattle.flume_state.proofs.EntryRoundLemmas.{fewer_wait}
use Rattle.flume_state.proofs.EntryWakeLemmas.{wakes_first, wakes_stream, woke_block, woke_over, woke_plain}
use Rattle.flume_state.proofs.entries.Entries.wake_round.Goals as goal

pub loop-ticket-init : goal.loop-ticket-init
loop-ticket-init g c = wakes_first due_now _ _ c.requires.queued

pub loop-ticket-smaller : goal.loop-ticket-smaller
loop-ticket-smaller g c =
    rw c.wake_next.ensures.woken (fewer_wait due_now _ (c.in-Some.ticket, c.in-Some.kind) (sym c.next_waiting.ensures.first ∙ c.in-Some.is))

pub loop-ticket-preserved : goal.loop-ticket-preserved
loop-ticket-preserved g c =
    wakes_stream due_now _ _ _ _ _ c.in-Some.ticket c.loop-ticket.invariant
    (sym c.next_waiting.ensures.first ∙ c.in-Some.is ∙ ap (λ k. Some (c.in-Some.ticket, k)) c.in-Stream.is) c.wake_next.ensures.woken

pub returns-in-Block : goal.returns-in-Block
returns-in-Block g c =
    let woke = woke_block due_now _ _ _ _ _ _ c.in-Some.ticket c.in_ok-front-in-Block.front c.loop-ticket.invariant
    (sym c.next_waiting.ensures.first ∙ c.in-Some.is ∙ ap (λ k. Some (c.in-Some.ticket, k)) c.in-Block.is)
    c.in_ok-front-in-Block.ensures.taken c.wake_next-in-Block.ensures.woken in
    record { fills = woke.fills; woken = woke.woken; queue = woke.queue }

pub returns-in-Plain : goal.returns-in-Plain
returns-in-Plain g c =
    let woke = woke_plain due_now _ _ _ _ _ c.in-Some.ticket c.in-Some.kind c.loop-ticket.invariant
    (sym c.next_waiting.ensures.first ∙ c.in-Some.is) c.in-Plain.is c.wake_next-in-Plain.ensures.woken in
    record { fills = woke.fills; woken = woke.woken; queue = woke.queue }

pub returns : goal.returns
returns g c =
    let woke = woke_over due_now _ _ _ _ c.loop-ticket.invariant (sym c.next_waiting.ensures.first ∙ c.in_default.is) in
    record { fills = woke.fills; woken = woke.woken; queue = woke.queue }
