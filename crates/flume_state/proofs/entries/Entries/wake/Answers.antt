use Rattle.std.proofs.Common.{None, ap, sym, ◌∙◌}
use Rattle.flume_state.specs.Notices.{due_now}
use Rattle.flume_model.specs.Entries.{waiting_count}
use Rattle.flume_state.proofs.EntryWakeLemmas.{Woke, idle_by_count, idle_by_queue}
use Rattle.flume_state.proofs.entries.Entries.wake.Goals as goal
use Rattle.flume_state.proofs.entries.Entries.wake.Goals.{then-self-eq0-via-then-self-eq0}
use Rattle.flume_state.proofs.entries.Entries.wake.Goals.{then-self-eq0-via-else-self-eq0+then-queued_len-eq0}

pub returns-then-self-eq0 : goal.returns-then-self-eq0
returns-then-self-eq0 g c =
    let woke : Woke due_now c.args.self.now c.args.line.now None c.args.self.now c.args.line.now = elim c.then-self-eq0.branch [
      | then-self-eq0-via-then-self-eq0 w ↦
          idle_by_count due_now c.args.self.now c.args.line.now
          (ap waiting_count (sym c.self.view_is) ∙ sym c.self.invariant.count ∙ w.if-self-eq0.true)
      | then-self-eq0-via-else-self-eq0+then-queued_len-eq0 w ↦
          idle_by_queue due_now c.args.self.now c.args.line.now (sym w.queued_len.ensures.len ∙ w.if-queued_len-eq0.true)
    ] in
    record { fills = woke.fills; woken = woke.woken; queue = woke.queue }

pub wake_round-requires : goal.wake_round-requires
wake_round-requires g c = record { queued = λ none. c.if-queued_len-eq0.false (c.queued_len.ensures.len ∙ none) }
