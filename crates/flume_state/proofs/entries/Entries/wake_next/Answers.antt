use Rattle.std.proofs.Common.{ap, sym, ◌∙◌}
use Rattle.flume_state.specs.Notices.{due_now}
use Rattle.flume_state.specs.layout.EntryLayout.{entries_in, with_first_marked}
use Rattle.flume_chain.specs.ChangedAt.{with_value_at}
use Rattle.flume_state.proofs.EntryPartLemmas.{read_some, read_value}
use Rattle.flume_state.proofs.EntryDueLemmas.{nobody_marked, sorted_woken, waits_at, waits_some, woken_entries, woken_value}
use Rattle.flume_state.proofs.entries.Entries.wake_next.Goals as goal

pub returns-in_default : goal.returns-in_default
returns-in_default g c = record {
  woken = sym c.self.view_is ∙ nobody_marked due_now c.args.mark _ _ _ _ c.self.invariant c.in_default.is
      ∙ ap (with_first_marked due_now c.args.mark) c.self.view_is;
}

pub returns-in_default-get_mut : goal.returns-in_default-get_mut
returns-in_default-get_mut g c =
    let w = waits_at _ _ _ _ _ c.self.invariant c.in-Some.is in
    absurd (read_some _ _ _ w.here c.in_default-get_mut.ensures.value)

pub overflow_sub-self : goal.overflow_sub-self
overflow_sub-self g c = waits_some _ _ _ _ _ _ (waits_at _ _ _ _ _ c.self.invariant c.in-Some.is)

pub invariant_of-self-2 : goal.invariant_of-self-2
invariant_of-self-2 g c =
    let w = waits_at _ _ _ _ _ c.self.invariant c.in-Some.is in
    let value = read_value _ _ _ _ w.here c.in-Some-get_mut.ensures.value in
    rw (value, c.next-next.ensures.next) (sorted_woken _ _ _ _ _ c.args.mark c.self.invariant w c.requires.awake)

pub returns : goal.returns
returns g c =
    let w = waits_at _ _ _ _ _ c.self.invariant c.in-Some.is in
    let value = read_value _ _ _ _ w.here c.in-Some-get_mut.ensures.value in
    record {
      woken = ap (λ p. entries_in (with_value_at c.in-Some.place c.self.inside.chain (woken_value c.args.mark p))) value
          ∙ woken_entries _ _ _ _ _ c.args.mark c.self.invariant w ∙ ap (with_first_marked due_now c.args.mark) c.self.view_is;
    }
