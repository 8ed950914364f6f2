use Rattle.std.proofs.Common.{[], ap, arith, refl, sym, ◌∙◌, ◌≡◌, ◌++◌, ◌∷◌, false, length, suc, true, append_assoc, append-nil}
use Rattle.flume_state.proofs.MessageLemmas.{none_left, on_err}
use Rattle.flume_state.proofs.messages.MessageChain.drain_queued.Goals as goal

pub returns-in_err-list-clause-none_queued : goal.returns-in_err-list-clause-none_queued
returns-in_err-list-clause-none_queued g c =
    let long : length c.args.self.now.queued ≡ c.queued_len.result = sym c.queued_len.ensures.len in
    on_err c.from_residual.result _ (λ none.
    let failed : false ≡ true = c.in_err-list.ensures.succeeds (sym long ∙ ap length none) in let no_bit : ⊥ = cc in no_bit)

pub loop-message-init : goal.loop-message-init
loop-message-init g c =
    let e = c.in_ok-list.ensures in
    let long : length c.args.self.now.queued ≡ c.queued_len.result = sym c.queued_len.ensures.len in
    (rw e.items refl, refl, refl, omega (arith, long, e.len, e.capacity))

pub push_reserved-requires : goal.push_reserved-requires
push_reserved-requires g c = omega (arith, ap (λ m. length m.queued) c.in-Some.ensures.taken, c.loop-message.invariant.3)

pub loop-message-smaller : goal.loop-message-smaller
loop-message-smaller g c = omega (arith, ap (λ m. length m.queued) c.in-Some.ensures.taken)

pub loop-message-preserved : goal.loop-message-preserved
loop-message-preserved g c =
    let less : length c.loop-message.self.queued ≡ suc (length c.take_queued.new.self.queued) =
    ap (λ m. length m.queued) c.in-Some.ensures.taken in
    let list = c.loop-message.list.items in
    let rest = c.take_queued.new.self.queued in
    let pushed = c.push_reserved.ensures in
    let moved : (list ++ c.in-Some.message ∷ []) ++ rest ≡ list ++ c.loop-message.self.queued =
    append_assoc list (c.in-Some.message ∷ []) rest ∙ ap (λ m. list ++ m.queued) (sym c.in-Some.ensures.taken) in (
      rw pushed.items (moved ∙ c.loop-message.invariant.0),
      ap (λ m. m.blocked) (sym c.in-Some.ensures.taken) ∙ c.loop-message.invariant.1,
      ap (λ m. m.space) (sym c.in-Some.ensures.taken) ∙ c.loop-message.invariant.2,
      omega (arith, less, c.loop-message.invariant.3, pushed.len, pushed.capacity),
    )

pub returns-clause-drained : goal.returns-clause-drained
returns-clause-drained g c =
    let list = c.loop-message.list.items in
    sym (append-nil list) ∙ ap (λ xs. list ++ xs) (sym c.in_default.ensures.none_queued) ∙ c.loop-message.invariant.0

pub returns-clause-becomes : goal.returns-clause-becomes
returns-clause-becomes g c =
    none_left c.args.self.now c.loop-message.self c.take_queued.new.self c.in_default.ensures.unchanged
    c.in_default.ensures.none_queued c.loop-message.invariant.1 c.loop-message.invariant.2
