-- One more was sent.
use Rattle.std.proofs.Common.{◌≡◌, [], ◌∷◌, ◌++◌, sym, ◌∙◌, ap, append_assoc, rules}
use Rattle.example_proved_callers.proofs.refusals.offer_all.Goals as goal

pub loop-message-preserved : goal.loop-message-preserved
loop-message-preserved g c =
    let so_far = c.loop-message.invariant.parts in
    let message = c.in-Some.message in
    let rest = c.pop_front.new.self.items in
    let next : c.loop-message.messages.items ≡ message ∷ rest = search rules in
    record {
      parts = (
        so_far.0 ++ message ∷ [],
        so_far.1 ∙ ap (λ l. so_far.0 ++ l) next ∙ sym (append_assoc so_far.0 (message ∷ []) rest),
      );
    }
