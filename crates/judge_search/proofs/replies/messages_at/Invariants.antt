-- The messages of the places so far.
use Rattle.std.proofs.Common.{◌≡◌, Some, map, take}
use Rattle.judge_search.specs.Configurations.{message_at}
use Rattle.judge_search.proofs.replies.messages_at.Given as goal

abbrev pub invariant-loop-place : goal.invariant-loop-place
invariant-loop-place g l = map (message_at l.events) (take l.place-index l.places) ≡ map Some l.messages.items
