-- A reply that tells of no message is alike whatever was recorded and queued.
use Rattle.judge_search.proofs.replies.reply_for.Goals as goal

pub returns-in_default : goal.returns-in_default
returns-in_default g c = record { corresponds = c.plain_reply.ensures.corresponds c.args.events.now c.args.queue.now }
