use Rattle.std.proofs.Common.{◌≡◌, take, string_bytes}
use Rattle.flume_script.specs.ReplyTexts.{reply_texts}
use Rattle.flume_script.proofs.writing.write_replies.Given as goal

abbrev pub invariant-loop-reply : goal.invariant-loop-reply
invariant-loop-reply g l = string_bytes l.text ≡ reply_texts (take l.reply-index l.replies)
