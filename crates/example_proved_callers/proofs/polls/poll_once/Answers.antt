-- The future was made with this message, and says so of what it hands back.
use Rattle.std.proofs.Common.{◌≡◌, sym, ◌∙◌, rules}
use Rattle.example_proved_callers.proofs.polls.poll_once.Goals as goal

pub returns-in-Ready-Err-Disconnected : goal.returns-in-Ready-Err-Disconnected
returns-in-Ready-Err-Disconnected g c = record {
  same = λ back e.
      let mine : c.in-Ready-Err-Disconnected.back ≡ back = cc in
      sym mine ∙ c.in-Ready-Err-Disconnected.ensures.disconnected _ _ c.send_async-send.ensures.message (search rules);
}

pub returns-in-Ready-Err-NoMemory : goal.returns-in-Ready-Err-NoMemory
returns-in-Ready-Err-NoMemory g c = record {
  same = λ back e.
      let mine : c.in-Ready-Err-NoMemory.back ≡ back = cc in
      sym mine ∙ c.in-Ready-Err-NoMemory.ensures.no_memory _ _ c.send_async-send.ensures.message (search rules);
}
