-- What tells a channel with a trace from all others.
use Rattle.std.specs.Prelude.{ℕ, Option, None}

-- the names of a channel's trace and of its parts, how many parts its parties have together, and
-- the capacity that it is opened with
pub record ChannelIdentity : Type 0 where
  pub trace_name : ℕ
  pub positions_name : ℕ
  pub parts_name : ℕ
  pub parts : ℕ
  pub capacity : Option ℕ

-- that of no channel, for a type that stands for whichever a proof picks
abbrev pub no_identity : ChannelIdentity
no_identity = record {
  trace_name = 0;
  positions_name = 0;
  parts_name = 0;
  parts = 0;
  capacity = None;
}
