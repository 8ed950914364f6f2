pub mod ScriptLineLemmas
pub mod ScriptNumberLemmas
pub mod ScriptWordLemmas
pub mod PlainStepLemmas
pub mod ScriptStepLemmas
pub mod ScriptReplyLemmas
