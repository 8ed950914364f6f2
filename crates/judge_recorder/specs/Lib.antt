pub mod Answers
pub mod Records
pub mod Drains
pub mod Merged
pub mod Texts
pub mod RecordingErrors
pub mod Led
