pub mod SameRuns
pub mod Equal
pub mod Histories
pub mod HandedIn
pub mod HistoryText
