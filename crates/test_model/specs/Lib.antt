pub mod Rows
pub mod FillRows
