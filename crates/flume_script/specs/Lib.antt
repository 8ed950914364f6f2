pub mod Script
pub mod ReplyTexts
pub mod Reading
pub mod Program
pub mod Serving
