pub mod Ends
pub mod Cursor
