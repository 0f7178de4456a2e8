-- The cursor at each child of a BIND content; what is proved of the walk.

pub mod Cursor
pub mod CursorTheorems
pub mod Examples
