-- The cleaned bytes of a content; the statement about them; examples.

pub mod CleanBytes
pub mod CleaningTheorems
pub mod Examples
