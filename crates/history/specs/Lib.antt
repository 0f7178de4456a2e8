-- The calls; numbered places; what bytes are; the book; the history of a sequence of calls; what follows from its words; examples. No
-- definition speaks of a panel.

pub mod Calls
pub mod Places
pub mod Reading
pub mod Summary
pub mod History
pub mod Words
pub mod Examples
pub mod BookExamples
