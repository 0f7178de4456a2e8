-- The header and how it is written; its check, reader and writer; the statements about them; the time stamp; examples.

pub mod Header
pub mod HeaderReader
pub mod HeaderWriter
pub mod HeaderTheorems
pub mod TimeStamp
pub mod Examples
