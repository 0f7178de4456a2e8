-- The definitions that the contracts of this crate are stated with, and what is proved of them. Nothing is proved here.

pub mod Image
pub mod ImageReader
pub mod ImageWriter
pub mod ImageTheorems
pub mod Examples
