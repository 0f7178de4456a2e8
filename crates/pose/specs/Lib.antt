-- The definitions that the contracts of this crate, and of the crates above it, are stated with. Nothing is proved here.

pub mod Words
pub mod Transform
pub mod TransformReader
pub mod TransformWriter
pub mod Position
pub mod PositionReader
pub mod PositionWriter
pub mod TransformTheorems
pub mod PositionTheorems
pub mod Examples
