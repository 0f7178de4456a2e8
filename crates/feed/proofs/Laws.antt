-- The laws of the definitions in specs/, which the proofs of this crate cite.

pub mod Stores
pub mod Rows
pub mod Pushes
pub mod Readings
pub mod Cuts
pub mod Sent
pub mod Answers
pub mod FeedTheorems
pub mod Code
