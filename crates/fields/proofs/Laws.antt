-- The laws of the definitions in specs/, which the proofs of this crate and of the crates above it cite.

pub mod Bytes
pub mod Lists
pub mod Numbers
pub mod Text
pub mod Received
pub mod Layout
pub mod Tables
pub mod Checks
pub mod Formats
pub mod Tests
pub mod Stores
pub mod Answer
pub mod Writers
pub mod Walks
