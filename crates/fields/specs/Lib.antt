-- The definitions that the contracts of this crate, and of every crate above it, are stated with. Nothing is proved here.

pub mod Bytes
pub mod Lists
pub mod Numbers
pub mod Text
pub mod Received
pub mod Layout
pub mod Tables
pub mod Checks
pub mod Formats
pub mod Fault
pub mod Answer
pub mod Writers
pub mod Examples
