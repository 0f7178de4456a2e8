pub mod Slices
pub mod Children
pub mod Layout
pub mod Encoding
pub mod Faults
