pub mod Children
pub mod Written
pub mod Read
pub mod Marks
pub mod BundleTheorems
