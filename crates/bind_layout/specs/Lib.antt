-- A BIND's children and how they are written; the parts of a content and the check of its layout; the statements about both.

pub mod Children
pub mod BindLayout
pub mod BundleTheorems
pub mod Examples
