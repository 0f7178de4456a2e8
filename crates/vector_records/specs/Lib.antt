-- The definitions that the contracts are stated with. Nothing is proved here.
pub mod Records
pub mod Examples
