pub mod Lookup
pub mod Past
pub mod Cases
pub mod LookupTheorems
pub mod EitherTheorems
pub mod Judged
