-- Look-ups in one bundle; look-ups in two; the statements about both.

pub mod ChildLookup
pub mod EitherLookup
pub mod LookupTheorems
pub mod Examples
