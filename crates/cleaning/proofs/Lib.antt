-- The laws that other crates cite, and the computed examples.

pub mod Laws
pub mod Examples
