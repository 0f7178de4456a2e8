-- The laws that other crates cite, and the computed examples.

pub mod Header
pub mod Rule
pub mod Laws
pub mod Examples
