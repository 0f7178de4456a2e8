-- The laws that other crates cite, what is stated of the two contents, and the computed examples.

pub mod Laws
pub mod TransformTheorems
pub mod PositionTheorems
pub mod Examples
