pub mod Laws
pub mod BindWriterTheorems
pub mod Examples
