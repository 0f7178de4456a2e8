-- Children as three lists; the writer; the statements about it.

pub mod ChildLists
pub mod BindWriter
pub mod BindWriterTheorems
pub mod Examples
