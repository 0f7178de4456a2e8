-- The types; contents as trees and how they are written; the check; the statements about it; examples.

pub mod Kinds
pub mod Tree
pub mod ContentCheck
pub mod ContentTheorems
pub mod Examples
