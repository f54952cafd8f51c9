-- Devices of the proofs, which nobody has to believe.
pub mod Lexing
pub mod Machine
pub mod Views
pub mod ReferenceViews
pub mod MarkupKinds
pub mod MarkupViews
pub mod AttributeViews
pub mod TagViews
pub mod Nodes
pub mod BuilderViews
pub mod ReaderViews
