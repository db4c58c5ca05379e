pub mod PartMembers
pub mod ShapeViews
pub mod Names
pub mod Known
pub mod ByParts
pub mod Items
pub mod Plain
pub mod Rows
