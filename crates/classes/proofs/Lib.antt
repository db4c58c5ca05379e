pub mod TextOrder
pub mod Numerals
pub mod GroupLemmas
pub mod LastLemmas
pub mod SameClass
