pub mod ValidLemmas
pub mod PathLemmas
pub mod FileLaws
pub mod KeptLemmas
pub mod SplitLemmas
