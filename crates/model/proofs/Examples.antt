-- Small cases at which the definitions say what they are meant to say.
pub mod Small
pub mod Refusal
pub mod Selected
pub mod Targets
pub mod Roots
pub mod Cycles
pub mod Weak
pub mod Held
pub mod Invalid
pub mod Tables
pub mod Preference
pub mod Gathered
pub mod Pieces
pub mod Kinds
pub mod Thirteen
pub mod Listed
