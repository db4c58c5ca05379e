-- A small case at which a definition says what it is meant to say.
pub mod Ring
