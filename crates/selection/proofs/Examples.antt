-- Small cases at which the definitions say what they are meant to say.
pub mod Preference
