pub mod Asked
pub mod WhyThere
