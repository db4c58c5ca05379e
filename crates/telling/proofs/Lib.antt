pub mod LeadingBack
pub mod OrderedTerms
pub mod OutlineLaws
pub mod SpansSay
pub mod UsesLaws
