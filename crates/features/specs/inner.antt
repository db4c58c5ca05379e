pub mod NameTexts
pub mod Tables
pub mod Places
pub mod Texts
pub mod Drafts
pub mod DraftViews
pub mod Valid
pub mod TextMaps
