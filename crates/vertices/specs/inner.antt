pub mod RefViews
pub mod Same
pub mod Valid
