pub mod RankLaws
pub mod Searching
pub mod NamingLaws
pub mod CombinationLaws
pub mod SpaceLaws
pub mod StepLaws
pub mod RefusedLaws
