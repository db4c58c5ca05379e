pub mod Endings
pub mod Disks
pub mod Systems
pub mod Sources
pub mod Lines
pub mod WordsFaults
pub mod Commands
