pub mod BareVersions
