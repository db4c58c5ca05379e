mod Both
mod CutFiles
mod Telling
mod SameBytes
