-- Spaces as bytes, and copies of spaces.
pub mod Building
pub mod Copying
pub mod Faults
pub mod ListFaults
pub mod State
pub mod StateFaults
