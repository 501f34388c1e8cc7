-- Spaces as bytes, and copies of spaces.
pub mod Alike
pub mod Backwards
pub mod Bytes
pub mod FaultPlaces
pub mod Firsts
pub mod Freed
pub mod Headed
pub mod Laying
pub mod Marks
pub mod Reads
pub mod Restored
pub mod Saved
pub mod StateWords
pub mod Surveys
