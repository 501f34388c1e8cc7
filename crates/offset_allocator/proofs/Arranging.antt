-- The cells of the two layouts.
pub mod Entries
pub mod Fields
