-- The bins and their masks.
pub mod Binned
pub mod Filed
pub mod Find
pub mod Masks
pub mod Uses
