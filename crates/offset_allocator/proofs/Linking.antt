-- The blocks in space order, and unused names.
pub mod Dropped
pub mod Ends
pub mod Exchange
pub mod Names
pub mod Nodes
pub mod Parts
pub mod Places
pub mod Readied
pub mod Rows
pub mod Walks
pub mod Writes
