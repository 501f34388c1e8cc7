pub mod PlainHeaps
