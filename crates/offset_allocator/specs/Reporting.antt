-- What is reported.
pub mod Walking
pub mod Dumping
pub mod FreeSizes
pub mod Listing
pub mod Reports
pub mod Statistics
