-- What is reported.
pub mod AlongLive
pub mod Counting
pub mod Dumped
pub mod Foremost
pub mod Largest
pub mod Listing
pub mod Nearby
