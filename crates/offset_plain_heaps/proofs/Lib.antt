pub mod Following
pub mod FirstLists
pub mod TightLists
