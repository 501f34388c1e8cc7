pub mod InPieces
pub mod Moved
pub mod Holes
pub mod Lacking
