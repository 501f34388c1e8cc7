pub mod Begun
mod Beside
mod Decided
mod DecidedTickets
mod EndPairs
mod EndServed
mod Furthest
mod Kept
pub mod PlainLists
mod Raised
mod RaisedTickets
mod Reached
mod Relocated
mod Retracted
mod RoomsBySteps
mod RunsBySteps
mod Undone
mod Within
pub mod Alike
pub mod Along
pub mod AtOffset
pub mod AtPairs
pub mod Collected
pub mod Common
pub mod Compacted
pub mod Filled
pub mod Followed
pub mod Held
pub mod Histories
pub mod Resized
pub mod Rooms
pub mod Rows
pub mod Runs
pub mod Splits
pub mod Stepped
pub mod SteppedPairs
pub mod Tickets
