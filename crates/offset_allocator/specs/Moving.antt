-- Live ranges that slide, what that costs and copies, and what empties the end of a space.
pub mod Budget
pub mod BySteps
pub mod Compacting
pub mod Gaps
pub mod Passes
pub mod Pieces
pub mod Relocating
pub mod Retracting
pub mod Room
pub mod RoomBySteps
pub mod Spans
