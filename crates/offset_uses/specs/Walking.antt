-- A heap as text.
use Rattle.std.specs.Prelude.{ℕ, List, ◌++◌, Option, Some, None, codes}
use Rattle.std.specs.Fmt.{decimal}
use Rattle.offset_allocator.specs.View.{Handle}
use Rattle.offset_allocator.specs.Reporting.Listing.{Placed}

-- how a block's line ends
abbrev pub use_text : Option Handle → List ℕ
use_text None = codes " free\n"
use_text (Some _) = codes " used\n"

-- the line of a block, such as `at 16 size 8 used`
abbrev pub block_line : Placed → List ℕ
block_line p = codes "at " ++ decimal p.offset ++ codes " size " ++ decimal p.size ++ use_text p.handle
