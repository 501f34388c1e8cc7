-- What contracts see of the two adapters.
use Rattle.std.specs.Prelude.{Bool}

-- a reader, and whether a read of it has failed
pub record Reading (R : Type 0) : Type 0 where
  pub inner : R
  pub has_failed : Bool

-- a writer, whether a write and whether a flush of it has failed, and whether the last call was a flush that succeeded
pub record Writing (W : Type 0) : Type 0 where
  pub inner : W
  pub push_has_failed : Bool
  pub flush_has_failed : Bool
  pub is_flushed : Bool
