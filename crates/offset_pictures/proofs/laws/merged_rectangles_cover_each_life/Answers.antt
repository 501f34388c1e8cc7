use Rattle.offset_pictures.proofs.Merged.{covers_law, drawn_law}
use Rattle.offset_pictures.proofs.laws.merged_rectangles_cover_each_life.Goals as goal

pub returns : goal.returns
returns c = record { covered = covers_law; drawn = drawn_law }
