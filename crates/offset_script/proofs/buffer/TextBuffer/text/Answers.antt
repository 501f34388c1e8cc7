use Rattle.std.proofs.lemmas.Str.{IsUtf8-from_is_utf8}
use Rattle.offset_script.proofs.buffer.TextBuffer.text.Goals as goal

pub returns-in-Err : goal.returns-in-Err
returns-in-Err g c = absurd (c.in-Err.ensures.cases.0 (IsUtf8-from_is_utf8 _ c.bytes.ensures.utf8))
