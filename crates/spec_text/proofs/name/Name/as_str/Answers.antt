-- The bytes of a name are UTF-8.
use Rattle.std.proofs.lemmas.Str.{IsUtf8-had}
use Rattle.spec_text.proofs.name.Name.as_str.Goals as goal

pub unreachable-requires : goal.unreachable-requires
unreachable-requires c = c.in-Err.ensures.cases.0 (IsUtf8-had c.as_slice.result.now (rw c.as_slice.ensures.bytes c.as_slice.ensures.utf8))
