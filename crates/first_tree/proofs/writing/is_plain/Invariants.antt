-- The bytes so far are printed as they are.
use Rattle.std.proofs.Common.{◌≡◌, take}
use Rattle.spec_text.specs.Escapes.{printed}
use Rattle.first_tree.proofs.writing.is_plain.Given as goal

abbrev pub invariant-loop-byte : goal.invariant-loop-byte
invariant-loop-byte l = printed (take l.byte-index l.bytes) ≡ take l.byte-index l.bytes
