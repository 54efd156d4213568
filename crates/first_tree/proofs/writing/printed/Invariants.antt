-- The text so far is what is printed of the bytes so far.
use Rattle.std.proofs.Common.{◌≡◌, take}
use Rattle.spec_text.specs.Escapes.{printed}
use Rattle.first_tree.proofs.writing.printed.Given as goal

abbrev pub invariant-loop-byte : goal.invariant-loop-byte
invariant-loop-byte l = l.text.items ≡ printed (take l.byte-index l.bytes)
