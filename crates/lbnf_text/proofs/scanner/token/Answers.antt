-- A quote is ASCII.
use Rattle.std.proofs.Common.{arith}
use Rattle.std.proofs.lemmas.Str.{IsCharBoundary-after_ascii}
use Rattle.lbnf_text.proofs.scanner.token.Goals as goal

pub range_from-requires : goal.range_from-requires
range_from-requires c some =
    let is = rw c.as_bytes.ensures.value at c.if-byte-eq34.true in
    IsCharBoundary-after_ascii c.args.text.now 0 c.utf8.text (omega (arith, c.as_bytes.ensures.len)) (omega (arith, is))

pub range_from-requires-then-byte-eq39 : goal.range_from-requires-then-byte-eq39
range_from-requires-then-byte-eq39 c some =
    let is = rw c.as_bytes.ensures.value at c.if-byte-eq39.true in
    IsCharBoundary-after_ascii c.args.text.now 0 c.utf8.text (omega (arith, c.as_bytes.ensures.len)) (omega (arith, is))
