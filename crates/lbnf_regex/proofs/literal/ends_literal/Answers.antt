-- The position of the last byte is one before that behind all.
use Rattle.std.proofs.Common.{◌+◌, ◌-◌, ◌<◌, length, arith}
use Rattle.std.specs.List.{Contains}
use Rattle.lbnf_regex.proofs.LiteralLemmas.{literal_ends, some_length}
use Rattle.lbnf_regex.proofs.literal.ends_literal.Goals as goal

pub returns-then-not-is_empty : goal.returns-then-not-is_empty
returns-then-not-is_empty c =
    let bytes = c.args.bytes.now in
    let first = c.args.first in
    let some : 0 < length bytes = some_length (length bytes) c.is_empty.result c.is_empty.ensures c.if-not-is_empty.true in
    let same =
    literal_ends bytes first (first + (length bytes - 1)) (Contains c.args.marks.now) some (omega (arith, some)) in
    (λ h. same.1 (c.has.ensures.0 h), λ h. c.has.ensures.1 (same.0 h))
