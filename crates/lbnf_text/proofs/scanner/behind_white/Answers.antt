-- A white byte is ASCII.
use Rattle.std.proofs.Common.{arith, sym, ◌∙◌}
use Rattle.lbnf_text.proofs.CommentLemmas.{behind_white_byte}
use Rattle.lbnf_text.proofs.scanner.behind_white.Goals as goal

pub range_from-requires : goal.range_from-requires
range_from-requires c some =
    let white = rw c.as_bytes.ensures.value at (sym c.is_white.ensures ∙ c.if-is_white.true) in
    behind_white_byte c.args.text.now c.utf8.text (omega (arith, c.as_bytes.ensures.len)) white
