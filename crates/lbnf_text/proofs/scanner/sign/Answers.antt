-- A sign is ASCII.
use Rattle.std.proofs.Common.{arith, sym, ◌∙◌}
use Rattle.lbnf_text.proofs.SignTextLemmas.{behind_sign}
use Rattle.lbnf_text.proofs.scanner.sign.Goals as goal

pub range_from-rest-requires : goal.range_from-rest-requires
range_from-rest-requires c some =
    let is = rw c.as_bytes.ensures.value at (sym c.byte_sign.ensures ∙ c.in_ok-sign.was) in
    behind_sign c.args.text.now c.in_ok-sign.sign c.utf8.text (omega (arith, c.as_bytes.ensures.len)) is
