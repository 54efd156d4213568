-- An escape is read, or what follows the backslash is none.
use Rattle.std.proofs.Common.{true, sym}
use Rattle.lbnf_text.proofs.PartLemmas.{no_part, escape_part, no_escape_part}
use Rattle.lbnf_text.proofs.scanner.escape.Goals as goal

pub returns-in_default-clause-part : goal.returns-in_default-clause-part
returns-in_default-clause-part c quote = no_part quote true c.args.text.now c.in_default.ensures.split

pub returns-in-Some-escaped-clause-part : goal.returns-in-Some-escaped-clause-part
returns-in-Some-escaped-clause-part c quote =
    escape_part quote c.in-Some.first c.in-Some-escaped.scalar c.args.text.now c.in-Some.rest.now (sym c.in-Some-escaped.ensures.value) c.in-Some.ensures.split

pub returns-in-None-clause-part : goal.returns-in-None-clause-part
returns-in-None-clause-part c quote = no_escape_part quote c.in-Some.first c.args.text.now c.in-Some.rest.now (sym c.in-None.ensures.value) c.in-Some.ensures.split
