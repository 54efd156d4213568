-- What comes next is told by its first scalar.
use Rattle.std.proofs.Common.{false}
use Rattle.lbnf_text.proofs.PartLemmas.{no_part, close_part, backslash_part, line_end_part, scalar_part}
use Rattle.lbnf_text.proofs.scanner.next_part.Goals as goal

pub returns-in_default-clause-part : goal.returns-in_default-clause-part
returns-in_default-clause-part c = no_part c.args.quote false c.args.text.now c.in_default.ensures.split

pub returns-then-first-quote-clause-part : goal.returns-then-first-quote-clause-part
returns-then-first-quote-clause-part c =
    close_part c.args.quote c.in-Some.first c.args.text.now c.in-Some.rest.now
    c.requires c.if-first-quote.true c.in-Some.ensures.split

pub returns-then-first-eq92-clause-part : goal.returns-then-first-eq92-clause-part
returns-then-first-eq92-clause-part c =
    backslash_part c.args.quote c.in-Some.first c.args.text.now c.in-Some.rest.now c.escape.result
    c.requires c.if-first-eq92.true c.in-Some.ensures.split (c.escape.ensures.part c.args.quote)

pub returns-then-first-eq10-clause-part : goal.returns-then-first-eq10-clause-part
returns-then-first-eq10-clause-part c =
    line_end_part c.args.quote c.in-Some.first c.args.text.now c.in-Some.rest.now
    c.requires c.if-first-eq10.true c.in-Some.ensures.split

pub returns-else-first-eq10-clause-part : goal.returns-else-first-eq10-clause-part
returns-else-first-eq10-clause-part c =
    scalar_part c.args.quote c.in-Some.first c.args.text.now c.in-Some.rest.now
    c.requires c.if-first-quote.false c.if-first-eq92.false c.if-first-eq10.false c.in-Some.ensures.split
