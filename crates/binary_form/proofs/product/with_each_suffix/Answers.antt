use Rattle.std.proofs.Common.{take, get_or}
use Rattle.std.proofs.lemmas.List.{take_more, take_all}
use Rattle.std.proofs.lemmas.List.Elements.{Contains-get_or}
use Rattle.binary_form.specs.Products.{SuffixGives}
use Rattle.binary_form.proofs.GivingLemmas.{adds_more}
use Rattle.binary_form.proofs.product.with_each_suffix.Goals as goal

pub with_suffix-requires-clause-below : goal.with_suffix-requires-clause-below
with_suffix-requires-clause-below g c κs within =
    let suffixes = c.args.suffixes.now in
    let place = c.loop-suffix.suffix-index in
    c.requires.below (get_or suffixes place 0) (Contains-get_or suffixes place 0 c.loop-suffix-test.true)

pub loop-suffix-preserved : goal.loop-suffix-preserved
loop-suffix-preserved g c =
    let symbols = g.C.Cell.symbols in
    let suffixes = c.args.suffixes.now in
    let place = c.loop-suffix.suffix-index in
    rw (take_more suffixes place 0 c.loop-suffix-test.true)
    (adds_more (SuffixGives symbols c.args.closures.now (symbols c.args.right.now)) (take place suffixes)
    (get_or suffixes place 0) (symbols c.args.start) (symbols c.loop-suffix.cell) (symbols c.in_ok-cell.cell)
    c.loop-suffix.invariant c.in_ok-cell.ensures)

pub returns : goal.returns
returns g c =
    let suffixes = c.args.suffixes.now in
    rw (take_all c.loop-suffix.suffix-index suffixes c.loop-suffix-test.false) at c.loop-suffix.invariant
