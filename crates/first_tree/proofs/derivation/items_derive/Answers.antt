-- No items derive the empty spans, and others what the suffix that they are does.
use Rattle.std.proofs.Common.{◌<◌, length, sym, arith}
use Rattle.std.specs.Prelude.{nat_eq}
use Rattle.binary_form.specs.Symbols.{suffix}
use Rattle.first_tree.proofs.DerivationLemmas.{derived_by_none, derived_by_suffix, same_tells}
use Rattle.first_tree.proofs.derivation.items_derive.Goals as goal

pub returns-then-rest-len : goal.returns-then-rest-len
returns-then-rest-len g c =
    let rest = c.args.rest in
    derived_by_none c.args.bin.now (c.args.chart.now).kinds (nat_eq rest.first rest.end) rest.rule rest.place rest.first rest.end
    c.args.rule.now c.requires.rule (omega (arith, c.if-rest-len.true, c.len.ensures)) (same_tells rest.first rest.end)

pub returns : goal.returns
returns g c =
    let rest = c.args.rest in
    let within : rest.place < length (c.args.rule.now).items = omega (arith, c.requires.place, c.if-rest-len.false, c.len.ensures) in
    derived_by_suffix c.args.bin.now (c.args.chart.now).kinds c.is_derived.result rest.rule rest.place rest.first rest.end
    c.args.rule.now c.requires.rule
    (c.is_derived.ensures (suffix rest.rule rest.place)
    ((c.args.rule.now, c.requires.rule, within), sym c.suffix_of-suffix.ensures.number))
