-- One rule more gives no span, and some rule does.
use Rattle.std.proofs.Common.{below_more, sym, ◌∙◌, arith}
use Rattle.std.proofs.lemmas.Bool.{false≢true}
use Rattle.spec_grammar.specs.declared.rule.Symbol.TheVariants.{Category}
use Rattle.spec_grammar.proofs.DerivationLemmas.{derives_within}
use Rattle.first_tree.specs.Searching.{GivesSpan}
use Rattle.first_tree.proofs.ChoosingLemmas.{some_gives}
use Rattle.first_tree.proofs.choosing.least_rule.Goals as goal

pub gives_span-requires-clause-order : goal.gives_span-requires-clause-order
gives_span-requires-clause-order g c κs loop =
    (derives_within (c.args.bin.now).rules (c.args.chart.now).kinds (Category c.args.category) c.args.first c.args.end c.requires.derives).0

pub gives_span-requires-clause-within : goal.gives_span-requires-clause-within
gives_span-requires-clause-within g c κs loop =
    (derives_within (c.args.bin.now).rules (c.args.chart.now).kinds (Category c.args.category) c.args.first c.args.end c.requires.derives).1

pub loop-number-preserved : goal.loop-number-preserved
loop-number-preserved g c =
    let rules = (c.args.bin.now).rules in
    let kinds = (c.args.chart.now).kinds in
    below_more (λ r. GivesSpan rules kinds c.args.category c.args.first c.args.end r → ⊥) c.loop-number.number
    c.loop-number.invariant (λ x. false≢true (sym c.if-gives_span.false ∙ c.gives_span.ensures.1 x))

pub unreachable-requires : goal.unreachable-requires
unreachable-requires g c =
    let all = rw c.requires.same at c.rule_count-number-end.ensures in
    some_gives (c.args.bin.now).rules (c.args.chart.now).kinds c.args.category c.args.first c.args.end c.loop-number.number
    c.requires.derives (omega (arith, c.loop-number-test.false, all)) c.loop-number.invariant
