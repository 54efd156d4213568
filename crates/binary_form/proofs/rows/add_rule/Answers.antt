use Rattle.std.proofs.Common.{◌≡◌, ◌+◌, subst, take, ℕ, arith}
use Rattle.spec_grammar.specs.Grammars.{item_count}
use Rattle.binary_form.specs.Rows.{AreRowsUpTo}
use Rattle.binary_form.proofs.NumberLemmas.{count-take-more}
use Rattle.binary_form.proofs.rows.add_rule.Goals as goal

pub returns : goal.returns
returns c =
    let rules = c.args.grammar.now.rules in
    let count = count-take-more rules c.args.r c.rule.result.now c.rule.ensures in
    let done : item_count (take c.args.r rules) + c.loop-p.p ≡ item_count (take (c.args.r + 1) rules) =
    omega (arith, count, c.len-p-end.ensures) in
    let P : ℕ → Type 0 = λ many. AreRowsUpTo c.args.grammar.now many c.loop-p.rows.items in
    subst P done c.loop-p.invariant
