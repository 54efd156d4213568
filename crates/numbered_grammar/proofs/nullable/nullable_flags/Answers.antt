use Rattle.std.proofs.lemmas.Result.{IfOk-weaker}
use Rattle.numbered_grammar.specs.Nullable.{AreNullableFlags}
use Rattle.numbered_grammar.proofs.RuleImplicationLemmas.{between_categories, flags_of_following}
use Rattle.numbered_grammar.proofs.nullable.nullable_flags.Goals as goal

pub consequences-requires : goal.consequences-requires
consequences-requires c =
    let all = rw c.rules.ensures.items at c.in_ok-implications.ensures in
    rw c.category_count.ensures
    (between_categories c.args.parts.now c.in_ok-implications.implications all c.rules.ensures.own_symbols)

pub returns : goal.returns
returns c =
    let g = c.args.parts.now in
    let all = rw c.rules.ensures.items at c.in_ok-implications.ensures in
    IfOk-weaker c.consequences.result _ (λ flags. AreNullableFlags g flags.items)
    (λ flags. flags_of_following g c.in_ok-implications.implications all flags.items)
    (rw c.category_count.ensures at c.consequences.ensures)
