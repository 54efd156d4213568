use Rattle.std.proofs.Common.{◌≡◌, ◌++◌, ◌∷◌, [], sym, ap, ◌∙◌, arith, rules}
use Rattle.std.proofs.lemmas.List.FromFn.{map-range_with_len_more}
use Rattle.spec_lbnf.specs.Expansion.{level_rule}
use Rattle.lbnf_grammar.proofs.macros.coercion_rules.Goals as goal

pub loop-level-preserved : goal.loop-level-preserved
loop-level-preserved c =
    let pushed : c.push.new.self.items ≡ c.loop-level.rules.items ++ level_rule c.args.name.now c.loop-level.level ∷ [] = search rules in
    pushed ∙ ap (λ rs. rs ++ level_rule c.args.name.now c.loop-level.level ∷ []) c.loop-level.invariant
    ∙ sym (map-range_with_len_more (level_rule c.args.name.now) 0 c.loop-level.level c.loop-level.level (omega arith))
