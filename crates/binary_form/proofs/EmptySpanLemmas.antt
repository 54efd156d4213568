-- Items that derive the empty span, at one place of one text or at all.
use Rattle.std.proofs.Common.{ℕ, ◌↔◌, List, [], ◌∷◌, Option, arith}
use Rattle.spec_grammar.specs.declared.rule.Symbol.{Symbol}
use Rattle.spec_grammar.specs.declared.rule.Rule.{Rule}
use Rattle.spec_grammar.specs.Derivation.{DerivesAll, IsNullable}
use Rattle.spec_grammar.proofs.DerivationLemmas.{forest_anywhere, nullable_items as each_nullable}
use Rattle.binary_form.specs.UnitSteps.{AreNullable}

module _ (rules : List Rule) where
  -- items that derive an empty span are nullable
  pub items_nullable :
      (kinds : List (Option ℕ)) (items : List Symbol) (i : ℕ)
      → DerivesAll rules kinds items i i → AreNullable rules items
  items_nullable kinds items i d = forest_anywhere rules kinds [] d.0 items i i 0 d.1 (omega arith)

  -- nullable items derive each empty span
  pub nullable_items :
      (kinds : List (Option ℕ)) (items : List Symbol) (i : ℕ)
      → AreNullable rules items → DerivesAll rules kinds items i i
  nullable_items kinds items i d = forest_anywhere rules [] kinds d.0 items 0 0 i d.1 (omega arith)

  -- where there are no items, all of them are nullable
  pub none_nullable : AreNullable rules []
  none_nullable = (each_nullable rules []).1 tt

  -- items are nullable exactly where the first and the others are
  pub some_nullable :
      (s : Symbol) (items : List Symbol)
      → AreNullable rules (s ∷ items) ↔ (IsNullable rules s × AreNullable rules items)
  some_nullable s items =
      let all = each_nullable rules (s ∷ items) in
      let others = each_nullable rules items in
      ((λ d. let each = all.0 d in (each.0, others.1 each.1)), (λ x. all.1 (x.0, others.0 x.1)))
