-- Which symbols derive the empty span.
use Rattle.std.proofs.Common.{ℕ, List, []}
use Rattle.std.proofs.lemmas.Option.{none-some}
use Rattle.spec_grammar.specs.declared.rule.Symbol.TheVariants.{Kind}
use Rattle.spec_grammar.specs.declared.rule.Rule.{Rule}
use Rattle.spec_grammar.specs.Derivation.{IsNullable}
use Rattle.spec_grammar.proofs.DerivationLemmas.{kind_derives}

-- no kind derives the empty span
pub kind_not_nullable : (rules : List Rule) (k : ℕ) → IsNullable rules (Kind k) → ⊥
kind_not_nullable rules k d = none-some _ ((kind_derives rules [] k 0 0).0 d).0
