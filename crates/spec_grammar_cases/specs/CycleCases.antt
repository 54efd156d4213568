-- Steps on small grammars: cycles, grammars without one, and ranks.
use Rattle.std.specs.Prelude.{List, [], ◌∷◌}
use Rattle.spec_grammar.specs.declared.rule.Symbol.TheVariants.{Category, Kind}
use Rattle.spec_grammar.specs.declared.rule.Rule.{Rule}
use Rattle.spec_grammar.specs.Cycles.{StepsTo, IsCyclic, IsAcyclic, IsRank}
use Rattle.spec_grammar.specs.Grammars.{rule_of}
use Rattle.spec_grammar_cases.specs.DerivationCases.{nests}

-- category 0 is two of itself, or nothing: `A ::= A A`, `A ::=`
abbrev pub doubles : List Rule
doubles = rule_of 0 (Category 0 ∷ Category 0 ∷ []) ∷ rule_of 0 [] ∷ []

-- two categories, each of which is the other: `A ::= B`, `B ::= A`
abbrev pub mirrors : List Rule
mirrors = rule_of 0 (Category 1 ∷ []) ∷ rule_of 1 (Category 0 ∷ []) ∷ []

-- three categories in a chain: `A ::= B`, `B ::= C`, `C ::= a`
abbrev pub chain : List Rule
chain =
    rule_of 0 (Category 1 ∷ []) ∷ rule_of 1 (Category 2 ∷ []) ∷ rule_of 2 (Kind 7 ∷ []) ∷ []

-- steps, cycles and ranks, worked on small cases
pub record SmallCycles : Type 0 where
  -- of two items of the one category, either is nullable beside the other
  pub a_nullable_sibling_makes_a_cycle : IsCyclic doubles 0
  -- two steps lead back
  pub two_rules_make_a_cycle : IsCyclic mirrors 1
  -- a token stands on either side of the category
  pub tokens_make_no_step : StepsTo nests 0 0 → ⊥
  -- so no category of these nests reaches itself
  pub nests_have_no_cycle : IsAcyclic nests
  -- the longest chain from A has two steps
  pub the_top_of_three_has_rank_2 : IsRank chain 0 2
  -- that from B has one
  pub the_middle_of_three_has_rank_1 : IsRank chain 1 1
  -- no step leaves C
  pub the_last_of_three_has_rank_0 : IsRank chain 2 0
