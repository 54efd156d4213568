-- Derivation on small grammars: spans that are derived, and spans that are not.
use Rattle.std.specs.Prelude.{ℕ, ◌+◌, List, [], ◌∷◌, Option, Some, None}
use Rattle.spec_grammar.specs.declared.rule.Symbol.TheVariants.{Category, Kind}
use Rattle.spec_grammar.specs.declared.rule.Rule.{Rule}
use Rattle.spec_grammar.specs.Grammars.{rule_of}
use Rattle.spec_grammar.specs.Trees.{Tree, leaf, node, no_trees, trees}
use Rattle.spec_grammar.specs.Derivation.{IsParseTree, Derives, IsNullable}

-- category 0 is one kind 7, or two of itself: `S ::= S S`, `S ::= a`
abbrev pub runs : List Rule
runs = rule_of 0 (Category 0 ∷ Category 0 ∷ []) ∷ rule_of 0 (Kind 7 ∷ []) ∷ []

-- category 0 is nothing, or itself between two kinds: `P ::=`, `P ::= a P b`
abbrev pub nests : List Rule
nests = rule_of 0 [] ∷ rule_of 0 (Kind 7 ∷ Category 0 ∷ Kind 8 ∷ []) ∷ []

-- category 1 is three of category 0, which may be nothing: `Q ::= P P P`
abbrev pub triples : List Rule
triples = rule_of 1 (Category 0 ∷ Category 0 ∷ Category 0 ∷ []) ∷ nests

-- the kinds of a text: a, a, a stray token, a
abbrev pub broken : List (Option ℕ)
broken = Some 7 ∷ Some 7 ∷ None ∷ Some 7 ∷ []

-- the kinds of a text: a, a, b, b
abbrev pub nested : List (Option ℕ)
nested = Some 7 ∷ Some 7 ∷ Some 8 ∷ Some 8 ∷ []

-- the tree of `S ::= a` at a place
abbrev pub run : ℕ → Tree
run i = node 1 i (i + 1) (trees (leaf 7 i (i + 1)) no_trees)

-- the tree of `S ::= S S` over the first two tokens
abbrev pub two_runs : Tree
two_runs = node 0 0 2 (trees (run 0) (trees (run 1) no_trees))

-- the tree of `P ::=`, which is rule r, at a place
abbrev pub empty_nest : ℕ → ℕ → Tree
empty_nest r i = node r i i no_trees

-- the tree of `P ::= a P b`, which is rule r, from the token at i to the token at j
abbrev pub nest : ℕ → ℕ → Tree → ℕ → Tree
nest r i inner j =
    node r i (j + 1) (trees (leaf 7 i (i + 1)) (trees inner (trees (leaf 8 j (j + 1)) no_trees)))

-- the tree of `P` over the whole of `nested`, by rules r and r + 1
abbrev pub two_nests : ℕ → Tree
two_nests r = nest (r + 1) 0 (nest (r + 1) 1 (empty_nest r 2) 2) 3

-- the tree of `Q ::= P P P` over three trees side by side, from i up to j
abbrev pub triple : ℕ → Tree → Tree → Tree → ℕ → Tree
triple i first second third j = node 0 i j (trees first (trees second (trees third no_trees)))

-- the definitions, worked on small cases
pub record SmallCases : Type 0 where
  -- a leaf for a token of the kind
  pub a_kind_derives_its_token : IsParseTree runs broken (leaf 7 1 2) (Kind 7) 1 2
  -- a kind is never two tokens
  pub a_kind_is_one_token : Derives runs broken (Kind 7) 0 2 → ⊥
  -- a token of another kind is not of this one
  pub a_kind_is_no_other : Derives nests nested (Kind 8) 0 1 → ⊥
  -- no kind derives a stray token
  pub a_stray_has_no_kind : (k : ℕ) → Derives runs broken (Kind k) 2 3 → ⊥
  -- a node of the second rule
  pub one_token_is_a_run : IsParseTree runs broken (run 3) (Category 0) 3 4
  -- a node of the first rule, over two of the second
  pub two_tokens_are_a_run : IsParseTree runs broken two_runs (Category 0) 0 2
  -- no rule passes over a stray token
  pub a_run_stops_at_a_stray : Derives runs broken (Category 0) 0 4 → ⊥
  -- no span ends behind the text
  pub a_run_ends_within : Derives runs broken (Category 0) 3 5 → ⊥
  -- each tree of `S` has a token
  pub a_run_is_not_empty : IsNullable runs (Category 0) → ⊥
  -- a category with no rule derives nothing
  pub no_rule_no_span : (i j : ℕ) → Derives runs broken (Category 1) i j → ⊥
  -- a node with no subtrees
  pub a_nest_may_be_empty : IsParseTree nests [] (empty_nest 0 0) (Category 0) 0 0
  -- the empty span lies at each place, also behind the last token
  pub a_nest_is_empty_anywhere : IsParseTree nests nested (empty_nest 0 4) (Category 0) 4 4
  -- `a a b b` is a nest in a nest
  pub a_nest_in_a_nest : IsParseTree nests nested (two_nests 0) (Category 0) 0 4
  -- `a a b` is no nest
  pub a_nest_is_closed : Derives nests nested (Category 0) 0 3 → ⊥
  -- a category is nullable where each of its items is
  pub three_empty_nests : IsNullable triples (Category 1)
  -- the first and the last of three items are empty
  pub one_nest_of_three :
      IsParseTree triples nested (triple 0 (empty_nest 1 0) (two_nests 1) (empty_nest 1 4) 4)
      (Category 1) 0 4
