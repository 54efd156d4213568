-- What a grammar derives, as a textbook on context-free grammars says it: by parse trees.
-- A list of kinds has one entry for each token: the number of its kind, or None for a stray token.
use Rattle.std.specs.Prelude.{◌≡◌, ℕ, ◌+◌, List, [], ◌∷◌, Option, Some, slice_get}
use Rattle.spec_grammar.specs.declared.rule.Symbol.{Symbol}
use Rattle.spec_grammar.specs.declared.rule.Symbol.TheVariants.{Category, Kind}
use Rattle.spec_grammar.specs.declared.rule.Rule.{Rule}
use Rattle.spec_grammar.specs.Trees.{Tree, leaf, node, Forest, no_trees, trees}

module _ (rules : List Rule) (kinds : List (Option ℕ)) where
  abbrev mutual
    -- the tree is a parse tree of the symbol over the tokens from i up to j
    pub IsParseTree : Tree → Symbol → ℕ → ℕ → Type 0
    IsParseTree (leaf kind first end) s i j =
        (s ≡ Kind kind) × (slice_get kinds i ≡ Some (Some kind)) × (j ≡ i + 1) × (first ≡ i)
        × (end ≡ j)
    IsParseTree (node r first end subtrees) s i j =
        (rule : Rule) × (slice_get rules r ≡ Some rule) × (s ≡ Category rule.category)
        × AreParseTrees subtrees rule.items i j × (first ≡ i) × (end ≡ j)

    -- the trees are parse trees of the items, in order, over adjacent spans that together are i..j
    pub AreParseTrees : Forest → List Symbol → ℕ → ℕ → Type 0
    AreParseTrees no_trees items i j = (items ≡ []) × (j ≡ i)
    AreParseTrees (trees t ts) items i j =
        (s : Symbol) × (rest : List Symbol) × (k : ℕ) × (items ≡ s ∷ rest)
        × IsParseTree t s i k × AreParseTrees ts rest k j

  -- the symbol derives the span i..j: it has a parse tree there
  abbrev pub Derives : Symbol → ℕ → ℕ → Type 0
  Derives s i j = (t : Tree) × IsParseTree t s i j

  -- the items derive adjacent spans that together are i..j
  abbrev pub DerivesAll : List Symbol → ℕ → ℕ → Type 0
  DerivesAll items i j = (ts : Forest) × AreParseTrees ts items i j

-- the symbol derives the empty span
abbrev pub IsNullable : List Rule → Symbol → Type 0
IsNullable rules s = Derives rules [] s 0 0
