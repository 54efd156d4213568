-- What a caller sees of a search for a first tree: what an answer says.
use Rattle.std.specs.Prelude.{ℕ, ◌<◌, ◌≤◌, List, Option}
use Rattle.spec_text.specs.declared.limits.TheConstants.{MAX_NODES}
use Rattle.spec_grammar.specs.declared.rule.Symbol.{Symbol}
use Rattle.spec_grammar.specs.declared.rule.Rule.{Rule}
use Rattle.spec_grammar.specs.Trees.{Tree}
use Rattle.spec_grammar.specs.Derivation.{Derives}
use Rattle.spec_trees.specs.FirstTrees.{lesser_from_left, IsFirstTree, node_count}
use Rattle.first_tree.specs.declared.answer.First.{First}
use Rattle.first_tree.specs.declared.answer.First.TheVariants.{Tree as Found, Nothing, Large}

-- the answer on the symbol and the span i..j is the first tree there, and this has no more nodes
-- than a tree may have; or it tells that the symbol does not derive the span, or that the first
-- tree has more nodes
abbrev pub TellsFirst : List Rule → List (Option ℕ) → Symbol → ℕ → ℕ → First → Type 0
TellsFirst rules kinds s i j (Found t) =
    IsFirstTree lesser_from_left rules kinds t s i j × (node_count t ≤ MAX_NODES)
TellsFirst rules kinds s i j Nothing = Derives rules kinds s i j → ⊥
TellsFirst rules kinds s i j Large =
    (t : Tree) × IsFirstTree lesser_from_left rules kinds t s i j × (MAX_NODES < node_count t)
