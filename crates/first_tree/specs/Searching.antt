-- Serves the proofs alone. What a search for a first tree has chosen, and what it has left to do.
use Rattle.std.specs.Prelude.{◌≡◌, ℕ, ◌+◌, ◌<◌, ◌≤◌, List, [], ◌∷◌, ◌++◌, Option, Some, length}
use Rattle.std.specs.Prelude.{slice_get, drop, MatchOption}
use Rattle.spec_text.specs.declared.limits.TheConstants.{MAX_NODES}
use Rattle.spec_grammar.specs.declared.rule.Symbol.{Symbol}
use Rattle.spec_grammar.specs.declared.rule.Symbol.TheVariants.{Kind}
use Rattle.spec_grammar.specs.declared.rule.Rule.{Rule}
use Rattle.spec_grammar.specs.Trees.{Tree, Forest}
use Rattle.spec_grammar.specs.Derivation.{Derives, DerivesAll}
use Rattle.spec_trees.specs.FirstTrees.{ends_of, lesser_from_left, NoEndsBefore}
use Rattle.spec_trees.specs.FirstTrees.{IsFirstTree, AreFirstTrees}
use Rattle.tree_nodes.specs.declared.node.TreeNode.{TreeNode}
use Rattle.tree_nodes.specs.TreeNodes.{preorder, forest_preorder}
use Rattle.first_tree.specs.declared.rest.Rest.{Rest}
use Rattle.first_tree.specs.declared.rest.Part.{Part}

-- what is left behind the first of these items, where that ends at the place
abbrev pub rest_behind : Rest → ℕ → Rest
rest_behind rest place = record {
  rule = rest.rule;
  place = rest.place + 1;
  first = place;
  end = rest.end;
}

-- the rule of this number has an item at the place
abbrev pub HasItemLeft : List Rule → Rest → Type 0
HasItemLeft rules rest =
    (rule : Rule) × (slice_get rules rest.rule ≡ Some rule) × (rest.place < length rule.items)

-- the symbol is a kind
abbrev pub IsKind : Symbol → Type 0
IsKind s = (k : ℕ) × (s ≡ Kind k)

-- each of the items is a kind
abbrev pub AreKinds : List Symbol → Type 0
AreKinds items = (n : ℕ) (s : Symbol) → slice_get items n ≡ Some s → IsKind s

module _ (rules : List Rule) (kinds : List (Option ℕ)) where
  -- the rule of this number is one of the category, and its items derive the span i..j
  abbrev pub GivesSpan : ℕ → ℕ → ℕ → ℕ → Type 0
  GivesSpan category i j r =
      (rule : Rule) × (slice_get rules r ≡ Some rule) × (rule.category ≡ category)
      × DerivesAll rules kinds rule.items i j

  -- and no rule of a lesser number is such a one
  abbrev pub IsLeastRule : ℕ → ℕ → ℕ → ℕ → Type 0
  IsLeastRule category i j r =
      GivesSpan category i j r × ((lesser : ℕ) → lesser < r → GivesSpan category i j lesser → ⊥)

  -- the place k cuts the span i..j into one that the first item derives and one that the others do
  pub record IsCut (items : List Symbol) (i k j : ℕ) : Type 0 where
    pub item : Symbol
    pub behind : List Symbol
    pub is : items ≡ item ∷ behind
    pub front : Derives rules kinds item i k
    pub back : DerivesAll rules kinds behind k j

  -- and no lesser place does
  abbrev pub IsLeastCut : List Symbol → ℕ → ℕ → ℕ → Type 0
  IsLeastCut items i j k =
      IsCut items i k j × ((lesser : ℕ) → lesser < k → IsCut items i lesser j → ⊥)

  -- each tree is the first one of its item, over adjacent spans that together are i..j, and no ends
  -- come before theirs
  abbrev pub AreFirst : Forest → List Symbol → ℕ → ℕ → Type 0
  AreFirst ts items i j =
      AreFirstTrees lesser_from_left rules kinds ts items i j
      × NoEndsBefore lesser_from_left rules kinds (ends_of ts) items i j

  -- the symbol has a first tree over the span i..j
  abbrev pub HasFirst : Symbol → ℕ → ℕ → Type 0
  HasFirst s i j = (t : Tree) × IsFirstTree lesser_from_left rules kinds t s i j

  -- the nodes are those of the first trees of what is left of a rule
  pub record AreNodesOf (rest : Rest) (nodes : List TreeNode) : Type 0 where
    pub rule : Rule
    pub is_rule : slice_get rules rest.rule ≡ Some rule
    pub forest : Forest
    pub are_first : AreFirst forest (drop rest.place rule.items) rest.first rest.end
    pub same : nodes ≡ forest_preorder forest

  -- the nodes are those of the first trees of all that is kept, the last of it first, and each rule
  -- has items left
  abbrev pub AreNodesOfAll : List Rest → List TreeNode → Type 0
  AreNodesOfAll [] nodes = nodes ≡ []
  AreNodesOfAll (rest ∷ later) nodes =
      (front : List TreeNode) × (back : List TreeNode) × (nodes ≡ front ++ back)
      × AreNodesOfAll later front × AreNodesOf rest back × HasItemLeft rules rest

  -- the node is the first of these, and the others are those of what is kept
  abbrev pub HasFirstNode : List Rest → List TreeNode → TreeNode → Type 0
  HasFirstNode kept nodes first =
      (behind : List TreeNode) × (nodes ≡ first ∷ behind) × AreNodesOfAll kept behind

  -- the node is the first of the first tree of the part and of what was kept, and the others are
  -- kept
  abbrev pub Enters : Part → List Rest → List Rest → TreeNode → Type 0
  Enters part old new first =
      (t : Tree) (nodes : List TreeNode)
      → IsFirstTree lesser_from_left rules kinds t part.symbol part.first part.end
      → AreNodesOfAll old nodes → HasFirstNode new (preorder t ++ nodes) first

  -- the node is the first of what was kept, and the others are kept; there is none exactly where
  -- no node is left
  abbrev pub GivesNode : List Rest → List Rest → Option TreeNode → Type 0
  GivesNode old new found =
      (nodes : List TreeNode) → AreNodesOfAll old nodes
      → MatchOption found (nodes ≡ []) (HasFirstNode new nodes)

  -- what was kept, and then what is left of the rule, is kept: the nodes of the one come behind
  -- those of the other
  abbrev pub KeepsRest : Rest → List Rest → List Rest → Type 0
  KeepsRest rest old new =
      (front back : List TreeNode)
      → AreNodesOf rest front → AreNodesOfAll old back → AreNodesOfAll new (front ++ back)

  -- the nodes so far, and then those of what is kept, are the nodes of the first tree of the symbol
  -- over the span i..j
  pub record IsUnderWay (s : Symbol) (i j : ℕ) (nodes : List TreeNode) (kept : List Rest)
      : Type 0 where
    pub tree : Tree
    pub is_first : IsFirstTree lesser_from_left rules kinds tree s i j
    pub behind : List TreeNode
    pub same : preorder tree ≡ nodes ++ behind
    pub are_kept : AreNodesOfAll kept behind
    pub few : length nodes ≤ MAX_NODES

-- under some rules and kinds, the items derive the span i..j
abbrev pub CanDerive : List Symbol → ℕ → ℕ → Type 0
CanDerive items i j =
    (rules : List Rule) × (kinds : List (Option ℕ)) × DerivesAll rules kinds items i j

-- under any rules and kinds, no place but this cuts the span i..j between the first item and the
-- others
abbrev pub EndsOnlyAt : List Symbol → ℕ → ℕ → ℕ → Type 0
EndsOnlyAt items i j place =
    (rules : List Rule) (kinds : List (Option ℕ)) (k : ℕ)
    → IsCut rules kinds items i k j → k ≡ place
