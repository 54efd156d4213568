-- A small grammar of lists, with two texts, and trees of them.
use Rattle.std.specs.Prelude.{ℕ, ◌+◌, List, [], ◌∷◌, Option, Some, codes}
use Rattle.spec_lexing.specs.declared.kind_def.KindDef.{KindDef}
use Rattle.spec_lexing.specs.declared.kind_def.KindDef.TheVariants.{Word}
use Rattle.spec_lexing.specs.declared.token.Token.{Token}
use Rattle.spec_grammar.specs.declared.rule.Label.TheVariants.{Named, Wild, Nil, Cons, One}
use Rattle.spec_grammar.specs.declared.rule.Symbol.TheVariants.{Category, Kind}
use Rattle.spec_grammar.specs.declared.rule.Rule.{Rule}
use Rattle.spec_grammar.specs.Trees.{Tree, node, Forest, no_trees, trees}
use Rattle.spec_trees_cases.specs.Examples.{labelled_rule, named_kind, token_of, token_tree}
use Rattle.spec_trees_cases.specs.Examples.{one_tree, two_trees}

-- lists in four forms, and their elements: `[] . [N] ::=`, `(:[]) . [N] ::= N`,
-- `(:) . [N] ::= N [N]`, `_ . [N] ::= "(" [N] ")"`, `Num . N ::= Digits`
abbrev pub lists : List Rule
lists =
    labelled_rule Nil 0 []
    ∷ labelled_rule One 0 (Category 1 ∷ [])
    ∷ labelled_rule Cons 0 (Category 1 ∷ Category 0 ∷ [])
    ∷ labelled_rule Wild 0 (Kind 1 ∷ Category 0 ∷ Kind 2 ∷ [])
    ∷ labelled_rule (Named (codes "Num")) 1 (Kind 0 ∷ []) ∷ []

-- the kinds of their tokens
abbrev pub list_kinds : List KindDef
list_kinds = named_kind (codes "Digits") ∷ Word (codes "(") ∷ Word (codes ")") ∷ []

-- the kinds of two tokens of digits
abbrev pub two_kinds : List (Option ℕ)
two_kinds = Some 0 ∷ Some 0 ∷ []

-- and the tokens: `1 22`
abbrev pub two_tokens : List Token
two_tokens = token_of 0 0 1 ∷ token_of 0 2 4 ∷ []

-- the tree of a number at a place
abbrev pub number_tree : ℕ → Tree
number_tree place = node 4 place (place + 1) (one_tree (token_tree 0 place))

-- the list of the number at a place alone
abbrev pub last_number : ℕ → Tree
last_number place = node 1 place (place + 1) (one_tree (number_tree place))

-- the list of the number at a place and of the empty list
abbrev pub number_before_nil : ℕ → Tree
number_before_nil place =
    node 2 place (place + 1)
    (two_trees (number_tree place) (node 0 (place + 1) (place + 1) no_trees))

-- the list of the first number and of the others, which end at j
abbrev pub number_before : Tree → ℕ → Tree
number_before others j = node 2 0 j (two_trees (number_tree 0) others)

-- the tokens of a list in brackets behind a number: `1(22)`
abbrev pub bracket_tokens : List Token
bracket_tokens = token_of 0 0 1 ∷ token_of 1 1 2 ∷ token_of 0 2 4 ∷ token_of 2 4 5 ∷ []

-- the trees of a list in brackets
abbrev pub between_brackets : Forest
between_brackets = trees (token_tree 1 1) (two_trees (last_number 2) (token_tree 2 3))

-- the tree of the whole
abbrev pub bracket_list : Tree
bracket_list = number_before (node 3 1 4 between_brackets) 4
