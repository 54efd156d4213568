-- Four small grammars, each with a text, and trees of the text.
use Rattle.std.specs.Prelude.{ℕ, ◌+◌, List, [], ◌∷◌, Option, Some, None, codes}
use Rattle.spec_lexing.specs.Lexicon.{lexicon_of}
use Rattle.spec_lexing.specs.declared.expression.Expr.TheVariants.{Eps}
use Rattle.spec_lexing.specs.declared.kind_def.KindDef.{KindDef}
use Rattle.spec_lexing.specs.declared.kind_def.KindDef.TheVariants.{Token as TokenDef}
use Rattle.spec_lexing.specs.declared.token.Token.{Token}
use Rattle.spec_grammar.specs.declared.rule.Label.{Label}
use Rattle.spec_grammar.specs.declared.rule.Label.TheVariants.{Named}
use Rattle.spec_grammar.specs.declared.rule.Symbol.{Symbol}
use Rattle.spec_grammar.specs.declared.rule.Symbol.TheVariants.{Category, Kind}
use Rattle.spec_grammar.specs.declared.rule.Rule.{Rule}
use Rattle.spec_grammar.specs.Grammars.{Grammar}
use Rattle.spec_grammar.specs.Trees.{Tree, leaf, node, Forest, no_trees, trees}

-- the rule with this label, category and right side
abbrev pub labelled_rule : Label → ℕ → List Symbol → Rule
labelled_rule label category items = record { label = label; category = category; items = items }

-- the grammar of these rules and kinds; no text is printed of its categories or of its entry
abbrev pub grammar_of : List Rule → List KindDef → Grammar
grammar_of rules kinds =
    record { rules = rules; categories = []; lexicon = lexicon_of kinds; entry = None }

-- a kind of token of this name; by which expression tokens are cut does not matter
abbrev pub named_kind : List ℕ → KindDef
named_kind name = TokenDef name Eps

-- the token of this kind and these bytes
abbrev pub token_of : ℕ → ℕ → ℕ → Token
token_of kind first end = record { kind = Some kind; first = first; end = end }

-- the tree of the token of this kind at a place
abbrev pub token_tree : ℕ → ℕ → Tree
token_tree kind place = leaf kind place (place + 1)

-- the tree alone
abbrev pub one_tree : Tree → Forest
one_tree t = trees t no_trees

-- two trees side by side
abbrev pub two_trees : Tree → Tree → Forest
two_trees t other = trees t (one_tree other)

-- an ambiguous sum: `Sum . E ::= E E`, `A . E ::= "a"`
abbrev pub sums : List Rule
sums =
    labelled_rule (Named (codes "Sum")) 0 (Category 0 ∷ Category 0 ∷ [])
    ∷ labelled_rule (Named (codes "A")) 0 (Kind 0 ∷ []) ∷ []

-- the kinds of three tokens `a`
abbrev pub three_kinds : List (Option ℕ)
three_kinds = Some 0 ∷ Some 0 ∷ Some 0 ∷ []

-- and the tokens
abbrev pub three_tokens : List Token
three_tokens = token_of 0 0 1 ∷ token_of 0 1 2 ∷ token_of 0 2 3 ∷ []

-- the tree of one of them
abbrev pub letter_tree : ℕ → Tree
letter_tree place = node 1 place (place + 1) (one_tree (token_tree 0 place))

-- the tree of a sum over i..j
abbrev pub sum_tree : Tree → Tree → ℕ → ℕ → Tree
sum_tree t other i j = node 0 i j (two_trees t other)

-- the sum whose first item is the shortest possible
abbrev pub right_sum : Tree
right_sum = sum_tree (letter_tree 0) (sum_tree (letter_tree 1) (letter_tree 2) 1 3) 0 3

-- the sum whose second item is
abbrev pub left_sum : Tree
left_sum = sum_tree (sum_tree (letter_tree 0) (letter_tree 1) 0 2) (letter_tree 2) 0 3

-- siblings that may be empty: `Pair . S ::= P P`, `Empty . P ::=`, `Full . P ::= Letter`
abbrev pub pairs : List Rule
pairs =
    labelled_rule (Named (codes "Pair")) 0 (Category 1 ∷ Category 1 ∷ [])
    ∷ labelled_rule (Named (codes "Empty")) 1 []
    ∷ labelled_rule (Named (codes "Full")) 1 (Kind 0 ∷ []) ∷ []

-- the kind of one token
abbrev pub one_kind : List (Option ℕ)
one_kind = Some 0 ∷ []

-- and the token, of one byte
abbrev pub one_token : List Token
one_token = token_of 0 0 1 ∷ []

-- the empty sibling at a place
abbrev pub empty_sibling : ℕ → Tree
empty_sibling place = node 1 place place no_trees

-- the sibling over the token
abbrev pub full_sibling : Tree
full_sibling = node 2 0 1 (one_tree (token_tree 0 0))

-- the token in the second sibling
abbrev pub second_full : Tree
second_full = node 0 0 1 (two_trees (empty_sibling 0) full_sibling)

-- the token in the first sibling
abbrev pub first_full : Tree
first_full = node 0 0 1 (two_trees full_sibling (empty_sibling 1))

-- two rules for one token and nothing: `Less . S ::= Mark P`, `More . S ::= P Mark`, `Gap . P ::=`
abbrev pub ties : List Rule
ties =
    labelled_rule (Named (codes "Less")) 0 (Kind 0 ∷ Category 1 ∷ [])
    ∷ labelled_rule (Named (codes "More")) 0 (Category 1 ∷ Kind 0 ∷ [])
    ∷ labelled_rule (Named (codes "Gap")) 1 [] ∷ []

-- the empty item at a place
abbrev pub gap_tree : ℕ → Tree
gap_tree place = node 2 place place no_trees

-- the tree of the lesser rule over the one token
abbrev pub less_tie : Tree
less_tie = node 0 0 1 (two_trees (token_tree 0 0) (gap_tree 1))

-- the tree of the greater rule over it
abbrev pub more_tie : Tree
more_tie = node 1 0 1 (two_trees (gap_tree 0) (token_tree 0 0))

-- a category that reaches itself: `Again . A ::= A`, `Stop . A ::= "a"`
abbrev pub loops : List Rule
loops =
    labelled_rule (Named (codes "Again")) 0 (Category 0 ∷ [])
    ∷ labelled_rule (Named (codes "Stop")) 0 (Kind 0 ∷ []) ∷ []
