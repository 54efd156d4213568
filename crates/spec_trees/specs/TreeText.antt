-- The printed text of a tree, by the labels of its rules.
use Rattle.std.specs.Prelude.{ℕ, List, [], ◌∷◌, ◌++◌, map, flat_map, get_or, codes, slice_range}
use Rattle.spec_text.specs.Escapes.{printed}
use Rattle.spec_lexing.specs.declared.kind_def.KindDef.{KindDef}
use Rattle.spec_lexing.specs.declared.kind_def.KindDef.TheVariants.{Word, Token as TokenDef}
use Rattle.spec_lexing.specs.declared.token.Token.{Token}
use Rattle.spec_grammar.specs.declared.rule.Label.{Label}
use Rattle.spec_grammar.specs.declared.rule.Label.TheVariants.{Named, Wild, Nil, Cons, One}
use Rattle.spec_grammar.specs.declared.rule.Rule.{Rule}
use Rattle.spec_grammar.specs.Grammars.{Grammar}
use Rattle.spec_grammar.specs.Trees.{Tree, leaf, node, Forest, no_trees, trees}

-- what is printed of a tree: nothing, as of a word, or one text, or the texts of a list's elements
pub data Print : Type 0 where
  no_print : Print
  text_print : (text : List ℕ) → Print
  list_print : (elements : List (List ℕ)) → Print

-- the texts in a row, a comma and a space between each two
abbrev pub comma_separated : List (List ℕ) → List ℕ
comma_separated [] = []
comma_separated (text ∷ []) = text
comma_separated (text ∷ other ∷ others) =
    text ++ (codes ", " ++ comma_separated (other ∷ others))

-- it as one text: a list's elements stand between brackets
abbrev pub print_text : Print → List ℕ
print_text no_print = []
print_text (text_print text) = text
print_text (list_print elements) = codes "[" ++ (comma_separated elements ++ codes "]")

-- the elements that it lists
abbrev pub print_elements : Print → List (List ℕ)
print_elements no_print = []
print_elements (text_print text) = []
print_elements (list_print elements) = elements

-- what is printed of these bytes as a token of the kind: nothing of a word; of any other the
-- kind's name, a colon and the bytes
abbrev pub token_print : KindDef → List ℕ → Print
token_print (Word word) bytes = no_print
token_print (TokenDef name expr) bytes = text_print (name ++ (58 ∷ printed bytes))

-- what is printed of the child of this number
abbrev pub child_print : List Print → ℕ → Print
child_print children number = get_or children number no_print

-- what is printed of a node with this label, where this is printed of its children: behind a name
-- each child in turn; of `_` what is printed of its one child, be it a list or not; a list of no
-- elements, of one, or of one before those of the second child
abbrev pub node_print : Label → List Print → Print
node_print (Named name) children =
    text_print (codes "(" ++ (name
    ++ (flat_map (λ child. 32 ∷ print_text child) children ++ codes ")")))
node_print Wild children = child_print children 0
node_print Nil children = list_print []
node_print One children = list_print (print_text (child_print children 0) ∷ [])
node_print Cons children =
    list_print (print_text (child_print children 0) ∷ print_elements (child_print children 1))

-- one child before the others; of what nothing is printed, that is no child
abbrev pub with_child : Print → List Print → List Print
with_child no_print others = others
with_child (text_print text) others = text_print text ∷ others
with_child (list_print elements) others = list_print elements ∷ others

module _ (g : Grammar) (text : List ℕ) (tokens : List Token) where
  -- the bytes of the token at this place
  abbrev pub token_bytes : ℕ → List ℕ
  token_bytes place =
      get_or (map (λ (t : Token). slice_range text t.first t.end) tokens) place []

  abbrev mutual
    -- what is printed of the tree
    pub print_of : Tree → Print
    print_of (leaf kind first end) =
        get_or (map (λ def. token_print def (token_bytes first)) g.lexicon.kinds) kind no_print
    print_of (node r first end subtrees) =
        get_or (map (λ (rule : Rule). node_print rule.label (prints_of subtrees)) g.rules) r
        no_print

    -- what is printed of the trees that are children
    pub prints_of : Forest → List Print
    prints_of no_trees = []
    prints_of (trees t ts) = with_child (print_of t) (prints_of ts)

  -- the printed text of the tree
  abbrev pub tree_text : Tree → List ℕ
  tree_text t = print_text (print_of t)
