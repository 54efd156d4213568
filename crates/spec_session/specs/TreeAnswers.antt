-- The answer to what the first tree of a constituent is, as one line with its LF.
use Rattle.std.specs.Prelude.{◌≡◌, ℕ, ◌<◌, ◌≤◌, List, length, codes}
use Rattle.spec_text.specs.declared.limits.TheConstants.{MAX_NODES}
use Rattle.spec_lexing.specs.declared.token.Token.{Token}
use Rattle.spec_lexing.specs.Tokens.{kinds_of}
use Rattle.spec_grammar.specs.declared.rule.Symbol.{Symbol}
use Rattle.spec_grammar.specs.Grammars.{Grammar}
use Rattle.spec_grammar.specs.Trees.{Tree}
use Rattle.spec_trees.specs.FirstTrees.{lesser_from_left, IsFirstTree, node_count}
use Rattle.spec_trees.specs.TreeText.{tree_text}
use Rattle.spec_script.specs.Script.{Constituent}
use Rattle.spec_session.specs.Lines.{as_line}
use Rattle.spec_session.specs.Questions.{IsOfSymbol, HasSymbol, first_of, end_of, IsWithin}
use Rattle.spec_session.specs.Questions.{IsDerived, IsQuestionRefused}

-- the tree is the constituent's first one: the constituent is of a symbol, and of each symbol that
-- it is of (which is one, where names are distinct) the tree is the first over the span
pub record IsFirstTreeOf (g : Grammar) (tokens : List Token) (constituent : Constituent) (t : Tree)
    : Type 0 where
  pub known : HasSymbol g constituent
  pub is_first : (s : Symbol) → IsOfSymbol g constituent s
      → IsFirstTree lesser_from_left g.rules (kinds_of tokens) t s (first_of constituent)
      (end_of (length tokens) constituent)

-- the answer that there is no tree
abbrev pub none_line : List ℕ
none_line = as_line (codes "none")

-- the line that refuses a tree of too many nodes
abbrev pub large_tree_line : List ℕ
large_tree_line = as_line (codes "refused tree")

-- the answer to what the first tree of the constituent is, where the question is not refused: none,
-- where it is not derived; a refusal, where the tree has more nodes than are printed; or else its
-- printed text
pub data IsTreeAnswer (g : Grammar) (text : List ℕ) (tokens : List Token)
    (constituent : Constituent) (line : List ℕ) : Type 0 where
  refused_tree : IsQuestionRefused g (length tokens) constituent line
      → IsTreeAnswer g text tokens constituent line
  no_tree : HasSymbol g constituent → IsWithin (length tokens) constituent
      → (IsDerived g tokens constituent → ⊥) → line ≡ none_line
      → IsTreeAnswer g text tokens constituent line
  large_tree : (t : Tree) → IsWithin (length tokens) constituent
      → IsFirstTreeOf g tokens constituent t → MAX_NODES < node_count t → line ≡ large_tree_line
      → IsTreeAnswer g text tokens constituent line
  printed_tree : (t : Tree) → IsWithin (length tokens) constituent
      → IsFirstTreeOf g tokens constituent t → node_count t ≤ MAX_NODES
      → line ≡ as_line (tree_text g text tokens t)
      → IsTreeAnswer g text tokens constituent line
