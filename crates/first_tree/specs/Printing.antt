-- What a caller sees of a tree that is printed: which trees are, and what is printed of them.
use Rattle.std.specs.Prelude.{ℕ, List}
use Rattle.spec_lexing.specs.Tokens.{kinds_of}
use Rattle.spec_grammar.specs.declared.rule.Symbol.{Symbol}
use Rattle.spec_grammar.specs.Grammars.{Grammar}
use Rattle.spec_grammar.specs.Trees.{Tree}
use Rattle.spec_grammar.specs.Derivation.{IsParseTree}
use Rattle.spec_trees.specs.TreeText.{tree_text}
use Rattle.text_store.specs.TextStore.{TextValue}

-- the tree is a parse tree of some symbol over some span of the text's tokens
abbrev pub IsTreeIn : Grammar → TextValue → Tree → Type 0
IsTreeIn g text t =
    (s : Symbol) × (i : ℕ) × (j : ℕ) × IsParseTree g.rules (kinds_of text.tokens) t s i j

-- the printed text of the tree, with the bytes of the text's tokens
abbrev pub text_of : Grammar → TextValue → Tree → List ℕ
text_of g text t = tree_text g text.bytes text.tokens t
