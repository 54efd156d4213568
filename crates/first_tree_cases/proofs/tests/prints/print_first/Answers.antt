-- The first tree is one of the text's tokens.
use Rattle.std.proofs.Common.{List, ℕ, ◌≡◌, subst, ◌∙◌, Option}
use Rattle.spec_lexing.specs.declared.token.Token.{Token}
use Rattle.spec_lexing.specs.Tokens.{kinds_of}
use Rattle.spec_grammar.specs.declared.rule.Symbol.{Symbol}
use Rattle.spec_grammar.specs.declared.rule.Rule.{Rule}
use Rattle.spec_grammar.specs.Trees.{Tree}
use Rattle.spec_grammar.specs.Derivation.{IsParseTree}
use Rattle.spec_trees.specs.Laws.{FirstTreesAreParseTrees}
use Rattle.spec_trees.specs.FirstTrees.{lesser_from_left}
use Rattle.first_tree.specs.Answers.{TellsFirst}
use Rattle.first_tree.specs.declared.answer.First.{First}
use Rattle.first_tree.specs.declared.answer.First.TheVariants.{Tree as Found}
use Rattle.first_tree_cases.proofs.tests.prints.print_first.Goals as goal

-- the tree that is told is a parse tree of the tokens
fitting : (rules : List Rule) (kinds : List (Option ℕ)) (tokens : List Token) (s : Symbol) (i j : ℕ)
    (t : Tree) → FirstTreesAreParseTrees → kinds ≡ kinds_of tokens →
    TellsFirst rules kinds s i j (Found t) →
    (x : Symbol) × (from to : ℕ) × IsParseTree rules (kinds_of tokens) t x from to
fitting rules kinds tokens s i j t law same told =
    subst (λ (ks : List (Option ℕ)). (x : Symbol) × (from to : ℕ) × IsParseTree rules ks t x from to) same
    (s, i, j, law lesser_from_left rules kinds t s i j told.0)

pub print-requires : goal.print-requires
print-requires g c = record {
  fits = fitting c.in_ok-grammar.grammar.rules c.as_slice.result.now c.in_ok-text.text.tokens c.args.symbol 0 c.token_count.result
      c.in-Tree.tree c.a_first_tree_is_a_parse_tree.ensures
      (c.as_slice.ensures.value ∙ c.in-Ok.ensures)
      (rw c.in-Tree.is at c.in_ok-found.ensures);
}
