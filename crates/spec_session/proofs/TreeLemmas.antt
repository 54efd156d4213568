-- A constituent that is derived has one first tree, where names are distinct and no category reaches itself.
use Rattle.std.proofs.Common.{◌≡◌, List, length, subst}
use Rattle.spec_lexing.specs.declared.token.Token.{Token}
use Rattle.spec_lexing.specs.Tokens.{kinds_of}
use Rattle.spec_grammar.specs.declared.rule.Symbol.{Symbol}
use Rattle.spec_grammar.specs.Grammars.{Grammar, HasDistinctNames}
use Rattle.spec_grammar.specs.Trees.{Tree}
use Rattle.spec_grammar.specs.Cycles.{IsAcyclic}
use Rattle.std.specs.Prelude.{nat_lt}
use Rattle.spec_trees.specs.FirstTrees.{lesser_from_left, IsFirstTree}
use Rattle.spec_trees.proofs.FirstTreeLemmas.{first_tree_is_one, first_is_parse_tree, left_tells_apart, lesser_is_strict}
use Rattle.spec_trees.proofs.TellingLemmas.{derived_or_not}
use Rattle.spec_trees.proofs.ExistenceLemmas.{derived_has_first}
use Rattle.spec_script.specs.Script.{Constituent}
use Rattle.spec_script.specs.declared.question.Constituent.TheVariants.{EntryWhole, NamedWhole, NamedSpan}
use Rattle.spec_session.specs.Questions.{IsOfSymbol, first_of, end_of, IsDerived}
use Rattle.spec_session.specs.TreeAnswers.{IsFirstTreeOf}

-- a constituent is of one symbol
pub one_symbol : (g : Grammar) → HasDistinctNames g → (constituent : Constituent) (s t : Symbol)
    → IsOfSymbol g constituent s → IsOfSymbol g constituent t → s ≡ t
one_symbol g names EntryWhole s t is other = cc
one_symbol g names (NamedWhole name) s t is other = names s t name is other
one_symbol g names (NamedSpan name first end) s t is other = names s t name is other

module _ (g : Grammar) (tokens : List Token) (constituent : Constituent) where
  -- the tree is the first of the symbol over the constituent's span
  abbrev IsFirstBy : Tree → Symbol → Type 0
  IsFirstBy t s =
      IsFirstTree lesser_from_left g.rules (kinds_of tokens) t s (first_of constituent)
      (end_of (length tokens) constituent)

  -- a constituent has one first tree
  pub one_tree : (t other : Tree) → IsFirstTreeOf g tokens constituent t
      → IsFirstTreeOf g tokens constituent other → t ≡ other
  one_tree t other h k =
      first_tree_is_one g.rules (kinds_of tokens) lesser_from_left (left_tells_apart nat_lt lesser_is_strict)
      t other h.known.0 (first_of constituent) (end_of (length tokens) constituent)
      (h.is_first h.known.0 h.known.1) (k.is_first h.known.0 h.known.1)

  -- and is derived, where it has one
  pub tree_derives : (t : Tree) → IsFirstTreeOf g tokens constituent t → IsDerived g tokens constituent
  tree_derives t h = record {
    symbol = h.known.0;
    is_symbol = h.known.1;
    derives = (
      t,
      first_is_parse_tree g.rules (kinds_of tokens) lesser_from_left t h.known.0
          (first_of constituent) (end_of (length tokens) constituent) (h.is_first h.known.0 h.known.1),
    );
  }

  -- the first tree of its symbol is the constituent's
  pub first_of_symbol : HasDistinctNames g → (s : Symbol) → IsOfSymbol g constituent s
      → (t : Tree) → IsFirstBy t s → IsFirstTreeOf g tokens constituent t
  first_of_symbol names s is t first = record {
    known = (s, is);
    is_first = λ other is_other. subst (IsFirstBy t) (one_symbol g names constituent s other is is_other) first;
  }

  -- where it is derived, it has one
  pub derived_has_tree : HasDistinctNames g → IsAcyclic g.rules → IsDerived g tokens constituent
      → (t : Tree) × IsFirstTreeOf g tokens constituent t
  derived_has_tree names acyclic d =
      let found = derived_has_first nat_lt lesser_is_strict g.rules (kinds_of tokens)
      (derived_or_not g.rules (kinds_of tokens)) acyclic d.symbol (first_of constituent)
      (end_of (length tokens) constituent) d.derives in
      (found.0, first_of_symbol names d.symbol d.is_symbol found.0 found.1)
