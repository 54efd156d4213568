-- The answers to questions on the spans of a text, each as one line with its LF.
use Rattle.std.specs.Prelude.{◌≡◌, ℕ, List, length, codes}
use Rattle.spec_lexing.specs.declared.token.Token.{Token}
use Rattle.spec_grammar.specs.Grammars.{Grammar}
use Rattle.spec_script.specs.Script.{Constituent, Query, has, tree, tokens_in}
use Rattle.spec_session.specs.Lines.{as_line}
use Rattle.spec_session.specs.Questions.{HasSymbol, IsWithin, IsDerived, IsQuestionRefused}
use Rattle.spec_session.specs.TokenAnswers.{IsTokensAnswer}
use Rattle.spec_session.specs.TreeAnswers.{IsTreeAnswer}

-- the answer that a constituent is derived
abbrev pub yes_line : List ℕ
yes_line = as_line (codes "yes")

-- the answer that it is not
abbrev pub no_line : List ℕ
no_line = as_line (codes "no")

-- the answer to whether a constituent is derived: yes or no by derivation, where the question is
-- not refused
pub data IsHasAnswer (g : Grammar) (tokens : List Token) (constituent : Constituent)
    (line : List ℕ) : Type 0 where
  refused_has : IsQuestionRefused g (length tokens) constituent line
      → IsHasAnswer g tokens constituent line
  yes : IsWithin (length tokens) constituent → IsDerived g tokens constituent
      → line ≡ yes_line → IsHasAnswer g tokens constituent line
  no : HasSymbol g constituent → IsWithin (length tokens) constituent
      → (IsDerived g tokens constituent → ⊥) → line ≡ no_line
      → IsHasAnswer g tokens constituent line

-- the answer to a query on a text that has these tokens
abbrev pub IsAnswer : Grammar → List ℕ → List Token → Query → List ℕ → Type 0
IsAnswer g text tokens (has constituent) line = IsHasAnswer g tokens constituent line
IsAnswer g text tokens (tree constituent) line = IsTreeAnswer g text tokens constituent line
IsAnswer g text tokens (tokens_in span) line =
    IsTokensAnswer g.lexicon.kinds text tokens span line
