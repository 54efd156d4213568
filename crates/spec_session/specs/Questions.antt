-- What questions on the spans of a text name, whether that is derived, and when a question is
-- refused.
use Rattle.std.specs.Prelude.{◌≡◌, ℕ, ◌<◌, ◌≤◌, ◌⊎◌, List, ◌++◌, length, codes, decimal, Some}
use Rattle.spec_lexing.specs.declared.token.Token.{Token}
use Rattle.spec_lexing.specs.Tokens.{kinds_of}
use Rattle.spec_grammar.specs.declared.rule.Symbol.{Symbol}
use Rattle.spec_grammar.specs.Grammars.{Grammar, HasName}
use Rattle.spec_grammar.specs.Derivation.{Derives}
use Rattle.spec_script.specs.declared.question.Constituent.TheVariants.{EntryWhole, NamedWhole}
use Rattle.spec_script.specs.declared.question.Constituent.TheVariants.{NamedSpan}
use Rattle.spec_script.specs.Script.{Constituent}
use Rattle.spec_session.specs.Lines.{as_line}

-- the constituent is of this symbol of the grammar: of its entry, or of one with the name
abbrev pub IsOfSymbol : Grammar → Constituent → Symbol → Type 0
IsOfSymbol g EntryWhole s = g.entry ≡ Some s
IsOfSymbol g (NamedWhole name) s = HasName g s name
IsOfSymbol g (NamedSpan name first end) s = HasName g s name

-- the constituent is of some symbol of the grammar
abbrev pub HasSymbol : Grammar → Constituent → Type 0
HasSymbol g constituent = (s : Symbol) × IsOfSymbol g constituent s

-- the place at which the constituent begins
abbrev pub first_of : Constituent → ℕ
first_of EntryWhole = 0
first_of (NamedWhole name) = 0
first_of (NamedSpan name first end) = first

-- the place at which the constituent ends, in a text of so many tokens
abbrev pub end_of : ℕ → Constituent → ℕ
end_of size EntryWhole = size
end_of size (NamedWhole name) = size
end_of size (NamedSpan name first end) = end

-- from one place to the other is a span of a text of so many tokens
abbrev pub IsSpan : ℕ → ℕ → ℕ → Type 0
IsSpan size first end = (first ≤ end) × (end ≤ size)

-- from one place to the other is no span of a text of so many tokens: it runs backwards, or ends
-- behind it
abbrev pub IsNoSpan : ℕ → ℕ → ℕ → Type 0
IsNoSpan size first end = (end < first) ⊎ (size < end)

-- the constituent is a span of a text of so many tokens
abbrev pub IsWithin : ℕ → Constituent → Type 0
IsWithin size constituent = IsSpan size (first_of constituent) (end_of size constituent)

-- the constituent is no span of a text of so many tokens
abbrev pub IsOutside : ℕ → Constituent → Type 0
IsOutside size constituent = IsNoSpan size (first_of constituent) (end_of size constituent)

-- a symbol of the constituent derives its tokens
pub record IsDerived (g : Grammar) (tokens : List Token) (constituent : Constituent)
    : Type 0 where
  pub symbol : Symbol
  pub is_symbol : IsOfSymbol g constituent symbol
  pub derives : Derives g.rules (kinds_of tokens) symbol (first_of constituent)
      (end_of (length tokens) constituent)

-- the line that refuses a question on a symbol that is none of the grammar's
abbrev pub unknown_category_line : List ℕ
unknown_category_line = as_line (codes "refused category")

-- the line that refuses a question on a span that is none of a text of so many tokens
abbrev pub outside_line : ℕ → List ℕ
outside_line tokens = codes "refused span " ++ as_line (decimal tokens)

-- a question on the constituent is refused with this line: the constituent is of no symbol, or
-- else it is no span of a text of so many tokens
pub data IsQuestionRefused (g : Grammar) (size : ℕ) (constituent : Constituent) (line : List ℕ)
    : Type 0 where
  of_no_symbol : (HasSymbol g constituent → ⊥) → line ≡ unknown_category_line
      → IsQuestionRefused g size constituent line
  of_no_span : HasSymbol g constituent → IsOutside size constituent → line ≡ outside_line size
      → IsQuestionRefused g size constituent line
