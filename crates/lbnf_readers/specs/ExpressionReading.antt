-- Reading a token expression token by token: a token turns one state into the next, or cannot
-- stand. Serves the proofs alone: what tokens spell is said in TokenExpressions.
use Rattle.std.specs.Prelude.{ℕ, ◌+◌, List, [], ◌∷◌, ◌++◌, length, codes, bytes_eq, cond, nat_lt}
use Rattle.std.specs.Prelude.{Option, Some, None, option_map, option_and_then}
use Rattle.spec_lexing.specs.declared.expression.Class.TheVariants.{Digit, Letter, Upper, Lower}
use Rattle.spec_lexing.specs.declared.expression.Class.TheVariants.{AnyChar}
use Rattle.spec_lexing.specs.declared.expression.Expr.{Expr}
use Rattle.spec_lexing.specs.declared.expression.Expr.TheVariants.{Eps, Class as ClassExpr}
use Rattle.spec_lexing.specs.declared.expression.Expr.TheVariants.{Scalar, AnyOf, Word, Seq, Alt}
use Rattle.spec_lexing.specs.declared.expression.Expr.TheVariants.{Minus as MinusExpr}
use Rattle.spec_lbnf.specs.declared.token.Sign.{Sign}
use Rattle.spec_lbnf.specs.declared.token.Sign.TheVariants.{OpenBracket, CloseBracket, OpenParen}
use Rattle.spec_lbnf.specs.declared.token.Sign.TheVariants.{CloseParen, OpenBrace, CloseBrace, Bar}
use Rattle.spec_lbnf.specs.declared.token.Sign.TheVariants.{Star, Plus, Question, Minus}
use Rattle.spec_lbnf.specs.declared.token.FileToken.{FileToken}
use Rattle.spec_lbnf.specs.declared.token.FileToken.TheVariants.{Identifier, Text, Character}
use Rattle.spec_lbnf.specs.declared.token.FileToken.TheVariants.{Sign as SignToken}
use Rattle.spec_lbnf.specs.Words.{is_empty}
use Rattle.spec_lbnf.specs.TokenExpressions.{Suffix, star_sign, plus_sign, question_sign}
use Rattle.spec_lbnf.specs.TokenExpressions.{alone_or, suffix_expr, word_of_class}
use Rattle.spec_lbnf.specs.TokenExpressions.{most_brackets, most_signs, most_minus_signs}
use Rattle.lbnf_readers.specs.declared.expression_state.Level.{Level}
use Rattle.lbnf_readers.specs.declared.expression_state.OpenAtom.{OpenAtom}
use Rattle.lbnf_readers.specs.declared.expression_state.OpenAtom.TheVariants.{Bracket, Brace}
use Rattle.lbnf_readers.specs.declared.expression_state.OpenAtom.TheVariants.{AnyOf as OpenSet}
use Rattle.lbnf_readers.specs.declared.expression_state.OpenAtom.TheVariants.{Word as OpenWord}
use Rattle.lbnf_readers.specs.declared.expression_state.ExpressionState.{ExpressionState}

-- the value, unless the items are none
abbrev pub unless_none : {A X : Type 0} → List X → A → Option A
unless_none items value = cond (is_empty items) None (Some value)

-- the value, where the count is below the limit
abbrev pub if_below : {A : Type 0} → (count limit : ℕ) → A → Option A
if_below count limit value = cond (nat_lt count limit) (Some value) None

-- all but the last of a list, and the last
abbrev pub split_last : {A : Type 0} → List A → Option (List A × A)
split_last [] = None
split_last (x ∷ []) = Some ([], x)
split_last (x ∷ y ∷ xs) = option_map (λ parts. (x ∷ parts.0, parts.1)) (split_last (y ∷ xs))

-- a level of which nothing is read
abbrev pub empty_level : Level
empty_level = record { alternatives = []; left = None; minus_signs = 0; factors = []; signs = 0 }

-- the expression of a sequence, less than what is left of its minus sign, if there is one
abbrev pub less_than : Option Expr → Expr → Expr
less_than None part = part
less_than (Some left) part = MinusExpr left part

-- the difference that the level ends with
abbrev pub side_of : Level → Expr
side_of level = less_than level.left (alone_or Seq level.factors)

-- the expression of the level
abbrev pub level_expr : Level → Expr
level_expr level = alone_or Alt (level.alternatives ++ side_of level ∷ [])

-- the level with one factor more
abbrev pub with_factor : Level → Expr → Level
with_factor level factor = record {
  alternatives = level.alternatives;
  left = level.left;
  minus_signs = level.minus_signs;
  factors = level.factors ++ factor ∷ [];
  signs = 0;
}

-- the level with a sign behind its last factor, these being its factors
abbrev pub with_suffix : Level → Suffix → List Expr × Expr → Level
with_suffix level suffix factors = record {
  alternatives = level.alternatives;
  left = level.left;
  minus_signs = level.minus_signs;
  factors = factors.0 ++ suffix_expr suffix factors.1 ∷ [];
  signs = level.signs + 1;
}

-- the level with a bar behind it
abbrev pub with_bar : Level → Level
with_bar level = record {
  alternatives = level.alternatives ++ side_of level ∷ [];
  left = None;
  minus_signs = 0;
  factors = [];
  signs = 0;
}

-- the level with a minus sign behind it
abbrev pub with_minus : Level → Level
with_minus level = record {
  alternatives = level.alternatives;
  left = Some (side_of level);
  minus_signs = level.minus_signs + 1;
  factors = [];
  signs = 0;
}

-- a sign behind a factor, of which there are at most 8
abbrev pub suffix_step : Level → Suffix → Option Level
suffix_step level suffix =
    option_and_then (λ factors. if_below level.signs most_signs (with_suffix level suffix factors))
    (split_last level.factors)

-- a bar, where no operand must come
abbrev pub bar_step : Level → Option Level
bar_step level = unless_none level.factors (with_bar level)

-- a minus sign, where no operand must come, of which there are at most 8
abbrev pub minus_step : Level → Option Level
minus_step level =
    option_and_then (λ next. if_below level.minus_signs most_minus_signs next)
    (unless_none level.factors (with_minus level))

-- the state with this innermost level
abbrev pub at_level : ExpressionState → Level → ExpressionState
at_level state level = record { outer = state.outer; level = level; atom = None }

-- the state with one factor more
abbrev pub factor_step : ExpressionState → Expr → ExpressionState
factor_step state factor = at_level state (with_factor state.level factor)

-- the state with an atom begun
abbrev pub begin_atom : ExpressionState → OpenAtom → ExpressionState
begin_atom state atom = record { outer = state.outer; level = state.level; atom = Some atom }

-- an open round bracket, of which at most 64 are open
abbrev pub open_step : ExpressionState → Option ExpressionState
open_step state =
    if_below (length state.outer) most_brackets
    (record { outer = state.outer ++ state.level ∷ []; level = empty_level; atom = None })

-- the state behind a level and its close bracket, by the levels around it
abbrev pub closed_state : Level → List Level × Level → ExpressionState
closed_state level around = record {
  outer = around.0;
  level = with_factor around.1 (level_expr level);
  atom = None;
}

-- a close bracket, where no operand must come and a bracket is open
abbrev pub close_step : ExpressionState → Option ExpressionState
close_step state =
    option_and_then (λ (level : Level). option_map (closed_state level) (split_last state.outer))
    (unless_none state.level.factors state.level)

-- the atom that is a word
abbrev pub word_atom : List ℕ → Option Expr
word_atom name =
    cond (bytes_eq name (word_of_class Digit)) (Some (ClassExpr Digit))
    (cond (bytes_eq name (word_of_class Letter)) (Some (ClassExpr Letter))
    (cond (bytes_eq name (word_of_class Upper)) (Some (ClassExpr Upper))
    (cond (bytes_eq name (word_of_class Lower)) (Some (ClassExpr Lower))
    (cond (bytes_eq name (word_of_class AnyChar)) (Some (ClassExpr AnyChar))
    (cond (bytes_eq name (codes "eps")) (Some Eps) None)))))

-- a sign where no atom of three tokens is open
unfoldable pub sign_step : ExpressionState → Sign → Option ExpressionState
sign_step state OpenBracket = Some (begin_atom state Bracket)
sign_step state OpenBrace = Some (begin_atom state Brace)
sign_step state OpenParen = open_step state
sign_step state CloseParen = close_step state
sign_step state Bar = option_map (at_level state) (bar_step state.level)
sign_step state Minus = option_map (at_level state) (minus_step state.level)
sign_step state Star = option_map (at_level state) (suffix_step state.level star_sign)
sign_step state Plus = option_map (at_level state) (suffix_step state.level plus_sign)
sign_step state Question = option_map (at_level state) (suffix_step state.level question_sign)
sign_step state other = None

-- a token where no atom of three tokens is open
unfoldable pub plain_step : ExpressionState → FileToken → Option ExpressionState
plain_step state (Character scalar) = Some (factor_step state (Scalar scalar))
plain_step state (Identifier name) = option_map (factor_step state) (word_atom name)
plain_step state (SignToken sign) = sign_step state sign
plain_step state other = None

-- a token within an atom of three tokens
unfoldable pub atom_step : ExpressionState → OpenAtom → FileToken → Option ExpressionState
atom_step state Bracket (Text name) = Some (begin_atom state (OpenSet name))
atom_step state (OpenSet name) (SignToken CloseBracket) = Some (factor_step state (AnyOf name))
atom_step state Brace (Text name) = Some (begin_atom state (OpenWord name))
atom_step state (OpenWord name) (SignToken CloseBrace) = Some (factor_step state (Word name))
atom_step state atom token = None

-- a token within the atom that is open, if one is
abbrev pub step_by : ExpressionState → Option OpenAtom → FileToken → Option ExpressionState
step_by state (Some atom) token = atom_step state atom token
step_by state None token = plain_step state token

-- the state behind one token more
unfoldable pub step : ExpressionState → FileToken → Option ExpressionState
step state token = step_by state state.atom token

-- the state before the first token
abbrev pub first_state : ExpressionState
first_state = record { outer = []; level = empty_level; atom = None }

-- the expression that the state is, if it is whole: no bracket and no atom is open, and no operand
-- must come
abbrev pub whole_by : List Level → Option OpenAtom → Level → Option Expr
whole_by [] None level = unless_none level.factors (level_expr level)
whole_by outer atom level = None

-- the expression that is read
abbrev pub whole_of : ExpressionState → Option Expr
whole_of state = whole_by state.outer state.atom state.level
