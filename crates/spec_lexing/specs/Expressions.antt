-- Token expressions as data.
use Rattle.std.specs.Prelude.{ℕ, List, [], ◌∷◌}
use Rattle.spec_lexing.specs.declared.expression.Class.{Class}
use Rattle.spec_lexing.specs.declared.expression.Expr.{Expr}
use Rattle.spec_lexing.specs.declared.expression.Expr.TheOpen.{Expr-F}
use Rattle.spec_lexing.specs.declared.expression.Expr.TheFolds.{fold-Expr}

-- a token expression
pub data Expression : Type 0 where
  -- the empty text
  empty : Expression
  -- one scalar of the class
  class : Class → Expression
  -- this scalar
  scalar : ℕ → Expression
  -- one of the scalars that these bytes spell
  any_of : List ℕ → Expression
  -- these bytes
  word : List ℕ → Expression
  -- the first and then the second
  in_turn : Expression → Expression → Expression
  -- no text at all
  nothing : Expression
  -- the one or the other
  either : Expression → Expression → Expression
  -- a scalar of the first that is none of the second
  minus : Expression → Expression → Expression
  -- none or more in turn
  star : Expression → Expression
  -- one or more in turn
  plus : Expression → Expression
  -- none or one
  optional : Expression → Expression

-- all of these in turn
abbrev pub all_in_turn : List Expression → Expression
all_in_turn [] = empty
all_in_turn (part ∷ parts) = in_turn part (all_in_turn parts)

-- one of these
abbrev pub one_of : List Expression → Expression
one_of [] = nothing
one_of (part ∷ parts) = either part (one_of parts)

-- one form, with the expression of each part in its place
abbrev pub form_of : Expr-F Expression → Expression
form_of Expr-F.Eps = empty
form_of (Expr-F.Class k) = class k
form_of (Expr-F.Scalar c) = scalar c
form_of (Expr-F.AnyOf name) = any_of name
form_of (Expr-F.Word name) = word name
form_of (Expr-F.Seq parts) = all_in_turn parts
form_of (Expr-F.Alt parts) = one_of parts
form_of (Expr-F.Minus left right) = minus left right
form_of (Expr-F.Star part) = star part
form_of (Expr-F.Plus part) = plus part
form_of (Expr-F.Opt part) = optional part

-- what an expression in code stands for
abbrev pub expression_of : Expr → Expression
expression_of = fold-Expr Expression form_of
