-- Looking for the first bad difference. Serves the proofs alone: which one it is, is said in
-- Differences of spec_lbnf.
use Rattle.std.specs.Prelude.{◌≡◌, ℕ, ◌+◌, List, [], ◌∷◌, length, All, flat_map, Result, Ok, Err}
use Rattle.std.specs.Prelude.{Option, Some, None}
use Rattle.spec_lexing.specs.declared.expression.Expr.{Expr}
use Rattle.spec_lexing.specs.Expressions.{expression_of}
use Rattle.spec_lbnf.specs.declared.definition.Def.{Def}
use Rattle.spec_lbnf.specs.declared.token.PlacedToken.{PlacedToken}
use Rattle.spec_lbnf.specs.Checks.{IsFirst, HasAt}
use Rattle.spec_lbnf.specs.Differences.{Difference, differences_in, IsGood, IsBad}
use Rattle.spec_lbnf.specs.Differences.{HasGoodDifferences}
use Rattle.spec_lbnf.specs.Faults.{IsFirstBadAt}

-- the differences in the expressions, in order
abbrev pub differences_in_all : List Expr → List Difference
differences_in_all exprs = flat_map (λ expr. differences_in (expression_of expr)) exprs

-- with so many differences before these, the answer is how many there are up to their end, each
-- good; or the number of the first that is bad
abbrev pub Looks : List Difference → ℕ → Result ℕ ℕ → Type 0
Looks differences before (Ok behind) =
    All IsGood differences × (behind ≡ before + length differences)
Looks differences before (Err number) =
    (place : ℕ) × (number ≡ before + place) × IsFirst (HasAt IsBad differences) place

-- the answer is where the sign of the first bad difference is, or that each is good
abbrev pub FindsBad : List Def → List PlacedToken → Option ℕ → Type 0
FindsBad defs tokens (Some offset) = IsFirstBadAt tokens defs offset
FindsBad defs tokens None = HasGoodDifferences defs
