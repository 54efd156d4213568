-- The differences of token expressions, and that each is one of a class and an ASCII class.
use Rattle.std.specs.Prelude.{ℕ, ◌<◌, List, [], ◌∷◌, ◌++◌, length, All, filter, flat_map, Bool}
use Rattle.std.specs.Prelude.{true, false}
use Rattle.spec_lexing.specs.Expressions.{Expression, empty, class, scalar, any_of, word, in_turn}
use Rattle.spec_lexing.specs.Expressions.{nothing, either, minus, star, plus, optional}
use Rattle.spec_lexing.specs.Expressions.{expression_of}
use Rattle.spec_lexing.specs.Classes.{IsGoodDifference, IsSound}
use Rattle.spec_lbnf.specs.declared.definition.Def.{Def}
use Rattle.spec_lbnf.specs.declared.definition.Def.TheVariants.{Token, LineComment, BlockComment}
use Rattle.spec_lbnf.specs.declared.token.Sign.TheVariants.{Minus}
use Rattle.spec_lbnf.specs.declared.token.FileToken.{FileToken}
use Rattle.spec_lbnf.specs.declared.token.FileToken.TheVariants.{Sign as SignToken}
use Rattle.spec_lbnf.specs.declared.token.PlacedToken.{PlacedToken}
use Rattle.spec_lbnf.specs.Checks.{IsFirst, HasAt}

-- a difference, by its left and its right side
abbrev pub Difference : Type 0
Difference = Expression × Expression

-- the differences in an expression, in the order of their minus signs
abbrev pub differences_in : Expression → List Difference
differences_in (in_turn first second) = differences_in first ++ differences_in second
differences_in (either left right) = differences_in left ++ differences_in right
differences_in (minus left right) =
    differences_in left ++ ((left, right) ∷ differences_in right)
differences_in (star part) = differences_in part
differences_in (plus part) = differences_in part
differences_in (optional part) = differences_in part
differences_in expression = []

-- the differences in a definition
abbrev pub differences_of_def : Def → List Difference
differences_of_def (Token name expr) = differences_in (expression_of expr)
differences_of_def other = []

-- the differences in the definitions, definition by definition
abbrev pub differences_of : List Def → List Difference
differences_of defs = flat_map differences_of_def defs

-- the difference is one of a class and an ASCII class
abbrev pub IsGood : Difference → Type 0
IsGood difference = IsGoodDifference difference.0 difference.1

-- the difference is not good
abbrev pub IsBad : Difference → Type 0
IsBad difference = IsGood difference → ⊥

-- each difference in the definitions is good
abbrev pub HasGoodDifferences : List Def → Type 0
HasGoodDifferences defs = All IsGood (differences_of defs)

-- the first difference in the definitions that is not good has this number
abbrev pub IsFirstBad : List Def → ℕ → Type 0
IsFirstBad defs number = IsFirst (HasAt IsBad (differences_of defs)) number

-- the token is a minus sign
abbrev pub is_minus : FileToken → Bool
is_minus (SignToken Minus) = true
is_minus other = false

-- the minus signs among the tokens of a file; where these spell definitions, the differences have
-- one each, in this order
abbrev pub minus_signs : List PlacedToken → List PlacedToken
minus_signs tokens = filter (λ (token : PlacedToken). is_minus token.token) tokens

-- the expression of the definition, if it has one, is sound, and the texts of its comment are not
-- empty
abbrev pub IsProper : Def → Type 0
IsProper (Token name expr) = IsSound (expression_of expr)
IsProper (LineComment opening) = 0 < length opening
IsProper (BlockComment opening closing) = (0 < length opening) × (0 < length closing)
IsProper other = Unit {0}
