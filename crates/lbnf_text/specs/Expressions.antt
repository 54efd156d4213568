-- What a reader of token expressions answers. Serves the proofs alone.
use Rattle.std.specs.Prelude.{◌≡◌, ◌≢◌, List, [], ◌∷◌, cond, Option, Some, None, Result, Ok, Err}
use Rattle.spec_lexing.specs.declared.expression.Expr.{Expr}
use Rattle.spec_lbnf.specs.TokenExpressions.{Suffix as Written, star_sign, plus_sign}
use Rattle.spec_lbnf.specs.TokenExpressions.{question_sign, alone_or}
use Rattle.lbnf_readers.specs.declared.expression_state.Level.{Level}
use Rattle.spec_lbnf.specs.declared.token.Sign.{Sign}
use Rattle.spec_lbnf.specs.declared.token.FileToken.{FileToken}
use Rattle.lbnf_readers.specs.declared.expression_state.ExpressionState.{ExpressionState}
use Rattle.lbnf_readers.specs.ExpressionReading.{bar_step, minus_step, suffix_step, factor_step}
use Rattle.lbnf_readers.specs.FileReading.{is_sign}
use Rattle.lbnf_text.specs.declared.levels.Operator.{Operator}
use Rattle.lbnf_text.specs.declared.levels.Operator.TheVariants.{Bar, Minus, Behind}
use Rattle.lbnf_text.specs.declared.levels.Suffix.{Suffix}
use Rattle.lbnf_text.specs.declared.levels.Suffix.TheVariants.{Star, Plus, Question}
use Rattle.lbnf_text.specs.declared.parser.Stop.{Stop}
use Rattle.lbnf_text.specs.declared.parser.Stop.TheVariants.{Memory, Stuck}

-- the answer is what the step gives, or that it gives nothing; want of memory is free
abbrev pub StepsTo : {A : Type 0} → Option A → Result A Stop → Type 0
StepsTo next (Ok value) = next ≡ Some value
StepsTo next (Err stop) = stop ≢ Memory → (next ≡ None) × (stop ≡ Stuck)

-- the answer is the one part of the list, or the list, which has none or several
abbrev pub IsAlone : List Expr → Result Expr (List Expr) → Type 0
IsAlone parts (Ok only) = parts ≡ only ∷ []
IsAlone parts (Err others) =
    (parts ≡ others) × ((together : List Expr → Expr) → alone_or together parts ≡ together parts)

-- the sign behind a factor, as it is written
abbrev pub suffix_of : Suffix → Written
suffix_of Star = star_sign
suffix_of Plus = plus_sign
suffix_of Question = question_sign

-- the level behind the operator
abbrev pub operator_step : Level → Operator → Option Level
operator_step level Bar = bar_step level
operator_step level Minus = minus_step level
operator_step level (Behind suffix) = suffix_step level (suffix_of suffix)

-- the state behind the sign that closes this atom, if the token is that sign
abbrev pub closed_by : ExpressionState → Sign → Expr → FileToken → Option ExpressionState
closed_by state closing atom token =
    cond (is_sign closing token) (Some (factor_step state atom)) None
