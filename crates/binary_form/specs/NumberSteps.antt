-- Serves the proofs alone. Unit steps between the numbers of symbols.
use Rattle.std.specs.Prelude.{ℕ}
use Rattle.spec_grammar.specs.Grammars.{Grammar}
use Rattle.binary_form.specs.Symbols.{BinarySymbol}
use Rattle.binary_form.specs.UnitSteps.{UnitStep}
use Rattle.binary_form.specs.BinaryForm.{IsNumberOf}

-- a unit step goes from the symbol of the one number to the symbol of the other
abbrev pub StepNumber : Grammar → ℕ → ℕ → Type 0
StepNumber g m n =
    (a b : BinarySymbol) × IsNumberOf g a m × IsNumberOf g b n × UnitStep g.rules a b
