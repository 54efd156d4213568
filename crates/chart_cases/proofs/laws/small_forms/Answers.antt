-- Each case by computation, or by the unit steps of its grammar.
use Rattle.chart_cases.proofs.BinaryCases.{small_forms}
use Rattle.chart_cases.proofs.laws.small_forms.Goals as goal

pub returns : goal.returns
returns c = small_forms
