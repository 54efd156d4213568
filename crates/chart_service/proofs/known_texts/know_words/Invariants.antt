-- The words among the kinds so far are UTF-8.
use Rattle.std.proofs.Common.{take, All}
use Rattle.chart_service.specs.KnownTexts.{IsUtf8Word}
use Rattle.chart_service.proofs.known_texts.know_words.Given as goal

abbrev pub invariant-loop-kind : goal.invariant-loop-kind
invariant-loop-kind l = All IsUtf8Word (take l.kind-index l.kinds)
