-- The names so far are UTF-8.
use Rattle.std.proofs.Common.{take, All}
use Rattle.std.specs.Str.{IsUtf8}
use Rattle.chart_service.proofs.known_texts.know_names.Given as goal

abbrev pub invariant-loop-name : goal.invariant-loop-name
invariant-loop-name l = All IsUtf8 (take l.name-index l.names)
