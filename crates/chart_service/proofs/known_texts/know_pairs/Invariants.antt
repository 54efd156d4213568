-- The names of the pairs so far are UTF-8.
use Rattle.std.proofs.Common.{take, All}
use Rattle.text_store.specs.TextStore.{AreUtf8}
use Rattle.chart_service.proofs.known_texts.know_pairs.Given as goal

abbrev pub invariant-loop-pair : goal.invariant-loop-pair
invariant-loop-pair l = All AreUtf8 (take l.pair-index l.pairs)
