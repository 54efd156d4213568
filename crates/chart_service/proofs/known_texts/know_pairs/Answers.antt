-- Both names of one pair more are UTF-8.
use Rattle.std.proofs.Common.{All, arith, subst}
use Rattle.std.proofs.lemmas.List.{take_all}
use Rattle.std.proofs.lemmas.List.Elements.{All-more}
use Rattle.text_store.specs.TextStore.{AreUtf8}
use Rattle.chart_service.proofs.known_texts.know_pairs.Goals as goal

pub loop-pair-preserved : goal.loop-pair-preserved
loop-pair-preserved c =
    All-more AreUtf8 c.args.pairs.now c.loop-pair.pair-index c.pair-item.result (omega arith)
    c.loop-pair.invariant (subst AreUtf8 c.pair-item.is c.know_pair.ensures)

pub returns : goal.returns
returns c =
    subst (All AreUtf8) (take_all c.loop-pair.pair-index c.args.pairs.now (omega arith)) c.loop-pair.invariant
