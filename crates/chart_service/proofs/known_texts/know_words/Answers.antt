-- One word more is UTF-8.
use Rattle.std.proofs.Common.{All, arith, subst}
use Rattle.std.proofs.lemmas.List.{take_all}
use Rattle.std.proofs.lemmas.List.Elements.{All-more}
use Rattle.chart_service.specs.KnownTexts.{IsUtf8Word}
use Rattle.chart_service.proofs.known_texts.know_words.Goals as goal

pub loop-kind-preserved : goal.loop-kind-preserved
loop-kind-preserved c =
    All-more IsUtf8Word c.args.kinds.now c.loop-kind.kind-index c.kind-item.result (omega arith)
    c.loop-kind.invariant (subst IsUtf8Word c.kind-item.is c.know_word.ensures)

pub returns : goal.returns
returns c =
    subst (All IsUtf8Word) (take_all c.loop-kind.kind-index c.args.kinds.now (omega arith)) c.loop-kind.invariant
