-- One name more is UTF-8.
use Rattle.std.proofs.Common.{All, arith, subst}
use Rattle.std.proofs.lemmas.List.{take_all}
use Rattle.std.proofs.lemmas.List.Elements.{All-more}
use Rattle.std.specs.Str.{IsUtf8}
use Rattle.chart_service.proofs.known_texts.know_names.Goals as goal

pub loop-name-preserved : goal.loop-name-preserved
loop-name-preserved c =
    All-more IsUtf8 c.args.names.now c.loop-name.name-index c.name-item.result (omega arith)
    c.loop-name.invariant (subst IsUtf8 c.name-item.is c.know_name.ensures)

pub returns : goal.returns
returns c =
    subst (All IsUtf8) (take_all c.loop-name.name-index c.args.names.now (omega arith)) c.loop-name.invariant
