-- A symbol derives a span of a part exactly where it derives it of the whole.
use Rattle.joins.proofs.NodeLemmas.{parts_stand_for_their_kinds}
use Rattle.joins.proofs.laws.parts_stand_for_their_kinds.Goals as goal

pub returns : goal.returns
returns c = parts_stand_for_their_kinds
