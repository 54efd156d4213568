-- The corner by the number of rows below an entry and of columns before it.
use Rattle.joins.proofs.NodeLemmas.{nodes_stand_for_their_kinds}
use Rattle.joins.proofs.laws.nodes_stand_for_their_kinds.Goals as goal

pub returns : goal.returns
returns c = nodes_stand_for_their_kinds
