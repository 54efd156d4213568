use Rattle.std.proofs.Common.{[], slice_index_or}
use Rattle.binary_form.proofs.LeftSideLemmas.{has_member}
use Rattle.binary_form.proofs.left_sides.is_linked.Goals as goal

pub returns : goal.returns
returns c =
    has_member (slice_index_or c.args.links.now c.args.number []) c.is_empty.result (rw c.from.ensures at c.is_empty.ensures)
