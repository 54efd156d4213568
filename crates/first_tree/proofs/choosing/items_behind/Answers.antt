-- All that is behind.
use Rattle.std.proofs.Common.{◌+◌}
use Rattle.std.proofs.lemmas.List.{take_rest}
use Rattle.first_tree.proofs.choosing.items_behind.Goals as goal

pub returns : goal.returns
returns c = rw c.as_slice.ensures (take_rest (c.args.rule.now).items (c.args.place + 1))
