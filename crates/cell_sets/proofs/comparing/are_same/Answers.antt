use Rattle.cell_sets.proofs.CommonLemmas.{same_told}
use Rattle.cell_sets.proofs.comparing.are_same.Goals as goal

pub returns : goal.returns
returns c =
    same_told c.args.left.now c.args.right.now c.eq.result c.requires.left c.requires.right
    c.eq.ensures
