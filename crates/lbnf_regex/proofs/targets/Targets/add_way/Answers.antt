use Rattle.lbnf_regex.proofs.targets.Targets.add_way.Goals as goal

pub returns-in-InSet : goal.returns-in-InSet
returns-in-InSet c = rw c.in-InSet.is (rw c.as_slice.ensures at c.add_set.ensures)

pub returns-in-InComment : goal.returns-in-InComment
returns-in-InComment c = rw c.in-InComment.is (rw c.as_slice-in-InComment.ensures at c.add_comment.ensures)
