-- The reply is that of the question.
use Rattle.chart_service.proofs.answering.answer_to.Goals as goal

pub returns-in_ok-has_answer-in-Has : goal.returns-in_ok-has_answer-in-Has
returns-in_ok-has_answer-in-Has g c =
    rw c.in-Has.is
    (c.in_ok-has_answer-in-Has.ensures c.args.text.now.bytes c.args.text.now.tokens c.requires.opened, tt)

pub returns-in-Tree : goal.returns-in-Tree
returns-in-Tree g c =
    rw c.in-Tree.is (c.tree_answer.ensures c.args.text.now.bytes c.args.text.now.tokens c.requires.opened)
