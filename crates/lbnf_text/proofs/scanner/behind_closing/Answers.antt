-- The text is split at its first closing text.
use Rattle.std.proofs.Common.{Some, ap, ◌∙◌, arith}
use Rattle.lbnf_text.proofs.CommentLemmas.{closing_found, closing_none}
use Rattle.lbnf_text.proofs.scanner.behind_closing.Goals as goal

pub returns-in_err-_block : goal.returns-in_err-_block
returns-in_err-_block c =
    rw c.from_residual.ensures (closing_none c.args.text.now c.in_err-_block.ensures.cases)

pub returns : goal.returns
returns c =
    let split = c.in_ok-_block.ensures.cases in
    ap Some split.4 ∙ closing_found c.args.text.now split.0 split.1 (omega arith) split.2
