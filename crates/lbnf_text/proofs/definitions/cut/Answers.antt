use Rattle.std.proofs.Common.{◌∙◌}
use Rattle.lbnf_text.proofs.DefinitionsLemmas.{piece_front, piece_behind}
use Rattle.lbnf_text.proofs.definitions.cut.Goals as goal

pub returns-clause-piece : goal.returns-clause-piece
returns-clause-piece c = c.split_at.ensures.front ∙ rw c.piece_len.ensures.len (piece_front c.args.tokens.now)

pub returns-clause-behind : goal.returns-clause-behind
returns-clause-behind c = c.split_at.ensures.back ∙ rw c.piece_len.ensures.len (piece_behind c.args.tokens.now)
