use Rattle.std.proofs.Common.{sym, ◌∙◌, arith}
use Rattle.std.proofs.lemmas.List.Sums.{position_or_len_is}
use Rattle.spec_lbnf.specs.declared.token.PlacedToken.{PlacedToken}
use Rattle.lbnf_text.proofs.DefinitionsLemmas.{ends_piece, piece_size, no_end}
use Rattle.lbnf_text.proofs.definitions.piece_len.Goals as goal

pub returns-then-is_semicolon-clause-len : goal.returns-then-is_semicolon-clause-len
returns-then-is_semicolon-clause-len c =
    let other : PlacedToken = c.index-tokens-i.result in
    sym (position_or_len_is ends_piece c.args.tokens.now c.loop-i.i other (omega arith) (λ k lt. c.loop-i.invariant k other lt) (λ _. rw (← c.index-tokens-i.is) (sym c.is_semicolon.ensures ∙ c.if-is_semicolon.true))) ∙ piece_size c.args.tokens.now

pub returns-clause-len : goal.returns-clause-len
returns-clause-len c = no_end c.args.tokens.now (λ k other lt. c.loop-i.invariant k other (omega arith))
