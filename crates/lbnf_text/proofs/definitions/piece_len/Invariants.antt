use Rattle.std.proofs.Common.{◌≡◌, ℕ, ◌<◌, get_or, false}
use Rattle.spec_lbnf.specs.declared.token.PlacedToken.{PlacedToken}
use Rattle.lbnf_text.proofs.DefinitionsLemmas.{ends_piece}
use Rattle.lbnf_text.proofs.definitions.piece_len.Given as goal

-- none of the tokens so far ends the piece
abbrev pub invariant-loop-i : goal.invariant-loop-i
invariant-loop-i l = (k : ℕ) (other : PlacedToken) → k < l.i → ends_piece (get_or l.tokens k other) ≡ false
