use Rattle.std.proofs.Common.{◌≡◌, ℕ, ◌<◌, get_or, true}
use Rattle.spec_lbnf.specs.declared.token.PlacedToken.{PlacedToken}
use Rattle.spec_lbnf.specs.declared.token.Sign.TheVariants.{OpenBracket}
use Rattle.lbnf_readers.specs.FileReading.{is_sign}
use Rattle.lbnf_text.proofs.categories.open_count.Given as goal

-- the tokens so far are open brackets
abbrev pub invariant-loop-i : goal.invariant-loop-i
invariant-loop-i l = (k : ℕ) (other : PlacedToken) → k < l.i → is_sign OpenBracket (get_or l.tokens k other).token ≡ true
