-- Telling the fault of a token at which a file cannot go on. Serves the proofs alone: what the
-- faults are is said in Faults.
use Rattle.std.specs.Prelude.{ℕ, List, [], ◌∷◌, codes, bytes_eq, cond}
use Rattle.spec_lbnf.specs.declared.fault.TextFault.{TextFault}
use Rattle.spec_lbnf.specs.declared.fault.TextFault.TheVariants.{Syntax, Unsupported}
use Rattle.spec_lbnf.specs.declared.token.Sign.TheVariants.{OpenParen}
use Rattle.spec_lbnf.specs.declared.token.FileToken.{FileToken}
use Rattle.spec_lbnf.specs.declared.token.FileToken.TheVariants.{Identifier}
use Rattle.spec_lbnf.specs.declared.token.FileToken.TheVariants.{Sign as SignToken}
use Rattle.spec_lbnf.specs.GrammarFile.{starts_upper}
use Rattle.spec_lbnf.specs.Faults.{last_piece}

-- the fault of a token at which a definition that has begun with these cannot go on: a lower-case
-- word at its beginning, a lower-case label behind `internal` and a bracket behind a label's name
-- are not supported; all else is a fault of syntax
abbrev pub piece_fault : List FileToken → FileToken → ℕ → TextFault
piece_fault [] (Identifier word) at = cond (starts_upper word) (Syntax at) (Unsupported word at)
piece_fault (Identifier first ∷ []) (Identifier word) at =
    cond (bytes_eq first (codes "internal"))
    (cond (starts_upper word) (Syntax at) (Unsupported word at))
    (Syntax at)
piece_fault (Identifier first ∷ []) (SignToken OpenParen) at =
    cond (starts_upper first) (Unsupported (codes "(") at) (Syntax at)
piece_fault (Identifier first ∷ Identifier label ∷ []) (SignToken OpenParen) at =
    cond (bytes_eq first (codes "internal")) (Unsupported (codes "(") at) (Syntax at)
piece_fault piece token at = Syntax at

-- the fault of a token at which the file cannot go on behind these
abbrev pub token_fault : List FileToken → FileToken → ℕ → TextFault
token_fault front token at = piece_fault (last_piece front) token at
