-- Reading the definitions of a file from its tokens. Serves the proofs alone: what the tokens spell
-- is said in GrammarFile, and their first fault in Faults.
use Rattle.std.specs.Prelude.{ℕ, zero, suc, ◌-◌, List, [], ◌∷◌, length, take, cond, Result, Ok, Err}
use Rattle.spec_lbnf.specs.declared.definition.Def.{Def}
use Rattle.spec_lbnf.specs.declared.token.PlacedToken.{PlacedToken}
use Rattle.spec_lbnf.specs.GrammarFile.{is_semicolon}
use Rattle.spec_lbnf.specs.declared.fault.TextFault.{TextFault}
use Rattle.spec_lbnf.specs.declared.fault.TextFault.TheVariants.{Syntax}
use Rattle.spec_lbnf.specs.Faults.{bare}
use Rattle.lbnf_readers.specs.FileFaults.{piece_fault}
use Rattle.lbnf_readers.specs.FileReading.{Read, got, stuck, long, def_at}

-- the tokens before the first semicolon
abbrev pub piece_at : List PlacedToken → List PlacedToken
piece_at [] = []
piece_at (token ∷ rest) = cond (is_semicolon token.token) [] (token ∷ piece_at rest)

-- the tokens from the first semicolon on
abbrev pub behind_piece : List PlacedToken → List PlacedToken
behind_piece [] = []
behind_piece (token ∷ rest) = cond (is_semicolon token.token) (token ∷ rest) (behind_piece rest)

-- where the first of the tokens begins, or else this offset
abbrev pub offset_of : List PlacedToken → ℕ → ℕ
offset_of [] stop = stop
offset_of (token ∷ rest) stop = token.offset

-- the fault of a piece that cannot go on with its last tokens, these, by the offset of what stands
-- behind it
abbrev pub stuck_fault : (piece rest : List PlacedToken) → (stop : ℕ) → TextFault
stuck_fault piece [] stop = Syntax stop
stuck_fault piece (token ∷ rest) stop =
    piece_fault (bare (take (length piece - length (token ∷ rest)) piece))
    token.token token.offset

-- the definition that was read of a piece, or its fault
abbrev pub def_or_fault : (piece : List PlacedToken) → (stop : ℕ) → Read Def
    → Result Def TextFault
def_or_fault piece stop (got def rest) = Ok def
def_or_fault piece stop (stuck rest) = Err (stuck_fault piece rest stop)
def_or_fault piece stop (long rest) = Err (Syntax (offset_of rest stop))

-- the definition of a piece, or its fault
unfoldable pub piece_def : (piece : List PlacedToken) → (stop : ℕ) → Result Def TextFault
piece_def piece stop = def_or_fault piece stop (def_at piece)

-- a definition, and those behind it
abbrev pub and_defs : Result Def TextFault → Result (List Def) TextFault
    → Result (List Def) TextFault
and_defs (Ok def) (Ok defs) = Ok (def ∷ defs)
and_defs (Ok def) (Err fault) = Err fault
and_defs (Err fault) others = Err fault

-- the definitions of the tokens, or their first fault, where there are no more tokens than turns,
-- and this offset is behind them
unfoldable pub defs_at : (turns : ℕ) → (tokens : List PlacedToken) → (stop : ℕ)
    → Result (List Def) TextFault
defs_at turns [] stop = Ok []
defs_at zero (token ∷ rest) stop = Ok []
defs_at (suc turns) (token ∷ rest) stop =
    cond (is_semicolon token.token) (defs_at turns rest stop)
    (and_defs
    (piece_def (piece_at (token ∷ rest)) (offset_of (behind_piece (token ∷ rest)) stop))
    (defs_at turns (behind_piece (token ∷ rest)) stop))

-- the definitions that all of the tokens are, or their first fault
abbrev pub defs_of : (tokens : List PlacedToken) → (stop : ℕ) → Result (List Def) TextFault
defs_of tokens stop = defs_at (length tokens) tokens stop
