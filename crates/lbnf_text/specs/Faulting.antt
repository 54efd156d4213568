-- Telling the fault of a definition. Serves the proofs alone: which fault it is, is said in Faults
-- of spec_lbnf.
use Rattle.std.specs.Prelude.{◌≡◌, ℕ, List, [], ◌∷◌, ◌⊎◌, Option, Some, None, Result, Ok, Err}
use Rattle.spec_lbnf.specs.declared.token.FileToken.{FileToken}
use Rattle.spec_lbnf.specs.declared.token.FileToken.TheVariants.{Identifier}
use Rattle.spec_lbnf.specs.declared.fault.TextFault.{TextFault}
use Rattle.spec_lbnf.specs.declared.fault.TextFault.TheVariants.{Memory, Syntax}
use Rattle.lbnf_readers.specs.FileFaults.{piece_fault}
use Rattle.lbnf_text.specs.declared.faults.Start.{Start}
use Rattle.lbnf_text.specs.declared.faults.Start.TheVariants.{Nothing, Word, TwoWords, Other}

-- the answer is this fault, or that memory ran out
abbrev pub IsFault : TextFault → TextFault → Type 0
IsFault fault answer = (answer ≡ Memory) ⊎ (answer ≡ fault)

-- the answer, as it is seen, is what was to be read, or its fault, or that memory ran out
abbrev pub IsReadAs : {A B : Type 0} → (A → B) → Result B TextFault → Result A TextFault → Type 0
IsReadAs view read (Ok value) = read ≡ Ok (view value)
IsReadAs view read (Err answer) = (answer ≡ Memory) ⊎ (read ≡ Err answer)

-- the bytes of the identifier that the token is
abbrev pub identifier : FileToken → Option (List ℕ)
identifier (Identifier name) = Some name
identifier other = None

-- the fault of a token behind a first word
abbrev pub second_fault : (first : List ℕ) → FileToken → (at : ℕ) → TextFault
second_fault first token at = piece_fault (Identifier first ∷ []) token at

-- the fault of a token behind two words
abbrev pub third_fault : (first second : List ℕ) → FileToken → (at : ℕ) → TextFault
third_fault first second token at =
    piece_fault (Identifier first ∷ Identifier second ∷ []) token at

-- the tokens begin a definition so; behind others than words each fault is one of syntax
abbrev pub IsStart : List FileToken → Start → Type 0
IsStart front Nothing = front ≡ []
IsStart front (Word word) = front ≡ Identifier word.now ∷ []
IsStart front (TwoWords word other) = front ≡ Identifier word.now ∷ Identifier other.now ∷ []
IsStart front Other =
    (token : FileToken) (at : ℕ) → piece_fault front token at ≡ Syntax at
