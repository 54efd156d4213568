-- What a caller sees of reading a grammar file.
use Rattle.std.specs.Prelude.{◌≡◌, ℕ, ◌⊎◌, List, Result, Ok, Err}
use Rattle.spec_lbnf.specs.declared.definition.Def.{Def}
use Rattle.spec_lbnf.specs.declared.fault.TextFault.{TextFault}
use Rattle.spec_lbnf.specs.declared.fault.TextFault.TheVariants.{Memory}
use Rattle.spec_lbnf.specs.Faults.{IsSmallText, Spells, IsFirstFault}

-- the answer on the file, as it is seen, is its definitions; or that memory ran out, at a small
-- text; or its first fault
abbrev pub ReadsFile : {A : Type 0} → (A → List Def) → List ℕ → Result A TextFault → Type 0
ReadsFile view bytes (Ok defs) = Spells bytes (view defs)
ReadsFile view bytes (Err fault) =
    ((fault ≡ Memory) × IsSmallText bytes) ⊎ IsFirstFault bytes fault

-- the answer on the file is its definitions; or that memory ran out, at a small text; or its first
-- fault
abbrev pub ReadsDefs : List ℕ → Result (List Def) TextFault → Type 0
ReadsDefs bytes answer = ReadsFile (λ defs. defs) bytes answer
