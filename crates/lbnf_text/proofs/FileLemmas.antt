-- From the tokens of a file to what is answered on it.
use Rattle.std.proofs.Common.{◌≡◌, ℕ, ◌+◌, ◌^◌, ◌<◌, ◌≤◌, List, [], ◌∷◌, inl, inr, length, Result, Ok, Err, arith}
use Rattle.std.proofs.lemmas.Bool.{cases_Bool}
use Rattle.spec_lbnf.specs.Differences.{differences_of, is_minus, minus_signs}
use Rattle.spec_lbnf.proofs.DifferenceLemmas.{minus_for_each}
use Rattle.lbnf_readers.specs.FileDefinitions.{defs_of}
use Rattle.lbnf_readers.proofs.FaultLemmas.{form_is}
use Rattle.spec_lbnf.specs.declared.definition.Def.{Def}
use Rattle.spec_lbnf.specs.declared.token.PlacedToken.{PlacedToken}
use Rattle.spec_lbnf.specs.FileTokens.{IsScan}
use Rattle.lbnf_readers.specs.FileLaws.{RiseTo}
use Rattle.spec_lbnf.specs.declared.fault.TextFault.{TextFault}
use Rattle.spec_lbnf.specs.Faults.{IsSmallText, IsFirstFault}
use Rattle.lbnf_readers.proofs.ScanLemmas.{rises}
use Rattle.lbnf_text.specs.Faulting.{IsReadAs}
use Rattle.lbnf_text.specs.Reading.{ReadsFile}

-- offsets that rise are no more than the last of them
few_offsets : (from : ℕ) (tokens : List PlacedToken) (stop : ℕ) → RiseTo from tokens stop → from + length tokens ≤ stop
few_offsets from [] stop rise = omega (arith, rise)
few_offsets from (token ∷ tokens) stop rise = omega (arith, rise.0, few_offsets (token.offset + 1) tokens stop rise.1)

-- the fault that is told of the definitions is the first of the file, which is a small text where
-- memory ran out
pub told_fault : {A : Type 0} (view : A → List Def) (bytes : List ℕ) (read : Result (List Def) TextFault) (answer : TextFault)
    → IsSmallText bytes → IsReadAs view read (Err answer) → ((fault : TextFault) → read ≡ Err fault → IsFirstFault bytes fault)
    → ReadsFile view bytes (Err answer)
told_fault view bytes read answer small (inl memory) first = inl (memory, small)
told_fault view bytes read answer small (inr told) first = inr (first answer told)

module _ (text : List ℕ) (tokens : List PlacedToken) (stop : ℕ) (scan : IsScan text tokens stop) where
  -- the tokens stop within the text
  pub stop_within : stop ≤ length text
  stop_within = (rises text tokens stop scan).1

  -- a text has no more tokens than bytes
  pub few_tokens : length tokens ≤ length text
  few_tokens =
      let rise = rises text tokens stop scan in
      omega (arith, few_offsets 0 tokens stop rise.0, rise.1)

-- there are no more minus signs than tokens
few_signs : (tokens : List PlacedToken) → length (minus_signs tokens) ≤ length tokens
few_signs [] = omega arith
few_signs (token ∷ rest) = elim (cases_Bool (is_minus token.token)) [
  | inl is ↦ rw is (omega (arith, few_signs rest))
  | inr other ↦ rw other (omega (arith, few_signs rest))
]

module _ (text : List ℕ) (tokens : List PlacedToken) (stop : ℕ) (scan : IsScan text tokens stop) (defs : List Def)
    (small : IsSmallText text) (end : stop ≡ length text) (read : defs_of tokens stop ≡ Ok defs) where
  -- each difference of the definitions has a minus sign
  pub signs_for_each : length (differences_of defs) ≡ length (minus_signs tokens)
  signs_for_each = minus_for_each defs tokens (form_is text tokens stop scan defs small end read).spelled

  -- so they are few
  pub few_differences : length (differences_of defs) < 2 ^ 32
  few_differences = omega (arith, signs_for_each, few_signs tokens, few_tokens text tokens stop scan, small.few)
