-- Signs are ASCII, so that a text may be cut behind one.
use Rattle.std.proofs.Common.{◌≡◌, ℕ, ◌<◌, ◌≤◌, List, length, get_or, Some, None, refl, sym, ◌∙◌, arith, inl, inr, IsUtf8}
use Rattle.std.specs.Str.{IsCharBoundary}
use Rattle.std.proofs.lemmas.Bool.{ne_eqb, cases_lt}
use Rattle.std.proofs.lemmas.Option.{none-some}
use Rattle.std.proofs.lemmas.Str.{IsCharBoundary-after_ascii}
use Rattle.spec_lbnf.specs.declared.token.Sign.{Sign}
use Rattle.lbnf_readers.specs.Scanning.{byte_sign}

-- a byte that is not ASCII is no sign
high_no_sign : (byte : ℕ) → 128 ≤ byte → byte_sign byte ≡ None
high_no_sign byte high =
    let apart = λ (code : ℕ) (low : code < 128). ne_eqb byte code (λ e. omega arith) in
    rw (
      apart 46 (omega arith),
      apart 59 (omega arith),
      apart 58 (omega arith),
      apart 91 (omega arith),
      apart 93 (omega arith),
      apart 40 (omega arith),
      apart 41 (omega arith),
      apart 123 (omega arith),
      apart 125 (omega arith),
      apart 44 (omega arith),
      apart 124 (omega arith),
      apart 42 (omega arith),
      apart 43 (omega arith),
      apart 63 (omega arith),
      apart 45 (omega arith),
      apart 95 (omega arith),
    ) refl

-- a text may be cut behind a sign of one byte
pub behind_sign : (text : List ℕ) (sign : Sign) → IsUtf8 text → 0 < length text
    → byte_sign (get_or text 0 0) ≡ Some sign → IsCharBoundary text 1
behind_sign text sign utf8 some is = elim (cases_lt (get_or text 0 0) 128) [
  | inl low ↦ IsCharBoundary-after_ascii text 0 utf8 some low
  | inr high ↦ absurd (none-some sign (sym (high_no_sign (get_or text 0 0) high) ∙ is))
]
