-- Fronts, rests and repetitions.
use Rattle.std.proofs.Common.{◌≡◌, ℕ, List, ◌++◌, ◌∙◌, ap, append_assoc, subst}
use Rattle.std.specs.Str.{IsUtf8}
use Rattle.spec_lexing.specs.Matching.{Repeats, none, more}

-- what is read of a text behind a front leaves a text, and the reading gives the meaning
abbrev pub Reads : (List ℕ → Type 0) → (List ℕ → Type 0) → Type 0
Reads M N = (bytes rest : List ℕ) → M bytes → IsUtf8 (bytes ++ rest) → IsUtf8 rest × N bytes

-- what follows the front in the text
pub behind_front : (bytes front rest behind : List ℕ) → bytes ≡ front ++ rest → IsUtf8 (bytes ++ behind) →
    IsUtf8 (front ++ (rest ++ behind))
behind_front bytes front rest behind e text =
    subst IsUtf8 (ap (λ (q : List ℕ). q ++ behind) e ∙ append_assoc front rest behind) text

module _ (M N : List ℕ → Type 0) where
  -- parts that are read in turn
  pub reads_repeats : Reads M N → (bytes rest : List ℕ) → Repeats M bytes → IsUtf8 (bytes ++ rest) →
      IsUtf8 rest × Repeats N bytes
  reads_repeats reads bytes rest (none _ e) text =
      (subst IsUtf8 (ap (λ (q : List ℕ). q ++ rest) e) text, none bytes e)
  reads_repeats reads bytes rest (more _ front others e some m r) text =
      let here = reads front (others ++ rest) m (behind_front bytes front others rest e text) in
      let next = reads_repeats reads others rest r here.0 in
      (next.0, more bytes front others e some here.1 next.1)

  -- parts that are spelled in turn
  pub spells_repeats : ((bytes : List ℕ) → M bytes → N bytes) → (bytes : List ℕ) → Repeats M bytes → Repeats N bytes
  spells_repeats spells bytes (none _ e) = none bytes e
  spells_repeats spells bytes (more _ front others e some m r) =
      more bytes front others e some (spells front m) (spells_repeats spells others r)
