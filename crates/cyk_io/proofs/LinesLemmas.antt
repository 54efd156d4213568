-- Laws of lines: told bytes begin in one way with a line, with more than a line may have, or with no LF at all.
use Rattle.std.proofs.Common.{◌≡◌, ◌≢◌, ℕ, zero, suc, ◌+◌, ◌<◌, ◌≤◌, inl, inr, List, [], ◌∷◌, ◌++◌, Option, Some, length, refl, sym, ◌∙◌, ap, append_assoc, append-nil, length-append, arith}
use Rattle.std.proofs.lemmas.Bool.{cases_eq, cases_order}
use Rattle.std.proofs.lemmas.List.Elements.{All-head, All-tail, All-cons}
use Rattle.cyk_io.specs.Lines.{HasNoLf, LineReads, EachLineHasAnAnswer, EachLineHasOneAnswer}
use Rattle.cyk_io.specs.Streams.{Takes}
use Rattle.cyk_io.specs.declared.line.ReadLine.{ReadLine}
use Rattle.cyk_io.specs.declared.line.ReadLine.TheVariants.{Line, LongLine, Ended}
use Rattle.cyk_io.proofs.ListLemmas.{same_fronts}
use Rattle.cyk_io.proofs.StreamsLemmas.{IsAtEnd-nil, Takes-front, length-at_end, same_taken}

-- no byte of none is an LF
HasNoLf-nil : HasNoLf []
HasNoLf-nil k d below = absurd (omega arith)

-- no LF comes by one more byte that is none
HasNoLf-cons : (x : ℕ) (bytes : List ℕ) → x ≢ 10 → HasNoLf bytes → HasNoLf (x ∷ bytes)
HasNoLf-cons x bytes other no_lf = All-cons (λ byte. byte ≢ 10) x bytes other no_lf

-- what ends at an LF does not end within bytes that have none
no_lf_within :
    (line bytes rest bytes_rest : List ℕ) → HasNoLf bytes → length line < length bytes
    → line ++ 10 ∷ rest ≡ bytes ++ bytes_rest → ⊥
no_lf_within line [] rest bytes_rest no_lf shorter same = absurd (omega arith)
no_lf_within [] (b ∷ bytes) rest bytes_rest no_lf shorter same =
    let lf : b ≡ 10 = cc in
    All-head (λ byte. byte ≢ 10) b bytes no_lf lf
no_lf_within (x ∷ line) (b ∷ bytes) rest bytes_rest no_lf shorter same =
    let tails : line ++ 10 ∷ rest ≡ bytes ++ bytes_rest = cc in
    let tail_shorter : length line < length bytes = omega arith in
    no_lf_within line bytes rest bytes_rest (All-tail (λ byte. byte ≢ 10) b bytes no_lf) tail_shorter tails

-- bytes that go on with a line and its LF
behind_lf :
    (told line : List ℕ) (new : Option (List ℕ)) → Takes (Some told) new (line ++ 10 ∷ [])
    → (rest : List ℕ) × (told ≡ line ++ 10 ∷ rest)
behind_lf told line new takes =
    let behind = takes told refl in
    (behind.0, behind.2 ∙ append_assoc line (10 ∷ []) behind.0)

-- a line and its LF are as long, however they are taken
same_lengths :
    (told line other : List ℕ) (new new_other : Option (List ℕ))
    → Takes (Some told) new (line ++ 10 ∷ []) → Takes (Some told) new_other (other ++ 10 ∷ [])
    → HasNoLf line → HasNoLf other → length line ≡ length other
same_lengths told line other new new_other takes takes_other no_lf no_lf_other =
    let behind = behind_lf told line new takes in
    let behind_other = behind_lf told other new_other takes_other in
    let same : line ++ 10 ∷ behind.0 ≡ other ++ 10 ∷ behind_other.0 = sym behind.1 ∙ behind_other.1 in
    elim (cases_order (length line) (length other)) [
      | inl equal ↦ equal
      | inr (inl less) ↦ absurd (no_lf_within line other behind.0 (10 ∷ behind_other.0) no_lf_other less same)
      | inr (inr more) ↦ absurd (no_lf_within other line behind_other.0 (10 ∷ behind.0) no_lf more (sym same))
    ]

module _ (most from : ℕ) (told : List ℕ) where
  -- told bytes do not begin with a line and its LF and with one byte more than a line may have
  not_line_and_long :
      (to to_other at : ℕ) (new new_other : Option (List ℕ)) (line other : List ℕ)
      → LineReads most from to (Some told) new line Line
      → LineReads most from to_other (Some told) new_other other (LongLine at) → ⊥
  not_line_and_long to to_other at new new_other line other (takes, is_line, moved) (last, takes_other, no_lf, full, found, moved_other) =
      let behind = behind_lf told line new takes in
      let behind_other = takes_other told refl in
      let within : length line ≤ most = is_line.1 in
      let shorter : length line < length (other ++ last ∷ []) = omega (arith, length-append other (last ∷ [])) in
      no_lf_within line (other ++ last ∷ []) behind.0 behind_other.0 no_lf shorter (sym behind.1 ∙ behind_other.2)

  -- told bytes do not begin with a line and its LF where they have no LF
  not_line_and_ended :
      (to to_other at : ℕ) (new new_other : Option (List ℕ)) (line other : List ℕ)
      → LineReads most from to (Some told) new line Line
      → LineReads most from to_other (Some told) new_other other (Ended at) → ⊥
  not_line_and_ended to to_other at new new_other line other (takes, is_line, moved) (takes_other, at_end, is_other, found, moved_other) =
      let behind = behind_lf told line new takes in
      let behind_other = takes_other told refl in
      let all : length told ≡ length other = length-at_end told other new_other takes_other at_end in
      let shorter : length line < length other =
      omega (arith, ap length behind.1, length-append line (10 ∷ behind.0)) in
      no_lf_within line other behind.0 behind_other.0 is_other.0 shorter (sym behind.1 ∙ behind_other.2)

  -- told bytes are not more than a line may have and no more
  not_long_and_ended :
      (to to_other at at_other : ℕ) (new new_other : Option (List ℕ)) (line other : List ℕ)
      → LineReads most from to (Some told) new line (LongLine at)
      → LineReads most from to_other (Some told) new_other other (Ended at_other) → ⊥
  not_long_and_ended to to_other at at_other new new_other line other (last, takes, no_lf, full, found, moved) (takes_other, at_end, is_other, found_other, moved_other) =
      let behind = takes told refl in
      let all : length told ≡ length other = length-at_end told other new_other takes_other at_end in
      let within : length other ≤ most = is_other.1 in
      omega (arith, ap length behind.2, length-append (line ++ last ∷ []) behind.0, length-append line (last ∷ []))

  -- two reads of a line give one answer
  one_line :
      (answer answer_other : ReadLine) (to to_other : ℕ) (new new_other : Option (List ℕ)) (line other : List ℕ)
      → LineReads most from to (Some told) new line answer
      → LineReads most from to_other (Some told) new_other other answer_other
      → (answer ≡ answer_other) × (line ≡ other) × (new ≡ new_other) × (to ≡ to_other)
  one_line Line Line to to_other new new_other line other (takes, is_line, moved) (takes_other, is_other, moved_other) =
      let lengths : length line ≡ length other =
      same_lengths told line other new new_other takes takes_other is_line.0 is_other.0 in
      let lengths_with_lf : length (line ++ 10 ∷ []) ≡ length (other ++ 10 ∷ []) =
      omega (arith, length-append line (10 ∷ []), length-append other (10 ∷ [])) in
      let same = same_taken told (line ++ 10 ∷ []) (other ++ 10 ∷ []) new new_other takes takes_other lengths_with_lf in
      (refl, (same_fronts line other (10 ∷ []) (10 ∷ []) lengths same.0).0, same.1, omega arith)
  one_line Line (LongLine at) to to_other new new_other line other reads reads_other =
      absurd (not_line_and_long to to_other at new new_other line other reads reads_other)
  one_line Line (Ended at) to to_other new new_other line other reads reads_other =
      absurd (not_line_and_ended to to_other at new new_other line other reads reads_other)
  one_line (LongLine at) Line to to_other new new_other line other reads reads_other =
      absurd (not_line_and_long to_other to at new_other new other line reads_other reads)
  one_line (LongLine at) (LongLine at_other) to to_other new new_other line other (last, takes, no_lf, full, found, moved) (last_other, takes_other, no_lf_other, full_other, found_other, moved_other) =
      let lengths : length line ≡ length other = omega arith in
      let lengths_with_last : length (line ++ last ∷ []) ≡ length (other ++ last_other ∷ []) =
      omega (arith, length-append line (last ∷ []), length-append other (last_other ∷ [])) in
      let same = same_taken told (line ++ last ∷ []) (other ++ last_other ∷ []) new new_other takes takes_other lengths_with_last in
      let lines = same_fronts line other (last ∷ []) (last_other ∷ []) lengths same.0 in
      (ap LongLine (found ∙ sym found_other), lines.0, same.1, omega arith)
  one_line (LongLine at) (Ended at_other) to to_other new new_other line other reads reads_other =
      absurd (not_long_and_ended to to_other at at_other new new_other line other reads reads_other)
  one_line (Ended at) Line to to_other new new_other line other reads reads_other =
      absurd (not_line_and_ended to_other to at new_other new other line reads_other reads)
  one_line (Ended at) (LongLine at_other) to to_other new new_other line other reads reads_other =
      absurd (not_long_and_ended to_other to at_other at new_other new other line reads_other reads)
  one_line (Ended at) (Ended at_other) to to_other new new_other line other (takes, at_end, is_line, found, moved) (takes_other, at_end_other, is_other, found_other, moved_other) =
      let lengths : length line ≡ length other =
      sym (length-at_end told line new takes at_end) ∙ length-at_end told other new_other takes_other at_end_other in
      let same = same_taken told line other new new_other takes takes_other lengths in
      let offsets : at ≡ at_other = omega arith in
      (ap Ended offsets, same.0, same.1, omega arith)

pub each_line_has_one_answer : EachLineHasOneAnswer
each_line_has_one_answer most from told = one_line most from told

-- how told bytes begin: with a line and its LF, with more than a line may have, or with all of them and no LF
data Begins (most : ℕ) (told : List ℕ) : Type 0 where
  with_line :
      (line rest : List ℕ) → told ≡ line ++ 10 ∷ rest → HasNoLf line → length line ≤ most → Begins most told
  too_long :
      (line : List ℕ) (last : ℕ) (rest : List ℕ) → told ≡ (line ++ last ∷ []) ++ rest
      → HasNoLf (line ++ last ∷ []) → length line ≡ most → Begins most told
  with_no_lf : HasNoLf told → length told ≤ most → Begins most told

-- how bytes begin that have one more before them, which is no LF
Begins-cons : (most x : ℕ) (told : List ℕ) → x ≢ 10 → Begins most told → Begins (suc most) (x ∷ told)
Begins-cons most x told other (with_line line rest is no_lf within) =
    with_line (x ∷ line) rest (ap (λ bytes. x ∷ bytes) is) (HasNoLf-cons x line other no_lf) (omega arith)
Begins-cons most x told other (too_long line last rest is no_lf full) =
    let no_lf_more = HasNoLf-cons x (line ++ last ∷ []) other no_lf in
    too_long (x ∷ line) last rest (ap (λ bytes. x ∷ bytes) is) no_lf_more (omega arith)
Begins-cons most x told other (with_no_lf no_lf within) =
    with_no_lf (HasNoLf-cons x told other no_lf) (omega arith)

-- told bytes begin in one of these ways
begins : (most : ℕ) (told : List ℕ) → Begins most told
begins most [] = with_no_lf HasNoLf-nil (omega arith)
begins zero (x ∷ xs) = elim (cases_eq x 10) [
  | inl lf ↦ with_line [] xs (ap (λ byte. byte ∷ xs) lf) HasNoLf-nil (omega arith)
  | inr other ↦ too_long [] x xs refl (HasNoLf-cons x [] other HasNoLf-nil) refl
]
begins (suc most) (x ∷ xs) = elim (cases_eq x 10) [
  | inl lf ↦ with_line [] xs (ap (λ byte. byte ∷ xs) lf) HasNoLf-nil (omega arith)
  | inr other ↦ Begins-cons most x xs other (begins most xs)
]

pub each_line_has_an_answer : EachLineHasAnAnswer
each_line_has_an_answer most from told = elim (begins most told) [
  | with_line line rest is no_lf within ↦
      let takes = Takes-front told (line ++ 10 ∷ []) rest (is ∙ sym (append_assoc line (10 ∷ []) rest)) in
      (Line, from + length line + 1, Some rest, line, (takes, (no_lf, within), refl))
  | too_long line last rest is no_lf full ↦
      let takes = Takes-front told (line ++ last ∷ []) rest is in
      (LongLine from, from + most + 1, Some rest, line, (last, takes, no_lf, full, refl, refl))
  | with_no_lf no_lf within ↦
      let takes = Takes-front told told [] (sym (append-nil told)) in
      (Ended (from + length told), from + length told, Some [], told, (takes, IsAtEnd-nil, (no_lf, within), refl, refl))
]
