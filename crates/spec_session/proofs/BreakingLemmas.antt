-- Where neither a part nor the line `end` follows in its place, a script is broken somewhere.
use Rattle.std.proofs.Common.{◌≡◌, ℕ, zero, suc, ◌+◌, ◌^◌, ◌<◌, ◌⊎◌, inl, inr, List, [], ◌∷◌, ◌++◌, length, codes, decimal, refl, sym, ◌∙◌, ap, subst, arith, append_assoc, append-nil}
use Rattle.std.proofs.lemmas.Bool.{cases_lt}
use Rattle.spec_script.specs.Script.{Command, opens, edits, ask, Part, header, grammar, of_command, Script, nothing, header_alone, with_grammar}
use Rattle.spec_script.specs.Script.{any_order, line_of, block_of, text_of, edit_text, IsWithinLimits, MayFollow, GoesOn, HasEndLine}
use Rattle.spec_script.specs.Script.{HasNoLf, HasBlock, HasBlockLine, BreaksAt, late_line, long_line, no_form, no_lf, ends_in_line, ends_in_block}
use Rattle.spec_script.proofs.ScriptLemmas.{cut_at}
use Rattle.spec_session.proofs.DenialLemmas.{IsUndeniable, decided}

-- a byte that is no LF, before others that are none
no_lf_before : (byte : ℕ) (bytes : List ℕ) → (byte ≡ 10 → ⊥) → HasNoLf bytes → HasNoLf (byte ∷ bytes)
no_lf_before byte bytes other clean zero d lt = other
no_lf_before byte bytes other clean (suc k) d lt = clean k d (omega arith)

-- the bytes before the first LF, and those behind it
record CutAtLf (bytes : List ℕ) : Type 0 where
  told : List ℕ
  behind : List ℕ
  spelled : bytes ≡ told ++ (10 ∷ behind)
  clean : HasNoLf told

-- another byte before them changes nothing
cut_later : (byte : ℕ) (bytes : List ℕ) → (byte ≡ 10 → ⊥) → CutAtLf bytes ⊎ HasNoLf bytes
    → CutAtLf (byte ∷ bytes) ⊎ HasNoLf (byte ∷ bytes)
cut_later byte bytes other (inl cut) =
    inl (record {
      told = byte ∷ cut.told;
      behind = cut.behind;
      spelled = ap (λ (rest : List ℕ). byte ∷ rest) cut.spelled;
      clean = no_lf_before byte cut.told other cut.clean;
    })
cut_later byte bytes other (inr clean) = inr (no_lf_before byte bytes other clean)

-- an LF is the first
cut_here : (byte : ℕ) (bytes : List ℕ) → byte ≡ 10 → CutAtLf (byte ∷ bytes)
cut_here byte bytes is = record {
  told = [];
  behind = bytes;
  spelled = ap (λ (first : ℕ). first ∷ bytes) is;
  clean = λ k d lt. absurd (omega (arith, lt));
}

-- some byte is the first LF, or none is one
cut_at_lf : (bytes : List ℕ) → CutAtLf bytes ⊎ HasNoLf bytes
cut_at_lf [] = inr (λ k d lt. absurd (omega (arith, lt)))
cut_at_lf (byte ∷ bytes) = elim (cases_lt byte 10) [
  | inl less ↦ cut_later byte bytes (λ e. omega (arith, less, e)) (cut_at_lf bytes)
  | inr more ↦ elim (cases_lt 10 byte) [
    | inl greater ↦ cut_later byte bytes (λ e. omega (arith, greater, e)) (cut_at_lf bytes)
    | inr same ↦ inl (cut_here byte bytes (omega (arith, more, same)))
  ]
]

-- a part has nothing behind its line and LF, or it has a block
block_or_none : (part : Part) → (block_of part ≡ []) ⊎ ((count : ℕ) × HasBlock part count)
block_or_none header = inl refl
block_or_none (grammar block) = inr (length block, refl)
block_or_none (of_command (opens text)) = inr (length text, refl)
block_or_none (of_command (edits at deleted inserted)) = inr (length inserted, refl)
block_or_none (of_command (ask query)) = inl refl

-- the part of another with this block in place of its own
record HasOther (script : Script) (part : Part) (block : List ℕ) : Type 0 where
  other : Part
  in_place : MayFollow any_order script other
  within_limits : IsWithinLimits other
  same_line : line_of part ≡ line_of other
  has_block : block_of other ≡ block ++ 10 ∷ []

-- any block of as many bytes may take the place of a part's block
other_block : (script : Script) (part : Part) (count : ℕ) → HasBlock part count →
    MayFollow any_order script part → IsWithinLimits part → (block : List ℕ) → length block ≡ count →
    HasOther script part block
other_block script header count has in_place within block size = absurd has
other_block nothing (grammar old) count has in_place within block size = absurd in_place
other_block (with_grammar accepted commands) (grammar old) count has in_place within block size = absurd in_place
other_block header_alone (grammar old) count has in_place within block size =
    let same : length old ≡ length block = sym has ∙ sym size in record {
      other = grammar block;
      in_place = tt;
      within_limits = subst (λ (n : ℕ). n < 10 ^ 9) same within;
      same_line = ap (λ (n : ℕ). codes "grammar " ++ decimal n) same;
      has_block = refl;
    }
other_block nothing (of_command command) count has in_place within block size = absurd in_place
other_block header_alone (of_command command) count has in_place within block size = absurd in_place
other_block (with_grammar accepted commands) (of_command (ask query)) count has in_place within block size = absurd has
other_block (with_grammar accepted commands) (of_command (opens old)) count has in_place within block size =
    let same : length old ≡ length block = sym has ∙ sym size in record {
      other = of_command (opens block);
      in_place = tt;
      within_limits = subst (λ (n : ℕ). n < 10 ^ 9) same within;
      same_line = ap (λ (n : ℕ). codes "open " ++ decimal n) same;
      has_block = refl;
    }
other_block (with_grammar accepted commands) (of_command (edits at deleted old)) count has in_place within block size =
    let same : length old ≡ length block = sym has ∙ sym size in record {
      other = of_command (edits at deleted block);
      in_place = tt;
      within_limits = (within.0, within.1, subst (λ (n : ℕ). n < 10 ^ 9) same within.2);
      same_line = ap (λ (n : ℕ). codes "edit " ++ edit_text at deleted n) same;
      has_block = refl;
    }

-- where neither a part in its place follows nor, in its place, the line `end`
module _ (script : Script) (at : ℕ) (rest : List ℕ)
    (stops : GoesOn any_order script at rest → ⊥) (other : HasEndLine any_order script at rest → ⊥) where
  -- the script is broken somewhere
  abbrev pub HasBreak : Type 0
  HasBreak = (place : ℕ) × BreaksAt any_order script at rest place

  -- behind the line of a part with a block, as its block does not come
  broken_block : (begun : HasBlockLine any_order script at rest) → HasBreak
  broken_block begun = elim (cases_lt begun.count (length begun.behind)) [
    | inr short ↦ (at + length rest, ends_in_block begun short refl)
    | inl more ↦
        let c = cut_at begun.count begun.behind more in
        let block : List ℕ = c.0 in
        (at + length (line_of begun.part ++ (10 ∷ block)), no_lf begun block c.1 c.2 c.3 c.4 (not_lf c) refl)
  ]
    where
      not_lf : (c : (block : List ℕ) × (byte : ℕ) × (more : List ℕ) × (begun.behind ≡ block ++ (byte ∷ more))
          × (length block ≡ begun.count)) → c.1 ≡ 10 → ⊥
      not_lf c is =
          let o = other_block script begun.part begun.count begun.has_block begun.in_place begun.within_limits c.0 c.4 in
          let behind : begun.behind ≡ block_of o.other ++ c.2 =
          c.3 ∙ ap (λ (byte : ℕ). c.0 ++ (byte ∷ c.2)) is ∙ sym (append_assoc c.0 (10 ∷ []) c.2)
          ∙ ap (λ (bytes : List ℕ). bytes ++ c.2) (sym o.has_block) in
          stops (record {
            part = o.other;
            more = c.2;
            early = begun.early;
            in_place = o.in_place;
            within_limits = o.within_limits;
            spelled = begun.spelled ∙ ap (λ (told : List ℕ). told ++ (10 ∷ begun.behind)) o.same_line
                ∙ ap (λ (bytes : List ℕ). line_of o.other ++ (10 ∷ bytes)) behind
                ∙ sym (append_assoc (line_of o.other) (10 ∷ block_of o.other) c.2);
          })

  module _ (early : at < 2 ^ 48) (cut : CutAtLf rest) where
    -- the line is that of a part in its place
    abbrev IsOfPart : Type 0
    IsOfPart = (part : Part) × MayFollow any_order script part × IsWithinLimits part × (cut.told ≡ line_of part)

    -- which then has a block
    broken_part : IsOfPart → HasBreak
    broken_part (part, in_place, within, is) =
        let spelled : rest ≡ line_of part ++ (10 ∷ cut.behind) =
        cut.spelled ∙ ap (λ (told : List ℕ). told ++ (10 ∷ cut.behind)) is in
        elim (block_or_none part) [
          | inl none ↦ absurd (stops (record {
            part = part;
            more = cut.behind;
            early = early;
            in_place = in_place;
            within_limits = within;
            spelled = spelled ∙ ap (λ (block : List ℕ). line_of part ++ (10 ∷ (block ++ cut.behind))) (sym none)
                ∙ sym (append_assoc (line_of part) (10 ∷ block_of part) cut.behind);
          }))
          | inr some ↦ broken_block (record {
            part = part;
            count = some.0;
            behind = cut.behind;
            early = early;
            in_place = in_place;
            within_limits = within;
            has_block = some.1;
            spelled = spelled;
          })
        ]

    -- or it is none of the forms, or out of its place
    broken_line : IsUndeniable HasBreak
    broken_line denied =
        decided IsOfPart (λ (split : IsOfPart ⊎ (IsOfPart → ⊥)). elim split [
          | inl is ↦ denied (broken_part is)
          | inr none ↦ denied (
            at,
            no_form cut.told cut.behind cut.spelled cut.clean (record {
              no_part = λ part in_place within is. none (part, in_place, within, is);
              no_end = λ complete is. other (record {
                more = cut.behind;
                early = early;
                complete = complete;
                spelled = cut.spelled ∙ ap (λ (told : List ℕ). told ++ (10 ∷ cut.behind)) is;
              });
            }) refl,
          )
        ])

  -- that it is broken somewhere cannot be denied
  pub some_break : IsUndeniable HasBreak
  some_break denied = elim (cases_lt at (2 ^ 48)) [
    | inr late ↦ denied (at, late_line late refl)
    | inl early ↦ elim (cut_at_lf rest) [
      | inl cut ↦ broken_line early cut denied
      | inr clean ↦ elim (cases_lt 256 (length rest)) [
        | inl long ↦ denied (at, long_line rest [] (sym (append-nil rest)) clean long refl)
        | inr short ↦ denied (at + length rest, ends_in_line early clean short refl)
      ]
    ]
  ]
