-- Where a script is broken: nothing in its place follows there, and it is broken at one place.
use Rattle.std.proofs.Common.{arith, drop, get_or, ◌<◌, ◌≤◌, ◌^◌, ◌≡◌, ℕ, ◌+◌, ◌⊎◌, inl, inr, List, [], ◌∷◌, ◌++◌, length, codes, refl, sym, ◌∙◌, ap, append_assoc, append-nil, length-append}
use Rattle.spec_script.specs.Script.{Part, Script, Form, line_of, block_of, text_of, IsWithinLimits, MayFollow, HasEndLine, HasNoLf, HasBlock, HasBlockLine, BreaksAt, late_line, long_line, no_form, no_lf, ends_in_line, ends_in_block}
use Rattle.spec_script.proofs.ScriptLemmas.{Lacks, tested, lacks_if_each_differs, cut_same, same_back, line_lacks_lf, line_is_short, end_is_no_line, no_line_within, same_block_count, one_block_count, block_and_lf}

-- the bytes begin with this line of at most 256 bytes
record HasLine (rest told behind : List ℕ) : Type 0 where
  lacks : Lacks told 10
  short : length told ≤ 256
  spelled : rest ≡ told ++ (10 ∷ behind)

-- the line of a part is one
part_has_line : (rest behind : List ℕ) (part : Part) → IsWithinLimits part →
    rest ≡ line_of part ++ (10 ∷ behind) → HasLine rest (line_of part) behind
part_has_line rest behind part within e =
    record { lacks = line_lacks_lf part within; short = line_is_short part within; spelled = e }

-- behind its LF stand the part's block and more
text_has_line : (rest more : List ℕ) (part : Part) → IsWithinLimits part → rest ≡ text_of part ++ more →
    HasLine rest (line_of part) (block_of part ++ more)
text_has_line rest more part within e =
    part_has_line rest (block_of part ++ more) part within (e ∙ append_assoc (line_of part) (10 ∷ block_of part) more)

-- and so is the line `end`
end_has_line : (rest more : List ℕ) → rest ≡ codes "end" ++ (10 ∷ more) → HasLine rest (codes "end") more
end_has_line rest more e = record { lacks = tested 10 (codes "end") refl; short = omega arith; spelled = e }

-- where the bytes begin with a line
module _ (rest told behind : List ℕ) (has : HasLine rest told behind) where
  -- it is not longer than a line may be
  not_long : (start more : List ℕ) → rest ≡ start ++ more → HasNoLf start → 256 < length start → ⊥
  not_long start more e clean long =
      no_line_within start more told behind clean (omega (arith, has.short)) (sym e ∙ has.spelled)

  -- there is an LF
  not_unended : HasNoLf rest → ⊥
  not_unended clean =
      let size = ap length has.spelled ∙ length-append told (10 ∷ behind) in
      no_line_within rest [] told behind clean (omega (arith, size)) (append-nil rest ∙ has.spelled)

  -- they begin with no other line
  one_line : (other more : List ℕ) → Lacks other 10 → rest ≡ other ++ (10 ∷ more) → (told ≡ other) × (behind ≡ more)
  one_line other more lacks e = cut_same 10 told behind other more has.lacks lacks (sym has.spelled ∙ e)

module _ (form : Form) (script : Script) (at : ℕ) (rest : List ℕ) where
  -- the line of a part whose block comes, or does not come, is one
  begun_line : (begun : HasBlockLine form script at rest) → HasLine rest (line_of begun.part) begun.behind
  begun_line begun = part_has_line rest begun.behind begun.part begun.within_limits begun.spelled

  -- where a part in its place follows
  module _ (part : Part) (more : List ℕ) (early : at < 2 ^ 48) (in_place : MayFollow form script part)
      (within : IsWithinLimits part) (e : rest ≡ text_of part ++ more) where
    has_line : HasLine rest (line_of part) (block_of part ++ more)
    has_line = text_has_line rest more part within e

    -- which has the line of a part with a block, it has a block of as many bytes
    block_behind : (begun : HasBlockLine form script at rest) →
        (block : List ℕ) × (begun.behind ≡ block ++ (10 ∷ more)) × (length block ≡ begun.count)
    block_behind begun =
        let lines = one_line rest (line_of begun.part) begun.behind (begun_line begun) (line_of part)
        (block_of part ++ more) has_line.lacks has_line.spelled in
        let b = block_and_lf part begun.count
        (same_block_count begun.part part begun.count begun.within_limits within lines.0 begun.has_block) in
        (b.0, lines.1 ∙ ap (λ bytes. bytes ++ more) b.1 ∙ append_assoc b.0 (10 ∷ []) more, b.2)

    -- nothing is broken
    pub breaks_no_part : (place : ℕ) → BreaksAt form script at rest place → ⊥
    breaks_no_part place (late_line late is) = omega (arith, early, late)
    breaks_no_part place (long_line start behind f clean long is) =
        not_long rest (line_of part) (block_of part ++ more) has_line start behind f clean long
    breaks_no_part place (no_form told behind f clean none is) =
        let lines = one_line rest (line_of part) (block_of part ++ more) has_line told behind
        (lacks_if_each_differs 10 told clean) f in
        none.no_part part in_place within (sym lines.0)
    breaks_no_part place (no_lf begun block byte behind f size other is) =
        let b = block_behind begun in
        let same : 10 ∷ more ≡ byte ∷ behind = same_back b.0 (10 ∷ more) block (byte ∷ behind) (b.2 ∙ sym size) (sym b.1 ∙ f) in
        other (sym (ap (λ bytes. get_or bytes 0 0) same))
    breaks_no_part place (ends_in_line early_too clean short is) =
        not_unended rest (line_of part) (block_of part ++ more) has_line clean
    breaks_no_part place (ends_in_block begun short is) =
        let b = block_behind begun in
        omega (arith, short, b.2, ap length b.1 ∙ length-append b.0 (10 ∷ more))

  -- where the line `end` follows, nothing is broken
  pub breaks_no_end : (place : ℕ) → HasEndLine form script at rest → BreaksAt form script at rest place → ⊥
  breaks_no_end place end (late_line late is) = omega (arith, end.early, late)
  breaks_no_end place end (long_line start behind f clean long is) =
      not_long rest (codes "end") end.more (end_has_line rest end.more end.spelled) start behind f clean long
  breaks_no_end place end (no_form told behind f clean none is) =
      let lines = one_line rest (codes "end") end.more (end_has_line rest end.more end.spelled) told behind
      (lacks_if_each_differs 10 told clean) f in
      none.no_end end.complete (sym lines.0)
  breaks_no_end place end (no_lf begun block byte behind f size other is) =
      let h = begun_line begun in
      end_is_no_line begun.part
      (one_line rest (codes "end") end.more (end_has_line rest end.more end.spelled) (line_of begun.part) begun.behind h.lacks h.spelled).0
  breaks_no_end place end (ends_in_line early clean short is) =
      not_unended rest (codes "end") end.more (end_has_line rest end.more end.spelled) clean
  breaks_no_end place end (ends_in_block begun short is) =
      let h = begun_line begun in
      end_is_no_line begun.part
      (one_line rest (codes "end") end.more (end_has_line rest end.more end.spelled) (line_of begun.part) begun.behind h.lacks h.spelled).0

  -- the place in a block that is not whole: another byte in the place of its LF, or the input's end
  data InBlock (begun : HasBlockLine form script at rest) (place : ℕ) : Type 0 where
    at_byte : (block : List ℕ) (byte : ℕ) (more : List ℕ) → begun.behind ≡ block ++ (byte ∷ more) →
        length block ≡ begun.count → place ≡ at + length (line_of begun.part ++ (10 ∷ block)) → InBlock begun place
    at_end : length begun.behind ≤ begun.count → place ≡ at + length rest → InBlock begun place

  -- the places by what the rest has: a line that is not read, one without an LF, or the line of a part with a block
  data Sorted (place : ℕ) : Type 0 where
    at_start : place ≡ at → (HasBlockLine form script at rest → ⊥) →
        (at < 2 ^ 48 → HasNoLf rest → length rest ≤ 256 → ⊥) → Sorted place
    in_line : at < 2 ^ 48 → HasNoLf rest → length rest ≤ 256 → place ≡ at + length rest → Sorted place
    in_block : (begun : HasBlockLine form script at rest) → InBlock begun place → Sorted place

  sorted : (place : ℕ) → BreaksAt form script at rest place → Sorted place
  sorted place (late_line late is) =
      at_start is (λ begun. omega (arith, late, begun.early)) (λ early clean short. omega (arith, late, early))
  sorted place (long_line start more e clean long is) =
      let size = ap length e ∙ length-append start more in
      at_start is
      (λ begun. not_long rest (line_of begun.part) begun.behind (begun_line begun) start more e clean long)
      (λ early clean_too short. omega (arith, size, long, short))
  sorted place (no_form told behind e clean none is) =
      let size = ap length e ∙ length-append told (10 ∷ behind) in
      at_start is
      (λ begun. none.no_part begun.part begun.in_place begun.within_limits
      (sym (one_line rest (line_of begun.part) begun.behind (begun_line begun) told behind
      (lacks_if_each_differs 10 told clean) e).0))
      (λ early clean_too short. no_line_within rest [] told behind clean_too (omega (arith, size)) (append-nil rest ∙ e))
  sorted place (no_lf begun block byte more e size other is) = in_block begun (at_byte block byte more e size is)
  sorted place (ends_in_line early clean short is) = in_line early clean short is
  sorted place (ends_in_block begun short is) = in_block begun (at_end short is)

  -- two blocks that are not whole are not whole at one place
  same_in_block : (place other : ℕ) (begun again : HasBlockLine form script at rest) →
      InBlock begun place → InBlock again other → place ≡ other
  same_in_block place other begun again h k =
      let g = begun_line again in
      let lines = one_line rest (line_of begun.part) begun.behind (begun_line begun) (line_of again.part) again.behind g.lacks g.spelled in
      let has = same_block_count begun.part again.part begun.count begun.within_limits again.within_limits lines.0 begun.has_block in
      let counts : begun.count ≡ again.count = one_block_count again.part begun.count again.count has again.has_block in
      same_place h k counts (ap length lines.0) (ap length lines.1)
    where
      same_place : InBlock begun place → InBlock again other → begun.count ≡ again.count →
          length (line_of begun.part) ≡ length (line_of again.part) → length begun.behind ≡ length again.behind →
          place ≡ other
      same_place (at_byte block byte more e size is) (at_byte bytes last rest_too f size_too is_too) counts line_size sizes =
          omega (
            arith,
            size,
            size_too,
            is,
            is_too,
            counts,
            line_size,
            length-append (line_of begun.part) (10 ∷ block),
            length-append (line_of again.part) (10 ∷ bytes),
          )
      same_place (at_byte block byte more e size is) (at_end short is_too) counts line_size sizes =
          absurd (omega (arith, size, short, counts, sizes, ap length e ∙ length-append block (byte ∷ more)))
      same_place (at_end short is) (at_byte bytes last rest_too f size_too is_too) counts line_size sizes =
          absurd (omega (arith, size_too, short, counts, sizes, ap length f ∙ length-append bytes (last ∷ rest_too)))
      same_place (at_end short is) (at_end short_too is_too) counts line_size sizes = is ∙ sym is_too

  one_sorted : (place other : ℕ) → Sorted place → Sorted other → place ≡ other
  one_sorted place other (at_start is no_block no_end) (at_start is_too no_block_too no_end_too) = is ∙ sym is_too
  one_sorted place other (at_start is no_block no_end) (in_line early clean short is_too) = absurd (no_end early clean short)
  one_sorted place other (at_start is no_block no_end) (in_block begun h) = absurd (no_block begun)
  one_sorted place other (in_line early clean short is) (at_start is_too no_block no_end) = absurd (no_end early clean short)
  one_sorted place other (in_line early clean short is) (in_line early_too clean_too short_too is_too) = is ∙ sym is_too
  one_sorted place other (in_line early clean short is) (in_block begun h) =
      absurd (not_unended rest (line_of begun.part) begun.behind (begun_line begun) clean)
  one_sorted place other (in_block begun h) (at_start is no_block no_end) = absurd (no_block begun)
  one_sorted place other (in_block begun h) (in_line early clean short is) =
      absurd (not_unended rest (line_of begun.part) begun.behind (begun_line begun) clean)
  one_sorted place other (in_block begun h) (in_block again k) = same_in_block place other begun again h k

  -- a script is broken at one place
  pub breaks_once : (place other : ℕ) → BreaksAt form script at rest place → BreaksAt form script at rest other →
      place ≡ other
  breaks_once place other h k = one_sorted place other (sorted place h) (sorted other k)
