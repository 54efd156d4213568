use Rattle.std.proofs.Common.{◌≡◌, ◌+◌, ◌-◌, ◌<◌, ℕ, length, slice_index_or, subst, arith}
use Rattle.std.proofs.lemmas.Option.{slice_get-get_or}
use Rattle.binary_form.specs.NullableNumbers.{AreNullableFrom}
use Rattle.binary_form.proofs.RowLemmas.{no_row, row_within}
use Rattle.binary_form.proofs.NullableLemmas.{flagged_from}
use Rattle.binary_form.proofs.nullable.flag_suffixes.Goals as goal

pub is_suffix_nullable-requires : goal.is_suffix_nullable-requires
is_suffix_nullable-requires c =
    let g = c.args.grammar.now in
    let rows = c.args.rows.now in
    let number : ℕ = c.loop-number.number - 1 in
    let within : number < length rows = omega (arith, c.loop-number.invariant.within, c.loop-number-test.true) in
    rw (c.plain_count-first.ensures, c.as_slice.ensures.value, c.loop-number.invariant.flags.count)
    (row_within g rows c.requires.rows number (slice_index_or rows number no_row) (slice_get-get_or rows number no_row within))

pub loop-number-preserved : goal.loop-number-preserved
loop-number-preserved c =
    let g = c.args.grammar.now in
    let rows = c.args.rows.now in
    let flags = c.loop-number.flags.items in
    let number : ℕ = c.loop-number.number - 1 in
    let within : number < length rows = omega (arith, c.loop-number.invariant.within, c.loop-number-test.true) in
    let row = slice_index_or rows number no_row in
    let at = c.requires.rows.each number row (slice_get-get_or rows number no_row within) in
    let next : c.loop-number.number ≡ number + 1 = omega (arith, c.loop-number-test.true) in
    let From : ℕ → Type 0 = λ k. AreNullableFrom g k flags in
    let says = rw (c.plain_count-first.ensures, c.as_slice.ensures.value) at c.is_suffix_nullable.ensures in
    record {
      flags = rw c.plain_count-first.ensures
          (flagged_from g number row flags c.is_suffix_nullable.result at (subst From next c.loop-number.invariant.flags) says);
      within = omega (arith, within);
    }
