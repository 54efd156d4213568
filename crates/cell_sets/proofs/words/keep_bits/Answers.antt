use Rattle.std.proofs.Common.{inl, inr, refl, arith}
use Rattle.std.proofs.lemmas.Bool.{cases_lt}
use Rattle.std.proofs.lemmas.List.{get_or_past}
use Rattle.cell_sets.proofs.WordsLemmas.{bits_common}
use Rattle.cell_sets.proofs.words.keep_bits.Goals as goal

pub returns : goal.returns
returns c =
    bits_common c.args.words.now c.args.others.now c.loop-k.words
    (λ k. elim (cases_lt k c.loop-k.k) [
      | inl done ↦ c.loop-k.invariant.1 k done
      | inr behind ↦ rw (
        c.loop-k.invariant.2 k behind,
        get_or_past c.args.words.now k 0 (omega (arith, behind, c.loop-k-test.false, c.requires)),
      )
          refl
    ])
