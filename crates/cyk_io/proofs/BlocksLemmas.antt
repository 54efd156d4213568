-- Laws of blocks: what was taken so far and the rest make up a block, and told bytes have one answer.
use Rattle.std.proofs.Common.{◌≡◌, ℕ, ◌+◌, ◌-◌, ◌<◌, ◌≤◌, List, [], ◌++◌, Option, Some, Bool, true, false, inl, inr, take, drop, length, refl, sym, ◌∙◌, ap, append-nil, length-append, arith}
use Rattle.std.proofs.lemmas.Bool.{cases_lt}
use Rattle.std.proofs.lemmas.List.{length-take, take-append-drop}
use Rattle.cyk_io.specs.Blocks.{BlockReads, EachBlockHasAnAnswer, EachBlockHasOneAnswer}
use Rattle.cyk_io.specs.KeptBytes.{kept_more}
use Rattle.cyk_io.specs.Streams.{Takes, IsAtEnd}
use Rattle.cyk_io.specs.declared.block.ReadBlock.{ReadBlock}
use Rattle.cyk_io.specs.declared.block.ReadBlock.TheVariants.{Kept, Skipped, Ended}
use Rattle.cyk_io.proofs.StreamsLemmas.{IsAtEnd-nil, Takes-front, length-at_end, same_taken}

-- bytes are kept, and then more bytes
pub kept_more-append :
    (kept : Bool) (first second so_far now : List ℕ)
    → so_far ≡ kept_more kept [] first → now ≡ kept_more kept so_far second
    → now ≡ kept_more kept [] (first ++ second)
kept_more-append true first second so_far now before after = after ∙ ap (λ bytes. bytes ++ second) before
kept_more-append false first second so_far now before after = after ∙ before

-- what is taken of the bytes held comes off the rest of the block
pub rest_of_block :
    (bytes held : List ℕ) (n rest count : ℕ) → n ≤ length held → n ≤ rest → length bytes + rest ≡ count
    → length (bytes ++ take n held) + (rest - n) ≡ count
rest_of_block bytes held n rest count within most whole =
    omega (arith, length-append bytes (take n held), length-take n held)

module _ (count keep from : ℕ) (told : List ℕ) where
  -- told bytes do not begin with a block where they are fewer
  not_block_and_ended :
      (new new_other : Option (List ℕ)) (block bytes : List ℕ)
      → Takes (Some told) new block → length block ≡ count
      → Takes (Some told) new_other bytes → IsAtEnd new_other → length bytes < count → ⊥
  not_block_and_ended new new_other block bytes takes whole takes_other at_end fewer =
      let behind = takes told refl in
      let all : length told ≡ length bytes = length-at_end told bytes new_other takes_other at_end in
      omega (arith, ap length behind.2, length-append block behind.0)

  -- two reads of a block give one answer
  one_block :
      (answer answer_other : ReadBlock) (to to_other : ℕ) (new new_other : Option (List ℕ)) (into other : List ℕ)
      → BlockReads count keep from to (Some told) new into answer
      → BlockReads count keep from to_other (Some told) new_other other answer_other
      → (answer ≡ answer_other) × (new ≡ new_other) × (to ≡ to_other)
  one_block Kept Kept to to_other new new_other into other (takes, whole, fits, moved) (takes_other, whole_other, fits_other, moved_other) =
      let same = same_taken told into other new new_other takes takes_other (whole ∙ sym whole_other) in
      (refl, same.1, moved ∙ sym moved_other)
  one_block Kept Skipped to to_other new new_other into other (takes, whole, fits, moved) (block, long, empty, moved_other) =
      absurd (omega arith)
  one_block Kept (Ended at) to to_other new new_other into other (takes, whole, fits, moved) (bytes, takes_other, at_end, fewer, found, moved_other) =
      absurd (not_block_and_ended new new_other into bytes takes whole takes_other at_end fewer)
  one_block Skipped Kept to to_other new new_other into other (block, long, empty, moved) (takes, whole, fits, moved_other) =
      absurd (omega arith)
  one_block Skipped Skipped to to_other new new_other into other (block, long, empty, moved) (block_other, long_other, empty_other, moved_other) =
      let same = same_taken told block.0 block_other.0 new new_other block.1 block_other.1 (block.2 ∙ sym block_other.2) in
      (refl, same.1, moved ∙ sym moved_other)
  one_block Skipped (Ended at) to to_other new new_other into other (block, long, empty, moved) (bytes, takes_other, at_end, fewer, found, moved_other) =
      absurd (not_block_and_ended new new_other block.0 bytes block.1 block.2 takes_other at_end fewer)
  one_block (Ended at) Kept to to_other new new_other into other (bytes, takes, at_end, fewer, found, moved) (takes_other, whole, fits, moved_other) =
      absurd (not_block_and_ended new_other new other bytes takes_other whole takes at_end fewer)
  one_block (Ended at) Skipped to to_other new new_other into other (bytes, takes, at_end, fewer, found, moved) (block, long, empty, moved_other) =
      absurd (not_block_and_ended new_other new block.0 bytes block.1 block.2 takes at_end fewer)
  one_block (Ended at) (Ended at_other) to to_other new new_other into other (bytes, takes, at_end, fewer, found, moved) (bytes_other, takes_other, at_end_other, fewer_other, found_other, moved_other) =
      let lengths : length bytes ≡ length bytes_other =
      sym (length-at_end told bytes new takes at_end) ∙ length-at_end told bytes_other new_other takes_other at_end_other in
      let same = same_taken told bytes bytes_other new new_other takes takes_other lengths in
      let offsets : at ≡ at_other = omega arith in
      (ap Ended offsets, same.1, omega arith)

pub each_block_has_one_answer : EachBlockHasOneAnswer
each_block_has_one_answer count keep from told = one_block count keep from told

pub each_block_has_an_answer : EachBlockHasAnAnswer
each_block_has_an_answer count keep from told = elim (cases_lt (length told) count) [
  | inl fewer ↦
      let takes = Takes-front told told [] (sym (append-nil told)) in
      (Ended (from + length told), from + length told, Some [], [], (told, takes, IsAtEnd-nil, fewer, refl, refl))
  | inr enough ↦
      let block : List ℕ = take count told in
      let takes = Takes-front told block (drop count told) (sym (take-append-drop count told)) in
      let whole : length block ≡ count = omega (arith, length-take count told) in
      elim (cases_lt keep count) [
        | inl long ↦ (Skipped, from + count, Some (drop count told), [], ((block, takes, whole), long, refl, refl))
        | inr fits ↦ (Kept, from + count, Some (drop count told), block, (takes, whole, fits, refl))
      ]
]
