-- Lines and blocks in the bytes that come, and where a script is broken if they don't come.
use Rattle.std.proofs.Common.{◌≡◌, ℕ, ◌+◌, ◌^◌, ◌<◌, ◌≤◌, List, [], ◌∷◌, ◌++◌, length, codes}
use Rattle.std.proofs.Common.{Vec, Global, MatchOption, Option, Some, None, IfOk}
use Rattle.std.proofs.Common.{IfErr, refl, sym, ◌∙◌, ap, subst, arith, append_assoc, append-nil, length-append}
use Rattle.std.specs.Option.{ok_or}
use Rattle.std.proofs.lemmas.List.{nil_from_length}
use Rattle.cyk_io.specs.Streams.{Takes}
use Rattle.cyk_io.specs.Lines.{LineReads}
use Rattle.cyk_io.specs.Blocks.{BlockReads}
use Rattle.cyk_io.specs.declared.block.ReadBlock.TheVariants.{Kept, Skipped, Ended as EndedBlock}
use Rattle.cyk_io.specs.declared.line.ReadLine.TheVariants.{LongLine, Ended}
use Rattle.spec_script.specs.Script.{Part, header, grammar, of_command, Script, header_alone, any_order, line_of, IsWithinLimits, MayFollow}
use Rattle.spec_script.specs.Script.{HasNoLf, HasBlock, HasBlockLine, IsNoForm, BreaksAt, late_line, long_line, no_form, no_lf, ends_in_line, ends_in_block}
use Rattle.spec_script.proofs.ScriptLemmas.{cut_at}
use Rattle.script_reader.specs.Forms.{ReadsCount}
use Rattle.script_reader.specs.declared.command.Block.TheVariants.{TooLong}
use Rattle.script_reader.specs.declared.stop.Stop.{Stop}
use Rattle.script_reader.specs.declared.stop.Stop.TheVariants.{Breaks, Fault}
use Rattle.script_reader.specs.Reading.{StopsBehind}
use Rattle.script_reader.specs.LinesAndBlocks.{TakesLine, TakesGrammarLine, TakesBlock, LacksBlock, other_byte, too_short, StopsInBlock, PassesBlock, FindsBlock}

-- behind any script
module _ (script : Script) (from to at : ℕ) (old new : Option (List ℕ)) where
  -- a line that begins too late breaks it
  pub late_stops : at ≡ from → 2 ^ 48 ≤ at → StopsBehind script from old (Breaks at)
  late_stops same late told is = late_line (omega (arith, same, late)) same

  -- so does one byte more than a line may have, with no LF
  pub long_line_stops : (begun : List ℕ) (named : ℕ) → at ≡ from → LineReads 256 from to old new begun (LongLine named)
      → StopsBehind script from old (Breaks at)
  long_line_stops begun named same h told is =
      let t = h.1 told is in
      let size : length (begun ++ h.0 ∷ []) ≡ length begun + 1 = length-append begun (h.0 ∷ []) in
      long_line (begun ++ h.0 ∷ []) t.0 t.2 h.2 (omega (arith, size, h.3)) same

  -- and so does the end of the input, without an LF
  pub ended_stops : (begun : List ℕ) → from < 2 ^ 48 → LineReads 256 from to old new begun (Ended at)
      → StopsBehind script from old (Breaks at)
  ended_stops begun early h told is =
      let t = h.0 told is in
      let nothing : t.0 ≡ [] = h.1 t.0 t.1 in
      let whole : told ≡ begun = t.2 ∙ ap (λ rest. begun ++ rest) nothing ∙ append-nil begun in
      ends_in_line early (subst HasNoLf (sym whole) h.2.0) (omega (arith, h.2.1, ap length whole))
      (omega (arith, h.3, ap length whole))

-- a line that was taken
module _ (script : Script) (from to : ℕ) (old new : Option (List ℕ)) (found : List ℕ)
    (taken : TakesLine from to old new found) where
  -- breaks the script where it is none of the forms, or out of its place
  pub line_stops : (at : ℕ) → at ≡ from → IsNoForm any_order script found → StopsBehind script from old (Breaks at)
  line_stops at same none told is =
      let t = taken.1 told is in
      no_form found t.0 (t.2 ∙ append_assoc found (10 ∷ []) t.0) taken.2.0 none same

  -- and where it is that of a part in its place whose block doesn't come
  module _ (part : Part) (count : ℕ) (same : found ≡ line_of part) (in_place : MayFollow any_order script part)
      (within : IsWithinLimits part) (has : HasBlock part count) where
    module _ (told rest : List ℕ) (e : told ≡ (found ++ 10 ∷ []) ++ rest) where
      abbrev begun : HasBlockLine any_order script from told
      begun = record {
        part = part;
        count = count;
        behind = rest;
        early = taken.0;
        in_place = in_place;
        within_limits = within;
        has_block = has;
        spelled = e ∙ append_assoc found (10 ∷ []) rest ∙ ap (λ bytes. bytes ++ (10 ∷ rest)) same;
      }

      block_breaks : (place : ℕ) → LacksBlock count to rest place → BreaksAt any_order script from told place
      block_breaks place (other_byte block byte more f size other is) =
          no_lf begun block byte more f size other
          (omega (arith, is, taken.3, size, ap length same, length-append (line_of part) (10 ∷ block)))
      block_breaks place (too_short short is) =
          ends_in_block begun short
          (omega (arith, is, taken.3, ap length e, length-append (found ++ 10 ∷ []) rest, length-append found (10 ∷ [])))

    pub block_stops : (stop : Stop) → StopsInBlock count to new stop → StopsBehind script from old stop
    block_stops (Breaks place) h = λ told is.
        let t = taken.1 told is in
        block_breaks told t.0 t.2 place (h t.0 t.1)
    block_stops (Fault fault) h = h

-- a line that is that of a grammar or not, by its count
module _ (from to : ℕ) (old new : Option (List ℕ)) (found : List ℕ) (taken : TakesLine from to old new found) where
  pub count_ok : (r : Option ℕ) → ReadsCount found (codes "grammar ") 999999999 r → (stop : Stop)
      → IfOk (ok_or r stop) (TakesGrammarLine from to old new)
  count_ok None h stop = tt
  count_ok (Some count) h stop =
      let IsTaken : List ℕ → Type 0 = λ bytes. TakesLine from to old new bytes in
      (h.0, subst IsTaken h.2 taken)

  -- a line without a count is that of no grammar
  pub count_err : (at : ℕ) → at ≡ from → (r : Option ℕ) → ReadsCount found (codes "grammar ") 999999999 r
      → IfErr (ok_or r (Breaks at)) (StopsBehind header_alone from old)
  count_err at same (Some count) h = tt
  count_err at same None h =
      line_stops header_alone from to old new found taken at same
      (record { no_part = none; no_end = λ complete e. complete })
    where
      none : (part : Part) → MayFollow any_order header_alone part → IsWithinLimits part → found ≡ line_of part → ⊥
      none header place within e = absurd place
      none (grammar block) place within e = h (length block) within (omega (arith, within)) e
      none (of_command command) place within e = absurd place

-- bytes that end in an LF are a block and an LF, and others are none
module _ (count from to : ℕ) (old new : Option (List ℕ)) (bytes : List ℕ)
    (h : BlockReads (count + 1) (count + 1) from to old new bytes Kept) where
  block_taken : (block : List ℕ) → bytes ≡ block ++ 10 ∷ [] → TakesBlock count from to old new block
  block_taken block e =
      let size : length bytes ≡ length block + 1 = ap length e ∙ length-append block (10 ∷ []) in
      let P : List ℕ → Type 0 = Takes old new in
      (subst P e h.0, omega (arith, h.1), omega (arith, h.3))

  no_block : ((block : List ℕ) → bytes ≡ block ++ 10 ∷ [] → ⊥) → (at : ℕ) → at ≡ from + count
      → StopsInBlock count from old (Breaks at)
  no_block other at place told is =
      let t = h.0 told is in
      let c = cut_at count bytes (omega (arith, h.1)) in
      let block : List ℕ = c.0 in
      let byte : ℕ = c.1 in
      let nothing : c.2 ≡ [] =
      nil_from_length c.2 (omega (arith, h.1, c.4, ap length c.3 ∙ length-append block (byte ∷ c.2))) in
      let whole : told ≡ block ++ (byte ∷ (c.2 ++ t.0)) =
      t.2 ∙ ap (λ front. front ++ t.0) c.3 ∙ append_assoc block (byte ∷ c.2) t.0 in
      other_byte block byte (c.2 ++ t.0) whole c.4
      (λ lf. other block (c.3 ∙ ap (λ rest. block ++ (byte ∷ rest)) nothing ∙ ap (λ last. block ++ last ∷ []) lf)) place

  -- by cases on whether they end in an LF
  pub block_ok : (r : Option (Vec ℕ Global))
      → MatchOption r ((block : List ℕ) → bytes ≡ block ++ 10 ∷ [] → ⊥) (λ block. bytes ≡ block.items ++ 10 ∷ [])
      → (stop : Stop) → IfOk (ok_or r stop) (λ block. TakesBlock count from to old new block.items)
  block_ok None e stop = tt
  block_ok (Some block) e stop = block_taken block.items e

  pub block_err : (r : Option (Vec ℕ Global))
      → MatchOption r ((block : List ℕ) → bytes ≡ block ++ 10 ∷ [] → ⊥) (λ block. bytes ≡ block.items ++ 10 ∷ [])
      → (at : ℕ) → at ≡ from + count → IfErr (ok_or r (Breaks at)) (StopsInBlock count from old)
  block_err None e at place = no_block e at place
  block_err (Some block) e at place = tt

-- the input ends within so many bytes, and so within a block and its LF
pub block_ends : (count whole keep from to at : ℕ) (old new : Option (List ℕ)) (into : List ℕ) → whole ≤ count + 1
    → BlockReads whole keep from to old new into (EndedBlock at) → StopsInBlock count from old (Breaks at)
block_ends count whole keep from to at old new into few h told is =
    let t = h.1 told is in
    let nothing : t.0 ≡ [] = h.2 t.0 t.1 in
    let size : length told ≡ length h.0 + length t.0 = ap length t.2 ∙ length-append h.0 t.0 in
    too_short (omega (arith, few, size, ap length nothing, h.3)) (omega (arith, size, ap length nothing, h.4))

-- bytes that are taken in turn
pub takes_both : (old mid new : Option (List ℕ)) (first second : List ℕ) → Takes old mid first
    → Takes mid new second → Takes old new (first ++ second)
takes_both old mid new first second a b told is =
    let t = a told is in
    let u = b t.0 t.1 in
    (u.0, u.1, t.2 ∙ ap (λ bytes. first ++ bytes) u.2 ∙ sym (append_assoc first second u.0))

-- a block that is passed over, and the LF or another byte behind it
module _ (count from mid_at : ℕ) (old mid : Option (List ℕ)) (into : List ℕ)
    (skipped : BlockReads count 0 from mid_at old mid into Skipped) where
  -- an LF ends the block
  pub passed_block : (to : ℕ) (new : Option (List ℕ)) (block : List ℕ) → TakesBlock 0 mid_at to mid new block
      → PassesBlock count from to old new
  passed_block to new block h =
      let bytes : List ℕ = skipped.0.0 in
      let P : List ℕ → Type 0 = λ rest. Takes mid new (rest ++ 10 ∷ []) in
      let lf : Takes mid new (10 ∷ []) = subst P (nil_from_length block h.1) h.0 in
      let both = takes_both old mid new bytes (10 ∷ []) skipped.0.1 lf in
      (bytes, (both, skipped.0.2, omega (arith, h.2, skipped.3)))

  -- behind another byte or at the end of the input no block of so many bytes has come
  passed_lacks : (told rest : List ℕ) → told ≡ skipped.0.0 ++ rest → (place : ℕ) → LacksBlock 0 mid_at rest place
      → LacksBlock count from told place
  passed_lacks told rest e place (other_byte block byte more f size other is) =
      let nothing : block ≡ [] = nil_from_length block size in
      let whole : told ≡ skipped.0.0 ++ (byte ∷ more) =
      e ∙ ap (λ bytes. skipped.0.0 ++ bytes) (f ∙ ap (λ front. front ++ (byte ∷ more)) nothing) in
      other_byte skipped.0.0 byte more whole skipped.0.2 other (omega (arith, is, skipped.3))
  passed_lacks told rest e place (too_short short is) =
      let size : length told ≡ length skipped.0.0 + length rest = ap length e ∙ length-append skipped.0.0 rest in
      too_short (omega (arith, short, size, skipped.0.2)) (omega (arith, short, is, size, skipped.0.2, skipped.3))

  pub passed_stops : (stop : Stop) → StopsInBlock 0 mid_at mid stop → StopsInBlock count from old stop
  passed_stops (Breaks place) h = λ told is.
      let t = skipped.0.1 told is in
      passed_lacks told t.0 t.2 place (h t.0 t.1)
  passed_stops (Fault fault) h = h

-- a block that was passed over is known by its length
pub finds_passed : (most count from to : ℕ) (old new : Option (List ℕ)) → most < count
    → PassesBlock count from to old new → FindsBlock most count from to old new (TooLong count)
finds_passed most count from to old new less h = (h.0, (sym h.1.1, less), h.1)
