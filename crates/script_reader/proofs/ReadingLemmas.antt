-- Parts of a script in the bytes that come: a line tells the part that it begins, and what follows it is its block.
use Rattle.std.proofs.Common.{◌≡◌, ℕ, ◌+◌, ◌^◌, ◌<◌, ◌≤◌, List, [], ◌∷◌, ◌++◌, length, replicate, decimal, codes}
use Rattle.std.proofs.Common.{Option, Some, None, IfOk, IfErr, refl, sym}
use Rattle.std.proofs.Common.{◌∙◌, ap, subst, arith, append_assoc, length-append}
use Rattle.std.specs.Option.{ok_or}
use Rattle.std.proofs.lemmas.List.{length-replicate}
use Rattle.cyk_io.specs.Streams.{Takes}
use Rattle.cyk_io.specs.Lines.{IsLine}
use Rattle.spec_script.specs.Script.{Command, opens, edits, ask, Part, header, grammar, of_command, Script, nothing}
use Rattle.spec_script.specs.Script.{header_alone, with_grammar, any_order, line_of, block_of, text_of, IsWithinLimits}
use Rattle.spec_script.specs.Script.{query_line, edit_text, IsComplete, MayFollow, IsNoForm}
use Rattle.spec_script.specs.declared.limits.TheConstants.{MAX_BLOCK}
use Rattle.spec_text.specs.declared.limits.TheConstants.{MAX_FILE}
use Rattle.spec_script.proofs.ScriptLemmas.{line_is_short}
use Rattle.script_reader.specs.declared.command.Block.{Block}
use Rattle.script_reader.specs.declared.command.Query.{Query as Asked}
use Rattle.script_reader.specs.declared.command.Splice.{Splice}
use Rattle.script_reader.specs.declared.command.Head.{Head}
use Rattle.script_reader.specs.declared.command.Head.TheVariants as head
use Rattle.script_reader.specs.declared.command.Command.{Command as Found}
use Rattle.script_reader.specs.declared.command.Command.TheVariants.{Open, Edit, Ask, End}
use Rattle.script_reader.specs.declared.stop.Stop.{Stop}
use Rattle.script_reader.specs.declared.stop.Stop.TheVariants.{Breaks}
use Rattle.script_reader.specs.Forms.{query_of, splice_text, head_line, IsNoHead, ReadsHead}
use Rattle.script_reader.specs.Reading.{TakesPart, TakesGrammar, TakesHead, TakesCommand, StopsBehind}
use Rattle.script_reader.specs.LinesAndBlocks.{TakesLine, TakesGrammarLine, StopsInBlock, FindsBlock}
use Rattle.script_reader.proofs.LinesAndBlocksLemmas.{takes_both, line_stops, block_stops}

-- a line and the block behind it are a part
pub part_taken : (from mid_at to : ℕ) (old mid new : Option (List ℕ)) (part : Part) → IsWithinLimits part
    → TakesLine from mid_at old mid (line_of part) → Takes mid new (block_of part)
    → to ≡ mid_at + length (block_of part) → TakesPart from to old new part
part_taken from mid_at to old mid new part w line block offset =
    let whole : (line_of part ++ 10 ∷ []) ++ block_of part ≡ text_of part =
    append_assoc (line_of part) (10 ∷ []) (block_of part) in
    let IsTaken : List ℕ → Type 0 = Takes old new in record {
      early = line.0;
      within_limits = w;
      taken = subst IsTaken whole (takes_both old mid new (line_of part ++ 10 ∷ []) (block_of part) line.1 block);
      offset = omega (arith, line.3, offset, length-append (line_of part) (10 ∷ block_of part));
    }

-- a part is short, so that its end is not far
block_is_short : (part : Part) → IsWithinLimits part → length (block_of part) ≤ 10 ^ 9
block_is_short header w = omega arith
block_is_short (grammar block) w = omega (arith, w, length-append block (10 ∷ []))
block_is_short (of_command (opens text)) w = omega (arith, w, length-append text (10 ∷ []))
block_is_short (of_command (edits at deleted inserted)) w =
    omega (arith, w.2, length-append inserted (10 ∷ []))
block_is_short (of_command (ask query)) w = omega arith

pub part_range : (from to : ℕ) (old new : Option (List ℕ)) (part : Part)
    → TakesPart from to old new part → (from < to) × (to < 2 ^ 50)
part_range from to old new part t =
    let size = length-append (line_of part) (10 ∷ block_of part) in
    (omega (arith, t.offset, size), omega (arith, t.early, t.offset, size, line_is_short part t.within_limits, block_is_short part t.within_limits))

pub command_range : (from to : ℕ) (old new : Option (List ℕ)) (found : Found)
    → TakesCommand from to old new found → (from < to) × (to < 2 ^ 50)
command_range from to old new (Open known) t = part_range from to old new (of_command (opens t.0)) t.2
command_range from to old new (Edit at deleted known) t =
    part_range from to old new (of_command (edits at deleted t.0)) t.2
command_range from to old new (Ask query) t = part_range from to old new (of_command (ask (query_of query))) t
command_range from to old new End t = (omega (arith, t.offset), omega (arith, t.early, t.offset))

-- behind a grammar a command follows
command_follows : (front : Script) → IsComplete any_order front → (part : Part)
    → MayFollow any_order front part → (command : Command) × (part ≡ of_command command)
command_follows nothing whole part place = absurd whole
command_follows header_alone whole part place = absurd whole
command_follows (with_grammar block commands) whole header place = absurd place
command_follows (with_grammar block commands) whole (grammar other) place = absurd place
command_follows (with_grammar block commands) whole (of_command command) place = (command, refl)

-- and any command may
may_follow : (front : Script) → IsComplete any_order front → (command : Command)
    → MayFollow any_order front (of_command command)
may_follow nothing whole command = absurd whole
may_follow header_alone whole command = absurd whole
may_follow (with_grammar block commands) whole command = tt

-- some block of so many bytes
abbrev some_block : ℕ → List ℕ
some_block count = replicate count 0

-- a line that was taken
module _ (from to : ℕ) (old new : Option (List ℕ)) (found : List ℕ) (taken : TakesLine from to old new found) where
  -- is a whole part, where this has no block
  line_taken : (part : Part) → IsWithinLimits part → found ≡ line_of part → block_of part ≡ [] → TakesPart from to old new part
  line_taken part w e none =
      let IsTaken : List ℕ → Type 0 = TakesLine from to old new in
      let Rest : List ℕ → Type 0 = Takes new new in
      part_taken from to to old new new part w (subst IsTaken e taken)
      (subst Rest (sym none) (λ told is. (told, is, refl))) (omega (arith, ap length none))

  -- the header, or another line
  pub header_taken : found ≡ codes "script 1" → TakesPart from to old new header
  header_taken e = line_taken header tt e refl

  pub other_header : (at : ℕ) → at ≡ from → (found ≡ codes "script 1" → ⊥) → StopsBehind nothing from old (Breaks at)
  other_header at same other =
      line_stops nothing from to old new found taken at same (record { no_part = none; no_end = λ complete e. complete })
    where
      none : (part : Part) → MayFollow any_order nothing part → IsWithinLimits part → found ≡ line_of part → ⊥
      none header place w e = other e
      none (grammar block) place w e = absurd place
      none (of_command command) place w e = absurd place

  -- the line of a command or the line `end`, or another line
  pub head_taken : (r : Option Head) → ReadsHead found r → (stop : Stop)
      → IfOk (ok_or r stop) (TakesHead from to old new)
  head_taken None h stop = tt
  head_taken (Some told) h stop =
      let IsTaken : List ℕ → Type 0 = λ bytes. Takes old new (bytes ++ 10 ∷ []) in record {
        early = taken.0;
        is_line = subst (IsLine 256) h.spelled taken.2;
        is_short = h.short;
        taken = subst IsTaken h.spelled taken.1;
        offset = omega (arith, taken.3, ap length h.spelled);
      }

  -- where it is neither, the script is broken at it
  module _ (script : Script) (complete : IsComplete any_order script) where
    no_head : IsNoHead found → IsNoForm any_order script found
    no_head other = record {
      no_part = λ part place w e. let asked = command_follows script complete part place in
          none asked.0 (subst IsWithinLimits asked.1 w) (e ∙ ap line_of asked.1);
      no_end = λ whole e. other.no_end e;
    }
      where
        none : (command : Command) → IsWithinLimits (of_command command) → found ≡ line_of (of_command command) → ⊥
        none (opens text) w e = other.no_change.no_text (length text) w (omega (arith, w)) e
        none (edits at deleted inserted) w e =
            other.no_change.no_edit (record { at = at; deleted = deleted; count = length inserted })
            (record { short = w; spelled = e })
        none (ask query) w e = other.no_query query (record { askable = w.0; spelled = e })

    pub head_stops : (at : ℕ) → at ≡ from → (r : Option Head) → ReadsHead found r
        → IfErr (ok_or r (Breaks at)) (StopsBehind script from old)
    head_stops at same None h = line_stops script from to old new found taken at same (no_head h)
    head_stops at same (Some told) h = tt

-- a grammar, by its line and its block
module _ (from : ℕ) (old : Option (List ℕ)) (mid_at : ℕ) (mid : Option (List ℕ)) (count : ℕ)
    (taken : TakesGrammarLine from mid_at old mid count) where
  -- where its block doesn't come, the script is broken there
  pub grammar_stops : (stop : Stop) → StopsInBlock count mid_at mid stop → StopsBehind header_alone from old stop
  grammar_stops stop h =
      let size : length (some_block count) ≡ count = length-replicate count 0 in
      let same : codes "grammar " ++ decimal count ≡ line_of (grammar (some_block count)) =
      ap (λ n. codes "grammar " ++ decimal n) (sym size) in
      block_stops header_alone from mid_at old mid (codes "grammar " ++ decimal count) taken.1
      (grammar (some_block count)) count same tt (omega (arith, size, taken.0)) (sym size) stop h

  pub grammar_taken : (to : ℕ) (new : Option (List ℕ)) (known : Block) → FindsBlock MAX_FILE count mid_at to mid new known
      → TakesGrammar from to old new known
  grammar_taken to new known h =
      let block : List ℕ = h.0 in
      let size : length block ≡ count = h.2.1 in
      let IsTaken : ℕ → Type 0 = λ n. TakesLine from mid_at old mid (codes "grammar " ++ decimal n) in (
        block,
        h.1,
        part_taken from mid_at to old mid new (grammar block) (omega (arith, taken.0, size))
            (subst IsTaken (sym size) taken.1) h.2.0 (omega (arith, size, h.2.2, length-append block (10 ∷ []))),
      )

-- the line of a command was taken
module _ (from mid_at : ℕ) (old mid : Option (List ℕ)) where
  -- as a line
  as_taken : (told : Head) → TakesHead from mid_at old mid told → TakesLine from mid_at old mid (head_line told)
  as_taken told h = (h.early, h.taken, h.is_line, h.offset)

  -- which is a whole command
  pub query_taken : (query : Asked) → TakesHead from mid_at old mid (head.Ask query)
      → TakesCommand from mid_at old mid (Ask query)
  query_taken query h =
      line_taken from mid_at old mid (query_line (query_of query)) (as_taken (head.Ask query) h)
      (of_command (ask (query_of query))) (h.is_short, h.is_line.1) refl refl

  pub end_taken : TakesHead from mid_at old mid head.End → TakesCommand from mid_at old mid End
  end_taken h = record { early = h.early; taken = h.taken; offset = omega (arith, h.offset) }

  -- or the block comes behind it
  module _ (to : ℕ) (new : Option (List ℕ)) (known : Block) where
    pub open_taken : (count : ℕ) → TakesHead from mid_at old mid (head.Open count)
        → FindsBlock MAX_BLOCK count mid_at to mid new known → TakesCommand from to old new (Open known)
    open_taken count t h =
        let text : List ℕ = h.0 in
        let size : length text ≡ count = h.2.1 in
        let IsTaken : ℕ → Type 0 = λ n. TakesLine from mid_at old mid (codes "open " ++ decimal n) in (
          text,
          h.1,
          part_taken from mid_at to old mid new (of_command (opens text)) (omega (arith, t.is_short, size))
              (subst IsTaken (sym size) (as_taken (head.Open count) t)) h.2.0
              (omega (arith, size, h.2.2, length-append text (10 ∷ []))),
        )

    pub edit_taken : (splice : Splice) → TakesHead from mid_at old mid (head.Edit splice)
        → FindsBlock MAX_BLOCK splice.count mid_at to mid new known
        → TakesCommand from to old new (Edit splice.at splice.deleted known)
    edit_taken splice t h =
        let inserted : List ℕ = h.0 in
        let size : length inserted ≡ splice.count = h.2.1 in
        let IsTaken : ℕ → Type 0 = λ n.
        TakesLine from mid_at old mid (codes "edit " ++ edit_text splice.at splice.deleted n) in (
          inserted,
          h.1,
          part_taken from mid_at to old mid new (of_command (edits splice.at splice.deleted inserted))
              (t.is_short.0, t.is_short.1, omega (arith, t.is_short.2, size))
              (subst IsTaken (sym size) (as_taken (head.Edit splice) t)) h.2.0
              (omega (arith, size, h.2.2, length-append inserted (10 ∷ []))),
        )

  -- where its block doesn't come, the script is broken there
  module _ (script : Script) (complete : IsComplete any_order script) where
    pub open_stops : (count : ℕ) → TakesHead from mid_at old mid (head.Open count)
        → (stop : Stop) → StopsInBlock count mid_at mid stop → StopsBehind script from old stop
    open_stops count t stop h =
        let text : List ℕ = some_block count in
        let size : length text ≡ count = length-replicate count 0 in
        let same : codes "open " ++ decimal count ≡ line_of (of_command (opens text)) =
        ap (λ n. codes "open " ++ decimal n) (sym size) in
        block_stops script from mid_at old mid (codes "open " ++ decimal count) (as_taken (head.Open count) t)
        (of_command (opens text)) count same (may_follow script complete (opens text))
        (omega (arith, size, t.is_short)) (sym size) stop h

    pub edit_stops : (splice : Splice) → TakesHead from mid_at old mid (head.Edit splice)
        → (stop : Stop) → StopsInBlock splice.count mid_at mid stop → StopsBehind script from old stop
    edit_stops splice t stop h =
        let inserted : List ℕ = some_block splice.count in
        let size : length inserted ≡ splice.count = length-replicate splice.count 0 in
        let same : codes "edit " ++ splice_text splice ≡ line_of (of_command (edits splice.at splice.deleted inserted)) =
        ap (λ n. codes "edit " ++ edit_text splice.at splice.deleted n) (sym size) in
        block_stops script from mid_at old mid (codes "edit " ++ splice_text splice) (as_taken (head.Edit splice) t)
        (of_command (edits splice.at splice.deleted inserted)) splice.count same
        (may_follow script complete (edits splice.at splice.deleted inserted))
        (t.is_short.0, t.is_short.1, omega (arith, size, t.is_short.2)) (sym size) stop h
