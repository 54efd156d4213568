-- What a line of a script is found to be. Callers see `meant` and `query_of`; all else serves the
-- proofs alone.
use Rattle.std.specs.Prelude.{◌≡◌, ℕ, ◌^◌, ◌<◌, ◌≤◌, List, ◌∷◌, ◌++◌}
use Rattle.std.specs.Prelude.{codes, decimal, Option, Some, None, MatchOption, Contains}
use Rattle.std.specs.Borrow.{Bor}
use Rattle.spec_script.specs.declared.question.Constituent.{Constituent as NamedBy}
use Rattle.spec_script.specs.declared.question.Constituent.TheVariants.{EntryWhole, NamedWhole}
use Rattle.spec_script.specs.declared.question.Constituent.TheVariants.{NamedSpan}
use Rattle.spec_script.specs.declared.question.TokenSpan.{TokenSpan}
use Rattle.spec_script.specs.Script.{Constituent, constituent_text, IsNameable, ends_text, edit_text}
use Rattle.spec_script.specs.Script.{span_text, HasShortEnds, Query, has, tree, tokens_in}
use Rattle.spec_script.specs.Script.{query_line, IsAskable}
use Rattle.script_reader.specs.declared.command.Query.{Query as Asked}
use Rattle.script_reader.specs.declared.command.Query.TheVariants.{Has, Tree, Tokens}
use Rattle.script_reader.specs.declared.command.Splice.{Splice}
use Rattle.script_reader.specs.declared.command.Head.{Head}
use Rattle.script_reader.specs.declared.command.Head.TheVariants as head

-- the word is the number of at most nine digits, or spells none
abbrev pub ReadsNumber : List ℕ → Option ℕ → Type 0
ReadsNumber word None = (n : ℕ) → n < 10 ^ 9 → word ≡ decimal n → ⊥
ReadsNumber word (Some n) = (n < 10 ^ 9) × (word ≡ decimal n)

-- the line is the beginning and the rest, or does not begin so
abbrev pub ReadsBehind : List ℕ → List ℕ → Option (Bor (List ℕ)) → Type 0
ReadsBehind line beginning rest =
    MatchOption rest ((other : List ℕ) → line ≡ beginning ++ other → ⊥)
    (λ bytes. line ≡ beginning ++ bytes.now)

-- the line is this beginning and a number that is not above the bound, or no such line
abbrev pub ReadsCount : List ℕ → List ℕ → ℕ → Option ℕ → Type 0
ReadsCount line beginning most None =
    (n : ℕ) → n < 10 ^ 9 → n ≤ most → line ≡ beginning ++ decimal n → ⊥
ReadsCount line beginning most (Some n) =
    (n < 10 ^ 9) × (n ≤ most) × (line ≡ beginning ++ decimal n)

-- the bytes are a word without a space, a space, and the rest; or they have no space
abbrev pub CutsAtSpace : List ℕ → Option (List ℕ × List ℕ) → Type 0
CutsAtSpace bytes None = Contains bytes 32 → ⊥
CutsAtSpace bytes (Some (word, rest)) = (bytes ≡ word ++ (32 ∷ rest)) × (Contains word 32 → ⊥)

-- the bytes are the two ends of a span
pub record AreEnds (bytes : List ℕ) (first end : ℕ) : Type 0 where
  pub short : (first < 10 ^ 9) × (end < 10 ^ 9)
  pub spelled : bytes ≡ ends_text first end

-- the bytes are these two ends, or no two
abbrev pub ReadsEnds : List ℕ → Option (ℕ × ℕ) → Type 0
ReadsEnds bytes None = (first end : ℕ) → AreEnds bytes first end → ⊥
ReadsEnds bytes (Some (first, end)) = AreEnds bytes first end

-- the constituent, with its name as the list of the slice's bytes
abbrev pub meant : NamedBy (Bor (List ℕ)) → Constituent
meant EntryWhole = EntryWhole
meant (NamedWhole name) = NamedWhole name.now
meant (NamedSpan name first end) = NamedSpan name.now first end

-- the query, with its name as the list of the slice's bytes
abbrev pub query_of : Asked → Query
query_of (Has constituent) = has (meant constituent)
query_of (Tree constituent) = tree (meant constituent)
query_of (Tokens span) = tokens_in span

-- the bytes name the constituent
pub record IsNameOf (bytes : List ℕ) (constituent : Constituent) : Type 0 where
  pub nameable : IsNameable constituent
  pub spelled : bytes ≡ constituent_text constituent

-- the bytes name this constituent, or none
abbrev pub ReadsConstituent : List ℕ → Option (NamedBy (Bor (List ℕ))) → Type 0
ReadsConstituent bytes None = (constituent : Constituent) → IsNameOf bytes constituent → ⊥
ReadsConstituent bytes (Some constituent) = IsNameOf bytes (meant constituent)

-- the bytes name the span of tokens
pub record IsSpanText (bytes : List ℕ) (span : TokenSpan) : Type 0 where
  pub short : HasShortEnds span
  pub spelled : bytes ≡ span_text span

-- the bytes name this span of tokens, or none
abbrev pub ReadsTokenSpan : List ℕ → Option TokenSpan → Type 0
ReadsTokenSpan bytes None = (span : TokenSpan) → IsSpanText bytes span → ⊥
ReadsTokenSpan bytes (Some span) = IsSpanText bytes span

-- the line asks the query
pub record IsQuestion (line : List ℕ) (query : Query) : Type 0 where
  pub askable : IsAskable query
  pub spelled : line ≡ query_line query

-- the line asks whether this constituent is derived, or of none whether it is
abbrev pub ReadsHas : List ℕ → Option (NamedBy (Bor (List ℕ))) → Type 0
ReadsHas line None = (constituent : Constituent) → IsQuestion line (has constituent) → ⊥
ReadsHas line (Some constituent) = IsQuestion line (has (meant constituent))

-- the line asks what the first tree of this constituent is, or of none what it is
abbrev pub ReadsTree : List ℕ → Option (NamedBy (Bor (List ℕ))) → Type 0
ReadsTree line None = (constituent : Constituent) → IsQuestion line (tree constituent) → ⊥
ReadsTree line (Some constituent) = IsQuestion line (tree (meant constituent))

-- the line asks which tokens this span has, or of none which it has
abbrev pub ReadsTokens : List ℕ → Option TokenSpan → Type 0
ReadsTokens line None = (span : TokenSpan) → IsQuestion line (tokens_in span) → ⊥
ReadsTokens line (Some span) = IsQuestion line (tokens_in span)

-- the line asks this query, or none
abbrev pub ReadsQuery : List ℕ → Option Asked → Type 0
ReadsQuery line None = (query : Query) → IsQuestion line query → ⊥
ReadsQuery line (Some query) = IsQuestion line (query_of query)

-- the numbers of the splice have nine digits at most
abbrev pub IsShort : Splice → Type 0
IsShort splice = (splice.at < 10 ^ 9) × (splice.deleted < 10 ^ 9) × (splice.count < 10 ^ 9)

-- how an edit's line tells the splice
abbrev pub splice_text : Splice → List ℕ
splice_text splice = edit_text splice.at splice.deleted splice.count

-- the bytes tell the splice
pub record IsSpliceText (bytes : List ℕ) (splice : Splice) : Type 0 where
  pub short : IsShort splice
  pub spelled : bytes ≡ splice_text splice

-- the bytes tell this splice, or none
abbrev pub ReadsSplice : List ℕ → Option Splice → Type 0
ReadsSplice bytes None = (splice : Splice) → IsSpliceText bytes splice → ⊥
ReadsSplice bytes (Some splice) = IsSpliceText bytes splice

-- the line is that of an edit which is the splice
pub record IsEditLine (line : List ℕ) (splice : Splice) : Type 0 where
  pub short : IsShort splice
  pub spelled : line ≡ codes "edit " ++ splice_text splice

-- the line is that of this edit, or of none
abbrev pub ReadsEdit : List ℕ → Option Splice → Type 0
ReadsEdit line None = (splice : Splice) → IsEditLine line splice → ⊥
ReadsEdit line (Some splice) = IsEditLine line splice

-- the line of a command, by what it tells
abbrev pub head_line : Head → List ℕ
head_line (head.Open count) = codes "open " ++ decimal count
head_line (head.Edit splice) = codes "edit " ++ splice_text splice
head_line (head.Ask query) = query_line (query_of query)
head_line head.End = codes "end"

-- what it tells keeps the limits
abbrev pub IsShortHead : Head → Type 0
IsShortHead (head.Open count) = count < 10 ^ 9
IsShortHead (head.Edit splice) = IsShort splice
IsShortHead (head.Ask query) = IsAskable (query_of query)
IsShortHead head.End = Unit {0}

-- the line tells this
pub record IsHead (line : List ℕ) (told : Head) : Type 0 where
  pub short : IsShortHead told
  pub spelled : line ≡ head_line told

-- the line is that of no text and of no edit
pub record IsNoChange (line : List ℕ) : Type 0 where
  pub no_text : ReadsCount line (codes "open ") 999999999 None
  pub no_edit : ReadsEdit line None

-- the line is that of this text or edit, or of none
abbrev pub ReadsChange : List ℕ → Option Head → Type 0
ReadsChange line None = IsNoChange line
ReadsChange line (Some told) = IsHead line told

-- the line is that of no command, and not the line `end`
pub record IsNoHead (line : List ℕ) : Type 0 where
  pub no_end : line ≡ codes "end" → ⊥
  pub no_query : ReadsQuery line None
  pub no_change : IsNoChange line

-- the line is that of this command or the line `end`, or is neither
abbrev pub ReadsHead : List ℕ → Option Head → Type 0
ReadsHead line None = IsNoHead line
ReadsHead line (Some told) = IsHead line told
