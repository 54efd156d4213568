-- What a caller sees of the automaton of a lexicon.
use Rattle.std.specs.Prelude.{◌≡◌, ◌≢◌, ℕ, ◌<◌, List, [], ◌++◌, All, Option, Some, None}
use Rattle.std.specs.Prelude.{MatchOption, slice_get, slice_index_or}
use Rattle.std.specs.Str.{IsUtf8}
use Rattle.spec_lexing.specs.declared.kind_def.KindDef.{KindDef}
use Rattle.spec_lexing.specs.Lexicon.{Lexicon}
use Rattle.spec_lexing.specs.Kinds.{LexKind, white, line_comment, block_comment, symbol}
use Rattle.spec_lexing.specs.Kinds.{MatchesKind, lex_kinds}
use Rattle.spec_automata.specs.Encoding.{bytes_of_kinds, IsSoundKind}
use Rattle.spec_automata.specs.States.{AreBytes}
use Rattle.lbnf_regex.specs.Automata.{Machine, kind_at, walk, IsExact, IsWholeMachine}
use Rattle.lbnf_regex.specs.declared.kind.Kind.{Kind}
use Rattle.lbnf_regex.specs.declared.kind.Kind.TheVariants.{White, Comment, Symbol}

-- the lexicon of these comments and kinds
abbrev pub lexicon_with : List (List ℕ) → List (List ℕ × List ℕ) → List KindDef → Lexicon
lexicon_with lines blocks kinds =
    record { line_comments = lines; block_comments = blocks; kinds = kinds }

-- the bytes lead to no state exactly where no spelling of a kind begins with them
abbrev pub IsExactFor : Lexicon → Machine → Type 0
IsExactFor lexicon a = IsExact (bytes_of_kinds (lex_kinds lexicon)) a.rows

-- the kind at this place of the order matches the bytes
abbrev pub MatchesAtPlace : List LexKind → List ℕ → ℕ → Type 0
MatchesAtPlace kinds bytes place =
    (kind : LexKind) × (slice_get kinds place ≡ Some kind) × MatchesKind kind bytes

-- the least place whose kind matches the bytes, and None where no kind does
abbrev pub IsLeastPlace : List LexKind → List ℕ → Option ℕ → Type 0
IsLeastPlace kinds bytes place =
    MatchOption place ((other : ℕ) → MatchesAtPlace kinds bytes other → ⊥)
    (λ least. MatchesAtPlace kinds bytes least
    × ((other : ℕ) → other < least → MatchesAtPlace kinds bytes other → ⊥))

-- each kind of the lexicon is sound
abbrev pub IsSoundLexicon : Lexicon → Type 0
IsSoundLexicon lexicon = All IsSoundKind (lex_kinds lexicon)

-- where bytes that some UTF-8 text begins with lead to a state, its place is that of the least kind
-- that matches them
abbrev pub AcceptsLeast : Lexicon → Machine → Type 0
AcceptsLeast lexicon a =
    IsSoundLexicon lexicon →
    (bytes rest : List ℕ) (state : ℕ) → bytes ≢ [] → AreBytes bytes → IsUtf8 (bytes ++ rest) →
    walk a.rows (Some 0) bytes ≡ Some state →
    IsLeastPlace (lex_kinds lexicon) bytes (slice_index_or a.places state None)

-- what a lexer calls the kind
abbrev pub kind_of : LexKind → Kind
kind_of white = White
kind_of (line_comment opening) = Comment
kind_of (block_comment opening closing) = Comment
kind_of (symbol number kind) = Symbol number

-- what the automaton calls the kind at a place is what a lexer calls it
abbrev pub HasKindsInOrder : Lexicon → Machine → Type 0
HasKindsInOrder lexicon a =
    (place : ℕ) (kind : LexKind) → slice_get (lex_kinds lexicon) place ≡ Some kind →
    kind_at a.comments place ≡ kind_of kind

-- the automaton is that of the lexicon: it is whole, leads nowhere exactly where no spelling begins
-- with the bytes, accepts the least kind, and calls each kind what a lexer does
pub record IsAutomatonOf (lexicon : Lexicon) (a : Machine) : Type 0 where
  pub whole : IsWholeMachine a
  pub exact : IsExactFor lexicon a
  pub least : AcceptsLeast lexicon a
  pub kinds : HasKindsInOrder lexicon a
