-- Serves the proofs alone: what an automaton accepts at a place, and what the lexer makes of it.
use Rattle.std.specs.Prelude.{◌≡◌, ℕ, ◌<◌, ◌≤◌, List, length, take, drop, All, IsUtf8}
use Rattle.std.specs.Prelude.{Option, Some, None, MatchOption, slice_index_or}
use Rattle.std.specs.List.{cons_option}
use Rattle.std.specs.Option.{option_map}
use Rattle.std.specs.Str.Lossy.{utf8_valid_len}
use Rattle.spec_text.specs.declared.limits.TheConstants.{MAX_TOKENS}
use Rattle.spec_lexing.specs.declared.token.Token.{Token}
use Rattle.spec_lexing.specs.Lexicon.{Lexicon}
use Rattle.spec_lexing.specs.Kinds.{MatchesKind, token_kind, lex_kinds}
use Rattle.spec_lexing.specs.Tokens.{AreTokensFrom}
use Rattle.lbnf_regex.specs.declared.kind.Kind.{Kind}
use Rattle.lbnf_regex.specs.Automata.{Machine, kind_at, walk}
use Rattle.text_store.specs.declared.fault.EditFault.{EditFault}
use Rattle.text_store.specs.declared.fault.EditFault.TheVariants.{Memory, FullText, NotUtf8}
use Rattle.text_store.specs.declared.fault.EditFault.TheVariants.{FullTokens}
use Rattle.text_store.specs.declared.limits.TheConstants.{MAX_BYTES}
use Rattle.text_store.specs.declared.fronts.Front.{Front}
use Rattle.text_store.specs.declared.lexing.Lexeme.{Lexeme}
use Rattle.text_store.specs.TextStore.{token_bytes}
use Rattle.text_store.specs.TextEdits.{IsCutAt}

-- the kind that the automaton accepts in this state, if there is a state
abbrev pub kind_in : Machine → Option ℕ → Option Kind
kind_in a None = None
kind_in a (Some state) = option_map (kind_at a.comments) (slice_index_or a.places state None)

-- the kind that it accepts behind the bytes
abbrev pub kind_behind : Machine → List ℕ → Option Kind
kind_behind a bytes = kind_in a (walk a.rows (Some 0) bytes)

-- it accepts no front of more than so many of the bytes and of at most so many
abbrev pub AcceptsNone : Machine → List ℕ → ℕ → ℕ → Type 0
AcceptsNone a bytes from size =
    (len : ℕ) → from < len → len ≤ size → kind_behind a (take len bytes) ≡ None

-- of the fronts of at most so many bytes, and of one or more, this is the longest that it accepts
pub record IsLongestFront (a : Machine) (bytes : List ℕ) (size : ℕ) (front : Front)
    : Type 0 where
  pub some : 0 < front.len
  pub within : front.len ≤ size
  pub accepted : kind_behind a (take front.len bytes) ≡ Some front.kind
  pub longest : AcceptsNone a bytes front.len size

-- this is the longest front that it accepts, or it accepts none
abbrev pub IsFrontOrNone : Machine → List ℕ → ℕ → Option Front → Type 0
IsFrontOrNone a bytes size front =
    MatchOption front (AcceptsNone a bytes 0 size) (IsLongestFront a bytes size)

-- the front of so many bytes, if it is accepted as a kind, and else the shorter one
abbrev pub front_or : Option Kind → ℕ → Option Front → Option Front
front_or None len shorter = shorter
front_or (Some kind) len shorter = Some (record { kind = kind; len = len })

-- these are the tokens behind the place
abbrev pub AreTokensBehind : Lexicon → List ℕ → ℕ → List Token → Type 0
AreTokensBehind lexicon text place tokens =
    AreTokensFrom MatchesKind token_kind (lex_kinds lexicon) text place tokens

-- the token lies within the bytes, and its own are UTF-8
abbrev pub IsTokenIn : List ℕ → Token → Type 0
IsTokenIn bytes token =
    (token.first ≤ token.end) × (token.end ≤ length bytes)
    × ∥ IsUtf8 (token_bytes bytes token) ∥₁

-- a text may keep the bytes and the tokens: they are UTF-8, neither are too many, and each token is
-- one in the bytes
abbrev pub MayKeep : List ℕ → List Token → Type 0
MayKeep bytes tokens =
    (length bytes ≤ MAX_BYTES) × (length tokens ≤ MAX_TOKENS) × All (IsTokenIn bytes) tokens
    × ∥ IsUtf8 bytes ∥₁

-- the token has the bytes from start up to end
abbrev pub Spans : ℕ → ℕ → Token → Type 0
Spans start end token = (token.first ≡ start) × (token.end ≡ end)

-- the tokens behind the lexeme, with its own before them, are the tokens from start on, and the
-- text goes on behind it as UTF-8
pub record IsLexeme (lexicon : Lexicon) (text : List ℕ) (start : ℕ) (lexeme : Lexeme)
    : Type 0 where
  pub tokens : (rest : List Token) →
      AreTokensBehind lexicon text lexeme.end rest →
      AreTokensBehind lexicon text start (cons_option lexeme.token rest)
  pub goes_on : IsUtf8 (drop lexeme.end text)

-- there was no memory, or a text may have as many tokens as there were, and this is one more
abbrev pub IsNotKept : List Token → Option Token → EditFault → Type 0
IsNotKept old token Memory = Unit {0}
IsNotKept old token FullTokens = (kept : Token) × (token ≡ Some kept) × (MAX_TOKENS ≤ length old)
IsNotKept old token other = ⊥

-- a lexer wants memory, or the text has too many tokens
abbrev pub IsLexerFault : EditFault → Type 0
IsLexerFault Memory = Unit {0}
IsLexerFault FullTokens = Unit {0}
IsLexerFault other = ⊥

-- where the lexer finds too many tokens, the text has more under the lexicon than it may have
abbrev pub HasTooMany : Lexicon → List ℕ → EditFault → Type 0
HasTooMany lexicon text FullTokens =
    (tokens : List Token) × AreTokensBehind lexicon text 0 tokens × (MAX_TOKENS < length tokens)
HasTooMany lexicon text other = Unit {0}

-- there are too many bytes, or they stop being UTF-8
abbrev pub IsBytesFault : List ℕ → EditFault → Type 0
IsBytesFault bytes (FullText count) = (MAX_BYTES < length bytes) × (count ≡ length bytes)
IsBytesFault bytes (NotUtf8 at) =
    (length bytes ≤ MAX_BYTES) × (at ≡ utf8_valid_len bytes) × (at < length bytes)
IsBytesFault bytes other = ⊥

-- an edit cuts no scalar of the old bytes, and inserts UTF-8, but for this place
abbrev pub IsCutFault : List ℕ → ℕ → ℕ → List ℕ → EditFault → Type 0
IsCutFault old at deleted inserted (NotUtf8 place) = IsCutAt old at deleted inserted place
IsCutFault old at deleted inserted other = ⊥
