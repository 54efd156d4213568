-- What is looked for in a text: white space, comments, and the kinds of the lexicon, in the order
-- that decides between equal lengths.
use Rattle.std.specs.Prelude.{◌≡◌, ℕ, ◌+◌, List, [], ◌∷◌, ◌++◌, map, All, Option, Some, None, true}
use Rattle.std.specs.Prelude.{false, nat_eq}
use Rattle.spec_text.specs.Bytes.{is_white}
use Rattle.spec_lexing.specs.declared.kind_def.KindDef.{KindDef}
use Rattle.spec_lexing.specs.declared.kind_def.KindDef.TheVariants.{Word, Token as TokenDef}
use Rattle.spec_lexing.specs.Expressions.{expression_of}
use Rattle.spec_lexing.specs.Matching.{Matches}
use Rattle.spec_lexing.specs.Lexicon.{Lexicon}

-- white space, a comment by its opening and closing words, or a kind of the lexicon by its number
pub data LexKind : Type 0 where
  white : LexKind
  line_comment : (opening : List ℕ) → LexKind
  block_comment : (opening closing : List ℕ) → LexKind
  symbol : (number : ℕ) → KindDef → LexKind

-- there is no LF among the bytes
abbrev pub IsOnLine : List ℕ → Type 0
IsOnLine bytes = All (λ byte. nat_eq byte 10 ≡ false) bytes

-- the closing text stands at the end of the bytes, and nowhere before
pub record EndsFirst (bytes closing : List ℕ) : Type 0 where
  pub inside : List ℕ
  pub whole : bytes ≡ inside ++ closing
  pub first : (before behind : List ℕ) → bytes ≡ before ++ (closing ++ behind) → behind ≡ []

-- the kind of the grammar matches the bytes: a word matches itself, and a token what its expression
-- matches
abbrev pub MatchesDef : KindDef → List ℕ → Type 0
MatchesDef (Word word) bytes = bytes ≡ word
MatchesDef (TokenDef name expr) bytes = Matches (expression_of expr) bytes

-- what is looked for matches the bytes: white space is one white byte; a line comment is its word
-- and any bytes on the line; a block comment is its opening word and the bytes up to the first
-- closing word
abbrev pub MatchesKind : LexKind → List ℕ → Type 0
MatchesKind white bytes = (byte : ℕ) × (bytes ≡ byte ∷ []) × (is_white byte ≡ true)
MatchesKind (line_comment opening) bytes =
    (rest : List ℕ) × (bytes ≡ opening ++ rest) × IsOnLine rest
MatchesKind (block_comment opening closing) bytes =
    (rest : List ℕ) × (bytes ≡ opening ++ rest) × EndsFirst rest closing
MatchesKind (symbol number kind) bytes = MatchesDef kind bytes

-- the number that a token of the kind bears; white space and comments give no token
abbrev pub token_kind : LexKind → Option ℕ
token_kind white = None
token_kind (line_comment opening) = None
token_kind (block_comment opening closing) = None
token_kind (symbol number kind) = Some number

-- the lexicon's kinds, numbered from here on
abbrev pub numbered_from : ℕ → List KindDef → List LexKind
numbered_from number [] = []
numbered_from number (kind ∷ kinds) = symbol number kind ∷ numbered_from (number + 1) kinds

-- all that is looked for, the least first
abbrev pub lex_kinds : Lexicon → List LexKind
lex_kinds lexicon =
    white ∷ (map line_comment lexicon.line_comments
    ++ (map (λ words. block_comment words.0 words.1) lexicon.block_comments
    ++ numbered_from 0 lexicon.kinds))

-- the kind is a word
abbrev pub IsWordKind : KindDef → Type 0
IsWordKind (Word word) = Unit {0}
IsWordKind (TokenDef name expr) = ⊥

-- the lexicon has no comments, and each of its kinds is a word
pub record HasWordsAlone (lexicon : Lexicon) : Type 0 where
  pub no_lines : lexicon.line_comments ≡ []
  pub no_blocks : lexicon.block_comments ≡ []
  pub words : All IsWordKind lexicon.kinds
