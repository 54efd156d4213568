-- The tokens of small texts, by hand.
use Rattle.std.specs.Prelude.{ℕ, List, [], ◌∷◌, map, Some, None, codes}
use Prim.Native.String.{String}
use Rattle.std.specs.Prelude.{◌≡◌}
use Rattle.spec_lexing.specs.declared.expression.Expr.{Expr}
use Rattle.spec_lexing.specs.declared.kind_def.KindDef.TheVariants.{Word, Token as TokenDef}
use Rattle.spec_lexing.specs.declared.token.Token.{Token}
use Rattle.spec_lexing.specs.Expressions.{expression_of}
use Rattle.spec_lexing.specs.Predefined.{ident}
use Rattle.spec_lexing.specs.Lexicon.{Lexicon, lexicon_of}
use Rattle.spec_lexing.specs.Tokens.{AreTokensOf}

-- the lexicon of these words, numbered from 0, without comments
abbrev pub words : List String → Lexicon
words texts = lexicon_of (map (λ (text : String). Word (codes text)) texts)

-- the lexicon of these words, with line comments from -- on and block comments between /* and */
abbrev pub commented : List String → Lexicon
commented texts = record {
  line_comments = codes "--" ∷ [];
  block_comments = (codes "/*", codes "*/") ∷ [];
  kinds = map (λ (text : String). Word (codes text)) texts;
}

-- the lexicon of a word and of a token with this expression behind it
abbrev pub word_and_token : String → Expr → Lexicon
word_and_token text expr = lexicon_of (Word (codes text) ∷ TokenDef (codes "T") expr ∷ [])

-- the token of this kind from start up to end
abbrev pub token : ℕ → ℕ → ℕ → Token
token kind start end = record { kind = Some kind; first = start; end = end }

-- the stray token from start up to end
abbrev pub stray : ℕ → ℕ → Token
stray start end = record { kind = None; first = start; end = end }

-- the tokens of small texts, where all kinds are words
pub record HasTokensOfWords : Type 0 where
  -- the empty text has none
  pub empty_text : AreTokensOf (words ("a" ∷ [])) (codes "") []
  -- white space gives none
  pub white_text : AreTokensOf (words ("a" ∷ [])) (codes " \t\r\n ") []
  -- words may be apart or not
  pub words_apart : AreTokensOf (words ("a" ∷ "b" ∷ [])) (codes "a b")
      (token 0 0 1 ∷ token 1 2 3 ∷ [])
  pub words_together : AreTokensOf (words ("a" ∷ "b" ∷ [])) (codes "ab")
      (token 0 0 1 ∷ token 1 1 2 ∷ [])
  -- the longest match wins, also where the shorter word is the lesser kind
  pub longest_wins : AreTokensOf (words ("a" ∷ "ab" ∷ [])) (codes "ab") (token 1 0 2 ∷ [])
  -- the shorter word is a token where the longer one does not go on
  pub shorter_word : AreTokensOf (words ("a" ∷ "ab" ∷ [])) (codes "aab")
      (token 0 0 1 ∷ token 1 1 3 ∷ [])
  -- a longest match is kept, even where a shorter one would leave no stray token behind it
  pub longest_is_kept : AreTokensOf (words ("a" ∷ "ab" ∷ "bc" ∷ [])) (codes "abc")
      (token 1 0 2 ∷ stray 2 3 ∷ [])
  -- of two kinds with one word the lesser one is the token's
  pub least_kind_wins : AreTokensOf (words ("b" ∷ "a" ∷ "a" ∷ [])) (codes "a") (token 1 0 1 ∷ [])
  -- white space is less than a kind whose word is one white byte
  pub white_word : AreTokensOf (words (" " ∷ "a" ∷ [])) (codes "a ") (token 1 0 1 ∷ [])
  -- a longer word with white space in it is a token
  pub word_with_white : AreTokensOf (words ("b c" ∷ " b" ∷ [])) (codes "b c b")
      (token 0 0 3 ∷ token 1 3 5 ∷ [])
  -- what no kind matches is stray, byte by byte in an ASCII text
  pub stray_between : AreTokensOf (words ("a" ∷ [])) (codes "a?!a")
      (token 0 0 1 ∷ stray 1 2 ∷ stray 2 3 ∷ token 0 3 4 ∷ [])
  -- the front of a word is no token of its kind
  pub front_of_word : AreTokensOf (words ("ab" ∷ [])) (codes "a") (stray 0 1 ∷ [])
  -- an empty word matches nothing
  pub empty_word : AreTokensOf (words ("" ∷ [])) (codes "a") (stray 0 1 ∷ [])
  -- a scalar of two bytes is one stray token
  pub two_bytes : AreTokensOf (words ("a" ∷ [])) (97 ∷ 195 ∷ 169 ∷ 97 ∷ [])
      (token 0 0 1 ∷ stray 1 3 ∷ token 0 3 4 ∷ [])
  -- a scalar that the text cuts is stray too, and so is a byte that begins no scalar
  pub cut_scalar : AreTokensOf (words ("a" ∷ [])) (97 ∷ 195 ∷ []) (token 0 0 1 ∷ stray 1 2 ∷ [])
  pub no_scalar : AreTokensOf (words ("a" ∷ [])) (169 ∷ 97 ∷ []) (stray 0 1 ∷ token 0 1 2 ∷ [])

-- the tokens of small texts with comments
pub record HasTokensAmongComments : Type 0 where
  -- a line comment goes up to the next LF, which is white space
  pub line : AreTokensOf (commented ("a" ∷ [])) (codes "a--a a\na")
      (token 0 0 1 ∷ token 0 7 8 ∷ [])
  -- the last line needs no LF
  pub last_line : AreTokensOf (commented ("a" ∷ [])) (codes "a--a") (token 0 0 1 ∷ [])
  -- a block comment goes up to the first closing word, over lines too
  pub block : AreTokensOf (commented ("a" ∷ [])) (codes "/*a\na*/a*/")
      (token 0 7 8 ∷ stray 8 9 ∷ stray 9 10 ∷ [])
  -- the opening word is no part of the closing one
  pub overlap : AreTokensOf (commented ("a" ∷ [])) (codes "/*/a")
      (stray 0 1 ∷ stray 1 2 ∷ stray 2 3 ∷ token 0 3 4 ∷ [])
  -- a block comment that is not closed is none
  pub open_block : AreTokensOf (commented ("a" ∷ "/" ∷ [])) (codes "/*a")
      (token 1 0 1 ∷ stray 1 2 ∷ token 0 2 3 ∷ [])
  -- a comment is less than a word of its length, and a longer word wins
  pub comment_before_word : AreTokensOf (commented ("--" ∷ [])) (codes "--") []
  pub longer_word : AreTokensOf (commented ("--a\n" ∷ [])) (codes "--a\n") (token 0 0 4 ∷ [])

-- the tokens of a small text, where a word stands before a token of identifiers
pub record HasTokensOfIdentifiers : Type 0 where
  -- the word wins where it is as long, and the identifier where it is longer
  pub word_first : (expr : Expr) → expression_of expr ≡ ident →
      AreTokensOf (word_and_token "if" expr) (codes "if iff")
      (token 0 0 2 ∷ token 1 3 6 ∷ [])
