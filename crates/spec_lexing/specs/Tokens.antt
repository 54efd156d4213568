-- All matches of a text in turn, from its start to its end, and its tokens.
use Rattle.std.specs.Prelude.{◌≡◌, ℕ, ◌+◌, ◌<◌, List, [], ◌∷◌, length, map, min, Option, Some, None}
use Rattle.std.specs.Prelude.{slice_get, slice_index}
use Rattle.std.specs.Option.{option_map}
use Rattle.std.specs.List.{filter_map}
use Rattle.spec_text.specs.Scalars.{scalar_len}
use Rattle.spec_lexing.specs.declared.token.Token.{Token}
use Rattle.spec_lexing.specs.Lexicon.{Lexicon}
use Rattle.spec_lexing.specs.LongestMatch.{IsLongestMatch, IsUnmatched}
use Rattle.spec_lexing.specs.Kinds.{MatchesKind, token_kind, lex_kinds}

-- what lies at the bytes from first up to end: a match of a kind, or None where nothing matches
pub record Match (K : Type 0) : Type 0 where
  pub kind : Option K
  pub first : ℕ
  pub end : ℕ

-- where the scalar at this place ends, or the text, if the scalar is cut
abbrev pub scalar_end : List ℕ → ℕ → ℕ
scalar_end text place = min (place + scalar_len (slice_index text place)) (length text)

module _ {K : Type 0} (Matches : K → List ℕ → Type 0) (kinds : List K) (text : List ℕ) where
  -- what lies from this place to the end of the text is these matches, skipped ones among them
  pub data AreMatchesFrom : ℕ → List (Match K) → Type 0 where
    -- nothing is left
    at_end : (place : ℕ) → place ≡ length text → AreMatchesFrom place []
    -- the longest match, and what lies behind it
    longest : (start end order : ℕ) (kind : K) (matches : List (Match K)) →
        IsLongestMatch Matches kinds text order start end → slice_get kinds order ≡ Some kind →
        AreMatchesFrom end matches →
        AreMatchesFrom start (record { kind = Some kind; first = start; end = end } ∷ matches)
    -- nothing matches, and one scalar is stray
    stray : (start end : ℕ) (matches : List (Match K)) → start < length text →
        IsUnmatched Matches kinds text start → end ≡ scalar_end text start →
        AreMatchesFrom end matches →
        AreMatchesFrom start (record { kind = None; first = start; end = end } ∷ matches)

module _ {K : Type 0} (token_number : K → Option ℕ) where
  -- the token of these bytes, if the kind bears a number; a stray token has none
  abbrev pub token_at : ℕ → ℕ → Option K → Option Token
  token_at first end None = Some (record { kind = None; first = first; end = end })
  token_at first end (Some kind) =
      option_map (λ number. record { kind = Some number; first = first; end = end })
      (token_number kind)

  -- the tokens of the matches: those that are kept
  abbrev pub tokens_of : List (Match K) → List Token
  tokens_of matches = filter_map (λ m. token_at m.first m.end m.kind) matches

module _ {K : Type 0} (Matches : K → List ℕ → Type 0) (token_number : K → Option ℕ) (kinds : List K)
    (text : List ℕ) where
  -- the tokens from this place to the end of the text are these: those of its matches that are kept
  pub record AreTokensFrom (place : ℕ) (tokens : List Token) : Type 0 where
    pub matches : List (Match K)
    pub are_matches : AreMatchesFrom Matches kinds text place matches
    pub kept : tokens ≡ tokens_of token_number matches

-- the text's tokens under the lexicon are these
abbrev pub AreTokensOf : Lexicon → List ℕ → List Token → Type 0
AreTokensOf lexicon text tokens =
    AreTokensFrom MatchesKind token_kind (lex_kinds lexicon) text 0 tokens

-- the kind of each token, None for a stray one
abbrev pub kinds_of : List Token → List (Option ℕ)
kinds_of tokens = map (λ (token : Token). token.kind) tokens
