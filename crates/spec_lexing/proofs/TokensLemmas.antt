-- Lists of matches are unique and cover their texts; and the tokens before those of a later place.
use Rattle.std.proofs.Common.{◌≡◌, ℕ, ◌+◌, ◌<◌, ◌≤◌, List, [], ◌∷◌, length, Option, Some, None, slice_get, slice_index, refl, sym, ◌∙◌, ap, arith}
use Rattle.std.proofs.lemmas.Bool.Decides.{nat_tests}
use Rattle.std.specs.List.{cons_option}
use Rattle.spec_text.specs.Scalars.{scalar_len}
use Rattle.spec_lexing.specs.declared.token.Token.{Token}
use Rattle.spec_lexing.specs.LongestMatch.{IsLongestMatch, IsUnmatched}
use Rattle.spec_lexing.specs.Tokens.{Match, scalar_end, AreMatchesFrom, at_end, longest, stray, token_at, tokens_of, AreTokensFrom}
use Rattle.spec_lexing.specs.Laws.{LieEndToEnd}
use Rattle.spec_lexing.proofs.LongestMatchLemmas.{one_end, one_order, matched_place}

-- the token of these bytes with this kind
abbrev pub token_of : Option ℕ → ℕ → ℕ → Token
token_of kind start end = record { kind = kind; first = start; end = end }

-- a scalar has a byte
scalar_some : (byte : ℕ) → 0 < scalar_len byte
scalar_some byte = grind (arith, nat_tests)

-- a scalar within the text ends behind its first byte, and within the text
pub scalar_end_within : (text : List ℕ) (place : ℕ) → place < length text →
    (place < scalar_end text place) × (scalar_end text place ≤ length text)
scalar_end_within text place before =
    let some : 0 < scalar_len (slice_index text place) = scalar_some (slice_index text place) in
    (grind (arith, some), grind arith)

module _ {K : Type 0} (Matches : K → List ℕ → Type 0) (kinds : List K) (text : List ℕ) where
  -- the bytes from start up to end are the longest match at start, of the kind at this place in the order
  abbrev Longest : ℕ → ℕ → ℕ → Type 0
  Longest order start end = IsLongestMatch Matches kinds text order start end

  -- these are the matches from this place on
  abbrev Are : ℕ → List (Match K) → Type 0
  Are place matches = AreMatchesFrom Matches kinds text place matches

  -- equal matches before equal matches
  same_matches : (kind other : Option K) (start end later : ℕ) (matches others : List (Match K)) →
      kind ≡ other → end ≡ later → matches ≡ others →
      record { kind = kind; first = start; end = end } ∷ matches
      ≡ record { kind = other; first = start; end = later } ∷ others
  same_matches kind other start end later matches others k e t = cc

  -- two longest matches at a place end at one place
  same_end : (start order end other later : ℕ) → Longest order start end → Longest other start later →
      end ≡ later
  same_end = one_end Matches kinds text

  -- two longest matches at a place are of one kind
  same_kind : (start order end other later : ℕ) (kind kind' : K) → Longest order start end →
      Longest other start later → slice_get kinds order ≡ Some kind → slice_get kinds other ≡ Some kind' →
      Some kind ≡ Some kind'
  same_kind start order end other later kind kind' m m' is is' =
      let orders : order ≡ other = one_order Matches kinds text start order end other later m m' in
      let there : slice_get kinds other ≡ Some kind = rw orders at is in
      cc

  -- at the end of the text nothing is matched
  not_at_end : (place order end : ℕ) → Longest order place end → place ≡ length text → ⊥
  not_at_end place order end m e = omega (arith, m.some, m.within)

  -- what lies behind one of two longest matches at a place lies behind the other
  matches_behind : (start order end other later : ℕ) (matches : List (Match K)) → Longest order start end →
      Longest other start later → Are later matches → Are end matches
  matches_behind start order end other later matches m m' rest =
      rw (same_end start order end other later m m') rest

  -- two lists of matches from a place are equal
  pub one_list : (place : ℕ) (matches others : List (Match K)) →
      AreMatchesFrom Matches kinds text place matches →
      AreMatchesFrom Matches kinds text place others → matches ≡ others
  one_list place xs ys (at_end _ e) (at_end _ f) = refl
  one_list place xs ys (at_end _ e) (longest _ end order kind _ m is rest) =
      absurd (not_at_end place order end m e)
  one_list place xs ys (at_end _ e) (stray _ end _ before none f rest) = absurd (omega arith)
  one_list place xs ys (longest _ end order kind _ m is rest) (at_end _ f) =
      absurd (not_at_end place order end m f)
  one_list place xs ys (longest _ end order kind ms m is rest) (longest _ later other kind' ms' m' is' rest') =
      same_matches (Some kind) (Some kind') place end later ms ms'
      (same_kind place order end other later kind kind' m m' is is')
      (same_end place order end other later m m')
      (one_list end ms ms' rest (matches_behind place order end other later ms' m m' rest'))
  one_list place xs ys (longest _ end order kind _ m is rest) (stray _ later _ before none e rest') =
      absurd (matched_place Matches kinds text place order end m none)
  one_list place xs ys (stray _ end _ before none e rest) (at_end _ f) = absurd (omega arith)
  one_list place xs ys (stray _ end _ before none e rest) (longest _ later other kind _ m is rest') =
      absurd (matched_place Matches kinds text place other later m none)
  one_list place xs ys (stray _ end ms before none e rest) (stray _ later ms' before' none' e' rest') =
      let ends : end ≡ later = cc in
      same_matches None None place end later ms ms' refl ends (one_list end ms ms' rest (rw ends rest'))

  -- the matches from a place on lie end to end and cover the text
  pub covering : (place : ℕ) (matches : List (Match K)) →
      AreMatchesFrom Matches kinds text place matches → LieEndToEnd (length text) place matches
  covering place matches (at_end _ e) = e
  covering place matches (longest _ end order kind others m is rest) =
      (refl, m.some, covering end others rest)
  covering place matches (stray _ end others before none e rest) =
      (refl, omega (arith, (scalar_end_within text place before).0), covering end others rest)

module _ {K : Type 0} (Matches : K → List ℕ → Type 0) (token_number : K → Option ℕ) (kinds : List K)
    (text : List ℕ) where
  -- two token lists from a place are equal
  pub one_token_list : (place : ℕ) (tokens others : List Token) →
      AreTokensFrom Matches token_number kinds text place tokens →
      AreTokensFrom Matches token_number kinds text place others → tokens ≡ others
  one_token_list place tokens others t u =
      let same : t.matches ≡ u.matches =
      one_list Matches kinds text place t.matches u.matches t.are_matches u.are_matches in
      t.kept ∙ ap (tokens_of token_number) same ∙ sym u.kept

  -- at most one token more
  one_more : (token : Option Token) (tokens : List Token) →
      length (cons_option token tokens) ≤ length tokens + 1
  one_more None tokens = omega arith
  one_more (Some token) tokens = omega arith

  -- a list of matches has at most as many tokens as bytes
  few : (place : ℕ) (matches : List (Match K)) → AreMatchesFrom Matches kinds text place matches →
      place + length (tokens_of token_number matches) ≤ length text
  few place matches (at_end _ e) = omega arith
  few place matches (longest _ end order kind others m is rest) =
      omega (
        arith,
        m.some,
        few end others rest,
        one_more (token_at token_number place end (Some kind)) (tokens_of token_number others),
      )
  few place matches (stray _ end others before none e rest) =
      omega (arith, (scalar_end_within text place before).0, few end others rest)

  -- there are at most as many tokens from a place on as there are bytes
  pub few_tokens : (place : ℕ) (tokens : List Token) →
      AreTokensFrom Matches token_number kinds text place tokens → place + length tokens ≤ length text
  few_tokens place tokens t = omega (arith, few place t.matches t.are_matches, ap length t.kept)

  -- at the end of the text there are no tokens
  pub no_tokens : (place : ℕ) → place ≡ length text → AreTokensFrom Matches token_number kinds text place []
  no_tokens place e = record { matches = []; are_matches = at_end place e; kept = refl }

  -- a longest match that gives no token, before tokens
  pub skips : (start end order : ℕ) (kind : K) (tokens : List Token) →
      IsLongestMatch Matches kinds text order start end → slice_get kinds order ≡ Some kind →
      token_number kind ≡ None → AreTokensFrom Matches token_number kinds text end tokens →
      AreTokensFrom Matches token_number kinds text start tokens
  skips start end order kind tokens m is none rest = record {
    matches = record { kind = Some kind; first = start; end = end } ∷ rest.matches;
    are_matches = longest start end order kind rest.matches m is rest.are_matches;
    kept = rw none rest.kept;
  }

  -- a longest match that is a token of its kind, before tokens
  pub keeps : (start end order number : ℕ) (kind : K) (tokens : List Token) →
      IsLongestMatch Matches kinds text order start end → slice_get kinds order ≡ Some kind →
      token_number kind ≡ Some number → AreTokensFrom Matches token_number kinds text end tokens →
      AreTokensFrom Matches token_number kinds text start (token_of (Some number) start end ∷ tokens)
  keeps start end order number kind tokens m is some rest = record {
    matches = record { kind = Some kind; first = start; end = end } ∷ rest.matches;
    are_matches = longest start end order kind rest.matches m is rest.are_matches;
    kept = rw some (ap (λ ts. token_of (Some number) start end ∷ ts) rest.kept);
  }

  -- a stray token before tokens
  pub strays : (start end : ℕ) (tokens : List Token) → start < length text →
      IsUnmatched Matches kinds text start → end ≡ scalar_end text start →
      AreTokensFrom Matches token_number kinds text end tokens →
      AreTokensFrom Matches token_number kinds text start (token_of None start end ∷ tokens)
  strays start end tokens before none e rest = record {
    matches = record { kind = None; first = start; end = end } ∷ rest.matches;
    are_matches = stray start end rest.matches before none e rest.are_matches;
    kept = ap (λ ts. token_of None start end ∷ ts) rest.kept;
  }
