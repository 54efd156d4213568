-- The laws of longest match, of matches and of tokens, over any list of kinds and any relation of
-- what each of them matches.
use Rattle.std.specs.Prelude.{◌≡◌, ℕ, ◌+◌, ◌<◌, ◌≤◌, List, [], ◌∷◌, length, map, Option}
use Rattle.spec_lexing.specs.declared.expression.Expr.{Expr}
use Rattle.spec_lexing.specs.declared.token.Token.{Token}
use Rattle.spec_lexing.specs.Expressions.{expression_of}
use Rattle.spec_lexing.specs.Lexicon.{Lexicon}
use Rattle.spec_lexing.specs.LongestMatch.{IsLongestMatch, IsUnmatched}
use Rattle.spec_lexing.specs.Predefined.{predefined_kinds, predefined_expressions}
use Rattle.spec_lexing.specs.Tokens.{Match, AreMatchesFrom, AreTokensFrom, AreTokensOf}

-- any two longest matches at a place are of one kind, by its place in the order, and end at one
-- place
abbrev pub HasOneLongestMatch : {K : Type 0} → (K → List ℕ → Type 0) → Type 0
HasOneLongestMatch {K} Matches =
    (kinds : List K) (text : List ℕ) (start order end other later : ℕ) →
    IsLongestMatch Matches kinds text order start end →
    IsLongestMatch Matches kinds text other start later →
    (order ≡ other) × (end ≡ later)

-- where some match is the longest, the place is not unmatched
abbrev pub HasMatchedPlaces : {K : Type 0} → (K → List ℕ → Type 0) → Type 0
HasMatchedPlaces {K} Matches =
    (kinds : List K) (text : List ℕ) (start order end : ℕ) →
    IsLongestMatch Matches kinds text order start end
    → IsUnmatched Matches kinds text start → ⊥

-- any two lists of matches from a place to the end of the text are equal
abbrev pub HasOneMatchList : {K : Type 0} → (K → List ℕ → Type 0) → Type 0
HasOneMatchList {K} Matches =
    (kinds : List K) (text : List ℕ) (place : ℕ) (matches others : List (Match K)) →
    AreMatchesFrom Matches kinds text place matches →
    AreMatchesFrom Matches kinds text place others →
    matches ≡ others

-- any two token lists from a place to the end of the text are equal
abbrev pub HasOneTokenList : {K : Type 0} → (K → List ℕ → Type 0) → (K → Option ℕ) → Type 0
HasOneTokenList {K} Matches token_number =
    (kinds : List K) (text : List ℕ) (place : ℕ) (tokens others : List Token) →
    AreTokensFrom Matches token_number kinds text place tokens →
    AreTokensFrom Matches token_number kinds text place others →
    tokens ≡ others

-- each list of bytes has a token list under each lexicon
abbrev pub HasSomeTokenList : Type 0
HasSomeTokenList =
    (lexicon : Lexicon) (text : List ℕ) → (tokens : List Token) × AreTokensOf lexicon text tokens

-- the matches lie end to end from this place on, none is empty, and the last ends where so many
-- bytes end
abbrev pub LieEndToEnd : {K : Type 0} → ℕ → ℕ → List (Match K) → Type 0
LieEndToEnd size place [] = place ≡ size
LieEndToEnd size place (m ∷ matches) =
    (m.first ≡ place) × (m.first < m.end) × LieEndToEnd size m.end matches

-- the matches from a place on lie end to end and cover the text
abbrev pub HasCoveringMatches : {K : Type 0} → (K → List ℕ → Type 0) → Type 0
HasCoveringMatches {K} Matches =
    (kinds : List K) (text : List ℕ) (place : ℕ) (matches : List (Match K)) →
    AreMatchesFrom Matches kinds text place matches →
    LieEndToEnd (length text) place matches

-- there are at most as many tokens from a place on as there are bytes
abbrev pub HasFewTokens : {K : Type 0} → (K → List ℕ → Type 0) → (K → Option ℕ) → Type 0
HasFewTokens {K} Matches token_number =
    (kinds : List K) (text : List ℕ) (place : ℕ) (tokens : List Token) →
    AreTokensFrom Matches token_number kinds text place tokens →
    place + length tokens ≤ length text

-- the expressions of the predefined kinds in code stand for those of their page
abbrev pub PredefinedStand : Type 0
PredefinedStand =
    map (λ (kind : List ℕ × Expr). expression_of kind.1) predefined_kinds ≡ predefined_expressions
