-- A lexer over any kinds, each with a test of what it matches: what it finds are the matches of the text.
use Rattle.std.proofs.Common.{◌≡◌, ℕ, suc, zero, ◌+◌, ◌-◌, ◌<◌, ◌≤◌, List, [], ◌∷◌, length, Option, Some, None, Bool, true, false, cond, nat_eq, MatchOption, refl, arith}
use Rattle.std.specs.Bool.{Decides}
use Rattle.std.proofs.lemmas.Bool.{eqb-true}
use Rattle.std.proofs.lemmas.Bool.Decides.{nat_tests}
use Rattle.spec_lexing.specs.LongestMatch.{IsUnmatched}
use Rattle.spec_lexing.specs.Tokens.{Match, scalar_end, AreMatchesFrom, at_end, longest, stray}
use Rattle.spec_lexing.proofs.LongestMatchLemmas.{Found, longest_within, longest_is, IsFound}
use Rattle.spec_lexing.proofs.TokensLemmas.{scalar_end_within}

-- the longest match that the tests find at this place
abbrev pub longest_at : {K : Type 0} → (K → List ℕ → Bool) → List K → List ℕ → ℕ → Option (Found K)
longest_at matches kinds text place = longest_within matches kinds text place (length text - place)

-- what was found at this place: a match, or None where a scalar is stray
abbrev pub match_at : {K : Type 0} → List ℕ → ℕ → Option (Found K) → Match K
match_at text place None = record { kind = None; first = place; end = scalar_end text place }
match_at text place (Some found) = record { kind = Some found.kind; first = place; end = found.end }

module _ {K : Type 0} (matches : K → List ℕ → Bool) (kinds : List K) (text : List ℕ) where
  -- the matches from this place on, of which there are at most so many
  abbrev pub matches_from : ℕ → ℕ → List (Match K)
  matches_from zero place = []
  matches_from (suc steps) place =
      cond (nat_eq place (length text)) []
      (let found : Match K = match_at text place (longest_at matches kinds text place) in
      found ∷ matches_from steps found.end)

module _ {K : Type 0} (MatchesKind : K → List ℕ → Type 0) (matches : K → List ℕ → Bool)
    (decides : (kind : K) (bytes : List ℕ) → Decides (matches kind bytes) (MatchesKind kind bytes))
    (kinds : List K) (text : List ℕ) where
  -- what was found at the place is its longest match
  abbrev IsFoundAt : ℕ → Found K → Type 0
  IsFoundAt place found = IsFound MatchesKind matches decides kinds text place found

  -- these are the matches from the place on
  abbrev Are : ℕ → List (Match K) → Type 0
  Are place found = AreMatchesFrom MatchesKind kinds text place found

  -- the search finds the longest match at a place
  longest_at_is : (place : ℕ) → place ≤ length text →
      MatchOption (longest_at matches kinds text place)
      (IsUnmatched MatchesKind kinds text place) (IsFoundAt place)
  longest_at_is place within =
      longest_is MatchesKind matches decides kinds text place (length text - place) (omega arith)
      (λ other later after inside m. absurd (omega arith))

  -- at the end of the text there are no matches
  are_at_end : (place : ℕ) (ended : Bool) → place ≤ length text → nat_eq place (length text) ≡ ended →
      (others : List (Match K)) → (place < length text → Are place others) →
      Are place (cond ended [] others)
  are_at_end place true within e others rest = at_end place (eqb-true place (length text) e)
  are_at_end place false within e others rest = rest (grind (arith, nat_tests))

  -- what was found at a place, before the matches behind it
  are_found : (place : ℕ) → place < length text → (behind : ℕ → List (Match K)) →
      ((next : ℕ) → place < next → next ≤ length text → Are next (behind next)) →
      (found : Option (Found K)) → MatchOption found (IsUnmatched MatchesKind kinds text place) (IsFoundAt place) →
      Are place
      (let here : Match K = match_at text place found in here ∷ behind here.end)
  are_found place before behind rest None is =
      let end = scalar_end_within text place before in
      stray place (scalar_end text place) (behind (scalar_end text place)) before is refl
      (rest (scalar_end text place) end.0 end.1)
  are_found place before behind rest (Some found) is =
      longest place found.end found.order found.kind (behind found.end) is.is_longest is.stands
      (rest found.end is.is_longest.some is.is_longest.within)

  -- what is found from each place on are the matches, if there are steps enough
  pub matches_are : (steps place : ℕ) → place ≤ length text → length text ≤ steps + place →
      Are place (matches_from matches kinds text steps place)
  matches_are zero place within enough = at_end place (omega arith)
  matches_are (suc steps) place within enough =
      let found : Option (Found K) = longest_at matches kinds text place in
      let here : Match K = match_at text place found in
      are_at_end place (nat_eq place (length text)) within refl
      (here ∷ matches_from matches kinds text steps here.end)
      (λ before. are_found place before (matches_from matches kinds text steps)
      (λ next after inside. matches_are steps next inside (omega arith))
      found (longest_at_is place within))
