-- Cases of matching, by the test of it.
use Rattle.std.proofs.Common.{◌≡◌, ℕ, List, [], ◌∷◌, Bool, true, ◌&&◌, not, refl}
use Rattle.std.specs.Bool.{Decides}
use Rattle.std.proofs.lemmas.Bool.Decides.{Decides-and, Decides-not}
use Rattle.spec_lexing.specs.Expressions.{Expression}
use Rattle.spec_lexing.proofs.MatchingTests.{matches, matches-Decides}
use Rattle.spec_lexing_cases.specs.MatchingExamples.{MatchesAll, MatchesNone, Chooses}

-- whether the expression matches each of the texts
abbrev pub matches_all : Expression → List (List ℕ) → Bool
matches_all expression [] = true
matches_all expression (text ∷ others) = matches expression text && matches_all expression others

-- whether it matches none of them
abbrev pub matches_none : Expression → List (List ℕ) → Bool
matches_none expression [] = true
matches_none expression (text ∷ others) = not (matches expression text) && matches_none expression others

all-Decides : (expression : Expression) (texts : List (List ℕ)) →
    Decides (matches_all expression texts) (MatchesAll expression texts)
all-Decides expression [] = (λ _. tt, λ _. refl)
all-Decides expression (text ∷ others) =
    Decides-and (matches expression text) (matches_all expression others)
    (matches-Decides expression text) (all-Decides expression others)

none-Decides : (expression : Expression) (texts : List (List ℕ)) →
    Decides (matches_none expression texts) (MatchesNone expression texts)
none-Decides expression [] = (λ _. tt, λ _. refl)
none-Decides expression (text ∷ others) =
    Decides-and (not (matches expression text)) (matches_none expression others)
    (Decides-not (matches expression text) (matches-Decides expression text)) (none-Decides expression others)

-- what passes the test is so
pub chooses : (expression : Expression) (those others : List (List ℕ)) →
    matches_all expression those ≡ true → matches_none expression others ≡ true →
    Chooses expression those others
chooses expression those others all none = record {
  matches = (all-Decides expression those).0 all;
  fails = (none-Decides expression others).0 none;
}
