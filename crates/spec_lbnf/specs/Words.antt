-- The words of a string.
use Rattle.std.specs.Prelude.{ℕ, List, [], ◌∷◌, Bool, true, false, not, nat_eq, filter}
use Rattle.std.specs.List.{slice_split}

-- the list has no element
abbrev pub is_empty : {A : Type 0} → List A → Bool
is_empty [] = true
is_empty (x ∷ xs) = false

-- the words of a string: it is cut at its spaces, and empty words vanish
abbrev pub words_in : List ℕ → List (List ℕ)
words_in text = filter (λ word. not (is_empty word)) (slice_split (λ byte. nat_eq byte 32) text)
