-- The forms of a session's lines.
use Rattle.std.specs.Prelude.{ℕ, List, [], ◌∷◌, ◌++◌, codes, decimal}

-- the bytes as one line
abbrev pub as_line : List ℕ → List ℕ
as_line bytes = bytes ++ 10 ∷ []

-- the word and the number behind a space
abbrev pub with_number : List ℕ → ℕ → List ℕ
with_number word number = word ++ (codes " " ++ decimal number)

-- the word and the name behind a space
abbrev pub with_name : List ℕ → List ℕ → List ℕ
with_name word name = word ++ (codes " " ++ name)

-- the word, the name behind a space, and the number behind a space
abbrev pub with_both : List ℕ → List ℕ → ℕ → List ℕ
with_both word name number = word ++ (codes " " ++ with_number name number)
