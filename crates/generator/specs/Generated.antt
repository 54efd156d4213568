-- What a generated run is made of: a grammar, and what a seed draws for it, a text of statements
-- and edits of that text.
use Rattle.std.specs.Prelude.{ℕ, ◌+◌, ◌*◌, ◌/◌, ◌%◌, List, [], ◌∷◌, ◌++◌, codes, get_or, zero, suc}
use Rattle.generator.specs.declared.editing.Edit.{Edit}
use Rattle.generator.specs.declared.editing.Span.{Span}
use Rattle.generator.specs.Draws.{drawn}

-- the lines, each with its LF
abbrev pub as_lines : List (List ℕ) → List ℕ
as_lines [] = []
as_lines (line ∷ lines) = line ++ (10 ∷ as_lines lines)

-- the grammar file of the run
abbrev pub grammar_file : List ℕ
grammar_file = as_lines (
    codes "Prog. Prog ::= [Stm] ;"
    ∷ codes "terminator Stm \";\" ;"
    ∷ codes "Let. Stm ::= Ident \"=\" Exp ;"
    ∷ codes "Add. Exp ::= Exp \"+\" Exp1 ;"
    ∷ codes "Sub. Exp ::= Exp \"-\" Exp1 ;"
    ∷ codes "Mul. Exp1 ::= Exp1 \"*\" Exp2 ;"
    ∷ codes "Num. Exp2 ::= Integer ;"
    ∷ codes "coercions Exp 2 ;"
    ∷ [])

-- the category of the whole text
abbrev pub program_name : List ℕ
program_name = codes "Prog"

-- the category of a statement, without the semicolon behind it
abbrev pub statement_name : List ℕ
statement_name = codes "Stm"

-- how many statements make so many tokens: each has eight
abbrev pub statement_count : ℕ → ℕ
statement_count tokens = tokens / 8

-- the letter, from a to z, that a drawn number stands for
abbrev pub letter_of : ℕ → ℕ
letter_of number = 97 + number % 26

-- the digit that it stands for
abbrev pub digit_of : ℕ → ℕ
digit_of number = 48 + number % 10

-- the sign that it stands for: plus, minus or times
abbrev pub sign_of : ℕ → ℕ
sign_of number = get_or (codes "+-*") (number % 3) 0

-- the line of a statement that has this letter, and this sign between these digits
abbrev pub statement_line : ℕ → ℕ → ℕ → ℕ → List ℕ
statement_line letter left sign right =
    codes "v" ++ (letter ∷ (codes "=(" ++ (left ∷ sign ∷ right ∷ (codes ");" ++ 10 ∷ []))))

-- the statement of this number, from 0: each has four draws of its own, for its letter, its left
-- digit, its sign and its right digit
abbrev pub statement_of : ℕ → ℕ → List ℕ
statement_of seed number =
    statement_line (letter_of (drawn seed (4 * number))) (digit_of (drawn seed (4 * number + 1)))
    (sign_of (drawn seed (4 * number + 2))) (digit_of (drawn seed (4 * number + 3)))

-- the text of so many statements
abbrev pub text_of : ℕ → ℕ → List ℕ
text_of seed zero = []
text_of seed (suc count) = text_of seed count ++ statement_of seed count

-- the offset of the sign of a statement, in the text
abbrev pub sign_offset : ℕ → ℕ
sign_offset statement = 10 * statement + 5

-- the statement that two edits in turn, the pair of this number, are made in: it is drawn behind
-- the draws of the text, one draw for each pair
abbrev pub edited_statement : ℕ → ℕ → ℕ → ℕ
edited_statement seed statements pair = drawn seed (4 * statements + pair) % statements

-- the byte that an edit puts: an even one a semicolon, and an odd one a plus
abbrev pub edit_byte : ℕ → ℕ
edit_byte number = get_or (codes ";+") (number % 2) 0

-- the edit of this number, from 0: in the statement of its pair, a byte takes the place of the sign
abbrev pub edit_of : ℕ → ℕ → ℕ → Edit
edit_of seed statements number =
    let statement = edited_statement seed statements (number / 2) in
    record { statement = statement; at = sign_offset statement; byte = edit_byte number }

-- the tokens of a statement, without its semicolon
abbrev pub span_of : ℕ → Span
span_of statement = record { first = 8 * statement; end = 8 * statement + 7 }

-- the statement behind this one, of so many; behind the last one the first
abbrev pub statement_behind : ℕ → ℕ → ℕ
statement_behind statement statements = (statement + 1) % statements
