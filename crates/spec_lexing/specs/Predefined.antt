-- The predefined kinds, with their expressions.
use Rattle.std.specs.Prelude.{ℕ, List, [], ◌∷◌, codes, slice_index, map}
use Prim.Native.String.{String}
use Rattle.spec_lexing.specs.declared.expression.Class.TheVariants.{Digit, Letter, AnyChar}
use Rattle.spec_lexing.specs.declared.expression.Expr.{Expr}
use Rattle.spec_lexing.specs.declared.expression.Expr.TheVariants.{Class, Scalar, AnyOf, Seq, Alt}
use Rattle.spec_lexing.specs.declared.expression.Expr.TheVariants.{Minus, Star, Plus, Opt}
use Rattle.spec_lexing.specs.Expressions.{Expression, class, scalar, any_of, minus, star}
use Rattle.spec_lexing.specs.Expressions.{plus, optional, all_in_turn, one_of}

-- a digit
abbrev pub digit : Expression
digit = class Digit

-- a letter
abbrev pub letter : Expression
letter = class Letter

-- any scalar
abbrev pub char : Expression
char = class AnyChar

-- this character, the one of the text
abbrev pub character : String → Expression
character text = scalar (slice_index (codes text) 0)

-- one of the characters of the text
abbrev pub any_char_of : String → Expression
any_char_of text = any_of (codes text)

-- digit+
abbrev pub integer : Expression
integer = plus digit

-- ('e' '-'? digit+)?
abbrev pub exponent : Expression
exponent =
    optional (all_in_turn (character "e" ∷ optional (character "-") ∷ plus digit ∷ []))

-- digit+ '.' digit+ ('e' '-'? digit+)?
abbrev pub double : Expression
double = all_in_turn (plus digit ∷ character "." ∷ plus digit ∷ exponent ∷ [])

-- letter (letter | digit | '_' | '\'')*
abbrev pub ident : Expression
ident =
    all_in_turn
    (letter ∷ star (one_of (letter ∷ digit ∷ character "_" ∷ character "'" ∷ [])) ∷ [])

-- '\\' ["\"'\\nt"]
abbrev pub escape : Expression
escape = all_in_turn (character "\\" ∷ any_char_of "\"'\\nt" ∷ [])

-- any scalar but those of the text, or an escape
abbrev pub inside : String → Expression
inside text = one_of (minus char (any_char_of text) ∷ escape ∷ [])

-- '"' ((char - ["\"\\"]) | ('\\' ["\"'\\nt"]))* '"'
abbrev pub string : Expression
string =
    all_in_turn
    (character "\"" ∷ star (inside "\"\\") ∷ character "\"" ∷ [])

-- '\'' ((char - ["'\\"]) | ('\\' ["\"'\\nt"])) '\''
abbrev pub char_literal : Expression
char_literal =
    all_in_turn
    (character "'" ∷ inside "'\\" ∷ character "'" ∷ [])

-- what the predefined kinds match, in their order
abbrev pub predefined_expressions : List Expression
predefined_expressions = integer ∷ double ∷ ident ∷ string ∷ char_literal ∷ []

-- the scalar that the text is, as an expression in code
abbrev pub character_expr : String → Expr
character_expr text = Scalar (slice_index (codes text) 0)

-- one of the scalars of the text
abbrev pub any_char_expr : String → Expr
any_char_expr text = AnyOf (codes text)

-- the expressions above in code, each with the law that it stands for that one: a digit or more
abbrev pub integer_expr : Expr
integer_expr = Plus (Class Digit)

-- `e`, with a minus sign behind it or none, and a digit or more; or nothing at all
abbrev pub exponent_expr : Expr
exponent_expr =
    Opt (Seq (character_expr "e" ∷ Opt (character_expr "-") ∷ Plus (Class Digit) ∷ []))

-- digits, a point, digits, and an exponent or none
abbrev pub double_expr : Expr
double_expr =
    Seq (Plus (Class Digit) ∷ character_expr "." ∷ Plus (Class Digit) ∷ exponent_expr ∷ [])

-- a letter, a digit, an underscore or an apostrophe
abbrev pub ident_part_expr : Expr
ident_part_expr =
    Alt (Class Letter ∷ Class Digit ∷ character_expr "_" ∷ character_expr "'" ∷ [])

-- a letter, and such parts behind it
abbrev pub ident_expr : Expr
ident_expr = Seq (Class Letter ∷ Star ident_part_expr ∷ [])

-- a backslash with one of the five scalars that it may stand before
abbrev pub escape_expr : Expr
escape_expr = Seq (character_expr "\\" ∷ any_char_expr "\"'\\nt" ∷ [])

-- any scalar but those of the text, or an escape
abbrev pub inside_expr : String → Expr
inside_expr text = Alt (Minus (Class AnyChar) (any_char_expr text) ∷ escape_expr ∷ [])

-- between double quotes, any number of scalars or escapes
abbrev pub string_expr : Expr
string_expr =
    Seq (character_expr "\"" ∷ Star (inside_expr "\"\\") ∷ character_expr "\"" ∷ [])

-- between apostrophes, one scalar or escape
abbrev pub char_literal_expr : Expr
char_literal_expr =
    Seq (character_expr "'" ∷ inside_expr "'\\" ∷ character_expr "'" ∷ [])

-- the predefined kinds in their order, each by its name and its expression in code
abbrev pub predefined_kinds : List (List ℕ × Expr)
predefined_kinds =
    (codes "Integer", integer_expr) ∷ (codes "Double", double_expr) ∷ (codes "Ident", ident_expr)
    ∷ (codes "String", string_expr) ∷ (codes "Char", char_literal_expr) ∷ []

-- their names
abbrev pub predefined_names : List (List ℕ)
predefined_names = map (λ (kind : List ℕ × Expr). kind.0) predefined_kinds
