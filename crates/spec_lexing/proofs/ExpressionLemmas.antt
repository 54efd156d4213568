-- What an expression in code stands for, form by form.
use Rattle.std.proofs.Common.{◌≡◌, ℕ, List, [], ◌∷◌, map, sym, ap, ◌∙◌, codes, slice_index}
use Prim.Native.String.{String}
use Rattle.spec_lexing.specs.declared.expression.Class.{Class as ClassOf}
use Rattle.spec_lexing.specs.declared.expression.Expr.{Expr, Expr-F, fold-roll-Expr}
use Rattle.spec_lexing.specs.declared.expression.Expr.TheVariants.{Class, Scalar, AnyOf, Word, Seq, Alt, Minus, Star, Plus, Opt}
use Rattle.spec_lexing.specs.declared.expression.Expr.TheVariants.{rolls-Class, rolls-Scalar, rolls-AnyOf, rolls-Word, rolls-Seq, rolls-Alt, rolls-Minus, rolls-Star, rolls-Plus, rolls-Opt}
use Rattle.spec_lexing.specs.Expressions.{Expression, class, scalar, any_of, word, minus, star, plus, optional, all_in_turn, one_of, form_of, expression_of}
use Rattle.spec_lexing.specs.declared.expression.Class.TheVariants.{Digit, Letter, AnyChar}
use Rattle.spec_lexing.specs.Predefined.{digit, letter, char, character, any_char_of, integer, exponent, double, ident, escape, inside, string, char_literal}
use Rattle.spec_lexing.specs.Predefined.{character_expr, any_char_expr, integer_expr, exponent_expr, double_expr, ident_part_expr, ident_expr, escape_expr, inside_expr, string_expr, char_literal_expr}
use Rattle.spec_lexing.specs.Laws.{PredefinedStand}

pub expression-Class : (k : ClassOf) → expression_of (Class k) ≡ class k
expression-Class k = ap expression_of (sym (rolls-Class k)) ∙ fold-roll-Expr Expression form_of (Expr-F.Class k)

pub expression-Scalar : (c : ℕ) → expression_of (Scalar c) ≡ scalar c
expression-Scalar c = ap expression_of (sym (rolls-Scalar c)) ∙ fold-roll-Expr Expression form_of (Expr-F.Scalar c)

pub expression-AnyOf : (name : List ℕ) → expression_of (AnyOf name) ≡ any_of name
expression-AnyOf name = ap expression_of (sym (rolls-AnyOf name)) ∙ fold-roll-Expr Expression form_of (Expr-F.AnyOf name)

pub expression-Word : (name : List ℕ) → expression_of (Word name) ≡ word name
expression-Word name = ap expression_of (sym (rolls-Word name)) ∙ fold-roll-Expr Expression form_of (Expr-F.Word name)

pub expression-Seq : (parts : List Expr) → expression_of (Seq parts) ≡ all_in_turn (map expression_of parts)
expression-Seq parts = ap expression_of (sym (rolls-Seq parts)) ∙ fold-roll-Expr Expression form_of (Expr-F.Seq parts)

pub expression-Alt : (parts : List Expr) → expression_of (Alt parts) ≡ one_of (map expression_of parts)
expression-Alt parts = ap expression_of (sym (rolls-Alt parts)) ∙ fold-roll-Expr Expression form_of (Expr-F.Alt parts)

pub expression-Minus : (left right : Expr) → expression_of (Minus left right) ≡ minus (expression_of left) (expression_of right)
expression-Minus left right =
    ap expression_of (sym (rolls-Minus left right)) ∙ fold-roll-Expr Expression form_of (Expr-F.Minus left right)

pub expression-Star : (part : Expr) → expression_of (Star part) ≡ star (expression_of part)
expression-Star part = ap expression_of (sym (rolls-Star part)) ∙ fold-roll-Expr Expression form_of (Expr-F.Star part)

pub expression-Plus : (part : Expr) → expression_of (Plus part) ≡ plus (expression_of part)
expression-Plus part = ap expression_of (sym (rolls-Plus part)) ∙ fold-roll-Expr Expression form_of (Expr-F.Plus part)

pub expression-Opt : (part : Expr) → expression_of (Opt part) ≡ optional (expression_of part)
expression-Opt part = ap expression_of (sym (rolls-Opt part)) ∙ fold-roll-Expr Expression form_of (Expr-F.Opt part)

-- the expressions of the predefined kinds stand for those of their page, part by part
pub integer_is : expression_of integer_expr ≡ integer
integer_is = expression-Plus (Class Digit) ∙ ap plus (expression-Class Digit)

character_is : (text : String) → expression_of (character_expr text) ≡ character text
character_is text = expression-Scalar (slice_index (codes text) 0)

exponent_is : expression_of exponent_expr ≡ exponent
exponent_is =
    let sign : expression_of (Opt (character_expr "-")) ≡ optional (character "-")
    = expression-Opt (character_expr "-") ∙ ap optional (character_is "-") in
    expression-Opt (Seq (character_expr "e" ∷ Opt (character_expr "-") ∷ Plus (Class Digit) ∷ []))
    ∙ ap optional
    (expression-Seq (character_expr "e" ∷ Opt (character_expr "-") ∷ Plus (Class Digit) ∷ [])
    ∙ (λ i. all_in_turn (character_is "e" i ∷ sign i ∷ integer_is i ∷ [])))

pub double_is : expression_of double_expr ≡ double
double_is =
    expression-Seq (Plus (Class Digit) ∷ character_expr "." ∷ Plus (Class Digit) ∷ exponent_expr ∷ [])
    ∙ (λ i. all_in_turn (integer_is i ∷ character_is "." i ∷ integer_is i ∷ exponent_is i ∷ []))

ident_part_is : expression_of ident_part_expr ≡ one_of (letter ∷ digit ∷ character "_" ∷ character "'" ∷ [])
ident_part_is =
    expression-Alt (Class Letter ∷ Class Digit ∷ character_expr "_" ∷ character_expr "'" ∷ [])
    ∙ (λ i. one_of (expression-Class Letter i ∷ expression-Class Digit i ∷ character_is "_" i ∷ character_is "'" i ∷ []))

pub ident_is : expression_of ident_expr ≡ ident
ident_is =
    let rest : expression_of (Star ident_part_expr) ≡ star (one_of (letter ∷ digit ∷ character "_" ∷ character "'" ∷ []))
    = expression-Star ident_part_expr ∙ ap star ident_part_is in
    expression-Seq (Class Letter ∷ Star ident_part_expr ∷ [])
    ∙ (λ i. all_in_turn (expression-Class Letter i ∷ rest i ∷ []))

escape_is : expression_of escape_expr ≡ escape
escape_is =
    expression-Seq (character_expr "\\" ∷ any_char_expr "\"'\\nt" ∷ [])
    ∙ (λ i. all_in_turn (character_is "\\" i ∷ expression-AnyOf (codes "\"'\\nt") i ∷ []))

inside_is : (text : String) → expression_of (inside_expr text) ≡ inside text
inside_is text =
    let plain : expression_of (Minus (Class AnyChar) (any_char_expr text)) ≡ minus char (any_char_of text)
    = expression-Minus (Class AnyChar) (any_char_expr text) ∙ (λ i. minus (expression-Class AnyChar i) (expression-AnyOf (codes text) i)) in
    expression-Alt (Minus (Class AnyChar) (any_char_expr text) ∷ escape_expr ∷ [])
    ∙ (λ i. one_of (plain i ∷ escape_is i ∷ []))

pub string_is : expression_of string_expr ≡ string
string_is =
    let rest : expression_of (Star (inside_expr "\"\\")) ≡ star (inside "\"\\")
    = expression-Star (inside_expr "\"\\") ∙ ap star (inside_is "\"\\") in
    expression-Seq (character_expr "\"" ∷ Star (inside_expr "\"\\") ∷ character_expr "\"" ∷ [])
    ∙ (λ i. all_in_turn (character_is "\"" i ∷ rest i ∷ character_is "\"" i ∷ []))

pub char_literal_is : expression_of char_literal_expr ≡ char_literal
char_literal_is =
    expression-Seq (character_expr "'" ∷ inside_expr "'\\" ∷ character_expr "'" ∷ [])
    ∙ (λ i. all_in_turn (character_is "'" i ∷ inside_is "'\\" i ∷ character_is "'" i ∷ []))

pub predefined_stand : PredefinedStand
predefined_stand = λ i. integer_is i ∷ double_is i ∷ ident_is i ∷ string_is i ∷ char_literal_is i ∷ []
