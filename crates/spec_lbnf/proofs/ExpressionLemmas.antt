-- What the expression of written alternatives has: texts and scalars of its tokens, and a difference
-- for each minus sign.
use Rattle.std.proofs.Common.{◌≡◌, ℕ, suc, ◌+◌, List, [], ◌∷◌, ◌++◌, length, map, filter, Bool, true, false, refl, sym, ap, subst, ◌∙◌, arith, length-append, IsUtf8}
use Rattle.std.specs.Char.{IsScalar}
use Rattle.std.specs.List.{flat_map, AllByRecursion}
use Rattle.std.proofs.lemmas.Grind.{flat_map-append}
use Rattle.std.proofs.lemmas.List.{append-nil}
use Rattle.std.proofs.lemmas.List.Elements.{filter-append}
use Rattle.spec_lexing.specs.declared.expression.Class.{Class}
use Rattle.spec_lexing.specs.declared.expression.Class.TheVariants.{AnyChar}
use Rattle.spec_lexing.specs.declared.expression.Expr.{Expr, Expr-F, fold-roll-Expr}
use Rattle.spec_lexing.specs.declared.expression.Expr.TheVariants.{Eps, Seq, Alt, rolls-Eps}
use Rattle.spec_lexing.specs.declared.expression.Expr.TheVariants.{Class as ClassExpr, Scalar, AnyOf, Word, Minus as MinusExpr, Star, Plus, Opt}
use Rattle.spec_lexing.specs.Expressions.{Expression, empty, class, scalar, any_of, word, in_turn, nothing, either, minus, star, plus, optional, all_in_turn, one_of, form_of, expression_of}
use Rattle.spec_lexing.specs.Classes.{IsSound}
use Rattle.spec_lexing.proofs.ExpressionLemmas.{expression-Class, expression-Scalar, expression-AnyOf, expression-Word, expression-Seq, expression-Alt, expression-Minus, expression-Star, expression-Plus, expression-Opt}
use Rattle.spec_lbnf.specs.declared.token.Sign.TheVariants.{OpenParen, CloseParen, Bar, Minus}
use Rattle.spec_lbnf.specs.declared.token.FileToken.{FileToken}
use Rattle.spec_lbnf.specs.declared.token.FileToken.TheVariants.{Identifier, Text, Character}
use Rattle.spec_lbnf.specs.declared.token.FileToken.TheVariants.{Sign as SignToken}
use Rattle.spec_lbnf.specs.TokenExpressions.{Suffix, star_sign, plus_sign, question_sign, Alternatives, one_side, or_else, Differences, one_part, less, Sequence, one_factor, and_then, Factor, bare_atom, with_sign, Atom, character_atom, set_atom, text_atom, class_atom, empty_atom, bracket_atom, suffix_sign, alternatives_tokens, differences_tokens, sequence_tokens, factor_tokens, atom_tokens, alone_or, suffix_expr, alternatives_exprs, alternatives_expr, differences_expr, sequence_exprs, factor_expr, atom_expr}
use Rattle.spec_lbnf.specs.Differences.{Difference, differences_in, IsGood, is_minus}
use Rattle.spec_lbnf.proofs.Utf8Lemmas.{IsUtf8Token}

-- the empty expression
pub expression-Eps : expression_of Eps ≡ empty
expression-Eps = ap expression_of (sym rolls-Eps) ∙ fold-roll-Expr Expression form_of Expr-F.Eps

-- what holds of two runs holds of both together
pub all_both : {A : Type 0} (P : A → Type 0) (xs ys : List A) → AllByRecursion P xs → AllByRecursion P ys → AllByRecursion P (xs ++ ys)
all_both P [] ys first second = second
all_both P (x ∷ xs) ys first second = (first.0, all_both P xs ys first.1 second)

-- what holds of the whole holds of a front
pub all_front : {A : Type 0} (P : A → Type 0) (xs ys : List A) → AllByRecursion P (xs ++ ys) → AllByRecursion P xs
all_front P [] ys all = tt
all_front P (x ∷ xs) ys all = (all.0, all_front P xs ys all.1)

-- and of the rest
pub all_rest : {A : Type 0} (P : A → Type 0) (xs ys : List A) → AllByRecursion P (xs ++ ys) → AllByRecursion P ys
all_rest P [] ys all = all
all_rest P (x ∷ xs) ys all = all_rest P xs ys all.1

-- the scalars and names of the expression are such in UTF-8
abbrev pub HasUtf8 : Expression → Type 0
HasUtf8 empty = Unit {0}
HasUtf8 (class k) = Unit {0}
HasUtf8 (scalar c) = IsScalar c
HasUtf8 (any_of name) = IsUtf8 name
HasUtf8 (word name) = IsUtf8 name
HasUtf8 (in_turn first second) = HasUtf8 first × HasUtf8 second
HasUtf8 nothing = Unit {0}
HasUtf8 (either left right) = HasUtf8 left × HasUtf8 right
HasUtf8 (minus left right) = HasUtf8 left × HasUtf8 right
HasUtf8 (star part) = HasUtf8 part
HasUtf8 (plus part) = HasUtf8 part
HasUtf8 (optional part) = HasUtf8 part

-- such an expression is sound where its differences are good
pub sound_of : (e : Expression) → HasUtf8 e → AllByRecursion IsGood (differences_in e) → IsSound e
sound_of empty utf8 good = tt
sound_of (class k) utf8 good = tt
sound_of (scalar c) utf8 good = utf8
sound_of (any_of name) utf8 good = utf8
sound_of (word name) utf8 good = utf8
sound_of (in_turn first second) utf8 good = (
  sound_of first utf8.0 (all_front IsGood (differences_in first) (differences_in second) good),
  sound_of second utf8.1 (all_rest IsGood (differences_in first) (differences_in second) good),
)
sound_of nothing utf8 good = tt
sound_of (either left right) utf8 good = (
  sound_of left utf8.0 (all_front IsGood (differences_in left) (differences_in right) good),
  sound_of right utf8.1 (all_rest IsGood (differences_in left) (differences_in right) good),
)
sound_of (minus left right) utf8 good =
    let own : List Difference = (left, right) ∷ differences_in right in
    let behind = all_rest IsGood (differences_in left) own good in
    (behind.0, sound_of left utf8.0 (all_front IsGood (differences_in left) own good), sound_of right utf8.1 behind.1)
sound_of (star part) utf8 good = sound_of part utf8 good
sound_of (plus part) utf8 good = sound_of part utf8 good
sound_of (optional part) utf8 good = sound_of part utf8 good

-- the scalars and names of the expression in code are such in UTF-8
abbrev pub IsUtf8Expr : Expr → Type 0
IsUtf8Expr expr = HasUtf8 (expression_of expr)

-- the differences in the expression in code
abbrev pub differences_of_expr : Expr → List Difference
differences_of_expr expr = differences_in (expression_of expr)

-- parts in turn
utf8_in_turn : (parts : List Expr) → AllByRecursion IsUtf8Expr parts → HasUtf8 (all_in_turn (map expression_of parts))
utf8_in_turn [] each = tt
utf8_in_turn (part ∷ parts) each = (each.0, utf8_in_turn parts each.1)

-- one of parts
utf8_one_of : (parts : List Expr) → AllByRecursion IsUtf8Expr parts → HasUtf8 (one_of (map expression_of parts))
utf8_one_of [] each = tt
utf8_one_of (part ∷ parts) each = (each.0, utf8_one_of parts each.1)

-- a sequence
utf8_seq : (parts : List Expr) → AllByRecursion IsUtf8Expr parts → IsUtf8Expr (alone_or Seq parts)
utf8_seq [] each = subst HasUtf8 (sym (expression-Seq [])) (utf8_in_turn [] each)
utf8_seq (part ∷ []) each = each.0
utf8_seq (part ∷ next ∷ parts) each =
    subst HasUtf8 (sym (expression-Seq (part ∷ next ∷ parts))) (utf8_in_turn (part ∷ next ∷ parts) each)

-- alternatives
utf8_alt : (parts : List Expr) → AllByRecursion IsUtf8Expr parts → IsUtf8Expr (alone_or Alt parts)
utf8_alt [] each = subst HasUtf8 (sym (expression-Alt [])) (utf8_one_of [] each)
utf8_alt (part ∷ []) each = each.0
utf8_alt (part ∷ next ∷ parts) each =
    subst HasUtf8 (sym (expression-Alt (part ∷ next ∷ parts))) (utf8_one_of (part ∷ next ∷ parts) each)

-- a factor with a sign behind it
utf8_suffix : (suffix : Suffix) (part : Expr) → IsUtf8Expr part → IsUtf8Expr (suffix_expr suffix part)
utf8_suffix star_sign part is = subst HasUtf8 (sym (expression-Star part)) is
utf8_suffix plus_sign part is = subst HasUtf8 (sym (expression-Plus part)) is
utf8_suffix question_sign part is = subst HasUtf8 (sym (expression-Opt part)) is

-- the tokens are UTF-8
abbrev pub AreUtf8 : List FileToken → Type 0
AreUtf8 tokens = AllByRecursion IsUtf8Token tokens

mutual
  -- alternatives of UTF-8 tokens are of UTF-8
  pub utf8_alternatives : (sides : Alternatives) → AreUtf8 (alternatives_tokens sides)
      → AllByRecursion IsUtf8Expr (alternatives_exprs sides)
  utf8_alternatives (one_side side) utf8 = (utf8_differences side utf8, tt)
  utf8_alternatives (or_else sides side) utf8 =
      let tokens : List FileToken = SignToken Bar ∷ differences_tokens side in
      all_both IsUtf8Expr (alternatives_exprs sides) (differences_expr side ∷ [])
      (utf8_alternatives sides (all_front IsUtf8Token (alternatives_tokens sides) tokens utf8))
      (utf8_differences side (all_rest IsUtf8Token (alternatives_tokens sides) tokens utf8).1, tt)

  -- and so are differences
  utf8_differences : (side : Differences) → AreUtf8 (differences_tokens side) → IsUtf8Expr (differences_expr side)
  utf8_differences (one_part part) utf8 = utf8_seq (sequence_exprs part) (utf8_sequence part utf8)
  utf8_differences (less left part) utf8 =
      let tokens : List FileToken = SignToken Minus ∷ sequence_tokens part in
      let right : Expr = alone_or Seq (sequence_exprs part) in
      let of_left = utf8_differences left (all_front IsUtf8Token (differences_tokens left) tokens utf8) in
      let of_part = utf8_sequence part (all_rest IsUtf8Token (differences_tokens left) tokens utf8).1 in
      subst HasUtf8 (sym (expression-Minus (differences_expr left) right)) (of_left, utf8_seq (sequence_exprs part) of_part)

  -- and sequences
  utf8_sequence : (part : Sequence) → AreUtf8 (sequence_tokens part) → AllByRecursion IsUtf8Expr (sequence_exprs part)
  utf8_sequence (one_factor factor) utf8 = (utf8_factor factor utf8, tt)
  utf8_sequence (and_then factors factor) utf8 =
      all_both IsUtf8Expr (sequence_exprs factors) (factor_expr factor ∷ [])
      (utf8_sequence factors (all_front IsUtf8Token (sequence_tokens factors) (factor_tokens factor) utf8))
      (utf8_factor factor (all_rest IsUtf8Token (sequence_tokens factors) (factor_tokens factor) utf8), tt)

  -- and factors
  utf8_factor : (factor : Factor) → AreUtf8 (factor_tokens factor) → IsUtf8Expr (factor_expr factor)
  utf8_factor (bare_atom atom) utf8 = utf8_atom atom utf8
  utf8_factor (with_sign factor suffix) utf8 =
      utf8_suffix suffix (factor_expr factor)
      (utf8_factor factor (all_front IsUtf8Token (factor_tokens factor) (SignToken (suffix_sign suffix) ∷ []) utf8))

  -- and atoms
  utf8_atom : (atom : Atom) → AreUtf8 (atom_tokens atom) → IsUtf8Expr (atom_expr atom)
  utf8_atom (character_atom c) utf8 = subst HasUtf8 (sym (expression-Scalar c)) utf8.0
  utf8_atom (set_atom name) utf8 = subst HasUtf8 (sym (expression-AnyOf name)) utf8.1.0
  utf8_atom (text_atom name) utf8 = subst HasUtf8 (sym (expression-Word name)) utf8.1.0
  utf8_atom (class_atom k) utf8 = subst HasUtf8 (sym (expression-Class k)) tt
  utf8_atom empty_atom utf8 = subst HasUtf8 (sym expression-Eps) tt
  utf8_atom (bracket_atom sides) utf8 =
      utf8_alt (alternatives_exprs sides)
      (utf8_alternatives sides (all_front IsUtf8Token (alternatives_tokens sides) (SignToken CloseParen ∷ []) utf8.1))

-- how many of the tokens are minus signs
abbrev pub minus_among : List FileToken → ℕ
minus_among tokens = length (filter is_minus tokens)

-- those of two runs
pub minus_both : (xs ys : List FileToken) → minus_among (xs ++ ys) ≡ minus_among xs + minus_among ys
minus_both xs ys = ap length (filter-append is_minus xs ys) ∙ length-append (filter is_minus xs) (filter is_minus ys)

-- how many differences are in the parts
abbrev differences_among : List Expr → ℕ
differences_among parts = length (flat_map differences_of_expr parts)

-- those of one part
among_one : (part : Expr) → differences_among (part ∷ []) ≡ length (differences_of_expr part)
among_one part = ap length (append-nil (differences_of_expr part))

-- those of parts and one more
among_push : (parts : List Expr) (part : Expr)
    → differences_among (parts ++ part ∷ []) ≡ differences_among parts + length (differences_of_expr part)
among_push parts part =
    ap length (flat_map-append differences_of_expr parts (part ∷ []))
    ∙ length-append (flat_map differences_of_expr parts) (flat_map differences_of_expr (part ∷ []))
    ∙ ap (λ n. differences_among parts + n) (among_one part)

-- parts in turn have the differences of the parts
in_turn_has : (parts : List Expr) → differences_in (all_in_turn (map expression_of parts)) ≡ flat_map differences_of_expr parts
in_turn_has [] = refl
in_turn_has (part ∷ parts) = ap (λ ds. differences_of_expr part ++ ds) (in_turn_has parts)

-- and so has one of parts
one_of_has : (parts : List Expr) → differences_in (one_of (map expression_of parts)) ≡ flat_map differences_of_expr parts
one_of_has [] = refl
one_of_has (part ∷ parts) = ap (λ ds. differences_of_expr part ++ ds) (one_of_has parts)

-- a sequence has as many differences as its parts
seq_has : (parts : List Expr) → length (differences_of_expr (alone_or Seq parts)) ≡ differences_among parts
seq_has [] = ap (λ e. length (differences_in e)) (expression-Seq [])
seq_has (part ∷ []) = sym (among_one part)
seq_has (part ∷ next ∷ parts) =
    ap (λ e. length (differences_in e)) (expression-Seq (part ∷ next ∷ parts)) ∙ ap length (in_turn_has (part ∷ next ∷ parts))

-- and so have alternatives
alt_has : (parts : List Expr) → length (differences_of_expr (alone_or Alt parts)) ≡ differences_among parts
alt_has [] = ap (λ e. length (differences_in e)) (expression-Alt [])
alt_has (part ∷ []) = sym (among_one part)
alt_has (part ∷ next ∷ parts) =
    ap (λ e. length (differences_in e)) (expression-Alt (part ∷ next ∷ parts)) ∙ ap length (one_of_has (part ∷ next ∷ parts))

-- a sign adds none
suffix_has : (suffix : Suffix) (part : Expr)
    → length (differences_of_expr (suffix_expr suffix part)) ≡ length (differences_of_expr part)
suffix_has star_sign part = ap (λ e. length (differences_in e)) (expression-Star part)
suffix_has plus_sign part = ap (λ e. length (differences_in e)) (expression-Plus part)
suffix_has question_sign part = ap (λ e. length (differences_in e)) (expression-Opt part)

-- and is no minus sign
suffix_no_minus : (suffix : Suffix) → minus_among (SignToken (suffix_sign suffix) ∷ []) ≡ 0
suffix_no_minus star_sign = refl
suffix_no_minus plus_sign = refl
suffix_no_minus question_sign = refl

-- a difference has one more than its sides
minus_has : (left right : Expr)
    → length (differences_of_expr (MinusExpr left right)) ≡ length (differences_of_expr left) + suc (length (differences_of_expr right))
minus_has left right =
    ap (λ e. length (differences_in e)) (expression-Minus left right)
    ∙ length-append (differences_of_expr left) ((expression_of left, expression_of right) ∷ differences_of_expr right)

mutual
  -- alternatives have a difference for each minus sign
  pub has_alternatives : (sides : Alternatives) → differences_among (alternatives_exprs sides) ≡ minus_among (alternatives_tokens sides)
  has_alternatives (one_side side) = among_one (differences_expr side) ∙ has_differences side
  has_alternatives (or_else sides side) =
      omega (
        arith,
        among_push (alternatives_exprs sides) (differences_expr side),
        has_alternatives sides,
        has_differences side,
        minus_both (alternatives_tokens sides) (SignToken Bar ∷ differences_tokens side),
      )

  -- and so have differences
  has_differences : (side : Differences) → length (differences_of_expr (differences_expr side)) ≡ minus_among (differences_tokens side)
  has_differences (one_part part) = seq_has (sequence_exprs part) ∙ has_sequence part
  has_differences (less left part) =
      omega (
        arith,
        minus_has (differences_expr left) (alone_or Seq (sequence_exprs part)),
        has_differences left,
        seq_has (sequence_exprs part),
        has_sequence part,
        minus_both (differences_tokens left) (SignToken Minus ∷ sequence_tokens part),
      )

  -- and sequences
  has_sequence : (part : Sequence) → differences_among (sequence_exprs part) ≡ minus_among (sequence_tokens part)
  has_sequence (one_factor factor) = among_one (factor_expr factor) ∙ has_factor factor
  has_sequence (and_then factors factor) =
      omega (
        arith,
        among_push (sequence_exprs factors) (factor_expr factor),
        has_sequence factors,
        has_factor factor,
        minus_both (sequence_tokens factors) (factor_tokens factor),
      )

  -- and factors
  has_factor : (factor : Factor) → length (differences_of_expr (factor_expr factor)) ≡ minus_among (factor_tokens factor)
  has_factor (bare_atom atom) = has_atom atom
  has_factor (with_sign factor suffix) =
      omega (
        arith,
        suffix_has suffix (factor_expr factor),
        has_factor factor,
        minus_both (factor_tokens factor) (SignToken (suffix_sign suffix) ∷ []),
        suffix_no_minus suffix,
      )

  -- and atoms
  has_atom : (atom : Atom) → length (differences_of_expr (atom_expr atom)) ≡ minus_among (atom_tokens atom)
  has_atom (character_atom c) = ap (λ e. length (differences_in e)) (expression-Scalar c)
  has_atom (set_atom name) = ap (λ e. length (differences_in e)) (expression-AnyOf name)
  has_atom (text_atom name) = ap (λ e. length (differences_in e)) (expression-Word name)
  has_atom (class_atom k) = ap (λ e. length (differences_in e)) (expression-Class k)
  has_atom empty_atom = ap (λ e. length (differences_in e)) expression-Eps
  has_atom (bracket_atom sides) =
      omega (
        arith,
        alt_has (alternatives_exprs sides),
        has_alternatives sides,
        minus_both (alternatives_tokens sides) (SignToken CloseParen ∷ []),
      )

-- alternatives of UTF-8 tokens are an expression of UTF-8
pub utf8_expression : (sides : Alternatives) → AreUtf8 (alternatives_tokens sides) → IsUtf8Expr (alternatives_expr sides)
utf8_expression sides utf8 = utf8_alt (alternatives_exprs sides) (utf8_alternatives sides utf8)

-- and have a difference for each minus sign
pub has_expression : (sides : Alternatives) → length (differences_of_expr (alternatives_expr sides)) ≡ minus_among (alternatives_tokens sides)
has_expression sides = alt_has (alternatives_exprs sides) ∙ has_alternatives sides
