-- Token expressions as they are written, from the loosest level to the tightest: alternatives,
-- differences, sequences, factors and atoms. Of each, its tokens and the expression that it is.
use Rattle.std.specs.Prelude.{◌≡◌, ℕ, suc, ◌+◌, ◌<◌, List, [], ◌∷◌, ◌++◌, codes}
use Rattle.spec_lexing.specs.declared.expression.Class.{Class}
use Rattle.spec_lexing.specs.declared.expression.Class.TheVariants.{Digit, Letter, Upper, Lower}
use Rattle.spec_lexing.specs.declared.expression.Class.TheVariants.{AnyChar}
use Rattle.spec_lexing.specs.declared.expression.Expr.{Expr}
use Rattle.spec_lexing.specs.declared.expression.Expr.TheVariants.{Eps, Class as ClassExpr}
use Rattle.spec_lexing.specs.declared.expression.Expr.TheVariants.{Scalar, AnyOf, Word, Seq, Alt}
use Rattle.spec_lexing.specs.declared.expression.Expr.TheVariants.{Minus as MinusExpr}
use Rattle.spec_lexing.specs.declared.expression.Expr.TheVariants.{Star as StarExpr}
use Rattle.spec_lexing.specs.declared.expression.Expr.TheVariants.{Plus as PlusExpr, Opt}
use Rattle.spec_lbnf.specs.declared.token.Sign.{Sign}
use Rattle.spec_lbnf.specs.declared.token.Sign.TheVariants.{OpenBracket, CloseBracket, OpenParen}
use Rattle.spec_lbnf.specs.declared.token.Sign.TheVariants.{CloseParen, OpenBrace, CloseBrace, Bar}
use Rattle.spec_lbnf.specs.declared.token.Sign.TheVariants.{Star, Plus, Question, Minus}
use Rattle.spec_lbnf.specs.declared.token.FileToken.{FileToken}
use Rattle.spec_lbnf.specs.declared.token.FileToken.TheVariants.{Identifier, Text, Character}
use Rattle.spec_lbnf.specs.declared.token.FileToken.TheVariants.{Sign as SignToken}

-- a sign behind a factor
pub data Suffix : Type 0 where
  star_sign : Suffix
  plus_sign : Suffix
  question_sign : Suffix

mutual
  -- a difference alone, or others, a bar and one more
  pub data Alternatives : Type 0 where
    one_side : Differences → Alternatives
    or_else : Alternatives → Differences → Alternatives

  -- a sequence alone, or a difference, a minus sign and one more
  pub data Differences : Type 0 where
    one_part : Sequence → Differences
    less : Differences → Sequence → Differences

  -- a factor alone, or others and one more
  pub data Sequence : Type 0 where
    one_factor : Factor → Sequence
    and_then : Sequence → Factor → Sequence

  -- an atom, or a factor and a sign behind it
  pub data Factor : Type 0 where
    bare_atom : Atom → Factor
    with_sign : Factor → Suffix → Factor

  -- a character, `["w"]`, `{"w"}`, the word of a class, `eps`, or alternatives in brackets
  pub data Atom : Type 0 where
    character_atom : ℕ → Atom
    set_atom : List ℕ → Atom
    text_atom : List ℕ → Atom
    class_atom : Class → Atom
    empty_atom : Atom
    bracket_atom : Alternatives → Atom

-- the sign of a suffix
abbrev pub suffix_sign : Suffix → Sign
suffix_sign star_sign = Star
suffix_sign plus_sign = Plus
suffix_sign question_sign = Question

-- the word that a class is written as
abbrev pub word_of_class : Class → List ℕ
word_of_class Digit = codes "digit"
word_of_class Letter = codes "letter"
word_of_class Upper = codes "upper"
word_of_class Lower = codes "lower"
word_of_class AnyChar = codes "char"

abbrev mutual
  -- the tokens of alternatives: a bar between each two
  pub alternatives_tokens : Alternatives → List FileToken
  alternatives_tokens (one_side side) = differences_tokens side
  alternatives_tokens (or_else sides side) =
      alternatives_tokens sides ++ (SignToken Bar ∷ differences_tokens side)

  -- the tokens of differences: a minus sign between each two sides
  pub differences_tokens : Differences → List FileToken
  differences_tokens (one_part part) = sequence_tokens part
  differences_tokens (less left part) =
      differences_tokens left ++ (SignToken Minus ∷ sequence_tokens part)

  -- the tokens of a sequence
  pub sequence_tokens : Sequence → List FileToken
  sequence_tokens (one_factor factor) = factor_tokens factor
  sequence_tokens (and_then factors factor) = sequence_tokens factors ++ factor_tokens factor

  -- the tokens of a factor: an atom, and its signs behind it
  pub factor_tokens : Factor → List FileToken
  factor_tokens (bare_atom atom) = atom_tokens atom
  factor_tokens (with_sign factor suffix) =
      factor_tokens factor ++ SignToken (suffix_sign suffix) ∷ []

  -- the tokens of an atom
  pub atom_tokens : Atom → List FileToken
  atom_tokens (character_atom scalar) = Character scalar ∷ []
  atom_tokens (set_atom name) =
      SignToken OpenBracket ∷ Text name ∷ SignToken CloseBracket ∷ []
  atom_tokens (text_atom name) = SignToken OpenBrace ∷ Text name ∷ SignToken CloseBrace ∷ []
  atom_tokens (class_atom k) = Identifier (word_of_class k) ∷ []
  atom_tokens empty_atom = Identifier (codes "eps") ∷ []
  atom_tokens (bracket_atom sides) =
      SignToken OpenParen ∷ alternatives_tokens sides ++ SignToken CloseParen ∷ []

-- the expression of several parts; one alone is itself
abbrev pub alone_or : (List Expr → Expr) → List Expr → Expr
alone_or together (part ∷ []) = part
alone_or together parts = together parts

-- the expression of a factor with a sign behind it
abbrev pub suffix_expr : Suffix → Expr → Expr
suffix_expr star_sign part = StarExpr part
suffix_expr plus_sign part = PlusExpr part
suffix_expr question_sign part = Opt part

abbrev mutual
  -- the expressions of alternatives, in order
  pub alternatives_exprs : Alternatives → List Expr
  alternatives_exprs (one_side side) = differences_expr side ∷ []
  alternatives_exprs (or_else sides side) =
      alternatives_exprs sides ++ differences_expr side ∷ []

  -- the expression of differences, the left ones first
  pub differences_expr : Differences → Expr
  differences_expr (one_part part) = alone_or Seq (sequence_exprs part)
  differences_expr (less left part) =
      MinusExpr (differences_expr left) (alone_or Seq (sequence_exprs part))

  -- the expressions of a sequence, in order
  pub sequence_exprs : Sequence → List Expr
  sequence_exprs (one_factor factor) = factor_expr factor ∷ []
  sequence_exprs (and_then factors factor) = sequence_exprs factors ++ factor_expr factor ∷ []

  -- the expression of a factor
  pub factor_expr : Factor → Expr
  factor_expr (bare_atom atom) = atom_expr atom
  factor_expr (with_sign factor suffix) = suffix_expr suffix (factor_expr factor)

  -- the expression of an atom; brackets leave no trace
  pub atom_expr : Atom → Expr
  atom_expr (character_atom scalar) = Scalar scalar
  atom_expr (set_atom name) = AnyOf name
  atom_expr (text_atom name) = Word name
  atom_expr (class_atom k) = ClassExpr k
  atom_expr empty_atom = Eps
  atom_expr (bracket_atom sides) = alone_or Alt (alternatives_exprs sides)

-- the expression of alternatives
abbrev pub alternatives_expr : Alternatives → Expr
alternatives_expr sides = alone_or Alt (alternatives_exprs sides)

-- the most round brackets that are open at once
abbrev pub most_brackets : ℕ
most_brackets = 64

-- the most signs behind one factor
abbrev pub most_signs : ℕ
most_signs = 8

-- the most minus signs in a row
abbrev pub most_minus_signs : ℕ
most_minus_signs = 8

-- how many minus signs the differences have at their own level
abbrev pub minus_count : Differences → ℕ
minus_count (one_part part) = 0
minus_count (less left part) = minus_count left + 1

-- how many signs are behind the factor's atom
abbrev pub sign_count : Factor → ℕ
sign_count (bare_atom atom) = 0
sign_count (with_sign factor suffix) = sign_count factor + 1

abbrev mutual
  -- with so many round brackets open around them, the alternatives are within the limits
  pub AreAlternativesWithin : ℕ → Alternatives → Type 0
  AreAlternativesWithin opened (one_side side) = AreDifferencesWithin opened side
  AreAlternativesWithin opened (or_else sides side) =
      AreAlternativesWithin opened sides × AreDifferencesWithin opened side

  -- the differences are within the limits: they have at most 8 minus signs
  pub AreDifferencesWithin : ℕ → Differences → Type 0
  AreDifferencesWithin opened (one_part part) = IsSequenceWithin opened part
  AreDifferencesWithin opened (less left part) =
      AreDifferencesWithin opened left × IsSequenceWithin opened part
      × (minus_count left < most_minus_signs)

  -- the sequence is within the limits
  pub IsSequenceWithin : ℕ → Sequence → Type 0
  IsSequenceWithin opened (one_factor factor) = IsFactorWithin opened factor
  IsSequenceWithin opened (and_then factors factor) =
      IsSequenceWithin opened factors × IsFactorWithin opened factor

  -- the factor is within the limits: it has at most 8 signs
  pub IsFactorWithin : ℕ → Factor → Type 0
  IsFactorWithin opened (bare_atom atom) = IsAtomWithin opened atom
  IsFactorWithin opened (with_sign factor suffix) =
      IsFactorWithin opened factor × (sign_count factor < most_signs)

  -- the atom is within the limits: at most 64 round brackets are open
  pub IsAtomWithin : ℕ → Atom → Type 0
  IsAtomWithin opened (bracket_atom sides) =
      (opened < most_brackets) × AreAlternativesWithin (suc opened) sides
  IsAtomWithin opened other = Unit {0}

-- the tokens spell the expression: they are alternatives within the limits
pub record SpellsExpr (expr : Expr) (tokens : List FileToken) : Type 0 where
  pub written : Alternatives
  pub within : AreAlternativesWithin 0 written
  pub is_expr : expr ≡ alternatives_expr written
  pub whole : tokens ≡ alternatives_tokens written
