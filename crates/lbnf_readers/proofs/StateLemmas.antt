-- What a state of the reader of expressions holds, as it is written; and each step of that reader.
use Rattle.std.proofs.Common.{◌≡◌, ℕ, suc, ◌+◌, ◌<◌, List, [], ◌∷◌, ◌++◌, length, false, Option, Some, None, option_map, refl, sym, ap, ◌∙◌, append_assoc, arith, length-append}
use Rattle.std.proofs.lemmas.Bool.{lt-ltb}
use Rattle.spec_lexing.specs.declared.expression.Expr.{Expr}
use Rattle.spec_lbnf.specs.declared.token.Sign.TheVariants.{OpenBracket, OpenParen, CloseParen, OpenBrace, Bar, Minus}
use Rattle.spec_lbnf.specs.declared.token.FileToken.{FileToken}
use Rattle.spec_lbnf.specs.declared.token.FileToken.TheVariants.{Text}
use Rattle.spec_lbnf.specs.declared.token.FileToken.TheVariants.{Sign as SignToken}
use Rattle.spec_lbnf.specs.Words.{is_empty}
use Rattle.spec_lbnf.specs.TokenExpressions.{Suffix, star_sign, plus_sign, question_sign, Alternatives, one_side, or_else, Differences, one_part, less, Sequence, one_factor, and_then, Factor, bare_atom, with_sign, Atom, bracket_atom, suffix_sign, alternatives_tokens, differences_tokens, sequence_tokens, factor_tokens, alternatives_exprs, alternatives_expr, differences_expr, sequence_exprs, factor_expr, atom_expr, minus_count, sign_count, AreAlternativesWithin, AreDifferencesWithin, IsSequenceWithin, IsFactorWithin}
use Rattle.lbnf_readers.specs.declared.expression_state.Level.{Level}
use Rattle.lbnf_readers.specs.declared.expression_state.OpenAtom.{OpenAtom}
use Rattle.lbnf_readers.specs.declared.expression_state.OpenAtom.TheVariants.{Bracket, Brace}
use Rattle.lbnf_readers.specs.declared.expression_state.OpenAtom.TheVariants.{AnyOf as OpenSet}
use Rattle.lbnf_readers.specs.declared.expression_state.OpenAtom.TheVariants.{Word as OpenWord}
use Rattle.lbnf_readers.specs.declared.expression_state.ExpressionState.{ExpressionState}
use Rattle.lbnf_readers.specs.ExpressionReading.{split_last, side_of, level_expr, factor_step, sign_step, plain_step, step, whole_of}

-- the levels around the innermost, each by the alternatives that a bar ended, the differences that a
-- minus sign is behind, and the sequence
pub data Around : Type 0 where
  outside : Around
  within : Around → Option Alternatives → Option Differences → Option Sequence → Around

-- what a state holds: the levels around the innermost, and the same of that
pub data Held : Type 0 where
  held : Around → Option Alternatives → Option Differences → Option Sequence → Held

-- how many brackets are open
abbrev pub depth_of : Around → ℕ
depth_of outside = 0
depth_of (within around sides left part) = suc (depth_of around)

-- a side behind others, a part behind a minus sign, and a factor behind others
abbrev pub push_side : Option Alternatives → Differences → Alternatives
push_side None side = one_side side
push_side (Some sides) side = or_else sides side

abbrev pub push_part : Option Differences → Sequence → Differences
push_part None part = one_part part
push_part (Some left) part = less left part

abbrev pub push_factor : Option Sequence → Factor → Sequence
push_factor None factor = one_factor factor
push_factor (Some part) factor = and_then part factor

-- the alternatives of a level
abbrev pub alternatives_of : Option Alternatives → Option Differences → Sequence → Alternatives
alternatives_of sides left part = push_side sides (push_part left part)

-- the expressions and the counts of the parts of a level
abbrev pub sides_exprs : Option Alternatives → List Expr
sides_exprs None = []
sides_exprs (Some sides) = alternatives_exprs sides

abbrev pub part_exprs : Option Sequence → List Expr
part_exprs None = []
part_exprs (Some part) = sequence_exprs part

abbrev pub minus_of : Option Differences → ℕ
minus_of None = 0
minus_of (Some left) = minus_count left + 1

abbrev pub signs_of : Option Sequence → ℕ
signs_of None = 0
signs_of (Some (one_factor factor)) = sign_count factor
signs_of (Some (and_then part factor)) = sign_count factor

-- the level in code
abbrev pub level_of : Option Alternatives → Option Differences → Option Sequence → Level
level_of sides left part = record {
  alternatives = sides_exprs sides;
  left = option_map differences_expr left;
  minus_signs = minus_of left;
  factors = part_exprs part;
  signs = signs_of part;
}

abbrev pub levels_of : Around → List Level
levels_of outside = []
levels_of (within around sides left part) = levels_of around ++ level_of sides left part ∷ []

-- the state in code
abbrev pub state_of : Held → Option OpenAtom → ExpressionState
state_of (held around sides left part) begun =
    record { outer = levels_of around; level = level_of sides left part; atom = begun }

-- the tokens of the parts of a level
abbrev pub sides_tokens : Option Alternatives → List FileToken
sides_tokens None = []
sides_tokens (Some sides) = alternatives_tokens sides ++ SignToken Bar ∷ []

abbrev pub left_tokens : Option Differences → List FileToken
left_tokens None = []
left_tokens (Some left) = differences_tokens left ++ SignToken Minus ∷ []

abbrev pub part_tokens : Option Sequence → List FileToken
part_tokens None = []
part_tokens (Some part) = sequence_tokens part

abbrev pub level_tokens : Option Alternatives → Option Differences → Option Sequence → List FileToken
level_tokens sides left part = sides_tokens sides ++ (left_tokens left ++ part_tokens part)

abbrev pub around_tokens : Around → List FileToken
around_tokens outside = []
around_tokens (within around sides left part) =
    around_tokens around ++ (level_tokens sides left part ++ SignToken OpenParen ∷ [])

-- the tokens of what a state holds, without an open atom
abbrev pub held_tokens : Held → List FileToken
held_tokens (held around sides left part) = around_tokens around ++ level_tokens sides left part

-- the tokens of an open atom
abbrev pub open_tokens : Option OpenAtom → List FileToken
open_tokens None = []
open_tokens (Some Bracket) = SignToken OpenBracket ∷ []
open_tokens (Some (OpenSet name)) = SignToken OpenBracket ∷ Text name ∷ []
open_tokens (Some Brace) = SignToken OpenBrace ∷ []
open_tokens (Some (OpenWord name)) = SignToken OpenBrace ∷ Text name ∷ []

-- the parts of a level are within the limits
abbrev pub AreSidesWithin : ℕ → Option Alternatives → Type 0
AreSidesWithin opened None = Unit {0}
AreSidesWithin opened (Some sides) = AreAlternativesWithin opened sides

abbrev pub IsLeftWithin : ℕ → Option Differences → Type 0
IsLeftWithin opened None = Unit {0}
IsLeftWithin opened (Some left) = AreDifferencesWithin opened left × (minus_count left < 8)

abbrev pub IsPartWithin : ℕ → Option Sequence → Type 0
IsPartWithin opened None = Unit {0}
IsPartWithin opened (Some part) = IsSequenceWithin opened part

abbrev pub IsLevelWithin : ℕ → Option Alternatives → Option Differences → Option Sequence → Type 0
IsLevelWithin opened sides left part =
    AreSidesWithin opened sides × IsLeftWithin opened left × IsPartWithin opened part

abbrev pub IsAroundWithin : Around → Type 0
IsAroundWithin outside = Unit {0}
IsAroundWithin (within around sides left part) =
    IsAroundWithin around × (depth_of around < 64) × IsLevelWithin (depth_of around) sides left part

-- what a state holds is within the limits
abbrev pub IsWithin : Held → Type 0
IsWithin (held around sides left part) =
    IsAroundWithin around × IsLevelWithin (depth_of around) sides left part

-- pushed sides, parts and factors are within the limits
pub side_within : (opened : ℕ) (sides : Option Alternatives) (side : Differences) → AreSidesWithin opened sides
    → AreDifferencesWithin opened side → AreAlternativesWithin opened (push_side sides side)
side_within opened None side first second = second
side_within opened (Some sides) side first second = (first, second)

pub part_within : (opened : ℕ) (left : Option Differences) (part : Sequence) → IsLeftWithin opened left
    → IsSequenceWithin opened part → AreDifferencesWithin opened (push_part left part)
part_within opened None part first second = second
part_within opened (Some left) part first second = (first.0, second, first.1)

pub factor_within : (opened : ℕ) (part : Option Sequence) (factor : Factor) → IsPartWithin opened part
    → IsFactorWithin opened factor → IsSequenceWithin opened (push_factor part factor)
factor_within opened None factor first second = second
factor_within opened (Some part) factor first second = (first, second)

-- the tokens of pushed sides, parts and factors
pub side_pushed : (sides : Option Alternatives) (side : Differences)
    → alternatives_tokens (push_side sides side) ≡ sides_tokens sides ++ differences_tokens side
side_pushed None side = refl
side_pushed (Some sides) side = sym (append_assoc (alternatives_tokens sides) (SignToken Bar ∷ []) (differences_tokens side))

pub part_pushed : (left : Option Differences) (part : Sequence)
    → differences_tokens (push_part left part) ≡ left_tokens left ++ sequence_tokens part
part_pushed None part = refl
part_pushed (Some left) part = sym (append_assoc (differences_tokens left) (SignToken Minus ∷ []) (sequence_tokens part))

pub factor_pushed : (part : Option Sequence) (factor : Factor)
    → sequence_tokens (push_factor part factor) ≡ part_tokens part ++ factor_tokens factor
factor_pushed None factor = refl
factor_pushed (Some part) factor = refl

-- the tokens of a level's alternatives are those of the level
pub alternatives_level : (sides : Option Alternatives) (left : Option Differences) (part : Sequence)
    → alternatives_tokens (alternatives_of sides left part) ≡ level_tokens sides left (Some part)
alternatives_level sides left part =
    side_pushed sides (push_part left part) ∙ ap (λ ts. sides_tokens sides ++ ts) (part_pushed left part)

-- a list with one more is not empty
pub push_some : {A : Type 0} (xs : List A) (x : A) → is_empty (xs ++ x ∷ []) ≡ false
push_some [] x = refl
push_some (y ∷ xs) x = refl

-- a sequence has a factor
pub factors_some : (part : Sequence) → is_empty (sequence_exprs part) ≡ false
factors_some (one_factor factor) = refl
factors_some (and_then part factor) = push_some (sequence_exprs part) (factor_expr factor)

-- the last of a list with one more
pub split_last-push : {A : Type 0} (xs : List A) (x : A) → split_last (xs ++ x ∷ []) ≡ Some (xs, x)
split_last-push [] x = refl
split_last-push (y ∷ []) x = refl
split_last-push (y ∷ z ∷ xs) x = ap (option_map (λ parts. (y ∷ parts.0, parts.1))) (split_last-push (z ∷ xs) x)

-- there are as many levels around as brackets are open
pub levels_count : (around : Around) → length (levels_of around) ≡ depth_of around
levels_count outside = refl
levels_count (within around sides left part) =
    omega (arith, length-append (levels_of around) (level_of sides left part ∷ []), levels_count around)

-- the expression of a level is that of its alternatives
pub level_is : (sides : Option Alternatives) (left : Option Differences) (part : Sequence)
    → level_expr (level_of sides left (Some part)) ≡ alternatives_expr (alternatives_of sides left part)
level_is None None part = refl
level_is None (Some left) part = refl
level_is (Some sides) None part = refl
level_is (Some sides) (Some left) part = refl

-- what is held with an atom more
abbrev pub with_atom : Held → Atom → Held
with_atom (held around sides left part) atom = held around sides left (Some (push_factor part (bare_atom atom)))

-- the step of an atom
pub atom_pushed : (h : Held) (begun : Option OpenAtom) (atom : Atom) → factor_step (state_of h begun) (atom_expr atom) ≡ state_of (with_atom h atom) None
atom_pushed (held around sides left None) begun atom = refl
atom_pushed (held around sides left (Some part)) begun atom = refl

module _ (around : Around) (sides : Option Alternatives) (left : Option Differences) where
  -- the step of a bar
  pub bar_pushed : (part : Sequence)
      → step (state_of (held around sides left (Some part)) None) (SignToken Bar)
      ≡ Some (state_of (held around (Some (alternatives_of sides left part)) None None) None)
  unfolding step plain_step sign_step
  bar_pushed part = rw (factors_some part) (by sides left)
    where
      by : (sides : Option Alternatives) (left : Option Differences)
          → Some (record { outer = levels_of around; level = record { alternatives = sides_exprs sides ++ side_of (level_of sides left (Some part)) ∷ []; left = None; minus_signs = 0; factors = []; signs = 0 }; atom = None })
          ≡ Some (state_of (held around (Some (alternatives_of sides left part)) None None) None)
      by None None = refl
      by None (Some left) = refl
      by (Some sides) None = refl
      by (Some sides) (Some left) = refl

  -- the step of a minus sign
  pub minus_pushed : (part : Sequence) → minus_of left < 8
      → step (state_of (held around sides left (Some part)) None) (SignToken Minus)
      ≡ Some (state_of (held around sides (Some (push_part left part)) None) None)
  unfolding step plain_step sign_step
  minus_pushed part few = rw (factors_some part, lt-ltb (minus_of left) 8 few) (by left)
    where
      by : (left : Option Differences)
          → Some (record { outer = levels_of around; level = record { alternatives = sides_exprs sides; left = Some (side_of (level_of sides left (Some part))); minus_signs = minus_of left + 1; factors = []; signs = 0 }; atom = None })
          ≡ Some (state_of (held around sides (Some (push_part left part)) None) None)
      by None = refl
      by (Some left) = refl

  -- the step of an open bracket
  pub open_pushed : (part : Option Sequence) → depth_of around < 64
      → step (state_of (held around sides left part) None) (SignToken OpenParen)
      ≡ Some (state_of (held (within around sides left part) None None None) None)
  unfolding step plain_step sign_step
  open_pushed part few = rw (levels_count around, lt-ltb (depth_of around) 64 few) refl

  -- the step of a sign behind a factor
  pub suffix_pushed : (part : Option Sequence) (factor : Factor) (suffix : Suffix) → sign_count factor < 8
      → step (state_of (held around sides left (Some (push_factor part factor))) None) (SignToken (suffix_sign suffix))
      ≡ Some (state_of (held around sides left (Some (push_factor part (with_sign factor suffix)))) None)
  unfolding step plain_step sign_step
  suffix_pushed None factor star_sign few = rw (lt-ltb (sign_count factor) 8 few) refl
  suffix_pushed None factor plus_sign few = rw (lt-ltb (sign_count factor) 8 few) refl
  suffix_pushed None factor question_sign few = rw (lt-ltb (sign_count factor) 8 few) refl
  suffix_pushed (Some part) factor star_sign few =
      rw (split_last-push (sequence_exprs part) (factor_expr factor), lt-ltb (sign_count factor) 8 few) refl
  suffix_pushed (Some part) factor plus_sign few =
      rw (split_last-push (sequence_exprs part) (factor_expr factor), lt-ltb (sign_count factor) 8 few) refl
  suffix_pushed (Some part) factor question_sign few =
      rw (split_last-push (sequence_exprs part) (factor_expr factor), lt-ltb (sign_count factor) 8 few) refl

-- the step of a close bracket
pub close_pushed : (around : Around) (sides : Option Alternatives) (left : Option Differences) (part : Option Sequence)
    (own : Option Alternatives) (own_left : Option Differences) (own_part : Sequence)
    → step (state_of (held (within around sides left part) own own_left (Some own_part)) None) (SignToken CloseParen)
    ≡ Some (state_of (with_atom (held around sides left part) (bracket_atom (alternatives_of own own_left own_part))) None)
unfolding step plain_step sign_step
close_pushed around sides left part own own_left own_part =
    rw (factors_some own_part, split_last-push (levels_of around) (level_of sides left part))
    (ap (λ e. Some (factor_step (state_of (held around sides left part) None) e)) (level_is own own_left own_part) ∙ by part)
  where
    by : (part : Option Sequence)
        → Some (factor_step (state_of (held around sides left part) None) (alternatives_expr (alternatives_of own own_left own_part)))
        ≡ Some (state_of (with_atom (held around sides left part) (bracket_atom (alternatives_of own own_left own_part))) None)
    by None = refl
    by (Some part) = refl

-- a state without an open atom, a bracket or a due operand is whole
pub whole_held : (sides : Option Alternatives) (left : Option Differences) (part : Sequence)
    → whole_of (state_of (held outside sides left (Some part)) None) ≡ Some (alternatives_expr (alternatives_of sides left part))
whole_held sides left part = rw (factors_some part) (ap Some (level_is sides left part))
