-- The tokens of written alternatives run from the first state to one that holds them.
use Rattle.std.proofs.Common.{◌≡◌, ◌<◌, List, [], ◌∷◌, ◌++◌, Option, Some, None, option_and_then, refl, sym, ap, ◌∙◌}
use Rattle.spec_lexing.specs.declared.expression.Class.{Class}
use Rattle.spec_lexing.specs.declared.expression.Class.TheVariants.{Digit, Letter, Upper, Lower, AnyChar}
use Rattle.spec_lexing.specs.declared.expression.Expr.{Expr}
use Rattle.spec_lbnf.specs.declared.token.Sign.TheVariants.{OpenParen, CloseParen, Bar, Minus}
use Rattle.spec_lbnf.specs.declared.token.FileToken.{FileToken}
use Rattle.spec_lbnf.specs.declared.token.FileToken.TheVariants.{Sign as SignToken}
use Rattle.spec_lbnf.specs.TokenExpressions.{Alternatives, one_side, or_else, Differences, one_part, less, Sequence, one_factor, and_then, Factor, bare_atom, with_sign, Atom, character_atom, set_atom, text_atom, class_atom, empty_atom, bracket_atom, suffix_sign, alternatives_tokens, differences_tokens, sequence_tokens, factor_tokens, atom_tokens, alternatives_expr, minus_count, AreAlternativesWithin, AreDifferencesWithin, IsSequenceWithin, IsFactorWithin, IsAtomWithin, SpellsExpr}
use Rattle.lbnf_readers.specs.declared.expression_state.ExpressionState.{ExpressionState}
use Rattle.lbnf_readers.specs.ExpressionReading.{sign_step, plain_step, atom_step, step, first_state, whole_of}
use Rattle.lbnf_readers.proofs.StateLemmas.{Around, outside, within, Held, held, depth_of, push_factor, state_of, with_atom, atom_pushed, bar_pushed, minus_pushed, open_pushed, suffix_pushed, close_pushed, whole_held}

-- the state behind tokens, if each can stand
abbrev pub run : List FileToken → ExpressionState → Option ExpressionState
run [] state = Some state
run (token ∷ tokens) state = option_and_then (run tokens) (step state token)

-- tokens in two parts
pub run-append : (xs ys : List FileToken) (state : ExpressionState) → run (xs ++ ys) state ≡ option_and_then (run ys) (run xs state)
run-append [] ys state = refl
run-append (x ∷ xs) ys state = by (step state x) (run-append xs ys)
  where
    by : (next : Option ExpressionState) → ((s : ExpressionState) → run (xs ++ ys) s ≡ option_and_then (run ys) (run xs s))
        → option_and_then (run (xs ++ ys)) next ≡ option_and_then (run ys) (option_and_then (run xs) next)
    by None others = refl
    by (Some next) others = others next

-- a run, and another behind it
pub run_both : (xs ys : List FileToken) (a b : ExpressionState) (c : Option ExpressionState) → run xs a ≡ Some b → run ys b ≡ c
    → run (xs ++ ys) a ≡ c
run_both xs ys a b c first second = run-append xs ys a ∙ ap (option_and_then (run ys)) first ∙ second

-- a step, and a run behind it
run_behind : (x : FileToken) (ys : List FileToken) (a b : ExpressionState) (c : Option ExpressionState) → step a x ≡ Some b → run ys b ≡ c
    → run (x ∷ ys) a ≡ c
run_behind x ys a b c first second = ap (option_and_then (run ys)) first ∙ second

-- one step
run_one : (x : FileToken) (a b : ExpressionState) → step a x ≡ Some b → run (x ∷ []) a ≡ Some b
run_one x a b first = run_behind x [] a b (Some b) first refl

-- a run, and a step behind it
run_then : (xs : List FileToken) (y : FileToken) (a b c : ExpressionState) → run xs a ≡ Some b → step b y ≡ Some c
    → run (xs ++ y ∷ []) a ≡ Some c
run_then xs y a b c first second = run_both xs (y ∷ []) a b (Some c) first (run_one y b c second)

-- what is held behind differences and behind alternatives of the innermost level
abbrev pub held_differences : Around → Option Alternatives → Differences → Held
held_differences around sides (one_part part) = held around sides None (Some part)
held_differences around sides (less left part) = held around sides (Some left) (Some part)

abbrev pub held_alternatives : Around → Alternatives → Held
held_alternatives around (one_side side) = held_differences around None side
held_alternatives around (or_else sides side) = held_differences around (Some sides) side

-- the step of a minus sign behind differences
minus_behind : (around : Around) (sides : Option Alternatives) (left : Differences) → minus_count left < 8
    → step (state_of (held_differences around sides left) None) (SignToken Minus)
    ≡ Some (state_of (held around sides (Some left) None) None)
minus_behind around sides (one_part part) few = minus_pushed around sides None part few
minus_behind around sides (less left part) few = minus_pushed around sides (Some left) part few

-- the step of a bar behind alternatives
bar_behind : (around : Around) (sides : Alternatives)
    → step (state_of (held_alternatives around sides) None) (SignToken Bar)
    ≡ Some (state_of (held around (Some sides) None None) None)
bar_behind around (one_side (one_part part)) = bar_pushed around None None part
bar_behind around (one_side (less left part)) = bar_pushed around None (Some left) part
bar_behind around (or_else sides (one_part part)) = bar_pushed around (Some sides) None part
bar_behind around (or_else sides (less left part)) = bar_pushed around (Some sides) (Some left) part

-- the step of a close bracket behind alternatives
close_behind : (around : Around) (sides : Option Alternatives) (left : Option Differences) (part : Option Sequence) (own : Alternatives)
    → step (state_of (held_alternatives (within around sides left part) own) None) (SignToken CloseParen)
    ≡ Some (state_of (with_atom (held around sides left part) (bracket_atom own)) None)
close_behind around sides left part (one_side (one_part own)) = close_pushed around sides left part None None own
close_behind around sides left part (one_side (less own_left own)) = close_pushed around sides left part None (Some own_left) own
close_behind around sides left part (or_else own_sides (one_part own)) = close_pushed around sides left part (Some own_sides) None own
close_behind around sides left part (or_else own_sides (less own_left own)) =
    close_pushed around sides left part (Some own_sides) (Some own_left) own

-- the step of a class's word
class_pushed : (h : Held) (k : Class) → run (atom_tokens (class_atom k)) (state_of h None) ≡ Some (state_of (with_atom h (class_atom k)) None)
unfolding step plain_step
class_pushed (held around sides left part) Digit = ap Some (atom_pushed (held around sides left part) None (class_atom Digit))
class_pushed (held around sides left part) Letter = ap Some (atom_pushed (held around sides left part) None (class_atom Letter))
class_pushed (held around sides left part) Upper = ap Some (atom_pushed (held around sides left part) None (class_atom Upper))
class_pushed (held around sides left part) Lower = ap Some (atom_pushed (held around sides left part) None (class_atom Lower))
class_pushed (held around sides left part) AnyChar = ap Some (atom_pushed (held around sides left part) None (class_atom AnyChar))

-- the steps of a small atom
small_pushed : (around : Around) (sides : Option Alternatives) (left : Option Differences) (part : Option Sequence) (atom : Atom)
    → ((own : Alternatives) → atom ≡ bracket_atom own → ⊥)
    → run (atom_tokens atom) (state_of (held around sides left part) None) ≡ Some (state_of (with_atom (held around sides left part) atom) None)
unfolding step plain_step sign_step atom_step
small_pushed around sides left part (character_atom scalar) small = ap Some (atom_pushed (held around sides left part) None (character_atom scalar))
small_pushed around sides left part (set_atom name) small = ap Some (atom_pushed (held around sides left part) None (set_atom name))
small_pushed around sides left part (text_atom name) small = ap Some (atom_pushed (held around sides left part) None (text_atom name))
small_pushed around sides left part (class_atom k) small = class_pushed (held around sides left part) k
small_pushed around sides left part empty_atom small = ap Some (atom_pushed (held around sides left part) None empty_atom)
small_pushed around sides left part (bracket_atom own) small = absurd (small own refl)

mutual
  -- alternatives
  pub run_alternatives : (around : Around) (sides : Alternatives) → AreAlternativesWithin (depth_of around) sides
      → run (alternatives_tokens sides) (state_of (held around None None None) None) ≡ Some (state_of (held_alternatives around sides) None)
  run_alternatives around (one_side side) limits = run_differences around None side limits
  run_alternatives around (or_else sides side) limits =
      run_both (alternatives_tokens sides) (SignToken Bar ∷ differences_tokens side) _ _ _
      (run_alternatives around sides limits.0)
      (run_behind (SignToken Bar) (differences_tokens side) _ _ _ (bar_behind around sides)
      (run_differences around (Some sides) side limits.1))

  -- differences
  run_differences : (around : Around) (sides : Option Alternatives) (side : Differences) → AreDifferencesWithin (depth_of around) side
      → run (differences_tokens side) (state_of (held around sides None None) None) ≡ Some (state_of (held_differences around sides side) None)
  run_differences around sides (one_part part) limits = run_sequence around sides None part limits
  run_differences around sides (less left part) limits =
      run_both (differences_tokens left) (SignToken Minus ∷ sequence_tokens part) _ _ _
      (run_differences around sides left limits.0)
      (run_behind (SignToken Minus) (sequence_tokens part) _ _ _ (minus_behind around sides left limits.2)
      (run_sequence around sides (Some left) part limits.1))

  -- a sequence
  run_sequence : (around : Around) (sides : Option Alternatives) (left : Option Differences) (part : Sequence)
      → IsSequenceWithin (depth_of around) part
      → run (sequence_tokens part) (state_of (held around sides left None) None) ≡ Some (state_of (held around sides left (Some part)) None)
  run_sequence around sides left (one_factor factor) limits = run_factor around sides left None factor limits
  run_sequence around sides left (and_then part factor) limits =
      run_both (sequence_tokens part) (factor_tokens factor) _ _ _
      (run_sequence around sides left part limits.0)
      (run_factor around sides left (Some part) factor limits.1)

  -- a factor
  run_factor : (around : Around) (sides : Option Alternatives) (left : Option Differences) (part : Option Sequence) (factor : Factor)
      → IsFactorWithin (depth_of around) factor
      → run (factor_tokens factor) (state_of (held around sides left part) None)
      ≡ Some (state_of (held around sides left (Some (push_factor part factor))) None)
  run_factor around sides left part (bare_atom atom) limits = run_atom around sides left part atom limits
  run_factor around sides left part (with_sign factor suffix) limits =
      run_then (factor_tokens factor) (SignToken (suffix_sign suffix)) _ _ _
      (run_factor around sides left part factor limits.0)
      (suffix_pushed around sides left part factor suffix limits.1)

  -- an atom
  run_atom : (around : Around) (sides : Option Alternatives) (left : Option Differences) (part : Option Sequence) (atom : Atom)
      → IsAtomWithin (depth_of around) atom
      → run (atom_tokens atom) (state_of (held around sides left part) None) ≡ Some (state_of (with_atom (held around sides left part) atom) None)
  run_atom around sides left part (bracket_atom own) limits =
      run_behind (SignToken OpenParen) (alternatives_tokens own ++ SignToken CloseParen ∷ []) _ _ _
      (open_pushed around sides left part limits.0)
      (run_then (alternatives_tokens own) (SignToken CloseParen) _ _ _
      (run_alternatives (within around sides left part) own limits.1)
      (close_behind around sides left part own))
  run_atom around sides left part atom limits = small_pushed around sides left part atom (λ own e. cc e)

-- the expression of alternatives is whole behind their tokens
whole_behind : (sides : Alternatives) → whole_of (state_of (held_alternatives outside sides) None) ≡ Some (alternatives_expr sides)
whole_behind (one_side (one_part part)) = whole_held None None part
whole_behind (one_side (less left part)) = whole_held None (Some left) part
whole_behind (or_else sides (one_part part)) = whole_held (Some sides) None part
whole_behind (or_else sides (less left part)) = whole_held (Some sides) (Some left) part

-- the tokens of an expression run to a state that is the expression
pub spelled_runs : (expr : Expr) (tokens : List FileToken) → SpellsExpr expr tokens
    → (state : ExpressionState) × (run tokens first_state ≡ Some state) × (whole_of state ≡ Some expr)
spelled_runs expr tokens is = (
  state_of (held_alternatives outside is.written) None,
  ap (λ ts. run ts first_state) is.whole ∙ run_alternatives outside is.written is.within,
  whole_behind is.written ∙ ap Some (sym is.is_expr),
)
