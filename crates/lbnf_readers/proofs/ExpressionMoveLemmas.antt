-- What is held behind each step of the reader of expressions, and that some tokens complete it.
use Rattle.std.proofs.Common.{◌≡◌, ℕ, suc, ◌<◌, List, [], ◌∷◌, ◌++◌, length, cond, codes, Bool, true, false, Option, Some, None, option_map, ◌⊎◌, ltb, inl, inr, refl, sym, ap, subst, ◌∙◌, append_assoc, arith}
use Rattle.std.specs.Str.{bytes_eq}
use Rattle.std.proofs.lemmas.Bool.{ltb-true}
use Rattle.std.proofs.lemmas.List.{append-nil}
use Rattle.std.proofs.lemmas.Option.{same_Some, none-some, cond_some}
use Rattle.std.proofs.lemmas.Slice.Eq.{bytes_eq-Decides}
use Rattle.spec_lexing.specs.declared.expression.Class.{Class}
use Rattle.spec_lexing.specs.declared.expression.Class.TheVariants.{Digit, Letter, Upper, Lower, AnyChar}
use Rattle.spec_lexing.specs.declared.expression.Expr.{Expr}
use Rattle.spec_lexing.specs.declared.expression.Expr.TheVariants.{Eps, Class as ClassExpr}
use Rattle.spec_lbnf.specs.declared.token.Sign.{Sign}
use Rattle.spec_lbnf.specs.declared.token.Sign.TheVariants.{OpenBracket, CloseBracket, OpenParen, CloseParen, OpenBrace, CloseBrace, Bar, Star, Plus, Question, Minus}
use Rattle.spec_lbnf.specs.declared.token.FileToken.{FileToken}
use Rattle.spec_lbnf.specs.declared.token.FileToken.TheVariants.{Identifier, Number, Text, Character}
use Rattle.spec_lbnf.specs.declared.token.FileToken.TheVariants.{Sign as SignToken}
use Rattle.spec_lbnf.specs.TokenExpressions.{Suffix, star_sign, plus_sign, question_sign, Alternatives, Differences, Sequence, one_factor, and_then, Factor, bare_atom, with_sign, Atom, character_atom, set_atom, text_atom, class_atom, empty_atom, bracket_atom, suffix_sign, word_of_class, alternatives_tokens, factor_tokens, atom_tokens, sequence_exprs, factor_expr, atom_expr, minus_count, sign_count, IsSequenceWithin, IsAtomWithin, AreAlternativesWithin}
use Rattle.spec_lbnf.proofs.BoundaryLemmas.{IsClosed, IsOpenFront, IsShort, closed_both, closed_front, lacks_without_names, one_closed, nothing_closed}
use Rattle.lbnf_readers.specs.declared.expression_state.OpenAtom.{OpenAtom}
use Rattle.lbnf_readers.specs.declared.expression_state.OpenAtom.TheVariants.{Bracket, Brace}
use Rattle.lbnf_readers.specs.declared.expression_state.OpenAtom.TheVariants.{AnyOf as OpenSet}
use Rattle.lbnf_readers.specs.declared.expression_state.OpenAtom.TheVariants.{Word as OpenWord}
use Rattle.lbnf_readers.specs.declared.expression_state.ExpressionState.{ExpressionState}
use Rattle.lbnf_readers.specs.ExpressionReading.{if_below, factor_step, word_atom, sign_step, plain_step, atom_step, step}
use Rattle.lbnf_readers.proofs.StateLemmas.{Around, outside, within, Held, held, depth_of, push_part, push_factor, alternatives_of, minus_of, state_of, with_atom, sides_tokens, left_tokens, part_tokens, level_tokens, around_tokens, held_tokens, open_tokens, IsWithin, IsAroundWithin, side_within, part_within, factor_within, part_pushed, factor_pushed, alternatives_level, factors_some, split_last-push, levels_of, levels_count, atom_pushed, bar_pushed, minus_pushed, open_pushed, suffix_pushed, close_pushed}

-- a step from what is held leads to what is held and this token, within the limits
pub record Moves (h : Held) (begun : Option OpenAtom) (token : FileToken) (state : ExpressionState) : Type 0 where
  pub next : Held
  pub next_open : Option OpenAtom
  pub is_state : state ≡ state_of next next_open
  pub limits : IsWithin next
  pub tokens : held_tokens next ++ open_tokens next_open ≡ (held_tokens h ++ open_tokens begun) ++ token ∷ []
  pub closed : IsClosed (held_tokens h) → IsClosed (held_tokens next)

-- the tokens of what is held with an atom more
atom_added : (h : Held) (atom : Atom) → held_tokens (with_atom h atom) ≡ held_tokens h ++ atom_tokens atom
atom_added (held around sides left part) atom =
    ap (λ ts. around_tokens around ++ (sides_tokens sides ++ (left_tokens left ++ ts))) (factor_pushed part (bare_atom atom))
    ∙ simp append_assoc

-- an atom more is within the limits
atom_within : (around : Around) (sides : Option Alternatives) (left : Option Differences) (part : Option Sequence) (atom : Atom)
    → IsWithin (held around sides left part) → IsAtomWithin (depth_of around) atom → IsWithin (with_atom (held around sides left part) atom)
atom_within around sides left part atom limits own =
    (limits.0, (limits.1.0, limits.1.1, factor_within (depth_of around) part (bare_atom atom) limits.1.2 own))

-- no bracket begins or ends an atom in brackets of its own, so that it is closed
set_closed : (name : List ℕ) → IsClosed (SignToken OpenBracket ∷ Text name ∷ SignToken CloseBracket ∷ [])
set_closed name = record {
  lacks = lacks_without_names (SignToken OpenBracket ∷ Text name ∷ SignToken CloseBracket ∷ []) refl;
  no_open = λ ends. by ends.0 ends.1;
  no_close = λ begins. cc begins.1;
}
  where
    by : (before : List FileToken) → SignToken OpenBracket ∷ Text name ∷ SignToken CloseBracket ∷ [] ≡ before ++ SignToken OpenBracket ∷ [] → ⊥
    by [] e = cc e
    by (a ∷ []) e = cc e
    by (a ∷ b ∷ []) e = cc e
    by (a ∷ b ∷ c ∷ []) e = cc e
    by (a ∷ b ∷ c ∷ d ∷ before) e = cc e

-- braces around a string are closed
text_closed : (name : List ℕ) → IsClosed (SignToken OpenBrace ∷ Text name ∷ SignToken CloseBrace ∷ [])
text_closed name =
    closed_both (SignToken OpenBrace ∷ []) (Text name ∷ SignToken CloseBrace ∷ [])
    (one_closed (SignToken OpenBrace) (λ e. cc e) (λ e. cc e) tt)
    (closed_both (Text name ∷ []) (SignToken CloseBrace ∷ [])
    (one_closed (Text name) (λ e. cc e) (λ e. cc e) tt)
    (one_closed (SignToken CloseBrace) (λ e. cc e) (λ e. cc e) tt))

-- an atom of one token
one_token_moves : (h : Held) (atom : Atom) (token : FileToken) (state : ExpressionState) → state ≡ factor_step (state_of h None) (atom_expr atom)
    → atom_tokens atom ≡ token ∷ [] → IsWithin (with_atom h atom) → IsClosed (token ∷ []) → Moves h None token state
one_token_moves h atom token state is one limits own = record {
  next = with_atom h atom;
  next_open = None;
  is_state = is ∙ atom_pushed h None atom;
  limits = limits;
  tokens = append-nil (held_tokens (with_atom h atom)) ∙ added ∙ ap (λ ts. ts ++ token ∷ []) (sym (append-nil (held_tokens h)));
  closed = λ closed. rw added (closed_both (held_tokens h) (token ∷ []) closed own);
}
  where
    added : held_tokens (with_atom h atom) ≡ held_tokens h ++ token ∷ []
    added = atom_added h atom ∙ ap (λ ts. held_tokens h ++ ts) one

-- the last token of an atom of three
last_token_moves : (h : Held) (begun : OpenAtom) (atom : Atom) (token : FileToken) (state : ExpressionState)
    → state ≡ factor_step (state_of h (Some begun)) (atom_expr atom) → atom_tokens atom ≡ open_tokens (Some begun) ++ token ∷ []
    → IsWithin (with_atom h atom) → IsClosed (atom_tokens atom) → Moves h (Some begun) token state
last_token_moves h begun atom token state is whole limits own = record {
  next = with_atom h atom;
  next_open = None;
  is_state = is ∙ atom_pushed h (Some begun) atom;
  limits = limits;
  tokens = append-nil (held_tokens (with_atom h atom)) ∙ atom_added h atom ∙ ap (λ ts. held_tokens h ++ ts) whole
      ∙ sym (append_assoc (held_tokens h) (open_tokens (Some begun)) (token ∷ []));
  closed = λ closed. rw (atom_added h atom) (closed_both (held_tokens h) (atom_tokens atom) closed own);
}

-- a token that begins an atom of three or goes on with it
open_moves : (h : Held) (begun : Option OpenAtom) (next : OpenAtom) (token : FileToken) (state : ExpressionState)
    → state ≡ state_of h (Some next) → open_tokens (Some next) ≡ open_tokens begun ++ token ∷ [] → IsWithin h → Moves h begun token state
open_moves h begun next token state is whole limits = record {
  next = h;
  next_open = Some next;
  is_state = is;
  limits = limits;
  tokens = ap (λ ts. held_tokens h ++ ts) whole ∙ sym (append_assoc (held_tokens h) (open_tokens begun) (token ∷ []));
  closed = λ closed. closed;
}

-- a sign that adds itself
sign_moves : (h next : Held) (sign : Sign) (state : ExpressionState) → state ≡ state_of next None → IsWithin next
    → held_tokens next ≡ held_tokens h ++ SignToken sign ∷ [] → (SignToken sign ≡ SignToken OpenBracket → ⊥)
    → (SignToken sign ≡ SignToken CloseBracket → ⊥) → Moves h None (SignToken sign) state
sign_moves h next sign state is limits added no_open no_close = record {
  next = next;
  next_open = None;
  is_state = is;
  limits = limits;
  tokens = append-nil (held_tokens next) ∙ added ∙ ap (λ ts. ts ++ SignToken sign ∷ []) (sym (append-nil (held_tokens h)));
  closed = λ closed. rw added (closed_both (held_tokens h) (SignToken sign ∷ []) closed (one_closed (SignToken sign) no_open no_close tt));
}

-- a name that is an atom is its word
abbrev IsWordAtom : List ℕ → Expr → Type 0
IsWordAtom name expr =
    (atom : Atom) × (expr ≡ atom_expr atom) × (atom_tokens atom ≡ Identifier name ∷ []) × ((opened : ℕ) → IsAtomWithin opened atom)

-- one of the words, or another
word_or_other : (name word : List ℕ) (x expr : Expr) (other : Option Expr) → cond (bytes_eq name word) (Some x) other ≡ Some expr
    → ((name ≡ word) × (expr ≡ x)) ⊎ (other ≡ Some expr)
word_or_other name word x expr other e = by (bytes_eq name word) refl e
  where
    by : (b : Bool) → bytes_eq name word ≡ b → cond b (Some x) other ≡ Some expr → ((name ≡ word) × (expr ≡ x)) ⊎ (other ≡ Some expr)
    by true is e = inl ((bytes_eq-Decides name word).0 is, sym (same_Some x expr e))
    by false is e = inr e

-- the word of a class is an atom
class_word_is : (name : List ℕ) (expr : Expr) (k : Class) → (name ≡ word_of_class k) × (expr ≡ ClassExpr k) → IsWordAtom name expr
class_word_is name expr k is = (class_atom k, is.1, ap (λ n. Identifier n ∷ []) (sym is.0), λ opened. tt)

-- a name that is read as an atom is its word
word_atom_is : (name : List ℕ) (expr : Expr) → word_atom name ≡ Some expr → IsWordAtom name expr
word_atom_is name expr e = elim (word_or_other name (word_of_class Digit) (ClassExpr Digit) expr _ e) [
  | inl is ↦ class_word_is name expr Digit is
  | inr e2 ↦ elim (word_or_other name (word_of_class Letter) (ClassExpr Letter) expr _ e2) [
    | inl is ↦ class_word_is name expr Letter is
    | inr e3 ↦ elim (word_or_other name (word_of_class Upper) (ClassExpr Upper) expr _ e3) [
      | inl is ↦ class_word_is name expr Upper is
      | inr e4 ↦ elim (word_or_other name (word_of_class Lower) (ClassExpr Lower) expr _ e4) [
        | inl is ↦ class_word_is name expr Lower is
        | inr e5 ↦ elim (word_or_other name (word_of_class AnyChar) (ClassExpr AnyChar) expr _ e5) [
          | inl is ↦ class_word_is name expr AnyChar is
          | inr e6 ↦ elim (word_or_other name (codes "eps") Eps expr None e6) [
            | inl is ↦ (empty_atom, is.1, ap (λ n. Identifier n ∷ []) (sym is.0), λ opened. tt)
            | inr none ↦ absurd (none-some expr none)
          ]
        ]
      ]
    ]
  ]
]

-- what is given below a limit alone is below it
below_mapped : {A B : Type 0} (f : A → B) (count limit : ℕ) (value : A) (y : B) → option_map f (if_below count limit value) ≡ Some y
    → count < limit
below_mapped f count limit value y e = by (ltb count limit) refl e
  where
    by : (b : Bool) → ltb count limit ≡ b → option_map f (cond b (Some value) None) ≡ Some y → count < limit
    by true is e = ltb-true count limit is
    by false is e = absurd (none-some y e)

below_of : {A : Type 0} (count limit : ℕ) (value y : A) → if_below count limit value ≡ Some y → count < limit
below_of count limit value y e = ltb-true count limit (cond_some (ltb count limit) value y e).0

-- a pushed part has as many minus signs as were counted
count_pushed : (left : Option Differences) (part : Sequence) → minus_count (push_part left part) ≡ minus_of left
count_pushed None part = refl
count_pushed (Some left) part = refl

-- a sign behind a factor is no bracket
suffix_not : (suffix : Suffix) → (SignToken (suffix_sign suffix) ≡ SignToken OpenBracket → ⊥) × (SignToken (suffix_sign suffix) ≡ SignToken CloseBracket → ⊥)
suffix_not star_sign = (λ e. cc e, λ e. cc e)
suffix_not plus_sign = (λ e. cc e, λ e. cc e)
suffix_not question_sign = (λ e. cc e, λ e. cc e)

-- a factor with a sign more is within the limits
signed_within : (opened : ℕ) (part : Option Sequence) (factor : Factor) (suffix : Suffix) → IsSequenceWithin opened (push_factor part factor)
    → sign_count factor < 8 → IsSequenceWithin opened (push_factor part (with_sign factor suffix))
signed_within opened None factor suffix limits few = (limits, few)
signed_within opened (Some part) factor suffix limits few = (limits.0, (limits.1, few))

module _ (around : Around) (sides : Option Alternatives) (left : Option Differences) where
  -- a sign behind a factor
  suffix_moves : (part : Option Sequence) (factor : Factor) (suffix : Suffix) (state : ExpressionState)
      → IsWithin (held around sides left (Some (push_factor part factor))) → sign_count factor < 8
      → step (state_of (held around sides left (Some (push_factor part factor))) None) (SignToken (suffix_sign suffix)) ≡ Some state
      → Moves (held around sides left (Some (push_factor part factor))) None (SignToken (suffix_sign suffix)) state
  suffix_moves part factor suffix state limits few e =
      let next : Sequence = push_factor part (with_sign factor suffix) in
      sign_moves (held around sides left (Some (push_factor part factor))) (held around sides left (Some next)) (suffix_sign suffix) state
      (same_Some _ _ (sym e ∙ suffix_pushed around sides left part factor suffix few))
      (limits.0, (limits.1.0, limits.1.1, signed_within (depth_of around) part factor suffix limits.1.2 few))
      added (suffix_not suffix).0 (suffix_not suffix).1
    where
      added : held_tokens (held around sides left (Some (push_factor part (with_sign factor suffix))))
          ≡ held_tokens (held around sides left (Some (push_factor part factor))) ++ SignToken (suffix_sign suffix) ∷ []
      added =
          let front : List FileToken → List FileToken = λ ts. around_tokens around ++ (sides_tokens sides ++ (left_tokens left ++ ts)) in
          let last : List FileToken = SignToken (suffix_sign suffix) ∷ [] in
          let moved : front (part_tokens part ++ (factor_tokens factor ++ last)) ≡ front (part_tokens part ++ factor_tokens factor) ++ last
          = simp append_assoc in
          ap front (factor_pushed part (with_sign factor suffix)) ∙ moved ∙ ap (λ ts. front ts ++ last) (sym (factor_pushed part factor))

  -- a sign behind what may have no factor
  any_suffix_moves : (part : Option Sequence) (suffix : Suffix) (state : ExpressionState) → IsWithin (held around sides left part)
      → step (state_of (held around sides left part) None) (SignToken (suffix_sign suffix)) ≡ Some state
      → Moves (held around sides left part) None (SignToken (suffix_sign suffix)) state
  unfolding step plain_step sign_step
  any_suffix_moves None star_sign state limits e = absurd (none-some state e)
  any_suffix_moves None plus_sign state limits e = absurd (none-some state e)
  any_suffix_moves None question_sign state limits e = absurd (none-some state e)
  any_suffix_moves (Some (one_factor factor)) star_sign state limits e =
      suffix_moves None factor star_sign state limits (below_mapped _ (sign_count factor) 8 _ state e) e
  any_suffix_moves (Some (one_factor factor)) plus_sign state limits e =
      suffix_moves None factor plus_sign state limits (below_mapped _ (sign_count factor) 8 _ state e) e
  any_suffix_moves (Some (one_factor factor)) question_sign state limits e =
      suffix_moves None factor question_sign state limits (below_mapped _ (sign_count factor) 8 _ state e) e
  any_suffix_moves (Some (and_then part factor)) star_sign state limits e =
      suffix_moves (Some part) factor star_sign state limits
      (below_mapped _ (sign_count factor) 8 _ state (rw (split_last-push (sequence_exprs part) (factor_expr factor)) at e)) e
  any_suffix_moves (Some (and_then part factor)) plus_sign state limits e =
      suffix_moves (Some part) factor plus_sign state limits
      (below_mapped _ (sign_count factor) 8 _ state (rw (split_last-push (sequence_exprs part) (factor_expr factor)) at e)) e
  any_suffix_moves (Some (and_then part factor)) question_sign state limits e =
      suffix_moves (Some part) factor question_sign state limits
      (below_mapped _ (sign_count factor) 8 _ state (rw (split_last-push (sequence_exprs part) (factor_expr factor)) at e)) e

  -- a bar
  bar_moves : (part : Option Sequence) (state : ExpressionState) → IsWithin (held around sides left part)
      → step (state_of (held around sides left part) None) (SignToken Bar) ≡ Some state
      → Moves (held around sides left part) None (SignToken Bar) state
  unfolding step plain_step sign_step
  bar_moves None state limits e = absurd (none-some state e)
  bar_moves (Some part) state limits e =
      let own : Alternatives = alternatives_of sides left part in
      sign_moves (held around sides left (Some part)) (held around (Some own) None None) Bar state
      (same_Some _ _ (sym e ∙ bar_pushed around sides left part)) (
        limits.0,
        (
          side_within (depth_of around) sides (push_part left part) limits.1.0
              (part_within (depth_of around) left part limits.1.1 limits.1.2),
          tt,
          tt,
        ),
      )
      (ap (λ ts. around_tokens around ++ ((ts ++ SignToken Bar ∷ []) ++ [])) (alternatives_level sides left part) ∙ simp (append-nil, append_assoc))
      (λ e. cc e) (λ e. cc e)

  -- a minus sign
  minus_moves : (part : Option Sequence) (state : ExpressionState) → IsWithin (held around sides left part)
      → step (state_of (held around sides left part) None) (SignToken Minus) ≡ Some state
      → Moves (held around sides left part) None (SignToken Minus) state
  unfolding step plain_step sign_step
  minus_moves None state limits e = absurd (none-some state e)
  minus_moves (Some part) state limits e =
      let few : minus_of left < 8 = below_mapped _ (minus_of left) 8 _ state (rw (factors_some part) at e) in
      let next : Differences = push_part left part in
      sign_moves (held around sides left (Some part)) (held around sides (Some next) None) Minus state
      (same_Some _ _ (sym e ∙ minus_pushed around sides left part few))
      (limits.0, (limits.1.0, (part_within (depth_of around) left part limits.1.1 limits.1.2, omega (arith, count_pushed left part, few)), tt))
      (ap (λ ts. around_tokens around ++ (sides_tokens sides ++ ((ts ++ SignToken Minus ∷ []) ++ []))) (part_pushed left part)
      ∙ simp (append-nil, append_assoc))
      (λ e. cc e) (λ e. cc e)

  -- an open bracket
  paren_moves : (part : Option Sequence) (state : ExpressionState) → IsWithin (held around sides left part)
      → step (state_of (held around sides left part) None) (SignToken OpenParen) ≡ Some state
      → Moves (held around sides left part) None (SignToken OpenParen) state
  unfolding step plain_step sign_step
  paren_moves part state limits e =
      let few : depth_of around < 64 = omega (arith, levels_count around, below_of (length (levels_of around)) 64 _ state e) in
      sign_moves (held around sides left part) (held (within around sides left part) None None None) OpenParen state
      (same_Some _ _ (sym e ∙ open_pushed around sides left part few))
      ((limits.0, few, limits.1), (tt, tt, tt))
      (simp (append-nil, append_assoc))
      (λ e. cc e) (λ e. cc e)

-- a close bracket
close_moves : (around : Around) (sides : Option Alternatives) (left : Option Differences) (part : Option Sequence) (state : ExpressionState)
    → IsWithin (held around sides left part) → step (state_of (held around sides left part) None) (SignToken CloseParen) ≡ Some state
    → Moves (held around sides left part) None (SignToken CloseParen) state
unfolding step plain_step sign_step
close_moves around own own_left None state limits e = absurd (none-some state e)
close_moves outside own own_left (Some own_part) state limits e =
    absurd (none-some state (rw (factors_some own_part) at e))
close_moves (within around sides left part) own own_left (Some own_part) state limits e =
    let inner : Alternatives = alternatives_of own own_left own_part in
    let depth : ℕ = suc (depth_of around) in
    let inner_within : AreAlternativesWithin depth inner
    = side_within depth own (push_part own_left own_part) limits.1.0 (part_within depth own_left own_part limits.1.1 limits.1.2) in
    sign_moves (held (within around sides left part) own own_left (Some own_part)) (with_atom (held around sides left part) (bracket_atom inner))
    CloseParen state
    (same_Some _ _ (sym e ∙ close_pushed around sides left part own own_left own_part))
    (atom_within around sides left part (bracket_atom inner) (limits.0.0, limits.0.2) (limits.0.1, inner_within))
    (atom_added (held around sides left part) (bracket_atom inner)
    ∙ ap (λ ts. (around_tokens around ++ level_tokens sides left part) ++ (SignToken OpenParen ∷ ts ++ SignToken CloseParen ∷ []))
    (alternatives_level own own_left own_part)
    ∙ simp append_assoc)
    (λ e. cc e) (λ e. cc e)

-- a sign where no atom is open
sign_step_moves : (around : Around) (sides : Option Alternatives) (left : Option Differences) (part : Option Sequence) (sign : Sign)
    (state : ExpressionState) → IsWithin (held around sides left part)
    → step (state_of (held around sides left part) None) (SignToken sign) ≡ Some state
    → Moves (held around sides left part) None (SignToken sign) state
unfolding step plain_step sign_step
sign_step_moves around sides left part OpenBracket state limits e =
    open_moves (held around sides left part) None Bracket (SignToken OpenBracket) state (sym (same_Some _ _ e)) refl limits
sign_step_moves around sides left part OpenBrace state limits e =
    open_moves (held around sides left part) None Brace (SignToken OpenBrace) state (sym (same_Some _ _ e)) refl limits
sign_step_moves around sides left part OpenParen state limits e = paren_moves around sides left part state limits e
sign_step_moves around sides left part CloseParen state limits e = close_moves around sides left part state limits e
sign_step_moves around sides left part Bar state limits e = bar_moves around sides left part state limits e
sign_step_moves around sides left part Minus state limits e = minus_moves around sides left part state limits e
sign_step_moves around sides left part Star state limits e = any_suffix_moves around sides left part star_sign state limits e
sign_step_moves around sides left part Plus state limits e = any_suffix_moves around sides left part plus_sign state limits e
sign_step_moves around sides left part Question state limits e = any_suffix_moves around sides left part question_sign state limits e
sign_step_moves around sides left part other state limits e = absurd (none-some state e)

-- a token where no atom is open
plain_moves : (around : Around) (sides : Option Alternatives) (left : Option Differences) (part : Option Sequence) (token : FileToken)
    (state : ExpressionState) → IsWithin (held around sides left part) → IsShort token
    → step (state_of (held around sides left part) None) token ≡ Some state
    → Moves (held around sides left part) None token state
unfolding step plain_step
plain_moves around sides left part (Identifier name) state limits short e = by (word_atom name) refl e
  where
    h : Held
    h = held around sides left part

    by : (x : Option Expr) → word_atom name ≡ x → option_map (factor_step (state_of h None)) x ≡ Some state → Moves h None (Identifier name) state
    by None is e = absurd (none-some state e)
    by (Some expr) is e =
        let atom = word_atom_is name expr is in
        one_token_moves h atom.0 (Identifier name) state (sym (same_Some _ _ e) ∙ ap (factor_step (state_of h None)) atom.1) atom.2
        (atom_within around sides left part atom.0 limits (atom.3 (depth_of around)))
        (one_closed (Identifier name) (λ e. cc e) (λ e. cc e) short)
plain_moves around sides left part (Number value) state limits short e = absurd (none-some state e)
plain_moves around sides left part (Text value) state limits short e = absurd (none-some state e)
plain_moves around sides left part (Character scalar) state limits short e =
    one_token_moves (held around sides left part) (character_atom scalar) (Character scalar) state (sym (same_Some _ _ e)) refl
    (atom_within around sides left part (character_atom scalar) limits tt)
    (one_closed (Character scalar) (λ e. cc e) (λ e. cc e) tt)
plain_moves around sides left part (SignToken sign) state limits short e = sign_step_moves around sides left part sign state limits e

-- a token within an open atom
atom_moves : (around : Around) (sides : Option Alternatives) (left : Option Differences) (part : Option Sequence) (begun : OpenAtom)
    (token : FileToken) (state : ExpressionState) → IsWithin (held around sides left part)
    → step (state_of (held around sides left part) (Some begun)) token ≡ Some state
    → Moves (held around sides left part) (Some begun) token state
unfolding step atom_step
atom_moves around sides left part Bracket (Text name) state limits e =
    open_moves (held around sides left part) (Some Bracket) (OpenSet name) (Text name) state (sym (same_Some _ _ e)) refl limits
atom_moves around sides left part (OpenSet name) (SignToken CloseBracket) state limits e =
    last_token_moves (held around sides left part) (OpenSet name) (set_atom name) (SignToken CloseBracket) state (sym (same_Some _ _ e)) refl
    (atom_within around sides left part (set_atom name) limits tt) (set_closed name)
atom_moves around sides left part Brace (Text name) state limits e =
    open_moves (held around sides left part) (Some Brace) (OpenWord name) (Text name) state (sym (same_Some _ _ e)) refl limits
atom_moves around sides left part (OpenWord name) (SignToken CloseBrace) state limits e =
    last_token_moves (held around sides left part) (OpenWord name) (text_atom name) (SignToken CloseBrace) state (sym (same_Some _ _ e)) refl
    (atom_within around sides left part (text_atom name) limits tt) (text_closed name)
atom_moves around sides left part begun token state limits e = absurd (none-some state e)

-- each step from what is held within the limits moves
pub moves : (h : Held) (begun : Option OpenAtom) (token : FileToken) (state : ExpressionState) → IsWithin h → IsShort token
    → step (state_of h begun) token ≡ Some state → Moves h begun token state
moves (held around sides left part) None token state limits short e = plain_moves around sides left part token state limits short e
moves (held around sides left part) (Some begun) token state limits short e = atom_moves around sides left part begun token state limits e

-- with more tokens the front is that of alternatives within the limits
abbrev pub Completes : List FileToken → Type 0
Completes front =
    (more : List FileToken) × (written : Alternatives) × AreAlternativesWithin 0 written × (alternatives_tokens written ≡ front ++ more)

-- a front of what can be completed can be
completes_front : (front more : List FileToken) → Completes (front ++ more) → Completes front
completes_front front more is = (more ++ is.0, is.1, is.2, is.3 ∙ append_assoc front more is.0)

-- alternatives are completed by a close bracket for each level around
complete_levels : (around : Around) (own : Alternatives) → IsAroundWithin around → AreAlternativesWithin (depth_of around) own
    → Completes (around_tokens around ++ alternatives_tokens own)
complete_levels outside own limits is = ([], own, is, sym (append-nil (alternatives_tokens own)))
complete_levels (within around sides left part) own limits is =
    let depth : ℕ = depth_of around in
    let atom : Factor = bare_atom (bracket_atom own) in
    let inner : Sequence = push_factor part atom in
    let next : Alternatives = alternatives_of sides left inner in
    let next_within : AreAlternativesWithin depth next
    = side_within depth sides (push_part left inner) limits.2.0
    (part_within depth left inner limits.2.1 (factor_within depth part atom limits.2.2 (limits.1, is))) in
    let others = complete_levels around next limits.0 next_within in
    let tokens : (around_tokens around ++ alternatives_tokens next) ++ others.0
    ≡ (around_tokens (within around sides left part) ++ alternatives_tokens own) ++ (SignToken CloseParen ∷ others.0)
    = ap (λ ts. (around_tokens around ++ ts) ++ others.0)
    (alternatives_level sides left inner ∙ ap (λ ts. sides_tokens sides ++ (left_tokens left ++ ts)) (factor_pushed part atom))
    ∙ simp append_assoc in
    (SignToken CloseParen ∷ others.0, others.1, others.2, others.3 ∙ tokens)

-- what is held is completed, behind an operand if one is due
complete_part : (around : Around) (sides : Option Alternatives) (left : Option Differences) (part : Sequence)
    → IsWithin (held around sides left (Some part)) → Completes (held_tokens (held around sides left (Some part)))
complete_part around sides left part limits =
    subst Completes (ap (λ ts. around_tokens around ++ ts) (alternatives_level sides left part))
    (complete_levels around (alternatives_of sides left part) limits.0
    (side_within (depth_of around) sides (push_part left part) limits.1.0 (part_within (depth_of around) left part limits.1.1 limits.1.2)))

complete_held : (h : Held) → IsWithin h → Completes (held_tokens h)
complete_held (held around sides left (Some part)) limits = complete_part around sides left part limits
complete_held (held around sides left None) limits =
    completes_front (held_tokens (held around sides left None)) (atom_tokens empty_atom)
    (subst Completes (atom_added (held around sides left None) empty_atom)
    (complete_part around sides left (one_factor (bare_atom empty_atom)) (limits.0, (limits.1.0, limits.1.1, tt))))

-- an atom that is open is completed
complete_atom : (around : Around) (sides : Option Alternatives) (left : Option Differences) (part : Option Sequence) (begun : OpenAtom)
    (atom : Atom) (rest : List FileToken) → IsWithin (held around sides left part) → IsAtomWithin (depth_of around) atom
    → atom_tokens atom ≡ open_tokens (Some begun) ++ rest
    → Completes (held_tokens (held around sides left part) ++ open_tokens (Some begun))
complete_atom around sides left part begun atom rest limits own whole =
    let h : Held = held around sides left part in
    let tokens : held_tokens (with_atom h atom) ≡ (held_tokens h ++ open_tokens (Some begun)) ++ rest
    = atom_added h atom ∙ ap (λ ts. held_tokens h ++ ts) whole ∙ sym (append_assoc (held_tokens h) (open_tokens (Some begun)) rest) in
    completes_front (held_tokens h ++ open_tokens (Some begun)) rest
    (subst Completes tokens (complete_held (with_atom h atom) (atom_within around sides left part atom limits own)))

-- what a state holds can be completed
pub completes : (h : Held) (begun : Option OpenAtom) → IsWithin h → Completes (held_tokens h ++ open_tokens begun)
completes h None limits = subst Completes (sym (append-nil (held_tokens h))) (complete_held h limits)
completes (held around sides left part) (Some Bracket) limits =
    complete_atom around sides left part Bracket (set_atom []) (Text [] ∷ SignToken CloseBracket ∷ []) limits tt refl
completes (held around sides left part) (Some (OpenSet name)) limits =
    complete_atom around sides left part (OpenSet name) (set_atom name) (SignToken CloseBracket ∷ []) limits tt refl
completes (held around sides left part) (Some Brace) limits =
    complete_atom around sides left part Brace (text_atom []) (Text [] ∷ SignToken CloseBrace ∷ []) limits tt refl
completes (held around sides left part) (Some (OpenWord name)) limits =
    complete_atom around sides left part (OpenWord name) (text_atom name) (SignToken CloseBrace ∷ []) limits tt refl

-- the tokens of an open atom are a front
pub open_front : (begun : Option OpenAtom) → IsOpenFront (open_tokens begun)
open_front None = closed_front [] nothing_closed
open_front (Some Bracket) = record { lacks = lacks_without_names (SignToken OpenBracket ∷ []) refl; no_close = λ begins. cc begins.1 }
open_front (Some (OpenSet name)) = record { lacks = lacks_without_names (SignToken OpenBracket ∷ Text name ∷ []) refl; no_close = λ begins. cc begins.1 }
open_front (Some Brace) = record { lacks = lacks_without_names (SignToken OpenBrace ∷ []) refl; no_close = λ begins. cc begins.1 }
open_front (Some (OpenWord name)) = record { lacks = lacks_without_names (SignToken OpenBrace ∷ Text name ∷ []) refl; no_close = λ begins. cc begins.1 }
