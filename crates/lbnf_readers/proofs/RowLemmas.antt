-- The fault that is told of a token is that of its row in the table of faults.
use Rattle.std.proofs.Common.{◌≡◌, ℕ, ◌<◌, List, [], ◌∷◌, ◌++◌, length, Bool, true, false, cond, codes, ◌⊎◌, inl, inr, refl, sym, ap, subst, ◌∙◌}
use Rattle.std.specs.Str.{bytes_eq}
use Rattle.std.proofs.lemmas.Slice.Eq.{bytes_eq-Decides}
use Rattle.spec_lbnf.specs.declared.definition.Def.{Def}
use Rattle.spec_lbnf.specs.declared.fault.TextFault.{TextFault}
use Rattle.spec_lbnf.specs.declared.fault.TextFault.TheVariants.{Syntax, Unsupported}
use Rattle.spec_lbnf.specs.declared.token.Sign.TheVariants.{OpenParen}
use Rattle.spec_lbnf.specs.declared.token.FileToken.{FileToken}
use Rattle.spec_lbnf.specs.declared.token.FileToken.TheVariants.{Identifier}
use Rattle.spec_lbnf.specs.declared.token.FileToken.TheVariants.{Sign as SignToken}
use Rattle.spec_lbnf.specs.declared.token.PlacedToken.{PlacedToken}
use Rattle.spec_lbnf.specs.GrammarFile.{starts_upper}
use Rattle.spec_lbnf.specs.GrammarFile.{SpellsDefs, keyword}
use Rattle.spec_lbnf.specs.Faults.{bare, CanGoOn, LacksLong, last_piece, IsLeftOut, first_word, lower_label, label_bracket, LeavesOut, IsFirstLong, StopsAt, FaultAt, long_category, left_out, misplaced, no_token, early_end}
use Rattle.lbnf_readers.specs.FileFaults.{piece_fault, token_fault}

-- a token is left out with the fault that is told of it, or that is a fault of syntax
abbrev IsTold : List FileToken → FileToken → ℕ → TextFault → Type 0
IsTold piece token at fault = IsLeftOut piece token at fault ⊎ (fault ≡ Syntax at)

-- what is told of a token
told : (piece : List FileToken) (token : FileToken) (at : ℕ) → IsTold piece token at (piece_fault piece token at)
told [] (Identifier word) at = by (starts_upper word) refl
  where
    by : (b : Bool) → starts_upper word ≡ b → IsTold [] (Identifier word) at (cond b (Syntax at) (Unsupported word at))
    by true upper = inr refl
    by false lower = inl (first_word word refl refl lower refl)
told (Identifier first ∷ []) (Identifier word) at = by (bytes_eq first (codes "internal")) (starts_upper word) refl refl
  where
    by : (a b : Bool) → bytes_eq first (codes "internal") ≡ a → starts_upper word ≡ b
        → IsTold (Identifier first ∷ []) (Identifier word) at (cond a (cond b (Syntax at) (Unsupported word at)) (Syntax at))
    by false b other is = inr refl
    by true true internal upper = inr refl
    by true false internal lower =
        let first_is : first ≡ codes "internal" = (bytes_eq-Decides first (codes "internal")).0 internal in
        inl (lower_label word (ap (λ (name : List ℕ). Identifier name ∷ []) first_is) refl lower refl)
told (Identifier first ∷ []) (SignToken OpenParen) at = by (starts_upper first) refl
  where
    by : (b : Bool) → starts_upper first ≡ b
        → IsTold (Identifier first ∷ []) (SignToken OpenParen) at (cond b (Unsupported (codes "(") at) (Syntax at))
    by true upper = inl (label_bracket (first, inl (upper, refl)) refl refl)
    by false lower = inr refl
told (Identifier first ∷ Identifier label ∷ []) (SignToken OpenParen) at = by (bytes_eq first (codes "internal")) refl
  where
    by : (b : Bool) → bytes_eq first (codes "internal") ≡ b
        → IsTold (Identifier first ∷ Identifier label ∷ []) (SignToken OpenParen) at (cond b (Unsupported (codes "(") at) (Syntax at))
    by true internal =
        let first_is : first ≡ codes "internal" = (bytes_eq-Decides first (codes "internal")).0 internal in
        inl (label_bracket (label, inr (ap (λ (name : List ℕ). Identifier name ∷ Identifier label ∷ []) first_is)) refl refl)
    by false other = inr refl
told piece token at = inr refl

-- a token that is left out is so with the fault that is told of it
left_out_is : (piece : List FileToken) (token : FileToken) (at : ℕ) (fault : TextFault)
    → IsLeftOut piece token at fault → fault ≡ piece_fault piece token at
left_out_is piece token at fault (first_word word none is lower tells) =
    tells ∙ sym (ap (λ p. piece_fault p token at) none ∙ ap (λ t. piece_fault [] t at) is ∙ rw lower refl)
left_out_is piece token at fault (lower_label word behind is lower tells) =
    tells ∙ sym (ap (λ p. piece_fault p token at) behind ∙ ap (λ t. piece_fault (keyword (codes "internal") ∷ []) t at) is ∙ rw lower refl)
left_out_is piece token at fault (label_bracket (label, inl (upper, behind)) is tells) =
    tells ∙ sym (ap (λ p. piece_fault p token at) behind ∙ ap (λ t. piece_fault (Identifier label ∷ []) t at) is ∙ rw upper refl)
left_out_is piece token at fault (label_bracket (label, inr behind) is tells) =
    tells ∙ sym (ap (λ p. piece_fault p token at) behind ∙ ap (λ t. piece_fault (keyword (codes "internal") ∷ Identifier label ∷ []) t at) is)

-- what is left out is no fault of syntax
left_out_no_syntax : (piece : List FileToken) (token : FileToken) (at place : ℕ) → IsLeftOut piece token at (Syntax place) → ⊥
left_out_no_syntax piece token at place (first_word word none is lower tells) = cc tells
left_out_no_syntax piece token at place (lower_label word behind is lower tells) = cc tells
left_out_no_syntax piece token at place (label_bracket named is tells) = cc tells

-- what keeps the file from going on behind a front of its tokens, as the readers tell it
pub data StopsBehind (bytes : List ℕ) (tokens : List PlacedToken) (stop : ℕ)
    (front : List PlacedToken) (fault : TextFault) : Type 0 where
  -- a token cannot go on
  at_token : (token : PlacedToken) (behind : List PlacedToken) →
      tokens ≡ front ++ token ∷ behind →
      (CanGoOn (bare front ++ token.token ∷ []) → ⊥) →
      fault ≡ token_fault (bare front) token.token token.offset →
      StopsBehind bytes tokens stop front fault
  -- the tokens end before the file, at bytes that begin no token
  at_bytes : tokens ≡ front → stop < length bytes → fault ≡ Syntax stop →
      StopsBehind bytes tokens stop front fault
  -- the file ends within a definition
  at_end : tokens ≡ front → stop ≡ length bytes → fault ≡ Syntax stop →
      ((defs : List Def) → SpellsDefs defs (bare tokens) → ⊥) →
      StopsBehind bytes tokens stop front fault

-- the front of the tokens can go on, and there is a fault in it or behind it: its first category
-- that is too long, or else what comes next, which cannot go on
pub data FaultsAt (bytes : List ℕ) (tokens : List PlacedToken) (stop : ℕ)
    (front : List PlacedToken) (fault : TextFault) : Type 0 where
  -- a category is too long
  at_long : (offset : ℕ) → IsFirstLong front offset → fault ≡ Syntax offset →
      FaultsAt bytes tokens stop front fault
  -- what comes next cannot go on
  behind : LacksLong (bare front) →
      StopsBehind bytes tokens stop front fault → FaultsAt bytes tokens stop front fault

module _ (bytes : List ℕ) (tokens : List PlacedToken) (stop : ℕ) (front : List PlacedToken) (fault : TextFault) where
  -- what is told of a token that cannot stand is the fault at the front
  token_row : (token : PlacedToken) → StopsAt tokens front token → fault ≡ token_fault (bare front) token.token token.offset
      → FaultAt bytes tokens stop front fault
  token_row token stops is = by (told piece token.token token.offset)
    where
      piece : List FileToken
      piece = last_piece (bare front)

      by : IsTold piece token.token token.offset (token_fault (bare front) token.token token.offset) → FaultAt bytes tokens stop front fault
      by (inl left) = left_out token stops (subst (IsLeftOut piece token.token token.offset) (sym is) left)
      by (inr syntax) = misplaced token stops
          (λ other left. left_out_no_syntax piece token.token token.offset token.offset
          (subst (IsLeftOut piece token.token token.offset) (left_out_is piece token.token token.offset other left ∙ syntax) left))
          (is ∙ syntax)

  -- a token that is misplaced has the fault that is told of it
  misplaced_is : (token : PlacedToken) → ((other : TextFault) → LeavesOut front token other → ⊥) → fault ≡ Syntax token.offset
      → fault ≡ token_fault (bare front) token.token token.offset
  misplaced_is token none is = by (told (last_piece (bare front)) token.token token.offset)
    where
      by : IsTold (last_piece (bare front)) token.token token.offset (token_fault (bare front) token.token token.offset)
          → fault ≡ token_fault (bare front) token.token token.offset
      by (inl left) = absurd (none (token_fault (bare front) token.token token.offset) left)
      by (inr syntax) = is ∙ sym syntax

  -- what the readers tell is a row of the table
  pub row_of : FaultsAt bytes tokens stop front fault → FaultAt bytes tokens stop front fault
  row_of (at_long offset first is) = long_category offset first is
  row_of (behind lacks (at_token token others split stuck is)) =
      token_row token (record { behind = others; split = split; short = lacks; stuck = stuck }) is
  row_of (behind lacks (at_bytes whole early is)) = no_token (record { whole = whole; short = lacks }) early is
  row_of (behind lacks (at_end whole end is none)) = early_end (record { whole = whole; short = lacks }) end none is

  -- and each row is told
  pub told_of : FaultAt bytes tokens stop front fault → FaultsAt bytes tokens stop front fault
  told_of (long_category offset first is) = at_long offset first is
  told_of (left_out token stops left) =
      behind stops.short (at_token token stops.behind stops.split stops.stuck
      (left_out_is (last_piece (bare front)) token.token token.offset fault left))
  told_of (misplaced token stops none is) =
      behind stops.short (at_token token stops.behind stops.split stops.stuck (misplaced_is token none is))
  told_of (no_token ends early is) = behind ends.short (at_bytes ends.whole early is)
  told_of (early_end ends end none is) = behind ends.short (at_end ends.whole end is none)
