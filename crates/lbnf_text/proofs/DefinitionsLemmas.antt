-- Reading the definitions of a file one after another.
use Rattle.std.proofs.Common.{◌≡◌, ℕ, zero, suc, ◌+◌, ◌<◌, ◌≤◌, List, [], ◌∷◌, ◌++◌, length, get_or, take, drop, Bool, true, false, Result, Ok, Err, refl, sym, ap, ◌∙◌, arith, append_assoc, append-nil, length-append, length-drop, ◌⊎◌, inl, inr}
use Rattle.std.proofs.lemmas.Bool.{cases_Bool}
use Rattle.std.proofs.lemmas.List.Sums.{position_or_len_is}
use Rattle.std.specs.List.{position_or_len}
use Rattle.spec_lbnf.specs.declared.definition.Def.{Def}
use Rattle.spec_lbnf.specs.declared.token.PlacedToken.{PlacedToken}
use Rattle.spec_lbnf.specs.GrammarFile.{is_semicolon}
use Rattle.spec_lbnf.specs.declared.fault.TextFault.{TextFault}
use Rattle.spec_lbnf.specs.declared.fault.TextFault.TheVariants.{Memory}
use Rattle.lbnf_readers.specs.FileDefinitions.{piece_at, behind_piece, offset_of, piece_def, and_defs, defs_at, defs_of}

-- the token ends a piece
abbrev pub ends_piece : PlacedToken → Bool
ends_piece token = is_semicolon token.token

-- a piece has the tokens up to the first semicolon
pub piece_size : (tokens : List PlacedToken) → position_or_len ends_piece tokens ≡ length (piece_at tokens)
piece_size [] = refl
piece_size (token ∷ rest) = elim (cases_Bool (is_semicolon token.token)) [
  | inl ends ↦ rw ends refl
  | inr more ↦ let one : 1 + length (piece_at rest) ≡ suc (length (piece_at rest)) = omega arith in rw (more, piece_size rest, one) refl
]

-- so many tokens are the piece
pub piece_front : (tokens : List PlacedToken) → take (length (piece_at tokens)) tokens ≡ piece_at tokens
piece_front [] = refl
piece_front (token ∷ rest) = elim (cases_Bool (is_semicolon token.token)) [
  | inl ends ↦ rw ends refl
  | inr more ↦ rw more (ap (λ (ts : List PlacedToken). token ∷ ts) (piece_front rest))
]

-- behind it are the tokens from the first semicolon on
pub piece_behind : (tokens : List PlacedToken) → drop (length (piece_at tokens)) tokens ≡ behind_piece tokens
piece_behind [] = refl
piece_behind (token ∷ rest) = elim (cases_Bool (is_semicolon token.token)) [
  | inl ends ↦ rw ends refl
  | inr more ↦ rw more (piece_behind rest)
]

-- what is behind a piece is no longer than the tokens
pub behind_shorter : (tokens : List PlacedToken) → length (behind_piece tokens) ≤ length tokens
behind_shorter tokens = rw (← piece_behind tokens) (omega (arith, length-drop (length (piece_at tokens)) tokens))

-- what the definitions so far and those of the rest are together
abbrev pub with_defs : List Def → Result (List Def) TextFault → Result (List Def) TextFault
with_defs defs (Ok others) = Ok (defs ++ others)
with_defs defs (Err fault) = Err fault

-- the tokens are these definitions, and then those that the rest is
pub record AreReadDefs (tokens : List PlacedToken) (stop : ℕ) (defs : List Def) (rest : List PlacedToken) : Type 0 where
  pub turns : ℕ
  pub enough : length rest ≤ turns
  pub whole : defs_of tokens stop ≡ with_defs defs (defs_at turns rest stop)

-- at first none is read
pub none_read : (tokens : List PlacedToken) (stop : ℕ) → AreReadDefs tokens stop [] tokens
none_read tokens stop = record { turns = length tokens; enough = omega arith; whole = same (defs_of tokens stop) }
  where
    same : (read : Result (List Def) TextFault) → read ≡ with_defs [] read
    same (Ok defs) = refl
    same (Err fault) = refl

-- where nothing is left, the definitions are all
pub all_read : (tokens : List PlacedToken) (stop : ℕ) (defs : List Def) (rest : List PlacedToken) → AreReadDefs tokens stop defs rest → rest ≡ [] → defs_of tokens stop ≡ Ok defs
unfolding defs_at
all_read tokens stop defs [] read none = read.whole ∙ ap (λ all. Ok all) (append-nil defs)
all_read tokens stop defs (token ∷ rest) read none = absurd (cc)

-- a semicolon is passed over
pub skip_semicolon : (tokens : List PlacedToken) (stop : ℕ) (defs : List Def) (first : PlacedToken) (behind : List PlacedToken)
    → AreReadDefs tokens stop defs (first ∷ behind) → is_semicolon first.token ≡ true → AreReadDefs tokens stop defs behind
unfolding defs_at
skip_semicolon tokens stop defs first behind read ends = by read.turns read.enough read.whole
  where
    by : (turns : ℕ) → length (first ∷ behind) ≤ turns
        → defs_of tokens stop ≡ with_defs defs (defs_at turns (first ∷ behind) stop) → AreReadDefs tokens stop defs behind
    by zero enough whole = absurd (omega arith)
    by (suc less) enough whole = record {
      turns = less;
      enough = omega arith;
      whole = whole ∙ rw ends refl;
    }

-- what the piece that comes next gives, and what is behind it
abbrev pub NextDefs : (tokens : List PlacedToken) (stop : ℕ) (defs : List Def) (size : ℕ) (piece after : List PlacedToken) → Type 0
NextDefs tokens stop defs size piece after =
    (less : ℕ) × (size ≤ suc less)
    × (defs_of tokens stop ≡ with_defs defs (and_defs (piece_def piece (offset_of after stop)) (defs_at less after stop)))

-- a piece that is not empty is read next
next_piece : (tokens : List PlacedToken) (stop : ℕ) (defs : List Def) (first : PlacedToken) (behind : List PlacedToken)
    → AreReadDefs tokens stop defs (first ∷ behind) → is_semicolon first.token ≡ false
    → NextDefs tokens stop defs (length (first ∷ behind)) (piece_at (first ∷ behind)) (behind_piece (first ∷ behind))
unfolding defs_at
next_piece tokens stop defs first behind read more = by read.turns read.enough read.whole
  where
    by : (turns : ℕ) → length (first ∷ behind) ≤ turns
        → defs_of tokens stop ≡ with_defs defs (defs_at turns (first ∷ behind) stop)
        → NextDefs tokens stop defs (length (first ∷ behind)) (piece_at (first ∷ behind)) (behind_piece (first ∷ behind))
    by zero enough whole = absurd (omega arith)
    by (suc less) enough whole = (less, enough, whole ∙ rw more refl)

-- a definition, and then others
def_in_front : (defs : List Def) (def : Def) (others : Result (List Def) TextFault)
    → with_defs defs (and_defs (Ok def) others) ≡ with_defs (defs ++ def ∷ []) others
def_in_front defs def (Ok others) = ap (λ (all : List Def). Ok all) (sym (append_assoc defs (def ∷ []) others))
def_in_front defs def (Err fault) = refl

module _ (tokens : List PlacedToken) (stop : ℕ) (defs : List Def) (first : PlacedToken) (behind piece after : List PlacedToken)
    (read : AreReadDefs tokens stop defs (first ∷ behind)) (more : is_semicolon first.token ≡ false)
    (is_piece : piece ≡ piece_at (first ∷ behind)) (is_after : after ≡ behind_piece (first ∷ behind)) where
  -- what is behind the piece is shorter
  pub shorter : length after ≤ length behind
  shorter = rw (is_after, more) (behind_shorter behind)

  -- the piece is read next
  next_defs : NextDefs tokens stop defs (length (first ∷ behind)) piece after
  next_defs = rw (is_piece, is_after) (next_piece tokens stop defs first behind read more)

  -- where the piece has a fault, it is the first
  pub no_defs : (fault : TextFault) → piece_def piece (offset_of after stop) ≡ Err fault → defs_of tokens stop ≡ Err fault
  no_defs fault none = next_defs.2 ∙ rw none refl

  -- the definition of the piece is read
  pub more_defs : (def : Def) → piece_def piece (offset_of after stop) ≡ Ok def → AreReadDefs tokens stop (defs ++ def ∷ []) after
  more_defs def some =
      let next = next_defs in
      record {
        turns = next.0;
        enough = omega (arith, next.1, shorter);
        whole = next.2 ∙ rw some (def_in_front defs def (defs_at next.0 after stop));
      }

-- a fault that is told of a part is told of the whole, if it is the fault of both
pub still_fault : {A B : Type 0} (answer : TextFault) (part : Result A TextFault) (whole : Result B TextFault)
    → (answer ≡ Memory) ⊎ (part ≡ Err answer) → ((fault : TextFault) → part ≡ Err fault → whole ≡ Err fault)
    → (answer ≡ Memory) ⊎ (whole ≡ Err answer)
still_fault answer part whole (inl memory) gives = inl memory
still_fault answer part whole (inr told) gives = inr (gives answer told)

-- where no token ends the piece, it is as long as the tokens
pub no_end : (tokens : List PlacedToken) → ((k : ℕ) (other : PlacedToken) → k < length tokens → ends_piece (get_or tokens k other) ≡ false)
    → length tokens ≡ length (piece_at tokens)
no_end [] none = refl
no_end (token ∷ rest) none =
    sym (position_or_len_is ends_piece (token ∷ rest) (length (token ∷ rest)) token (omega arith) (λ k lt. none k token lt) (λ lt. absurd (omega arith))) ∙ piece_size (token ∷ rest)
