-- A test of what an expression matches, and that it decides it.
use Rattle.std.proofs.Common.{inl, inr, ◌≡◌, ℕ, suc, zero, ◌≤◌, ◌⊎◌, List, [], ◌∷◌, ◌++◌, length, Bool, true, false, ◌&&◌, ◌||◌, not, nat_eq, refl, sym, ◌∙◌, ap, arith, subst, length-append}
use Rattle.std.specs.Bool.{Decides}
use Rattle.std.specs.List.{Contains}
use Rattle.std.specs.Str.{bytes_eq, chars}
use Rattle.std.specs.Set.{is_member}
use Rattle.std.proofs.lemmas.Map.Made.{is_member-Decides}
use Rattle.std.specs.Char.{IsScalar, encode_utf8}
use Rattle.std.proofs.lemmas.Bool.Decides.{Decides-like, Decides-not, Decides-and, Decides-or, Decides-eqb}
use Rattle.std.proofs.lemmas.Slice.Eq.{bytes_eq-Decides}
use Rattle.std.proofs.lemmas.Str.{chars_from_encodes, IsUtf8-encode}
use Rattle.std.proofs.lemmas.List.{append-nil}
use lib.Utf8.{scalar}
use Rattle.spec_lexing.specs.Expressions.{Expression, empty, class, any_of, word, in_turn, nothing, either, minus, star, plus, optional}
use Rattle.spec_lexing.specs.Expressions.{scalar as one_scalar}
use Rattle.spec_lexing.specs.Matching.{is_of_class, IsScalarThat, IsOneScalar, Repeats, none, more, Matches}

-- whether the list is empty
abbrev pub is_empty : List ℕ → Bool
is_empty [] = true
is_empty (byte ∷ bytes) = false

pub is_empty-Decides : (bytes : List ℕ) → Decides (is_empty bytes) (bytes ≡ [])
is_empty-Decides [] = (λ _. refl, λ _. refl)
is_empty-Decides (byte ∷ bytes) = (λ e. cc, λ e. cc)

-- whether some cut of the bytes into a front and a rest passes
abbrev pub some_cut : (List ℕ → List ℕ → Bool) → List ℕ → Bool
some_cut test [] = test [] []
some_cut test (byte ∷ bytes) =
    test [] (byte ∷ bytes) || some_cut (λ front rest. test (byte ∷ front) rest) bytes

-- some cut of the bytes has the property
abbrev pub HasCut : (List ℕ → List ℕ → Type 0) → List ℕ → Type 0
HasCut P bytes = (front : List ℕ) × (rest : List ℕ) × (bytes ≡ front ++ rest) × P front rest

pub some_cut-Decides : (P : List ℕ → List ℕ → Type 0) (test : List ℕ → List ℕ → Bool)
    (bytes : List ℕ) →
    ((front rest : List ℕ) → bytes ≡ front ++ rest → Decides (test front rest) (P front rest)) →
    Decides (some_cut test bytes) (HasCut P bytes)
some_cut-Decides P test [] each = Decides-like (test [] []) to from (each [] [] refl)
  where
    to : P [] [] → HasCut P []
    to p = ([], [], refl, p)

    from : HasCut P [] → P [] []
    from ([], [], e, p) = p
    from ([], byte ∷ rest, e, p) = cc
    from (byte ∷ front, rest, e, p) = cc
some_cut-Decides P test (byte ∷ bytes) each =
    Decides-like (test [] (byte ∷ bytes) || some_cut (λ front rest. test (byte ∷ front) rest) bytes)
    to from
    (Decides-or (test [] (byte ∷ bytes)) (some_cut (λ front rest. test (byte ∷ front) rest) bytes)
    (each [] (byte ∷ bytes) refl)
    (some_cut-Decides (λ front rest. P (byte ∷ front) rest) (λ front rest. test (byte ∷ front) rest) bytes
    (λ front rest e. each (byte ∷ front) rest (ap (λ xs. byte ∷ xs) e))))
  where
    Here : Type 0
    Here = P [] (byte ∷ bytes)

    Behind : Type 0
    Behind = HasCut (λ front rest. P (byte ∷ front) rest) bytes

    to : P [] (byte ∷ bytes) ⊎ HasCut (λ front rest. P (byte ∷ front) rest) bytes → HasCut P (byte ∷ bytes)
    to (inl p) = ([], byte ∷ bytes, refl, p)
    to (inr (front, rest, e, p)) = (byte ∷ front, rest, ap (λ xs. byte ∷ xs) e, p)

    from : HasCut P (byte ∷ bytes) → P [] (byte ∷ bytes) ⊎ HasCut (λ front rest. P (byte ∷ front) rest) bytes
    from ([], rest, e, p) = inl (rw e p)
    from (first ∷ front, rest, e, p) =
        let same : byte ≡ first = cc in
        let others : bytes ≡ front ++ rest = cc in
        inr (front, rest, others, rw same p)

-- whether the bytes are parts that pass, of which there are at most so many
abbrev pub repeats : (List ℕ → Bool) → ℕ → List ℕ → Bool
repeats test zero bytes = is_empty bytes
repeats test (suc parts) [] = true
repeats test (suc parts) (byte ∷ bytes) =
    some_cut (λ front rest. test (byte ∷ front) && repeats test parts rest) bytes

pub repeats-Decides : (Part : List ℕ → Type 0) (test : List ℕ → Bool) →
    ((bytes : List ℕ) → Decides (test bytes) (Part bytes)) →
    (parts : ℕ) (bytes : List ℕ) → length bytes ≤ parts →
    Decides (repeats test parts bytes) (Repeats Part bytes)
repeats-Decides Part test each zero bytes small =
    Decides-like (is_empty bytes) (λ e. none bytes e) (λ r. no_bytes bytes small) (is_empty-Decides bytes)
  where
    no_bytes : (bytes : List ℕ) → length bytes ≤ 0 → bytes ≡ []
    no_bytes [] small = refl
    no_bytes (byte ∷ bytes) small = absurd (omega arith)
repeats-Decides Part test each (suc parts) [] small = (λ _. none [] refl, λ _. refl)
repeats-Decides Part test each (suc parts) (byte ∷ bytes) small =
    Decides-like (repeats test (suc parts) (byte ∷ bytes)) to from
    (some_cut-Decides (λ front rest. Part (byte ∷ front) × Repeats Part rest)
    (λ front rest. test (byte ∷ front) && repeats test parts rest) bytes
    (λ front rest e. Decides-and (test (byte ∷ front)) (repeats test parts rest) (each (byte ∷ front))
    (repeats-Decides Part test each parts rest (omega (arith, ap length e, length-append front rest)))))
  where
    to : HasCut (λ front rest. Part (byte ∷ front) × Repeats Part rest) bytes → Repeats Part (byte ∷ bytes)
    to (front, rest, e, (p, r)) =
        more (byte ∷ bytes) (byte ∷ front) rest (ap (λ xs. byte ∷ xs) e) (λ empty. cc) p r

    from : Repeats Part (byte ∷ bytes) → HasCut (λ front rest. Part (byte ∷ front) × Repeats Part rest) bytes
    from (none _ e) = cc
    from (more _ [] rest e some p r) = absurd (some refl)
    from (more _ (first ∷ front) rest e some p r) =
        let same : byte ≡ first = cc in
        let others : bytes ≡ front ++ rest = cc in
        (front, rest, others, (rw same p, r))

-- the first of the characters, or a number that is none
abbrev pub first_char : List ℕ → ℕ
first_char [] = 55296
first_char (c ∷ cs) = c

-- the character that the bytes begin with, where they are UTF-8
abbrev pub char_at_front : List ℕ → ℕ
char_at_front bytes = first_char (chars bytes)

-- whether the bytes are one scalar
abbrev pub is_one_scalar : List ℕ → Bool
is_one_scalar bytes =
    scalar (char_at_front bytes) && bytes_eq bytes (encode_utf8 (char_at_front bytes))

-- whether the bytes are one scalar that passes
abbrev pub is_scalar_that : (ℕ → Bool) → List ℕ → Bool
is_scalar_that test bytes = is_one_scalar bytes && test (char_at_front bytes)

-- the front of a scalar's bytes is the scalar
front_of_scalar : (c : ℕ) → IsScalar c → char_at_front (encode_utf8 c) ≡ c
front_of_scalar c is =
    ap first_char (sym (chars_from_encodes (c ∷ []) (encode_utf8 c) (IsUtf8-encode c is) (append-nil (encode_utf8 c))))

is_one_scalar-Decides : (bytes : List ℕ) → Decides (is_one_scalar bytes) (IsOneScalar bytes)
is_one_scalar-Decides bytes =
    Decides-like (is_one_scalar bytes) (λ h. (char_at_front bytes, h.0, h.1)) from
    (Decides-and (scalar (char_at_front bytes)) (bytes_eq bytes (encode_utf8 (char_at_front bytes)))
    (λ e. e, λ e. e) (bytes_eq-Decides bytes (encode_utf8 (char_at_front bytes))))
  where
    from : IsOneScalar bytes →
        IsScalar (char_at_front bytes) × (bytes ≡ encode_utf8 (char_at_front bytes))
    from (c, is, e) =
        let same : char_at_front bytes ≡ c = ap char_at_front e ∙ front_of_scalar c is in
        (rw same is, rw same e)

is_scalar_that-Decides : (Is : ℕ → Type 0) (test : ℕ → Bool) → ((c : ℕ) → Decides (test c) (Is c)) →
    (bytes : List ℕ) → Decides (is_scalar_that test bytes) (IsScalarThat Is bytes)
is_scalar_that-Decides Is test each bytes =
    Decides-like (is_scalar_that test bytes) to from
    (Decides-and (is_one_scalar bytes) (test (char_at_front bytes)) (is_one_scalar-Decides bytes)
    (each (char_at_front bytes)))
  where
    same : (c : ℕ) → IsScalar c → bytes ≡ encode_utf8 c → char_at_front bytes ≡ c
    same c is e = ap char_at_front e ∙ front_of_scalar c is

    to : IsOneScalar bytes × Is (char_at_front bytes) → IsScalarThat Is bytes
    to ((c, is, e), p) = (c, is, e, subst Is (same c is e) p)

    from : IsScalarThat Is bytes → IsOneScalar bytes × Is (char_at_front bytes)
    from (c, is, e, p) = ((c, is, e), subst Is (sym (same c is e)) p)

-- whether the expression matches the bytes
abbrev pub matches : Expression → List ℕ → Bool
matches empty bytes = is_empty bytes
matches (class k) bytes = is_scalar_that (is_of_class k) bytes
matches (one_scalar c) bytes = bytes_eq bytes (encode_utf8 c)
matches (any_of name) bytes = is_scalar_that (λ c. is_member nat_eq (chars name) c) bytes
matches (word name) bytes = bytes_eq bytes name
matches (in_turn first second) bytes =
    some_cut (λ front rest. matches first front && matches second rest) bytes
matches nothing bytes = false
matches (either left right) bytes = matches left bytes || matches right bytes
matches (minus left right) bytes =
    is_one_scalar bytes && (matches left bytes && not (matches right bytes))
matches (star part) bytes = repeats (matches part) (length bytes) bytes
matches (plus part) bytes =
    some_cut (λ front rest. matches part front && repeats (matches part) (length rest) rest) bytes
matches (optional part) bytes = is_empty bytes || matches part bytes

pub matches-Decides : (expression : Expression) (bytes : List ℕ) →
    Decides (matches expression bytes) (Matches expression bytes)
matches-Decides empty bytes = is_empty-Decides bytes
matches-Decides (class k) bytes =
    is_scalar_that-Decides (λ c. is_of_class k c ≡ true) (is_of_class k) (λ c. (λ e. e, λ e. e)) bytes
matches-Decides (one_scalar c) bytes = bytes_eq-Decides bytes (encode_utf8 c)
matches-Decides (any_of name) bytes =
    is_scalar_that-Decides (Contains (chars name)) (λ c. is_member nat_eq (chars name) c)
    (λ c. is_member-Decides Decides-eqb (chars name) c) bytes
matches-Decides (word name) bytes = bytes_eq-Decides bytes name
matches-Decides (in_turn first second) bytes =
    Decides-like (matches (in_turn first second) bytes)
    (λ h. (h.0, h.1, h.2, h.3.0, h.3.1)) (λ h. (h.0, h.1, h.2, (h.3, h.4)))
    (some_cut-Decides (λ front rest. Matches first front × Matches second rest)
    (λ front rest. matches first front && matches second rest) bytes
    (λ front rest e. Decides-and (matches first front) (matches second rest)
    (matches-Decides first front) (matches-Decides second rest)))
matches-Decides nothing bytes = (λ e. cc, λ n. absurd n)
matches-Decides (either left right) bytes =
    Decides-or (matches left bytes) (matches right bytes)
    (matches-Decides left bytes) (matches-Decides right bytes)
matches-Decides (minus left right) bytes =
    Decides-like (matches (minus left right) bytes)
    (λ h. (h.0, h.1.0, h.1.1)) (λ h. (h.0, (h.1, h.2)))
    (Decides-and (is_one_scalar bytes) (matches left bytes && not (matches right bytes))
    (is_one_scalar-Decides bytes)
    (Decides-and (matches left bytes) (not (matches right bytes)) (matches-Decides left bytes)
    (Decides-not (matches right bytes) (matches-Decides right bytes))))
matches-Decides (star part) bytes =
    repeats-Decides (Matches part) (matches part) (λ bytes. matches-Decides part bytes)
    (length bytes) bytes (omega arith)
matches-Decides (plus part) bytes =
    Decides-like (matches (plus part) bytes)
    (λ h. (h.0, h.1, h.2, h.3.0, h.3.1)) (λ h. (h.0, h.1, h.2, (h.3, h.4)))
    (some_cut-Decides (λ front rest. Matches part front × Repeats (Matches part) rest)
    (λ front rest. matches part front && repeats (matches part) (length rest) rest) bytes
    (λ front rest e. Decides-and (matches part front) (repeats (matches part) (length rest) rest)
    (matches-Decides part front)
    (repeats-Decides (Matches part) (matches part) (λ bytes. matches-Decides part bytes)
    (length rest) rest (omega arith))))
matches-Decides (optional part) bytes =
    Decides-or (is_empty bytes) (matches part bytes) (is_empty-Decides bytes) (matches-Decides part bytes)
