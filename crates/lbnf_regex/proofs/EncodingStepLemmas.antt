-- The patterns of expressions, part by part.
use Rattle.std.proofs.Common.{◌≡◌, ℕ, zero, suc, ◌<◌, List, [], ◌∷◌, ◌++◌, map, replicate, Bool, true, false, ◌&&◌, ◌||◌, not, cond, nat_eq, refl, sym, ◌∙◌, ap, inl, inr, arith}
use Rattle.std.specs.Char.{IsScalar, encode_utf8}
use Rattle.std.specs.List.{filter, list_any}
use Rattle.std.specs.Set.{is_member}
use Rattle.std.specs.Str.{IsUtf8, chars}
use Rattle.std.proofs.lemmas.Bool.{and_parts, cases_eq, cases_lt, eq-eqb, ne_eqb, lt-leb, le-leb}
use Rattle.std.proofs.lemmas.List.Folds.{list_any-append}
use Rattle.std.proofs.lemmas.Str.{encode_ascii, encodes-chars, scalars-chars}
use lib.Utf8.{scalar, scalars, encodes}
use Rattle.std.proofs.lemmas.List.{map-append}
use Rattle.std.proofs.lemmas.List.Elements.{filter-append}
use Rattle.spec_lexing.specs.declared.expression.Expr.{Expr, Expr-F, fold-roll-Expr}
use Rattle.spec_lexing.specs.declared.expression.Expr.TheVariants.{Seq, Alt, Minus, AnyOf, rolls-Seq, rolls-Alt, rolls-Minus, rolls-AnyOf}
use Rattle.spec_lexing.specs.Expressions.{Expression, any_of, minus, all_in_turn, one_of, form_of, expression_of}
use Rattle.spec_automata.specs.ByteExpressions.{ByteExpression, empty, nothing, byte_in, in_turn, either, star, plus, until}
use Rattle.spec_automata.specs.Encoding.{is_ascii, byte_between, one_of_these, these_in_turn, literal, next_byte, any_scalar, wide_scalars, has_character, without, bytes_of}
use Rattle.spec_automata.proofs.ScalarLemmas.{AllWide, wide_bytes}
use Rattle.lbnf_regex.specs.ByteSets.{flag_at, kept_of}

-- what an expression in code stands for, by its form
pub expression-Seq : (parts : List Expr) → expression_of (Seq parts) ≡ all_in_turn (map expression_of parts)
expression-Seq parts = ap expression_of (sym (rolls-Seq parts)) ∙ fold-roll-Expr Expression form_of (Expr-F.Seq parts)

pub expression-Alt : (parts : List Expr) → expression_of (Alt parts) ≡ one_of (map expression_of parts)
expression-Alt parts = ap expression_of (sym (rolls-Alt parts)) ∙ fold-roll-Expr Expression form_of (Expr-F.Alt parts)

pub expression-Minus : (left right : Expr) →
    expression_of (Minus left right) ≡ minus (expression_of left) (expression_of right)
expression-Minus left right =
    ap expression_of (sym (rolls-Minus left right)) ∙ fold-roll-Expr Expression form_of (Expr-F.Minus left right)

pub expression-AnyOf : (name : List ℕ) → expression_of (AnyOf name) ≡ any_of name
expression-AnyOf name = ap expression_of (sym (rolls-AnyOf name)) ∙ fold-roll-Expr Expression form_of (Expr-F.AnyOf name)

-- a test of two numbers, either way round
same_test : (a b : ℕ) → nat_eq a b ≡ nat_eq b a
same_test a b = elim (cases_eq a b) [
  | inl e ↦ eq-eqb a b e ∙ sym (eq-eqb b a (sym e))
  | inr n ↦ ne_eqb a b n ∙ sym (ne_eqb b a (λ e. n (sym e)))
]

or_false : (a : Bool) → (a || false) ≡ a
or_false true = refl
or_false false = refl

-- the bytes of a scalar that is not ASCII are no ASCII character
none_wide : (b : ℕ) → b < 128 → (bytes : List ℕ) → AllWide bytes → list_any (λ y. nat_eq y b) bytes ≡ false
none_wide b lt [] wide = refl
none_wide b lt (y ∷ bytes) wide =
    ap (λ (z : Bool). z || list_any (λ y. nat_eq y b) bytes) (ne_eqb y b (λ e. omega (arith, wide.0, e, lt)))
    ∙ none_wide b lt bytes wide.1

-- a scalar's bytes have an ASCII character where the scalar is that character
in_scalar : (b : ℕ) → b < 128 → (c : ℕ) → IsScalar c → list_any (λ y. nat_eq y b) (encode_utf8 c) ≡ nat_eq b c
in_scalar b lt c is = elim (cases_lt c 128) [
  | inl low ↦
      ap (list_any (λ y. nat_eq y b)) (encode_ascii c low) ∙ or_false (nat_eq c b) ∙ same_test c b
  | inr high ↦
      none_wide b lt (encode_utf8 c) (wide_bytes c is high) ∙ sym (ne_eqb b c (λ e. omega (arith, e, lt, high)))
]

in_scalars : (b : ℕ) → b < 128 → (cs : List ℕ) → scalars cs ≡ true →
    list_any (λ y. nat_eq y b) (encodes cs) ≡ list_any (nat_eq b) cs
in_scalars b lt [] all = refl
in_scalars b lt (c ∷ cs) all =
    let both = and_parts (scalar c) (scalars cs) all in
    list_any-append (λ y. nat_eq y b) (encode_utf8 c) (encodes cs)
    ∙ ap (λ (z : Bool). z || list_any (λ y. nat_eq y b) (encodes cs)) (in_scalar b lt c both.0)
    ∙ ap (λ (z : Bool). nat_eq b c || z) (in_scalars b lt cs both.1)

-- a name has an ASCII character among its scalars where it has it among its bytes
pub ascii_in_name : (name : List ℕ) → IsUtf8 name → (b : ℕ) → b < 128 →
    list_any (λ y. nat_eq y b) name ≡ is_member nat_eq (chars name) b
ascii_in_name name text b lt =
    ap (list_any (λ y. nat_eq y b)) (sym (encodes-chars name text))
    ∙ in_scalars b lt (chars name) (scalars-chars name text)

-- a sequence is no class
pub no_class : (parts : List Expression) (b : ℕ) → has_character (all_in_turn parts) b ≡ false
no_class [] b = refl
no_class (part ∷ parts) b = refl

module _ (t : ℕ → Bool) where
  -- the set of one byte without the characters that pass
  abbrev One : ℕ → ByteExpression
  One b = byte_in (filter (λ z. not (is_ascii z && t z)) (b ∷ []))

  pub without_literal : (bytes : List ℕ) → without t (literal bytes) ≡ these_in_turn (map One bytes)
  without_literal [] = refl
  without_literal (b ∷ bytes) = ap (in_turn (One b)) (without_literal bytes)

  pub without_many : (x : ByteExpression) (n : ℕ) →
      without t (these_in_turn (replicate n x)) ≡ these_in_turn (replicate n (without t x))
  without_many x zero = refl
  without_many x (suc n) = ap (in_turn (without t x)) (without_many x n)

  pub without_wide : (x y : ByteExpression) (n : ℕ) →
      without t (these_in_turn (x ∷ replicate n y)) ≡ these_in_turn (without t x ∷ replicate n (without t y))
  without_wide x y n = ap (in_turn (without t x)) (without_many y n)

  pub without_each : (f : ℕ → ByteExpression) (cs : List ℕ) →
      without t (one_of_these (map f cs)) ≡ one_of_these (map (λ c. without t (f c)) cs)
  without_each f [] = refl
  without_each f (c ∷ cs) = ap (either (without t (f c))) (without_each f cs)

  -- the sizes of scalars
  pub without_sizes : (a b c d : ByteExpression) → a ≡ without t (byte_between 0 127) →
      b ≡ without t (these_in_turn (byte_between 194 223 ∷ replicate 1 next_byte)) →
      c ≡ without t (these_in_turn (byte_between 224 239 ∷ replicate 2 next_byte)) →
      d ≡ without t (these_in_turn (byte_between 240 244 ∷ replicate 3 next_byte)) →
      one_of_these (a ∷ b ∷ c ∷ d ∷ []) ≡ without t any_scalar
  without_sizes a b c d is_a is_b is_c is_d =
      ap (λ (z : ByteExpression). either z (either b (either c (either d nothing)))) is_a
      ∙ ap (λ (z : ByteExpression). either (without t (byte_between 0 127)) (either z (either c (either d nothing)))) is_b
      ∙ ap
      (λ (z : ByteExpression).
      either (without t (byte_between 0 127))
      (either (without t (these_in_turn (byte_between 194 223 ∷ replicate 1 next_byte))) (either z (either d nothing))))
      is_c
      ∙ ap
      (λ (z : ByteExpression).
      either (without t (byte_between 0 127))
      (either (without t (these_in_turn (byte_between 194 223 ∷ replicate 1 next_byte)))
      (either (without t (these_in_turn (byte_between 224 239 ∷ replicate 2 next_byte))) (either z nothing))))
      is_d

  -- sequences and alternatives of expressions, each without the characters
  abbrev pub Part : Expr → ByteExpression
  Part e = without t (bytes_of (expression_of e))

  pub without_seq : (parts : List Expr) →
      these_in_turn (map Part parts) ≡ without t (bytes_of (all_in_turn (map expression_of parts)))
  without_seq [] = refl
  without_seq (part ∷ parts) = ap (in_turn (Part part)) (without_seq parts)

  pub without_alt : (parts : List Expr) →
      one_of_these (map Part parts) ≡ without t (bytes_of (one_of (map expression_of parts)))
  without_alt [] = refl
  without_alt (part ∷ parts) = ap (either (Part part)) (without_alt parts)

  -- the sequences of scalars that are not ASCII, and of one more
  pub wide_more : (f : ℕ → ByteExpression) (first : ByteExpression) (cs : List ℕ) (c : ℕ) (old new : List ByteExpression) →
      old ≡ first ∷ map f (wide_scalars cs) → new ≡ old ++ cond (not (is_ascii c)) (f c ∷ []) [] →
      new ≡ first ∷ map f (wide_scalars (cs ++ c ∷ []))
  wide_more f first cs c old new is added =
      let cut : wide_scalars (cs ++ c ∷ []) ≡ wide_scalars cs ++ wide_scalars (c ∷ []) =
      filter-append (λ z. not (is_ascii z)) cs (c ∷ []) in
      added ∙ ap (λ (z : List ByteExpression). z ++ cond (not (is_ascii c)) (f c ∷ []) []) is
      ∙ ap (λ (z : List ByteExpression). (first ∷ map f (wide_scalars cs)) ++ z) (sym (one_wide (not (is_ascii c))))
      ∙ ap (λ (z : List ByteExpression). first ∷ z) (sym (map-append f (wide_scalars cs) (wide_scalars (c ∷ []))))
      ∙ ap (λ (z : List ℕ). first ∷ map f z) (sym cut)
    where
      one_wide : (b : Bool) → map f (cond b (c ∷ []) []) ≡ cond b (f c ∷ []) []
      one_wide true = refl
      one_wide false = refl

-- a filter of a filter is one by both tests
filter_twice : (f g h : ℕ → Bool) → ((b : ℕ) → (g b && f b) ≡ h b) → (xs : List ℕ) → filter f (filter g xs) ≡ filter h xs
filter_twice f g h both [] = refl
filter_twice f g h both (b ∷ xs) =
    step (g b) (f b) (h b) refl refl refl (both b) (filter_twice f g h both xs)
  where
    step : (gb fb hb : Bool) → g b ≡ gb → f b ≡ fb → h b ≡ hb → (g b && f b) ≡ h b →
        filter f (filter g xs) ≡ filter h xs →
        filter f (cond gb (b ∷ filter g xs) (filter g xs)) ≡ cond hb (b ∷ filter h xs) (filter h xs)
    step true true hb is_g is_f is_h e rest =
        let hb_is : hb ≡ true = sym is_h ∙ sym e ∙ ap (λ (z : Bool). z && f b) is_g ∙ is_f in
        ap (λ (z : Bool). cond z (b ∷ filter f (filter g xs)) (filter f (filter g xs))) is_f
        ∙ ap (λ (z : List ℕ). b ∷ z) rest ∙ ap (λ (z : Bool). cond z (b ∷ filter h xs) (filter h xs)) (sym hb_is)
    step true false hb is_g is_f is_h e rest =
        let hb_is : hb ≡ false = sym is_h ∙ sym e ∙ ap (λ (z : Bool). z && f b) is_g ∙ is_f in
        ap (λ (z : Bool). cond z (b ∷ filter f (filter g xs)) (filter f (filter g xs))) is_f
        ∙ rest ∙ ap (λ (z : Bool). cond z (b ∷ filter h xs) (filter h xs)) (sym hb_is)
    step false fb hb is_g is_f is_h e rest =
        let hb_is : hb ≡ false = sym is_h ∙ sym e ∙ ap (λ (z : Bool). z && f b) is_g in
        rest ∙ ap (λ (z : Bool). cond z (b ∷ filter h xs) (filter h xs)) (sym hb_is)

module _ (f g h : ℕ → Bool) (both : (b : ℕ) → (not (is_ascii b && g b) && not (is_ascii b && f b)) ≡ not (is_ascii b && h b)) where
  -- what is taken away twice is taken away at once
  pub without_twice : (x : ByteExpression) → without f (without g x) ≡ without h x
  without_twice empty = refl
  without_twice nothing = refl
  without_twice (byte_in set) =
      ap byte_in
      (filter_twice (λ b. not (is_ascii b && f b)) (λ b. not (is_ascii b && g b)) (λ b. not (is_ascii b && h b)) both set)
  without_twice (in_turn x y) =
      ap (λ (z : ByteExpression). in_turn z (without f (without g y))) (without_twice x)
      ∙ ap (in_turn (without h x)) (without_twice y)
  without_twice (either x y) =
      ap (λ (z : ByteExpression). either z (without f (without g y))) (without_twice x)
      ∙ ap (either (without h x)) (without_twice y)
  without_twice (star x) = ap star (without_twice x)
  without_twice (plus x) = ap plus (without_twice x)
  without_twice (until closing) = refl

keep_all : (k : ℕ → Bool) → ((b : ℕ) → k b ≡ true) → (xs : List ℕ) → filter k xs ≡ xs
keep_all k all [] = refl
keep_all k all (b ∷ xs) =
    ap (λ (z : Bool). cond z (b ∷ filter k xs) (filter k xs)) (all b) ∙ ap (λ (z : List ℕ). b ∷ z) (keep_all k all xs)

-- where nothing is taken away the expression is as it was
pub without_none : (t : ℕ → Bool) → ((b : ℕ) → not (is_ascii b && t b) ≡ true) → (x : ByteExpression) → without t x ≡ x
without_none t none empty = refl
without_none t none nothing = refl
without_none t none (byte_in set) = ap byte_in (keep_all (λ b. not (is_ascii b && t b)) none set)
without_none t none (in_turn x y) =
    ap (λ (z : ByteExpression). in_turn z (without t y)) (without_none t none x) ∙ ap (in_turn x) (without_none t none y)
without_none t none (either x y) =
    ap (λ (z : ByteExpression). either z (without t y)) (without_none t none x) ∙ ap (either x) (without_none t none y)
without_none t none (star x) = ap star (without_none t none x)
without_none t none (plus x) = ap plus (without_none t none x)
without_none t none (until closing) = refl

none_flagged : (b : ℕ) (a : Bool) → not (a && flag_at [] b) ≡ true
none_flagged b true = refl
none_flagged b false = refl

-- no flags take nothing away
pub without_flags : (x : ByteExpression) → without (flag_at []) x ≡ x
without_flags x = without_none (flag_at []) (λ b. none_flagged b (is_ascii b)) x

-- the flags of both are those of the one or the other
pub flags_of_both : (old new : List Bool) (has : ℕ → Bool) →
    ((b : ℕ) → b < 128 → flag_at new b ≡ (flag_at old b || has b)) → (b : ℕ) →
    (not (is_ascii b && has b) && not (is_ascii b && flag_at old b)) ≡ not (is_ascii b && flag_at new b)
flags_of_both old new has are b = elim (cases_lt b 128) [
  | inl lt ↦
      let ascii : is_ascii b ≡ true = le-leb b 127 (omega (arith, lt)) in
      low (is_ascii b) (has b) (flag_at old b) (flag_at new b) ascii (are b lt)
  | inr ge ↦
      let wide : is_ascii b ≡ false = lt-leb b 127 (omega (arith, ge)) in
      high (is_ascii b) (has b) (flag_at old b) (flag_at new b) wide
]
  where
    low : (a h o n : Bool) → a ≡ true → n ≡ (o || h) → (not (a && h) && not (a && o)) ≡ not (a && n)
    low true true true n e is = ap not (sym is)
    low true true false n e is = ap not (sym is)
    low true false true n e is = ap not (sym is)
    low true false false n e is = ap not (sym is)
    low false h o n e is = refl

    high : (a h o n : Bool) → a ≡ false → (not (a && h) && not (a && o)) ≡ not (a && n)
    high true h o n e = cc
    high false h o n e = refl

-- no flags keep all
pub kept_all : (set : List ℕ) → kept_of [] set ≡ set
kept_all set = keep_all (λ b. not (is_ascii b && flag_at [] b)) (λ b. none_flagged b (is_ascii b)) set
