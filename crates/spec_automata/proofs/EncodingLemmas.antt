-- At the front of a text the bytes of a token expression, and of a kind, match just what it matches.
use Rattle.std.proofs.Common.{◌≡◌, ℕ, ◌<◌, ◌≤◌, ◌↔◌, List, [], ◌∷◌, ◌++◌, map, drop, length, Bool, true, false, ◌&&◌, not, nat_eq, refl, sym, ◌∙◌, ap, inl, inr, arith, subst}
use Rattle.std.specs.List.{Contains}
use Rattle.std.specs.Set.{is_member}
use Rattle.std.specs.Str.{IsUtf8, chars}
use Rattle.std.specs.Char.{IsScalar, encode_utf8}
use Rattle.std.proofs.lemmas.Bool.{both_ways, and_parts, and_from, and_right, leb-true, le-leb, lt-leb, not-true, not_from_false, cases_lt, cases_Bool}
use Rattle.std.proofs.lemmas.Bool.Decides.{Decides-eqb, nat_tests}
use Rattle.std.proofs.lemmas.List.{append-nil, drop_at}
use Rattle.std.proofs.lemmas.List.Elements.{All-nil, All-cons, All-head, All-tail, All-same, All-drop}
use Rattle.std.proofs.lemmas.Map.Made.{is_member-Decides}
use Rattle.std.proofs.lemmas.Str.{encode_ascii, IsUtf8-past_char, scalars-chars}
use lib.Utf8.{scalar, scalars}
use Rattle.spec_text.specs.Bytes.{is_white}
use Rattle.spec_lexing.specs.declared.expression.Class.{Class}
use Rattle.spec_lexing.specs.declared.expression.Class.TheVariants.{Digit, Letter, Upper, Lower, AnyChar}
use Rattle.spec_lexing.specs.declared.kind_def.KindDef.{KindDef}
use Rattle.spec_lexing.specs.declared.kind_def.KindDef.TheVariants.{Word, Token as TokenDef}
use Rattle.spec_lexing.specs.Classes.{IsAsciiClass, IsSound, IsSoundDef}
use Rattle.spec_lexing.specs.Expressions.{Expression, class, any_of, word, minus, optional, expression_of}
use Rattle.spec_lexing.specs.Expressions.{scalar as one_scalar}
use Rattle.spec_lexing.specs.Kinds.{white, line_comment, block_comment, symbol, IsOnLine, EndsFirst, MatchesDef}
use Rattle.spec_lexing.specs.Matching.{Repeats, none, more, Matches, is_of_class}
use Rattle.spec_automata.specs.ByteExpressions.{ByteExpression, empty, nothing, byte_in, in_turn, either, star, plus, until, MatchesBytes}
use Rattle.spec_automata.specs.Encoding.{is_ascii, bytes_that, one_of_these, these_in_turn, literal, any_scalar, bytes_of_class, wide_scalars, bytes_of_scalars, has_character, without, bytes_of, bytes_of_def}
use Rattle.spec_automata.specs.States.{AreBytes}
use Rattle.spec_automata.specs.Laws.{BytesMatchTheSame, KindsMatchTheSame}
use Rattle.spec_automata.proofs.ByteSetLemmas.{none_in, first_or_behind, has_first, has_behind, in_filter, in_bytes_that}
use Rattle.spec_automata.proofs.ScalarLemmas.{ascii_is_scalar, any_scalar_reads, any_scalar_spells, literal_reads, literal_spells, wide_bytes, behind_text}
use Rattle.spec_automata.proofs.PartLemmas.{behind_front, reads_repeats, spells_repeats}
use Rattle.spec_automata.proofs.DifferenceLemmas.{AreKept, IsPlain, wide_kept, without_narrows, class_is_scalar, ascii_matches, digit_is_ascii, letter_is_ascii, upper_is_ascii, lower_is_ascii}

-- the expression matches the bytes of such scalars
abbrev IsScalarOf : (ℕ → Type 0) → List ℕ → Type 0
IsScalarOf Is bytes = (c : ℕ) × IsScalar c × (bytes ≡ encode_utf8 c) × Is c

-- what lies behind a scalar in a text is a text
behind_scalar : (c : ℕ) (bytes rest : List ℕ) → bytes ≡ encode_utf8 c → IsUtf8 (bytes ++ rest) → IsUtf8 rest
behind_scalar c bytes rest e text =
    IsUtf8-past_char (bytes ++ rest) rest c text (ap (λ (q : List ℕ). q ++ rest) e)

-- one set of ASCII characters
ascii_set : (test : ℕ → Bool) → ((c : ℕ) → test c ≡ true → c < 128) → (bytes : List ℕ) →
    MatchesBytes (byte_in (bytes_that test)) bytes ↔ IsScalarOf (λ c. test c ≡ true) bytes
ascii_set test small bytes = (
  λ m.
      let t = ((in_bytes_that test m.0).0 m.2).1 in
      let lt = small m.0 t in (m.0, ascii_is_scalar m.0 lt, m.1 ∙ sym (encode_ascii m.0 lt), t),
  λ h.
      let lt = small h.0 h.3 in
      (h.0, h.2 ∙ encode_ascii h.0 lt, (in_bytes_that test h.0).1 (omega (arith, lt), h.3)),
)

class_reads : (k : Class) (bytes rest : List ℕ) → MatchesBytes (bytes_of_class k) bytes → IsUtf8 (bytes ++ rest) →
    Matches (class k) bytes
class_reads Digit bytes rest m text = (ascii_set (is_of_class Digit) digit_is_ascii bytes).0 m
class_reads Letter bytes rest m text = (ascii_set (is_of_class Letter) letter_is_ascii bytes).0 m
class_reads Upper bytes rest m text = (ascii_set (is_of_class Upper) upper_is_ascii bytes).0 m
class_reads Lower bytes rest m text = (ascii_set (is_of_class Lower) lower_is_ascii bytes).0 m
class_reads AnyChar bytes rest m text =
    let h = any_scalar_reads bytes rest m text in (h.0, h.1, h.2, refl)

class_spells : (k : Class) (bytes : List ℕ) → Matches (class k) bytes → MatchesBytes (bytes_of_class k) bytes
class_spells Digit bytes m = (ascii_set (is_of_class Digit) digit_is_ascii bytes).1 m
class_spells Letter bytes m = (ascii_set (is_of_class Letter) letter_is_ascii bytes).1 m
class_spells Upper bytes m = (ascii_set (is_of_class Upper) upper_is_ascii bytes).1 m
class_spells Lower bytes m = (ascii_set (is_of_class Lower) lower_is_ascii bytes).1 m
class_spells AnyChar bytes m = subst (MatchesBytes any_scalar) (sym m.2) (any_scalar_spells m.0 m.1)

-- the sequence of a scalar
abbrev sequence : ℕ → ByteExpression
sequence c = literal (encode_utf8 c)

-- one of the sequences of scalars
sequences_read : (cs : List ℕ) (bytes : List ℕ) → MatchesBytes (one_of_these (map sequence cs)) bytes →
    (c : ℕ) × Contains cs c × (bytes ≡ encode_utf8 c)
sequences_read [] bytes m = absurd m
sequences_read (c ∷ cs) bytes (inl m) = (c, has_first c cs, literal_reads (encode_utf8 c) bytes m)
sequences_read (c ∷ cs) bytes (inr m) =
    let h = sequences_read cs bytes m in (h.0, has_behind c cs h.0 h.1, h.2)

sequences_spell : (cs : List ℕ) (c : ℕ) → Contains cs c → MatchesBytes (one_of_these (map sequence cs)) (encode_utf8 c)
sequences_spell [] c has = absurd (none_in c has)
sequences_spell (d ∷ cs) c has = elim (first_or_behind d cs c has) [
  | inl same ↦ inl (subst (λ (z : ℕ). MatchesBytes (sequence d) (encode_utf8 z)) same (literal_spells (encode_utf8 d)))
  | inr behind ↦ inr (sequences_spell cs c behind)
]

-- the test of an ASCII character among scalars
abbrev is_character_of : List ℕ → ℕ → Bool
is_character_of scalars_of b = is_ascii b && is_member nat_eq scalars_of b

scalars_read : (cs bytes : List ℕ) → MatchesBytes (bytes_of_scalars cs) bytes →
    (c : ℕ) × Contains cs c × (bytes ≡ encode_utf8 c)
scalars_read cs bytes (inl m) =
    let both = and_parts (is_ascii m.0) (is_member nat_eq cs m.0) ((in_bytes_that (is_character_of cs) m.0).0 m.2).1 in
    let low : m.0 ≤ 127 = leb-true m.0 127 both.0 in
    let lt : m.0 < 128 = omega (arith, low) in
    (m.0, (is_member-Decides Decides-eqb cs m.0).0 both.1, m.1 ∙ sym (encode_ascii m.0 lt))
scalars_read cs bytes (inr m) =
    let h = sequences_read (wide_scalars cs) bytes m in
    (h.0, ((in_filter (λ c. not (is_ascii c)) cs h.0).0 h.1).0, h.2)

scalars_spell : (cs : List ℕ) (c : ℕ) → Contains cs c → MatchesBytes (bytes_of_scalars cs) (encode_utf8 c)
scalars_spell cs c has = elim (cases_lt c 128) [
  | inl lt ↦ inl (
    c,
    encode_ascii c lt,
    (in_bytes_that (is_character_of cs) c).1 (
      omega (arith, lt),
      and_from (is_ascii c) (is_member nat_eq cs c) (le-leb c 127 (omega (arith, lt)))
          ((is_member-Decides Decides-eqb cs c).1 has),
    ),
  )
  | inr ge ↦ inr
      (sequences_spell (wide_scalars cs) c ((in_filter (λ c. not (is_ascii c)) cs c).1 (
        has,
        not_from_false (is_ascii c) (lt-leb c 127 (omega (arith, ge))),
      )))
]

-- what is in a list of scalars is a scalar
scalar_in : (cs : List ℕ) (c : ℕ) → scalars cs ≡ true → Contains cs c → IsScalar c
scalar_in [] c all has = absurd (none_in c has)
scalar_in (d ∷ cs) c all has =
    let both = and_parts (scalar d) (scalars cs) all in
    elim (first_or_behind d cs c has) [
      | inl same ↦ subst IsScalar same both.0
      | inr behind ↦ scalar_in cs c both.1 behind
    ]

-- expressions that have no closing text
plain_literal : (bytes : List ℕ) → IsPlain (literal bytes)
plain_literal [] = tt
plain_literal (byte ∷ bytes) = (tt, plain_literal bytes)

plain_sequences : (cs : List ℕ) → IsPlain (one_of_these (map sequence cs))
plain_sequences [] = tt
plain_sequences (c ∷ cs) = (plain_literal (encode_utf8 c), plain_sequences cs)

plain_class : (k : Class) → IsPlain (bytes_of_class k)
plain_class Digit = tt
plain_class Letter = tt
plain_class Upper = tt
plain_class Lower = tt
plain_class AnyChar = (tt, ((tt, (tt, tt)), ((tt, (tt, (tt, tt))), ((tt, (tt, (tt, (tt, tt)))), tt))))

plain_without : (test : ℕ → Bool) (x : ByteExpression) → IsPlain x → IsPlain (without test x)
plain_without test empty plain = tt
plain_without test nothing plain = tt
plain_without test (byte_in set) plain = tt
plain_without test (in_turn x y) plain = (plain_without test x plain.0, plain_without test y plain.1)
plain_without test (either x y) plain = (plain_without test x plain.0, plain_without test y plain.1)
plain_without test (star x) plain = plain_without test x plain
plain_without test (plus x) plain = plain_without test x plain
plain_without test (until closing) plain = absurd plain

plain_bytes : (x : Expression) → IsPlain (bytes_of x)
plain_bytes Expression.empty = tt
plain_bytes (class k) = plain_class k
plain_bytes (one_scalar c) = plain_literal (encode_utf8 c)
plain_bytes (any_of name) = (tt, plain_sequences (wide_scalars (chars name)))
plain_bytes (word name) = plain_literal name
plain_bytes (Expression.in_turn x y) = (plain_bytes x, plain_bytes y)
plain_bytes Expression.nothing = tt
plain_bytes (Expression.either x y) = (plain_bytes x, plain_bytes y)
plain_bytes (minus x y) = plain_without (has_character y) (bytes_of x) (plain_bytes x)
plain_bytes (Expression.star x) = plain_bytes x
plain_bytes (Expression.plus x) = plain_bytes x
plain_bytes (optional x) = (tt, (plain_bytes x, tt))

-- a scalar that an ASCII class does not match has bytes that are kept, and the other way round
kept_scalar : (y : Expression) → IsSound y → IsAsciiClass y → (c : ℕ) → IsScalar c → (bytes : List ℕ) →
    bytes ≡ encode_utf8 c → (Matches y bytes → ⊥) → AreKept (has_character y) bytes
kept_scalar y sound ascii c is bytes e never = elim (cases_lt c 128) [
  | inl lt ↦
      let one : bytes ≡ c ∷ [] = e ∙ encode_ascii c lt in
      subst (AreKept (has_character y)) (sym one) (elim (cases_Bool (has_character y c)) [
        | inl t ↦ absurd (never ((ascii_matches y sound ascii bytes).1 (c, lt, one, t)))
        | inr f ↦ (and_right (is_ascii c) (has_character y c) f, tt)
      ])
  | inr ge ↦ subst (AreKept (has_character y)) (sym e) (wide_kept (has_character y) (encode_utf8 c) (wide_bytes c is ge))
]

unkept_scalar : (y : Expression) → IsSound y → IsAsciiClass y → (bytes : List ℕ) →
    AreKept (has_character y) bytes → Matches y bytes → ⊥
unkept_scalar y sound ascii bytes kept m =
    let h = (ascii_matches y sound ascii bytes).0 m in
    let one : AreKept (has_character y) (h.0 ∷ []) = subst (AreKept (has_character y)) h.2 kept in
    both_ways (is_ascii h.0 && has_character y h.0) one.0
    (and_from (is_ascii h.0) (has_character y h.0) (le-leb h.0 127 (omega (arith, h.1))) h.3)

-- what the bytes of an expression match at the front of a text, the expression matches, and a text lies behind it
pub reads : (x : Expression) → IsSound x → (bytes rest : List ℕ) → MatchesBytes (bytes_of x) bytes →
    IsUtf8 (bytes ++ rest) → IsUtf8 rest × Matches x bytes
reads Expression.empty sound bytes rest m text = (subst IsUtf8 (ap (λ (q : List ℕ). q ++ rest) m) text, m)
reads (class k) sound bytes rest m text =
    let h = class_reads k bytes rest m text in (behind_scalar h.0 bytes rest h.2 text, h)
reads (one_scalar c) sound bytes rest m text =
    let e = literal_reads (encode_utf8 c) bytes m in (behind_scalar c bytes rest e text, e)
reads (any_of name) sound bytes rest m text =
    let h = scalars_read (chars name) bytes m in
    let is = scalar_in (chars name) h.0 (scalars-chars name sound) h.1 in
    (behind_scalar h.0 bytes rest h.2 text, (h.0, is, h.2, h.1))
reads (word name) sound bytes rest m text =
    let e = literal_reads name bytes m in
    (behind_text name rest sound (subst IsUtf8 (ap (λ (q : List ℕ). q ++ rest) e) text), e)
reads (Expression.in_turn x y) sound bytes rest m text =
    let a = reads x sound.0 m.0 (m.1 ++ rest) m.3 (behind_front bytes m.0 m.1 rest m.2 text) in
    let b = reads y sound.1 m.1 rest m.4 a.0 in
    (b.0, (m.0, m.1, m.2, a.1, b.1))
reads Expression.nothing sound bytes rest m text = absurd m
reads (Expression.either x y) sound bytes rest (inl m) text =
    let a = reads x sound.0 bytes rest m text in (a.0, inl a.1)
reads (Expression.either x y) sound bytes rest (inr m) text =
    let a = reads y sound.1 bytes rest m text in (a.0, inr a.1)
reads (minus x y) sound bytes rest m text =
    let h = (without_narrows (has_character y) (bytes_of x) (plain_bytes x) bytes).0 m in
    let a = reads x sound.1 bytes rest h.0 text in
    (a.0, (class_is_scalar x sound.0.0 sound.1 bytes a.1, a.1, unkept_scalar y sound.2 sound.0.1 bytes h.1))
reads (Expression.star x) sound bytes rest m text =
    reads_repeats (MatchesBytes (bytes_of x)) (Matches x) (λ bytes rest m text. reads x sound bytes rest m text)
    bytes rest m text
reads (Expression.plus x) sound bytes rest m text =
    let a = reads x sound m.0 (m.1 ++ rest) m.3 (behind_front bytes m.0 m.1 rest m.2 text) in
    let b =
    reads_repeats (MatchesBytes (bytes_of x)) (Matches x) (λ bytes rest m text. reads x sound bytes rest m text)
    m.1 rest m.4 a.0 in
    (b.0, (m.0, m.1, m.2, a.1, b.1))
reads (optional x) sound bytes rest (inl m) text = (subst IsUtf8 (ap (λ (q : List ℕ). q ++ rest) m) text, inl m)
reads (optional x) sound bytes rest (inr (inl m)) text =
    let a = reads x sound bytes rest m text in (a.0, inr a.1)
reads (optional x) sound bytes rest (inr (inr m)) text = absurd m

-- what an expression matches, its bytes match
pub spells : (x : Expression) → IsSound x → (bytes : List ℕ) → Matches x bytes → MatchesBytes (bytes_of x) bytes
spells Expression.empty sound bytes m = m
spells (class k) sound bytes m = class_spells k bytes m
spells (one_scalar c) sound bytes m = subst (MatchesBytes (literal (encode_utf8 c))) (sym m) (literal_spells (encode_utf8 c))
spells (any_of name) sound bytes m =
    subst (MatchesBytes (bytes_of_scalars (chars name))) (sym m.2) (scalars_spell (chars name) m.0 m.3)
spells (word name) sound bytes m = subst (MatchesBytes (literal name)) (sym m) (literal_spells name)
spells (Expression.in_turn x y) sound bytes m =
    (m.0, m.1, m.2, spells x sound.0 m.0 m.3, spells y sound.1 m.1 m.4)
spells Expression.nothing sound bytes m = absurd m
spells (Expression.either x y) sound bytes (inl m) = inl (spells x sound.0 bytes m)
spells (Expression.either x y) sound bytes (inr m) = inr (spells y sound.1 bytes m)
spells (minus x y) sound bytes m =
    let one = m.0 in
    (without_narrows (has_character y) (bytes_of x) (plain_bytes x) bytes).1
    (spells x sound.1 bytes m.1, kept_scalar y sound.2 sound.0.1 one.0 one.1 bytes one.2 m.2)
spells (Expression.star x) sound bytes m =
    spells_repeats (Matches x) (MatchesBytes (bytes_of x)) (λ part h. spells x sound part h) bytes m
spells (Expression.plus x) sound bytes m = (
  m.0,
  m.1,
  m.2,
  spells x sound m.0 m.3,
  spells_repeats (Matches x) (MatchesBytes (bytes_of x)) (λ part h. spells x sound part h) m.1 m.4,
)
spells (optional x) sound bytes (inl m) = inl m
spells (optional x) sound bytes (inr m) = inr (inl (spells x sound bytes m))

pub bytes_match : BytesMatchTheSame
bytes_match x sound bytes rest text = (λ m. (reads x sound bytes rest m text).1, spells x sound bytes)

-- the bytes on a line
abbrev LineSet : List ℕ
LineSet = bytes_that (λ b. not (nat_eq b 10))

line_reads : (bytes : List ℕ) → Repeats (MatchesBytes (byte_in LineSet)) bytes → IsOnLine bytes
line_reads bytes (none _ e) = All-same (λ byte. nat_eq byte 10 ≡ false) bytes [] e (All-nil (λ byte. nat_eq byte 10 ≡ false))
line_reads bytes (more _ front rest e some m r) =
    let t = ((in_bytes_that (λ b. not (nat_eq b 10)) m.0).0 m.2).1 in
    All-same (λ byte. nat_eq byte 10 ≡ false) bytes (m.0 ∷ rest) (e ∙ ap (λ (q : List ℕ). q ++ rest) m.1)
    (All-cons (λ byte. nat_eq byte 10 ≡ false) m.0 rest (not-true (nat_eq m.0 10) t) (line_reads rest r))

line_spells : (bytes : List ℕ) → AreBytes bytes → IsOnLine bytes → Repeats (MatchesBytes (byte_in LineSet)) bytes
line_spells [] are line = none [] refl
line_spells (byte ∷ bytes) are line =
    more (byte ∷ bytes) (byte ∷ []) bytes refl (λ e. cc) (
      byte,
      refl,
      (in_bytes_that (λ b. not (nat_eq b 10)) byte).1 (
        All-head (λ b. b < 256) byte bytes are,
        not_from_false (nat_eq byte 10) (All-head (λ b. nat_eq b 10 ≡ false) byte bytes line),
      ),
    )
    (line_spells bytes (All-tail (λ b. b < 256) byte bytes are) (All-tail (λ b. nat_eq b 10 ≡ false) byte bytes line))

-- the rest of bytes are bytes
rest_are_bytes : (bytes front rest : List ℕ) → bytes ≡ front ++ rest → AreBytes bytes → AreBytes rest
rest_are_bytes bytes front rest e are =
    subst AreBytes (ap (λ (q : List ℕ). drop (length front) q) e ∙ drop_at front rest (length front) refl)
    (All-drop (λ b. b < 256) (length front) bytes are)

-- an opening text, and a rest that is read and spelled
opened : (opening : List ℕ) (x : ByteExpression) (Rest : List ℕ → Type 0) (bytes : List ℕ) →
    ((rest : List ℕ) → bytes ≡ opening ++ rest → MatchesBytes x rest ↔ Rest rest) →
    MatchesBytes (these_in_turn (literal opening ∷ x ∷ [])) bytes
    ↔ ((rest : List ℕ) × (bytes ≡ opening ++ rest) × Rest rest)
opened opening x Rest bytes each = (
  λ m.
      let k = m.4 in
      let all : m.1 ≡ k.0 = k.2 ∙ ap (λ (q : List ℕ). k.0 ++ q) k.4 ∙ append-nil k.0 in
      let e : bytes ≡ opening ++ k.0 =
      m.2 ∙ ap (λ (q : List ℕ). q ++ m.1) (literal_reads opening m.0 m.3) ∙ ap (λ (q : List ℕ). opening ++ q) all in
      (k.0, e, (each k.0 e).0 k.3),
  λ h. (
    opening,
    h.0,
    h.1,
    literal_spells opening,
    (h.0, [], sym (append-nil h.0), (each h.0 h.1).1 h.2, refl),
  ),
)

white_is_byte : (byte : ℕ) → is_white byte ≡ true → byte < 256
white_is_byte byte t = grind (arith, nat_tests)

def_matches : (kind : KindDef) → IsSoundDef kind → (bytes rest : List ℕ) → IsUtf8 (bytes ++ rest) →
    MatchesBytes (bytes_of_def kind) bytes ↔ MatchesDef kind bytes
def_matches (Word name) sound bytes rest text =
    (λ m. literal_reads name bytes m, λ e. subst (MatchesBytes (literal name)) (sym e) (literal_spells name))
def_matches (TokenDef name expr) sound bytes rest text = bytes_match (expression_of expr) sound bytes rest text

pub kinds_match : KindsMatchTheSame
kinds_match white sound bytes rest are text = (
  λ m. (m.0, m.1, ((in_bytes_that is_white m.0).0 m.2).1),
  λ h. (h.0, h.1, (in_bytes_that is_white h.0).1 (white_is_byte h.0 h.2, h.2)),
)
kinds_match (line_comment opening) sound bytes rest are text =
    opened opening (star (byte_in LineSet)) IsOnLine bytes
    (λ line e. (line_reads line, line_spells line (rest_are_bytes bytes opening line e are)))
kinds_match (block_comment opening closing) sound bytes rest are text =
    opened opening (until closing) (λ inside. EndsFirst inside closing) bytes (λ inside e. (λ m. m, λ m. m))
kinds_match (symbol number kind) sound bytes rest are text = def_matches kind sound bytes rest text
