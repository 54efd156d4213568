-- The bytes of scalars: what the sets of any scalar let through at the front of a text is a scalar.
use Rattle.std.proofs.Common.{◌≡◌, ℕ, ◌+◌, ◌/◌, ◌%◌, ◌<◌, ◌≤◌, ◌⊎◌, List, [], ◌∷◌, ◌++◌, true, length, refl, sym, ◌∙◌, ap, inl, inr, arith, append_assoc, subst, length-append, lt-ltb, le-ltb}
use Rattle.std.proofs.lemmas.Bool.{cond-true, cond-false, and_parts}
use Rattle.std.proofs.lemmas.Bool.Decides.{nat_tests}
use Rattle.std.proofs.lemmas.Str.{encode_ascii, IsUtf8-past_char}
use Rattle.std.specs.Str.{IsUtf8, continuation_len}
use Rattle.std.specs.Char.{IsScalar, encode_utf8}
use lib.Utf8.{scalar, scalars, encodes}
use Rattle.spec_automata.specs.ByteExpressions.{MatchesBytes}
use Rattle.spec_automata.specs.Encoding.{byte_between, next_byte, these_in_turn, any_scalar, literal}
use Rattle.spec_automata.proofs.ByteSetLemmas.{none_in, first_or_behind, has_first, in_between}

encode_two : (c : ℕ) → 0x80 ≤ c → c < 0x800 → encode_utf8 c ≡ (192 + c / 64) ∷ (128 + c % 64) ∷ []
unfolding encode_utf8
encode_two c low high = cond-false _ _ _ (le-ltb c 128 low) ∙ cond-true _ _ _ (lt-ltb c 2048 high)

encode_three : (c : ℕ) → 0x800 ≤ c → c < 0x1_0000 →
    encode_utf8 c ≡ (224 + c / 4096) ∷ (128 + (c / 64) % 64) ∷ (128 + c % 64) ∷ []
unfolding encode_utf8
encode_three c low high =
    cond-false _ _ _ (le-ltb c 128 (omega arith)) ∙ cond-false _ _ _ (le-ltb c 2048 low)
    ∙ cond-true _ _ _ (lt-ltb c 65536 high)

encode_four : (c : ℕ) → 0x1_0000 ≤ c →
    encode_utf8 c ≡ (240 + c / 262144) ∷ (128 + (c / 4096) % 64) ∷ (128 + (c / 64) % 64) ∷ (128 + c % 64) ∷ []
unfolding encode_utf8
encode_four c low =
    cond-false _ _ _ (le-ltb c 128 (omega arith)) ∙ cond-false _ _ _ (le-ltb c 2048 (omega arith))
    ∙ cond-false _ _ _ (le-ltb c 65536 low)

pub scalar_below : (c : ℕ) → IsScalar c → c < 0x11_0000
scalar_below c h = grind (arith, nat_tests)

pub ascii_is_scalar : (c : ℕ) → c < 128 → IsScalar c
ascii_is_scalar c h = grind (arith, nat_tests)

-- the bytes begin with one that tells how many there are
abbrev LeadSays : List ℕ → Type 0
LeadSays bytes = (a : ℕ) × (t : List ℕ) × (bytes ≡ a ∷ t) × (length t ≡ continuation_len a)

len_one : (a : ℕ) → a < 128 → continuation_len a ≡ 0
len_one a h = grind (arith, nat_tests)

len_two : (a : ℕ) → 128 ≤ a → a < 224 → continuation_len a ≡ 1
len_two a h k = grind (arith, nat_tests)

len_three : (a : ℕ) → 224 ≤ a → a < 240 → continuation_len a ≡ 2
len_three a h k = grind (arith, nat_tests)

len_four : (a : ℕ) → 240 ≤ a → continuation_len a ≡ 3
len_four a h = grind (arith, nat_tests)

size_cases : (c : ℕ) → c < 0x11_0000 →
    (c < 0x80) ⊎ ((0x80 ≤ c) × (c < 0x800)) ⊎ ((0x800 ≤ c) × (c < 0x1_0000)) ⊎ (0x1_0000 ≤ c)
size_cases c h = grind arith

-- the first byte of a scalar tells how many follow
encode_says : (c : ℕ) → IsScalar c → LeadSays (encode_utf8 c)
encode_says c is = elim (size_cases c (scalar_below c is)) [
  | inl h ↦ (c, [], encode_ascii c h, sym (len_one c h))
  | inr r ↦ elim r [
    | inl h ↦ (
      192 + c / 64,
      (128 + c % 64) ∷ [],
      encode_two c h.0 h.1,
      sym (len_two (192 + c / 64) (omega arith) (omega (arith, h.1))),
    )
    | inr r ↦ elim r [
      | inl h ↦ (
        224 + c / 4096,
        (128 + (c / 64) % 64) ∷ (128 + c % 64) ∷ [],
        encode_three c h.0 h.1,
        sym (len_three (224 + c / 4096) (omega arith) (omega (arith, h.1))),
      )
      | inr h ↦ (
        240 + c / 262144,
        (128 + (c / 4096) % 64) ∷ (128 + (c / 64) % 64) ∷ (128 + c % 64) ∷ [],
        encode_four c h,
        sym (len_four (240 + c / 262144) (omega arith)),
      )
    ]
  ]
]

one_long : (v : List ℕ) → MatchesBytes next_byte v → length v ≡ 1
one_long v m = ap length m.1

-- what the sets of any scalar let through has a first byte that tells how many follow
any_scalar_says : (w : List ℕ) → MatchesBytes any_scalar w → LeadSays w
any_scalar_says w (inl h) =
    (h.0, [], h.1, sym (len_one h.0 (omega (arith, ((in_between 0 127 h.0 (omega arith)).0 h.2).1))))
any_scalar_says w (inr (inl h)) =
    let a = h.3 in
    let r = (in_between 194 223 a.0 (omega arith)).0 a.2 in
    let k = h.4 in (
      a.0,
      h.1,
      h.2 ∙ ap (λ (z : List ℕ). z ++ h.1) a.1,
      omega
          (arith, ap length k.2, length-append k.0 k.1, one_long k.0 k.3, ap length k.4, len_two a.0 (omega (arith, r.0)) (omega (arith, r.1))),
    )
any_scalar_says w (inr (inr (inl h))) =
    let a = h.3 in
    let r = (in_between 224 239 a.0 (omega arith)).0 a.2 in
    let k = h.4 in
    let l = k.4 in (
      a.0,
      h.1,
      h.2 ∙ ap (λ (z : List ℕ). z ++ h.1) a.1,
      omega
          (arith, ap length k.2, length-append k.0 k.1, one_long k.0 k.3, ap length l.2, length-append l.0 l.1, one_long l.0 l.3, ap length l.4, len_three a.0 (omega (arith, r.0)) (omega (arith, r.1))),
    )
any_scalar_says w (inr (inr (inr (inl h)))) =
    let a = h.3 in
    let r = (in_between 240 244 a.0 (omega arith)).0 a.2 in
    let k = h.4 in
    let l = k.4 in
    let m = l.4 in (
      a.0,
      h.1,
      h.2 ∙ ap (λ (z : List ℕ). z ++ h.1) a.1,
      omega
          (arith, ap length k.2, length-append k.0 k.1, one_long k.0 k.3, ap length l.2, length-append l.0 l.1, one_long l.0 l.3, ap length m.2, length-append m.0 m.1, one_long m.0 m.3, ap length m.4, len_four a.0 (omega (arith, r.0))),
    )
any_scalar_says w (inr (inr (inr (inr h)))) = absurd h

between : (least greatest b : ℕ) → greatest < 256 → least ≤ b → b ≤ greatest → MatchesBytes (byte_between least greatest) (b ∷ [])
between least greatest b small low high = (b, refl, (in_between least greatest b small).1 (low, high))

next : (q : ℕ) → q < 64 → MatchesBytes next_byte ((128 + q) ∷ [])
next q lt = between 128 191 (128 + q) (omega arith) (omega arith) (omega (arith, lt))

last_byte : (q : ℕ) → q < 64 → MatchesBytes (these_in_turn (next_byte ∷ [])) ((128 + q) ∷ [])
last_byte q lt = ((128 + q) ∷ [], [], refl, next q lt, refl)

-- each scalar is let through
pub any_scalar_spells : (c : ℕ) → IsScalar c → MatchesBytes any_scalar (encode_utf8 c)
any_scalar_spells c is = elim (size_cases c (scalar_below c is)) [
  | inl h ↦ inl (c, encode_ascii c h, (in_between 0 127 c (omega arith)).1 (omega arith, omega (arith, h)))
  | inr r ↦ elim r [
    | inl h ↦ inr (inl (
      (192 + c / 64) ∷ [],
      (128 + c % 64) ∷ [],
      encode_two c h.0 h.1,
      between 194 223 (192 + c / 64) (omega arith) (omega (arith, h.0)) (omega (arith, h.1)),
      last_byte (c % 64) (omega arith),
    ))
    | inr r ↦ elim r [
      | inl h ↦ inr (inr (inl (
        (224 + c / 4096) ∷ [],
        (128 + (c / 64) % 64) ∷ (128 + c % 64) ∷ [],
        encode_three c h.0 h.1,
        between 224 239 (224 + c / 4096) (omega arith) (omega arith) (omega (arith, h.1)),
        (
          (128 + (c / 64) % 64) ∷ [],
          (128 + c % 64) ∷ [],
          refl,
          next ((c / 64) % 64) (omega arith),
          last_byte (c % 64) (omega arith),
        ),
      )))
      | inr h ↦ inr (inr (inr (inl (
        (240 + c / 262144) ∷ [],
        (128 + (c / 4096) % 64) ∷ (128 + (c / 64) % 64) ∷ (128 + c % 64) ∷ [],
        encode_four c h,
        between 240 244 (240 + c / 262144) (omega arith) (omega arith) (omega (arith, scalar_below c is)),
        (
          (128 + (c / 4096) % 64) ∷ [],
          (128 + (c / 64) % 64) ∷ (128 + c % 64) ∷ [],
          refl,
          next ((c / 4096) % 64) (omega arith),
          (
            (128 + (c / 64) % 64) ∷ [],
            (128 + c % 64) ∷ [],
            refl,
            next ((c / 64) % 64) (omega arith),
            last_byte (c % 64) (omega arith),
          ),
        ),
      ))))
    ]
  ]
]

first_of : List ℕ → ℕ
first_of [] = 0
first_of (a ∷ t) = a

rest_of : List ℕ → List ℕ
rest_of [] = []
rest_of (a ∷ t) = t

-- fronts of one text with one length
same_front : (u v x y : List ℕ) → u ++ x ≡ v ++ y → length u ≡ length v → u ≡ v
unfolding first_of rest_of
same_front [] [] x y e l = refl
same_front [] (b ∷ v) x y e l = absurd (omega (arith, l))
same_front (a ∷ u) [] x y e l = absurd (omega (arith, l))
same_front (a ∷ u) (b ∷ v) x y e l =
    let h : a ≡ b = ap first_of e in
    let t : u ≡ v = same_front u v x y (ap rest_of e) (omega (arith, l)) in
    ap (λ (z : ℕ). z ∷ u) h ∙ ap (λ (z : List ℕ). b ∷ z) t

-- what is let through at the front of a text is a scalar
pub any_scalar_reads : (w z : List ℕ) → MatchesBytes any_scalar w → IsUtf8 (w ++ z) →
    (c : ℕ) × IsScalar c × (w ≡ encode_utf8 c)
unfolding first_of
any_scalar_reads w z m u = by_scalars u.0 (u.1).0 (u.1).1
  where
    says : LeadSays w
    says = any_scalar_says w m

    by_scalars : (cs : List ℕ) → scalars cs ≡ true → encodes cs ≡ w ++ z → (c : ℕ) × IsScalar c × (w ≡ encode_utf8 c)
    by_scalars [] s e = absurd (omega (arith, ap length (e ∙ ap (λ (q : List ℕ). q ++ z) says.2)))
    by_scalars (c ∷ cs) s e =
        let is : IsScalar c = (and_parts (scalar c) (scalars cs) s).0 in
        let lead = encode_says c is in
        let whole : lead.0 ∷ (lead.1 ++ encodes cs) ≡ says.0 ∷ (says.1 ++ z) =
        ap (λ (q : List ℕ). q ++ encodes cs) (sym lead.2) ∙ e ∙ ap (λ (q : List ℕ). q ++ z) says.2 in
        let first : lead.0 ≡ says.0 = ap first_of whole in
        let len : length w ≡ length (encode_utf8 c) =
        omega (arith, ap length says.2, ap length lead.2, says.3, lead.3, ap continuation_len first) in
        (c, is, same_front w (encode_utf8 c) z (encodes cs) (sym e) len)

-- bytes in turn match themselves alone
pub literal_reads : (u w : List ℕ) → MatchesBytes (literal u) w → w ≡ u
literal_reads [] w m = m
literal_reads (b ∷ u) w m =
    let k = m.3 in
    let same : b ≡ k.0 = elim (first_or_behind b [] k.0 k.2) [ inl e ↦ e | inr n ↦ absurd (none_in k.0 n) ] in
    m.2 ∙ ap (λ (z : List ℕ). z ++ m.1) (k.1 ∙ ap (λ (z : ℕ). z ∷ []) (sym same))
    ∙ ap (λ (z : List ℕ). b ∷ z) (literal_reads u m.1 m.4)

pub literal_spells : (u : List ℕ) → MatchesBytes (literal u) u
literal_spells [] = refl
literal_spells (b ∷ u) = (b ∷ [], u, refl, (b, refl, has_first b []), literal_spells u)

-- all bytes of a scalar that is not ASCII are above
abbrev pub AllWide : List ℕ → Type 0
AllWide [] = Unit {0}
AllWide (b ∷ bytes) = (128 ≤ b) × AllWide bytes

pub wide_bytes : (c : ℕ) → IsScalar c → 128 ≤ c → AllWide (encode_utf8 c)
wide_bytes c is low = elim (size_cases c (scalar_below c is)) [
  | inl h ↦ absurd (omega (arith, h, low))
  | inr r ↦ elim r [
    | inl h ↦ rw (encode_two c h.0 h.1) (omega arith, (omega arith, tt))
    | inr r ↦ elim r [
      | inl h ↦ rw (encode_three c h.0 h.1) (omega arith, (omega arith, (omega arith, tt)))
      | inr h ↦ rw (encode_four c h) (omega arith, (omega arith, (omega arith, (omega arith, tt))))
    ]
  ]
]

-- what lies behind a text in a text is a text
pub behind_text : (front rest : List ℕ) → IsUtf8 front → IsUtf8 (front ++ rest) → IsUtf8 rest
behind_text front rest is text = behind_scalars is.0 front (is.1).1 text
  where
    behind_scalars : (cs u : List ℕ) → encodes cs ≡ u → IsUtf8 (u ++ rest) → IsUtf8 rest
    behind_scalars [] u e h = subst IsUtf8 (ap (λ (q : List ℕ). q ++ rest) (sym e)) h
    behind_scalars (c ∷ cs) u e h =
        behind_scalars cs (encodes cs) refl
        (IsUtf8-past_char (u ++ rest) (encodes cs ++ rest) c h
        (ap (λ (q : List ℕ). q ++ rest) (sym e) ∙ append_assoc (encode_utf8 c) (encodes cs) rest))
