-- Laws of sets of symbols as the bits of words.
use Rattle.std.proofs.Common.{◌≡◌, ℕ, zero, suc, ◌+◌, ◌-◌, ◌*◌, ◌/◌, ◌%◌, ◌^◌, IsTrue, ◌<◌, ◌≤◌, ◌↔◌, ◌⊎◌, List, [], ◌∷◌, length, get_or, set, cond, Bool, true, false, nat_eq, refl, sym, ◌∙◌, ap, inl, inr, arith, eqb-true, eq-eqb, w64}
use Rattle.std.specs.List.{Contains, filter, range_with_len}
use Rattle.std.specs.Int.{bit_at, trailing_zeros}
use Rattle.std.specs.Prelude.{bit_or, bit_and, Some}
use Rattle.std.proofs.lemmas.Bool.{false≢true, cases_lt, cases_eq}
use Rattle.std.proofs.lemmas.List.{get_or_past, get_or-set_same, get_or-set_other}
use Rattle.std.proofs.lemmas.Nat.Bits.{bit_at-zero, bit_at-lt, bit_at_or, bit_at_and, shr_and_one, bit_at-trailing_zeros, bit_at_above, same_from_bits_below, bit_at_set_same, bit_at_set_other}
use Rattle.std.proofs.lemmas.Nat.{shr-shr, shr_le, and_le_l}
use Rattle.cell_sets.specs.Cells.{IsRising, IsUnion, IsCommon, Meet, HaveSame, IsNextFrom, AddsSymbol}
use Rattle.cell_sets.specs.Words.{has_bit, symbols_of, IsFirstBit}
use Rattle.cell_sets.proofs.CellsLemmas.{has_first, has_behind, first_or_behind, rising_lists_are_sets}
use Rattle.cell_sets.proofs.RisingLemmas.{rising_first}

-- what passes a test among so many numbers from one on
abbrev passing : (ℕ → Bool) → ℕ → ℕ → List ℕ
passing test a n = filter test (range_with_len a n)

-- what passes among one number and those behind it is that number, if it passes, or behind it
has_passing_first :
    (test : ℕ → Bool) (a n s : ℕ) (told : Bool) → test a ≡ told
    → Contains (cond told (a ∷ passing test (a + 1) n) (passing test (a + 1) n)) s
    ↔ (((s ≡ a) × (test a ≡ true)) ⊎ Contains (passing test (a + 1) n) s)
has_passing_first test a n s true is = (
  (λ has. elim (first_or_behind a (passing test (a + 1) n) s has) [
    | inl same ↦ inl (same, is)
    | inr behind ↦ inr behind
  ]),
  (elim [
    | inl first ↦ rw first.0 (has_first a (passing test (a + 1) n))
    | inr behind ↦ has_behind a (passing test (a + 1) n) s behind
  ]),
)
has_passing_first test a n s false is = (
  (λ has. inr has),
  (elim [
    | inl first ↦ absurd (false≢true (sym is ∙ first.1))
    | inr behind ↦ behind
  ]),
)

-- a number passes among others where it is one of them and passes the test
has_passing :
    (test : ℕ → Bool) (a n s : ℕ)
    → Contains (passing test a n) s ↔ ((a ≤ s) × (s < a + n) × (test s ≡ true))
has_passing test a zero s = (
  (λ has. let within : has.0 < 0 = has.1 in absurd (omega (arith, within))),
  (λ is. absurd (omega (arith, is.0, is.1))),
)
has_passing test a (suc n) s =
    let first = has_passing_first test a n s (test a) refl in
    let behind = has_passing test (a + 1) n s in (
      (λ has. elim (first.0 has) [
        | inl is ↦ (omega (arith, is.0), omega (arith, is.0), rw is.0 is.1)
        | inr more ↦ let is = behind.0 more in (omega (arith, is.0), omega (arith, is.1), is.2)
      ]),
      (λ is. elim (cases_lt a s) [
        | inl above ↦ first.1 (inr (behind.1 (omega (arith, above), omega (arith, is.1), is.2)))
        | inr at ↦
            let same : s ≡ a = omega (arith, at, is.0) in first.1 (inl (same, rw same at is.2))
      ]),
    )

-- with one number before it, what passes is in rising order
passing_first_rises :
    (test : ℕ → Bool) (a n : ℕ) (told : Bool) → IsRising (passing test (a + 1) n)
    → IsRising (cond told (a ∷ passing test (a + 1) n) (passing test (a + 1) n))
passing_first_rises test a n true rising = rising_first a (passing test (a + 1) n) rising
    (λ t has. let is = (has_passing test (a + 1) n t).0 has in omega (arith, is.0))
passing_first_rises test a n false rising = rising

-- what passes is in rising order
passing_rises : (test : ℕ → Bool) (a n : ℕ) → IsRising (passing test a n)
passing_rises test a zero = λ i j order within. absurd (omega (arith, within))
passing_rises test a (suc n) = passing_first_rises test a n (test a) (passing_rises test (a + 1) n)

-- the symbols of words are in rising order
pub symbols_rise : (words : List ℕ) → IsRising (symbols_of words)
unfolding symbols_of
symbols_rise words = passing_rises (has_bit words) 0 (64 * length words)

-- the bit of a symbol in the words
abbrev pub bit_of : List ℕ → ℕ → ℕ
bit_of words s = bit_at (get_or words (s / 64) 0) (s % 64)

-- behind the words there are no bits
pub bit_behind : (words : List ℕ) (s : ℕ) → 64 * length words ≤ s → bit_of words s ≡ 0
bit_behind words s behind =
    rw (get_or_past words (s / 64) 0 (omega (arith, behind))) (bit_at-zero (s % 64))

-- the symbols of words are those whose bits are set
pub is_symbol : (words : List ℕ) (s : ℕ) → Contains (symbols_of words) s ↔ (bit_of words s ≡ 1)
unfolding symbols_of
is_symbol words s =
    let passes = has_passing (has_bit words) 0 (64 * length words) s in (
      (λ has. eqb-true (bit_of words s) 1 (passes.0 has).2),
      (λ set. elim (cases_lt s (64 * length words)) [
        | inl within ↦ passes.1 (omega arith, omega (arith, within), eq-eqb (bit_of words s) 1 set)
        | inr behind ↦ absurd (omega (arith, set, bit_behind words s behind))
      ]),
    )

-- a bit that is set in a word is that of a symbol
pub symbol_at :
    (words : List ℕ) (k b : ℕ) → b < 64 → bit_at (get_or words k 0) b ≡ 1
    → Contains (symbols_of words) (64 * k + b)
symbol_at words k b small set =
    let word : (64 * k + b) / 64 ≡ k = omega (arith, small) in
    let place : (64 * k + b) % 64 ≡ b = omega (arith, small) in
    (is_symbol words (64 * k + b)).1 (rw (word, place) set)

-- words that are 0 have no symbols
pub none_set :
    (words : List ℕ) → ((k : ℕ) → k < length words → get_or words k 0 ≡ 0) → symbols_of words ≡ []
none_set words zero_each =
    rising_lists_are_sets (symbols_of words) [] (symbols_rise words)
    (λ i j order within. absurd (omega (arith, within)))
    (λ s. (
      (λ has. absurd (none s ((is_symbol words s).0 has))),
      (λ has. let within : has.0 < 0 = has.1 in absurd (omega (arith, within))),
    )) where
      none : (s : ℕ) → bit_of words s ≡ 1 → ⊥
      none s set = elim (cases_lt s (64 * length words)) [
        | inl within ↦
            let clear : bit_of words s ≡ 0 =
            ap (λ x. bit_at x (s % 64)) (zero_each (s / 64) (omega (arith, within)))
            ∙ bit_at-zero (s % 64) in
            omega (arith, set, clear)
        | inr behind ↦ omega (arith, set, bit_behind words s behind)
      ]

-- words of which each is the union of two others have the symbols of both
pub bits_united :
    (left right both : List ℕ)
    → ((k : ℕ) → get_or both k 0 ≡ bit_or (get_or left k 0) (get_or right k 0))
    → IsUnion (symbols_of left) (symbols_of right) (symbols_of both)
bits_united left right both each s =
    let at : bit_of both s ≡ bit_at (bit_or (get_or left (s / 64) 0) (get_or right (s / 64) 0)) (s % 64) =
    ap (λ x. bit_at x (s % 64)) (each (s / 64)) in
    let of = bit_at_or (get_or left (s / 64) 0) (get_or right (s / 64) 0) (s % 64) in
    let l = is_symbol left s in let r = is_symbol right s in let b = is_symbol both s in (
      (λ has. elim (cases_eq (bit_of left s) 1) [
        | inl set ↦ inl (l.1 set)
        | inr clear ↦ inr (r.1 (omega (
          arith,
          at,
          of,
          b.0 has,
          clear,
          bit_at-lt (get_or left (s / 64) 0) (s % 64),
          bit_at-lt (get_or right (s / 64) 0) (s % 64),
        )))
      ]),
      (elim [
        | inl has ↦ b.1 (omega (
          arith,
          at,
          of,
          l.0 has,
          bit_at-lt (get_or right (s / 64) 0) (s % 64),
        ))
        | inr has ↦ b.1 (omega (
          arith,
          at,
          of,
          r.0 has,
          bit_at-lt (get_or left (s / 64) 0) (s % 64),
        ))
      ]),
    )

-- words of which each is what two others have in common have the common symbols
pub bits_common :
    (left right common : List ℕ)
    → ((k : ℕ) → get_or common k 0 ≡ bit_and (get_or left k 0) (get_or right k 0))
    → IsCommon (symbols_of left) (symbols_of right) (symbols_of common)
bits_common left right common each s =
    let at : bit_of common s ≡ bit_at (bit_and (get_or left (s / 64) 0) (get_or right (s / 64) 0)) (s % 64) =
    ap (λ x. bit_at x (s % 64)) (each (s / 64)) in
    let of = bit_at_and (get_or left (s / 64) 0) (get_or right (s / 64) 0) (s % 64) in
    let low_left = bit_at-lt (get_or left (s / 64) 0) (s % 64) in
    let low_right = bit_at-lt (get_or right (s / 64) 0) (s % 64) in
    let l = is_symbol left s in let r = is_symbol right s in let b = is_symbol common s in (
      (λ has. (
        l.1 (omega (arith, at, of, b.0 has, low_left, low_right)),
        r.1 (omega (arith, at, of, b.0 has, low_left, low_right)),
      )),
      (λ both. b.1 (omega (arith, at, of, l.0 both.0, r.0 both.1))),
    )

-- a symbol is where it is tested
pub bit_tested :
    (words : List ℕ) (s : ℕ)
    → IsTrue (nat_eq (bit_and (get_or words (s / 64) 0 / 2 ^ (s % 64)) 1) 1)
    ↔ Contains (symbols_of words) s
bit_tested words s =
    let is = is_symbol words s in
    let test = shr_and_one (get_or words (s / 64) 0) (s % 64) in (
      (λ told. is.1 (sym test ∙ eqb-true (bit_and (get_or words (s / 64) 0 / 2 ^ (s % 64)) 1) 1 told)),
      (λ has. eq-eqb (bit_and (get_or words (s / 64) 0 / 2 ^ (s % 64)) 1) 1 (test ∙ is.0 has)),
    )

-- a word that is not 0 has the bit of a symbol
pub some_set :
    (words : List ℕ) (k : ℕ) → 0 < get_or words k 0 → get_or words k 0 < 2 ^ 64
    → symbols_of words ≡ [] → ⊥
some_set words k positive fits none =
    let lowest = bit_at-trailing_zeros w64 (get_or words k 0) positive fits in
    let has : Contains [] (64 * k + trailing_zeros w64 (get_or words k 0)) =
    rw none at (symbol_at words k (trailing_zeros w64 (get_or words k 0)) lowest.0 lowest.1) in
    let within : has.0 < 0 = has.1 in omega (arith, within)

-- a bit of a word that is shifted down stands higher in the word
pub bit_shifted :
    (word from k : ℕ) → bit_at (word / 2 ^ from) k ≡ bit_at word (from + k)
bit_shifted word from k = ap (λ x. x % 2) (shr-shr word from k)

-- lists meet where words at one place have a common bit
pub bits_meet :
    (left right : List ℕ) (k : ℕ) → 0 < bit_and (get_or left k 0) (get_or right k 0)
    → get_or left k 0 < 2 ^ 64 → Meet (symbols_of left) (symbols_of right)
bits_meet left right k positive fits =
    let both : ℕ = bit_and (get_or left k 0) (get_or right k 0) in
    let lowest = bit_at-trailing_zeros w64 both positive
    (omega (arith, fits, and_le_l (get_or left k 0) (get_or right k 0))) in
    let b : ℕ = trailing_zeros w64 both in
    let of = bit_at_and (get_or left k 0) (get_or right k 0) b in
    let low_left = bit_at-lt (get_or left k 0) b in
    let low_right = bit_at-lt (get_or right k 0) b in (
      64 * k + b,
      symbol_at left k b lowest.0 (omega (arith, of, lowest.1, low_left, low_right)),
      symbol_at right k b lowest.0 (omega (arith, of, lowest.1, low_left, low_right)),
    )

-- lists do not meet where words at no place have a common bit
pub none_meet :
    (left right : List ℕ)
    → ((k : ℕ) → k < length left → bit_and (get_or left k 0) (get_or right k 0) ≡ 0)
    → Meet (symbols_of left) (symbols_of right) → ⊥
none_meet left right none (s, has_left, has_right) =
    let l = (is_symbol left s).0 has_left in
    let r = (is_symbol right s).0 has_right in
    elim (cases_lt s (64 * length left)) [
      | inl within ↦
          let clear : bit_at (bit_and (get_or left (s / 64) 0) (get_or right (s / 64) 0)) (s % 64) ≡ 0 =
          ap (λ x. bit_at x (s % 64)) (none (s / 64) (omega (arith, within)))
          ∙ bit_at-zero (s % 64) in
          omega (arith, clear, l, r, bit_at_and (get_or left (s / 64) 0) (get_or right (s / 64) 0) (s % 64))
      | inr behind ↦ omega (arith, l, bit_behind left s behind)
    ]

-- a word that is 0 behind a place has no bit there
pub first_none :
    (word from : ℕ) → word / 2 ^ from ≡ 0 → (k : ℕ) → from ≤ k → bit_at word k ≡ 0
first_none word from none k behind =
    let place : from + (k - from) ≡ k = omega (arith, behind) in
    rw place at (sym (bit_shifted word from (k - from)) ∙ ap (λ x. bit_at x (k - from)) none ∙ bit_at-zero (k - from))

-- the lowest bit of a word that is shifted down is the first from the place on
pub first_some :
    (word from : ℕ) → 0 < word / 2 ^ from → word < 2 ^ 64
    → IsFirstBit word from (Some (from + trailing_zeros w64 (word / 2 ^ from)))
first_some word from positive fits =
    let left : ℕ = word / 2 ^ from in
    let lowest = bit_at-trailing_zeros w64 left positive (omega (arith, fits, shr_le word from)) in
    let n : ℕ = from + trailing_zeros w64 left in
    let set : bit_at word n ≡ 1 = sym (bit_shifted word from (trailing_zeros w64 left)) ∙ lowest.1 in (
      omega arith,
      elim (cases_lt n 64) [
        | inl small ↦ small
        | inr large ↦ absurd (omega (arith, set, bit_at_above word 64 n fits large))
      ],
      set,
      λ k behind before.
          let place : from + (k - from) ≡ k = omega (arith, behind) in
          rw place at (sym (bit_shifted word from (k - from)) ∙ lowest.2 (k - from) (omega (arith, behind, before))),
    )

-- a symbol has its bit set in its word
pub bit_at_symbol :
    (words : List ℕ) (k b : ℕ) → b < 64 → Contains (symbols_of words) (64 * k + b)
    → bit_at (get_or words k 0) b ≡ 1
bit_at_symbol words k b small has =
    let word : (64 * k + b) / 64 ≡ k = omega (arith, small) in
    let place : (64 * k + b) % 64 ≡ b = omega (arith, small) in
    rw (word, place) at ((is_symbol words (64 * k + b)).0 has)

-- words with the same symbols are the same
pub same_words :
    (left right : List ℕ) (k : ℕ) → get_or left k 0 < 2 ^ 64 → get_or right k 0 < 2 ^ 64
    → HaveSame (symbols_of left) (symbols_of right) → get_or left k 0 ≡ get_or right k 0
same_words left right k fits_left fits_right same =
    same_from_bits_below 64 (get_or left k 0) (get_or right k 0) fits_left fits_right
    (λ i small. elim (cases_eq (bit_at (get_or left k 0) i) 1) [
      | inl set ↦ set ∙ sym (bit_at_symbol right k i small ((same (64 * k + i)).0 (symbol_at left k i small set)))
      | inr clear ↦ elim (cases_eq (bit_at (get_or right k 0) i) 1) [
        | inl set ↦ absurd (clear (bit_at_symbol left k i small ((same (64 * k + i)).1 (symbol_at right k i small set))))
        | inr other ↦ omega (arith, clear, other, bit_at-lt (get_or left k 0) i, bit_at-lt (get_or right k 0) i)
      ]
    ])

-- the same words have the same symbols
pub same_symbols :
    (left right : List ℕ) → length left ≡ length right
    → ((k : ℕ) → k < length left → get_or left k 0 ≡ get_or right k 0)
    → HaveSame (symbols_of left) (symbols_of right)
same_symbols left right long each s =
    let l = is_symbol left s in
    let r = is_symbol right s in
    elim (cases_lt s (64 * length left)) [
      | inl within ↦
          let at : bit_of left s ≡ bit_of right s =
          ap (λ x. bit_at x (s % 64)) (each (s / 64) (omega (arith, within))) in
          ((λ has. r.1 (sym at ∙ l.0 has)), (λ has. l.1 (at ∙ r.0 has)))
      | inr behind ↦ (
        (λ has. absurd (omega (arith, l.0 has, bit_behind left s behind))),
        (λ has. absurd (omega (arith, r.0 has, bit_behind right s (omega (arith, behind, long))))),
      )
    ]

-- the first bit of a word is that of the next symbol, where no symbol lies between
pub next_found :
    (words : List ℕ) (k from bit symbol : ℕ) → from ≤ bit → bit < 64
    → bit_at (get_or words k 0) bit ≡ 1
    → ((i : ℕ) → from ≤ i → i < bit → bit_at (get_or words k 0) i ≡ 0)
    → symbol ≤ 64 * k + from
    → ((s : ℕ) → Contains (symbols_of words) s → symbol ≤ s → 64 * k + from ≤ s)
    → IsNextFrom (symbols_of words) symbol (Some (64 * k + bit))
next_found words k from bit symbol behind small set before low none = (
  symbol_at words k bit small set,
  omega (arith, behind, low),
  (λ s has above. elim (cases_lt s (64 * k + bit)) [
    | inl less ↦
        let far : 64 * k + from ≤ s = none s has above in
        let place : 64 * k + (s - 64 * k) ≡ s = omega (arith, far) in
        absurd (omega (
          arith,
          bit_at_symbol words k (s - 64 * k) (omega (arith, less, small)) (rw place has),
          before (s - 64 * k) (omega (arith, far)) (omega (arith, less, far)),
        ))
    | inr reached ↦ reached
  ]),
)

-- where a word has no bit from a place on, the next symbol lies behind the word
pub next_behind :
    (words : List ℕ) (k from symbol : ℕ)
    → ((i : ℕ) → from ≤ i → bit_at (get_or words k 0) i ≡ 0)
    → ((s : ℕ) → Contains (symbols_of words) s → symbol ≤ s → 64 * k + from ≤ s)
    → (s : ℕ) → Contains (symbols_of words) s → symbol ≤ s → 64 * (k + 1) + 0 ≤ s
next_behind words k from symbol clear none s has above =
    let far : 64 * k + from ≤ s = none s has above in
    elim (cases_lt s (64 * (k + 1) + 0)) [
      | inl less ↦
          let place : 64 * k + (s - 64 * k) ≡ s = omega (arith, far) in
          absurd (omega (
            arith,
            bit_at_symbol words k (s - 64 * k) (omega (arith, less, far)) (rw place has),
            clear (s - 64 * k) (omega (arith, far)),
          ))
      | inr reached ↦ reached
    ]

-- behind the words there is no next symbol
pub none_next :
    (words : List ℕ) (k from symbol : ℕ) → length words ≤ k
    → ((s : ℕ) → Contains (symbols_of words) s → symbol ≤ s → 64 * k + from ≤ s)
    → (s : ℕ) → Contains (symbols_of words) s → s < symbol
none_next words k from symbol past none s has = elim (cases_lt s symbol) [
  | inl below ↦ below
  | inr above ↦
      let far : 64 * k + from ≤ s = none s has above in
      absurd (omega (arith, (is_symbol words s).0 has, bit_behind words s (omega (arith, past, far))))
]

-- words in which the bit of a symbol is set
abbrev with_bit : List ℕ → ℕ → List ℕ
with_bit words symbol =
    set words (symbol / 64) (bit_or (get_or words (symbol / 64) 0) (1 * 2 ^ (symbol % 64) % 2 ^ 64))

-- the bit of the symbol is set
bit_set :
    (words : List ℕ) (symbol : ℕ) → symbol < 64 * length words
    → bit_of (with_bit words symbol) symbol ≡ 1
bit_set words symbol within =
    rw (get_or-set_same words (symbol / 64)
    (bit_or (get_or words (symbol / 64) 0) (1 * 2 ^ (symbol % 64) % 2 ^ 64)) 0 (omega (arith, within)))
    (bit_at_set_same w64 (get_or words (symbol / 64) 0) (symbol % 64) (omega arith))

-- the other bits are as they were
bit_kept :
    (words : List ℕ) (symbol s : ℕ) → symbol < 64 * length words → (s ≡ symbol → ⊥)
    → bit_of (with_bit words symbol) s ≡ bit_of words s
bit_kept words symbol s within other = elim (cases_eq (s / 64) (symbol / 64)) [
  | inl same ↦
      let place : s % 64 ≡ symbol % 64 → ⊥ = λ e. other (omega (arith, same, e)) in
      rw (
        same,
        get_or-set_same words (symbol / 64)
            (bit_or (get_or words (symbol / 64) 0) (1 * 2 ^ (symbol % 64) % 2 ^ 64)) 0 (omega (arith, within)),
      )
      (bit_at_set_other w64 (get_or words (symbol / 64) 0) (symbol % 64) (omega arith) (s % 64) place)
  | inr apart ↦ ap (λ x. bit_at x (s % 64))
      (get_or-set_other words (symbol / 64) (s / 64)
      (bit_or (get_or words (symbol / 64) 0) (1 * 2 ^ (symbol % 64) % 2 ^ 64)) 0 apart)
]

-- with the bit of a symbol set, words have what they had, and the symbol
pub bit_added :
    (words : List ℕ) (symbol : ℕ) → symbol < 64 * length words
    → AddsSymbol (symbols_of words) (symbols_of (with_bit words symbol)) symbol
bit_added words symbol within s =
    let old = is_symbol words s in
    let new = is_symbol (with_bit words symbol) s in
    elim (cases_eq s symbol) [
      | inl same ↦ (
        (λ _. inr same),
        (λ _. new.1 (rw same (bit_set words symbol within))),
      )
      | inr other ↦ (
        (λ has. inl (old.1 (sym (bit_kept words symbol s within other) ∙ new.0 has))),
        (elim [
          | inl has ↦ new.1 (bit_kept words symbol s within other ∙ old.0 has)
          | inr same ↦ absurd (other same)
        ]),
      )
    ]
