-- What is in a list, in a filter, and among the bytes that pass a test.
use Rattle.std.proofs.Common.{◌≡◌, ℕ, zero, suc, ◌+◌, ◌<◌, ◌≤◌, ◌↔◌, ◌⊎◌, List, [], ◌∷◌, Bool, true, false, cond, refl, sym, ◌∙◌, inl, inr, arith, subst}
use Rattle.std.specs.List.{Contains, filter, range_with_len}
use Rattle.std.proofs.lemmas.Bool.{false≢true, and_parts, and_from, leb-true, le-leb}
use Rattle.std.proofs.lemmas.List.Elements.{Contains-append_left, Contains-append_right, Contains-append_cases, Contains-push, Contains-push_cases}
use Rattle.spec_text.specs.Scalars.{is_between}
use Rattle.spec_automata.specs.Encoding.{bytes_that}

-- an empty list has no number
pub none_in : (x : ℕ) → Contains {X = ℕ} [] x → ⊥
none_in x has = absurd (omega (arith, has.1))

-- what is in a list is its first number or behind it
pub first_or_behind : (y : ℕ) (ys : List ℕ) (x : ℕ) → Contains (y ∷ ys) x → (y ≡ x) ⊎ Contains ys x
first_or_behind y ys x has = elim (Contains-append_cases (y ∷ []) ys x has) [
  | inl first ↦ elim (Contains-push_cases [] y x first) [ inl none ↦ absurd (none_in x none) | inr same ↦ inl same ]
  | inr behind ↦ inr behind
]

-- a list has its first number
pub has_first : (y : ℕ) (ys : List ℕ) → Contains (y ∷ ys) y
has_first y ys = Contains-append_left (y ∷ []) ys y (Contains-push [] y)

-- a list has what stands behind its first number
pub has_behind : (y : ℕ) (ys : List ℕ) (x : ℕ) → Contains ys x → Contains (y ∷ ys) x
has_behind y ys x has = Contains-append_right (y ∷ []) ys x has

-- one number before those that pass
filter_first : (test : ℕ → Bool) (y : ℕ) (ys : List ℕ) (x : ℕ) (told : Bool) → test y ≡ told →
    (Contains (filter test ys) x ↔ (Contains ys x × (test x ≡ true))) →
    Contains (cond told (y ∷ filter test ys) (filter test ys)) x ↔ (Contains (y ∷ ys) x × (test x ≡ true))
filter_first test y ys x true is rest = (
  λ has. elim (first_or_behind y (filter test ys) x has) [
    | inl same ↦ (subst (Contains (y ∷ ys)) same (has_first y ys), subst (λ (z : ℕ). test z ≡ true) same is)
    | inr behind ↦ let kept = rest.0 behind in (has_behind y ys x kept.0, kept.1)
  ],
  λ has. elim (first_or_behind y ys x has.0) [
    | inl same ↦ subst (Contains (y ∷ filter test ys)) same (has_first y (filter test ys))
    | inr behind ↦ has_behind y (filter test ys) x (rest.1 (behind, has.1))
  ],
)
filter_first test y ys x false is rest = (
  λ has. let kept = rest.0 has in (has_behind y ys x kept.0, kept.1),
  λ has. elim (first_or_behind y ys x has.0) [
    | inl same ↦ absurd (false≢true (sym is ∙ subst (λ (z : ℕ). test z ≡ true) (sym same) has.1))
    | inr behind ↦ rest.1 (behind, has.1)
  ],
)

-- a filter has what is in the list and passes
pub in_filter : (test : ℕ → Bool) (xs : List ℕ) (x : ℕ) →
    Contains (filter test xs) x ↔ (Contains xs x × (test x ≡ true))
in_filter test [] x = (λ has. absurd (none_in x has), λ has. absurd (none_in x has.0))
in_filter test (y ∷ ys) x = filter_first test y ys x (test y) refl (in_filter test ys x)

-- numbers in a row are from the first on, and so many
in_range : (n a x : ℕ) → Contains (range_with_len a n) x ↔ ((a ≤ x) × (x < a + n))
in_range zero a x = (λ has. absurd (none_in x has), λ h. absurd (omega (arith, h.0, h.1)))
in_range (suc n) a x = (
  λ has. elim (first_or_behind a (range_with_len (a + 1) n) x has) [
    | inl same ↦ (omega (arith, same), omega (arith, same))
    | inr behind ↦ let h = (in_range n (a + 1) x).0 behind in (omega (arith, h.0), omega (arith, h.1))
  ],
  λ h. elim (same_or_above a x h.0) [
    | inl same ↦ subst (Contains (a ∷ range_with_len (a + 1) n)) same (has_first a (range_with_len (a + 1) n))
    | inr above ↦
        has_behind a (range_with_len (a + 1) n) x ((in_range n (a + 1) x).1 (above, omega (arith, h.1)))
  ],
)
  where
    same_or_above : (a x : ℕ) → a ≤ x → (a ≡ x) ⊎ (a + 1 ≤ x)
    same_or_above a x h = grind arith

-- the bytes that pass are those below 256 that do
pub in_bytes_that : (test : ℕ → Bool) (byte : ℕ) →
    Contains (bytes_that test) byte ↔ ((byte < 256) × (test byte ≡ true))
unfolding bytes_that
in_bytes_that test byte =
    let passes = in_filter test (range_with_len 0 256) byte in
    let ranges = in_range 256 0 byte in (
      λ has. let h = passes.0 has in ((ranges.0 h.0).1, h.1),
      λ h. passes.1 (ranges.1 (omega arith, h.0), h.1),
    )

-- the bytes between two are those
pub in_between : (least greatest byte : ℕ) → greatest < 256 →
    Contains (bytes_that (is_between least greatest)) byte ↔ ((least ≤ byte) × (byte ≤ greatest))
in_between least greatest byte small =
    let passes = in_bytes_that (is_between least greatest) byte in (
      λ has.
          let both = and_parts _ _ (passes.0 has).1 in
          (leb-true least byte both.0, leb-true byte greatest both.1),
      λ h. passes.1 (omega (arith, h.1, small), and_from _ _ (le-leb least byte h.0) (le-leb byte greatest h.1)),
    )

-- the bytes that pass are a filter of all bytes
pub bytes_that_is : (test : ℕ → Bool) → bytes_that test ≡ filter test (range_with_len 0 256)
unfolding bytes_that
bytes_that_is test = refl
