-- Bytes in turn: their positions, where a match of them ends, and what they expect next.
use Rattle.std.proofs.Common.{◌≡◌, ℕ, zero, suc, ◌+◌, ◌-◌, ◌<◌, ◌≤◌, ◌↔◌, ◌⊎◌, List, [], ◌∷◌, ◌++◌, length, get_or, Bool, false, nat_eq, refl, sym, ◌∙◌, ap, inl, inr, arith, subst}
use Rattle.std.specs.List.{Contains}
use Rattle.std.proofs.lemmas.Bool.{false≢true, ne_eqb}
use Rattle.std.proofs.lemmas.List.Elements.{Contains-append_left, Contains-push, Contains-push_cases}
use Rattle.spec_automata.specs.ByteExpressions.{byte_in}
use Rattle.spec_automata.specs.Encoding.{literal}
use Rattle.spec_automata.specs.Positions.{position_count}
use Rattle.lbnf_regex.specs.declared.next_byte.NextByte.{NextByte}
use Rattle.lbnf_regex.specs.declared.next_byte.NextByte.TheVariants.{InSet}
use Rattle.lbnf_regex.specs.Steps.{is_nullable, IsLast, HasLast, EntersBehind, Expects, AddsExpected, AddsIf, AddsBehind}
use Rattle.lbnf_regex.proofs.ExpectingLemmas.{adds_both}

-- each byte is one position
pub literal_count : (bytes : List ℕ) → position_count (literal bytes) ≡ length bytes
literal_count [] = refl
literal_count (b ∷ bytes) = let rest = literal_count bytes in omega (arith, rest)

pub literal_nullable : (bytes : List ℕ) → is_nullable (literal bytes) ≡ nat_eq (length bytes) 0
literal_nullable [] = refl
literal_nullable (b ∷ bytes) = sym (ne_eqb (suc (length bytes)) 0 (λ e. omega (arith, e)))

-- a number that is found not to be 0
pub some_length : (n : ℕ) (found : Bool) → found ≡ nat_eq n 0 → found ≡ false → 0 < n
some_length zero found is never = absurd (false≢true (sym never ∙ is))
some_length (suc n) found is never = omega arith

-- a match ends at the position of the last byte
literal_last : (bytes : List ℕ) (n p : ℕ) → IsLast (literal bytes) n p ↔ ((0 < length bytes) × (p + 1 ≡ n + length bytes))
literal_last [] n p = (λ h. absurd h, λ h. absurd (omega (arith, h.0)))
literal_last (b ∷ []) n p = (
  λ h. elim h [ inl k ↦ absurd k | inr k ↦ (omega arith, omega (arith, k.1)) ],
  λ h. inr (refl, omega (arith, h.1)),
)
literal_last (b ∷ c ∷ bytes) n p =
    let rest = literal_last (c ∷ bytes) (n + 1) p in (
      λ h. elim h [ inl k ↦ (omega arith, omega (arith, (rest.0 k).1)) | inr k ↦ absurd (false≢true k.0) ],
      λ h. inl (rest.1 (omega arith, omega (arith, h.1))),
    )

pub literal_ends : (bytes : List ℕ) (n last : ℕ) (M : ℕ → Type 0) → 0 < length bytes → last + 1 ≡ n + length bytes →
    HasLast (literal bytes) n M ↔ M last
literal_ends bytes n last M some is = (
  λ h. subst M (omega (arith, is, ((literal_last bytes n h.0).0 h.2).1)) h.1,
  λ m. (last, m, (literal_last bytes n last).1 (some, is)),
)

pub literal_never : (bytes : List ℕ) (n : ℕ) (M : ℕ → Type 0) → length bytes ≡ 0 → HasLast (literal bytes) n M → ⊥
literal_never bytes n M none h = absurd (omega (arith, none, ((literal_last bytes n h.0).0 h.2).0))

-- where the bytes are entered at their beginning
abbrev Starts : List ℕ → ℕ → Type 0 → NextByte → Type 0
Starts bytes n E next = (E × (0 < length bytes)) × (next ≡ InSet n (get_or bytes 0 0 ∷ []))

-- where one of the bytes is marked, and one stands behind it
abbrev Follows : List ℕ → ℕ → (ℕ → Type 0) → NextByte → Type 0
Follows bytes n M next =
    (place : ℕ) × M (n + place) × (place + 1 < length bytes)
    × (next ≡ InSet (n + place + 1) (get_or bytes (place + 1) 0 ∷ []))

-- a byte further on
byte_behind : (b : ℕ) (bytes : List ℕ) (place at : ℕ) → at ≡ place + 1 → get_or (b ∷ bytes) at 0 ≡ get_or bytes place 0
byte_behind b bytes place at is =
    let up : at ≡ suc place = omega (arith, is) in ap (λ (z : ℕ). get_or (b ∷ bytes) z 0) up

-- the same way at the same position
same_way : (n m b c : ℕ) (next : NextByte) → n ≡ m → b ≡ c → next ≡ InSet n (b ∷ []) → next ≡ InSet m (c ∷ [])
same_way n m b c next same_position same_byte is =
    is ∙ ap (λ (z : ℕ). InSet z (b ∷ [])) same_position ∙ ap (λ (z : ℕ). InSet m (z ∷ [])) same_byte

expects_to : (bytes : List ℕ) (n : ℕ) (E : Type 0) (M : ℕ → Type 0) (next : NextByte) →
    Expects (literal bytes) n E M next → Starts bytes n E next ⊎ Follows bytes n M next
expects_to [] n E M next h = absurd h
expects_to (b ∷ bytes) n E M next (inl h) = inl ((h.0, omega arith), h.1)
expects_to (b ∷ bytes) n E M next (inr h) =
    elim (expects_to bytes (n + 1) (EntersBehind (byte_in (b ∷ [])) n E M) M next h) [
      | inl k ↦ elim (k.0).0 [
        | inl never ↦ absurd (false≢true never.0)
        | inr q ↦
            let at : q.0 ≡ n + 0 = omega (arith, q.2) in
            let more : 0 < length bytes = (k.0).1 in
            inr (
              0,
              subst M at q.1,
              omega (arith, more),
              same_way (n + 1) (n + 0 + 1) (get_or bytes 0 0) (get_or (b ∷ bytes) (0 + 1) 0) next (omega arith)
                  (sym (byte_behind b bytes 0 (0 + 1) refl)) k.1,
            )
      ]
      | inr k ↦
          inr (
            k.0 + 1,
            subst M (omega arith) k.1,
            omega (arith, k.2),
            same_way (n + 1 + k.0 + 1) (n + (k.0 + 1) + 1) (get_or bytes (k.0 + 1) 0) (get_or (b ∷ bytes) (k.0 + 1 + 1) 0) next
                (omega arith) (sym (byte_behind b bytes (k.0 + 1) (k.0 + 1 + 1) refl)) k.3,
          )
    ]

expects_from : (bytes : List ℕ) (n : ℕ) (E : Type 0) (M : ℕ → Type 0) (next : NextByte) →
    (Starts bytes n E next ⊎ Follows bytes n M next) → Expects (literal bytes) n E M next
expects_from [] n E M next (inl h) = let some : 0 < 0 = (h.0).1 in absurd (omega (arith, some))
expects_from [] n E M next (inr h) = let some : h.0 + 1 < 0 = h.2 in absurd (omega (arith, some))
expects_from (b ∷ bytes) n E M next (inl h) = inl ((h.0).0, h.1)
expects_from (b ∷ bytes) n E M next (inr (zero, m, lt, is)) =
    inr
    (expects_from bytes (n + 1) (EntersBehind (byte_in (b ∷ [])) n E M) M next
    (inl (
      (inr (n + 0, m, omega arith), omega (arith, lt)),
      same_way (n + 0 + 1) (n + 1) (get_or (b ∷ bytes) (0 + 1) 0) (get_or bytes 0 0) next (omega arith)
          (byte_behind b bytes 0 (0 + 1) refl) is,
    )))
expects_from (b ∷ bytes) n E M next (inr (suc p, m, lt, is)) =
    inr
    (expects_from bytes (n + 1) (EntersBehind (byte_in (b ∷ [])) n E M) M next
    (inr (
      p,
      subst M (omega arith) m,
      omega (arith, lt),
      same_way (n + suc p + 1) (n + 1 + p + 1) (get_or (b ∷ bytes) (suc p + 1) 0) (get_or bytes (p + 1) 0) next (omega arith)
          (byte_behind b bytes (p + 1) (suc p + 1) (omega arith)) is,
    )))

-- the first byte, and those behind the marked ones
pub adds_literal : (bytes : List ℕ) (n : ℕ) (E : Type 0) (M : ℕ → Type 0) (old middle new : List NextByte) →
    AddsIf (E × (0 < length bytes)) (InSet n (get_or bytes 0 0 ∷ [])) old middle → AddsBehind n bytes M middle new →
    AddsExpected (literal bytes) n E M old new
adds_literal bytes n E M old middle new =
    adds_both (Starts bytes n E) (Follows bytes n M) (Expects (literal bytes) n E M) old middle new
    (λ next. (expects_to bytes n E M next, expects_from bytes n E M next))

-- the ways of the marks so far, and of one more
pub behind_more : (n : ℕ) (bytes marks : List ℕ) (mark : ℕ) (old middle new : List NextByte) →
    AddsBehind n bytes (Contains marks) old middle →
    AddsIf ((n ≤ mark) × (mark - n + 1 < length bytes)) (InSet (mark + 1) (get_or bytes (mark - n + 1) 0 ∷ [])) middle new →
    AddsBehind n bytes (Contains (marks ++ mark ∷ [])) old new
behind_more n bytes marks mark old middle new before adds =
    adds_both (Follows bytes n (Contains marks))
    (λ next. ((n ≤ mark) × (mark - n + 1 < length bytes)) × (next ≡ InSet (mark + 1) (get_or bytes (mark - n + 1) 0 ∷ [])))
    (Follows bytes n (Contains (marks ++ mark ∷ []))) old middle new (λ next. (
      λ h. elim (Contains-push_cases marks mark (n + h.0) h.1) [
        | inl o ↦ inl (h.0, o, h.2, h.3)
        | inr e ↦
            let same : h.0 ≡ mark - n = omega (arith, e) in
            inr (
              (omega (arith, e), omega (arith, same, h.2)),
              same_way (n + h.0 + 1) (mark + 1) (get_or bytes (h.0 + 1) 0) (get_or bytes (mark - n + 1) 0) next
                  (omega (arith, e)) (ap (λ (z : ℕ). get_or bytes (z + 1) 0) same) h.3,
            )
      ],
      λ h. elim h [
        | inl k ↦ (k.0, Contains-append_left marks (mark ∷ []) (n + k.0) k.1, k.2, k.3)
        | inr k ↦
            let same : mark ≡ n + (mark - n) = omega (arith, (k.0).0) in (
              mark - n,
              subst (Contains (marks ++ mark ∷ [])) same (Contains-push marks mark),
              (k.0).1,
              same_way (mark + 1) (n + (mark - n) + 1) (get_or bytes (mark - n + 1) 0) (get_or bytes (mark - n + 1) 0) next
                  (omega (arith, same)) refl k.1,
            )
      ],
    )) before adds
