-- A trimmed edit makes the new kinds; it is the only one, and the least of all edits that do.
use Rattle.std.proofs.Common.{inl, inr, ◌≡◌, ℕ, ◌+◌, ◌-◌, ◌<◌, ◌≤◌, ◌⊎◌, [], ◌∷◌, ◌++◌, length, take, drop, get_or, Option, Some, None, refl, sym, ◌∙◌, ap, subst, arith, append_assoc, length-append}
use Rattle.std.proofs.lemmas.Bool.{cases_lt, cases_eq}
use Rattle.std.proofs.lemmas.List.{take_more, take_all, take_at, drop_at, drop_more, append-nil, length-take-le, length-drop, get_or-take, get_or-drop, get_or-append-add}
use Rattle.std.proofs.Math.ListN.{get_or-append}
use Rattle.text_store.specs.declared.token_edit.TokenEdit.{TokenEdit}
use Rattle.text_store.specs.TokenEdits.{BeginApart, EndApart, IsEdit, IsTrimmedEdit}
use Rattle.text_store.proofs.TrimmingLemmas.{Kinds, last_of}

-- a list in three parts: its length, its parts by their places, and its items in the middle
module _ (zs front middle back : Kinds) (is : zs ≡ front ++ (middle ++ back)) where
  pub parts_len : length zs ≡ length front + (length middle + length back)
  parts_len =
      ap length is ∙ length-append front (middle ++ back)
      ∙ ap (λ (n : ℕ). length front + n) (length-append middle back)

  pub front_at : (n : ℕ) → n ≡ length front → take n zs ≡ front
  front_at n e = ap (take n) is ∙ take_at front (middle ++ back) n (sym e)

  pub rest_at : (n : ℕ) → n ≡ length front → drop n zs ≡ middle ++ back
  rest_at n e = ap (drop n) is ∙ drop_at front (middle ++ back) n (sym e)

  pub back_at : (n : ℕ) → n ≡ length front + length middle → drop n zs ≡ back
  back_at n e =
      ap (drop n) (is ∙ sym (append_assoc front middle back))
      ∙ drop_at (front ++ middle) back n (length-append front middle ∙ sym e)

  pub middle_item : (i : ℕ) → i < length middle → get_or zs (length front + i) None ≡ get_or middle i None
  middle_item i within =
      ap (λ (q : Kinds). get_or q (length front + i) None) is ∙ get_or-append-add front (middle ++ back) i None
      ∙ get_or-append middle back None i within

  pub back_item : (i : ℕ) → get_or zs (length front + (length middle + i)) None ≡ get_or back i None
  back_item i =
      ap (λ (q : Kinds). get_or q (length front + (length middle + i)) None) is
      ∙ get_or-append-add front (middle ++ back) (length middle + i) None ∙ get_or-append-add middle back i None

  pub middle_is : middle ≡ take (length middle) (drop (length front) zs)
  middle_is =
      sym (ap (take (length middle)) (rest_at (length front) refl)
      ∙ take_at middle back (length middle) refl)

-- a trimmed edit makes the new kinds
pub makes : (old new : Kinds) (edit : TokenEdit) → IsTrimmedEdit old new edit → IsEdit old new edit
makes old new edit t = (
  omega (arith, t.first, t.count, parts_len old t.prefix t.deleted t.suffix t.old_is),
  ap (λ (q : Kinds). q ++ (edit.inserted ++ drop (edit.first + edit.deleted) old))
      (front_at old t.prefix t.deleted t.suffix t.old_is edit.first t.first)
      ∙ ap (λ (q : Kinds). t.prefix ++ (edit.inserted ++ q))
      (back_at old t.prefix t.deleted t.suffix t.old_is (edit.first + edit.deleted)
      (omega (arith, t.first, t.count)))
      ∙ sym t.new_is,
)

-- a list that is not empty, without its last item and with it
with_last : (zs : Kinds) (last : ℕ) → length zs ≡ last + 1 → zs ≡ take last zs ++ get_or zs last None ∷ []
with_last zs last size =
    sym (take_all (last + 1) zs (omega (arith, size))) ∙ take_more zs last None (omega (arith, size))

module _ (old new : Kinds) (edit other : TokenEdit) (t : IsTrimmedEdit old new edit) (makes_new : IsEdit old new other)
  where
    -- what the other edit leaves at the end
    abbrev left : ℕ
    left = length old - (other.first + other.deleted)

    old_len : length old ≡ length t.prefix + (length t.deleted + length t.suffix)
    old_len = parts_len old t.prefix t.deleted t.suffix t.old_is

    new_len : length new ≡ length t.prefix + (length edit.inserted + length t.suffix)
    new_len = parts_len new t.prefix edit.inserted t.suffix t.new_is

    -- the new kinds as the other edit makes them
    abbrev front : Kinds
    front = take other.first old

    abbrev back : Kinds
    back = drop (other.first + other.deleted) old

    front_len : length front ≡ other.first
    front_len = length-take-le other.first old (omega (arith, makes_new.0))

    back_len : length back ≡ left
    back_len = length-drop (other.first + other.deleted) old

    made_len : length new ≡ other.first + (length other.inserted + left)
    made_len =
        let size = parts_len new front other.inserted back (sym makes_new.1) in
        omega (arith, size, front_len, back_len)

    -- it leaves no more at the beginning than the trimmed one
    pub first_below : other.first ≤ edit.first
    first_below = elim (cases_lt (length t.prefix) other.first) [
      | inl more ↦
          let p : ℕ = length t.prefix in
          let in_old : p < length old = omega (arith, more, makes_new.0) in
          let in_new : p < length new = omega (arith, more, made_len) in
          let same : get_or new p None ≡ get_or old p None =
          ap (λ (q : Kinds). get_or q p None) (sym makes_new.1)
          ∙ get_or-append front (other.inserted ++ back) None p (omega (arith, more, front_len))
          ∙ get_or-take other.first old p None more in
          absurd (t.longest_prefix (get_or old p None) (drop (p + 1) old) (drop (p + 1) new)
          (sym (rest_at old t.prefix t.deleted t.suffix t.old_is p refl) ∙ drop_more old p None in_old)
          (sym (rest_at new t.prefix edit.inserted t.suffix t.new_is p refl) ∙ drop_more new p None in_new
          ∙ ap (λ (x : Option ℕ). x ∷ drop (p + 1) new) same))
      | inr few ↦ omega (arith, few, t.first)
    ]

    -- nor at both ends
    ends_below : other.first + left ≤ length t.prefix + length t.suffix
    ends_below = elim (cases_lt (length t.prefix + length t.suffix) (other.first + left)) [
      | inl more ↦
          let s : ℕ = length t.suffix in
          let p : ℕ = length t.prefix in
          let i : ℕ = length t.deleted - 1 in
          let k : ℕ = length edit.inserted - 1 in
          let within : other.first + left ≤ length old = omega (arith, makes_new.0) in
          let is_i : length t.deleted ≡ i + 1 = omega (arith, more, within, old_len) in
          let is_k : length edit.inserted ≡ k + 1 = omega (arith, more, made_len, new_len) in
          let j : ℕ = left - s - 1 in
          let is_j : left ≡ j + (s + 1) = omega (arith, more, first_below, t.first) in
          let of_old : get_or old (p + i) None ≡ get_or t.deleted i None =
          middle_item old t.prefix t.deleted t.suffix t.old_is i (omega (arith, is_i)) in
          let of_new : get_or new (p + k) None ≡ get_or edit.inserted k None =
          middle_item new t.prefix edit.inserted t.suffix t.new_is k (omega (arith, is_k)) in
          let place_old : other.first + other.deleted + j ≡ p + i =
          omega (arith, is_j, is_i, old_len, makes_new.0) in
          let place_new : length front + (length other.inserted + j) ≡ p + k =
          omega (arith, is_j, is_k, new_len, made_len, front_len) in
          let made : get_or new (p + k) None ≡ get_or old (p + i) None =
          ap (λ (n : ℕ). get_or new n None) (sym place_new)
          ∙ back_item new front other.inserted back (sym makes_new.1) j
          ∙ get_or-drop (other.first + other.deleted) old j None
          ∙ ap (λ (n : ℕ). get_or old n None) place_old in
          absurd (t.longest_suffix (get_or t.deleted i None) (take i t.deleted) (take k edit.inserted)
          (with_last t.deleted i is_i)
          (with_last edit.inserted k is_k
          ∙ ap (λ (x : Option ℕ). take k edit.inserted ++ x ∷ []) (sym of_new ∙ made ∙ of_old)))
      | inr few ↦ few
    ]

    -- so it inserts no fewer, and deletes no fewer
    pub least : (length edit.inserted ≤ length other.inserted) × (edit.deleted ≤ other.deleted)
    least = (
      omega (arith, ends_below, made_len, new_len),
      omega (arith, ends_below, old_len, t.count, makes_new.0),
    )

-- an edit by its parts
same_edit : (edit other : TokenEdit) → edit.first ≡ other.first → edit.deleted ≡ other.deleted →
    edit.inserted ≡ other.inserted → edit ≡ other
same_edit edit other first deleted inserted =
    ap (λ (n : ℕ). record { first = n; deleted = edit.deleted; inserted = edit.inserted }) first
    ∙ ap (λ (n : ℕ). record { first = other.first; deleted = n; inserted = edit.inserted }) deleted
    ∙ ap (λ (q : Kinds). record { first = other.first; deleted = other.deleted; inserted = q }) inserted

-- two trimmed edits are one
pub one : (old new : Kinds) (edit other : TokenEdit) → IsTrimmedEdit old new edit → IsTrimmedEdit old new other →
    edit ≡ other
one old new edit other t u =
    let as_other : IsEdit old new other = makes old new other u in
    let as_edit : IsEdit old new edit = makes old new edit t in
    let first : edit.first ≡ other.first =
    omega (arith, first_below old new edit other t as_other, first_below old new other edit u as_edit) in
    let more = least old new edit other t as_other in
    let less = least old new other edit u as_edit in
    let size : length edit.inserted ≡ length other.inserted = omega (arith, more.0, less.0) in
    let front : length t.prefix ≡ length u.prefix = omega (arith, first, t.first, u.first) in
    same_edit edit other first (omega (arith, more.1, less.1))
    (middle_is new t.prefix edit.inserted t.suffix t.new_is
    ∙ ap (λ (n : ℕ). take n (drop (length t.prefix) new)) size
    ∙ ap (λ (n : ℕ). take (length other.inserted) (drop n new)) front
    ∙ sym (middle_is new u.prefix other.inserted u.suffix u.new_is))

-- a list of no kinds
none_of : (zs : Kinds) → length zs ≡ 0 → zs ≡ []
none_of [] is = refl
none_of (z ∷ zs) is = absurd (omega (arith, is))

-- where the kinds stay the same, the trimmed edit does nothing
pub leaves : (kinds : Kinds) (edit : TokenEdit) → IsTrimmedEdit kinds kinds edit →
    (edit.deleted ≡ 0) × (edit.inserted ≡ [])
leaves kinds edit t =
    let nothing : TokenEdit = record { first = 0; deleted = 0; inserted = [] } in
    let below = least kinds kinds edit nothing t (omega arith, refl) in
    (omega (arith, below.1), none_of edit.inserted (omega (arith, below.0)))

-- two kinds are the same or not
abbrev IsStray : Option ℕ → Type 0
IsStray None = Unit {0}
IsStray (Some kind) = ⊥

same_or_not : (x y : Option ℕ) → (x ≡ y) ⊎ (x ≡ y → ⊥)
same_or_not None None = inl refl
same_or_not None (Some b) = inr (λ e. subst IsStray e tt)
same_or_not (Some a) None = inr (λ e. subst IsStray (sym e) tt)
same_or_not (Some a) (Some b) = elim (cases_eq a b) [
  | inl same ↦ inl (ap Some same)
  | inr differ ↦ inr (λ e. differ (ap number e))
]
  where
    number : Option ℕ → ℕ
    number None = 0
    number (Some n) = n

-- two lists behind their longest common prefix
common_front : (xs ys : Kinds) →
    (p : Kinds) × (r : Kinds) × (q : Kinds) × (xs ≡ p ++ r) × (ys ≡ p ++ q) × BeginApart r q
common_front [] ys = ([], [], ys, refl, refl, λ z us vs e f. absurd (omega (arith, ap length e)))
common_front (x ∷ xs) [] = ([], x ∷ xs, [], refl, refl, λ z us vs e f. absurd (omega (arith, ap length f)))
common_front (x ∷ xs) (y ∷ ys) =
    let c = common_front xs ys in
    elim (same_or_not x y) [
      | inl same ↦ (
        x ∷ c.0,
        c.1,
        c.2,
        ap (λ (t : Kinds). x ∷ t) c.3,
        ap (λ (k : Option ℕ). k ∷ ys) (sym same) ∙ ap (λ (t : Kinds). x ∷ t) c.4,
        c.5,
      )
      | inr differ ↦ (
        [],
        x ∷ xs,
        y ∷ ys,
        refl,
        refl,
        λ z us vs e f. differ (ap (λ (t : Kinds). get_or t 0 None) e ∙ sym (ap (λ (t : Kinds). get_or t 0 None) f)),
      )
    ]

-- an item more before what two lists have before their longest common suffix
more_before : (x : Option ℕ) (d i s : Kinds) → EndApart d i →
    (a : Kinds) × (b : Kinds) × (c : Kinds) × (x ∷ (d ++ s) ≡ a ++ c) × (i ++ s ≡ b ++ c) × EndApart a b
more_before x (y ∷ d) i s apart = (x ∷ y ∷ d, i, s, refl, refl, still)
  where
    still : EndApart (x ∷ y ∷ d) i
    still z [] vs e f = absurd (omega (arith, ap length e))
    still z (u ∷ us) vs e f = apart z us vs (ap (drop 1) e) f
more_before x [] i s apart = elim (cases_lt 0 (length i)) [
  | inr none ↦
      (x ∷ [], i, s, refl, refl, λ z us vs e f. absurd (omega (arith, none, (last_of i z vs f).0)))
  | inl some ↦
      let k : ℕ = length i - 1 in
      let is : i ≡ take k i ++ get_or i k None ∷ [] = with_last i k (omega (arith, some)) in
      elim (same_or_not x (get_or i k None)) [
        | inl same ↦ (
          [],
          take k i,
          x ∷ s,
          refl,
          ap (λ (t : Kinds). t ++ s) is ∙ append_assoc (take k i) (get_or i k None ∷ []) s
              ∙ ap (λ (w : Option ℕ). take k i ++ w ∷ s) (sym same),
          λ z us vs e f. absurd (omega (arith, ap length e, length-append us (z ∷ []))),
        )
        | inr differ ↦ (
          x ∷ [],
          i,
          s,
          refl,
          refl,
          λ z us vs e f. differ ((last_of (x ∷ []) z us e).1 ∙ sym (last_of i z vs f).1),
        )
      ]
]

-- two lists before their longest common suffix
common_back : (xs ys : Kinds) →
    (d : Kinds) × (i : Kinds) × (s : Kinds) × (xs ≡ d ++ s) × (ys ≡ i ++ s) × EndApart d i
common_back [] ys = (
  [],
  ys,
  [],
  refl,
  sym (append-nil ys),
  λ z us vs e f. absurd (omega (arith, ap length e, length-append us (z ∷ []))),
)
common_back (x ∷ xs) ys =
    let c = common_back xs ys in
    let m = more_before x c.0 c.1 c.2 c.5 in
    (m.0, m.1, m.2, ap (λ (t : Kinds). x ∷ t) c.3 ∙ m.3, c.4 ∙ m.4, m.5)

-- any two lists have a trimmed edit
pub some : (old new : Kinds) → (edit : TokenEdit) × IsTrimmedEdit old new edit
some old new =
    let f = common_front old new in
    let b = common_back f.1 f.2 in (
      record { first = length f.0; deleted = length b.0; inserted = b.1 },
      record {
        prefix = f.0;
        deleted = b.0;
        suffix = b.2;
        first = refl;
        count = refl;
        old_is = f.3 ∙ ap (λ (t : Kinds). f.0 ++ t) b.3;
        new_is = f.4 ∙ ap (λ (t : Kinds). f.0 ++ t) b.4;
        longest_prefix =
            subst (λ (t : Kinds). BeginApart t (b.1 ++ b.2)) b.3
            (subst (λ (t : Kinds). BeginApart f.1 t) b.4 f.5);
        longest_suffix = b.5;
      },
    )
