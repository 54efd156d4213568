-- States that are added, rows of states, and entries of rows.
use Rattle.std.proofs.Common.{◌≡◌, ◌≢◌, ℕ, zero, suc, ◌+◌, ◌<◌, ◌≤◌, ◌⊎◌, List, [], ◌∷◌, ◌++◌, length, Option, Some, None, IfSome, Result, Err, slice_index_or, refl, sym, ◌∙◌, ap, inl, inr, arith, append_assoc, subst, length-append}
use Rattle.std.specs.List.{Contains}
use Rattle.std.proofs.lemmas.Bool.{cases_lt}
use Rattle.std.proofs.lemmas.List.{length_push, get_or_append_left, get_or_push, append-nil}
use Rattle.std.proofs.lemmas.List.Elements.{All-nil, All-push}
use Rattle.cell_sets.proofs.CellsLemmas.{has_first}
use Rattle.spec_automata.specs.ByteExpressions.{ByteExpression}
use Rattle.spec_automata.specs.Positions.{EndsAt}
use Rattle.spec_automata.specs.States.{AreBytes, HasManySets}
use Rattle.lbnf_regex.specs.Sets.{IsSetOf, IsNext}
use Rattle.lbnf_regex.specs.States.{IsReached, state_at, AreStates, IsStateEntry, IsStateRow, AreRows, AddsStates, IsNoneOf, GetsNumber, GetsEntry, HasNoRoom}
use Rattle.lbnf_regex.proofs.SetLemmas.{same_sets, set_like}
use Rattle.lbnf_regex.proofs.CountingLemmas.{StandsFor, start_stands, stands, push_some, next_is}

-- an error is one whatever the answer would have been
pub other_err : {A B E : Type 0} (f g : E) → ◌≡◌ {A = Result A E} (Err f) (Err g) → ◌≡◌ {A = Result B E} (Err f) (Err g)
other_err {A} {B} {E} f g e = let same : f ≡ g = cc in ap Err same

-- a number below one more is below, or it is the last
below_or_last : (i n : ℕ) → i < n + 1 → (i < n) ⊎ (i ≡ n)
below_or_last i n h = grind arith

-- one of each of the first
pick : (P : ℕ → List ℕ → Type 0) (n : ℕ) → ((i : ℕ) → i < n → (w : List ℕ) × P i w) →
    (f : ℕ → List ℕ) × ((i : ℕ) → i < n → P i (f i))
pick P n all = (λ i. text i (cases_lt i n), λ i lt. is i lt (cases_lt i n))
  where
    text : (i : ℕ) → (i < n) ⊎ (n ≤ i) → List ℕ
    text i (inl h) = (all i h).0
    text i (inr h) = []

    is : (i : ℕ) → i < n → (d : (i < n) ⊎ (n ≤ i)) → P i (text i d)
    is i lt (inl h) = (all i h).1
    is i lt (inr h) = absurd (omega (arith, lt, h))

-- a state that is not empty has a position
pub some_in : (s : List ℕ) → s ≢ [] → (p : ℕ) × Contains s p
some_in [] h = absurd (h refl)
some_in (p ∷ ps) h = (p, has_first p ps)

module _ (x : ByteExpression) (states : List (List ℕ)) (are : AreStates x states) where
  -- the states behind the start are so many different sets
  many_from : (n : ℕ) → n + 1 ≡ length states → HasManySets x n
  many_from n len =
      let P : ℕ → List ℕ → Type 0 = λ i w. AreBytes w × (w ≢ []) × IsSetOf x w (state_at states (i + 1)) in
      let texts : (f : ℕ → List ℕ) × ((i : ℕ) → i < n → P i (f i)) =
      pick P n (λ i lt.
      let h = are.reached (i + 1) (omega arith) (omega (arith, lt, len)) in
      (h.text, (h.text_bytes, h.text_some, h.is))) in
      record {
        text = texts.0;
        leads = λ i lt.
            let h = texts.1 i lt in
            let k = are.reached (i + 1) (omega arith) (omega (arith, lt, len)) in
            let c = some_in (state_at states (i + 1)) k.some in
            record { are_bytes = h.0; some = h.1; alive = (c.0, ((h.2).are c.0).0 c.1) };
        differ = λ i j lt lt_n same.
            let a = (texts.1 i (omega (arith, lt, lt_n))).2 in
            let b = (texts.1 j lt_n).2 in
            are.differ (i + 1) (j + 1) (omega (arith, lt)) (omega (arith, lt_n, len))
            (same_sets (EndsAt x 0 (texts.0 j)) (state_at states (i + 1)) (state_at states (j + 1))
            (set_like (EndsAt x 0 (texts.0 i)) (EndsAt x 0 (texts.0 j)) (state_at states (i + 1)) same a) b);
      }

  module _ (set : List ℕ) (reached : IsReached x set) (fresh : IsNoneOf states set) where
    -- one state more
    pub push_states : AreStates x (states ++ set ∷ [])
    push_states = record {
      some = omega (arith, are.some, length_push states set);
      start = get_or_append_left states (set ∷ []) [] 0 are.some ∙ are.start;
      reached = λ i pos lt. elim (below_or_last i (length states) (omega (arith, lt, length_push states set))) [
        | inl h ↦
            subst (IsReached x) (sym (get_or_append_left states (set ∷ []) [] i h)) (are.reached i pos h)
        | inr e ↦ subst (IsReached x) (sym (get_or_push states set [] i (sym e))) reached
      ];
      differ = λ i j lt lt_j same. elim (below_or_last j (length states) (omega (arith, lt_j, length_push states set))) [
        | inl h ↦
            are.differ i j lt h
            (sym (get_or_append_left states (set ∷ []) [] i (omega (arith, lt, h))) ∙ same
            ∙ get_or_append_left states (set ∷ []) [] j h)
        | inr e ↦
            fresh i (omega (arith, lt, e))
            (sym (get_or_append_left states (set ∷ []) [] i (omega (arith, lt, e))) ∙ same
            ∙ get_or_push states set [] j (sym e))
      ];
    }

-- the states are all that fit, and the set is none of them
pub many_of : (x : ByteExpression) (states : List (List ℕ)) (set : List ℕ) (most : ℕ) → AreStates x states →
    IsReached x set → IsNoneOf states set → length states ≡ most → HasManySets x most
many_of x states set most are reached fresh len =
    many_from x (states ++ set ∷ []) (push_states x states are set reached fresh) most
    (omega (arith, len, length_push states set))

module _ (x : ByteExpression) (states : List (List ℕ)) (are : AreStates x states) where
  -- each state stands for a text
  stands_at : (i : ℕ) → i < length states → (w : List ℕ) × AreBytes w × StandsFor x w (state_at states i)
  stands_at zero lt = ([], All-nil (λ b. b < 256), start_stands x (state_at states 0) are.start)
  stands_at (suc i) lt =
      let h = are.reached (suc i) (omega arith) lt in
      (h.text, h.text_bytes, stands x h.text (state_at states (suc i)) h.text_some h.some h.is)

  -- what follows a state is reached
  pub reached_next : (i : ℕ) (t : List ℕ) (b : ℕ) → i < length states → b < 256 →
      IsNext x (state_at states i) b t → t ≢ [] → IsReached x t
  reached_next i t b lt byte next some =
      let h = stands_at i lt in
      record {
        text = h.0 ++ b ∷ [];
        text_bytes = All-push (λ c. c < 256) h.0 b h.1 byte;
        text_some = push_some h.0 b;
        some = some;
        is = next_is x h.0 (state_at states i) t b h.2 next;
      }

pub grows_same : (old : List (List ℕ)) → AddsStates old old
grows_same old = record { more = []; is = sym (append-nil old) }

pub grows_more : (old middle new : List (List ℕ)) → AddsStates old middle → AddsStates middle new → AddsStates old new
grows_more old middle new f g = record {
  more = f.more ++ g.more;
  is = g.is ∙ ap (λ (z : List (List ℕ)). z ++ g.more) f.is ∙ append_assoc old f.more g.more;
}

-- where a set gets its number, the states grow
pub gets_grows : (old new : List (List ℕ)) (set : List ℕ) (number : ℕ) → GetsNumber old new set number → AddsStates old new
gets_grows old new set number gets = elim gets.kept [
  | inl e ↦ subst (AddsStates old) (sym e) (grows_same old)
  | inr k ↦ record { more = set ∷ []; is = k.0 }
]

-- a reached set gets its number among states, and they stay states
pub gets_states : (x : ByteExpression) (old new : List (List ℕ)) (set : List ℕ) (number : ℕ) → AreStates x old →
    IsReached x set → GetsNumber old new set number → AreStates x new
gets_states x old new set number are reached gets = elim gets.kept [
  | inl e ↦ subst (AreStates x) (sym e) are
  | inr k ↦ subst (AreStates x) (sym k.0) (push_states x old are set reached k.1)
]

-- a set that is not empty is not the start
pub gets_above : (x : ByteExpression) (new : List (List ℕ)) (set : List ℕ) (number : ℕ) → AreStates x new →
    state_at new number ≡ set → set ≢ [] → 0 < number
gets_above x new set zero are is some = absurd (some (sym is ∙ are.start))
gets_above x new set (suc number) are is some = omega arith

module _ (old new : List (List ℕ)) (g : AddsStates old new) where
  pub grows_at : (i : ℕ) → i < length old → state_at new i ≡ state_at old i
  grows_at i lt = ap (λ (z : List (List ℕ)). state_at z i) g.is ∙ get_or_append_left old g.more [] i lt

  pub grows_len : length old ≤ length new
  grows_len = omega (arith, ap length g.is, length-append old g.more)

  pub entry_grows : (x : ByteExpression) (s : List ℕ) (b : ℕ) (e : Option ℕ) → IsStateEntry x old s b e → IsStateEntry x new s b e
  entry_grows x s b None h = h
  entry_grows x s b (Some j) h =
      (h.0, omega (arith, h.1, grows_len), subst (IsNext x s b) (sym (grows_at j h.1)) h.2)

  pub row_grows : (x : ByteExpression) (s : List ℕ) (n : ℕ) (row : List (Option ℕ)) → IsStateRow x old s n row →
      IsStateRow x new s n row
  row_grows x s n row h =
      record { size = h.size; entries = λ b lt. entry_grows x s b (slice_index_or row b None) (h.entries b lt) }

  pub rows_grow : (x : ByteExpression) (n : ℕ) (rows : List (List (Option ℕ))) → n ≤ length old → AreRows x old n rows →
      AreRows x new n rows
  rows_grow x n rows le h = record {
    size = h.size;
    rows_are = λ i lt.
        subst (λ (s : List ℕ). IsStateRow x new s 256 (slice_index_or rows i [])) (sym (grows_at i (omega (arith, lt, le))))
        (row_grows x (state_at old i) 256 (slice_index_or rows i []) (h.rows_are i lt));
  }

pub row_push : (x : ByteExpression) (states : List (List ℕ)) (s : List ℕ) (n : ℕ) (row : List (Option ℕ)) (e : Option ℕ) →
    IsStateRow x states s n row → IsStateEntry x states s n e → IsStateRow x states s (n + 1) (row ++ e ∷ [])
row_push x states s n row e h is = record {
  size = length_push row e ∙ ap (λ (z : ℕ). z + 1) h.size;
  entries = λ b lt. elim (below_or_last b n lt) [
    | inl k ↦
        subst (IsStateEntry x states s b) (sym (get_or_append_left row (e ∷ []) None b (omega (arith, k, h.size)))) (h.entries b k)
    | inr k ↦
        subst (IsStateEntry x states s b) (sym (get_or_push row e None b (h.size ∙ sym k)))
        (subst (λ (z : ℕ). IsStateEntry x states s z e) (sym k) is)
  ];
}

pub rows_push : (x : ByteExpression) (states : List (List ℕ)) (n : ℕ) (rows : List (List (Option ℕ)))
    (row : List (Option ℕ)) → AreRows x states n rows → IsStateRow x states (state_at states n) 256 row →
    AreRows x states (n + 1) (rows ++ row ∷ [])
rows_push x states n rows row h is = record {
  size = length_push rows row ∙ ap (λ (z : ℕ). z + 1) h.size;
  rows_are = λ i lt. elim (below_or_last i n lt) [
    | inl k ↦
        subst (IsStateRow x states (state_at states i) 256)
        (sym (get_or_append_left rows (row ∷ []) [] i (omega (arith, k, h.size)))) (h.rows_are i k)
    | inr k ↦
        subst (IsStateRow x states (state_at states i) 256) (sym (get_or_push rows row [] i (h.size ∙ sym k)))
        (subst (λ (z : ℕ). IsStateRow x states (state_at states z) 256 row) (sym k) is)
  ];
}

module _ (x : ByteExpression) (old : List (List ℕ)) (i b : ℕ) (set : List ℕ) (are : AreStates x old)
    (within : i < length old) (byte : b < 256) (next : IsNext x (state_at old i) b set) where
  -- where there is no room for the set that follows, there are many sets
  pub no_room : (most : ℕ) → (set ≢ []) × HasNoRoom old set most → HasManySets x most
  no_room most h =
      many_of x old set most are (reached_next x old are i set b within byte next h.0) (h.1).0 (h.1).1

  -- an entry is right, and the states stay states
  pub entry_is : (new : List (List ℕ)) (e : Option ℕ) → GetsEntry set old new e →
      AddsStates old new × AreStates x new × IsStateEntry x new (state_at old i) b e
  entry_is new None gets = (
    subst (AddsStates old) (sym gets.0) (grows_same old),
    subst (AreStates x) (sym gets.0) are,
    subst (IsNext x (state_at old i) b) gets.1 next,
  )
  entry_is new (Some j) gets =
      let reached : IsReached x set = reached_next x old are i set b within byte next gets.0 in
      let number : GetsNumber old new set j = gets.1 in
      let are_new : AreStates x new = gets_states x old new set j are reached number in (
        gets_grows old new set j number,
        are_new,
        (
          gets_above x new set j are_new number.is gets.0,
          number.within,
          subst (IsNext x (state_at old i) b) (sym number.is) next,
        ),
      )

-- no byte leads to the start
pub entry_above : (x : ByteExpression) (states : List (List ℕ)) (s : List ℕ) (b : ℕ) (e : Option ℕ) →
    IsStateEntry x states s b e → IfSome e (λ j. 0 < j)
entry_above x states s b None is = tt
entry_above x states s b (Some j) is = is.0
