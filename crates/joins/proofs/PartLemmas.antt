-- Derivation over a part of a text is derivation over the whole at the part's place: a tree sees the
-- tokens of its span alone.
use Rattle.std.proofs.Common.{◌≡◌, ℕ, zero, suc, ◌+◌, ◌-◌, ◌<◌, ◌≤◌, ◌↔◌, List, [], ◌∷◌, ◌++◌, Option, length, slice_get, drop, refl, sym, ◌∙◌, ap, arith}
use Rattle.spec_grammar.specs.declared.rule.Symbol.{Symbol}
use Rattle.spec_grammar.specs.declared.rule.Rule.{Rule}
use Rattle.spec_grammar.specs.Trees.{Tree, leaf, node, Forest, no_trees, trees}
use Rattle.spec_grammar.specs.Derivation.{IsParseTree, AreParseTrees, Derives, DerivesAll}
use Rattle.spec_grammar.specs.Grammars.{Grammar}
use Rattle.spec_grammar.proofs.DerivationLemmas.{tree_ordered, forest_ordered}
use Rattle.binary_form.specs.Symbols.{BinarySymbol, plain, suffix, BinaryDerives}
use Rattle.valiant.specs.Charts.{IsEntryOf}

-- what stands in the front list
pub get_in_front :
    {X : Type 0} (xs ys : List X) (n : ℕ) → n < length xs → slice_get (xs ++ ys) n ≡ slice_get xs n
get_in_front [] ys n within = absurd (omega (arith, within))
get_in_front (x ∷ xs) ys zero within = refl
get_in_front (x ∷ xs) ys (suc n) within = get_in_front xs ys n (omega (arith, within))

-- what stands behind it
pub get_behind :
    {X : Type 0} (xs ys : List X) (n m : ℕ)
    → n ≡ length xs + m → slice_get (xs ++ ys) n ≡ slice_get ys m
get_behind [] ys n m place =
    let same : n ≡ m = omega (arith, place) in
    ap (slice_get ys) same
get_behind (x ∷ xs) ys zero m place = absurd (omega (arith, place))
get_behind (x ∷ xs) ys (suc n) m place = get_behind xs ys n m (omega (arith, place))

-- the tokens from i up to j of the one text are those of the other from as far as one offset is
-- before the other
abbrev pub AgreeFrom : (one other : List (Option ℕ)) → (from to i j : ℕ) → Type 0
AgreeFrom one other from to i j =
    (n m : ℕ) → i ≤ n → n < j → n + to ≡ m + from → slice_get one n ≡ slice_get other m

module _ (rules : List Rule) (one other : List (Option ℕ)) (from to : ℕ) where
  mutual
    -- a tree over one text has one like it over another that agrees on its span
    tree_moved :
        (t : Tree) (s : Symbol) (i j i' j' : ℕ)
        → i + to ≡ i' + from → j + to ≡ j' + from → AgreeFrom one other from to i j
        → IsParseTree rules one t s i j → Derives rules other s i' j'
    tree_moved (leaf kind first end) s i j i' j' at_i at_j agree is =
        let same : slice_get one i ≡ slice_get other i' =
        agree i i' (omega arith) (omega (arith, is.2)) at_i in
        (leaf kind i' j', (is.0, sym same ∙ is.1, omega (arith, is.2, at_i, at_j), refl, refl))
    tree_moved (node r first end subtrees) s i j i' j' at_i at_j agree is =
        let moved = forest_moved subtrees (is.0).items i j i' j' at_i at_j agree is.3 in
        (node r i' j' moved.0, (is.0, is.1, is.2, moved.1, refl, refl))

    -- and so have trees side by side
    forest_moved :
        (ts : Forest) (items : List Symbol) (i j i' j' : ℕ)
        → i + to ≡ i' + from → j + to ≡ j' + from → AgreeFrom one other from to i j
        → AreParseTrees rules one ts items i j → DerivesAll rules other items i' j'
    forest_moved no_trees items i j i' j' at_i at_j agree are =
        (no_trees, (are.0, omega (arith, are.1, at_i, at_j)))
    forest_moved (trees t ts) items i j i' j' at_i at_j agree are =
        let k : ℕ = are.2 in
        let front : i ≤ k = tree_ordered rules one t are.0 i k are.4 in
        let back : k ≤ j = forest_ordered rules one ts are.1 k j are.5 in
        let k' : ℕ = k + to - from in
        let at_k : k + to ≡ k' + from = omega (arith, front, at_i) in
        let first : Derives rules other are.0 i' k' = tree_moved t are.0 i k i' k' at_i at_k
        (λ n m after before. agree n m after (omega (arith, before, back))) are.4 in
        let others : DerivesAll rules other are.1 k' j' = forest_moved ts are.1 k j k' j' at_k at_j
        (λ n m after before. agree n m (omega (arith, after, front)) before) are.5 in
        (trees first.0 others.0, (are.0, are.1, k', are.3, first.1, others.1))

  -- what a symbol derives of one text, it derives of another that agrees there
  pub derives_moved :
      (a : BinarySymbol) (i j i' j' : ℕ)
      → i + to ≡ i' + from → j + to ≡ j' + from → AgreeFrom one other from to i j
      → BinaryDerives rules one a i j → BinaryDerives rules other a i' j'
  derives_moved (plain s) i j i' j' at_i at_j agree d = tree_moved d.0 s i j i' j' at_i at_j agree d.1
  derives_moved (suffix r p) i j i' j' at_i at_j agree d =
      let moved = forest_moved d.2.0 (drop p (d.0).items) i j i' j' at_i at_j agree d.2.1 in
      (d.0, d.1, moved)

module _ (g : Grammar) (one other : List (Option ℕ)) (from to i j i' j' : ℕ) (numbers : List ℕ)
    (at_i : i + to ≡ i' + from) (at_j : j + to ≡ j' + from) (agree : AgreeFrom one other from to i j) where
  -- the texts agree the other way too
  turned : AgreeFrom other one to from i' j'
  turned n m after before place =
      sym (agree m n (omega (arith, after, at_i, place)) (omega (arith, before, at_j, place)) (omega (arith, place)))

  -- a symbol derives the span of the one text exactly where it derives that of the other
  same_derived : (a : BinarySymbol) → BinaryDerives g.rules one a i j ↔ BinaryDerives g.rules other a i' j'
  same_derived a = (
    derives_moved g.rules one other from to a i j i' j' at_i at_j agree,
    derives_moved g.rules other one to from a i' j' i j (omega (arith, at_i)) (omega (arith, at_j)) turned,
  )

  -- so an entry of the one span is one of the other
  pub same_entry : IsEntryOf g one i j numbers ↔ IsEntryOf g other i' j' numbers
  same_entry = (
    (λ is n. (
      (λ has. let x = (is n).0 has in (x.0, x.1, (same_derived x.0).0 x.2)),
      (λ x. (is n).1 (x.0, x.1, (same_derived x.0).1 x.2)),
    )),
    (λ is n. (
      (λ has. let x = (is n).0 has in (x.0, x.1, (same_derived x.0).1 x.2)),
      (λ x. (is n).1 (x.0, x.1, (same_derived x.0).0 x.2)),
    )),
  )

module _ (g : Grammar) (front : List (Option ℕ)) (kind : Option ℕ) (behind : List (Option ℕ)) (i j : ℕ)
    (numbers : List ℕ) where
  -- an entry of a span before a token is one of the whole
  pub entry_before :
      j ≤ length front → IsEntryOf g front i j numbers ↔ IsEntryOf g (front ++ kind ∷ behind) i j numbers
  entry_before within = same_entry g front (front ++ kind ∷ behind) 0 0 i j i j numbers refl refl agree
    where
      agree : AgreeFrom front (front ++ kind ∷ behind) 0 0 i j
      agree n m after before place =
          let same : n ≡ m = omega (arith, place) in
          sym (get_in_front front (kind ∷ behind) n (omega (arith, before, within)))
          ∙ ap (slice_get (front ++ kind ∷ behind)) same

  -- an entry of a span behind it is one of the whole, so many tokens later
  pub entry_behind :
      IsEntryOf g behind i j numbers
      ↔ IsEntryOf g (front ++ kind ∷ behind) (length front + 1 + i) (length front + 1 + j) numbers
  entry_behind =
      same_entry g behind (front ++ kind ∷ behind) 0 (length front + 1) i j
      (length front + 1 + i) (length front + 1 + j) numbers (omega arith) (omega arith) agree
    where
      agree : AgreeFrom behind (front ++ kind ∷ behind) 0 (length front + 1) i j
      agree n m after before place =
          sym (get_behind front (kind ∷ behind) m (suc n) (omega (arith, place)))
