-- What follows from implications, and the order in which it is found.
use Rattle.std.proofs.Common.{◌≡◌, ℕ, zero, suc, ◌<◌, ◌≤◌, inl, inr, List, [], ◌∷◌, ◌++◌}
use Rattle.std.proofs.Common.{length, take, slice_index_or, refl, sym, ◌∙◌, arith, subst}
use Rattle.std.specs.List.{Contains}
use Rattle.std.proofs.lemmas.List.{get_or_default, get_or-take, length-take-le}
use Rattle.std.proofs.lemmas.List.Elements.{Contains-push_cases}
use Rattle.number_graph.specs.Graphs.{HasLink, AreFlagsOf, PushesLinks}
use Rattle.number_graph.specs.Derivations.{AreWithin, IsDerivationOrder, IsFound}
use Rattle.number_graph.specs.Implications.{ImplicationList, AddsImplication, AreNoImplications, AreImplicationsWithin, Follows, follows}
use Rattle.number_graph.specs.declared.derivation.Search.{Search}

-- implications within a total, each with its premises, can be searched
pub searchable :
    (total : ℕ) (implications : ImplicationList)
    → length implications.premises ≡ length implications.conclusions
    → AreImplicationsWithin total implications
    → AreWithin total implications.premises implications.conclusions
searchable total implications same within = record {
  lists = omega (arith, same);
  premises_below = within.premises;
  conclusions_below = within.conclusions;
}

module _ (implications : ImplicationList) where
  -- where each number before a place of the order follows, what stands in the front does
  front_follows :
      (order : List ℕ) (k : ℕ)
      → k ≤ length order → ((j : ℕ) → j < k → Follows implications (slice_index_or order j 0))
      → (p : ℕ) → Contains (take k order) p → Follows implications p
  front_follows order k short each p (j, within, at_j) =
      let before : j < k = omega (arith, within, length-take-le k order short) in
      let same : slice_index_or order j 0 ≡ p =
      sym (get_or-take k order j 0 before) ∙ sym (get_or_default (take k order) j p 0 within) ∙ at_j in
      subst (Follows implications) same (each j before)

  -- each number of an order in which each is founded on those before it follows
  place_follows :
      (order : List ℕ) → IsDerivationOrder implications.premises implications.conclusions order
      → (bound k : ℕ) → k < bound → k < length order → Follows implications (slice_index_or order k 0)
  place_follows order is zero k below short = absurd (omega (arith, below))
  place_follows order is (suc bound) k below short =
      let founded = is k short in
      follows founded.0 founded.1 founded.2 (λ p link. front_follows order k (omega (arith, short))
      (λ j before. place_follows order is bound j (omega (arith, before, below)) (omega (arith, before, short)))
      p (founded.3 p link))

  -- what stands in the order follows
  order_follows :
      (order : List ℕ) (n : ℕ) → IsDerivationOrder implications.premises implications.conclusions order
      → Contains order n → Follows implications n
  order_follows order n is (k, short, at_k) =
      subst (Follows implications) (sym (get_or_default order k n 0 short) ∙ at_k)
      (place_follows order is (suc k) k (omega arith) short)

  module _ (total : ℕ) (search : Search)
      (found : IsFound implications.premises implications.conclusions total search) where
    -- what follows stands in the order of what was found
    stands_in_order : (n : ℕ) → Follows implications n → Contains search.order.items n
    stands_in_order n (follows i within is premises) =
        elim (found.all_done i within) [
          | inl has ↦ subst (Contains search.order.items) is has
          | inr (p, link, missing) ↦ absurd (missing (stands_in_order p (premises p link)))
        ]

    -- the flags of what was found are the flags of what follows
    pub found_flags : AreFlagsOf total (Follows implications) search.flags.items
    found_flags = record {
      count = found.count;
      exact = λ n. (
        (λ is. order_follows search.order.items n found.under_way.founded (found.under_way.known n is)),
        (λ all. found.under_way.flagged n (stands_in_order n all)),
      );
    }

-- with a list of premises and a conclusion behind the others, there is one implication more
pub adds_implication :
    (premises new : List (List ℕ)) (conclusions given : List ℕ) (conclusion : ℕ)
    → length premises ≡ length conclusions → PushesLinks premises new given
    → AddsImplication (record { premises = premises; conclusions = conclusions })
    (record { premises = new; conclusions = conclusions ++ conclusion ∷ [] }) given conclusion
adds_implication premises new conclusions given conclusion same pushes = record {
  conclusions = refl;
  premises = λ i p. (
    (λ has. elim ((pushes.links i p).0 has) [
      | inl before ↦ inl before
      | inr (place, among) ↦ inr (place ∙ same, among)
    ]),
    (λ has. (pushes.links i p).1 (elim has [
      | inl before ↦ inl before
      | inr (place, among) ↦ inr (place ∙ sym same, among)
    ])),
  );
}

-- one implication more among numbers below a total keeps all of them below it
pub implication_within :
    (total : ℕ) (old new : ImplicationList) (given : List ℕ) (conclusion : ℕ)
    → AddsImplication old new given conclusion → ((p : ℕ) → Contains given p → p < total)
    → conclusion < total → AreImplicationsWithin total old → AreImplicationsWithin total new
implication_within total old new given conclusion adds below is within = record {
  premises = λ i p has. elim ((adds.premises i p).0 has) [
    | inl before ↦ within.premises i p before
    | inr added ↦ below p added.1
  ];
  conclusions = λ n has.
      let longer : Contains (old.conclusions ++ conclusion ∷ []) n = subst (λ xs. Contains xs n) adds.conclusions has in
      elim (Contains-push_cases old.conclusions conclusion n longer) [
        | inl before ↦ within.conclusions n before
        | inr same ↦ subst (λ k. k < total) same is
      ];
}

-- of no implications all numbers are below any total
pub none_within : (total : ℕ) (list : ImplicationList) → AreNoImplications list → AreImplicationsWithin total list
none_within total list none = record {
  premises = λ i p has.
      let past = subst (λ xs. HasLink xs i p) none.0 has in
      absurd (omega (arith, past.1));
  conclusions = λ n has.
      let past = subst (λ xs. Contains xs n) none.1 has in
      absurd (omega (arith, past.1));
}
