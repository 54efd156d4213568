-- Unions of all cells, flags of cells, and which cells make something.
use Rattle.std.proofs.Common.{◌≡◌, ℕ, ◌+◌, ◌<◌, ◌↔◌, ◌⊎◌, List, [], ◌∷◌, ◌++◌, Bool, false, length, get_or, refl, ◌∙◌, ap, subst, inl, inr, arith, Contains, IsTrue}
use Rattle.std.proofs.lemmas.Bool.{cases_lt}
use Rattle.std.proofs.lemmas.List.{length_push, get_or_push, get_or_append_left}
use Rattle.spec_grammar.specs.Grammars.{Grammar}
use Rattle.cell_sets.specs.Cells.{IsUnion, Meet}
use Rattle.number_graph.specs.Graphs.{IsSet}
use Rattle.binary_form.specs.BinaryForm.{HasProduct, AreLeftPartners}
use Rattle.binary_form.proofs.LeftSideLemmas.{partners_meet}
use Rattle.quad_mat.specs.declared.entries.Entry.{Entry}
use Rattle.quad_mat.specs.Rows.{cell_of, blank, AreCellsBelow}
use Rattle.quad_mat.specs.Products.{RowMakes}
use Rattle.quad_mat.specs.Meeting.{IsUnionOfFirst, AreFlagsOfFirst, MeetsSome}
use Rattle.quad_mat.proofs.ImageLemmas.{some_more}

-- an empty cell has what none has
pub united_none : (cells : List (List ℕ)) (all : List ℕ) → all ≡ [] → IsUnionOfFirst cells 0 all
united_none cells all none s = (
  (λ h. let there : Contains [] s = rw none at h in absurd (omega (arith, there.1))),
  (λ h. absurd (omega (arith, h.1))),
)

-- with one cell more
pub united_more :
    (cells : List (List ℕ)) (count : ℕ) (all cell both : List ℕ)
    → cell_of cells count ≡ cell → IsUnion all cell both
    → IsUnionOfFirst cells count all → IsUnionOfFirst cells (count + 1) both
united_more cells count all cell both is union so_far s =
    let more = some_more (λ n. Contains (cell_of cells n) s) count in
    let has : Contains both s ↔ (Contains all s ⊎ Contains (cell_of cells count) s) = rw is (union s) in
    let before = so_far s in (
      (λ h. elim (has.0 h) [
        | inl u ↦ more.1 (inl (before.0 u))
        | inr u ↦ more.1 (inr u)
      ]),
      (λ h. elim (more.0 h) [
        | inl u ↦ has.1 (inl (before.1 u))
        | inr u ↦ has.1 (inr u)
      ]),
    )

module _ (IsSuch : List ℕ → Type 0) (cells : List (List ℕ)) where
  -- no flag for no cell
  pub flags_none : AreFlagsOfFirst IsSuch cells 0 []
  flags_none = record { same = refl; each = λ n within. absurd (omega (arith, within)) }

  -- one flag more
  pub flags_more :
      (count : ℕ) (flags : List Bool) (flag : Bool)
      → (IsTrue flag ↔ IsSuch (cell_of cells count))
      → AreFlagsOfFirst IsSuch cells count flags → AreFlagsOfFirst IsSuch cells (count + 1) (flags ++ flag ∷ [])
  flags_more count flags flag is so_far = record {
    same = length_push flags flag ∙ ap (λ n. n + 1) so_far.same;
    each = λ n within. elim (cases_lt n count) [
      | inl before ↦
          let here : n < length flags = omega (arith, so_far.same, before) in
          rw (get_or_append_left flags (flag ∷ []) false n here) (so_far.each n before)
      | inr past ↦
          let last : count ≡ n = omega (arith, past, within) in
          let Flagged : ℕ → Type 0 = λ k. IsSet (flags ++ flag ∷ []) k ↔ IsSuch (cell_of cells k) in
          subst Flagged last (rw (get_or_push flags flag false count so_far.same) is)
    ];
  }

  -- all flags, of what is the same
  pub flags_all :
      (IsOther : List ℕ → Type 0) (count : ℕ) (flags : List Bool)
      → count ≡ length cells → ((cell : List ℕ) → IsSuch cell ↔ IsOther cell)
      → AreFlagsOfFirst IsSuch cells count flags → AreFlagsOfFirst IsOther cells (length cells) flags
  flags_all IsOther count flags end same so_far = record {
    same = so_far.same ∙ end;
    each = λ n within.
        let flag = so_far.each n (omega (arith, end, within)) in
        let is = same (cell_of cells n) in
        ((λ h. is.0 (flag.0 h)), (λ h. flag.1 (is.1 h)));
  }

module _ (g : Grammar) (right : List (List ℕ)) where
  -- a cell that has a left partner of what the cells have makes something with one of them, and else
  -- with none
  pub meets_some :
      (all partners cell : List ℕ)
      → IsUnionOfFirst right (length right) all → AreLeftPartners g all partners
      → Meet cell partners ↔ MeetsSome g right cell
  meets_some all partners cell united are =
      let meet = partners_meet g cell all partners are in
      ((λ h. of_all (meet.1 h)), (λ h. meet.0 (of_one h)))
    where
      of_all : HasProduct g cell all → MeetsSome g right cell
      of_all (s, (l, m, has_l, has_m, makes)) =
          let one = (united m).0 has_m in
          (one.0, one.1, (s, (l, m, has_l, one.2, makes)))

      of_one : MeetsSome g right cell → HasProduct g cell all
      of_one (n, within, (s, (l, m, has_l, has_m, makes))) =
          (s, (l, m, has_l, (united m).1 (n, within, has_m), makes))

  -- a cell that makes nothing with any of them makes nothing with a row
  pub makes_nothing :
      (cell : List ℕ) (row : List Entry)
      → AreCellsBelow (length right) row → (MeetsSome g right cell → ⊥)
      → (column s : ℕ) → RowMakes g cell right row column s → ⊥
  makes_nothing cell row below none column s (k, within, (same, makes)) =
      none ((get_or row k blank).cell, below k blank within, (s, makes))
