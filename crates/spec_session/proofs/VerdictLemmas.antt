-- A block is accepted as a grammar or refused: that one of the two is so cannot be denied.
use Rattle.std.proofs.Common.{◌≡◌, ℕ, zero, suc, ◌<◌, ◌⊎◌, inl, inr, List, length, Option, Some, None, slice_get, refl, sym, ◌∙◌, subst, arith}
use Rattle.std.proofs.lemmas.Option.{same_Some, none-some, slice_get_within}
use Rattle.std.specs.Prelude.{All}
use Rattle.std.proofs.lemmas.Bool.{cases_lt}
use Rattle.std.proofs.lemmas.List.Elements.{All-from_recursion}
use Rattle.spec_automata.specs.States.{HasTooManyStates}
use Rattle.spec_lbnf.specs.declared.definition.Def.{Def}
use Rattle.spec_lbnf.specs.declared.fault.GrammarFault.{GrammarFault}
use Rattle.spec_lbnf.specs.declared.fault.GrammarFault.TheVariants.{BadCoercion, BadList, Cyclic, RepeatedToken, TooManyRules, UnknownCategory}
use Rattle.spec_lbnf.specs.Faults.{Spells}
use Rattle.spec_grammar.specs.Grammars.{Grammar, HasOwnSymbols, symbol_count}
use Rattle.spec_lbnf.specs.Expansion.{expansion_of, named_categories, rules_of}
use Rattle.spec_lbnf.specs.Checks.{IsKnown, NamesKnown, AreAllKnown, IsFirstUnknown, IsFirstCyclic, IsTaken, IsFree, TakesFree, HasOwnNames, own_names, IsFirstRepeated}
use Rattle.spec_lbnf.specs.Checks.{IsFirst, HasAt, IsFirstName, IsUnknown, IsIllLabelled}
use Rattle.spec_lbnf.specs.Checks.{IsWellLabelled, HasFewRules, AreFit, IsUnfit, AtLabels}
use Rattle.spec_lbnf.proofs.FirstLemmas.{none_at}
use Rattle.spec_lbnf.proofs.CheckLemmas.{ill_or_well, repeats_at}
use Rattle.spec_lbnf.proofs.ListLemmas.{item_at}
use Rattle.spec_lbnf.proofs.SymbolLemmas.{own_symbols}
use Rattle.lbnf_readers.proofs.FaultLemmas.{defs_or_fault}
use Rattle.spec_grammar.specs.Cycles.{IsCyclic, IsAcyclic}
use Rattle.spec_session.specs.GrammarReplies.{IsAccepted, AreAccepted, IsRefused, IsRefusedFor}
use Rattle.spec_session.specs.GrammarReplies.{faulty, unfit, too_many_states, too_many_symbols, fault_reason}
use Rattle.spec_session.specs.GrammarReplies.{unfit_reason, states_reason, symbols_reason, refusal_line}
use Rattle.spec_session.proofs.DenialLemmas.{IsUndeniable, decided, FirstWithout, AllOrFirst, all_or_first, first_place, holds_earlier}

-- the first name that is not good is the first bad one, where no name is both
first_name : (IsBad IsGood : List ℕ → Type 0) → ((name : List ℕ) → IsGood name → IsBad name → ⊥)
    → (names : List (List ℕ)) (first : FirstWithout IsGood names) → IsBad first.item → IsFirstName IsBad names first.item
first_name IsBad IsGood apart names first bad =
    let at : slice_get names (length first.before) ≡ Some first.item = first_place IsGood names first in (
      length first.before,
      record {
        is_so = (first.item, at, bad);
        none_before = λ k lt (name, is, wrong). apart name (holds_earlier IsGood names first k name lt is) wrong;
      },
      at,
    )

module _ (defs : List Def) where
  -- a first definition that is not well labelled is a bad coercion or a bad list
  bad_so : (first : FirstWithout IsWellLabelled defs) → IsUndeniable ((fault : GrammarFault) × AtLabels defs fault)
  bad_so first denied =
      let number : ℕ = length first.before in
      let is_def : slice_get defs number ≡ Some first.item = first_place IsWellLabelled defs first in
      let is_first : IsIllLabelled first.item → IsFirst (HasAt IsIllLabelled defs) number
      = λ ill. record {
        is_so = (first.item, is_def, ill);
        none_before = λ k lt (other, at, bad). ill_or_well other bad (holds_earlier IsWellLabelled defs first k other lt at);
      } in
      first.without (
        (λ coercion. denied (BadCoercion number, (number, is_first (inl coercion), inl ((first.item, is_def, coercion), refl)))),
        (λ list. denied (BadList number, (number, is_first (inr list), inr ((first.item, is_def, list), refl)))),
      )

  -- all definitions are well labelled, or there is a fault of labels
  abbrev AreLabelledOrNot : Type 0
  AreLabelledOrNot = All IsWellLabelled defs ⊎ ((fault : GrammarFault) × AtLabels defs fault)

  -- that one of the two is so cannot be denied
  labelled_or_not : IsUndeniable AreLabelledOrNot
  labelled_or_not denied =
      all_or_first IsWellLabelled defs
      (λ (split : AllOrFirst IsWellLabelled defs). elim split [
        | inl all ↦ denied (inl (All-from_recursion IsWellLabelled defs all))
        | inr first ↦ bad_so first (λ (found : (fault : GrammarFault) × AtLabels defs fault). denied (inr found))
      ])

  -- the definitions before this number take no name that they may not take
  abbrev AreFreeBelow : ℕ → Type 0
  AreFreeBelow n = (k : ℕ) → k < n → TakesFree defs k

  -- they take none, or there is a first name that one of all repeats
  abbrev AreFreeOrNot : ℕ → Type 0
  AreFreeOrNot n = AreFreeBelow n ⊎ ((name : List ℕ) × IsFirstRepeated defs name)

  -- one definition more that takes none
  free_more : (n : ℕ) → TakesFree defs n → AreFreeBelow n → AreFreeBelow (suc n)
  free_more n takes below k lt = elim (cases_lt k n) [
    | inl before ↦ below k before
    | inr behind ↦
        let same : n ≡ k = omega (arith, lt, behind) in
        subst (TakesFree defs) same takes
  ]

  -- with the definition of this number it stays so
  next_free : (n : ℕ) (def : Def) → slice_get defs n ≡ Some def → AreFreeBelow n → IsUndeniable (AreFreeOrNot (suc n))
  next_free n def is_def below denied =
      let names : List (List ℕ) = own_names def in
      all_or_first (IsFree defs n def) names
      (λ (split : AllOrFirst (IsFree defs n def) names). elim split [
        | inl all ↦
            let takes : TakesFree defs n = λ other is.
            subst (λ d. All (IsFree defs n d) (own_names d)) (same_Some def other (sym is_def ∙ is)) (All-from_recursion (IsFree defs n def) names all) in
            denied (inl (free_more n takes below))
        | inr first ↦ first.without (λ is.
            let is_first = first_name (IsTaken defs n def) (IsFree defs n def) (λ name free taken. free taken) names first is in
            denied (inr (
              first.item,
              record {
                number = n;
                first = record {
                  is_so = (def, is_def, (is_first.0, is_first.1.is_so));
                  none_before = λ k lt repeats. repeats_at defs k (below k lt) repeats;
                };
                def = def;
                is_def = is_def;
                first_name = is_first;
              },
            )))
      ])

  -- that one of the two is so cannot be denied
  free_below : (n : ℕ) → IsUndeniable (AreFreeOrNot n)
  free_below zero denied = denied (inl (λ k lt. absurd (omega (arith, lt))))
  free_below (suc n) denied =
      free_below n (λ (split : AreFreeOrNot n). elim split [
        | inl below ↦ by (slice_get defs n) refl below
        | inr found ↦ denied (inr found)
      ])
    where
      by : (x : Option Def) → slice_get defs n ≡ x → AreFreeBelow n → ⊥
      by None is below = denied (inl (free_more n (λ other there. absurd (none-some other (sym is ∙ there))) below))
      by (Some def) is below = next_free n def is below denied

  -- no definition repeats a name, or there is a first one that is repeated
  abbrev HasOwnNamesOrNot : Type 0
  HasOwnNamesOrNot = HasOwnNames defs ⊎ ((name : List ℕ) × IsFirstRepeated defs name)

  -- that one of the two is so cannot be denied
  free_or_not : IsUndeniable HasOwnNamesOrNot
  free_or_not denied =
      free_below (length defs) (λ (split : AreFreeOrNot (length defs)). elim split [
        | inl below ↦ denied (inl (λ number def is. below number (slice_get_within defs number def is) def is))
        | inr found ↦ denied (inr found)
      ])

  -- the first definition that names an unknown category has a first unknown one among those it names
  unknown_in : (number : ℕ) (def : Def) →
      slice_get defs number ≡ Some def → (NamesKnown defs def → ⊥) →
      ((k : ℕ) (other : Def) → k < number → slice_get defs k ≡ Some other → NamesKnown defs other) →
      IsUndeniable ((name : List ℕ) × IsFirstUnknown defs name number)
  unknown_in number def is_def names_unknown earlier denied =
      let names : List (List ℕ) = named_categories def in
      all_or_first (IsKnown defs) names
      (λ (split : AllOrFirst (IsKnown defs) names). elim split [
        | inl known ↦ names_unknown (All-from_recursion (IsKnown defs) names known)
        | inr first ↦
            let is_first = first_name (IsUnknown defs) (IsKnown defs) (λ name known unknown. unknown known) names first first.without in
            denied (
              first.item,
              record {
                first = record {
                  is_so = (def, is_def, (is_first.0, is_first.1.is_so));
                  none_before = λ k lt (other, at, (place, unknown)).
                      none_at (IsKnown defs) (named_categories other) (IsUnknown defs) (λ name un kn. un kn) (earlier k other lt at) place unknown;
                };
                def = def;
                is_def = is_def;
                first_name = is_first;
              },
            )
      ])

  -- the definitions name known categories alone, or there is a first unknown one
  abbrev AreKnownOrNot : Type 0
  AreKnownOrNot =
      AreAllKnown defs ⊎ ((name : List ℕ) × (number : ℕ) × IsFirstUnknown defs name number)

  -- that one of the two is so cannot be denied
  known_or_not : IsUndeniable AreKnownOrNot
  known_or_not denied =
      all_or_first (NamesKnown defs) defs
      (λ (split : AllOrFirst (NamesKnown defs) defs). elim split [
        | inl known ↦ denied (inl (All-from_recursion (NamesKnown defs) defs known))
        | inr first ↦
            let number : ℕ = length first.before in
            unknown_in number first.item
            (first_place (NamesKnown defs) defs first) first.without
            (holds_earlier (NamesKnown defs) defs first)
            (λ (found : (name : List ℕ) × IsFirstUnknown defs name number).
            denied (inr (found.0, number, found.1)))
      ])

module _ (g : Grammar) where
  -- no category of a lesser number than this reaches itself
  abbrev AreAcyclicBelow : ℕ → Type 0
  AreAcyclicBelow n = (c : ℕ) → c < n → IsCyclic g.rules c → ⊥

  -- the category reaches itself, and none of a lesser number does
  abbrev IsLeastCyclic : ℕ → Type 0
  IsLeastCyclic c = IsCyclic g.rules c × AreAcyclicBelow c

  -- no category below this number reaches itself, or there is a least one that does
  abbrev AreAcyclicOrNot : ℕ → Type 0
  AreAcyclicOrNot n = AreAcyclicBelow n ⊎ ((c : ℕ) × (c < n) × IsLeastCyclic c)

  -- one more category keeps it so, whether or not it reaches itself
  one_more_category : (n : ℕ) → AreAcyclicBelow n →
      IsCyclic g.rules n ⊎ (IsCyclic g.rules n → ⊥) → AreAcyclicOrNot (suc n)
  one_more_category n below (inl reaches) = inr (n, omega arith, (reaches, below))
  one_more_category n below (inr acyclic) = inl (λ c lt is. elim (cases_lt c n) [
    | inl before ↦ below c before is
    | inr behind ↦
        let same : c ≡ n = omega arith in
        acyclic (subst (IsCyclic g.rules) same is)
  ])

  -- that one of the two is so cannot be denied
  acyclic_or_not : (n : ℕ) → IsUndeniable (AreAcyclicOrNot n)
  acyclic_or_not zero denied = denied (inl (λ c lt is. omega arith))
  acyclic_or_not (suc n) denied =
      acyclic_or_not n (λ (split : AreAcyclicOrNot n). elim split [
        | inl below ↦ decided (IsCyclic g.rules n)
            (λ (last : IsCyclic g.rules n ⊎ (IsCyclic g.rules n → ⊥)).
            denied (one_more_category n below last))
        | inr least ↦ denied (inr (least.0, omega (arith, least.1), least.2))
      ])

  -- a category that reaches itself has a rule, so it is one of the grammar
  cyclic_within : HasOwnSymbols g → (c : ℕ) → IsCyclic g.rules c → c < length g.categories
  cyclic_within own c is =
      let first = is.1.1 in
      let within = (own first.r first.rule first.is_rule).0 in
      omega (arith, first.is_of, within)

  -- where there is no cycle below the count of categories, there is none
  all_acyclic : HasOwnSymbols g → AreAcyclicBelow (length g.categories) → IsAcyclic g.rules
  all_acyclic own below c is = below c (cyclic_within own c is) is

  -- the least category that reaches itself is the first cyclic one, by its text
  first_cyclic : (c : ℕ) → c < length g.categories → IsLeastCyclic c
      → (name : List ℕ) × IsFirstCyclic g name
  first_cyclic c lt least =
      let name = item_at g.categories c lt in
      (name.0, (c, record { is_so = least.0; none_before = least.1 }, name.1))

-- the definitions are fit or unfit
abbrev AreFitOrNot : List Def → Type 0
AreFitOrNot defs = AreFit defs ⊎ ((why : GrammarFault) × IsUnfit defs why)

-- that one of the two is so cannot be denied
fit_or_not : (defs : List Def) → IsUndeniable (AreFitOrNot defs)
fit_or_not defs denied =
    labelled_or_not defs (λ (split : AreLabelledOrNot defs). elim split [
      | inl labelled ↦ by_count labelled
      | inr at ↦ denied (inr (at.0, inl at.1))
    ])
  where
    by_cycles : All IsWellLabelled defs → HasFewRules defs → HasOwnNames defs → AreAllKnown defs → ⊥
    by_cycles labelled few own_names known =
        let g : Grammar = expansion_of defs in
        let own : HasOwnSymbols g = own_symbols defs in
        acyclic_or_not g (length g.categories)
        (λ (split : AreAcyclicOrNot g (length g.categories)). elim split [
          | inl below ↦ denied (inl (record {
            labelled = labelled;
            few = few;
            own_names = own_names;
            known = known;
            acyclic = all_acyclic g own below;
          }))
          | inr least ↦
              let first = first_cyclic g least.0 least.1 least.2 in
              denied (inr (Cyclic first.0, inr (labelled, inr (few, inr (own_names, inr (known, (first.0, first.1, refl)))))))
        ])

    by_categories : All IsWellLabelled defs → HasFewRules defs → HasOwnNames defs → ⊥
    by_categories labelled few own_names =
        known_or_not defs (λ (split : AreKnownOrNot defs). elim split [
          | inl known ↦ by_cycles labelled few own_names known
          | inr first ↦ denied (inr (UnknownCategory first.0 first.1, inr (labelled, inr (few, inr (own_names, inl (first.0, first.1, first.2, refl))))))
        ])

    by_names : All IsWellLabelled defs → HasFewRules defs → ⊥
    by_names labelled few =
        free_or_not defs (λ (split : HasOwnNamesOrNot defs). elim split [
          | inl own_names ↦ by_categories labelled few own_names
          | inr first ↦ denied (inr (RepeatedToken first.0, inr (labelled, inr (few, inl (first.0, first.1, refl)))))
        ])

    by_count : All IsWellLabelled defs → ⊥
    by_count labelled = elim (cases_lt 1024 (length (rules_of defs))) [
      | inl many ↦ denied (inr (TooManyRules (length (rules_of defs)), inr (labelled, inl (many, refl))))
      | inr few ↦ by_names labelled few
    ]

-- the block is accepted as a grammar or refused by a line
abbrev pub HasVerdict : List ℕ → Type 0
HasVerdict block =
    ((g : Grammar) × IsAccepted block g) ⊎ ((line : List ℕ) × IsRefused block line)

-- a block that is refused for a reason has a verdict
refused : (block reason : List ℕ) → IsRefusedFor block reason → HasVerdict block
refused block reason why = inr (refusal_line reason, (reason, why, refl))

-- the automaton of what the definitions stand for has too many states, or has not
abbrev AreFewStatesOrNot : List Def → Type 0
AreFewStatesOrNot defs =
    HasTooManyStates (expansion_of defs).lexicon ⊎ (HasTooManyStates (expansion_of defs).lexicon → ⊥)

-- a block of definitions that are fit has a verdict, by the count of states and then of symbols
fit_verdict : (block : List ℕ) (defs : List Def) → Spells block defs → AreFit defs → AreFewStatesOrNot defs
    → HasVerdict block
fit_verdict block defs spelled fit (inl many) =
    refused block states_reason (too_many_states defs spelled fit many refl)
fit_verdict block defs spelled fit (inr few_states) =
    let count : ℕ = symbol_count (expansion_of defs) in
    elim (cases_lt 2048 count) [
      | inl many ↦
          refused block (symbols_reason count) (too_many_symbols defs spelled fit few_states many refl)
      | inr few ↦
          let accepted : AreAccepted defs = record { fit = fit; few_states = few_states; few = few } in
          inl (expansion_of defs, (defs, spelled, accepted, refl))
    ]

-- that a block has a verdict cannot be denied
pub some_verdict : (block : List ℕ) → IsUndeniable (HasVerdict block)
some_verdict block denied = elim (defs_or_fault block) [
  | inl spelled ↦ fit_or_not spelled.0 (λ (split : AreFitOrNot spelled.0). elim split [
    | inl fit ↦ decided (HasTooManyStates (expansion_of spelled.0).lexicon)
        (λ (states : AreFewStatesOrNot spelled.0).
        denied (fit_verdict block spelled.0 spelled.1 fit states))
    | inr why ↦ denied (refused block (unfit_reason why.0) (unfit spelled.0 why.0 spelled.1 why.1 refl))
  ])
  | inr first ↦ denied (refused block (fault_reason first.0) (faulty first.0 first.1 refl))
]
