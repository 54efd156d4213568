-- What faults tell of definitions, from what each check tells.
use Rattle.std.proofs.Common.{◌≡◌, ℕ, List, Ok, Err, Result, All, subst, ◌∙◌, inl, inr}
use Rattle.spec_grammar.specs.Cycles.{IsAcyclic}
use Rattle.spec_lbnf.specs.declared.definition.Def.{Def}
use Rattle.spec_grammar.specs.Grammars.{Grammar}
use Rattle.spec_lbnf.specs.Expansion.{expansion_of}
use Rattle.spec_lbnf.specs.declared.fault.GrammarFault.{GrammarFault}
use Rattle.spec_lbnf.specs.declared.fault.GrammarFault.TheVariants.{RepeatedToken, UnknownCategory}
use Rattle.spec_lbnf.specs.Checks.{AtOwnName, AtUnknown, IsWellLabelled, HasFewRules, HasOwnNames, AreAllKnown, IsFirstRepeated, IsFirstUnknown}
use Rattle.lbnf_grammar.specs.Grammars.{IsSuchOrMemory, Expands}
use Rattle.lbnf_grammar.specs.Checking.{AtCycleOf, PassesCycles}

-- a fault that tells of the first repeated name tells that it is at fault
pub repeated_tells : (defs : List Def) (name : List ℕ) → IsFirstRepeated defs name
    → (fault : GrammarFault) → IsSuchOrMemory (λ why. why ≡ RepeatedToken name) fault → IsSuchOrMemory (AtOwnName defs) fault
repeated_tells defs name first fault (inl memory) = inl memory
repeated_tells defs name first fault (inr is) = inr (name, first, is)

-- a fault that tells of the first unknown category tells that one is at fault
pub unknown_tells : (defs : List Def) (name : List ℕ) (number : ℕ) → IsFirstUnknown defs name number
    → (fault : GrammarFault) → IsSuchOrMemory (λ why. why ≡ UnknownCategory name number) fault → IsSuchOrMemory (AtUnknown defs) fault
unknown_tells defs name number first fault (inl memory) = inl memory
unknown_tells defs name number first fault (inr is) = inr (name, number, first, is)

-- what is told of a category that is not known is told of the definitions, if they pass the checks
-- before
pub unknown_told : (defs : List Def) → All IsWellLabelled defs → HasFewRules defs → HasOwnNames defs → (fault : GrammarFault)
    → IsSuchOrMemory (AtUnknown defs) fault → Expands defs (Err fault)
unknown_told defs labelled few free fault (inl memory) = inl (memory, (labelled, few))
unknown_told defs labelled few free fault (inr at) = inr (inr (labelled, inr (few, inr (free, inl at))))

-- the answer of the check for cycles, on the grammar that definitions stand for, is the answer on
-- the definitions, if they pass the other checks
pub expands : (defs : List Def) → All IsWellLabelled defs → HasFewRules defs → HasOwnNames defs → AreAllKnown defs
    → (g : Grammar) → g ≡ expansion_of defs → (result : Result Grammar GrammarFault) → PassesCycles g result → Expands defs result
expands defs labelled few free known g is (Ok kept) passes = (
  record {
    labelled = labelled;
    few = few;
    own_names = free;
    known = known;
    acyclic = subst (λ (x : Grammar). IsAcyclic x.rules) is passes.0;
  },
  passes.1 ∙ is,
)
expands defs labelled few free known g is (Err fault) (inl memory) = inl (memory, (labelled, few))
expands defs labelled few free known g is (Err fault) (inr at) =
    inr (inr (labelled, inr (few, inr (free, inr (known, subst (λ (x : Grammar). AtCycleOf x fault) is at)))))
