-- What a caller sees of making grammars from definitions.
use Rattle.std.specs.Prelude.{◌≡◌, ◌⊎◌, List, Result, Ok, Err, All}
use Rattle.spec_lbnf.specs.declared.definition.Def.{Def}
use Rattle.spec_grammar.specs.Grammars.{Grammar}
use Rattle.spec_lbnf.specs.Expansion.{expansion_of}
use Rattle.spec_lbnf.specs.Checks.{IsWellLabelled, HasFewRules, AreFit, IsUnfit}
use Rattle.spec_lbnf.specs.declared.fault.GrammarFault.{GrammarFault}
use Rattle.spec_lbnf.specs.declared.fault.GrammarFault.TheVariants.{Memory}

-- the fault is such a one, or memory ran out
abbrev pub IsSuchOrMemory : (GrammarFault → Type 0) → GrammarFault → Type 0
IsSuchOrMemory IsSuch fault = (fault ≡ Memory) ⊎ IsSuch fault

-- the definitions pass the first two checks, which take no memory: each is well labelled, and they
-- give few rules
abbrev pub PassFirstChecks : List Def → Type 0
PassFirstChecks defs = All IsWellLabelled defs × HasFewRules defs

-- the answer on the definitions is the grammar that they stand for, and they are fit; or that
-- memory ran out, and they pass the first checks; or the fault for which they are unfit
abbrev pub Expands : List Def → Result Grammar GrammarFault → Type 0
Expands defs (Ok grammar) = AreFit defs × (grammar ≡ expansion_of defs)
Expands defs (Err fault) = ((fault ≡ Memory) × PassFirstChecks defs) ⊎ IsUnfit defs fault
