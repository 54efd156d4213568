use Rattle.std.proofs.Common.{◌≡◌, take}
use Rattle.std.specs.List.{flat_map}
use Rattle.spec_lbnf.specs.Checks.{own_categories}
use Rattle.lbnf_grammar.proofs.naming.all_own_categories.Given as goal

-- the names are the own categories of the definitions so far
abbrev pub invariant-loop-def : goal.invariant-loop-def
invariant-loop-def l = l.names.items ≡ flat_map own_categories (take l.def-index l.defs)
