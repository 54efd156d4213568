use Rattle.std.proofs.Common.{◌≡◌, [], take}
use Rattle.std.specs.List.{flat_map}
use Rattle.spec_lbnf.specs.Expansion.{met_categories, internal_category, rules_of, words_of}
use Rattle.lbnf_grammar.specs.Numbering.{with_new_names}
use Rattle.lbnf_grammar.proofs.tables.met_names.Given as goal

-- the internal categories of the definitions so far are behind those that the rules meet
abbrev pub invariant-loop-def : goal.invariant-loop-def
invariant-loop-def l = record {
  categories : l.met.categories
      ≡ with_new_names (with_new_names [] (flat_map (met_categories l.kinds) (rules_of l.defs))) (flat_map internal_category (take l.def-index l.defs));
  words : l.met.words ≡ words_of (rules_of l.defs);
}
