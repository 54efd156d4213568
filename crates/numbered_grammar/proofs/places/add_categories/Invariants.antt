use Rattle.std.proofs.Common.{◌≡◌, take}
use Rattle.numbered_grammar.specs.Places.{entries_in, categories_from, HasOneEach}
use Rattle.numbered_grammar.proofs.places.add_categories.Given as goal

-- the categories so far are added, and no two have one name
abbrev pub invariant-loop-number : goal.invariant-loop-number
invariant-loop-number l = record {
  entries : entries_in l.places ≡ categories_from 0 (take l.number l.names);
  one_each : HasOneEach (entries_in l.places);
}
