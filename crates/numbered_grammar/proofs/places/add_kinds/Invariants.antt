use Rattle.std.proofs.Common.{◌≡◌, take}
use Rattle.numbered_grammar.specs.Places.{entries_in, named_symbols, HasOneEach}
use Rattle.numbered_grammar.proofs.places.add_kinds.Given as goal

-- the kinds so far are added, and no two symbols have one name
abbrev pub invariant-loop-number : goal.invariant-loop-number
invariant-loop-number l = record {
  entries : entries_in l.places ≡ named_symbols l.names (take l.number l.kinds);
  one_each : HasOneEach (entries_in l.places);
}
