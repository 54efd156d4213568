use Rattle.std.proofs.Common.{subst, sym}
use Rattle.numbered_grammar.specs.Making.{grammar_of_symbols}
use Rattle.numbered_grammar.specs.Places.{GivesPlaces}
use Rattle.numbered_grammar.proofs.PlaceLemmas.{distinct_moves}
use Rattle.numbered_grammar.proofs.making.places_of_parts.Goals as goal

pub unreachable-requires : goal.unreachable-requires
unreachable-requires c =
    let categories = c.categories.result.now in
    let kinds = c.kinds.result.now in
    let none = subst (λ found. GivesPlaces categories kinds found) c.in-None.is c.in_ok-found.ensures in
    none (distinct_moves c.args.parts.now (grammar_of_symbols categories kinds) (sym c.categories.ensures.items) (sym c.kinds.ensures.items) c.categories.ensures.names)
