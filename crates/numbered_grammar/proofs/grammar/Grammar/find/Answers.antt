use Rattle.std.proofs.Common.{◌≡◌, Some, None, subst, sym, ap, ◌∙◌}
use Rattle.std.specs.Option.{option_copied}
use Rattle.numbered_grammar.specs.Making.{FindsSymbol}
use Rattle.numbered_grammar.specs.Places.{ArePlacesOf, symbol_in, named_symbols}
use Rattle.numbered_grammar.proofs.PlaceLemmas.{look_up, found_symbol, named_within}
use Rattle.numbered_grammar.proofs.grammar.Grammar.find.Goals as goal

pub returns-in_err-symbol-clause-found : goal.returns-in_err-symbol-clause-found
returns-in_err-symbol-clause-found c =
    let g = c.args.self.now in
    let text = c.args.text.now in
    let are : ArePlacesOf g.categories g.lexicon.kinds c.self.inside.places = rw c.self.view_is at c.self.invariant.3 in
    let none : None ≡ symbol_in (named_symbols g.categories g.lexicon.kinds) text
    = sym (ap option_copied c.in_err-symbol.was) ∙ c.get.ensures.value ∙ look_up text c.self.inside.places.entries ∙ ap (λ l. symbol_in l text) are in
    subst (FindsSymbol g text) (sym c.from_residual.ensures) (found_symbol g text None none)

pub returns-clause-found : goal.returns-clause-found
returns-clause-found c =
    let g = c.args.self.now in
    let text = c.args.text.now in
    let are : ArePlacesOf g.categories g.lexicon.kinds c.self.inside.places = rw c.self.view_is at c.self.invariant.3 in
    let some : Some c.in_ok-symbol.symbol.now ≡ symbol_in (named_symbols g.categories g.lexicon.kinds) text
    = sym (ap option_copied c.in_ok-symbol.was) ∙ c.get.ensures.value ∙ look_up text c.self.inside.places.entries ∙ ap (λ l. symbol_in l text) are in
    found_symbol g text (Some c.in_ok-symbol.symbol.now) some

pub returns-clause-own : goal.returns-clause-own
returns-clause-own c =
    let g = c.args.self.now in
    let text = c.args.text.now in
    let are : ArePlacesOf g.categories g.lexicon.kinds c.self.inside.places = rw c.self.view_is at c.self.invariant.3 in
    let some : Some c.in_ok-symbol.symbol.now ≡ symbol_in (named_symbols g.categories g.lexicon.kinds) text
    = sym (ap option_copied c.in_ok-symbol.was) ∙ c.get.ensures.value ∙ look_up text c.self.inside.places.entries ∙ ap (λ l. symbol_in l text) are in
    named_within g text c.in_ok-symbol.symbol.now (found_symbol g text (Some c.in_ok-symbol.symbol.now) some)
