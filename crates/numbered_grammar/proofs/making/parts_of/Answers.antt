use Rattle.std.proofs.Common.{◌≡◌, sym, refl, subst, rules}
use Rattle.std.specs.Option.{IfSome}
use Rattle.spec_grammar.specs.Grammars.{IsSymbolOf, HasOwnSymbols, HasDistinctNames}
use Rattle.numbered_grammar.specs.Making.{IsWellFormed, lexicon_of_parts, grammar_of_parts, grammar_of_symbols, entry_of_rules}
use Rattle.numbered_grammar.proofs.MakingLemmas.{first_own}
use Rattle.numbered_grammar.proofs.PlaceLemmas.{distinct_moves}
use Rattle.numbered_grammar.proofs.making.parts_of.Goals as goal

pub returns-then-not-branch : goal.returns-then-not-branch
returns-then-not-branch c fit =
    let categories = c.args.categories.items in
    let kinds = c.args.lexicon.kinds.items in
    let g = grammar_of_parts c.args.rules.items categories (lexicon_of_parts c.args.lexicon) (entry_of_rules c.args.rules.items) in
    let distinct : HasDistinctNames (grammar_of_symbols categories kinds) = distinct_moves g (grammar_of_symbols categories kinds) refl refl fit.1 in
    search rules

pub of-requires-clause-entry : goal.of-requires-clause-entry
of-requires-clause-entry c =
    let given = c.args.rules.items in
    let categories = c.args.categories.items in
    let lexicon = lexicon_of_parts c.args.lexicon in
    let entry : c.entry_of_rules-entry.result ≡ entry_of_rules given = search rules in
    let well : IsWellFormed (grammar_of_parts given categories lexicon (entry_of_rules given)) = search rules in
    subst (λ e. IfSome e (IsSymbolOf (grammar_of_parts given categories lexicon e))) (sym entry) (first_own given categories lexicon (entry_of_rules given) well.own_symbols)

pub of-requires-clause-own_symbols : goal.of-requires-clause-own_symbols
of-requires-clause-own_symbols c =
    let given = c.args.rules.items in
    let categories = c.args.categories.items in
    let lexicon = lexicon_of_parts c.args.lexicon in
    let entry : c.entry_of_rules-entry.result ≡ entry_of_rules given = search rules in
    let well : IsWellFormed (grammar_of_parts given categories lexicon (entry_of_rules given)) = search rules in
    subst (λ e. HasOwnSymbols (grammar_of_parts given categories lexicon e)) (sym entry) well.own_symbols

pub of-requires-clause-names : goal.of-requires-clause-names
of-requires-clause-names c =
    let given = c.args.rules.items in
    let categories = c.args.categories.items in
    let lexicon = lexicon_of_parts c.args.lexicon in
    let distinct : HasDistinctNames (grammar_of_symbols categories lexicon.kinds) = search rules in
    distinct_moves (grammar_of_symbols categories lexicon.kinds) (grammar_of_parts given categories lexicon c.entry_of_rules-entry.result) refl refl distinct
