use Rattle.std.proofs.Common.{◌≡◌, map, subst, sym, refl, rules}
use Rattle.std.specs.Option.{option_map, IfSome}
use Rattle.spec_grammar.specs.Grammars.{Grammar, HasOwnSymbols, HasDistinctNames, IsSymbolOf}
use Rattle.spec_lbnf.specs.Expansion.{rules_of, NameTables, tables_of, named_symbol, numbered_rule, entry_text, expansion_of}
use Rattle.spec_lbnf.proofs.SymbolLemmas.{own_symbols}
use Rattle.spec_lbnf.proofs.SymbolNameLemmas.{one_symbol_each}
use Rattle.spec_lbnf.proofs.EntryLemmas.{own_entry}
use Rattle.numbered_grammar.specs.Making.{lexicon_of_parts, grammar_of_parts}
use Rattle.lbnf_grammar.specs.PredefinedKinds.{lexicon_by}
use Rattle.lbnf_grammar.specs.Tables.{shown}
use Rattle.lbnf_grammar.proofs.CountLemmas.{tables_few}
use Rattle.lbnf_grammar.proofs.TableLemmas.{expansion_is}
use Rattle.lbnf_grammar.proofs.expanding.parts_by.Goals as goal
use Rattle.lbnf_grammar.proofs.expanding.parts_by.Goals.{In_ok-lexicon}

pub numbered_rules-requires-clause-categories : goal.numbered_rules-requires-clause-categories
numbered_rules-requires-clause-categories c = (tables_few c.args.defs.now (shown c.args.tables) c.requires.tables c.requires.few).0

pub numbered_rules-requires-clause-kinds : goal.numbered_rules-requires-clause-kinds
numbered_rules-requires-clause-kinds c = (tables_few c.args.defs.now (shown c.args.tables) c.requires.tables c.requires.few).1

pub entry_symbol-requires-clause-categories : goal.entry_symbol-requires-clause-categories
entry_symbol-requires-clause-categories c = (tables_few c.args.defs.now (shown c.args.tables) c.requires.tables c.requires.few).0

pub entry_symbol-requires-clause-kinds : goal.entry_symbol-requires-clause-kinds
entry_symbol-requires-clause-kinds c = (tables_few c.args.defs.now (shown c.args.tables) c.requires.tables c.requires.few).1

-- the parts are those of the grammar that the definitions stand for
parts_are : (c : In_ok-lexicon)
    → grammar_of_parts c.in_ok-rules.rules.items c.in_ok-categories.categories.items (lexicon_of_parts c.in_ok-lexicon.lexicon) c.in_ok-entry.entry
    ≡ expansion_of c.args.defs.now
parts_are c =
    let tables : NameTables = shown c.args.tables in
    let numbered : c.in_ok-rules.rules.items ≡ map (numbered_rule tables) (rules_of c.args.defs.now) = search rules in
    let listed : c.in_ok-categories.categories.items ≡ tables.categories = search rules in
    let first : c.in_ok-entry.entry ≡ option_map (named_symbol tables) (entry_text c.args.defs.now) = search rules in
    expansion_is c.args.defs.now tables c.in_ok-rules.rules.items c.in_ok-categories.categories.items tables.words
    (lexicon_of_parts c.in_ok-lexicon.lexicon) c.in_ok-entry.entry c.requires.tables numbered listed refl (search rules) first

pub of-requires-clause-own_symbols : goal.of-requires-clause-own_symbols
of-requires-clause-own_symbols c = subst HasOwnSymbols (sym (parts_are c)) (own_symbols c.args.defs.now)

pub of-requires-clause-names : goal.of-requires-clause-names
of-requires-clause-names c = subst HasDistinctNames (sym (parts_are c)) (one_symbol_each c.args.defs.now c.requires.own)

pub of-requires-clause-entry : goal.of-requires-clause-entry
of-requires-clause-entry c =
    subst (λ (g : Grammar). IfSome g.entry (IsSymbolOf g)) (sym (parts_are c)) (own_entry c.args.defs.now c.requires.known)
