-- The names by which symbols are numbered, gathered item by item. Serves the proofs alone.
use Rattle.std.specs.Prelude.{fold, ℕ, List, cond}
use Rattle.spec_lbnf.specs.declared.definition.RawItem.{RawItem}
use Rattle.spec_lbnf.specs.declared.definition.RawItem.TheVariants.{Cat, Word}
use Rattle.spec_lbnf.specs.declared.definition.RawRule.{RawRule}
use Rattle.spec_lbnf.specs.declared.definition.Def.{Def}
use Rattle.spec_lbnf.specs.Expansion.{category_text, internal_category, is_among, NameTables}
use Rattle.lbnf_grammar.specs.declared.tables.MetNames.{MetNames}
use Rattle.lbnf_grammar.specs.declared.tables.Tables.{Tables}
use Rattle.lbnf_grammar.specs.Numbering.{with_new_name, with_new_names}

-- the names with the category of the rule, or of an item that is no kind
abbrev pub with_category : MetNames → List ℕ → MetNames
with_category met text = record {
  categories = with_new_name met.categories text;
  words = met.words;
}

-- the names with the item's category or word; those of the first list are kinds
abbrev pub with_item : List (List ℕ) → MetNames → RawItem → MetNames
with_item kinds met (Cat cat) =
    cond (is_among kinds (category_text cat)) met (with_category met (category_text cat))
with_item kinds met (Word word) = record {
  categories = met.categories;
  words = with_new_name met.words word;
}

-- the names with the rule's category, and then with its items
abbrev pub with_rule : List (List ℕ) → MetNames → RawRule → MetNames
with_rule kinds met rule =
    fold (with_item kinds) (with_category met (category_text rule.cat)) rule.items

-- the names with the category of the definition, if it is an internal rule
abbrev pub with_internal : MetNames → Def → MetNames
with_internal met def = record {
  categories = with_new_names met.categories (internal_category def);
  words = met.words;
}

-- the names as the definitions of expansion have them
abbrev pub shown : Tables → NameTables
shown tables = record {
  categories = tables.categories;
  words = tables.words;
  tokens = tables.tokens;
}
