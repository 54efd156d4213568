-- The names that are gathered are the categories and the words of the rules.
use Rattle.std.proofs.Common.{◌≡◌, ◌≤◌, ℕ, List, [], ◌∷◌, ◌++◌, Option, Bool, true, false, not, cond, map, fold, filter, length, take, refl, sym, ap, ◌∙◌}
use Rattle.std.specs.List.{flat_map}
use Rattle.std.specs.Option.{option_map}
use Rattle.std.proofs.lemmas.List.{take_all}
use Rattle.std.proofs.lemmas.List.Sums.{fold-append}
use Rattle.spec_lexing.specs.Lexicon.{Lexicon}
use Rattle.spec_grammar.specs.declared.rule.Rule.{Rule}
use Rattle.spec_grammar.specs.declared.rule.Symbol.{Symbol}
use Rattle.spec_lbnf.specs.declared.definition.RawItem.{RawItem}
use Rattle.spec_lbnf.specs.declared.definition.RawItem.TheVariants.{Cat, Word}
use Rattle.spec_lbnf.specs.declared.definition.RawRule.{RawRule}
use Rattle.spec_lbnf.specs.declared.definition.Def.{Def}
use Rattle.spec_lbnf.specs.Expansion.{category_text, rules_of, item_categories, item_words, met_categories, internal_category, distinct, words_of, is_among, NameTables, tables_of, named_symbol, numbered_rule, entry_text, expansion_of}
use Rattle.lbnf_grammar.specs.declared.tables.MetNames.{MetNames}
use Rattle.numbered_grammar.specs.Making.{grammar_of_parts}
use Rattle.lbnf_grammar.specs.Numbering.{with_new_name, with_new_names}
use Rattle.lbnf_grammar.specs.PredefinedKinds.{lexicon_by}
use Rattle.lbnf_grammar.specs.Tables.{with_category, with_item, with_rule}
use Rattle.lbnf_grammar.proofs.DistinctLemmas.{names_distinct}

-- the words of the rules, with repetitions
abbrev word_texts : List RawRule → List (List ℕ)
word_texts rules = flat_map (λ (rule : RawRule). item_words rule.items) rules

-- no categories and no words
abbrev pub no_names : MetNames
no_names = record { categories = []; words = [] }

module _ (kinds : List (List ℕ)) where
  -- the name is none of a kind
  abbrev is_category : List ℕ → Bool
  is_category text = not (is_among kinds text)

  -- an item's category is added where it is none of a kind
  category_added : (none_added : Bool) (met : MetNames) (text : List ℕ) (items : List RawItem)
      → ((start : MetNames) → (fold (with_item kinds) start items).categories ≡ with_new_names start.categories (filter is_category (item_categories items)))
      → (fold (with_item kinds) (cond none_added met (with_category met text)) items).categories
      ≡ with_new_names met.categories (cond (not none_added) (text ∷ filter is_category (item_categories items)) (filter is_category (item_categories items)))
  category_added true met text items rest = rest met
  category_added false met text items rest = rest (with_category met text)

  -- the items' categories that are no kinds are added in order
  items_categories : (met : MetNames) (items : List RawItem)
      → (fold (with_item kinds) met items).categories ≡ with_new_names met.categories (filter is_category (item_categories items))
  items_categories met [] = refl
  items_categories met (Cat cat ∷ items) =
      category_added (is_among kinds (category_text cat)) met (category_text cat) items (λ start. items_categories start items)
  items_categories met (Word word ∷ items) = items_categories (with_item kinds met (Word word)) items

  -- an item's category adds no word
  no_word_added : (none_added : Bool) (met : MetNames) (text : List ℕ) (items : List RawItem)
      → ((start : MetNames) → (fold (with_item kinds) start items).words ≡ with_new_names start.words (item_words items))
      → (fold (with_item kinds) (cond none_added met (with_category met text)) items).words ≡ with_new_names met.words (item_words items)
  no_word_added true met text items rest = rest met
  no_word_added false met text items rest = rest (with_category met text)

  -- the items' words are added in order
  items_words : (met : MetNames) (items : List RawItem)
      → (fold (with_item kinds) met items).words ≡ with_new_names met.words (item_words items)
  items_words met [] = refl
  items_words met (Cat cat ∷ items) =
      no_word_added (is_among kinds (category_text cat)) met (category_text cat) items (λ start. items_words start items)
  items_words met (Word word ∷ items) = items_words (with_item kinds met (Word word)) items

  -- the rules' categories are added in order
  rules_categories : (met : MetNames) (rules : List RawRule)
      → (fold (with_rule kinds) met rules).categories ≡ with_new_names met.categories (flat_map (met_categories kinds) rules)
  rules_categories met [] = refl
  rules_categories met (rule ∷ rules) =
      rules_categories (with_rule kinds met rule) rules
      ∙ ap (λ names. with_new_names names (flat_map (met_categories kinds) rules)) (items_categories (with_category met (category_text rule.cat)) rule.items)
      ∙ sym (fold-append with_new_name met.categories (met_categories kinds rule) (flat_map (met_categories kinds) rules))

  -- the rules' words are added in order
  rules_words : (met : MetNames) (rules : List RawRule)
      → (fold (with_rule kinds) met rules).words ≡ with_new_names met.words (word_texts rules)
  rules_words met [] = refl
  rules_words met (rule ∷ rules) =
      rules_words (with_rule kinds met rule) rules
      ∙ ap (λ names. with_new_names names (word_texts rules)) (items_words (with_category met (category_text rule.cat)) rule.items)
      ∙ sym (fold-append with_new_name met.words (item_words rule.items) (word_texts rules))

  -- names of the rules up to the end of the definitions are those of all rules
  pub all_gathered : (met : MetNames) (defs : List Def) (n : ℕ) → length defs ≤ n
      → met ≡ fold (with_rule kinds) no_names (rules_of (take n defs)) → met ≡ fold (with_rule kinds) no_names (rules_of defs)
  all_gathered met defs n past so_far = so_far ∙ ap (λ taken. fold (with_rule kinds) no_names (rules_of taken)) (take_all n defs past)

  -- the categories that are gathered are those that the rules meet
  pub met_are : (rules : List RawRule)
      → (fold (with_rule kinds) no_names rules).categories ≡ with_new_names [] (flat_map (met_categories kinds) rules)
  met_are rules = rules_categories no_names rules

  -- the words that are gathered are those of the rules
  pub words_are : (rules : List RawRule) → (fold (with_rule kinds) no_names rules).words ≡ words_of rules
  words_are rules = rules_words no_names rules ∙ names_distinct (word_texts rules)

  -- internal categories that are added to those that rules meet are the categories of a grammar
  pub internal_behind : (rules : List RawRule) (defs : List Def)
      → with_new_names (with_new_names [] (flat_map (met_categories kinds) rules)) (flat_map internal_category defs)
      ≡ distinct (flat_map (met_categories kinds) rules ++ flat_map internal_category defs)
  internal_behind rules defs =
      sym (fold-append with_new_name [] (flat_map (met_categories kinds) rules) (flat_map internal_category defs))
      ∙ names_distinct (flat_map (met_categories kinds) rules ++ flat_map internal_category defs)

-- what is numbered by the tables of the definitions is the grammar that they stand for
pub expansion_is : (defs : List Def) (tables : NameTables) (rules : List Rule) (names : List (List ℕ)) (words : List (List ℕ)) (lexicon : Lexicon) (entry : Option Symbol)
    → tables ≡ tables_of defs → rules ≡ map (numbered_rule tables) (rules_of defs) → names ≡ tables.categories → words ≡ tables.words
    → lexicon ≡ lexicon_by words defs → entry ≡ option_map (named_symbol tables) (entry_text defs)
    → grammar_of_parts rules names lexicon entry ≡ expansion_of defs
expansion_is defs tables rules names words lexicon entry are numbered listed told looked first =
    λ i. grammar_of_parts ((numbered ∙ ap (λ (t : NameTables). map (numbered_rule t) (rules_of defs)) are) i)
    ((listed ∙ ap (λ (t : NameTables). t.categories) are) i)
    ((looked ∙ ap (λ w. lexicon_by w defs) (told ∙ ap (λ (t : NameTables). t.words) are)) i)
    ((first ∙ ap (λ (t : NameTables). option_map (named_symbol t) (entry_text defs)) are) i)
