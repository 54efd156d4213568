-- The symbols of the rules that definitions give are symbols of their grammar.
use Rattle.std.proofs.Common.{◌≡◌, ℕ, ◌+◌, ◌<◌, ◌⊎◌, List, [], ◌∷◌, ◌++◌, length, map, filter, Bool, true, false, not, cond, Some, slice_get, sym, subst, ap, option_map, ◌∙◌, inl, inr, arith, length-append}
use Rattle.std.specs.List.{flat_map, AllByRecursion}
use Rattle.std.proofs.lemmas.Bool.{cases_Bool, both_ways}
use Rattle.std.proofs.lemmas.List.{length-map}
use Rattle.std.proofs.lemmas.List.Elements.{All-from_recursion}
use Rattle.std.proofs.lemmas.Option.{slice_get_within, slice_get-map, same_Some}
use Rattle.spec_lexing.specs.declared.expression.Expr.{Expr}
use Rattle.spec_lexing.specs.declared.kind_def.KindDef.TheVariants.{Word as WordKind, Token as TokenKind}
use Rattle.spec_grammar.specs.declared.rule.Symbol.{Symbol}
use Rattle.spec_grammar.specs.declared.rule.Symbol.TheVariants.{Kind}
use Rattle.spec_grammar.specs.declared.rule.Rule.{Rule}
use Rattle.spec_lbnf.specs.declared.definition.RawItem.{RawItem}
use Rattle.spec_lbnf.specs.declared.definition.RawItem.TheVariants.{Cat, Word}
use Rattle.spec_lbnf.specs.declared.definition.RawRule.{RawRule}
use Rattle.spec_lbnf.specs.declared.definition.Def.{Def}
use Rattle.spec_grammar.specs.Grammars.{IsSymbolOf, HasSymbolsOf, name_number, category_symbol}
use Rattle.spec_lbnf.specs.Expansion.{category_text, rules_of, item_categories, item_words, met_categories, internal_category, kind_names, is_among, names_in, tokens_of, words_of, distinct, tables_of, named_symbol, item_symbol, numbered_rule, kinds_by, expansion_of}
use Rattle.spec_lbnf.specs.Laws.{OwnSymbols}
use Rattle.spec_lbnf.proofs.NameLemmas.{name_at_number, any_distinct}
use Rattle.spec_lbnf.proofs.TokenNameLemmas.{head_among, among_left, among_right, given_among, kept_among, kind_named, item_texts, all_items_named}
use Rattle.spec_lbnf.proofs.ListLemmas.{item_at}

-- a name that is among names has its number below their count
pub number_within : (names : List (List ℕ)) (name : List ℕ) → is_among names name ≡ true → name_number names name < length names
number_within names name there = slice_get_within names (name_number names name) name (name_at_number names name there)

-- also where names are numbered without repetitions
pub distinct_number : (names : List (List ℕ)) (name : List ℕ) → is_among names name ≡ true
    → name_number (distinct names) name < length (distinct names)
distinct_number names name there = number_within (distinct names) name (any_distinct name names ∙ there)

-- the categories of the rules and of the internal rules, with repetitions
abbrev pub category_names : List Def → List (List ℕ)
category_names defs = flat_map (met_categories (kind_names defs)) (rules_of defs) ++ flat_map internal_category defs

-- the words of the rule
abbrev item_told : RawRule → List (List ℕ)
item_told rule = item_words rule.items

-- there are as many kinds as words and tokens
pub kinds_count : (words : List (List ℕ)) (tokens : List (List ℕ × Expr)) → length (kinds_by words tokens) ≡ length words + length tokens
kinds_count words tokens =
    length-append (map WordKind words) _
    ∙ (λ i. length-map words WordKind i + length-map tokens (λ (token : List ℕ × Expr). TokenKind token.0 token.1) i)

module _ (defs : List Def) where
  -- the words of the grammar
  abbrev words : List (List ℕ)
  words = words_of (rules_of defs)

  -- the names of the grammar's tokens
  abbrev names : List (List ℕ)
  names = names_in (tokens_of defs)

  -- a category that a rule meets is listed
  rule_met : (r : ℕ) (rule : RawRule) → slice_get (rules_of defs) r ≡ Some rule → (name : List ℕ)
      → is_among (met_categories (kind_names defs) rule) name ≡ true → is_among (category_names defs) name ≡ true
  rule_met r rule is name there =
      among_left (flat_map (met_categories (kind_names defs)) (rules_of defs)) (flat_map internal_category defs) name
      (given_among (met_categories (kind_names defs)) (rules_of defs) r rule name is there)

  -- and so is one of its items that is no token
  item_met : (r : ℕ) (rule : RawRule) → slice_get (rules_of defs) r ≡ Some rule → (name : List ℕ)
      → is_among (item_categories rule.items) name ≡ true → is_among names name ≡ false → is_among (category_names defs) name ≡ true
  item_met r rule is name there absent = elim (cases_Bool (is_among (kind_names defs) name)) [
    | inl kind ↦
        let named = all_items_named defs name (given_among item_texts (rules_of defs) r rule name is there) in
        absurd (both_ways (is_among names name) absent (kind_named defs name named kind))
    | inr free ↦
        let passes : List ℕ → Bool = λ text. not (is_among (kind_names defs) text) in
        rule_met r rule is name
        (among_right (category_text rule.cat ∷ []) (filter passes (item_categories rule.items)) name
        (kept_among passes name (item_categories rule.items) (ap not free) there))
  ]

  -- a name has a symbol of the grammar, if it is listed where it is no token's
  pub named_own : (name : List ℕ) → (is_among names name ≡ false → is_among (category_names defs) name ≡ true)
      → IsSymbolOf (expansion_of defs) (named_symbol (tables_of defs) name)
  named_own name listed = by (cases_Bool (is_among names name))
    where
      token : Symbol
      token = Kind (length words + name_number names name)

      category : Symbol
      category = category_symbol (tables_of defs).categories name

      by : (is_among names name ≡ true) ⊎ (is_among names name ≡ false) → IsSymbolOf (expansion_of defs) (named_symbol (tables_of defs) name)
      by (inl e) =
          subst (IsSymbolOf (expansion_of defs)) (sym (ap (λ b. cond b token category) e))
          (omega (arith, kinds_count words (tokens_of defs), length-map (tokens_of defs) (λ (t : List ℕ × Expr). t.0), number_within names name e))
      by (inr e) =
          subst (IsSymbolOf (expansion_of defs)) (sym (ap (λ b. cond b token category) e))
          (distinct_number (category_names defs) name (listed e))

  -- items whose names and words have symbols of the grammar have such symbols
  items_own : (items : List RawItem)
      → ((name : List ℕ) → is_among (item_categories items) name ≡ true → IsSymbolOf (expansion_of defs) (named_symbol (tables_of defs) name))
      → ((name : List ℕ) → is_among (item_words items) name ≡ true → name_number words name < length words)
      → AllByRecursion (IsSymbolOf (expansion_of defs)) (map (item_symbol (tables_of defs)) items)
  items_own [] named told = tt
  items_own (Cat cat ∷ items) named told = (
    named (category_text cat) (head_among (category_text cat) (item_categories items)),
    items_own items (λ name there. named name (among_right (category_text cat ∷ []) (item_categories items) name there)) told,
  )
  items_own (Word word ∷ items) named told = (
    omega (arith, kinds_count words (tokens_of defs), told word (head_among word (item_words items))),
    items_own items named (λ name there. told name (among_right (word ∷ []) (item_words items) name there)),
  )

  -- each rule as it is written gives one with symbols of the grammar
  rule_own : (r : ℕ) (rule : RawRule) → slice_get (rules_of defs) r ≡ Some rule → HasSymbolsOf (expansion_of defs) (numbered_rule (tables_of defs) rule)
  rule_own r rule is = (
    distinct_number (category_names defs) (category_text rule.cat)
        (rule_met r rule is (category_text rule.cat) (head_among (category_text rule.cat) _)),
    All-from_recursion (IsSymbolOf (expansion_of defs)) _
        (items_own rule.items
        (λ name there. named_own name (item_met r rule is name there))
        (λ name there. distinct_number (flat_map item_told (rules_of defs)) name (given_among item_told (rules_of defs) r rule name is there))),
  )

-- the rules that definitions give have symbols of their grammar alone
pub own_symbols : OwnSymbols
own_symbols defs r rule is =
    let numbered : RawRule → Rule = numbered_rule (tables_of defs) in
    let raws : List RawRule = rules_of defs in
    let within : r < length raws = omega (arith, length-map raws numbered, slice_get_within (map numbered raws) r rule is) in
    let raw = item_at raws r within in
    let same : numbered raw.0 ≡ rule = same_Some _ _ (sym (slice_get-map numbered raws r ∙ ap (option_map numbered) raw.1) ∙ is) in
    subst (HasSymbolsOf (expansion_of defs)) same (rule_own defs r raw.0 raw.1)
