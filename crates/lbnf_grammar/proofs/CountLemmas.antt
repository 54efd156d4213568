-- How many rules definitions give, and that their rules, categories and words are few.
use Rattle.std.proofs.Common.{◌≡◌, ℕ, zero, suc, ◌+◌, ◌*◌, ◌<◌, ◌≤◌, ◌^◌, ◌⊎◌, List, [], ◌∷◌, ◌++◌, length, map, Bool, true, false, not, ◌||◌, refl, sym, ap, ◌∙◌, inl, inr, arith, length-append, append-nil, nat_eq}
use Rattle.std.specs.List.{flat_map, filter, slice_split, onto_first, list_all, range_with_len}
use Rattle.std.proofs.lemmas.Bool.{cases_Bool}
use Rattle.std.proofs.lemmas.Grind.{flat_map-append}
use Rattle.std.proofs.lemmas.List.{length-map}
use Rattle.std.proofs.lemmas.List.FromFn.{length-map-range_with_len}
use Rattle.std.proofs.lemmas.List.Sums.{sum_by-cons, fold-append}
use Rattle.spec_grammar.specs.declared.rule.Rule.{Rule as NumberedRule}
use Rattle.spec_lbnf.specs.declared.definition.CatName.{CatName}
use Rattle.spec_lbnf.specs.declared.definition.RawItem.{RawItem}
use Rattle.spec_lbnf.specs.declared.definition.RawItem.TheVariants.{Cat, Word}
use Rattle.spec_lbnf.specs.declared.definition.RawRule.{RawRule}
use Rattle.spec_lbnf.specs.declared.definition.Def.{Def}
use Rattle.spec_lbnf.specs.declared.definition.Def.TheVariants.{Rule, Internal, Terminator, Separator, Coercions, Entry, Token, LineComment, BlockComment}
use Rattle.spec_lbnf.specs.Limits.{def_size, size_of}
use Rattle.spec_lbnf.specs.Words.{is_empty, words_in}
use Rattle.spec_lexing.specs.declared.expression.Expr.{Expr}
use Rattle.spec_lexing.specs.Predefined.{predefined_kinds}
use Rattle.spec_lbnf.specs.Expansion.{category_text, word_items, list_of, terminator_rules, separator_rules, level_rule, bracket_rule, coercion_rules, rules_of_def, rules_of, item_categories, item_words, met_categories, internal_category, distinct, words_of, token_in, kind_names, is_among, is_active, active_kinds, tokens_of, NameTables, tables_of, item_symbol, numbered_rule}
use Rattle.spec_lbnf.proofs.TokenNameLemmas.{head_among, among_right, or_right}
use Rattle.spec_grammar.specs.Grammars.{item_count}
use Rattle.spec_lbnf.specs.Checks.{HasFewRules}
use Rattle.lbnf_grammar.specs.Numbering.{with_new_name, with_new_names, AreFew}
use Rattle.lbnf_grammar.proofs.NameLemmas.{with_name_there}
use Rattle.lbnf_grammar.proofs.DistinctLemmas.{names_distinct, any_with_new_names, with_new_names_length}

-- a definition has a size of one or more
some_size : (def : Def) → 0 < def_size def
some_size (Rule rule) = omega arith
some_size (Internal rule) = omega arith
some_size (Terminator nonempty cat word) = omega arith
some_size (Separator nonempty cat word) = omega arith
some_size (Coercions name levels) = omega arith
some_size (Entry cats) = omega arith
some_size (Token name expr) = omega arith
some_size (LineComment opening) = omega arith
some_size (BlockComment opening closing) = omega arith

-- there are no more definitions than definitions and items
pub few_defs : (defs : List Def) → length defs ≤ size_of defs
few_defs [] = omega arith
few_defs (def ∷ defs) = omega (arith, sum_by-cons def_size def defs, some_size def, few_defs defs)

-- the byte is a space
abbrev is_space : ℕ → Bool
is_space byte = nat_eq byte 32

-- a byte before the first part leaves some part that is not empty
onto_first_some : (byte : ℕ) (parts : List (List ℕ)) → list_all is_empty (onto_first byte parts) ≡ false
onto_first_some byte [] = refl
onto_first_some byte (part ∷ parts) = refl

-- all bytes are spaces where all parts between spaces are empty
spaces_alone : (text : List ℕ) → list_all is_space text ≡ list_all is_empty (slice_split is_space text)
spaces_alone [] = refl
spaces_alone (byte ∷ text) = elim (cases_Bool (is_space byte)) [
  | inl e ↦ rw e (spaces_alone text)
  | inr e ↦ rw (e, onto_first_some byte (slice_split is_space text)) refl
]

-- no part is kept where all are empty
none_kept : (parts : List (List ℕ)) → is_empty (filter (λ part. not (is_empty part)) parts) ≡ list_all is_empty parts
none_kept [] = refl
none_kept ([] ∷ parts) = none_kept parts
none_kept ((byte ∷ part) ∷ parts) = refl

-- a list is as empty as its images
empty_images : {A B : Type 0} (f : A → B) (xs : List A) → is_empty (map f xs) ≡ is_empty xs
empty_images f [] = refl
empty_images f (x ∷ xs) = refl

-- a string has no words where all its bytes are spaces
pub wordless : (text : List ℕ) → list_all is_space text ≡ is_empty (word_items text)
wordless text = spaces_alone text ∙ sym (none_kept (slice_split is_space text)) ∙ sym (empty_images Word (words_in text))

-- coercions give a rule for each level and one more
pub coercion_count : (name : List ℕ) (levels : ℕ) → length (coercion_rules name levels) ≡ levels + 1
coercion_count name levels =
    length-append (map (level_rule name) (range_with_len 0 levels)) (bracket_rule name levels ∷ [])
    ∙ ap (λ n. n + 1) (length-map-range_with_len (level_rule name) 0 levels)

-- items have as many categories as they are, at most
few_item_categories : (items : List RawItem) → length (item_categories items) ≤ length items
few_item_categories [] = omega arith
few_item_categories (Cat cat ∷ items) = omega (arith, few_item_categories items)
few_item_categories (Word word ∷ items) = omega (arith, few_item_categories items)

-- items have as many words as they are, at most
few_item_words : (items : List RawItem) → length (item_words items) ≤ length items
few_item_words [] = omega arith
few_item_words (Cat cat ∷ items) = omega (arith, few_item_words items)
few_item_words (Word word ∷ items) = omega (arith, few_item_words items)

-- the categories of a rule, with those of its items that are kinds
abbrev all_met : RawRule → List (List ℕ)
all_met rule = category_text rule.cat ∷ item_categories rule.items

-- how many categories the rules have, with repetitions
abbrev met_count : List RawRule → ℕ
met_count rules = length (flat_map all_met rules)

-- the words of the rule
abbrev rule_words : RawRule → List (List ℕ)
rule_words rule = item_words rule.items

-- how many words the rules have, with repetitions
abbrev word_count : List RawRule → ℕ
word_count rules = length (flat_map rule_words rules)

-- words before items add no categories
categories_behind : (words : List (List ℕ)) (items : List RawItem)
    → item_categories (map Word words ++ items) ≡ item_categories items
categories_behind [] items = refl
categories_behind (word ∷ words) items = categories_behind words items

-- and are words before theirs
words_behind : (words : List (List ℕ)) (items : List RawItem)
    → item_words (map Word words ++ items) ≡ words ++ item_words items
words_behind [] items = refl
words_behind (word ∷ words) items = ap (λ l. word ∷ l) (words_behind words items)

-- items that are words have no categories
no_categories : (words : List (List ℕ)) → item_categories (map Word words) ≡ []
no_categories [] = refl
no_categories (word ∷ words) = no_categories words

-- and are as many words
all_words : (words : List (List ℕ)) → item_words (map Word words) ≡ words
all_words [] = refl
all_words (word ∷ words) = ap (λ l. word ∷ l) (all_words words)

-- the numbers of categories that rules have, of internal categories and of words, with repetitions,
-- are bounded by the size of definitions and the number of rules
record AreBounded (met internal told size count : ℕ) : Type 0 where
  categories : met + internal ≤ size + 3 * count
  words : told ≤ 2 * size

-- the rules of a terminator
terminator_bounded : (nonempty : Bool) (cat : CatName) (words : List (List ℕ))
    → (let rules : List RawRule = terminator_rules nonempty cat (map Word words) in
    AreBounded (met_count rules) 0 (word_count rules) (1 + length words) (length rules))
terminator_bounded true cat words = record {
  categories = rw (no_categories words, categories_behind words (Cat (list_of cat) ∷ [])) (omega arith);
  words = rw (all_words words, words_behind words (Cat (list_of cat) ∷ [])) (omega (arith, length-append {A = List ℕ}));
}
terminator_bounded false cat words = record {
  categories = rw (categories_behind words (Cat (list_of cat) ∷ [])) (omega arith);
  words = rw (words_behind words (Cat (list_of cat) ∷ [])) (omega (arith, length-append {A = List ℕ}));
}

-- the rules of a separator
separator_bounded : (nonempty : Bool) (cat : CatName) (words : List (List ℕ))
    → (let rules : List RawRule = separator_rules nonempty cat (map Word words) in
    AreBounded (met_count rules) 0 (word_count rules) (1 + length words) (length rules))
separator_bounded nonempty cat [] = terminator_bounded nonempty cat []
separator_bounded true cat (word ∷ words) = record {
  categories = rw (categories_behind words (Cat (list_of cat) ∷ [])) (omega arith);
  words = rw (words_behind words (Cat (list_of cat) ∷ []), append-nil words, append-nil words) (omega arith);
}
separator_bounded false cat (word ∷ words) = record {
  categories = rw (categories_behind words (Cat (list_of cat) ∷ [])) (omega arith);
  words = rw (words_behind words (Cat (list_of cat) ∷ []), append-nil words, append-nil words) (omega arith);
}

-- the levels' rules meet two categories each
levels_met : (name : List ℕ) (from levels : ℕ) → met_count (map (level_rule name) (range_with_len from levels)) ≡ 2 * levels
levels_met name from zero = refl
levels_met name from (suc levels) = omega (arith, levels_met name (from + 1) levels)

-- and have no words
levels_words : (name : List ℕ) (from levels : ℕ) → word_count (map (level_rule name) (range_with_len from levels)) ≡ 0
levels_words name from zero = refl
levels_words name from (suc levels) = levels_words name (from + 1) levels

-- coercions have two words
coercion_words : (name : List ℕ) (levels : ℕ) → word_count (coercion_rules name levels) ≡ 2
coercion_words name levels =
    let front : List RawRule = map (level_rule name) (range_with_len 0 levels) in
    let last : List RawRule = bracket_rule name levels ∷ [] in
    ap length (flat_map-append rule_words front last) ∙ length-append (flat_map rule_words front) (flat_map rule_words last)
    ∙ ap (λ n. n + 2) (levels_words name 0 levels)

-- the rules of coercions
coercions_bounded : (name : List ℕ) (levels : ℕ)
    → (let rules : List RawRule = coercion_rules name levels in
    AreBounded (met_count rules) 0 (word_count rules) 1 (length rules))
coercions_bounded name levels =
    let front : List RawRule = map (level_rule name) (range_with_len 0 levels) in
    let last : List RawRule = bracket_rule name levels ∷ [] in
    let met : met_count (coercion_rules name levels) ≡ 2 * levels + 2
    = ap length (flat_map-append all_met front last) ∙ length-append (flat_map all_met front) (flat_map all_met last)
    ∙ ap (λ n. n + 2) (levels_met name 0 levels) in
    record {
      categories = omega (arith, met, coercion_count name levels);
      words = omega (arith, coercion_words name levels);
    }

-- the rules of a definition
def_bounded : (def : Def) → AreBounded (met_count (rules_of_def def)) (length (internal_category def)) (word_count (rules_of_def def)) (def_size def) (length (rules_of_def def))
def_bounded (Rule rule) = record {
  categories = omega (arith, length-append (item_categories rule.items) [], few_item_categories rule.items);
  words = omega (arith, length-append (item_words rule.items) [], few_item_words rule.items);
}
def_bounded (Internal rule) = record { categories = omega arith; words = omega arith }
def_bounded (Terminator nonempty cat word) = terminator_bounded nonempty cat (words_in word)
def_bounded (Separator nonempty cat word) = separator_bounded nonempty cat (words_in word)
def_bounded (Coercions name levels) = coercions_bounded name levels
def_bounded (Entry cats) = record { categories = omega arith; words = omega arith }
def_bounded (Token name expr) = record { categories = omega arith; words = omega arith }
def_bounded (LineComment opening) = record { categories = omega arith; words = omega arith }
def_bounded (BlockComment opening closing) = record { categories = omega arith; words = omega arith }

-- bounds of parts are bounds of the whole
both_bounded : (m i w s n m' i' w' s' n' : ℕ) → AreBounded m i w s n → AreBounded m' i' w' s' n'
    → AreBounded (m + m') (i + i') (w + w') (s + s') (n + n')
both_bounded m i w s n m' i' w' s' n' a b = record {
  categories = omega (arith, a.categories, b.categories);
  words = omega (arith, a.words, b.words);
}

-- the rules of definitions
defs_bounded : (defs : List Def) → AreBounded (met_count (rules_of defs)) (length (flat_map internal_category defs)) (word_count (rules_of defs)) (size_of defs) (length (rules_of defs))
defs_bounded [] = record { categories = omega arith; words = omega arith }
defs_bounded (def ∷ defs) =
    let own : List RawRule = rules_of_def def in
    let others : List RawRule = rules_of defs in
    let met : met_count (own ++ others) ≡ met_count own + met_count others
    = ap length (flat_map-append all_met own others) ∙ length-append (flat_map all_met own) (flat_map all_met others) in
    let words : word_count (own ++ others) ≡ word_count own + word_count others
    = ap length (flat_map-append rule_words own others) ∙ length-append (flat_map rule_words own) (flat_map rule_words others) in
    rw (met, words, length-append (internal_category def) (flat_map internal_category defs), sum_by-cons def_size def defs, length-append own others)
    (both_bounded _ _ _ _ _ _ _ _ _ _ (def_bounded def) (defs_bounded defs))

-- items are categories and words
parted : (items : List RawItem) → length items ≡ length (item_categories items) + length (item_words items)
parted [] = refl
parted (Cat cat ∷ items) = omega (arith, parted items)
parted (Word word ∷ items) = omega (arith, parted items)

-- rules have no more items than categories that they meet and words
few_items : (tables : NameTables) (rules : List RawRule)
    → item_count (map (numbered_rule tables) rules) ≤ met_count rules + word_count rules
few_items tables [] = omega arith
few_items tables (rule ∷ rules) =
    omega (
      arith,
      sum_by-cons (λ (x : NumberedRule). length x.items) (numbered_rule tables rule) (map (numbered_rule tables) rules),
      length-map rule.items (item_symbol tables),
      parted rule.items,
      length-append (item_categories rule.items) (flat_map all_met rules),
      length-append (item_words rule.items) (flat_map rule_words rules),
      few_items tables rules,
    )

-- the list without repetitions is no longer than the list
few_distinct : (names : List (List ℕ)) → length (distinct names) ≤ length names
few_distinct names = rw (← names_distinct names) (omega (arith, with_new_names_length [] names))

-- a filter keeps no more than there are
few_kept : (passes : List ℕ → Bool) (names : List (List ℕ)) → length (filter passes names) ≤ length names
few_kept passes [] = omega arith
few_kept passes (name ∷ names) = elim (cases_Bool (passes name)) [
  | inl e ↦ rw e (omega (arith, few_kept passes names))
  | inr e ↦ rw e (omega (arith, few_kept passes names))
]

-- so rules meet no more categories than they have
few_met : (kinds : List (List ℕ)) (rules : List RawRule) → length (flat_map (met_categories kinds) rules) ≤ met_count rules
few_met kinds [] = omega arith
few_met kinds (rule ∷ rules) =
    let passes : List ℕ → Bool = λ text. not (is_among kinds text) in
    omega (
      arith,
      length-append (filter passes (item_categories rule.items)) (flat_map (met_categories kinds) rules),
      length-append (item_categories rule.items) (flat_map all_met rules),
      few_kept passes (item_categories rule.items),
      few_met kinds rules,
    )

-- names that are there already change nothing
nothing_new : (names others : List (List ℕ)) → ((name : List ℕ) → is_among others name ≡ true → is_among names name ≡ true)
    → with_new_names names others ≡ names
nothing_new names [] there = refl
nothing_new names (name ∷ others) there =
    let first : is_among names name ≡ true = there name (head_among name others) in
    ap (λ start. with_new_names start others) (with_name_there names name first)
    ∙ nothing_new names others (λ other is. there other (among_right (name ∷ []) others other is))

-- and so do names that are added once more
added_twice : (names others : List (List ℕ)) → with_new_names names (others ++ others) ≡ with_new_names names others
added_twice names others =
    fold-append with_new_name names others others
    ∙ nothing_new (with_new_names names others) others
    (λ name there. any_with_new_names name names others ∙ ap (λ b. is_among names name || b) there ∙ or_right (is_among names name))

-- so many names are new among those that the rules of a definition have as words
abbrev AddsAtMost : List RawRule → ℕ → Type 0
AddsAtMost rules count =
    (names : List (List ℕ)) → length (with_new_names names (flat_map rule_words rules)) ≤ length names + count

-- one list of words, or the same list twice
adds_once : (rules : List RawRule) (words : List (List ℕ)) (count : ℕ) → length words ≤ count
    → (flat_map rule_words rules ≡ words) ⊎ (flat_map rule_words rules ≡ words ++ words) → AddsAtMost rules count
adds_once rules words count few (inl is) names =
    omega (arith, ap (λ w. length (with_new_names names w)) is, with_new_names_length names words, few)
adds_once rules words count few (inr is) names =
    omega (arith, ap (λ w. length (with_new_names names w)) is, ap length (added_twice names words), with_new_names_length names words, few)

terminator_adds : (nonempty : Bool) (cat : CatName) (words : List (List ℕ))
    → AddsAtMost (terminator_rules nonempty cat (map Word words)) (length words)
terminator_adds true cat words =
    adds_once (terminator_rules true cat (map Word words)) words (length words) (omega arith)
    (inr (rw (all_words words, words_behind words (Cat (list_of cat) ∷ []), append-nil words, append-nil words) refl))
terminator_adds false cat words =
    adds_once (terminator_rules false cat (map Word words)) words (length words) (omega arith)
    (inl (rw (words_behind words (Cat (list_of cat) ∷ []), append-nil words, append-nil words) refl))

separator_adds : (nonempty : Bool) (cat : CatName) (words : List (List ℕ))
    → AddsAtMost (separator_rules nonempty cat (map Word words)) (length words)
separator_adds nonempty cat [] = terminator_adds nonempty cat []
separator_adds true cat (word ∷ words) =
    adds_once (separator_rules true cat (map Word (word ∷ words))) (word ∷ words) (length (word ∷ words)) (omega arith)
    (inl (rw (words_behind words (Cat (list_of cat) ∷ []), append-nil words, append-nil words) refl))
separator_adds false cat (word ∷ words) =
    adds_once (separator_rules false cat (map Word (word ∷ words))) (word ∷ words) (length (word ∷ words)) (omega arith)
    (inl (rw (words_behind words (Cat (list_of cat) ∷ []), append-nil words, append-nil words) refl))

-- the tokens that a definition defines are counted with its words
abbrev kinds_bound : Def → ℕ
kinds_bound def = def_size def + 2 * length (rules_of_def def)

def_adds : (def : Def) (names : List (List ℕ))
    → length (with_new_names names (flat_map rule_words (rules_of_def def))) + length (token_in def) ≤ length names + kinds_bound def
def_adds (Rule rule) names =
    omega (arith, with_new_names_length names (item_words rule.items ++ []), length-append (item_words rule.items) [], few_item_words rule.items)
def_adds (Internal rule) names = omega arith
def_adds (Terminator nonempty cat word) names = omega (arith, terminator_adds nonempty cat (words_in word) names)
def_adds (Separator nonempty cat word) names = omega (arith, separator_adds nonempty cat (words_in word) names)
def_adds (Coercions name levels) names =
    omega (
      arith,
      with_new_names_length names (flat_map rule_words (coercion_rules name levels)),
      coercion_words name levels,
      coercion_count name levels,
    )
def_adds (Entry cats) names = omega arith
def_adds (Token name expr) names = omega arith
def_adds (LineComment opening) names = omega arith
def_adds (BlockComment opening closing) names = omega arith

defs_add : (defs : List Def) (names : List (List ℕ))
    → length (with_new_names names (flat_map rule_words (rules_of defs))) + length (flat_map token_in defs)
    ≤ length names + size_of defs + 2 * length (rules_of defs)
defs_add [] names = omega arith
defs_add (def ∷ defs) names =
    let own : List RawRule = rules_of_def def in
    let others : List RawRule = rules_of defs in
    let words : with_new_names names (flat_map rule_words (own ++ others)) ≡ with_new_names (with_new_names names (flat_map rule_words own)) (flat_map rule_words others)
    = ap (with_new_names names) (flat_map-append rule_words own others) ∙ fold-append with_new_name names (flat_map rule_words own) (flat_map rule_words others) in
    omega (
      arith,
      ap length words,
      length-append (token_in def) (flat_map token_in defs),
      length-append own others,
      sum_by-cons def_size def defs,
      def_adds def names,
      defs_add defs (with_new_names names (flat_map rule_words own)),
    )

-- at most five predefined kinds are active
few_active : (passes : List ℕ × Expr → Bool) (tokens : List (List ℕ × Expr)) → length (filter passes tokens) ≤ length tokens
few_active passes [] = omega arith
few_active passes (token ∷ tokens) = elim (cases_Bool (passes token)) [
  | inl e ↦ rw e (omega (arith, few_active passes tokens))
  | inr e ↦ rw e (omega (arith, few_active passes tokens))
]

-- rules, categories and kinds of definitions of the size that is read, which give few rules, can be
-- numbered
pub are_few : (defs : List Def) → size_of defs ≤ 32768 → HasFewRules defs → AreFew defs
are_few defs small few =
    let bounded = defs_bounded defs in
    let met : List (List ℕ) = flat_map (met_categories (kind_names defs)) (rules_of defs) in
    let words : length (words_of (rules_of defs)) ≡ length (with_new_names [] (flat_map rule_words (rules_of defs)))
    = ap length (sym (names_distinct (flat_map rule_words (rules_of defs)))) in
    record {
      rules = omega arith;
      categories =
          omega (
            arith,
            few_distinct (met ++ flat_map internal_category defs),
            length-append met (flat_map internal_category defs),
            few_met (kind_names defs) (rules_of defs),
            bounded.categories,
          );
      kinds =
          omega (
            arith,
            words,
            defs_add defs [],
            length-append (flat_map token_in defs) (active_kinds defs),
            few_active (λ (kind : List ℕ × Expr). is_active defs kind.0) predefined_kinds,
          );
      items = λ tables. omega (arith, few_items tables (rules_of defs), bounded.words, bounded.categories);
    }

-- so can those of their tables
pub tables_few : (defs : List Def) (tables : NameTables) → tables ≡ tables_of defs → AreFew defs
    → (length tables.categories < 2 ^ 16) × (length tables.words + length tables.tokens < 2 ^ 16)
tables_few defs tables are few = (
  omega (arith, ap (λ (t : NameTables). length t.categories) are, few.categories),
  omega (
    arith,
    ap (λ (t : NameTables). length t.words) are,
    ap (λ (t : NameTables). length t.tokens) are,
    length-map (tokens_of defs) (λ (token : List ℕ × Expr). token.0),
    few.kinds,
  ),
)
