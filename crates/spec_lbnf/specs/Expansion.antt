-- The grammar that definitions stand for: its rules in file order, and the numbers of its
-- categories and kinds.
use Rattle.std.specs.Prelude.{ℕ, ◌+◌, List, [], ◌∷◌, ◌++◌, length, map, filter, flat_map}
use Rattle.std.specs.Prelude.{not, replicate, bytes_eq, zero, codes, Bool, ◌&&◌, cond}
use Rattle.std.specs.Prelude.{Option, Some, None}
use Rattle.std.specs.Option.{option_map, option_or}
use Rattle.std.specs.Fmt.{decimal}
use Rattle.std.specs.List.{filter_map, list_any, range_with_len}
use Rattle.spec_lexing.specs.declared.expression.Expr.{Expr}
use Rattle.spec_lexing.specs.declared.kind_def.KindDef.{KindDef}
use Rattle.spec_lexing.specs.declared.kind_def.KindDef.TheVariants.{Word as WordKind}
use Rattle.spec_lexing.specs.declared.kind_def.KindDef.TheVariants.{Token as TokenKind}
use Rattle.spec_lexing.specs.Predefined.{predefined_kinds, predefined_names}
use Rattle.spec_grammar.specs.declared.rule.Label.TheVariants.{Wild, Nil, Cons, One}
use Rattle.spec_grammar.specs.declared.rule.Symbol.{Symbol}
use Rattle.spec_grammar.specs.declared.rule.Symbol.TheVariants.{Kind}
use Rattle.spec_grammar.specs.declared.rule.Rule.{Rule}
use Rattle.spec_grammar.specs.Grammars.{Grammar, name_number, category_symbol}
use Rattle.spec_lbnf.specs.declared.definition.CatName.{CatName}
use Rattle.spec_lbnf.specs.declared.definition.RawItem.{RawItem}
use Rattle.spec_lbnf.specs.declared.definition.RawItem.TheVariants.{Cat, Word}
use Rattle.spec_lbnf.specs.declared.definition.RawRule.{RawRule}
use Rattle.spec_lbnf.specs.declared.definition.Def.{Def}
use Rattle.spec_lbnf.specs.declared.definition.Def.TheVariants.{Rule as RuleDef, Internal}
use Rattle.spec_lbnf.specs.declared.definition.Def.TheVariants.{Terminator, Separator, Coercions}
use Rattle.spec_lbnf.specs.declared.definition.Def.TheVariants.{Entry, Token, LineComment}
use Rattle.spec_lbnf.specs.declared.definition.Def.TheVariants.{BlockComment}
use Rattle.spec_lbnf.specs.Words.{is_empty, words_in}

-- the text of a category: its name inside its brackets
abbrev pub category_text : CatName → List ℕ
category_text cat = replicate cat.depth 91 ++ (cat.name ++ replicate cat.depth 93)

-- the category of the lists of a category
abbrev pub list_of : CatName → CatName
list_of cat = record { name = cat.name; depth = cat.depth + 1 }

-- the words of a string, as items
abbrev pub word_items : List ℕ → List RawItem
word_items text = map Word (words_in text)

-- the empty list: [] . [C] ::=
abbrev pub nil_rule : CatName → RawRule
nil_rule cat = record { label = Nil; cat = list_of cat; items = [] }

-- a list of one element, with these items behind it: (:[]) . [C] ::= C items
abbrev pub one_rule : CatName → List RawItem → RawRule
one_rule cat items = record { label = One; cat = list_of cat; items = Cat cat ∷ items }

-- an element, these items, and the other elements: (:) . [C] ::= C items [C]
abbrev pub cons_rule : CatName → List RawItem → RawRule
cons_rule cat items = record {
  label = Cons;
  cat = list_of cat;
  items = Cat cat ∷ items ++ Cat (list_of cat) ∷ [];
}

-- lists with these items behind each element, from the empty list on, or from one element on
abbrev pub terminator_rules : Bool → CatName → List RawItem → List RawRule
terminator_rules nonempty cat items =
    cond nonempty (one_rule cat items) (nil_rule cat) ∷ cons_rule cat items ∷ []

-- the empty list, unless lists are not empty
abbrev pub nil_rules : Bool → CatName → List RawRule
nil_rules nonempty cat = cond nonempty [] (nil_rule cat ∷ [])

-- lists with these items between each two elements; without items, as if they stood behind each
abbrev pub separator_rules : Bool → CatName → List RawItem → List RawRule
separator_rules nonempty cat items =
    cond (is_empty items) (terminator_rules nonempty cat items)
    (nil_rules nonempty cat ++ (one_rule cat [] ∷ cons_rule cat items ∷ []))

-- the category of a level of precedence: the name at level 0, and else the name and the number
abbrev pub level_category : List ℕ → ℕ → CatName
level_category name zero = record { name = name; depth = 0 }
level_category name level = record { name = name ++ decimal level; depth = 0 }

-- from a level to the next: _ . C1 ::= C2
abbrev pub level_rule : List ℕ → ℕ → RawRule
level_rule name level = record {
  label = Wild;
  cat = level_category name level;
  items = Cat (level_category name (level + 1)) ∷ [];
}

-- from the last level to the first, in brackets: _ . C2 ::= "(" C ")"
abbrev pub bracket_rule : List ℕ → ℕ → RawRule
bracket_rule name level = record {
  label = Wild;
  cat = level_category name level;
  items = Word (codes "(") ∷ Cat (level_category name 0) ∷ Word (codes ")") ∷ [];
}

-- from each level below the last to the next, and from the last to the first
abbrev pub coercion_rules : List ℕ → ℕ → List RawRule
coercion_rules name levels =
    map (level_rule name) (range_with_len 0 levels) ++ bracket_rule name levels ∷ []

-- the rules that a definition gives, in order
abbrev pub rules_of_def : Def → List RawRule
rules_of_def (RuleDef rule) = rule ∷ []
rules_of_def (Terminator nonempty cat word) = terminator_rules nonempty cat (word_items word)
rules_of_def (Separator nonempty cat word) = separator_rules nonempty cat (word_items word)
rules_of_def (Coercions name levels) = coercion_rules name levels
rules_of_def other = []

-- the rules that the definitions give, in file order
abbrev pub rules_of : List Def → List RawRule
rules_of defs = flat_map rules_of_def defs

-- the category that the item is, and None of a word
abbrev pub category_in : RawItem → Option CatName
category_in (Cat cat) = Some cat
category_in (Word word) = None

-- the word that the item is, and None of a category
abbrev pub word_in : RawItem → Option (List ℕ)
word_in (Cat cat) = None
word_in (Word word) = Some word

-- the items that are no words, in order
abbrev pub categories_in : List RawItem → List CatName
categories_in items = filter_map category_in items

-- the texts of the categories among the items, in order
abbrev pub item_categories : List RawItem → List (List ℕ)
item_categories items = map category_text (categories_in items)

-- the words among the items, in order
abbrev pub item_words : List RawItem → List (List ℕ)
item_words items = filter_map word_in items

-- the list without repetitions, in the order of first meeting
abbrev pub distinct : List (List ℕ) → List (List ℕ)
distinct [] = []
distinct (x ∷ xs) = x ∷ filter (λ y. not (bytes_eq x y)) (distinct xs)

-- the category of an internal rule
abbrev pub internal_category : Def → List (List ℕ)
internal_category (Internal rule) = category_text rule.cat ∷ []
internal_category other = []

-- the categories that the definition names: entry points, or the categories among its rules' items
abbrev pub named_categories : Def → List (List ℕ)
named_categories (Entry cats) = map category_text cats
named_categories def = flat_map (λ (rule : RawRule). item_categories rule.items) (rules_of_def def)

-- the token that the definition defines, by its name and its expression
abbrev pub token_in : Def → List (List ℕ × Expr)
token_in (Token name expr) = (name, expr) ∷ []
token_in other = []

-- the names of tokens
abbrev pub names_in : List (List ℕ × Expr) → List (List ℕ)
names_in tokens = map (λ (token : List ℕ × Expr). token.0) tokens

-- the names of the token definitions, in file order
abbrev pub token_names : List Def → List (List ℕ)
token_names defs = names_in (flat_map token_in defs)

-- the names that are no category's, each once: those of token definitions and the predefined ones
abbrev pub kind_names : List Def → List (List ℕ)
kind_names defs = distinct (token_names defs ++ predefined_names)

-- the name is one of these
abbrev pub is_among : List (List ℕ) → List ℕ → Bool
is_among names name = list_any (bytes_eq name) names

-- the predefined kind of this name is active: a definition names it, and none defines it
abbrev pub is_active : List Def → List ℕ → Bool
is_active defs name =
    is_among (flat_map named_categories defs) name && not (is_among (token_names defs) name)

-- the active predefined kinds, in their order
abbrev pub active_kinds : List Def → List (List ℕ × Expr)
active_kinds defs = filter (λ (kind : List ℕ × Expr). is_active defs kind.0) predefined_kinds

-- the tokens that have names: token definitions in file order, and active predefined kinds
abbrev pub tokens_of : List Def → List (List ℕ × Expr)
tokens_of defs = flat_map token_in defs ++ active_kinds defs

-- the categories that a rule meets, where these are names of kinds: its own first, and then those
-- of its items that are no kinds
abbrev pub met_categories : List (List ℕ) → RawRule → List (List ℕ)
met_categories kinds rule =
    category_text rule.cat ∷ filter (λ text. not (is_among kinds text)) (item_categories rule.items)

-- the categories in the order in which the rules meet them, and behind these the categories that
-- only internal rules have, in file order
abbrev pub categories_of : List Def → List (List ℕ)
categories_of defs =
    distinct (flat_map (met_categories (kind_names defs)) (rules_of defs)
    ++ flat_map internal_category defs)

-- the first category of the first definition of entry points
abbrev pub first_entry : List Def → Option (List ℕ)
first_entry [] = None
first_entry (Entry (cat ∷ cats) ∷ defs) = Some (category_text cat)
first_entry (other ∷ defs) = first_entry defs

-- the category of the first rule
abbrev pub first_category : List RawRule → Option (List ℕ)
first_category [] = None
first_category (rule ∷ rules) = Some (category_text rule.cat)

-- the category that is asked for where none is named
abbrev pub entry_text : List Def → Option (List ℕ)
entry_text defs = option_or (first_entry defs) (first_category (rules_of defs))

-- the words in the order in which the rules meet them
abbrev pub words_of : List RawRule → List (List ℕ)
words_of rules = distinct (flat_map (λ (rule : RawRule). item_words rule.items) rules)

-- the names by whose places symbols are numbered
pub record NameTables : Type 0 where
  pub categories : List (List ℕ)
  pub words : List (List ℕ)
  pub tokens : List (List ℕ)

-- the names of the categories, the words and the tokens that definitions have
abbrev pub tables_of : List Def → NameTables
tables_of defs = record {
  categories = categories_of defs;
  words = words_of (rules_of defs);
  tokens = names_in (tokens_of defs);
}

-- the symbol of a name: the kind of the token of this name, if there is one, behind all words, and
-- else the category
abbrev pub named_symbol : NameTables → List ℕ → Symbol
named_symbol tables name =
    cond (is_among tables.tokens name)
    (Kind (length tables.words + name_number tables.tokens name))
    (category_symbol tables.categories name)

-- the symbol of an item
abbrev pub item_symbol : NameTables → RawItem → Symbol
item_symbol tables (Cat cat) = named_symbol tables (category_text cat)
item_symbol tables (Word word) = Kind (name_number tables.words word)

-- the rule with its symbols' numbers
abbrev pub numbered_rule : NameTables → RawRule → Rule
numbered_rule tables rule = record {
  label = rule.label;
  category = name_number tables.categories (category_text rule.cat);
  items = map (item_symbol tables) rule.items;
}

-- the word that begins the line comments of the definition
abbrev pub line_comment_in : Def → List (List ℕ)
line_comment_in (LineComment opening) = opening ∷ []
line_comment_in other = []

-- the words that begin and end the block comments of the definition
abbrev pub block_comment_in : Def → List (List ℕ × List ℕ)
block_comment_in (BlockComment opening closing) = (opening, closing) ∷ []
block_comment_in other = []

-- a kind of these words, one for each, and of these tokens behind them
abbrev pub kinds_by : List (List ℕ) → List (List ℕ × Expr) → List KindDef
kinds_by words tokens =
    map WordKind words ++ map (λ (token : List ℕ × Expr). TokenKind token.0 token.1) tokens

-- the grammar that the definitions stand for
abbrev pub expansion_of : List Def → Grammar
expansion_of defs = record {
  rules = map (numbered_rule (tables_of defs)) (rules_of defs);
  categories = categories_of defs;
  lexicon = record {
    line_comments = flat_map line_comment_in defs;
    block_comments = flat_map block_comment_in defs;
    kinds = kinds_by (words_of (rules_of defs)) (tokens_of defs);
  };
  entry = option_map (named_symbol (tables_of defs)) (entry_text defs);
}
