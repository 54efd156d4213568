-- Names in the order of first meeting, and how many there are. Serves the proofs alone.
use Rattle.std.specs.Prelude.{ℕ, ◌+◌, ◌<◌, ◌^◌, List, [], ◌∷◌, ◌++◌, cond, fold, bytes_eq, length, map}
use Rattle.std.specs.List.{list_any}
use Rattle.spec_lbnf.specs.declared.definition.Def.{Def}
use Rattle.spec_lbnf.specs.Expansion.{rules_of, categories_of, words_of, tokens_of, numbered_rule}
use Rattle.spec_lbnf.specs.Expansion.{NameTables}
use Rattle.spec_grammar.specs.Grammars.{item_count}

-- the names, and this one behind them, if it is none of them
abbrev pub with_new_name : List (List ℕ) → List ℕ → List (List ℕ)
with_new_name names name = cond (list_any (bytes_eq name) names) names (names ++ name ∷ [])

-- the names, and those of the others that are new
abbrev pub with_new_names : List (List ℕ) → List (List ℕ) → List (List ℕ)
with_new_names names others = fold with_new_name names others

-- rules, categories and kinds can be numbered
pub record AreFew (defs : List Def) : Type 0 where
  pub rules : length (rules_of defs) < 2 ^ 16
  pub categories : length (categories_of defs) < 2 ^ 16
  pub kinds : length (words_of (rules_of defs)) + length (tokens_of defs) < 2 ^ 16
  pub items : (tables : NameTables)
      → item_count (map (numbered_rule tables) (rules_of defs)) < 2 ^ 31
