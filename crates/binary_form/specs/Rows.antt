-- Serves the proofs alone. One row for each suffix, in the order of their numbers.
use Rattle.std.specs.Prelude.{◌≡◌, ℕ, ◌+◌, ◌<◌, ◌↔◌, List, [], Some, IsTrue, IsFalse}
use Rattle.std.specs.Prelude.{length, slice_get, take}
use Rattle.spec_grammar.specs.declared.rule.Symbol.{Symbol}
use Rattle.spec_grammar.specs.declared.rule.Symbol.TheVariants.{Category}
use Rattle.spec_grammar.specs.Grammars.{Grammar, item_count}
use Rattle.binary_form.specs.declared.rows.SuffixRow.{SuffixRow}
use Rattle.binary_form.specs.Symbols.{plain}
use Rattle.binary_form.specs.UnitSteps.{HasItem}
use Rattle.binary_form.specs.BinaryForm.{IsNumberOf}

-- the row is that of the suffix of rule r from place p on: it tells the item there and the rule's
-- category by their numbers, whether the suffix is the whole right side, and whether the item is
-- the last
pub record IsRow (g : Grammar) (r p : ℕ) (row : SuffixRow) : Type 0 where
  pub item : Symbol
  pub behind : List Symbol
  pub has : HasItem g.rules r p item behind
  pub is_item : IsNumberOf g (plain item) row.item
  pub is_category : IsNumberOf g (plain (Category (has.rule).category)) row.category
  pub is_first : IsTrue row.is_first ↔ (p ≡ 0)
  pub is_last : IsTrue row.is_last ↔ (behind ≡ [])

-- the row is that of the suffix which begins at this item, the items of all rules counted in order
pub record IsRowAt (g : Grammar) (n : ℕ) (row : SuffixRow) : Type 0 where
  pub r : ℕ
  pub p : ℕ
  pub count : item_count (take r g.rules) + p ≡ n
  pub is_row : IsRow g r p row

-- the rows are those of so many items, from the first on
pub record AreRowsUpTo (g : Grammar) (many : ℕ) (rows : List SuffixRow) : Type 0 where
  pub count : length rows ≡ many
  pub each : (n : ℕ) (row : SuffixRow) → slice_get rows n ≡ Some row → IsRowAt g n row

-- each item of the grammar has its row, in order
abbrev pub AreSuffixRows : Grammar → List SuffixRow → Type 0
AreSuffixRows g rows = AreRowsUpTo g (item_count g.rules) rows

-- the suffix's number and its item's are below the count, and so is that of the suffix behind the
-- item, if there is one
pub record IsRowWithin (row : SuffixRow) (suffix count : ℕ) : Type 0 where
  pub suffix_below : suffix < count
  pub item_below : row.item < count
  pub next_below : IsFalse row.is_last → suffix + 1 < count
