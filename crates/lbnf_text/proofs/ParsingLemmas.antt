-- Steps of the parser's loops.
use Rattle.std.proofs.Common.{◌≡◌, ℕ, zero, suc, ◌+◌, ◌<◌, ◌≤◌, List, [], ◌∷◌, ◌++◌, codes, length, get_or, refl, sym, ap, ◌∙◌, arith, append_assoc, append-nil, true, false, IsTrue, Some, None}
use Rattle.std.specs.List.{prefix_len}
use Rattle.spec_lbnf.specs.declared.token.PlacedToken.{PlacedToken}
use Rattle.spec_lbnf.specs.declared.token.Sign.TheVariants.{OpenBracket, CloseBracket, Comma}
use Rattle.lbnf_readers.specs.FileReading.{Read, got, stuck, long, next_on, is_sign, sign_at, open_count, closes_at}
use Rattle.lbnf_readers.specs.FileReading.{category_at, entries_at, more_entries_at, Reader}
use Rattle.spec_lbnf.specs.declared.definition.CatName.{CatName}
use Rattle.lbnf_readers.specs.FileReading.{◌>>=◌, pure, item_at, items_at, side_at}
use Rattle.spec_lbnf.specs.declared.definition.RawItem.{RawItem}
use Rattle.lbnf_text.specs.declared.parser.Stop.{Stop}
use Rattle.lbnf_text.specs.declared.parser.Stop.TheVariants.{Memory, Stuck, Long}
use Rattle.lbnf_readers.specs.FileReading.{is_word, def_by, list_macro_at}
use Rattle.lbnf_text.specs.declared.definition.ListMacro.TheVariants.{Separator}
use Rattle.lbnf_text.specs.Parsing.{stopped, list_def, category_item_at}
use Rattle.lbnf_readers.specs.FileReading.{text_value}
use Rattle.spec_lbnf.specs.declared.definition.RawItem.TheVariants.{Cat}
use Rattle.spec_lbnf.specs.Expansion.{word_items}

-- the open brackets that come first are a run
pub open_run : (tokens : List PlacedToken) → prefix_len (λ (token : PlacedToken). is_sign OpenBracket token.token) tokens ≡ open_count tokens
open_run [] = refl
open_run (token ∷ rest) =
    let one : 1 + open_count rest ≡ suc (open_count rest) = omega arith in
    rw (open_run rest, one) refl

-- where all are open brackets, the run is as long as the tokens
pub all_open : (tokens : List PlacedToken)
    → ((k : ℕ) (other : PlacedToken) → k < length tokens → is_sign OpenBracket (get_or tokens k other).token ≡ true)
    → length tokens ≡ open_count tokens
all_open [] all = refl
all_open (token ∷ rest) all =
    let first : is_sign OpenBracket token.token ≡ true = all 0 token (omega arith) in
    rw (first, ← all_open rest (λ k other lt. all (suc k) other (omega arith))) refl

-- after a reader that stops, no other reads
pub next_stopped : {A B : Type 0} (next : A → List PlacedToken → Read B) (stop : Stop) (rest : List PlacedToken) → next_on next (stopped stop rest) ≡ stopped stop rest
unfolding next_on
next_stopped next Memory rest = refl
next_stopped next Stuck rest = refl
next_stopped next Long rest = refl

-- of so many brackets to be closed, some are closed, and the others come next
pub record AreClosed (count done : ℕ) (tokens rest : List PlacedToken) : Type 0 where
  pub left : ℕ
  pub all : done + left ≡ count
  pub whole : closes_at count tokens ≡ closes_at left rest

-- at first none is closed
pub none_closed : (count : ℕ) (tokens : List PlacedToken) → AreClosed count 0 tokens tokens
none_closed count tokens = record { left = count; all = omega arith; whole = refl }

module _ (count done : ℕ) (tokens rest : List PlacedToken) (closed : AreClosed count done tokens rest) where
  -- in the end all are closed
  pub all_closed : done ≡ count → closes_at count tokens ≡ got tt rest
  unfolding closes_at
  all_closed all = let none : closed.left ≡ 0 = omega (arith, closed.all) in rw (closed.whole, none) refl

  -- where another is left, it comes next
  next_closed : done < count → (less : ℕ) × (closed.left ≡ suc less)
      × (closes_at count tokens ≡ next_on (λ done. closes_at less) (sign_at CloseBracket rest))
  unfolding closes_at
  next_closed more = by closed.left (omega (arith, closed.all)) closed.whole
    where
      by : (left : ℕ) → 0 < left → closes_at count tokens ≡ closes_at left rest → (less : ℕ) × (left ≡ suc less)
          × (closes_at count tokens ≡ next_on (λ done. closes_at less) (sign_at CloseBracket rest))
      by zero some whole = absurd (omega arith)
      by (suc less) some whole = (less, refl, whole)

  -- another is closed
  pub more_closed : done < count → (behind : List PlacedToken) → sign_at CloseBracket rest ≡ got tt behind
      → AreClosed count (done + 1) tokens behind
  unfolding next_on
  more_closed more behind read =
      let next = next_closed more in
      record { left = next.0; all = omega (arith, closed.all, next.1); whole = rw read at next.2 }

  -- where another is not closed, the reader stops
  pub not_closed : done < count → (stop : Stop) (behind : List PlacedToken)
      → sign_at CloseBracket rest ≡ stopped stop behind → closes_at count tokens ≡ stopped stop behind
  unfolding next_on
  not_closed more stop behind read =
      let next = next_closed more in
      rw (next.2, read, next_stopped) refl

-- what a reader of a list gives, behind these
abbrev pub with_front : {A : Type 0} → List A → Read (List A) → Read (List A)
with_front front read = next_on (λ others. pure (front ++ others)) read

-- a category that is read is one item
pub category_read : (tokens : List PlacedToken) (cat : CatName) (rest : List PlacedToken) → category_at tokens ≡ got cat rest
    → category_item_at tokens ≡ got (Cat cat ∷ []) rest
unfolding next_on
category_read tokens cat rest read = rw read refl

module _ (tokens : List PlacedToken) (token : PlacedToken) (rest : List PlacedToken) (split : tokens ≡ token ∷ rest) where
  -- a string that comes first is its words
  pub text_item : (text : List ℕ) → text_value token.token ≡ Some text → item_at tokens ≡ got (word_items text) rest
  unfolding item_at
  text_item text is = rw (split, is) refl

  -- where no string comes first, a category does, or no item
  pub other_item : text_value token.token ≡ None → item_at tokens ≡ category_item_at tokens
  unfolding item_at
  other_item none = rw (split, none) refl

-- the tokens are these items, and then those that the rest is
pub record AreReadItems (tokens : List PlacedToken) (items : List RawItem) (rest : List PlacedToken) : Type 0 where
  pub turns : ℕ
  pub enough : length rest ≤ turns
  pub whole : side_at tokens ≡ with_front items (items_at turns rest)

-- tokens are left where there are not none
pub some_left : (tokens : List PlacedToken) → (tokens ≡ [] → IsTrue false) → 0 < length tokens
some_left [] some = absurd (cc (some refl))
some_left (token ∷ rest) some = omega arith

-- at first no item is read
pub no_items : (tokens : List PlacedToken) → AreReadItems tokens [] tokens
unfolding side_at next_on
no_items tokens = record { turns = length tokens; enough = omega arith; whole = same (items_at (length tokens) tokens) }
  where
    same : (read : Read (List RawItem)) → read ≡ with_front [] read
    same (got items rest) = refl
    same (stuck rest) = refl
    same (long rest) = refl

-- where nothing is left, the items are all
pub all_items : (tokens : List PlacedToken) (items : List RawItem) (rest : List PlacedToken) → AreReadItems tokens items rest → rest ≡ [] → side_at tokens ≡ got items rest
unfolding items_at next_on
all_items tokens items [] read none = read.whole ∙ ap (λ all. got all []) (append-nil items)
all_items tokens items (token ∷ rest) read none = absurd (cc)

-- what is behind more items is behind all of them
in_front : {A : Type 0} (front more : List A) (others : Read (List A))
    → with_front front (next_on (λ others. pure (more ++ others)) others) ≡ with_front (front ++ more) others
unfolding next_on
in_front front more (got others rest) = ap (λ all. got all rest) (sym (append_assoc front more others))
in_front front more (stuck rest) = refl
in_front front more (long rest) = refl

module _ (tokens : List PlacedToken) (items : List RawItem) (rest : List PlacedToken) (read : AreReadItems tokens items rest) (left : 0 < length rest) where
  -- an item is read next
  next_item : (less : ℕ) × (read.turns ≡ suc less)
      × (items_at read.turns rest ≡ next_on (λ more. items_at less >>= (λ others. pure (more ++ others))) (item_at rest))
  unfolding items_at
  next_item = by read.turns rest read.enough left
    where
      by : (turns : ℕ) (rest : List PlacedToken) → length rest ≤ turns → 0 < length rest → (less : ℕ) × (turns ≡ suc less)
          × (items_at turns rest ≡ next_on (λ more. items_at less >>= (λ others. pure (more ++ others))) (item_at rest))
      by turns [] enough left = absurd (omega arith)
      by zero (token ∷ rest) enough left = absurd (omega arith)
      by (suc less) (token ∷ rest) enough left = (less, refl, refl)

  -- where what comes next is no item, the tokens are no right side
  pub no_side : (stop : Stop) (behind : List PlacedToken) → item_at rest ≡ stopped stop behind → side_at tokens ≡ stopped stop behind
  no_side stop behind none =
      let next = next_item in
      rw (read.whole, next.2, none, next_stopped, next_stopped) refl

  -- the items of the next one are read
  pub more_items : (more : List RawItem) (behind : List PlacedToken) → item_at rest ≡ got more behind → length behind < length rest
      → AreReadItems tokens (items ++ more) behind
  unfolding next_on
  more_items more behind some shorter =
      let next = next_item in
      record {
        turns = next.0;
        enough = omega (arith, next.1, read.enough);
        whole = read.whole ∙ ap (with_front items) (next.2 ∙ rw some refl) ∙ in_front items more (items_at next.0 behind);
      }

-- the tokens are these categories, with a comma between each two, and then those that the rest is
pub record AreReadEntries (tokens : List PlacedToken) (cats : List CatName) (rest : List PlacedToken) : Type 0 where
  pub turns : ℕ
  pub enough : length rest ≤ turns
  pub whole : entries_at tokens ≡ with_front cats (more_entries_at turns rest)

-- the first category is read
pub first_entry : (tokens : List PlacedToken) (cat : CatName) (rest : List PlacedToken) → category_at tokens ≡ got cat rest
    → length rest < length tokens → AreReadEntries tokens (cat ∷ []) rest
unfolding entries_at next_on
first_entry tokens cat rest read shorter = record { turns = length tokens; enough = omega arith; whole = rw read refl }

-- where the first category is not read, none is
pub no_first : (tokens : List PlacedToken) (stop : Stop) (rest : List PlacedToken) → category_at tokens ≡ stopped stop rest
    → entries_at tokens ≡ stopped stop rest
unfolding entries_at
no_first tokens stop rest none = rw (none, next_stopped) refl

-- where nothing is left, the categories are all
pub all_entries : (tokens : List PlacedToken) (cats : List CatName) (rest : List PlacedToken) → AreReadEntries tokens cats rest → rest ≡ [] → entries_at tokens ≡ got cats rest
unfolding more_entries_at next_on
all_entries tokens cats [] read none = read.whole ∙ ap (λ all. got all []) (append-nil cats)
all_entries tokens cats (token ∷ rest) read none = absurd (cc)

-- of three readers in turn, the first two may be taken together
turned : {A B C : Type 0} (first : Read A) (second : A → Reader B) (third : B → Reader C)
    → next_on (λ a. second a >>= third) first ≡ next_on third (next_on second first)
unfolding next_on
turned (got value rest) second third = refl
turned (stuck rest) second third = refl
turned (long rest) second third = refl

module _ (tokens : List PlacedToken) (cats : List CatName) (rest : List PlacedToken) (read : AreReadEntries tokens cats rest) (left : 0 < length rest) where
  -- a comma and a category are read next
  next_entry : (less : ℕ) × (read.turns ≡ suc less)
      × (more_entries_at read.turns rest ≡ next_on (λ cat. more_entries_at less >>= (λ others. pure (cat ∷ others))) (next_on (λ comma. category_at) (sign_at Comma rest)))
  unfolding more_entries_at
  next_entry = by read.turns rest read.enough left
    where
      by : (turns : ℕ) (rest : List PlacedToken) → length rest ≤ turns → 0 < length rest → (less : ℕ) × (turns ≡ suc less)
          × (more_entries_at turns rest ≡ next_on (λ cat. more_entries_at less >>= (λ others. pure (cat ∷ others))) (next_on (λ comma. category_at) (sign_at Comma rest)))
      by turns [] enough left = absurd (omega arith)
      by zero (token ∷ rest) enough left = absurd (omega arith)
      by (suc less) (token ∷ rest) enough left = (less, refl, turned (sign_at Comma (token ∷ rest)) (λ comma. category_at) (λ cat. more_entries_at less >>= (λ others. pure (cat ∷ others))))

  -- where they are not read, the tokens are no categories
  pub no_entry : (stop : Stop) (behind : List PlacedToken) → next_on (λ comma. category_at) (sign_at Comma rest) ≡ stopped stop behind → entries_at tokens ≡ stopped stop behind
  no_entry stop behind none =
      let next = next_entry in
      rw (read.whole, next.2, none, next_stopped, next_stopped) refl

  -- the category is read
  pub more_entries : (cat : CatName) (behind : List PlacedToken) → next_on (λ comma. category_at) (sign_at Comma rest) ≡ got cat behind → length behind < length rest
      → AreReadEntries tokens (cats ++ cat ∷ []) behind
  unfolding next_on
  more_entries cat behind some shorter =
      let next = next_entry in
      record {
        turns = next.0;
        enough = omega (arith, next.1, read.enough);
        whole = read.whole ∙ ap (with_front cats) (next.2 ∙ rw some refl) ∙ in_front cats (cat ∷ []) (more_entries_at next.0 behind);
      }

-- a definition that begins with `separator`
pub separator_by : (token : PlacedToken) (rest : List PlacedToken) → is_word (codes "internal") token.token ≡ false
    → is_word (codes "terminator") token.token ≡ false → is_word (codes "separator") token.token ≡ true
    → def_by token rest ≡ list_macro_at (list_def Separator) rest
unfolding def_by
separator_by token rest internal terminator separator = rw (internal, terminator, separator) refl
