-- What the length of a file bounds in the definitions that are read from it.
use Rattle.std.specs.Prelude.{ℕ, ◌+◌, ◌<◌, ◌≤◌, List, length, All, sum_by}
use Rattle.spec_lbnf.specs.declared.definition.CatName.{CatName}
use Rattle.spec_lbnf.specs.declared.definition.RawItem.{RawItem}
use Rattle.spec_lbnf.specs.declared.definition.RawItem.TheVariants.{Cat, Word}
use Rattle.spec_lbnf.specs.declared.definition.Def.{Def}
use Rattle.spec_lbnf.specs.declared.definition.Def.TheVariants.{Rule, Internal, Terminator}
use Rattle.spec_lbnf.specs.declared.definition.Def.TheVariants.{Separator, Coercions, Entry}
use Rattle.spec_lbnf.specs.declared.definition.Def.TheVariants.{Token, LineComment, BlockComment}
use Rattle.spec_lbnf.specs.Words.{words_in}

-- how many parts a definition has: itself, its items, its entry points, and the words of its string
abbrev pub def_size : Def → ℕ
def_size (Rule rule) = 1 + length rule.items
def_size (Internal rule) = 1 + length rule.items
def_size (Terminator nonempty cat word) = 1 + length (words_in word)
def_size (Separator nonempty cat word) = 1 + length (words_in word)
def_size (Coercions name levels) = 1
def_size (Entry cats) = 1 + length cats
def_size (Token name expr) = 1
def_size (LineComment opening) = 1
def_size (BlockComment opening closing) = 1

-- the parts of all definitions, counted together
abbrev pub size_of : List Def → ℕ
size_of defs = sum_by def_size defs

-- the category has at most 63 brackets on each side
abbrev pub IsShallow : CatName → Type 0
IsShallow cat = cat.depth ≤ 63

-- a category among items is shallow, and a word has a byte
abbrev pub IsSmallItem : RawItem → Type 0
IsSmallItem (Cat cat) = IsShallow cat
IsSmallItem (Word word) = 0 < length word

-- the categories of the definition are shallow, and no word of its items is empty
abbrev pub IsSmall : Def → Type 0
IsSmall (Rule rule) = IsShallow rule.cat × All IsSmallItem rule.items
IsSmall (Internal rule) = IsShallow rule.cat × All IsSmallItem rule.items
IsSmall (Terminator nonempty cat word) = IsShallow cat
IsSmall (Separator nonempty cat word) = IsShallow cat
IsSmall (Coercions name levels) = Unit {0}
IsSmall (Entry cats) = All IsShallow cats
IsSmall (Token name expr) = Unit {0}
IsSmall (LineComment opening) = Unit {0}
IsSmall (BlockComment opening closing) = Unit {0}

-- the definitions have at most 32,768 parts together, and each is small
pub record AreFewAndSmall (defs : List Def) : Type 0 where
  pub few : size_of defs ≤ 32768
  pub small : All IsSmall defs
