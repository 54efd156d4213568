-- What the tokens of a grammar file spell: each form of definition is one line.
use Rattle.std.specs.Prelude.{◌≡◌, ℕ, ◌<◌, List, [], ◌∷◌, ◌++◌, length, codes, Bool, true}
use Rattle.std.specs.Prelude.{false, not, All, filter, map, flat_map, replicate}
use Rattle.std.specs.List.{slice_split}
use Rattle.spec_text.specs.Bytes.{is_upper}
use Rattle.spec_lexing.specs.declared.expression.Expr.{Expr}
use Rattle.spec_grammar.specs.declared.rule.Label.{Label}
use Rattle.spec_grammar.specs.declared.rule.Label.TheVariants.{Named, Wild, Nil, Cons, One}
use Rattle.spec_lbnf.specs.declared.definition.CatName.{CatName}
use Rattle.spec_lbnf.specs.declared.definition.RawItem.{RawItem}
use Rattle.spec_lbnf.specs.declared.definition.RawItem.TheVariants.{Cat, Word}
use Rattle.spec_lbnf.specs.declared.definition.RawRule.{RawRule}
use Rattle.spec_lbnf.specs.declared.definition.Def.{Def}
use Rattle.spec_lbnf.specs.declared.definition.Def.TheVariants.{Rule, Internal, Terminator}
use Rattle.spec_lbnf.specs.declared.definition.Def.TheVariants.{Separator, Coercions, Entry}
use Rattle.spec_lbnf.specs.declared.definition.Def.TheVariants.{Token, LineComment, BlockComment}
use Rattle.spec_lbnf.specs.declared.token.Sign.TheVariants.{Dot, Semicolon, Gives, Colon, Comma}
use Rattle.spec_lbnf.specs.declared.token.Sign.TheVariants.{OpenBracket, CloseBracket, OpenParen}
use Rattle.spec_lbnf.specs.declared.token.Sign.TheVariants.{CloseParen, Underscore}
use Rattle.spec_lbnf.specs.declared.token.FileToken.{FileToken}
use Rattle.spec_lbnf.specs.declared.token.FileToken.TheVariants.{Identifier, Number, Text}
use Rattle.spec_lbnf.specs.declared.token.FileToken.TheVariants.{Sign as SignToken}
use Rattle.spec_lbnf.specs.TokenExpressions.{SpellsExpr}
use Rattle.spec_lbnf.specs.Words.{is_empty, words_in}

-- the name begins with an upper-case letter
abbrev pub starts_upper : List ℕ → Bool
starts_upper [] = false
starts_upper (byte ∷ bytes) = is_upper byte

-- the identifier begins with an upper-case letter, as a label's and a category's name does
abbrev pub IsUpperName : List ℕ → Type 0
IsUpperName name = starts_upper name ≡ true

-- the tokens of a category: its name inside its brackets
abbrev pub category_tokens : CatName → List FileToken
category_tokens cat =
    replicate cat.depth (SignToken OpenBracket)
    ++ (Identifier cat.name ∷ replicate cat.depth (SignToken CloseBracket))

-- the category has an upper-case name
abbrev pub IsCategory : CatName → Type 0
IsCategory cat = IsUpperName cat.name

-- the tokens of a label
abbrev pub label_tokens : Label → List FileToken
label_tokens (Named name) = Identifier name ∷ []
label_tokens Wild = SignToken Underscore ∷ []
label_tokens Nil = SignToken OpenBracket ∷ SignToken CloseBracket ∷ []
label_tokens Cons = SignToken OpenParen ∷ SignToken Colon ∷ SignToken CloseParen ∷ []
label_tokens One =
    SignToken OpenParen ∷ SignToken Colon ∷ SignToken OpenBracket ∷ SignToken CloseBracket
    ∷ SignToken CloseParen ∷ []

-- the label, if it is a name, has an upper-case one
abbrev pub IsLabel : Label → Type 0
IsLabel (Named name) = IsUpperName name
IsLabel other = Unit {0}

-- an item as it is written: a category, or a string of any number of words
pub data WrittenItem : Type 0 where
  category : CatName → WrittenItem
  string : List ℕ → WrittenItem

-- the written item, if it is a category, has an upper-case name
abbrev pub IsWritten : WrittenItem → Type 0
IsWritten (category cat) = IsCategory cat
IsWritten (string text) = Unit {0}

-- the tokens of a written item
abbrev pub written_tokens : WrittenItem → List FileToken
written_tokens (category cat) = category_tokens cat
written_tokens (string text) = Text text ∷ []

-- the items that a written item gives: a category itself, and a string its words
abbrev pub written_items : WrittenItem → List RawItem
written_items (category cat) = Cat cat ∷ []
written_items (string text) = map Word (words_in text)

-- the tokens are written items in turn, which give these items
pub record SpellsItems (items : List RawItem) (tokens : List FileToken) : Type 0 where
  pub written : List WrittenItem
  pub each : All IsWritten written
  pub whole : tokens ≡ flat_map written_tokens written
  pub gives : items ≡ flat_map written_items written

-- the tokens spell a rule: Label . Cat ::= Items
pub record SpellsRule (rule : RawRule) (tokens : List FileToken) : Type 0 where
  pub is_label : IsLabel rule.label
  pub is_cat : IsCategory rule.cat
  pub side : List FileToken
  pub items : SpellsItems rule.items side
  pub whole : tokens
      ≡ label_tokens rule.label
      ++ (SignToken Dot ∷ category_tokens rule.cat ++ (SignToken Gives ∷ side))

-- a word of the notation
abbrev pub keyword : List ℕ → FileToken
keyword word = Identifier word

-- the word `nonempty`, where it is written
abbrev pub nonempty_tokens : Bool → List FileToken
nonempty_tokens true = keyword (codes "nonempty") ∷ []
nonempty_tokens false = []

-- the categories with a comma between each two
abbrev pub entry_tokens : List CatName → List FileToken
entry_tokens [] = []
entry_tokens (cat ∷ []) = category_tokens cat
entry_tokens (cat ∷ next ∷ cats) =
    category_tokens cat ++ (SignToken Comma ∷ entry_tokens (next ∷ cats))

-- the tokens of a macro: its first word, perhaps `nonempty`, a category and a string
abbrev pub macro_tokens : List ℕ → Bool → CatName → List ℕ → List FileToken
macro_tokens first nonempty cat word =
    keyword first ∷ nonempty_tokens nonempty ++ (category_tokens cat ++ Text word ∷ [])

-- the word `position`, where it is written
abbrev pub position_tokens : Bool → List FileToken
position_tokens true = keyword (codes "position") ∷ []
position_tokens false = []

-- the tokens spell a kind of token: perhaps `position`, then `token`, a name and an expression
pub record SpellsToken (name : List ℕ) (expr : Expr) (tokens : List FileToken) : Type 0 where
  pub is_name : IsUpperName name
  pub position : Bool
  pub own : List FileToken
  pub spelled : SpellsExpr expr own
  pub whole : tokens
      ≡ position_tokens position ++ (keyword (codes "token") ∷ Identifier name ∷ own)

-- the tokens spell the definition
abbrev pub SpellsDef : Def → List FileToken → Type 0
SpellsDef (Rule rule) tokens = SpellsRule rule tokens
SpellsDef (Internal rule) tokens =
    (own : List FileToken) × SpellsRule rule own × (tokens ≡ keyword (codes "internal") ∷ own)
SpellsDef (Terminator nonempty cat word) tokens =
    IsCategory cat × (tokens ≡ macro_tokens (codes "terminator") nonempty cat word)
SpellsDef (Separator nonempty cat word) tokens =
    IsCategory cat × (tokens ≡ macro_tokens (codes "separator") nonempty cat word)
SpellsDef (Coercions name levels) tokens =
    IsUpperName name
    × (tokens ≡ keyword (codes "coercions") ∷ Identifier name ∷ Number levels ∷ [])
SpellsDef (Entry cats) tokens =
    (0 < length cats) × All IsCategory cats
    × (tokens ≡ keyword (codes "entrypoints") ∷ entry_tokens cats)
SpellsDef (Token name expr) tokens = SpellsToken name expr tokens
SpellsDef (LineComment opening) tokens =
    (0 < length opening) × (tokens ≡ keyword (codes "comment") ∷ Text opening ∷ [])
SpellsDef (BlockComment opening closing) tokens =
    (0 < length opening) × (0 < length closing)
    × (tokens ≡ keyword (codes "comment") ∷ Text opening ∷ Text closing ∷ [])

-- the token is a semicolon
abbrev pub is_semicolon : FileToken → Bool
is_semicolon (SignToken Semicolon) = true
is_semicolon other = false

-- the tokens of each definition: those of the file are cut at each semicolon, and empty definitions
-- are passed over
abbrev pub pieces_of : List FileToken → List (List FileToken)
pieces_of tokens = filter (λ piece. not (is_empty piece)) (slice_split is_semicolon tokens)

-- each definition is spelled by the piece at its place
abbrev pub AreSpelledBy : List Def → List (List FileToken) → Type 0
AreSpelledBy [] [] = Unit {0}
AreSpelledBy (def ∷ defs) (piece ∷ pieces) = SpellsDef def piece × AreSpelledBy defs pieces
AreSpelledBy defs pieces = ⊥

-- the tokens of a file spell the definitions, whatever the lengths of their categories
abbrev pub SpellsDefs : List Def → List FileToken → Type 0
SpellsDefs defs tokens = AreSpelledBy defs (pieces_of tokens)
