-- Reading the tokens of a definition from left to right. Serves the proofs alone: what tokens spell
-- is said in GrammarFile.
use Rattle.std.specs.Prelude.{ℕ, zero, suc, ◌+◌, List, [], ◌∷◌, ◌++◌, length, drop, codes}
use Rattle.std.specs.Prelude.{Bool, true, false, cond, nat_le, bytes_eq, map, Option, Some, None}
use Rattle.spec_lexing.specs.declared.expression.Expr.{Expr}
use Rattle.spec_grammar.specs.declared.rule.Label.{Label}
use Rattle.spec_grammar.specs.declared.rule.Label.TheVariants.{Named, Wild, Nil, Cons, One}
use Rattle.spec_lbnf.specs.declared.definition.CatName.{CatName}
use Rattle.spec_lbnf.specs.declared.definition.RawItem.{RawItem}
use Rattle.spec_lbnf.specs.declared.definition.RawItem.TheVariants.{Cat, Word}
use Rattle.spec_lbnf.specs.declared.definition.RawRule.{RawRule}
use Rattle.spec_lbnf.specs.declared.definition.Def.{Def}
use Rattle.spec_lbnf.specs.declared.definition.Def.TheVariants.{Rule, Internal, Terminator}
use Rattle.spec_lbnf.specs.declared.definition.Def.TheVariants.{Separator, Coercions, Entry}
use Rattle.spec_lbnf.specs.declared.definition.Def.TheVariants.{Token, LineComment, BlockComment}
use Rattle.spec_lbnf.specs.declared.token.Sign.{Sign}
use Rattle.spec_lbnf.specs.declared.token.Sign.TheVariants.{Dot, Gives, Colon, Comma}
use Rattle.spec_lbnf.specs.declared.token.Sign.TheVariants.{OpenBracket, CloseBracket, OpenParen}
use Rattle.spec_lbnf.specs.declared.token.Sign.TheVariants.{CloseParen, Underscore}
use Rattle.spec_lbnf.specs.declared.token.FileToken.{FileToken}
use Rattle.spec_lbnf.specs.declared.token.FileToken.TheVariants.{Identifier, Number, Text}
use Rattle.spec_lbnf.specs.declared.token.FileToken.TheVariants.{Sign as SignToken}
use Rattle.spec_lbnf.specs.declared.token.PlacedToken.{PlacedToken}
use Rattle.spec_lbnf.specs.GrammarFile.{starts_upper}
use Rattle.spec_lbnf.specs.FileTokens.{sign_bytes}
use Rattle.spec_lbnf.specs.Words.{is_empty, words_in}
use Rattle.lbnf_readers.specs.declared.expression_state.ExpressionState.{ExpressionState}
use Rattle.lbnf_readers.specs.ExpressionReading.{step, first_state, whole_of}

-- what a reader gives: a value, and the tokens behind it; or the tokens from where it cannot go on;
-- or the tokens from a category on that is too long
pub data Read (A : Type 0) : Type 0 where
  got : A → List PlacedToken → Read A
  stuck : List PlacedToken → Read A
  long : List PlacedToken → Read A

-- a reader of a value at the front of the tokens
abbrev pub Reader : Type 0 → Type 0
Reader A = List PlacedToken → Read A

-- the next reader on what the first gave
unfoldable pub next_on : {A B : Type 0} → (A → Reader B) → Read A → Read B
next_on next (got value rest) = next value rest
next_on next (stuck rest) = stuck rest
next_on next (long rest) = long rest

infixl 10 ◌>>=◌
-- one reader, and the next behind it
abbrev pub ◌>>=◌ : {A B : Type 0} → Reader A → (A → Reader B) → Reader B
(first >>= next) tokens = next_on next (first tokens)

-- the value, and nothing read
abbrev pub pure : {A : Type 0} → A → Reader A
pure value tokens = got value tokens

-- one token, where it gives a value
abbrev pub take_or_stick : {A : Type 0} → Option A → PlacedToken → List PlacedToken → Read A
take_or_stick (Some value) token rest = got value rest
take_or_stick None token rest = stuck (token ∷ rest)

-- one token that gives a value
unfoldable pub take_token : {A : Type 0} → (FileToken → Option A) → Reader A
take_token value_of [] = stuck []
take_token value_of (token ∷ rest) = take_or_stick (value_of token.token) token rest

-- the token is this sign
abbrev pub is_sign : Sign → FileToken → Bool
is_sign sign (SignToken other) = bytes_eq (sign_bytes sign) (sign_bytes other)
is_sign sign other = false

-- this sign
unfoldable pub sign_at : Sign → Reader (Unit {0})
sign_at sign = take_token (λ token. cond (is_sign sign token) (Some tt) None)

-- the upper-case name that the token is
abbrev pub upper_name : FileToken → Option (List ℕ)
upper_name (Identifier name) = cond (starts_upper name) (Some name) None
upper_name other = None

-- an upper-case name
unfoldable pub name_at : Reader (List ℕ)
name_at = take_token upper_name

-- the text that the token is
abbrev pub text_value : FileToken → Option (List ℕ)
text_value (Text value) = Some value
text_value other = None

-- a string
unfoldable pub text_at : Reader (List ℕ)
text_at = take_token text_value

-- the number that the token is
abbrev pub number_value : FileToken → Option ℕ
number_value (Number value) = Some value
number_value other = None

-- a number
unfoldable pub number_at : Reader ℕ
number_at = take_token number_value

-- how many open brackets come first
abbrev pub open_count : List PlacedToken → ℕ
open_count [] = 0
open_count (token ∷ rest) = cond (is_sign OpenBracket token.token) (suc (open_count rest)) 0

-- so many close brackets
unfoldable pub closes_at : ℕ → Reader (Unit {0})
closes_at zero tokens = got tt tokens
closes_at (suc count) tokens = (sign_at CloseBracket >>= λ done. closes_at count) tokens

-- a category of so many brackets, of any length
unfoldable pub bracketed_at : ℕ → Reader CatName
bracketed_at depth = do
  name ← name_at
  done ← closes_at depth
  pure (record { name = name; depth = depth })

-- the category, or where it begins, if it has more than 128 bytes
abbrev pub limited : List PlacedToken → CatName → Reader CatName
limited start cat rest =
    cond (nat_le (cat.depth + length cat.name + cat.depth) 128) (got cat rest) (long start)

-- a category of at most 128 bytes
unfoldable pub category_at : Reader CatName
category_at tokens =
    next_on (limited tokens)
    (bracketed_at (open_count tokens) (drop (open_count tokens) tokens))

-- the label that begins with an open bracket, behind it
unfoldable pub nil_at : Reader Label
nil_at = do
  done ← sign_at CloseBracket
  pure Nil

-- the label `(:[])`, behind its open bracket
unfoldable pub one_at : Reader Label
one_at = do
  close ← sign_at CloseBracket
  end ← sign_at CloseParen
  pure One

-- the label of a list of one element or of more, behind its colon
unfoldable pub colon_label_at : Reader Label
colon_label_at [] = stuck []
colon_label_at (token ∷ rest) =
    cond (is_sign CloseParen token.token) (got Cons rest)
    (cond (is_sign OpenBracket token.token) (one_at rest) (stuck (token ∷ rest)))

-- the label that begins with an open parenthesis, behind it
unfoldable pub paren_label_at : Reader Label
paren_label_at = do
  colon ← sign_at Colon
  colon_label_at

-- a label that is no name, by its first token
unfoldable pub sign_label_at : PlacedToken → Reader Label
sign_label_at token rest =
    cond (is_sign Underscore token.token) (got Wild rest)
    (cond (is_sign OpenBracket token.token) (nil_at rest)
    (cond (is_sign OpenParen token.token) (paren_label_at rest) (stuck (token ∷ rest))))

-- the label with this name, or one that is no name
abbrev pub label_by : Option (List ℕ) → PlacedToken → Reader Label
label_by (Some name) token rest = got (Named name) rest
label_by None token rest = sign_label_at token rest

-- a label
unfoldable pub label_at : Reader Label
label_at [] = stuck []
label_at (token ∷ rest) = label_by (upper_name token.token) token rest

-- the items of one that is written: the words of the string, or else of a category
abbrev pub item_by : Option (List ℕ) → PlacedToken → Reader (List RawItem)
item_by (Some text) token rest = got (map Word (words_in text)) rest
item_by None token rest =
    next_on (λ cat. pure (Cat cat ∷ [])) (category_at (token ∷ rest))

-- the items that the first token begins
unfoldable pub item_at : Reader (List RawItem)
item_at [] = stuck []
item_at (token ∷ rest) = item_by (text_value token.token) token rest

-- the items up to the end of the tokens, where they are fewer than the turns
unfoldable pub items_at : ℕ → Reader (List RawItem)
items_at turns [] = got [] []
items_at zero (token ∷ rest) = stuck (token ∷ rest)
items_at (suc turns) (token ∷ rest) =
    (item_at >>= (λ items. items_at turns >>= (λ others. pure (items ++ others)))) (token ∷ rest)

-- a right side: the items up to the end of the tokens
unfoldable pub side_at : Reader (List RawItem)
side_at tokens = items_at (length tokens) tokens

-- a rule
unfoldable pub rule_at : Reader RawRule
rule_at = do
  label ← label_at
  dot ← sign_at Dot
  cat ← category_at
  gives ← sign_at Gives
  items ← side_at
  pure (record { label = label; cat = cat; items = items })

-- the category and the string of a macro
unfoldable pub macro_at : (CatName → List ℕ → Def) → Reader Def
macro_at def_of = do
  cat ← category_at
  word ← text_at
  pure (def_of cat word)

-- the token is this word
abbrev pub is_word : List ℕ → FileToken → Bool
is_word word (Identifier name) = bytes_eq name word
is_word word other = false

-- a macro behind its first word, with `nonempty` or without
unfoldable pub list_macro_at : (Bool → CatName → List ℕ → Def) → Reader Def
list_macro_at def_of [] = stuck []
list_macro_at def_of (token ∷ rest) =
    cond (is_word (codes "nonempty") token.token) (macro_at (def_of true) rest)
    (macro_at (def_of false) (token ∷ rest))

-- the name and the number of coercions
unfoldable pub coercions_at : Reader Def
coercions_at = do
  name ← name_at
  levels ← number_at
  pure (Coercions name levels)

-- the categories behind a comma each, up to the end of the tokens, where they are fewer than the
-- turns
unfoldable pub more_entries_at : ℕ → Reader (List CatName)
more_entries_at turns [] = got [] []
more_entries_at zero (token ∷ rest) = stuck (token ∷ rest)
more_entries_at (suc turns) (token ∷ rest) =
    (sign_at Comma >>= (λ comma. category_at >>= (λ cat. more_entries_at turns
    >>= (λ cats. pure (cat ∷ cats))))) (token ∷ rest)

-- one category or more, up to the end of the tokens
unfoldable pub entries_at : Reader (List CatName)
entries_at tokens =
    (category_at >>= (λ cat. more_entries_at (length tokens)
    >>= (λ cats. pure (cat ∷ cats)))) tokens

-- the expression, or nothing where it is not whole
abbrev pub got_whole : Option Expr → Read Expr
got_whole (Some expr) = got expr []
got_whole None = stuck []

-- what is read behind a state, or the tokens where there is none
abbrev pub behind_step : {A : Type 0} → Option ExpressionState → (ExpressionState → Read A)
    → Reader A
behind_step (Some state) behind tokens = behind state
behind_step None behind tokens = stuck tokens

-- the expression up to the end of the tokens, of which the state has read what is before them
unfoldable pub expression_from : List PlacedToken → ExpressionState → Read Expr
expression_from [] state = got_whole (whole_of state)
expression_from (token ∷ rest) state =
    behind_step (step state token.token) (expression_from rest) (token ∷ rest)

-- a token expression up to the end of the tokens
unfoldable pub expression_at : Reader Expr
expression_at tokens = expression_from tokens first_state

-- the name and the expression of a kind of token
unfoldable pub token_at : Reader Def
token_at = do
  name ← name_at
  expr ← expression_at
  pure (Token name expr)

-- this word
unfoldable pub word_at : List ℕ → Reader (Unit {0})
word_at word = take_token (λ token. cond (is_word word token) (Some tt) None)

-- a kind of token behind `position`
unfoldable pub position_at : Reader Def
position_at = do
  word ← word_at (codes "token")
  token_at

-- the text of one byte or more that the token is
abbrev pub filled_text : FileToken → Option (List ℕ)
filled_text (Text value) = cond (is_empty value) None (Some value)
filled_text other = None

-- a string of one byte or more
unfoldable pub filled_text_at : Reader (List ℕ)
filled_text_at = take_token filled_text

-- the comment with this opening text, by whether a closing text is left
unfoldable pub comment_end : List ℕ → Reader Def
comment_end opening [] = got (LineComment opening) []
comment_end opening (token ∷ rest) =
    next_on (λ closing. pure (BlockComment opening closing)) (filled_text_at (token ∷ rest))

-- the texts of a comment
unfoldable pub comment_at : Reader Def
comment_at = do
  opening ← filled_text_at
  comment_end opening

-- the value, where no token is left
unfoldable pub to_end : {A : Type 0} → A → Reader A
to_end value [] = got value []
to_end value (token ∷ rest) = stuck (token ∷ rest)

-- the definition that begins with this word, behind it, or else a rule
unfoldable pub def_by : PlacedToken → Reader Def
def_by token rest =
    cond (is_word (codes "internal") token.token)
    ((rule_at >>= (λ rule. pure (Internal rule))) rest)
    (cond (is_word (codes "terminator") token.token) (list_macro_at Terminator rest)
    (cond (is_word (codes "separator") token.token) (list_macro_at Separator rest)
    (cond (is_word (codes "coercions") token.token) (coercions_at rest)
    (cond (is_word (codes "entrypoints") token.token)
    ((entries_at >>= (λ cats. pure (Entry cats))) rest)
    (cond (is_word (codes "token") token.token) (token_at rest)
    (cond (is_word (codes "position") token.token) (position_at rest)
    (cond (is_word (codes "comment") token.token) (comment_at rest)
    ((rule_at >>= (λ rule. pure (Rule rule))) (token ∷ rest)))))))))

-- the definition that all of the tokens are
unfoldable pub def_at : Reader Def
def_at [] = stuck []
def_at (token ∷ rest) = next_on to_end (def_by token rest)
