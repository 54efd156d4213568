-- What a grammar file spells, or its first fault.
use Rattle.std.specs.Prelude.{◌≡◌, ℕ, ◌<◌, ◌≤◌, List, [], ◌∷◌, ◌++◌, length, codes}
use Rattle.std.specs.Prelude.{map, cond, false, ◌⊎◌, IsUtf8, slice_get, Some}
use Rattle.std.specs.List.{list_any}
use Rattle.std.specs.Str.Lossy.{utf8_valid_len}
use Rattle.spec_text.specs.declared.limits.TheConstants.{MAX_FILE, MAX_CATEGORY}
use Rattle.spec_lbnf.specs.declared.definition.CatName.{CatName}
use Rattle.spec_lbnf.specs.declared.definition.Def.{Def}
use Rattle.spec_lbnf.specs.declared.fault.TextFault.{TextFault}
use Rattle.spec_lbnf.specs.declared.fault.TextFault.TheVariants.{TooLarge, NotUtf8, Syntax}
use Rattle.spec_lbnf.specs.declared.fault.TextFault.TheVariants.{Unsupported, BadDifference}
use Rattle.spec_lbnf.specs.declared.token.Sign.TheVariants.{OpenBracket, OpenParen}
use Rattle.spec_lbnf.specs.declared.token.FileToken.{FileToken}
use Rattle.spec_lbnf.specs.declared.token.FileToken.TheVariants.{Identifier}
use Rattle.spec_lbnf.specs.declared.token.FileToken.TheVariants.{Sign as SignToken}
use Rattle.spec_lbnf.specs.declared.token.PlacedToken.{PlacedToken}
use Rattle.spec_lbnf.specs.GrammarFile.{starts_upper}
use Rattle.spec_lbnf.specs.Expansion.{category_text}
use Rattle.spec_lbnf.specs.FileTokens.{IsScan}
use Rattle.spec_lbnf.specs.GrammarFile.{IsUpperName, IsCategory, category_tokens, keyword}
use Rattle.spec_lbnf.specs.GrammarFile.{is_semicolon, SpellsDefs}
use Rattle.spec_lbnf.specs.Differences.{HasGoodDifferences, IsFirstBad, minus_signs}

-- the tokens without their offsets
abbrev pub bare : List PlacedToken → List FileToken
bare tokens = map (λ (token : PlacedToken). token.token) tokens

-- with other tokens behind them, or none, the tokens spell definitions
abbrev pub CanGoOn : List FileToken → Type 0
CanGoOn tokens = (more : List FileToken) × (defs : List Def) × SpellsDefs defs (tokens ++ more)

-- the tokens end with an open bracket
abbrev pub EndsOpen : List FileToken → Type 0
EndsOpen tokens = (before : List FileToken) × (tokens ≡ before ++ SignToken OpenBracket ∷ [])

-- behind these tokens there stands a whole category of more than 128 bytes
pub record HasLongCategory (tokens before : List FileToken) : Type 0 where
  pub cat : CatName
  pub is_cat : IsCategory cat
  pub behind : List FileToken
  pub stands : tokens ≡ before ++ (category_tokens cat ++ behind)
  pub whole : EndsOpen before → ⊥
  pub long : MAX_CATEGORY < length (category_text cat)

-- no whole category among the tokens has more than 128 bytes
abbrev pub LacksLong : List FileToken → Type 0
LacksLong tokens = (before : List FileToken) → HasLongCategory tokens before → ⊥

-- the file has at most 65,536 bytes and is UTF-8, so that its tokens are looked at
pub record IsSmallText (bytes : List ℕ) : Type 0 where
  pub few : length bytes ≤ MAX_FILE
  pub utf8 : IsUtf8 bytes

-- the file has the form of the definitions: it is a small text, its tokens, these, reach its end
-- and spell them, and no category is too long
pub record HasForm (bytes : List ℕ) (tokens : List PlacedToken) (defs : List Def) : Type 0 where
  pub small : IsSmallText bytes
  pub scan : IsScan bytes tokens (length bytes)
  pub spelled : SpellsDefs defs (bare tokens)
  pub short : LacksLong (bare tokens)

-- the file spells the definitions: it has their form, and each difference is good
pub record Spells (bytes : List ℕ) (defs : List Def) : Type 0 where
  pub tokens : List PlacedToken
  pub form : HasForm bytes tokens defs
  pub good : HasGoodDifferences defs

-- the tokens behind the last semicolon, those of the definition that is read
abbrev pub last_piece : List FileToken → List FileToken
last_piece [] = []
last_piece (token ∷ tokens) =
    cond (list_any is_semicolon tokens) (last_piece tokens)
    (cond (is_semicolon token) tokens (token ∷ tokens))

-- the tokens are a label that is a name, alone or behind `internal`
abbrev pub IsNamedLabel : List FileToken → Type 0
IsNamedLabel piece =
    (label : List ℕ)
    × ((IsUpperName label × (piece ≡ Identifier label ∷ []))
    ⊎ (piece ≡ keyword (codes "internal") ∷ Identifier label ∷ []))

-- behind what a definition has begun with, the token at this offset is labelled BNF that this
-- profile leaves out, and this is its fault
pub data IsLeftOut (piece : List FileToken) (token : FileToken) (at : ℕ) (fault : TextFault) :
    Type 0 where
  -- a lower-case word, as the first of a definition
  first_word : (word : List ℕ) → piece ≡ [] → token ≡ Identifier word →
      starts_upper word ≡ false → fault ≡ Unsupported word at → IsLeftOut piece token at fault
  -- a label behind `internal` that begins in lower case
  lower_label : (word : List ℕ) → piece ≡ keyword (codes "internal") ∷ [] →
      token ≡ Identifier word → starts_upper word ≡ false → fault ≡ Unsupported word at →
      IsLeftOut piece token at fault
  -- a bracket behind a label that is a name
  label_bracket : IsNamedLabel piece → token ≡ SignToken OpenParen →
      fault ≡ Unsupported (codes "(") at → IsLeftOut piece token at fault

-- the first whole category of more than 128 bytes among the tokens begins at this offset
pub record IsFirstLong (tokens : List PlacedToken) (offset : ℕ) : Type 0 where
  pub before : List PlacedToken
  pub first : PlacedToken
  pub behind : List PlacedToken
  pub split : tokens ≡ before ++ first ∷ behind
  pub is_offset : offset ≡ first.offset
  pub long : HasLongCategory (bare tokens) (bare before)
  pub earlier : (other : List FileToken) → HasLongCategory (bare tokens) other
      → length before ≤ length other

-- the front of the tokens can go on
pub record IsFront (tokens front : List PlacedToken) : Type 0 where
  pub behind : List PlacedToken
  pub split : tokens ≡ front ++ behind
  pub viable : CanGoOn (bare front)

-- no category in the front of the tokens is too long, and it cannot go on with the next token, this
pub record StopsAt (tokens front : List PlacedToken) (token : PlacedToken) : Type 0 where
  pub behind : List PlacedToken
  pub split : tokens ≡ front ++ token ∷ behind
  pub short : LacksLong (bare front)
  pub stuck : CanGoOn (bare front ++ token.token ∷ []) → ⊥

-- the front is all of the tokens, and no category in it is too long
pub record ReachesEnd (tokens front : List PlacedToken) : Type 0 where
  pub whole : tokens ≡ front
  pub short : LacksLong (bare front)

-- behind the front the next token is left out of this profile, and this is its fault
abbrev pub LeavesOut : List PlacedToken → PlacedToken → TextFault → Type 0
LeavesOut front token fault =
    IsLeftOut (last_piece (bare front)) token.token token.offset fault

-- of the tokens, which reach to the stop, this is the fault at a front that can go on
pub data FaultAt (bytes : List ℕ) (tokens : List PlacedToken) (stop : ℕ)
    (front : List PlacedToken) (fault : TextFault) : Type 0 where
  -- a category in the front is too long
  long_category : (offset : ℕ) → IsFirstLong front offset → fault ≡ Syntax offset →
      FaultAt bytes tokens stop front fault
  -- the next token cannot stand there, and this profile leaves it out
  left_out : (token : PlacedToken) → StopsAt tokens front token → LeavesOut front token fault →
      FaultAt bytes tokens stop front fault
  -- the next token cannot stand there
  misplaced : (token : PlacedToken) → StopsAt tokens front token →
      ((other : TextFault) → LeavesOut front token other → ⊥) → fault ≡ Syntax token.offset →
      FaultAt bytes tokens stop front fault
  -- the next bytes begin no token
  no_token : ReachesEnd tokens front → stop < length bytes → fault ≡ Syntax stop →
      FaultAt bytes tokens stop front fault
  -- the file ends within a definition
  early_end : ReachesEnd tokens front → stop ≡ length bytes →
      ((defs : List Def) → SpellsDefs defs (bare tokens) → ⊥) → fault ≡ Syntax stop →
      FaultAt bytes tokens stop front fault

-- the first difference that is not good has its minus sign at this offset
pub record IsFirstBadAt (tokens : List PlacedToken) (defs : List Def) (offset : ℕ) : Type 0 where
  pub number : ℕ
  pub first : IsFirstBad defs number
  pub sign : PlacedToken
  pub is_sign : slice_get (minus_signs tokens) number ≡ Some sign
  pub is_offset : offset ≡ sign.offset

-- the first fault of a file: its size, then its encoding, then the least offset at which it cannot
-- go on, then the first difference that is not good
pub data IsFirstFault (bytes : List ℕ) (fault : TextFault) : Type 0 where
  is_large : MAX_FILE < length bytes → fault ≡ TooLarge (length bytes) → IsFirstFault bytes fault
  is_not_utf8 : length bytes ≤ MAX_FILE → utf8_valid_len bytes < length bytes →
      fault ≡ NotUtf8 (utf8_valid_len bytes) → IsFirstFault bytes fault
  in_tokens : IsSmallText bytes → (tokens : List PlacedToken) → (stop : ℕ) →
      IsScan bytes tokens stop → (front : List PlacedToken) → IsFront tokens front →
      FaultAt bytes tokens stop front fault → IsFirstFault bytes fault
  bad_difference : (tokens : List PlacedToken) → (defs : List Def) → HasForm bytes tokens defs →
      (offset : ℕ) → IsFirstBadAt tokens defs offset → fault ≡ BadDifference offset →
      IsFirstFault bytes fault
