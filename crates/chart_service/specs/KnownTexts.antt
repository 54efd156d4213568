-- Serves the proofs alone: what is known of the words of a grammar, and what follows for its kinds.
use Rattle.std.specs.Prelude.{List, All}
use Rattle.std.specs.Str.{IsUtf8}
use Rattle.spec_lexing.specs.declared.kind_def.KindDef.{KindDef}
use Rattle.spec_lexing.specs.declared.kind_def.KindDef.TheVariants.{Word, Token as TokenDef}
use Rattle.spec_lexing.specs.Classes.{IsSoundDef}

-- the kind, if it is a word, is UTF-8
abbrev pub IsUtf8Word : KindDef → Type 0
IsUtf8Word (Word word) = IsUtf8 word
IsUtf8Word (TokenDef name expr) = Unit {0}

-- where the words among them are UTF-8, the kinds are sound
abbrev pub AreSoundByWords : List KindDef → Type 0
AreSoundByWords kinds = All IsUtf8Word kinds → All IsSoundDef kinds
