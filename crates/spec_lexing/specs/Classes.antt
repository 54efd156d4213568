-- Classes: expressions that match one scalar. A difference takes an ASCII class away from a class.
use Rattle.std.specs.Prelude.{◌<◌, All}
use Rattle.std.specs.Char.{IsScalar}
use Rattle.std.specs.Str.{IsUtf8, chars}
use Rattle.spec_lexing.specs.declared.expression.Class.TheVariants.{AnyChar}
use Rattle.spec_lexing.specs.declared.kind_def.KindDef.{KindDef}
use Rattle.spec_lexing.specs.declared.kind_def.KindDef.TheVariants.{Word, Token as TokenDef}
use Rattle.spec_lexing.specs.Expressions.{Expression, empty, class, scalar, any_of, word, in_turn}
use Rattle.spec_lexing.specs.Expressions.{nothing, either, minus, star, plus, optional}
use Rattle.spec_lexing.specs.Expressions.{expression_of}

-- the expression is a class: all that it matches is one scalar (nothing ends a list of alternatives)
abbrev pub IsClass : Expression → Type 0
IsClass (class k) = Unit {0}
IsClass (scalar c) = Unit {0}
IsClass (any_of name) = Unit {0}
IsClass nothing = Unit {0}
IsClass (either left right) = IsClass left × IsClass right
IsClass (minus left right) = Unit {0}
IsClass expression = ⊥

-- the expression is a class that has ASCII characters alone; of a difference the left side alone
-- counts
abbrev pub IsAsciiClass : Expression → Type 0
IsAsciiClass (class AnyChar) = ⊥
IsAsciiClass (class k) = Unit {0}
IsAsciiClass (scalar c) = c < 128
IsAsciiClass (any_of name) = All (λ c. c < 128) (chars name)
IsAsciiClass nothing = Unit {0}
IsAsciiClass (either left right) = IsAsciiClass left × IsAsciiClass right
IsAsciiClass (minus left right) = IsAsciiClass left
IsAsciiClass expression = ⊥

-- the difference is one of a class and an ASCII class
abbrev pub IsGoodDifference : Expression → Expression → Type 0
IsGoodDifference left right = IsClass left × IsAsciiClass right

-- the scalars and names of the expression are such in UTF-8, and each difference is one of a class
-- and an ASCII class
abbrev pub IsSound : Expression → Type 0
IsSound empty = Unit {0}
IsSound (class k) = Unit {0}
IsSound (scalar c) = IsScalar c
IsSound (any_of name) = IsUtf8 name
IsSound (word name) = IsUtf8 name
IsSound (in_turn first second) = IsSound first × IsSound second
IsSound nothing = Unit {0}
IsSound (either left right) = IsSound left × IsSound right
IsSound (minus left right) = IsGoodDifference left right × IsSound left × IsSound right
IsSound (star part) = IsSound part
IsSound (plus part) = IsSound part
IsSound (optional part) = IsSound part

-- the kind of a grammar is sound: its word is UTF-8, or its expression is sound
abbrev pub IsSoundDef : KindDef → Type 0
IsSoundDef (Word name) = IsUtf8 name
IsSoundDef (TokenDef name expr) = IsSound (expression_of expr)
