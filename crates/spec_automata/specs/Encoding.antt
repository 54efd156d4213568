-- Token expressions and kinds as expressions over bytes: which sets of bytes they have, and in
-- which order. Each set is a position of the automaton.
use Rattle.std.specs.Prelude.{ℕ, List, [], ◌∷◌, map, Bool, ◌&&◌, ◌||◌, not, false, nat_eq, nat_le}
use Rattle.std.specs.Char.{encode_utf8}
use Rattle.std.specs.List.{filter, range_with_len}
use Rattle.std.specs.Set.{is_member}
use Rattle.std.specs.Str.{chars}
use Rattle.spec_text.specs.Bytes.{is_white}
use Rattle.spec_text.specs.Scalars.{is_between}
use Rattle.spec_lexing.specs.declared.expression.Class.{Class}
use Rattle.spec_lexing.specs.declared.expression.Class.TheVariants.{Digit, Letter, Upper, Lower}
use Rattle.spec_lexing.specs.declared.expression.Class.TheVariants.{AnyChar}
use Rattle.spec_lexing.specs.declared.kind_def.KindDef.{KindDef}
use Rattle.spec_lexing.specs.declared.kind_def.KindDef.TheVariants.{Word, Token as TokenDef}
use Rattle.spec_lexing.specs.Expressions.{Expression, class, scalar, any_of, word, minus, optional}
use Rattle.spec_lexing.specs.Expressions.{expression_of}
use Rattle.spec_lexing.specs.Classes.{IsSoundDef}
use Rattle.spec_lexing.specs.Kinds.{LexKind, white, line_comment, block_comment, symbol}
use Rattle.spec_lexing.specs.Matching.{is_of_class}
use Rattle.spec_automata.specs.ByteExpressions.{ByteExpression, empty, nothing, byte_in, in_turn}
use Rattle.spec_automata.specs.ByteExpressions.{either, star, plus, until}

-- the scalar is ASCII
abbrev pub is_ascii : ℕ → Bool
is_ascii c = nat_le c 127

-- the bytes that pass
unfoldable pub bytes_that : (ℕ → Bool) → List ℕ
bytes_that test = filter test (range_with_len 0 256)

-- one of the bytes from the least to the greatest
abbrev pub byte_between : ℕ → ℕ → ByteExpression
byte_between least greatest = byte_in (bytes_that (is_between least greatest))

-- one of these expressions
abbrev pub one_of_these : List ByteExpression → ByteExpression
one_of_these [] = nothing
one_of_these (part ∷ parts) = either part (one_of_these parts)

-- these expressions in turn
abbrev pub these_in_turn : List ByteExpression → ByteExpression
these_in_turn [] = empty
these_in_turn (part ∷ parts) = in_turn part (these_in_turn parts)

-- these bytes in turn
abbrev pub literal : List ℕ → ByteExpression
literal bytes = these_in_turn (map (λ byte. byte_in (byte ∷ [])) bytes)

-- a byte of a scalar behind its first: 80 to BF
abbrev pub next_byte : ByteExpression
next_byte = byte_between 128 191

-- any scalar, by its first byte: 00 to 7F alone, C2 to DF with one byte behind it, E0 to EF with
-- two, F0 to F4 with three
abbrev pub any_scalar : ByteExpression
any_scalar =
    one_of_these
    (byte_between 0 127
    ∷ these_in_turn (byte_between 194 223 ∷ next_byte ∷ [])
    ∷ these_in_turn (byte_between 224 239 ∷ next_byte ∷ next_byte ∷ [])
    ∷ these_in_turn (byte_between 240 244 ∷ next_byte ∷ next_byte ∷ next_byte ∷ []) ∷ [])

-- one of the ASCII characters of the class, or any scalar
abbrev pub bytes_of_class : Class → ByteExpression
bytes_of_class AnyChar = any_scalar
bytes_of_class Digit = byte_in (bytes_that (is_of_class Digit))
bytes_of_class Letter = byte_in (bytes_that (is_of_class Letter))
bytes_of_class Upper = byte_in (bytes_that (is_of_class Upper))
bytes_of_class Lower = byte_in (bytes_that (is_of_class Lower))

-- the scalars that are not ASCII
abbrev pub wide_scalars : List ℕ → List ℕ
wide_scalars scalars = filter (λ c. not (is_ascii c)) scalars

-- one of these scalars: one set for all that are ASCII, and beside it one sequence of bytes for
-- each other (one that occurs twice has two, which are always met together)
abbrev pub bytes_of_scalars : List ℕ → ByteExpression
bytes_of_scalars scalars =
    either (byte_in (bytes_that (λ b. is_ascii b && is_member nat_eq scalars b)))
    (one_of_these (map (λ c. literal (encode_utf8 c)) (wide_scalars scalars)))

-- whether the ASCII character is one of the class that the expression is
abbrev pub has_character : Expression → ℕ → Bool
has_character (class k) c = is_of_class k c
has_character (scalar d) c = nat_eq d c
has_character (any_of name) c = is_member nat_eq (chars name) c
has_character (Expression.either left right) c = has_character left c || has_character right c
has_character (minus left right) c = has_character left c && not (has_character right c)
has_character expression c = false

-- each set of bytes without the ASCII characters that pass
abbrev pub without : (ℕ → Bool) → ByteExpression → ByteExpression
without test empty = empty
without test nothing = nothing
without test (byte_in set) = byte_in (filter (λ b. not (is_ascii b && test b)) set)
without test (in_turn first second) = in_turn (without test first) (without test second)
without test (either left right) = either (without test left) (without test right)
without test (star part) = star (without test part)
without test (plus part) = plus (without test part)
without test (until closing) = until closing

-- the expression over bytes that a token expression is
abbrev pub bytes_of : Expression → ByteExpression
bytes_of Expression.empty = empty
bytes_of (class k) = bytes_of_class k
bytes_of (scalar c) = literal (encode_utf8 c)
bytes_of (any_of name) = bytes_of_scalars (chars name)
bytes_of (word name) = literal name
bytes_of (Expression.in_turn first second) = in_turn (bytes_of first) (bytes_of second)
bytes_of Expression.nothing = nothing
bytes_of (Expression.either left right) = either (bytes_of left) (bytes_of right)
bytes_of (minus left right) = without (has_character right) (bytes_of left)
bytes_of (Expression.star part) = star (bytes_of part)
bytes_of (Expression.plus part) = plus (bytes_of part)
bytes_of (optional part) = one_of_these (empty ∷ bytes_of part ∷ [])

-- the expression over bytes that a kind of a grammar is
abbrev pub bytes_of_def : KindDef → ByteExpression
bytes_of_def (Word name) = literal name
bytes_of_def (TokenDef name expr) = bytes_of (expression_of expr)

-- the expression over bytes that a kind is: white space one set; a line comment its opening text,
-- then any bytes but LF; a block comment its opening text, then bytes up to the first closing text
abbrev pub bytes_of_kind : LexKind → ByteExpression
bytes_of_kind white = byte_in (bytes_that is_white)
bytes_of_kind (line_comment opening) =
    these_in_turn (literal opening ∷ star (byte_in (bytes_that (λ b. not (nat_eq b 10)))) ∷ [])
bytes_of_kind (block_comment opening closing) =
    these_in_turn (literal opening ∷ until closing ∷ [])
bytes_of_kind (symbol number kind) = bytes_of_def kind

-- all kinds as one expression, the least first
abbrev pub bytes_of_kinds : List LexKind → ByteExpression
bytes_of_kinds kinds = one_of_these (map bytes_of_kind kinds)

-- the kind is sound, as comments and white space always are
abbrev pub IsSoundKind : LexKind → Type 0
IsSoundKind white = Unit {0}
IsSoundKind (line_comment opening) = Unit {0}
IsSoundKind (block_comment opening closing) = Unit {0}
IsSoundKind (symbol number kind) = IsSoundDef kind
