-- Tests of a token tell which token it is.
use Rattle.std.proofs.Common.{◌≡◌, ℕ, List, true, false, cond, Some, None, codes, refl, sym, ap, subst, ◌∙◌}
use Rattle.std.specs.Str.{bytes_eq}
use Rattle.std.proofs.lemmas.Bool.{false≢true}
use Rattle.std.proofs.lemmas.Option.{cond_some, same_Some, none-some}
use Rattle.std.proofs.lemmas.Slice.Eq.{bytes_eq-Decides}
use Rattle.spec_lbnf.specs.declared.token.Sign.{Sign}
use Rattle.spec_lbnf.specs.declared.token.Sign.TheVariants.{Dot, Semicolon, Gives, Colon}
use Rattle.spec_lbnf.specs.declared.token.Sign.TheVariants.{OpenBracket, CloseBracket}
use Rattle.spec_lbnf.specs.declared.token.Sign.TheVariants.{OpenParen, CloseParen, OpenBrace}
use Rattle.spec_lbnf.specs.declared.token.Sign.TheVariants.{CloseBrace, Comma, Bar, Star, Plus}
use Rattle.spec_lbnf.specs.declared.token.Sign.TheVariants.{Question, Minus, Underscore}
use Rattle.spec_lbnf.specs.declared.token.FileToken.{FileToken}
use Rattle.spec_lbnf.specs.declared.token.FileToken.TheVariants.{Identifier, Number, Text}
use Rattle.spec_lbnf.specs.declared.token.FileToken.TheVariants.{Character}
use Rattle.spec_lbnf.specs.declared.token.FileToken.TheVariants.{Sign as SignToken}
use Rattle.spec_lbnf.specs.GrammarFile.{starts_upper}
use Rattle.spec_lbnf.specs.FileTokens.{sign_bytes}
use Rattle.spec_lbnf.specs.GrammarFile.{IsUpperName}
use Rattle.lbnf_readers.specs.FileReading.{is_sign, upper_name, text_value, number_value, is_word}

-- the sign with these bytes
sign_of : List ℕ → Sign
sign_of bytes =
    cond (bytes_eq bytes (codes ".")) Dot
    (cond (bytes_eq bytes (codes ";")) Semicolon
    (cond (bytes_eq bytes (codes "::=")) Gives
    (cond (bytes_eq bytes (codes ":")) Colon
    (cond (bytes_eq bytes (codes "[")) OpenBracket
    (cond (bytes_eq bytes (codes "]")) CloseBracket
    (cond (bytes_eq bytes (codes "(")) OpenParen
    (cond (bytes_eq bytes (codes ")")) CloseParen
    (cond (bytes_eq bytes (codes "{")) OpenBrace
    (cond (bytes_eq bytes (codes "}")) CloseBrace
    (cond (bytes_eq bytes (codes ",")) Comma
    (cond (bytes_eq bytes (codes "|")) Bar
    (cond (bytes_eq bytes (codes "*")) Star
    (cond (bytes_eq bytes (codes "+")) Plus
    (cond (bytes_eq bytes (codes "?")) Question
    (cond (bytes_eq bytes (codes "-")) Minus Underscore)))))))))))))))

-- a sign is the one with its bytes
sign_back : (sign : Sign) → sign_of (sign_bytes sign) ≡ sign
unfolding sign_of
sign_back Dot = refl
sign_back Semicolon = refl
sign_back Gives = refl
sign_back Colon = refl
sign_back OpenBracket = refl
sign_back CloseBracket = refl
sign_back OpenParen = refl
sign_back CloseParen = refl
sign_back OpenBrace = refl
sign_back CloseBrace = refl
sign_back Comma = refl
sign_back Bar = refl
sign_back Star = refl
sign_back Plus = refl
sign_back Question = refl
sign_back Minus = refl
sign_back Underscore = refl

-- a token that is this sign by the test is this sign
pub sign_true : (sign : Sign) (token : FileToken) → is_sign sign token ≡ true → token ≡ SignToken sign
sign_true sign (SignToken other) h =
    let bytes = (bytes_eq-Decides (sign_bytes sign) (sign_bytes other)).0 h in
    ap SignToken (sym (sign_back other) ∙ ap sign_of (sym bytes) ∙ sign_back sign)
sign_true sign (Identifier name) h = absurd (false≢true h)
sign_true sign (Number value) h = absurd (false≢true h)
sign_true sign (Text value) h = absurd (false≢true h)
sign_true sign (Character value) h = absurd (false≢true h)

-- a sign is this sign by the test
pub sign_same : (sign : Sign) (token : FileToken) → token ≡ SignToken sign → is_sign sign token ≡ true
sign_same sign token e = rw e ((bytes_eq-Decides (sign_bytes sign) (sign_bytes sign)).1 refl)

-- a token that is not this sign by the test is not this sign
pub sign_false : (sign : Sign) (token : FileToken) → is_sign sign token ≡ false → token ≡ SignToken sign → ⊥
sign_false sign token h e = false≢true (sym h ∙ sign_same sign token e)

-- a token that is this word by the test is this word
pub word_true : (word : List ℕ) (token : FileToken) → is_word word token ≡ true → token ≡ Identifier word
word_true word (Identifier name) h = ap Identifier ((bytes_eq-Decides name word).0 h)
word_true word (SignToken other) h = absurd (false≢true h)
word_true word (Number value) h = absurd (false≢true h)
word_true word (Text value) h = absurd (false≢true h)
word_true word (Character value) h = absurd (false≢true h)

-- a token that is not this word by the test is not this word
pub word_false : (word : List ℕ) (token : FileToken) → is_word word token ≡ false → token ≡ Identifier word → ⊥
word_false word token h e =
    let same : is_word word token ≡ true = rw e ((bytes_eq-Decides word word).1 refl) in
    false≢true (sym h ∙ same)

-- a token with an upper-case name is this name
pub upper_some : (token : FileToken) (name : List ℕ) → upper_name token ≡ Some name → (token ≡ Identifier name) × IsUpperName name
upper_some (Identifier own) name h =
    let split = cond_some (starts_upper own) own name h in
    (ap Identifier split.1, subst IsUpperName split.1 split.0)
upper_some (SignToken other) name h = absurd (none-some name h)
upper_some (Number value) name h = absurd (none-some name h)
upper_some (Text value) name h = absurd (none-some name h)
upper_some (Character value) name h = absurd (none-some name h)

-- an upper-case name has that name
pub upper_has : (name : List ℕ) → IsUpperName name → upper_name (Identifier name) ≡ Some name
upper_has name upper = rw upper refl

-- a token without an upper-case name is no such name
pub upper_none : (token : FileToken) (name : List ℕ) → upper_name token ≡ None → token ≡ Identifier name → IsUpperName name → ⊥
upper_none token name h e upper = none-some name (sym h ∙ ap upper_name e ∙ upper_has name upper)

-- a token with a text is this text
pub text_some : (token : FileToken) (text : List ℕ) → text_value token ≡ Some text → token ≡ Text text
text_some (Text own) text h = ap Text (same_Some own text h)
text_some (SignToken other) text h = absurd (none-some text h)
text_some (Number value) text h = absurd (none-some text h)
text_some (Identifier value) text h = absurd (none-some text h)
text_some (Character value) text h = absurd (none-some text h)

-- a token with a number is this number
pub number_some : (token : FileToken) (number : ℕ) → number_value token ≡ Some number → token ≡ Number number
number_some (Number own) number h = ap Number (same_Some own number h)
number_some (SignToken other) number h = absurd (none-some number h)
number_some (Text value) number h = absurd (none-some number h)
number_some (Identifier value) number h = absurd (none-some number h)
number_some (Character value) number h = absurd (none-some number h)
