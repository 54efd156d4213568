-- Scans: a token that stands before a rest is read, and what is read stands there; so a file has one
-- scan, whose offsets rise.
use Rattle.std.proofs.Common.{◌≡◌, ℕ, zero, suc, ◌+◌, ◌-◌, ◌<◌, ◌≤◌, List, [], ◌∷◌, ◌++◌, length, drop, codes, Bool, true, false, eqb, Option, Some, None, option_and_then, refl, sym, ap, subst, ◌∙◌, inl, inr, arith, append_assoc, length-append}
use Rattle.std.proofs.lemmas.Bool.{cases_Bool, both_ways, eqb-true, ne_eqb, and_left, cond-false}
use Rattle.std.proofs.lemmas.Bool.Decides.{nat_tests}
use Rattle.std.proofs.lemmas.List.{append_cancel_right}
use Rattle.std.proofs.lemmas.Option.{none-some, same_Some, some_pair_parts}
use Rattle.spec_lbnf.specs.declared.token.Sign.{Sign}
use Rattle.spec_lbnf.specs.declared.token.Sign.TheVariants.{Dot, Semicolon, Gives, Colon, OpenBracket, CloseBracket, OpenParen, CloseParen, OpenBrace, CloseBrace, Comma, Bar, Star, Plus, Question, Minus, Underscore}
use Rattle.spec_lbnf.specs.declared.token.FileToken.{FileToken}
use Rattle.spec_lbnf.specs.declared.token.FileToken.TheVariants.{Identifier, Number, Text, Character}
use Rattle.spec_lbnf.specs.declared.token.FileToken.TheVariants.{Sign as SignToken}
use Rattle.spec_lbnf.specs.declared.token.PlacedToken.{PlacedToken}
use Rattle.spec_text.specs.Bytes.{is_white}
use Rattle.spec_lbnf.specs.FileTokens.{FirstIs, IsTokenBefore, sign_bytes, Separates, Skips, nothing, goes_on, IsStuck, AreFileTokensFrom, IsScan}
use Rattle.spec_text.specs.Bytes.{is_letter, is_digit}
use Rattle.lbnf_readers.specs.FileLaws.{RiseTo}
use Rattle.lbnf_readers.specs.Scanning.{has_front, behind_space, identifier_at, number_token_at, byte_sign, longest_of, sign_token_at, file_token_at, tokens_by, tokens_from, scan_of, IsSpaceAt, SkipsTo, IsTokenAt}
use Rattle.lbnf_readers.proofs.SpaceLemmas.{space_again, space_read}
use Rattle.lbnf_readers.proofs.LiteralLemmas.{string_again, string_read, character_again, character_read}
use Rattle.lbnf_readers.proofs.SignLemmas.{sign_again, sign_read}
use Rattle.lbnf_readers.proofs.RunTokenLemmas.{identifier_again, identifier_read, number_again, number_read}

-- bytes that begin with a letter are read as an identifier
letter_first : (bytes rest : List ℕ) → FirstIs is_letter bytes → file_token_at (bytes ++ rest) ≡ identifier_at (bytes ++ rest)
unfolding file_token_at
letter_first [] rest begins = elim begins [ ]
letter_first (byte ∷ bytes) rest begins = rw begins refl

-- a digit is no letter
digit_is_no_letter : (byte : ℕ) → is_digit byte ≡ true → is_letter byte ≡ false
digit_is_no_letter byte h = grind (arith, nat_tests)

-- bytes that begin with a digit are read as a number
digit_first : (byte : ℕ) (bytes : List ℕ) → is_digit byte ≡ true → file_token_at (byte ∷ bytes) ≡ number_token_at (byte ∷ bytes)
unfolding file_token_at
digit_first byte bytes h = rw (digit_is_no_letter byte h, h) refl

-- bytes that begin with a sign are read as one
sign_first : (sign : Sign) (bytes rest : List ℕ) → bytes ≡ sign_bytes sign ++ rest → file_token_at bytes ≡ sign_token_at bytes
unfolding file_token_at
sign_first Dot bytes rest e = rw e refl
sign_first Semicolon bytes rest e = rw e refl
sign_first Gives bytes rest e = rw e refl
sign_first Colon bytes rest e = rw e refl
sign_first OpenBracket bytes rest e = rw e refl
sign_first CloseBracket bytes rest e = rw e refl
sign_first OpenParen bytes rest e = rw e refl
sign_first CloseParen bytes rest e = rw e refl
sign_first OpenBrace bytes rest e = rw e refl
sign_first CloseBrace bytes rest e = rw e refl
sign_first Comma bytes rest e = rw e refl
sign_first Bar bytes rest e = rw e refl
sign_first Star bytes rest e = rw e refl
sign_first Plus bytes rest e = rw e refl
sign_first Question bytes rest e = rw e refl
sign_first Minus bytes rest e = rw e refl
sign_first Underscore bytes rest e = rw e refl

-- a number that stands before a rest is read
number_token_again : (value : ℕ) (bytes rest : List ℕ) → IsTokenAt (Number value) bytes rest
    → file_token_at bytes ≡ Some (Number value, rest)
number_token_again value bytes rest ([], e, (is, stops, means)) = absurd (omega (arith, is.some))
number_token_again value bytes rest (digit ∷ digits, e, (is, stops, means)) =
    ap file_token_at e ∙ digit_first digit (digits ++ rest) (is.each 0 0 (omega arith))
    ∙ ap number_token_at (sym e) ∙ number_again value bytes rest (digit ∷ digits, e, (is, stops, means))

-- a string that stands before a rest is read
string_token_again : (value bytes rest : List ℕ) → IsTokenAt (Text value) bytes rest
    → file_token_at bytes ≡ Some (Text value, rest)
unfolding file_token_at
string_token_again value bytes rest is =
    let read = string_again value bytes rest is in
    rw read.1 read.2

-- a character that stands before a rest is read
character_token_again : (scalar : ℕ) (bytes rest : List ℕ) → IsTokenAt (Character scalar) bytes rest
    → file_token_at bytes ≡ Some (Character scalar, rest)
unfolding file_token_at
character_token_again scalar bytes rest is =
    let read = character_again scalar bytes rest is in
    rw read.1 read.2

-- a token that stands before a rest is read
pub token_again : (token : FileToken) (bytes rest : List ℕ) → IsTokenAt token bytes rest
    → file_token_at bytes ≡ Some (token, rest)
token_again (Identifier name) bytes rest (written, e, is) =
    ap file_token_at e ∙ letter_first written rest is.0.letter ∙ ap identifier_at (sym e)
    ∙ identifier_again name bytes rest (written, e, is)
token_again (Number value) bytes rest is = number_token_again value bytes rest is
token_again (Text value) bytes rest is = string_token_again value bytes rest is
token_again (Character scalar) bytes rest is = character_token_again scalar bytes rest is
token_again (SignToken sign) bytes rest (written, e, (longest, same)) =
    let whole : bytes ≡ sign_bytes sign ++ rest = e ∙ ap (λ l. l ++ rest) same in
    sign_first sign bytes rest whole ∙ sign_again sign bytes rest longest whole

-- what is read stands before the rest
pub token_read : (bytes : List ℕ) (token : FileToken) (rest : List ℕ) → file_token_at bytes ≡ Some (token, rest)
    → IsTokenAt token bytes rest
unfolding file_token_at
token_read [] token rest e = absurd (none-some _ e)
token_read (byte ∷ bytes) token rest e = elim (cases_Bool (is_letter byte)) [
  | inl letter ↦ identifier_read byte bytes token rest letter (rw letter at e)
  | inr h ↦ elim (cases_Bool (is_digit byte)) [
    | inl digit ↦ number_read byte bytes token rest digit (rw (h, digit) at e)
    | inr k ↦ elim (cases_Bool (eqb byte 34)) [
      | inl m ↦
          let reads = string_read bytes token rest (rw (h, k, m) at e) in
          subst (λ b. IsTokenAt token (b ∷ bytes) rest) (sym (eqb-true byte 34 m)) reads
      | inr m ↦ elim (cases_Bool (eqb byte 39)) [
        | inl n ↦
            let reads = character_read bytes token rest (rw (h, k, m, n) at e) in
            subst (λ b. IsTokenAt token (b ∷ bytes) rest) (sym (eqb-true byte 39 n)) reads
        | inr n ↦ sign_read (byte ∷ bytes) token rest (rw (h, k, m, n) at e)
      ]
    ]
  ]
]

-- what stands before one rest is one
same_front : (v w r s : List ℕ) → v ++ r ≡ w ++ s → r ≡ s → v ≡ w
same_front v w r s e same = append_cancel_right v w s (ap (λ l. v ++ l) (sym same) ∙ e)

-- bytes begin with one token
pub one_token : (v w r s : List ℕ) (a b : FileToken) → v ++ r ≡ w ++ s → IsTokenBefore a v r → IsTokenBefore b w s
    → (a ≡ b) × (v ≡ w) × (r ≡ s)
one_token v w r s a b e first second =
    let read : file_token_at (v ++ r) ≡ Some (a, r) = token_again a (v ++ r) r (v, refl, first) in
    let again : file_token_at (v ++ r) ≡ Some (b, s) = token_again b (v ++ r) s (w, e, second) in
    let same = some_pair_parts a b r s (sym read ∙ again) in
    (same.0, same_front v w r s e same.1, same.1)

-- bytes begin with one space
pub one_space : (v w r s : List ℕ) → v ++ r ≡ w ++ s → Separates v r → Separates w s → (v ≡ w) × (r ≡ s)
one_space v w r s e first second =
    let read : behind_space (v ++ r) ≡ Some r = space_again (v ++ r) r (v, refl, first) in
    let again : behind_space (v ++ r) ≡ Some s = space_again (v ++ r) s (w, e, second) in
    let same : r ≡ s = same_Some r s (sym read ∙ again) in
    (same_front v w r s e same, same)

-- a white byte is none that is not white
white_apart : (byte code : ℕ) → is_white byte ≡ true → is_white code ≡ false → eqb byte code ≡ false
white_apart byte code white plain =
    ne_eqb byte code (λ e. both_ways (is_white code) plain (subst (λ b. is_white b ≡ true) e white))

-- a white byte is no sign
white_no_sign : (byte : ℕ) → is_white byte ≡ true → byte_sign byte ≡ None
white_no_sign byte h =
    let apart = λ (code : ℕ) (plain : is_white code ≡ false). white_apart byte code h plain in
    rw (
      apart 46 refl,
      apart 59 refl,
      apart 58 refl,
      apart 91 refl,
      apart 93 refl,
      apart 40 refl,
      apart 41 refl,
      apart 123 refl,
      apart 125 refl,
      apart 44 refl,
      apart 124 refl,
      apart 42 refl,
      apart 43 refl,
      apart 63 refl,
      apart 45 refl,
      apart 95 refl,
    ) refl

-- a white byte begins no sign
white_no_longest : (byte : ℕ) (bytes : List ℕ) → is_white byte ≡ true → sign_token_at (byte ∷ bytes) ≡ None
unfolding sign_token_at
white_no_longest byte bytes h =
    let apart : has_front (codes "::=") (byte ∷ bytes) ≡ false = and_left (eqb byte 58) _ (white_apart byte 58 h refl) in
    cond-false _ (Some (SignToken Gives, drop 2 bytes)) _ apart
    ∙ ap (option_and_then (longest_of bytes)) (white_no_sign byte h)

-- a white byte begins no token
white_no_token : (byte : ℕ) (bytes : List ℕ) → is_white byte ≡ true → file_token_at (byte ∷ bytes) ≡ None
unfolding file_token_at
white_no_token byte bytes h =
    let no_letter : is_letter byte ≡ false = grind (arith, nat_tests) in
    let no_digit : is_digit byte ≡ false = grind (arith, nat_tests) in
    let apart = λ (code : ℕ) (plain : is_white code ≡ false). white_apart byte code h plain in
    rw (no_letter, no_digit, apart 34 refl, apart 39 refl) (white_no_longest byte bytes h)

-- what begins with what separates tokens begins with no token
no_token_in_space : (bytes rest : List ℕ) → IsSpaceAt bytes rest → file_token_at bytes ≡ None
unfolding file_token_at sign_token_at
no_token_in_space bytes rest (space, e, inl (byte, white, one)) =
    ap file_token_at (e ∙ ap (λ l. l ++ rest) one) ∙ white_no_token byte rest white
no_token_in_space bytes rest (space, e, inr (inl is)) = rw (e, is.whole) refl
no_token_in_space bytes rest (space, e, inr (inr is)) = rw (e, is.whole) refl

-- no token begins where something separates tokens
pub token_or_space : (token : FileToken) (v w r s : List ℕ) → v ++ r ≡ w ++ s → IsTokenBefore token v r
    → Separates w s → ⊥
token_or_space token v w r s e begins space =
    let read : file_token_at (v ++ r) ≡ Some (token, r) = token_again token (v ++ r) r (v, refl, begins) in
    none-some (token, r) (sym (no_token_in_space (v ++ r) s (w, e, space)) ∙ read)

-- what separates tokens is not empty
space_some : (space rest : List ℕ) → Separates space rest → 0 < length space
space_some space rest (inl (byte, white, one)) = omega (arith, ap length one)
space_some space rest (inr (inl is)) = omega (arith, ap length is.whole)
space_some space rest (inr (inr is)) = omega (arith, ap length is.whole)

-- what is behind what separates tokens is shorter
pub space_shorter : (bytes rest : List ℕ) → IsSpaceAt bytes rest → length rest < length bytes
space_shorter bytes rest (space, e, is) =
    omega (arith, ap length e, length-append space rest, space_some space rest is)

-- a sign has a byte or more
sign_some : (sign : Sign) → 0 < length (sign_bytes sign)
sign_some Dot = omega arith
sign_some Semicolon = omega arith
sign_some Gives = omega arith
sign_some Colon = omega arith
sign_some OpenBracket = omega arith
sign_some CloseBracket = omega arith
sign_some OpenParen = omega arith
sign_some CloseParen = omega arith
sign_some OpenBrace = omega arith
sign_some CloseBrace = omega arith
sign_some Comma = omega arith
sign_some Bar = omega arith
sign_some Star = omega arith
sign_some Plus = omega arith
sign_some Question = omega arith
sign_some Minus = omega arith
sign_some Underscore = omega arith

-- bytes that begin with one that passes have one
begins_some : (passes : ℕ → Bool) (bytes : List ℕ) → FirstIs passes bytes → 0 < length bytes
begins_some passes [] begins = elim begins [ ]
begins_some passes (byte ∷ bytes) begins = omega arith

-- no token is empty
token_some : (token : FileToken) (written rest : List ℕ) → IsTokenBefore token written rest → 0 < length written
token_some (Identifier name) written rest is = begins_some is_letter written is.0.letter
token_some (Number value) written rest is = is.0.some
token_some (Text value) written rest is = omega (arith, ap length is.whole)
token_some (Character scalar) written rest is = omega (arith, ap length is.1.whole)
token_some (SignToken sign) written rest is = omega (arith, ap length is.1, sign_some sign)

-- what is behind a token is shorter
pub token_shorter : (token : FileToken) (bytes rest : List ℕ) → IsTokenAt token bytes rest → length rest < length bytes
token_shorter token bytes rest (written, e, is) =
    omega (arith, ap length e, length-append written rest, token_some token written rest is)

-- nothing separates tokens at the front
abbrev NoSpace : List ℕ → Type 0
NoSpace bytes = (space rest : List ℕ) → bytes ≡ space ++ rest → Separates space rest → ⊥

-- what is behind all that separates tokens is one
one_skip : (v w here there : List ℕ) → v ++ here ≡ w ++ there → Skips v here → Skips w there
    → NoSpace here → NoSpace there → here ≡ there
one_skip v w here there e (nothing _ _ m) (nothing _ _ n) free free' =
    sym (ap (λ l. l ++ here) m) ∙ e ∙ ap (λ l. l ++ there) n
one_skip v w here there e (nothing _ _ m) (goes_on _ space others _ n is skips) free free' =
    let begins : here ≡ space ++ (others ++ there) =
    sym (ap (λ l. l ++ here) m) ∙ e ∙ ap (λ l. l ++ there) n ∙ append_assoc space others there in
    absurd (free space (others ++ there) begins is)
one_skip v w here there e (goes_on _ space others _ m is skips) (nothing _ _ n) free free' =
    let begins : there ≡ space ++ (others ++ here) =
    sym (ap (λ l. l ++ there) n) ∙ sym e ∙ ap (λ l. l ++ here) m ∙ append_assoc space others here in
    absurd (free' space (others ++ here) begins is)
one_skip v w here there e (goes_on _ first others _ m is skips) (goes_on _ second others' _ n is' skips') free free' =
    let begins : first ++ (others ++ here) ≡ second ++ (others' ++ there) =
    sym (append_assoc first others here) ∙ sym (ap (λ l. l ++ here) m) ∙ e ∙ ap (λ l. l ++ there) n
    ∙ append_assoc second others' there in
    let same = one_space first second (others ++ here) (others' ++ there) begins is is' in
    one_skip others others' here there same.1 skips skips' free free'

-- what is skipped leaves no more bytes
pub skip_shorter : (bytes here : List ℕ) → SkipsTo bytes here → length here ≤ length bytes
skip_shorter bytes here (skipped, e, skips) = omega (arith, ap length e, length-append skipped here)

-- equal tokens at equal offsets before equal tokens are equal
same_tokens : (token other : PlacedToken) (tokens others : List PlacedToken) → token.token ≡ other.token
    → token.offset ≡ other.offset → tokens ≡ others → token ∷ tokens ≡ other ∷ others
same_tokens token other tokens others t p e = λ i. record { token = t i; offset = p i } ∷ e i

-- bytes at one offset have at most one list of tokens, up to one offset
pub one_list : (a b : List PlacedToken) (m n : ℕ) (bytes other : List ℕ) (s t : ℕ) → m ≡ n → bytes ≡ other
    → AreFileTokensFrom m bytes a s → AreFileTokensFrom n other b t → (a ≡ b) × (s ≡ t)
one_list [] [] m n bytes other s t at_one one (v, here, e, skips, stop, stuck) (w, there, f, skips', stop', stuck') =
    let whole : v ++ here ≡ w ++ there = sym e ∙ one ∙ f in
    let same = one_skip v w here there whole skips skips' stuck.no_space stuck'.no_space in
    (refl, omega (arith, at_one, stop, stop', ap length same, ap length whole, length-append v here, length-append w there))
one_list [] (token ∷ b) m n bytes other s t at_one one (v, here, e, skips, stop, stuck) (w, written, rest, f, skips', offset, begins, more) =
    let free : NoSpace (written ++ rest) = λ space behind g. token_or_space token.token written space rest behind g begins in
    let same = one_skip v w here (written ++ rest) (sym e ∙ one ∙ f) skips skips' stuck.no_space free in
    absurd (stuck.no_token token.token written rest same begins)
one_list (token ∷ a) [] m n bytes other s t at_one one (v, written, rest, e, skips, offset, begins, more) (w, there, f, skips', stop, stuck) =
    let free : NoSpace (written ++ rest) = λ space behind g. token_or_space token.token written space rest behind g begins in
    let same = one_skip w v there (written ++ rest) (sym f ∙ sym one ∙ e) skips' skips stuck.no_space free in
    absurd (stuck.no_token token.token written rest same begins)
one_list (token ∷ a) (next ∷ b) m n bytes other s t at_one one (v, written, rest, e, skips, offset, begins, more) (w, written', rest', f, skips', offset', begins', more') =
    let free : NoSpace (written ++ rest) = λ space behind g. token_or_space token.token written space rest behind g begins in
    let free' : NoSpace (written' ++ rest') = λ space behind g. token_or_space next.token written' space rest' behind g begins' in
    let whole : v ++ (written ++ rest) ≡ w ++ (written' ++ rest') = sym e ∙ one ∙ f in
    let same = one_skip v w (written ++ rest) (written' ++ rest') whole skips skips' free free' in
    let parts = one_token written written' rest rest' token.token next.token same begins begins' in
    let before : v ≡ w = same_front v w (written ++ rest) (written' ++ rest') whole same in
    let offsets : token.offset ≡ next.offset = omega (arith, at_one, offset, offset', ap length before) in
    let behind : token.offset + length written ≡ next.offset + length written' = omega (arith, offsets, ap length parts.1) in
    let others = one_list a b (token.offset + length written) (next.offset + length written') rest rest' s t behind parts.2 more more' in
    (same_tokens token next a b parts.0 offsets others.0, others.1)

-- a file has at most one list of tokens, up to one offset
pub one_scan : (bytes : List ℕ) (a b : List PlacedToken) (s t : ℕ) → IsScan bytes a s → IsScan bytes b t
    → (a ≡ b) × (s ≡ t)
one_scan bytes a b s t = one_list a b 0 0 bytes bytes s t refl refl

-- the offsets of tokens rise from where the bytes begin
offsets_rise : (tokens : List PlacedToken) (bytes : List ℕ) (from start stop : ℕ) → from ≤ start
    → AreFileTokensFrom start bytes tokens stop → RiseTo from tokens stop × (stop ≤ start + length bytes)
offsets_rise [] bytes from start stop l (skipped, rest, e, skips, is, stuck) =
    (omega (arith, l, is), omega (arith, is, ap length e, length-append skipped rest))
offsets_rise (token ∷ tokens) bytes from start stop l (skipped, written, rest, e, skips, offset, begins, more) =
    let some = token_some token.token written rest begins in
    let behind = offsets_rise tokens rest (token.offset + 1) (token.offset + length written) stop (omega (arith, some)) more in
    ((omega (arith, l, offset), behind.0), omega (arith, behind.1, offset, ap length e, length-append skipped (written ++ rest), length-append written rest))

-- the offsets of a file's tokens rise up to the stop, which lies within the file
pub rises : (bytes : List ℕ) (tokens : List PlacedToken) (stop : ℕ) → IsScan bytes tokens stop
    → RiseTo 0 tokens stop × (stop ≤ length bytes)
rises bytes tokens stop scan =
    let rise = offsets_rise tokens bytes 0 0 stop (omega arith) scan in
    (rise.0, omega (arith, rise.1))

-- the tokens behind what separates tokens are those from its beginning on
behind_a_space : (tokens : List PlacedToken) (start : ℕ) (space behind : List ℕ) (stop : ℕ) → Separates space behind
    → AreFileTokensFrom (start + length space) behind tokens stop → AreFileTokensFrom start (space ++ behind) tokens stop
behind_a_space [] start space behind stop is (skipped, rest, e, skips, at_stop, stuck) = (
  space ++ skipped,
  rest,
  ap (λ l. space ++ l) e ∙ sym (append_assoc space skipped rest),
  goes_on (space ++ skipped) space skipped rest refl (subst (Separates space) e is) skips,
  omega (arith, at_stop, length-append space skipped),
  stuck,
)
behind_a_space (token ∷ tokens) start space behind stop is (skipped, written, rest, e, skips, offset, begins, more) = (
  space ++ skipped,
  written,
  rest,
  ap (λ l. space ++ l) e ∙ sym (append_assoc space skipped (written ++ rest)),
  goes_on (space ++ skipped) space skipped (written ++ rest) refl (subst (Separates space) e is) skips,
  omega (arith, offset, length-append space skipped),
  begins,
  more,
)

-- bytes at which nothing is read are stuck
pub nothing_read : (bytes : List ℕ) → behind_space bytes ≡ None → file_token_at bytes ≡ None → IsStuck bytes
nothing_read bytes e f = record {
  no_token = λ token written rest g begins. none-some _ (sym f ∙ token_again token bytes rest (written, g, begins));
  no_space = λ space rest g is. none-some _ (sym e ∙ space_again bytes rest (space, g, is));
}

module _ (size : ℕ) where
  -- what is read of bytes are their tokens
  pub tokens_are : (turns : ℕ) (bytes : List ℕ) (start : ℕ) → length bytes < turns → start + length bytes ≡ size
      → AreFileTokensFrom start bytes (tokens_from turns size bytes).0 (tokens_from turns size bytes).1
  unfolding tokens_from
  tokens_are zero bytes start l fits = absurd (omega arith)
  tokens_are (suc turns) bytes start l fits =
      by (tokens_from turns size) (λ behind from shorter fits. tokens_are turns behind from (omega arith) fits)
      (behind_space bytes) refl (file_token_at bytes) refl
    where
      by : (others : List ℕ → List PlacedToken × ℕ)
          → ((behind : List ℕ) (from : ℕ) → length behind < length bytes → from + length behind ≡ size
          → AreFileTokensFrom from behind (others behind).0 (others behind).1)
          → (space : Option (List ℕ)) → behind_space bytes ≡ space
          → (read : Option (FileToken × List ℕ)) → file_token_at bytes ≡ read
          → AreFileTokensFrom start bytes (tokens_by others (size - length bytes) space read).0 (tokens_by others (size - length bytes) space read).1
      by others are (Some behind) e read f =
          let space = space_read bytes behind e in
          let lens : length bytes ≡ length space.0 + length behind = omega (arith, ap length space.1, length-append space.0 behind) in
          let more = are behind (start + length space.0) (omega (arith, lens, space_some space.0 behind space.2)) (omega (arith, lens, fits)) in
          subst (λ l. AreFileTokensFrom start l (others behind).0 (others behind).1) (sym space.1)
          (behind_a_space (others behind).0 start space.0 behind (others behind).1 space.2 more)
      by others are None e None f = ([], bytes, refl, nothing [] bytes refl, omega (arith, fits), nothing_read bytes e f)
      by others are None e (Some read) f =
          let begins = token_read bytes read.0 read.1 f in
          let lens : length bytes ≡ length begins.0 + length read.1 = omega (arith, ap length begins.1, length-append begins.0 read.1) in
          let more = are read.1 (size - length bytes + length begins.0) (omega (arith, lens, token_some read.0 begins.0 read.1 begins.2)) (omega (arith, lens, fits)) in
          ([], begins.0, read.1, begins.1, nothing [] (begins.0 ++ read.1) refl, omega (arith, fits), begins.2, more)

-- what is read of a file is its scan
pub scanned : (bytes : List ℕ) → IsScan bytes (scan_of bytes).0 (scan_of bytes).1
scanned bytes = tokens_are (length bytes) (suc (length bytes)) bytes 0 (omega arith) (omega arith)
