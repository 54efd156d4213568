-- Signs: the longest sign before a rest is read, and what is read stands there.
use Rattle.std.proofs.Common.{◌≡◌, ℕ, List, [], ◌∷◌, ◌++◌, drop, codes, false, cond, not, eqb, Option, Some, None, IfSome, refl, sym, ap, subst, ◌∙◌, inl, inr}
use Rattle.std.proofs.lemmas.Bool.{cases_Bool, not-true, eqb-true}
use Rattle.std.proofs.lemmas.Option.{cond_some, none-some, same_Some, option_and_then_some}
use Rattle.spec_lbnf.specs.declared.token.Sign.{Sign}
use Rattle.spec_lbnf.specs.declared.token.Sign.TheVariants.{Dot, Semicolon, Gives, Colon, OpenBracket, CloseBracket, OpenParen, CloseParen, OpenBrace, CloseBrace, Comma, Bar, Star, Plus, Question, Minus, Underscore}
use Rattle.spec_lbnf.specs.declared.token.FileToken.{FileToken}
use Rattle.spec_lbnf.specs.declared.token.FileToken.TheVariants.{Sign as SignToken}
use Rattle.spec_lbnf.specs.FileTokens.{HasFront, sign_bytes, longer_by, IsLongestSign}
use Rattle.lbnf_readers.specs.Scanning.{has_front, byte_sign, has_more, longest_of, sign_token_at, IsTokenAt}
use Rattle.lbnf_readers.proofs.SpaceLemmas.{front_read, front_not, not_found}

-- what a sign would need to be longer is told
more_not_found : (more : Option (List ℕ)) (rest : List ℕ) → IfSome more (λ m. HasFront m rest → ⊥)
    → has_more more rest ≡ false
more_not_found None rest apart = refl
more_not_found (Some more) rest apart = not_found more rest apart

-- what is told not to be longer is not
more_not : (more : Option (List ℕ)) (rest : List ℕ) → has_more more rest ≡ false
    → IfSome more (λ m. HasFront m rest → ⊥)
more_not None rest h = tt
more_not (Some more) rest h = front_not more rest h

-- the longest sign is read
pub sign_again : (sign : Sign) (bytes rest : List ℕ) → IsLongestSign sign rest → bytes ≡ sign_bytes sign ++ rest
    → sign_token_at bytes ≡ Some (SignToken sign, rest)
unfolding sign_token_at
sign_again Dot bytes rest longest e = rw e refl
sign_again Semicolon bytes rest longest e = rw e refl
sign_again Gives bytes rest longest e = rw e refl
sign_again Colon bytes rest longest e = rw (e, not_found (codes ":=") rest longest) refl
sign_again OpenBracket bytes rest longest e = rw e refl
sign_again CloseBracket bytes rest longest e = rw e refl
sign_again OpenParen bytes rest longest e = rw e refl
sign_again CloseParen bytes rest longest e = rw e refl
sign_again OpenBrace bytes rest longest e = rw (e, not_found (codes "-") rest longest) refl
sign_again CloseBrace bytes rest longest e = rw e refl
sign_again Comma bytes rest longest e = rw e refl
sign_again Bar bytes rest longest e = rw e refl
sign_again Star bytes rest longest e = rw e refl
sign_again Plus bytes rest longest e = rw e refl
sign_again Question bytes rest longest e = rw e refl
sign_again Minus bytes rest longest e = rw (e, not_found (codes "-") rest longest) refl
sign_again Underscore bytes rest longest e = rw e refl

-- the sign of a byte, where the byte is this one or the others say so
or_else : (byte code : ℕ) (here sign : Sign) (others : Option Sign)
    → sign_bytes here ≡ code ∷ [] → (others ≡ Some sign → sign_bytes sign ≡ byte ∷ [])
    → cond (eqb byte code) (Some here) others ≡ Some sign → sign_bytes sign ≡ byte ∷ []
or_else byte code here sign others is later e = elim (cases_Bool (eqb byte code)) [
  | inl h ↦ ap sign_bytes (sym (same_Some here sign (rw h at e))) ∙ is ∙ ap (λ b. b ∷ []) (sym (eqb-true byte code h))
  | inr h ↦ later (rw h at e)
]

-- the sign of a byte has this byte
byte_sign_read : (byte : ℕ) (sign : Sign) → byte_sign byte ≡ Some sign → sign_bytes sign ≡ byte ∷ []
byte_sign_read byte sign =
    or_else byte 46 Dot sign _ refl (or_else byte 59 Semicolon sign _ refl
    (or_else byte 58 Colon sign _ refl (or_else byte 91 OpenBracket sign _ refl
    (or_else byte 93 CloseBracket sign _ refl (or_else byte 40 OpenParen sign _ refl
    (or_else byte 41 CloseParen sign _ refl (or_else byte 123 OpenBrace sign _ refl
    (or_else byte 125 CloseBrace sign _ refl (or_else byte 44 Comma sign _ refl
    (or_else byte 124 Bar sign _ refl (or_else byte 42 Star sign _ refl
    (or_else byte 43 Plus sign _ refl (or_else byte 63 Question sign _ refl
    (or_else byte 45 Minus sign _ refl (or_else byte 95 Underscore sign None refl
    (λ e. absurd (none-some sign e)))))))))))))))))

-- what is read of a sign is the longest one
pub sign_read : (bytes : List ℕ) (token : FileToken) (rest : List ℕ) → sign_token_at bytes ≡ Some (token, rest)
    → IsTokenAt token bytes rest
unfolding sign_token_at
sign_read [] token rest e = absurd (none-some _ e)
sign_read (byte ∷ bytes) token rest e = elim (cases_Bool (has_front (codes "::=") (byte ∷ bytes))) [
  | inl h ↦
      let same = same_Some (SignToken Gives, drop 2 bytes) (token, rest) (rw h at e) in
      let begins : IsTokenAt (SignToken Gives) (byte ∷ bytes) (drop 2 bytes) =
      (codes "::=", front_read (codes "::=") (byte ∷ bytes) h, (tt, refl)) in
      subst (λ r. IsTokenAt r.0 (byte ∷ bytes) r.1) same begins
  | inr h ↦ option_and_then_some (longest_of bytes) (byte_sign byte) (token, rest) (rw h at e) (λ sign is read.
      let split = cond_some (not (has_more (longer_by sign) bytes)) (SignToken sign, bytes) (token, rest) read in
      let begins : IsTokenAt (SignToken sign) (byte ∷ bytes) bytes =
      (sign_bytes sign, ap (λ l. l ++ bytes) (sym (byte_sign_read byte sign is)), (more_not (longer_by sign) bytes (not-true _ split.0), refl)) in
      subst (λ r. IsTokenAt r.0 (byte ∷ bytes) r.1) split.1 begins)
]
