-- The reader of a label tells of the label that the tokens begin with.
use Rattle.std.proofs.Common.{◌≡◌, ℕ, List, [], ◌∷◌, ◌++◌, cond, Bool, true, false, Option, Some, None, ◌⊎◌, inl, inr, refl, sym, ap, subst, ◌∙◌}
use Rattle.std.specs.List.{list_any}
use Rattle.std.proofs.lemmas.Bool.{false≢true}
use Rattle.std.proofs.lemmas.Option.{same_Some}
use Rattle.spec_grammar.specs.declared.rule.Label.{Label}
use Rattle.spec_grammar.specs.declared.rule.Label.TheVariants.{Named, Wild, Nil, Cons, One}
use Rattle.spec_lbnf.specs.declared.token.Sign.{Sign}
use Rattle.spec_lbnf.specs.declared.token.Sign.TheVariants.{Colon, OpenBracket, CloseBracket}
use Rattle.spec_lbnf.specs.declared.token.Sign.TheVariants.{OpenParen, CloseParen, Underscore}
use Rattle.spec_lbnf.specs.declared.token.FileToken.{FileToken}
use Rattle.spec_lbnf.specs.declared.token.FileToken.TheVariants.{Identifier}
use Rattle.spec_lbnf.specs.declared.token.FileToken.TheVariants.{Sign as SignToken}
use Rattle.spec_lbnf.specs.declared.token.PlacedToken.{PlacedToken}
use Rattle.spec_lbnf.specs.GrammarFile.{IsLabel, IsUpperName, label_tokens}
use Rattle.spec_lbnf.specs.Faults.{bare, EndsOpen}
use Rattle.lbnf_readers.specs.FileReading.{Read, got, stuck, long, next_on, pure, take_token, take_or_stick, is_sign, sign_at, upper_name, nil_at, one_at, colon_label_at, paren_label_at, sign_label_at, label_by, label_at}
use Rattle.spec_lbnf.proofs.BoundaryLemmas.{IsClosed, IsOpenFront, BeginsClosed, is_name, lacks_without_names, one_closed}
use Rattle.lbnf_readers.proofs.TokenTestLemmas.{sign_true, sign_false, upper_some, upper_none}
use Rattle.lbnf_readers.proofs.ReaderLemmas.{Spelling, IsOne, IsAny, Follows, GoesOn, IsGot, IsStuckAt, Tells, HaveShortNames, nothing_front, stuck_here}
use Rattle.lbnf_readers.proofs.CategoryLemmas.{BeginsNot, follows_not}

-- a label stands before the rest
abbrev pub LabelOf : Spelling Label
LabelOf label tokens rest = IsLabel label × (tokens ≡ label_tokens label ++ rest)

-- the label at the front of the tokens, and what is behind it
label_front : List FileToken → Option (Label × List FileToken)
label_front (Identifier name ∷ rest) = Some (Named name, rest)
label_front (SignToken Underscore ∷ rest) = Some (Wild, rest)
label_front (SignToken OpenBracket ∷ SignToken CloseBracket ∷ rest) = Some (Nil, rest)
label_front (SignToken OpenParen ∷ SignToken Colon ∷ SignToken CloseParen ∷ rest) = Some (Cons, rest)
label_front (SignToken OpenParen ∷ SignToken Colon ∷ SignToken OpenBracket ∷ SignToken CloseBracket ∷ SignToken CloseParen ∷ rest) =
    Some (One, rest)
label_front other = None

-- a label that stands before the rest is the one at the front
label_again : (label : Label) (rest : List FileToken) → label_front (label_tokens label ++ rest) ≡ Some (label, rest)
unfolding label_front
label_again (Named name) rest = refl
label_again Wild rest = refl
label_again Nil rest = refl
label_again Cons rest = refl
label_again One rest = refl

-- at most one label stands at the front of tokens
pub one_label : IsOne LabelOf
one_label a b tokens rest other is_a is_b =
    let both = sym (label_again a rest) ∙ ap label_front (sym is_a.1 ∙ is_b.1) ∙ label_again b other in
    let same : ◌≡◌ {A = Label × List FileToken} (a, rest) (b, other) = same_Some _ _ both in
    (ap (λ p. p.0) same, ap (λ p. p.1) same)

-- the tokens end with an open bracket
abbrev ends_with_open : List FileToken → Bool
ends_with_open [] = false
ends_with_open (token ∷ []) = is_sign OpenBracket token
ends_with_open (token ∷ next ∷ tokens) = ends_with_open (next ∷ tokens)

-- the tokens begin with a close bracket
abbrev begins_with_close : List FileToken → Bool
begins_with_close [] = false
begins_with_close (token ∷ tokens) = is_sign CloseBracket token

-- tokens that do not begin with a close bracket by the test do not
begins_tested : (tokens : List FileToken) → begins_with_close tokens ≡ false → BeginsClosed tokens → ⊥
begins_tested tokens h begins = false≢true (sym h ∙ ap begins_with_close begins.1)

-- tokens that do not end with an open bracket by the test do not
ends_tested : (tokens : List FileToken) → ends_with_open tokens ≡ false → EndsOpen tokens → ⊥
ends_tested tokens h ends = false≢true (sym h ∙ ap ends_with_open ends.1 ∙ by ends.0)
  where
    by : (before : List FileToken) → ends_with_open (before ++ SignToken OpenBracket ∷ []) ≡ true
    by [] = refl
    by (x ∷ []) = refl
    by (x ∷ y ∷ before) = by (y ∷ before)

-- tokens without identifiers are closed where their ends are
plain_closed : (tokens : List FileToken) → list_any is_name tokens ≡ false → ends_with_open tokens ≡ false
    → begins_with_close tokens ≡ false → IsClosed tokens
plain_closed tokens none ends begins = record {
  lacks = lacks_without_names tokens none;
  no_open = ends_tested tokens ends;
  no_close = begins_tested tokens begins;
}

-- a label is read
label_got : (label : Label) (tokens used rest : List PlacedToken) → tokens ≡ used ++ rest → bare used ≡ label_tokens label
    → IsLabel label → IsClosed (label_tokens label) → IsGot IsAny LabelOf label tokens rest
label_got label tokens used rest whole own is closed = record {
  used = used;
  whole = whole;
  behind = tt;
  spelled = λ others may. (is, ap (λ zs. zs ++ others) own);
  closed = subst IsClosed (sym own) closed;
}

-- a front of a label is read
label_stuck : (tokens front rest : List PlacedToken) (own more : List FileToken) (label : Label) → tokens ≡ front ++ rest
    → bare front ≡ own → list_any is_name own ≡ false → begins_with_close own ≡ false
    → IsLabel label → ((others : List FileToken) → own ++ (more ++ others) ≡ label_tokens label ++ others)
    → ((others : List FileToken) (label : Label) (behind : List FileToken) → Follows rest others → LabelOf label (own ++ others) behind → ⊥)
    → IsStuckAt IsAny LabelOf tokens rest
label_stuck tokens front rest own more label whole is none begins is_label goes blocked = record {
  front = front;
  whole = whole;
  closed = subst IsOpenFront (sym is) (record { lacks = lacks_without_names own none; no_close = begins_tested own begins });
  goes_on = (label, more, λ others may. (is_label, rw is (goes others)));
  blocked = λ others value behind follows spelled. blocked others value behind follows (rw is at spelled);
}

-- some label can be read
pub some_label : GoesOn IsAny LabelOf []
some_label = (Wild, SignToken Underscore ∷ [], λ others may. (tt, refl))

-- behind an open bracket a label has a close bracket
nil_only : (label : Label) (others behind : List FileToken) → LabelOf label (SignToken OpenBracket ∷ others) behind
    → others ≡ SignToken CloseBracket ∷ behind
nil_only (Named name) others behind is = absurd (cc is.1)
nil_only Wild others behind is = absurd (cc is.1)
nil_only Nil others behind is = cc is.1
nil_only Cons others behind is = absurd (cc is.1)
nil_only One others behind is = absurd (cc is.1)

-- behind an open parenthesis a label has a colon, and a close parenthesis or what stands for one
-- element
paren_only : (label : Label) (others behind : List FileToken) → LabelOf label (SignToken OpenParen ∷ others) behind
    → (more : List FileToken) × (others ≡ SignToken Colon ∷ more)
    × ((more ≡ SignToken CloseParen ∷ behind)
    ⊎ (more ≡ SignToken OpenBracket ∷ SignToken CloseBracket ∷ SignToken CloseParen ∷ behind))
paren_only (Named name) others behind is = absurd (cc is.1)
paren_only Wild others behind is = absurd (cc is.1)
paren_only Nil others behind is = absurd (cc is.1)
paren_only Cons others behind is = (SignToken CloseParen ∷ behind, cc is.1, inl refl)
paren_only One others behind is =
    (SignToken OpenBracket ∷ SignToken CloseBracket ∷ SignToken CloseParen ∷ behind, cc is.1, inr refl)

-- behind an open parenthesis and a colon
colon_only : (label : Label) (others behind : List FileToken) → LabelOf label (SignToken OpenParen ∷ SignToken Colon ∷ others) behind
    → (others ≡ SignToken CloseParen ∷ behind)
    ⊎ (others ≡ SignToken OpenBracket ∷ SignToken CloseBracket ∷ SignToken CloseParen ∷ behind)
colon_only label others behind is =
    let only = paren_only label (SignToken Colon ∷ others) behind is in
    let same : only.0 ≡ others = cc only.1 in
    rw same at only.2

-- behind these and an open bracket
one_only : (label : Label) (others behind : List FileToken)
    → LabelOf label (SignToken OpenParen ∷ SignToken Colon ∷ SignToken OpenBracket ∷ others) behind
    → others ≡ SignToken CloseBracket ∷ SignToken CloseParen ∷ behind
one_only label others behind is = elim (colon_only label (SignToken OpenBracket ∷ others) behind is) [
  | inl e ↦ absurd (cc e)
  | inr e ↦ cc e
]

-- what begins with no name and none of these signs begins with no label
no_label : (rest : List PlacedToken) → ((name : List ℕ) → IsUpperName name → BeginsNot (Identifier name) rest)
    → BeginsNot (SignToken Underscore) rest → BeginsNot (SignToken OpenBracket) rest → BeginsNot (SignToken OpenParen) rest
    → (others : List FileToken) (label : Label) (behind : List FileToken) → Follows rest others → LabelOf label others behind → ⊥
no_label rest no_name no_wild no_open no_paren others (Named name) behind follows is =
    follows_not (Identifier name) rest others _ (no_name name is.0) follows is.1
no_label rest no_name no_wild no_open no_paren others Wild behind follows is =
    follows_not (SignToken Underscore) rest others _ no_wild follows is.1
no_label rest no_name no_wild no_open no_paren others Nil behind follows is =
    follows_not (SignToken OpenBracket) rest others _ no_open follows is.1
no_label rest no_name no_wild no_open no_paren others Cons behind follows is =
    follows_not (SignToken OpenParen) rest others _ no_paren follows is.1
no_label rest no_name no_wild no_open no_paren others One behind follows is =
    follows_not (SignToken OpenParen) rest others _ no_paren follows is.1

-- what a reader of a sign tells
abbrev SignTo : Sign → List PlacedToken → Read (Unit {0}) → Type 0
SignTo sign tokens (got done rest) = (token : PlacedToken) × (tokens ≡ token ∷ rest) × (token.token ≡ SignToken sign)
SignTo sign tokens (stuck rest) = (tokens ≡ rest) × BeginsNot (SignToken sign) rest
SignTo sign tokens (long rest) = ⊥

-- the reader of a sign reads it, or stops where it is not
sign_reads : (sign : Sign) (tokens : List PlacedToken) → SignTo sign tokens (sign_at sign tokens)
unfolding sign_at take_token
sign_reads sign [] = (refl, tt)
sign_reads sign (token ∷ tokens) = by (is_sign sign token.token) refl
  where
    by : (b : Bool) → is_sign sign token.token ≡ b
        → SignTo sign (token ∷ tokens) (take_or_stick {A = Unit {0}} (cond b (Some tt) None) token tokens)
    by true e = (token, refl, sign_true sign token.token e)
    by false e = (refl, sign_false sign token.token e)

module _ (start : PlacedToken) (tokens : List PlacedToken) where
  -- the tokens from the first on, where what is behind it is known
  whole_of : (front rest : List PlacedToken) → tokens ≡ front ++ rest → start ∷ tokens ≡ start ∷ front ++ rest
  whole_of front rest e = ap (λ ts. start ∷ ts) e

  -- behind an open bracket
  nil_tells : start.token ≡ SignToken OpenBracket → (x : Read (Unit {0})) → SignTo CloseBracket tokens x
      → Tells IsAny LabelOf (start ∷ tokens) (next_on (λ done. pure Nil) x)
  unfolding next_on
  nil_tells is (got done rest) reads =
      label_got Nil (start ∷ tokens) (start ∷ reads.0 ∷ []) rest (whole_of (reads.0 ∷ []) rest reads.1)
      (λ i. is i ∷ reads.2 i ∷ []) tt (plain_closed (label_tokens Nil) refl refl refl)
  nil_tells is (stuck rest) reads =
      label_stuck (start ∷ tokens) (start ∷ []) rest (SignToken OpenBracket ∷ []) (SignToken CloseBracket ∷ []) Nil
      (whole_of [] rest reads.0) (λ i. is i ∷ []) refl refl tt (λ others. refl)
      (λ others label behind follows spelled.
      follows_not (SignToken CloseBracket) rest others behind reads.1 follows (nil_only label others behind spelled))
  nil_tells is (long rest) reads = absurd reads

  module _ (is : start.token ≡ SignToken OpenParen) (colon : PlacedToken) (behind_colon : List PlacedToken)
      (whole : tokens ≡ colon ∷ behind_colon) (is_colon : colon.token ≡ SignToken Colon) where
    -- the last sign of the label of one element
    end_tells : (open_token close_token : PlacedToken) (rest : List PlacedToken)
        → behind_colon ≡ open_token ∷ close_token ∷ rest → open_token.token ≡ SignToken OpenBracket
        → close_token.token ≡ SignToken CloseBracket → (x : Read (Unit {0})) → SignTo CloseParen rest x
        → Tells IsAny LabelOf (start ∷ tokens) (next_on (λ done. pure One) x)
    unfolding next_on
    end_tells open_token close_token rest e is_open is_close (got done last) reads =
        label_got One (start ∷ tokens) (start ∷ colon ∷ open_token ∷ close_token ∷ reads.0 ∷ []) last
        (whole_of (colon ∷ open_token ∷ close_token ∷ reads.0 ∷ []) last
        (whole ∙ ap (λ ts. colon ∷ ts) (e ∙ ap (λ ts. open_token ∷ close_token ∷ ts) reads.1)))
        (λ i. is i ∷ is_colon i ∷ is_open i ∷ is_close i ∷ reads.2 i ∷ []) tt (plain_closed (label_tokens One) refl refl refl)
    end_tells open_token close_token rest e is_open is_close (stuck last) reads =
        label_stuck (start ∷ tokens) (start ∷ colon ∷ open_token ∷ close_token ∷ []) last
        (SignToken OpenParen ∷ SignToken Colon ∷ SignToken OpenBracket ∷ SignToken CloseBracket ∷ [])
        (SignToken CloseParen ∷ []) One
        (whole_of (colon ∷ open_token ∷ close_token ∷ []) last
        (whole ∙ ap (λ ts. colon ∷ ts) (e ∙ ap (λ ts. open_token ∷ close_token ∷ ts) reads.0)))
        (λ i. is i ∷ is_colon i ∷ is_open i ∷ is_close i ∷ []) refl refl tt (λ others. refl)
        (λ others label behind follows spelled.
        let only = one_only label (SignToken CloseBracket ∷ others) behind spelled in
        follows_not (SignToken CloseParen) last others behind reads.1 follows (cc only))
    end_tells open_token close_token rest e is_open is_close (long last) reads = absurd reads

    -- the close bracket of the label of one element
    one_tells : (open_token : PlacedToken) (rest : List PlacedToken) → behind_colon ≡ open_token ∷ rest
        → open_token.token ≡ SignToken OpenBracket → (x : Read (Unit {0})) → SignTo CloseBracket rest x
        → Tells IsAny LabelOf (start ∷ tokens) (next_on (λ close. λ ts. next_on (λ end. pure One) (sign_at CloseParen ts)) x)
    unfolding next_on
    one_tells open_token rest e is_open (got done last) reads =
        end_tells open_token reads.0 last (e ∙ ap (λ ts. open_token ∷ ts) reads.1) is_open reads.2
        (sign_at CloseParen last) (sign_reads CloseParen last)
    one_tells open_token rest e is_open (stuck last) reads =
        label_stuck (start ∷ tokens) (start ∷ colon ∷ open_token ∷ []) last
        (SignToken OpenParen ∷ SignToken Colon ∷ SignToken OpenBracket ∷ [])
        (SignToken CloseBracket ∷ SignToken CloseParen ∷ []) One
        (whole_of (colon ∷ open_token ∷ []) last (whole ∙ ap (λ ts. colon ∷ ts) (e ∙ ap (λ ts. open_token ∷ ts) reads.0)))
        (λ i. is i ∷ is_colon i ∷ is_open i ∷ []) refl refl tt (λ others. refl)
        (λ others label behind follows spelled.
        follows_not (SignToken CloseBracket) last others (SignToken CloseParen ∷ behind) reads.1 follows
        (one_only label others behind spelled))
    one_tells open_token rest e is_open (long last) reads = absurd reads

    -- the reader stops behind the colon
    stuck_at_colon : BeginsNot (SignToken CloseParen) behind_colon → BeginsNot (SignToken OpenBracket) behind_colon
        → IsStuckAt IsAny LabelOf (start ∷ tokens) behind_colon
    stuck_at_colon no_close no_open =
        label_stuck (start ∷ tokens) (start ∷ colon ∷ []) behind_colon
        (SignToken OpenParen ∷ SignToken Colon ∷ []) (SignToken CloseParen ∷ []) Cons
        (whole_of (colon ∷ []) behind_colon whole) (λ i. is i ∷ is_colon i ∷ []) refl refl tt (λ others. refl)
        (λ others label behind follows spelled. elim (colon_only label others behind spelled) [
          | inl e ↦ follows_not (SignToken CloseParen) behind_colon others behind no_close follows e
          | inr e ↦ follows_not (SignToken OpenBracket) behind_colon others (SignToken CloseBracket ∷ SignToken CloseParen ∷ behind) no_open follows e
        ])

  -- behind the colon
  colon_tells : start.token ≡ SignToken OpenParen → (colon : PlacedToken) (rest : List PlacedToken)
      → tokens ≡ colon ∷ rest → colon.token ≡ SignToken Colon
      → Tells IsAny LabelOf (start ∷ tokens) (colon_label_at rest)
  unfolding colon_label_at one_at
  colon_tells is colon [] whole is_colon = stuck_at_colon is colon [] whole is_colon tt tt
  colon_tells is colon (token ∷ rest) whole is_colon = by (is_sign CloseParen token.token) refl
    where
      by_open : (b : Bool) → is_sign OpenBracket token.token ≡ b → is_sign CloseParen token.token ≡ false
          → Tells IsAny LabelOf (start ∷ tokens) (cond b (one_at rest) (stuck (token ∷ rest)))
      by_open true e not_close =
          one_tells is colon (token ∷ rest) whole is_colon token rest refl (sign_true OpenBracket token.token e)
          (sign_at CloseBracket rest) (sign_reads CloseBracket rest)
      by_open false e not_close =
          stuck_at_colon is colon (token ∷ rest) whole is_colon
          (sign_false CloseParen token.token not_close) (sign_false OpenBracket token.token e)

      by : (b : Bool) → is_sign CloseParen token.token ≡ b
          → Tells IsAny LabelOf (start ∷ tokens) (cond b (got Cons rest) (cond (is_sign OpenBracket token.token) (one_at rest) (stuck (token ∷ rest))))
      by true e =
          let close = sign_true CloseParen token.token e in
          label_got Cons (start ∷ tokens) (start ∷ colon ∷ token ∷ []) rest (whole_of (colon ∷ token ∷ []) rest whole)
          (λ i. is i ∷ is_colon i ∷ close i ∷ []) tt (plain_closed (label_tokens Cons) refl refl refl)
      by false e = by_open (is_sign OpenBracket token.token) refl e

  -- behind an open parenthesis
  paren_tells : start.token ≡ SignToken OpenParen → (x : Read (Unit {0})) → SignTo Colon tokens x
      → Tells IsAny LabelOf (start ∷ tokens) (next_on (λ colon. colon_label_at) x)
  unfolding next_on
  paren_tells is (got done rest) reads = colon_tells is reads.0 rest reads.1 reads.2
  paren_tells is (stuck rest) reads =
      label_stuck (start ∷ tokens) (start ∷ []) rest (SignToken OpenParen ∷ []) (SignToken Colon ∷ SignToken CloseParen ∷ []) Cons
      (whole_of [] rest reads.0) (λ i. is i ∷ []) refl refl tt (λ others. refl)
      (λ others label behind follows spelled.
      let only = paren_only label others behind spelled in
      follows_not (SignToken Colon) rest others only.0 reads.1 follows only.1)
  paren_tells is (long rest) reads = absurd reads

  -- a label that is no name, by its first token
  sign_label_tells : upper_name start.token ≡ None → Tells IsAny LabelOf (start ∷ tokens) (sign_label_at start tokens)
  unfolding sign_label_at nil_at paren_label_at
  sign_label_tells none = by_wild (is_sign Underscore start.token) refl
    where
      by_paren : (b : Bool) → is_sign OpenParen start.token ≡ b → is_sign OpenBracket start.token ≡ false
          → is_sign Underscore start.token ≡ false
          → Tells IsAny LabelOf (start ∷ tokens) (cond b (paren_label_at tokens) (stuck (start ∷ tokens)))
      by_paren true e no_open no_wild =
          paren_tells (sign_true OpenParen start.token e) (sign_at Colon tokens) (sign_reads Colon tokens)
      by_paren false e no_open no_wild =
          stuck_here IsAny LabelOf (start ∷ tokens) nothing_front some_label
          (no_label (start ∷ tokens) (λ name upper is. upper_none start.token name none is upper)
          (sign_false Underscore start.token no_wild) (sign_false OpenBracket start.token no_open) (sign_false OpenParen start.token e))

      by_open : (b : Bool) → is_sign OpenBracket start.token ≡ b → is_sign Underscore start.token ≡ false
          → Tells IsAny LabelOf (start ∷ tokens)
          (cond b (nil_at tokens) (cond (is_sign OpenParen start.token) (paren_label_at tokens) (stuck (start ∷ tokens))))
      by_open true e no_wild =
          nil_tells (sign_true OpenBracket start.token e) (sign_at CloseBracket tokens) (sign_reads CloseBracket tokens)
      by_open false e no_wild = by_paren (is_sign OpenParen start.token) refl e no_wild

      by_wild : (b : Bool) → is_sign Underscore start.token ≡ b
          → Tells IsAny LabelOf (start ∷ tokens)
          (cond b (got Wild tokens) (cond (is_sign OpenBracket start.token) (nil_at tokens)
          (cond (is_sign OpenParen start.token) (paren_label_at tokens) (stuck (start ∷ tokens)))))
      by_wild true e =
          let wild = sign_true Underscore start.token e in
          label_got Wild (start ∷ tokens) (start ∷ []) tokens refl (λ i. wild i ∷ []) tt (plain_closed (label_tokens Wild) refl refl refl)
      by_wild false e = by_open (is_sign OpenBracket start.token) refl e

-- the reader of a label tells of the label at the front
pub label_tells : (tokens : List PlacedToken) → HaveShortNames tokens → Tells IsAny LabelOf tokens (label_at tokens)
unfolding label_at
label_tells [] short =
    stuck_here IsAny LabelOf [] nothing_front some_label (no_label [] (λ name upper. tt) tt tt tt)
label_tells (token ∷ tokens) short = by (upper_name token.token) refl
  where
    by : (x : Option (List ℕ)) → upper_name token.token ≡ x → Tells IsAny LabelOf (token ∷ tokens) (label_by x token tokens)
    by (Some name) e =
        let is = upper_some token.token name e in
        let own : IsClosed (Identifier name ∷ []) =
        one_closed (Identifier name) (λ same. cc same) (λ same. cc same) (rw is.0 at short.0) in
        label_got (Named name) (token ∷ tokens) (token ∷ []) tokens refl (λ i. is.0 i ∷ []) is.1 own
    by None e = sign_label_tells token tokens e
