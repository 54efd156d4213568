-- What a reader tells of the tokens that it reads, and that readers in turn tell what each does.
use Rattle.std.proofs.Common.{◌≡◌, ◌<◌, List, [], ◌∷◌, ◌++◌, length, Option, Some, None, ◌⊎◌, inl, inr, refl, sym, ap, subst, ◌∙◌, append_assoc}
use Rattle.std.proofs.lemmas.Option.{same_Some, none-some}
use Rattle.spec_lbnf.specs.declared.definition.CatName.{CatName}
use Rattle.spec_lbnf.specs.declared.token.Sign.TheVariants.{OpenBracket, CloseBracket}
use Rattle.spec_lbnf.specs.declared.token.FileToken.{FileToken}
use Rattle.spec_lbnf.specs.declared.token.FileToken.TheVariants.{Sign as SignToken}
use Rattle.spec_lbnf.specs.declared.token.PlacedToken.{PlacedToken}
use Rattle.spec_lbnf.specs.Expansion.{category_text}
use Rattle.spec_lbnf.specs.GrammarFile.{IsCategory, category_tokens}
use Rattle.spec_lbnf.specs.Faults.{bare}
use Rattle.lbnf_readers.specs.FileReading.{Read, got, stuck, long, Reader, next_on, pure, take_token, take_or_stick, to_end}
use Rattle.spec_lbnf.proofs.BoundaryLemmas.{IsClosed, IsOpenFront, IsShort, front_behind, closed_both, closed_front, nothing_closed, one_closed}

-- no identifier among the tokens has more than 64 bytes
abbrev pub HaveShortNames : List PlacedToken → Type 0
HaveShortNames [] = Unit {0}
HaveShortNames (token ∷ tokens) = IsShort token.token × HaveShortNames tokens

-- a relation of values and the tokens that spell them, by what stands behind these tokens
abbrev pub Spelling : Type 0 → Type 1
Spelling A = A → List FileToken → List FileToken → Type 0

-- at most one value is spelled at the front of tokens, by one of their fronts
abbrev pub IsOne : {A : Type 0} → Spelling A → Type 0
IsOne {A} spells =
    (a b : A) (tokens rest other : List FileToken) → spells a tokens rest → spells b tokens other
    → (a ≡ b) × (rest ≡ other)

-- anything may stand behind
abbrev pub IsAny : List FileToken → Type 0
IsAny tokens = Unit {0}

-- nothing stands behind
abbrev pub IsNothing : List FileToken → Type 0
IsNothing tokens = tokens ≡ []

-- with more tokens behind the front a value is spelled
abbrev pub GoesOn : {A : Type 0} → (List FileToken → Type 0) → Spelling A → List FileToken → Type 0
GoesOn {A} Behind spells front =
    (value : A) × (more : List FileToken)
    × ((others : List FileToken) → Behind others → spells value (front ++ (more ++ others)) others)

-- the other tokens begin as these do: with the same token, or both with none
abbrev pub Follows : List PlacedToken → List FileToken → Type 0
Follows [] others = others ≡ []
Follows (token ∷ tokens) others = (more : List FileToken) × (others ≡ token.token ∷ more)

-- a value is spelled by tokens without a category that is too long, and the rest stands behind
pub record IsGot {A : Type 0} (Behind : List FileToken → Type 0) (spells : Spelling A) (value : A)
    (tokens rest : List PlacedToken) : Type 0 where
  pub used : List PlacedToken
  pub whole : tokens ≡ used ++ rest
  pub behind : Behind (bare rest)
  pub spelled : (others : List FileToken) → Behind others → spells value (bare used ++ others) others
  pub closed : IsClosed (bare used)

-- a front of the tokens, without a category that is too long, can go on, but not with what is
-- behind it
pub record IsStuckAt {A : Type 0} (Behind : List FileToken → Type 0) (spells : Spelling A)
    (tokens rest : List PlacedToken) : Type 0 where
  pub front : List PlacedToken
  pub whole : tokens ≡ front ++ rest
  pub closed : IsOpenFront (bare front)
  pub goes_on : GoesOn Behind spells (bare front)
  pub blocked : (others : List FileToken) (value : A) (behind : List FileToken) → Follows rest others
      → spells value (bare front ++ others) behind → ⊥

-- the tokens begin with a category of more than 128 bytes
pub record BeginsLong (tokens : List PlacedToken) : Type 0 where
  pub cat : CatName
  pub is_cat : IsCategory cat
  pub long : 128 < length (category_text cat)
  pub own : List PlacedToken
  pub behind : List PlacedToken
  pub whole : tokens ≡ own ++ behind
  pub spelled : bare own ≡ category_tokens cat

-- a front of the tokens, without a category that is too long, can go on with one that is, and such
-- a category is behind it
pub record IsLongAt {A : Type 0} (Behind : List FileToken → Type 0) (spells : Spelling A)
    (tokens rest : List PlacedToken) : Type 0 where
  pub front : List PlacedToken
  pub whole : tokens ≡ front ++ rest
  pub closed : IsClosed (bare front)
  pub begins : BeginsLong rest
  pub goes_on : GoesOn Behind spells (bare front ++ bare begins.own)

-- what a reader gives for these tokens is what they spell
abbrev pub Tells : {A : Type 0} → (List FileToken → Type 0) → Spelling A → List PlacedToken → Read A → Type 0
Tells Behind spells tokens (got value rest) = IsGot Behind spells value tokens rest
Tells Behind spells tokens (stuck rest) = IsStuckAt Behind spells tokens rest
Tells Behind spells tokens (long rest) = IsLongAt Behind spells tokens rest

-- one spelling, and the next by its value
abbrev pub Then : {A B : Type 0} → Spelling A → (A → Spelling B) → Spelling B
Then {A} first next value tokens rest =
    (a : A) × (middle : List FileToken) × first a tokens middle × next a value middle rest

-- the value of a spelling, turned into another
abbrev pub Gives : {A B : Type 0} → (A → B) → Spelling A → Spelling B
Gives {A} turn first value tokens rest = (a : A) × (value ≡ turn a) × first a tokens rest

-- one token with a value
abbrev pub TokenOf : {A : Type 0} → (FileToken → Option A) → Spelling A
TokenOf value_of value tokens rest =
    (token : FileToken) × (value_of token ≡ Some value) × (tokens ≡ token ∷ rest)

-- this value, and no token
abbrev pub AtEnd : {A : Type 0} → A → Spelling A
AtEnd a value tokens rest = (value ≡ a) × (tokens ≡ []) × (rest ≡ [])

-- tokens without offsets, of two lists
pub bare-append : (xs ys : List PlacedToken) → bare (xs ++ ys) ≡ bare xs ++ bare ys
bare-append [] ys = refl
bare-append (x ∷ xs) ys = ap (λ zs. x.token ∷ zs) (bare-append xs ys)

-- names are short behind a front
pub short_behind : (xs ys : List PlacedToken) → HaveShortNames (xs ++ ys) → HaveShortNames ys
short_behind [] ys short = short
short_behind (x ∷ xs) ys short = short_behind xs ys short.1

-- names are short in a front
pub short_before : (xs ys : List PlacedToken) → HaveShortNames (xs ++ ys) → HaveShortNames xs
short_before [] ys short = tt
short_before (x ∷ xs) ys short = (short.0, short_before xs ys short.1)

-- names are short behind what is read
pub short_rest : {A : Type 0} (Behind : List FileToken → Type 0) (spells : Spelling A) (value : A) (tokens rest : List PlacedToken)
    → IsGot Behind spells value tokens rest → HaveShortNames tokens → HaveShortNames rest
short_rest Behind spells value tokens rest is short = short_behind is.used rest (rw is.whole at short)

-- what begins as the rest does, behind the front begins as the whole does
follows_whole : (tokens front rest : List PlacedToken) (others : List FileToken) → tokens ≡ front ++ rest
    → Follows rest others → Follows tokens (bare front ++ others)
follows_whole tokens [] rest others e follows = subst (λ ts. Follows ts others) (sym e) follows
follows_whole tokens (token ∷ front) rest others e follows =
    subst (λ ts. Follows ts (token.token ∷ (bare front ++ others))) (sym e) (bare front ++ others, refl)

-- values that are spelled in turn are one
pub one_then : {A B : Type 0} (first : Spelling A) (next : A → Spelling B) → IsOne first
    → ((a : A) → IsOne (next a)) → IsOne (Then first next)
one_then first next one others a b tokens rest other is_a is_b =
    let same = one is_a.0 is_b.0 tokens is_a.1 is_b.1 is_a.2 is_b.2 in
    let moved : next is_a.0 b is_a.1 other = rw (same.0, same.1) is_b.3 in
    others is_a.0 a b is_a.1 rest other is_a.3 moved

-- values that are turned are one
pub one_gives : {A B : Type 0} (turn : A → B) (first : Spelling A) → IsOne first → IsOne (Gives turn first)
one_gives turn first one a b tokens rest other is_a is_b =
    let same = one is_a.0 is_b.0 tokens rest other is_a.2 is_b.2 in
    (is_a.1 ∙ ap turn same.0 ∙ sym is_b.1, same.1)

-- the value of a token is one
pub one_token : {A : Type 0} (value_of : FileToken → Option A) → IsOne (TokenOf value_of)
one_token value_of a b tokens rest other is_a is_b =
    let same : ◌≡◌ {A = List FileToken} (is_a.0 ∷ rest) (is_b.0 ∷ other) = sym is_a.2 ∙ is_b.2 in
    let head : is_a.0 ≡ is_b.0 = cc same in
    let tail : rest ≡ other = cc same in
    (same_Some a b (sym is_a.1 ∙ ap value_of head ∙ is_b.1), tail)

-- a spelling in the words of another that has one value has one value
pub one_change : {A : Type 0} (first second : Spelling A) → IsOne first
    → ((a : A) (tokens rest : List FileToken) → second a tokens rest → first a tokens rest) → IsOne second
one_change first second one back a b tokens rest other is_a is_b =
    one a b tokens rest other (back a tokens rest is_a) (back b tokens other is_b)

-- where nothing can be read, nothing is
pub stuck_here : {A : Type 0} (Behind : List FileToken → Type 0) (spells : Spelling A) (tokens : List PlacedToken)
    → IsOpenFront [] → GoesOn Behind spells []
    → ((others : List FileToken) (value : A) (behind : List FileToken) → Follows tokens others → spells value others behind → ⊥)
    → Tells Behind spells tokens (stuck tokens)
stuck_here Behind spells tokens closed goes_on blocked = record {
  front = [];
  whole = refl;
  closed = closed;
  goes_on = goes_on;
  blocked = blocked;
}

-- a reader tells in the words of another spelling, where that is the same on what begins as the
-- tokens do
pub change_tells : {A : Type 0} (Behind : List FileToken → Type 0) (first second : Spelling A) (tokens : List PlacedToken) (x : Read A)
    → ((a : A) (others rest : List FileToken) → first a others rest → second a others rest)
    → ((a : A) (others rest : List FileToken) → Follows tokens others → second a others rest → first a others rest)
    → Tells Behind first tokens x → Tells Behind second tokens x
change_tells Behind first second tokens (got a rest) forth back is = record {
  used = is.used;
  whole = is.whole;
  behind = is.behind;
  spelled = λ others behind. forth a (bare is.used ++ others) others (is.spelled others behind);
  closed = is.closed;
}
change_tells Behind first second tokens (stuck rest) forth back is = record {
  front = is.front;
  whole = is.whole;
  closed = is.closed;
  goes_on = (
    is.goes_on.0,
    is.goes_on.1,
    λ others behind. forth is.goes_on.0 (bare is.front ++ (is.goes_on.1 ++ others)) others (is.goes_on.2 others behind),
  );
  blocked = λ others value behind follows spelled.
      is.blocked others value behind follows (back value (bare is.front ++ others) behind (follows_whole tokens is.front rest others is.whole follows) spelled);
}
change_tells Behind first second tokens (long rest) forth back is = record {
  front = is.front;
  whole = is.whole;
  closed = is.closed;
  begins = is.begins;
  goes_on = (
    is.goes_on.0,
    is.goes_on.1,
    λ others behind.
        forth is.goes_on.0 ((bare is.front ++ bare is.begins.own) ++ (is.goes_on.1 ++ others)) others (is.goes_on.2 others behind),
  );
}

-- the whole of tokens in three parts
in_parts : (tokens used rest front behind : List PlacedToken) → tokens ≡ used ++ rest → rest ≡ front ++ behind
    → tokens ≡ (used ++ front) ++ behind
in_parts tokens used rest front behind e f = e ∙ ap (λ zs. used ++ zs) f ∙ sym (append_assoc used front behind)

-- two parts without offsets, and others behind them
bare_parts : (used front : List PlacedToken) (others : List FileToken)
    → bare (used ++ front) ++ others ≡ bare used ++ (bare front ++ others)
bare_parts used front others =
    ap (λ zs. zs ++ others) (bare-append used front) ∙ append_assoc (bare used) (bare front) others

module _ {A B : Type 0} (Behind : List FileToken → Type 0) (first : Spelling A) (next : A → Spelling B) where
  -- what is read behind a value tells of both
  pub then_got : (a : A) (tokens rest : List PlacedToken) → IsOne first → IsGot IsAny first a tokens rest
      → (y : Read B) → Tells Behind (next a) rest y → Tells Behind (Then first next) tokens y
  then_got a tokens rest one is (got b behind) then = record {
    used = is.used ++ then.used;
    whole = in_parts tokens is.used rest then.used behind is.whole then.whole;
    behind = then.behind;
    spelled = λ others may. (
      a,
      bare then.used ++ others,
      rw (bare_parts is.used then.used others) (is.spelled (bare then.used ++ others) tt),
      then.spelled others may,
    );
    closed = rw (bare-append is.used then.used) (closed_both (bare is.used) (bare then.used) is.closed then.closed);
  }
  then_got a tokens rest one is (stuck behind) then = record {
    front = is.used ++ then.front;
    whole = in_parts tokens is.used rest then.front behind is.whole then.whole;
    closed = rw (bare-append is.used then.front) (front_behind (bare is.used) (bare then.front) is.closed then.closed);
    goes_on = (
      then.goes_on.0,
      then.goes_on.1,
      λ others may.
          let inner : List FileToken = then.goes_on.1 ++ others in (
            a,
            bare then.front ++ inner,
            rw (bare_parts is.used then.front inner) (is.spelled (bare then.front ++ inner) tt),
            then.goes_on.2 others may,
          ),
    );
    blocked = λ others value last follows spelled.
        let inner : List FileToken = bare then.front ++ others in
        let own : first spelled.0 (bare is.used ++ inner) spelled.1 = rw (bare_parts is.used then.front others) at spelled.2 in
        let same = one a spelled.0 (bare is.used ++ inner) inner spelled.1 (is.spelled inner tt) own in
        then.blocked others value last follows (rw (same.0, same.1) spelled.3);
  }
  then_got a tokens rest one is (long behind) then = record {
    front = is.used ++ then.front;
    whole = in_parts tokens is.used rest then.front behind is.whole then.whole;
    closed = rw (bare-append is.used then.front) (closed_both (bare is.used) (bare then.front) is.closed then.closed);
    begins = then.begins;
    goes_on = (
      then.goes_on.0,
      then.goes_on.1,
      λ others may.
          let inner : List FileToken = (bare then.front ++ bare then.begins.own) ++ (then.goes_on.1 ++ others) in (
            a,
            inner,
            rw (
              append_assoc (bare (is.used ++ then.front)) (bare then.begins.own) (then.goes_on.1 ++ others),
              bare_parts is.used then.front (bare then.begins.own ++ (then.goes_on.1 ++ others)),
              ← append_assoc (bare then.front) (bare then.begins.own) (then.goes_on.1 ++ others),
            ) (is.spelled inner tt),
            then.goes_on.2 others may,
          ),
    );
  }

  -- with a value behind it the front can go on with both
  more_then : (front : List FileToken) → ((a : A) → GoesOn Behind (next a) []) → GoesOn IsAny first front
      → GoesOn Behind (Then first next) front
  more_then front some goes_on =
      let then = some goes_on.0 in (
        then.0,
        goes_on.1 ++ then.1,
        λ others may.
            let inner : List FileToken = then.1 ++ others in (
              goes_on.0,
              inner,
              rw (append_assoc goes_on.1 then.1 others) (goes_on.2 inner tt),
              then.2 others may,
            ),
      )

  -- readers in turn tell of their spellings in turn
  pub then_tells : (tokens : List PlacedToken) (q : A → Reader B) → IsOne first
      → ((a : A) → GoesOn Behind (next a) [])
      → ((a : A) (rest : List PlacedToken) → IsGot IsAny first a tokens rest → Tells Behind (next a) rest (q a rest))
      → (x : Read A) → Tells IsAny first tokens x → Tells Behind (Then first next) tokens (next_on q x)
  unfolding next_on
  then_tells tokens q one some each (got a rest) is = then_got a tokens rest one is (q a rest) (each a rest is)
  then_tells tokens q one some each (stuck rest) is = record {
    front = is.front;
    whole = is.whole;
    closed = is.closed;
    goes_on = more_then (bare is.front) some is.goes_on;
    blocked = λ others value behind follows spelled. is.blocked others spelled.0 spelled.1 follows spelled.2;
  }
  then_tells tokens q one some each (long rest) is = record {
    front = is.front;
    whole = is.whole;
    closed = is.closed;
    begins = is.begins;
    goes_on = more_then (bare is.front ++ bare is.begins.own) some is.goes_on;
  }

-- what a reader gives, turned into another value, tells of that value
pub gives_tells : {A B : Type 0} (Behind : List FileToken → Type 0) (first : Spelling A) (turn : A → B) (tokens : List PlacedToken) (x : Read A)
    → Tells Behind first tokens x → Tells Behind (Gives turn first) tokens (next_on (λ a. pure (turn a)) x)
unfolding next_on
gives_tells Behind first turn tokens (got a rest) is = record {
  used = is.used;
  whole = is.whole;
  behind = is.behind;
  spelled = λ others may. (a, refl, is.spelled others may);
  closed = is.closed;
}
gives_tells Behind first turn tokens (stuck rest) is = record {
  front = is.front;
  whole = is.whole;
  closed = is.closed;
  goes_on = (turn is.goes_on.0, is.goes_on.1, λ others may. (is.goes_on.0, refl, is.goes_on.2 others may));
  blocked = λ others value behind follows spelled. is.blocked others spelled.0 behind follows spelled.2;
}
gives_tells Behind first turn tokens (long rest) is = record {
  front = is.front;
  whole = is.whole;
  closed = is.closed;
  begins = is.begins;
  goes_on = (turn is.goes_on.0, is.goes_on.1, λ others may. (is.goes_on.0, refl, is.goes_on.2 others may));
}

-- no tokens are a front
pub nothing_front : IsOpenFront []
nothing_front = closed_front [] nothing_closed

-- the token is a bracket
abbrev pub IsBracket : FileToken → Type 0
IsBracket token = (token ≡ SignToken OpenBracket) ⊎ (token ≡ SignToken CloseBracket)

-- a reader of one token that is no bracket tells of that token
pub token_tells : {A : Type 0} (value_of : FileToken → Option A) (token : FileToken) (a : A) → value_of token ≡ Some a
    → ((t : FileToken) (b : A) → value_of t ≡ Some b → IsBracket t → ⊥)
    → (tokens : List PlacedToken) → HaveShortNames tokens → Tells IsAny (TokenOf value_of) tokens (take_token value_of tokens)
unfolding take_token
token_tells {A} value_of token a has others [] short =
    stuck_here IsAny (TokenOf value_of) [] nothing_front (a, token ∷ [], λ behind may. (token, has, refl))
    (λ behind value rest follows spelled. cc (follows, spelled.2))
token_tells {A} value_of token a has others (t ∷ tokens) short = by (value_of t.token) refl
  where
    by : (x : Option A) → value_of t.token ≡ x → Tells IsAny (TokenOf value_of) (t ∷ tokens) (take_or_stick x t tokens)
    by (Some value) e = record {
      used = t ∷ [];
      whole = refl;
      behind = tt;
      spelled = λ behind may. (t.token, e, refl);
      closed = one_closed t.token (λ is. others t.token value e (inl is)) (λ is. others t.token value e (inr is)) short.0;
    }
    by None e =
        stuck_here IsAny (TokenOf value_of) (t ∷ tokens) nothing_front (a, token ∷ [], λ behind may. (token, has, refl))
        (λ behind value rest follows spelled.
        let same : t.token ≡ spelled.0 = cc (follows.1, spelled.2) in
        none-some value (sym e ∙ ap value_of same ∙ spelled.1))

-- one token can be read
pub token_some : {A : Type 0} (value_of : FileToken → Option A) (token : FileToken) (a : A) → value_of token ≡ Some a
    → GoesOn IsAny (TokenOf value_of) []
token_some value_of token a has = (a, token ∷ [], λ behind may. (token, has, refl))

-- the end can be read
pub end_some : {A : Type 0} (a : A) → GoesOn IsNothing (AtEnd a) []
end_some a = (a, [], λ behind none. (refl, none, none))

-- a reader of the end tells of it
pub end_tells : {A : Type 0} (a : A) (tokens : List PlacedToken) → Tells IsNothing (AtEnd a) tokens (to_end a tokens)
unfolding to_end
end_tells a [] = record {
  used = [];
  whole = refl;
  behind = refl;
  spelled = λ others none. (refl, none, none);
  closed = nothing_closed;
}
end_tells a (t ∷ tokens) =
    stuck_here IsNothing (AtEnd a) (t ∷ tokens) nothing_front (end_some a) (λ others value behind follows spelled. cc (follows.1, spelled.1))

-- where a reader reads up to the end, the end is behind it
pub to_end_tells : {A : Type 0} (spells : Spelling A) (tokens : List PlacedToken) (x : Read A)
    → Tells IsNothing spells tokens x → Tells IsNothing spells tokens (next_on to_end x)
unfolding next_on to_end
to_end_tells spells tokens (got a []) is = is
to_end_tells spells tokens (got a (t ∷ rest)) is = absurd (cc is.behind)
to_end_tells spells tokens (stuck rest) is = is
to_end_tells spells tokens (long rest) is = is

-- some value can be spelled behind another
pub some_then : {A B : Type 0} (Behind : List FileToken → Type 0) (first : Spelling A) (next : A → Spelling B)
    → ((a : A) → GoesOn Behind (next a) []) → GoesOn IsAny first [] → GoesOn Behind (Then first next) []
some_then Behind first next some goes_on = more_then Behind first next [] some goes_on

-- some value can be turned
pub some_gives : {A B : Type 0} (Behind : List FileToken → Type 0) (turn : A → B) (first : Spelling A)
    → GoesOn Behind first [] → GoesOn Behind (Gives turn first) []
some_gives Behind turn first goes_on = (turn goes_on.0, goes_on.1, λ others may. (goes_on.0, refl, goes_on.2 others may))
