-- Where two runs of tokens meet, no whole category is made: those of the whole are those of one of
-- the runs.
use Rattle.std.proofs.Common.{◌≡◌, ℕ, zero, suc, List, [], ◌∷◌, ◌++◌, ◌⊎◌, inl, inr, refl, sym, ap, ◌∙◌, append_assoc, arith}
use Rattle.std.specs.Prelude.{replicate, Bool, true, false, ◌<◌, ◌≤◌, ◌+◌, length}
use Rattle.std.specs.List.{list_any}
use Rattle.std.proofs.Common.{length-append, subst, ◌||◌}
use Rattle.std.proofs.lemmas.Bool.{false≢true}
use Rattle.std.proofs.lemmas.List.{length-replicate}
use Rattle.spec_lbnf.specs.declared.definition.CatName.{CatName}
use Rattle.spec_lbnf.specs.declared.token.Sign.TheVariants.{OpenBracket, CloseBracket}
use Rattle.spec_lbnf.specs.declared.token.FileToken.{FileToken}
use Rattle.spec_lbnf.specs.declared.token.FileToken.TheVariants.{Identifier}
use Rattle.spec_lbnf.specs.declared.token.FileToken.TheVariants.{Sign as SignToken}
use Rattle.spec_lbnf.specs.GrammarFile.{category_tokens}
use Rattle.spec_lbnf.specs.Expansion.{category_text}
use Rattle.spec_lbnf.specs.Faults.{EndsOpen, HasLongCategory, LacksLong}

-- the tokens begin with a close bracket
abbrev pub BeginsClosed : List FileToken → Type 0
BeginsClosed tokens = (behind : List FileToken) × (tokens ≡ SignToken CloseBracket ∷ behind)

-- no category among the tokens is too long, and none can reach over their ends
pub record IsClosed (tokens : List FileToken) : Type 0 where
  pub lacks : LacksLong tokens
  pub no_open : EndsOpen tokens → ⊥
  pub no_close : BeginsClosed tokens → ⊥

-- no category among the tokens is too long, and none can reach over their beginning
pub record IsOpenFront (tokens : List FileToken) : Type 0 where
  pub lacks : LacksLong tokens
  pub no_close : BeginsClosed tokens → ⊥

-- of two ways to cut a list one is behind the other
pub two_cuts : {A : Type 0} (xs ys us vs : List A) → xs ++ ys ≡ us ++ vs
    → ((gap : List A) × (us ≡ xs ++ gap) × (ys ≡ gap ++ vs))
    ⊎ ((x : A) × (gap : List A) × (xs ≡ us ++ x ∷ gap) × (vs ≡ x ∷ gap ++ ys))
two_cuts [] ys us vs e = inl (us, refl, e)
two_cuts (x ∷ xs) ys [] vs e = inr (x, xs, refl, sym e)
two_cuts (x ∷ xs) ys (u ∷ us) vs e =
    let head : x ≡ u = cc in
    let tail : xs ++ ys ≡ us ++ vs = cc in
    elim (two_cuts xs ys us vs tail) [
      | inl cut ↦ inl (cut.0, (λ i. sym head i ∷ cut.1 i), cut.2)
      | inr cut ↦ inr (cut.0, cut.1, (λ i. head i ∷ cut.2 i), cut.3)
    ]

-- tokens that end with an open bracket do so behind others
pub ends_behind : (xs ys : List FileToken) → EndsOpen ys → EndsOpen (xs ++ ys)
ends_behind xs ys ends =
    (xs ++ ends.0, ap (λ zs. xs ++ zs) ends.1 ∙ sym (append_assoc xs ends.0 (SignToken OpenBracket ∷ [])))

-- one token in front
pub ends_cons : (x : FileToken) (xs : List FileToken) → EndsOpen xs → EndsOpen (x ∷ xs)
ends_cons x xs ends = ends_behind (x ∷ []) xs ends

-- nothing is the list only where both its parts are
pub nothing_of : {A : Type 0} (xs ys : List A) → xs ++ ys ≡ [] → (xs ≡ []) × (ys ≡ [])
nothing_of [] ys e = (refl, e)
nothing_of (x ∷ xs) ys e = absurd cc

-- where two runs end with an open bracket, one of them does
pub ends_one : (xs ys : List FileToken) → EndsOpen (xs ++ ys) → EndsOpen xs ⊎ EndsOpen ys
ends_one xs ys ends = by xs ends.0 ends.1
  where
    by : (xs before : List FileToken) → xs ++ ys ≡ before ++ SignToken OpenBracket ∷ [] → EndsOpen xs ⊎ EndsOpen ys
    by [] before e = inr (before, e)
    by (x ∷ xs) [] e =
        let none : xs ++ ys ≡ [] = cc in
        let head : x ≡ SignToken OpenBracket = cc in
        inl ([], (λ i. head i ∷ (nothing_of xs ys none).0 i))
    by (x ∷ xs) (b ∷ before) e =
        let tail : xs ++ ys ≡ before ++ SignToken OpenBracket ∷ [] = cc in
        elim (by xs before tail) [ inl first ↦ inl (ends_cons x xs first) | inr second ↦ inr second ]

-- where two runs begin with a close bracket, one of them does
pub begins_one : (xs ys : List FileToken) → BeginsClosed (xs ++ ys) → BeginsClosed xs ⊎ BeginsClosed ys
begins_one [] ys begins = inr begins
begins_one (x ∷ xs) ys begins =
    let head : x ≡ SignToken CloseBracket = cc begins.1 in
    inl (xs, ap (λ t. t ∷ xs) head)

-- each of so many is the same
pub each_same : {A : Type 0} (n : ℕ) (v : A) (xs : List A) (c : A) (cs : List A)
    → replicate n v ≡ xs ++ c ∷ cs → c ≡ v
each_same zero v [] c cs e = absurd cc
each_same zero v (x ∷ xs) c cs e = absurd cc
each_same (suc n) v [] c cs e = cc
each_same (suc n) v (x ∷ xs) c cs e =
    let tail : replicate n v ≡ xs ++ c ∷ cs = cc in each_same n v xs c cs tail

-- where the brackets around a name are cut, an open bracket ends the front, or a close bracket
-- begins the rest
cut_within : (opens closes : ℕ) (name : List ℕ) (x : FileToken) (xs : List FileToken) (c : FileToken) (cs : List FileToken)
    → replicate opens (SignToken OpenBracket) ++ (Identifier name ∷ replicate closes (SignToken CloseBracket)) ≡ x ∷ xs ++ c ∷ cs
    → EndsOpen (x ∷ xs) ⊎ (c ≡ SignToken CloseBracket)
cut_within zero closes name x xs c cs e =
    let tail : replicate closes (SignToken CloseBracket) ≡ xs ++ c ∷ cs = cc in
    inr (each_same closes (SignToken CloseBracket) xs c cs tail)
cut_within (suc opens) closes name x [] c cs e =
    let head : x ≡ SignToken OpenBracket = cc in inl ([], ap (λ t. t ∷ []) head)
cut_within (suc opens) closes name x (y ∷ ys) c cs e =
    let tail : replicate opens (SignToken OpenBracket) ++ (Identifier name ∷ replicate closes (SignToken CloseBracket)) ≡ y ∷ ys ++ c ∷ cs = cc in
    elim (cut_within opens closes name y ys c cs tail) [
      | inl ends ↦ inl (ends_cons x (y ∷ ys) ends)
      | inr closed ↦ inr closed
    ]

-- a category that is too long stands behind others as well
pub long_behind : (xs ys before : List FileToken) → (EndsOpen xs → ⊥) → HasLongCategory ys before
    → HasLongCategory (xs ++ ys) (xs ++ before)
long_behind xs ys before no_open has = record {
  cat = has.cat;
  is_cat = has.is_cat;
  behind = has.behind;
  stands = ap (λ zs. xs ++ zs) has.stands ∙ sym (append_assoc xs before (category_tokens has.cat ++ has.behind));
  whole = λ ends. elim (ends_one xs before ends) [ inl first ↦ no_open first | inr second ↦ has.whole second ];
  long = has.long;
}

-- a category that is too long stands in front of others as well
pub long_before : (xs ys before : List FileToken) → HasLongCategory xs before → HasLongCategory (xs ++ ys) before
long_before xs ys before has =
    let tokens = category_tokens has.cat in
    record {
      cat = has.cat;
      is_cat = has.is_cat;
      behind = has.behind ++ ys;
      stands = ap (λ zs. zs ++ ys) has.stands
          ∙ append_assoc before (tokens ++ has.behind) ys
          ∙ ap (λ zs. before ++ zs) (append_assoc tokens has.behind ys);
      whole = has.whole;
      long = has.long;
    }

-- a category of two runs that is too long is one of the first or of the second, unless it may reach
-- over the place where they meet
pub long_of_one : (xs ys before : List FileToken) → (EndsOpen xs → ⊥) → (BeginsClosed ys → ⊥)
    → HasLongCategory (xs ++ ys) before
    → HasLongCategory xs before
    ⊎ ((inner : List FileToken) × (before ≡ xs ++ inner) × HasLongCategory ys inner)
long_of_one xs ys before no_open no_close has =
    elim (two_cuts xs ys before (category_tokens has.cat ++ has.behind) has.stands) [
      | inl cut ↦ inr (
        cut.0,
        cut.1,
        record {
          cat = has.cat;
          is_cat = has.is_cat;
          behind = has.behind;
          stands = cut.2;
          whole = λ ends. has.whole (rw cut.1 (ends_behind xs cut.0 ends));
          long = has.long;
        },
      )
      | inr cut ↦ inl (within cut.0 cut.1 cut.2 cut.3)
    ]
  where
    within : (x : FileToken) (gap : List FileToken) → xs ≡ before ++ x ∷ gap
        → category_tokens has.cat ++ has.behind ≡ x ∷ gap ++ ys → HasLongCategory xs before
    within x gap front e = elim (two_cuts (category_tokens has.cat) has.behind (x ∷ gap) ys e) [
      | inl cut ↦ record {
        cat = has.cat;
        is_cat = has.is_cat;
        behind = cut.0;
        stands = front ∙ ap (λ zs. before ++ zs) cut.1;
        whole = has.whole;
        long = has.long;
      }
      | inr cut ↦ absurd (elim (cut_within has.cat.depth has.cat.depth has.cat.name x gap cut.0 cut.1 cut.2) [
        | inl ends ↦ no_open (rw front (ends_behind before (x ∷ gap) ends))
        | inr closed ↦ no_close (cut.1 ++ has.behind, cut.3 ∙ ap (λ t. t ∷ cut.1 ++ has.behind) closed)
      ])
    ]

-- two runs whose ends are closed have no category that is too long
pub lacks_both : (xs ys : List FileToken) → IsClosed xs → IsOpenFront ys → LacksLong (xs ++ ys)
lacks_both xs ys first second before has =
    elim (long_of_one xs ys before first.no_open second.no_close has) [
      | inl of_first ↦ first.lacks before of_first
      | inr of_second ↦ second.lacks of_second.0 of_second.2
    ]

-- a front behind closed tokens
pub front_behind : (xs ys : List FileToken) → IsClosed xs → IsOpenFront ys → IsOpenFront (xs ++ ys)
front_behind xs ys first second = record {
  lacks = lacks_both xs ys first second;
  no_close = λ begins. elim (begins_one xs ys begins) [
    | inl of_first ↦ first.no_close of_first
    | inr of_second ↦ second.no_close of_second
  ];
}

-- closed tokens are a front
pub closed_front : (xs : List FileToken) → IsClosed xs → IsOpenFront xs
closed_front xs closed = record { lacks = closed.lacks; no_close = closed.no_close }

-- closed tokens behind closed tokens
pub closed_both : (xs ys : List FileToken) → IsClosed xs → IsClosed ys → IsClosed (xs ++ ys)
closed_both xs ys first second =
    let front = front_behind xs ys first (closed_front ys second) in
    record {
      lacks = front.lacks;
      no_open = λ ends. elim (ends_one xs ys ends) [
        | inl of_first ↦ first.no_open of_first
        | inr of_second ↦ second.no_open of_second
      ];
      no_close = front.no_close;
    }

-- a category has as many bytes as its brackets and its name
pub category_len : (cat : CatName) → length (category_text cat) ≡ cat.depth + length cat.name + cat.depth
category_len cat =
    let opens : List ℕ = replicate cat.depth 91 in
    let closes : List ℕ = replicate cat.depth 93 in
    let count_opens : length opens ≡ cat.depth = length-replicate {A = ℕ} cat.depth 91 in
    let count_closes : length closes ≡ cat.depth = length-replicate {A = ℕ} cat.depth 93 in
    omega (arith, length-append opens (cat.name ++ closes), length-append cat.name closes, count_opens, count_closes)

-- the tokens of a bracketed name, with others behind it
abbrev pub bracketed : ℕ → List ℕ → List FileToken → List FileToken
bracketed opens name behind = replicate opens (SignToken OpenBracket) ++ (Identifier name ∷ behind)

-- a category and what is behind it are a bracketed name
pub category_bracketed : (cat : CatName) (behind : List FileToken)
    → category_tokens cat ++ behind ≡ bracketed cat.depth cat.name (replicate cat.depth (SignToken CloseBracket) ++ behind)
category_bracketed cat behind =
    append_assoc (replicate cat.depth (SignToken OpenBracket)) (Identifier cat.name ∷ replicate cat.depth (SignToken CloseBracket)) behind

-- a bracketed name has a token
pub bracketed_some : (opens : ℕ) (name : List ℕ) (behind : List FileToken) → bracketed opens name behind ≡ [] → ⊥
bracketed_some zero name behind e = cc
bracketed_some (suc opens) name behind e = cc

-- the token is an identifier
abbrev pub is_name : FileToken → Bool
is_name (Identifier name) = true
is_name other = false

-- there is an identifier in a bracketed name
pub bracketed_named : (opens : ℕ) (name : List ℕ) (behind : List FileToken) → list_any is_name (bracketed opens name behind) ≡ true
bracketed_named zero name behind = refl
bracketed_named (suc opens) name behind = bracketed_named opens name behind

-- and behind others
pub named_behind : (before tokens : List FileToken) → list_any is_name tokens ≡ true → list_any is_name (before ++ tokens) ≡ true
named_behind [] tokens named = named
named_behind (x ∷ before) tokens named = by (is_name x) (named_behind before tokens named)
  where
    by : (first : Bool) → list_any is_name (before ++ tokens) ≡ true → (first || list_any is_name (before ++ tokens)) ≡ true
    by true e = refl
    by false e = e

-- tokens without an identifier have no category
pub lacks_without_names : (tokens : List FileToken) → list_any is_name tokens ≡ false → LacksLong tokens
lacks_without_names tokens none before has =
    let stands : tokens ≡ before ++ bracketed has.cat.depth has.cat.name (replicate has.cat.depth (SignToken CloseBracket) ++ has.behind)
    = has.stands ∙ ap (λ zs. before ++ zs) (category_bracketed has.cat has.behind) in
    let some = named_behind before _ (bracketed_named has.cat.depth has.cat.name (replicate has.cat.depth (SignToken CloseBracket) ++ has.behind)) in
    false≢true (sym none ∙ ap (list_any is_name) stands ∙ some)

-- no tokens are closed
pub nothing_closed : IsClosed []
nothing_closed = record {
  lacks = lacks_without_names [] refl;
  no_open = λ ends. by ends.0 ends.1;
  no_close = λ begins. absurd (cc begins.1);
}
  where
    by : (before : List FileToken) → [] ≡ before ++ SignToken OpenBracket ∷ [] → ⊥
    by [] e = cc
    by (x ∷ before) e = cc

-- the identifier, if the token is one, has at most 64 bytes
abbrev pub IsShort : FileToken → Type 0
IsShort (Identifier name) = length name ≤ 64
IsShort other = Unit {0}

-- a token that is no bracket, and whose name is short, is closed
pub one_closed : (token : FileToken) → (token ≡ SignToken OpenBracket → ⊥) → (token ≡ SignToken CloseBracket → ⊥)
    → IsShort token → IsClosed (token ∷ [])
one_closed token not_open not_close short = record {
  lacks = λ before has.
      lacks has.cat before has.behind (has.stands ∙ ap (λ zs. before ++ zs) (category_bracketed has.cat has.behind)) has.long;
  no_open = λ ends. ends_not ends.0 ends.1;
  no_close = λ begins. not_close (cc begins.1);
}
  where
    ends_not : (before : List FileToken) → token ∷ [] ≡ before ++ SignToken OpenBracket ∷ [] → ⊥
    ends_not [] e = not_open (cc e)
    ends_not (x ∷ before) e =
        let tail : before ++ SignToken OpenBracket ∷ [] ≡ [] = cc e in
        let none = (nothing_of before (SignToken OpenBracket ∷ []) tail).1 in
        cc none

    is_name_alone : (opens : ℕ) (name : List ℕ) (before behind : List FileToken) → token ∷ [] ≡ before ++ bracketed opens name behind
        → (opens ≡ 0) × (token ≡ Identifier name)
    is_name_alone zero name [] behind e = (refl, cc e)
    is_name_alone (suc opens) name [] behind e = absurd (not_open (cc e))
    is_name_alone opens name (x ∷ before) behind e =
        let tail : before ++ bracketed opens name behind ≡ [] = cc e in
        absurd (bracketed_some opens name behind (nothing_of before (bracketed opens name behind) tail).1)

    lacks : (cat : CatName) (before behind : List FileToken)
        → token ∷ [] ≡ before ++ bracketed cat.depth cat.name (replicate cat.depth (SignToken CloseBracket) ++ behind)
        → 128 < length (category_text cat) → ⊥
    lacks cat before behind e long =
        let alone = is_name_alone cat.depth cat.name before _ e in
        let few : length cat.name ≤ 64 = subst IsShort alone.1 short in
        omega (arith, category_len cat, alone.0, few, long)
