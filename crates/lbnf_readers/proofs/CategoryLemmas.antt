-- The reader of a category tells of the category that the tokens begin with.
use Rattle.std.proofs.Common.{◌≡◌, ℕ, zero, suc, ◌+◌, List, [], ◌∷◌, ◌++◌, length, drop, cond, Bool, true, false, codes, Option, Some, None, refl, sym, ap, subst, ◌∙◌, append_assoc, arith}
use Rattle.std.specs.Prelude.{nat_le}
use Rattle.std.proofs.lemmas.Bool.{leb-true, leb-false}
use Rattle.std.proofs.lemmas.List.{append_cancel_left, replicate-append-replicate}
use Rattle.spec_lbnf.specs.declared.definition.CatName.{CatName}
use Rattle.spec_lbnf.specs.declared.token.Sign.TheVariants.{OpenBracket, CloseBracket}
use Rattle.spec_lbnf.specs.declared.token.FileToken.{FileToken}
use Rattle.spec_lbnf.specs.declared.token.FileToken.TheVariants.{Identifier}
use Rattle.spec_lbnf.specs.declared.token.FileToken.TheVariants.{Sign as SignToken}
use Rattle.spec_lbnf.specs.declared.token.PlacedToken.{PlacedToken}
use Rattle.spec_lbnf.specs.GrammarFile.{IsCategory, IsUpperName, category_tokens}
use Rattle.spec_lbnf.specs.Faults.{bare}
use Rattle.lbnf_readers.specs.FileReading.{Read, got, stuck, long, next_on, pure, take_token, take_or_stick, is_sign, sign_at, upper_name, name_at, open_count, closes_at, bracketed_at, limited, category_at}
use Rattle.spec_lbnf.proofs.BoundaryLemmas.{IsClosed, IsOpenFront, category_len, bracketed, category_bracketed, nothing_closed}
use Rattle.spec_lbnf.proofs.BracketLemmas.{closing, opening, same_brackets, opens_front, cut_front, category_closed}
use Rattle.lbnf_readers.proofs.TokenTestLemmas.{sign_true, sign_false, upper_some, upper_none}
use Rattle.lbnf_readers.proofs.ReaderLemmas.{Spelling, IsOne, IsAny, Follows, GoesOn, IsStuckAt, Tells, bare-append}

-- a category stands before the rest
abbrev pub Category : Spelling CatName
Category cat tokens rest = IsCategory cat × (tokens ≡ category_tokens cat ++ rest)

-- at most one category stands at the front of tokens
pub one_category : IsOne Category
one_category a b tokens rest other is_a is_b =
    let e : bracketed a.depth a.name (closing a.depth ++ rest) ≡ bracketed b.depth b.name (closing b.depth ++ other)
    = sym (category_bracketed a rest) ∙ sym is_a.1 ∙ is_b.1 ∙ category_bracketed b other in
    let same = same_brackets a.depth b.depth a.name b.name _ _ e in
    let behind : closing b.depth ++ rest ≡ closing b.depth ++ other = rw same.0 at same.2 in
    ((λ i. record { name = same.1 i; depth = same.0 i }), append_cancel_left (closing b.depth) rest other behind)

-- the tokens do not begin with this one
abbrev pub BeginsNot : FileToken → List PlacedToken → Type 0
BeginsNot first [] = Unit {0}
BeginsNot first (token ∷ tokens) = token.token ≡ first → ⊥

-- so many open brackets come first, and then none
abbrev IsOpened : ℕ → List PlacedToken → Type 0
IsOpened count tokens =
    (front : List PlacedToken) × (tokens ≡ front ++ drop count tokens) × (bare front ≡ opening count)
    × BeginsNot (SignToken OpenBracket) (drop count tokens)

-- the open brackets that come first are counted
opened : (tokens : List PlacedToken) → IsOpened (open_count tokens) tokens
opened [] = ([], refl, refl, tt)
opened (token ∷ tokens) = by (is_sign OpenBracket token.token) refl (opened tokens)
  where
    by : (b : Bool) → is_sign OpenBracket token.token ≡ b → IsOpened (open_count tokens) tokens
        → IsOpened (cond b (suc (open_count tokens)) 0) (token ∷ tokens)
    by true e is =
        let head = sign_true OpenBracket token.token e in
        (token ∷ is.0, ap (λ ts. token ∷ ts) is.1, (λ i. head i ∷ is.2 i), is.3)
    by false e is = ([], refl, refl, sign_false OpenBracket token.token e)

-- what a reader of so many close brackets tells
abbrev ClosesTo : ℕ → List PlacedToken → Read (Unit {0}) → Type 0
ClosesTo count tokens (got done rest) =
    (own : List PlacedToken) × (tokens ≡ own ++ rest) × (bare own ≡ closing count)
ClosesTo count tokens (stuck rest) =
    (own : List PlacedToken) × (tokens ≡ own ++ rest) × (k : ℕ) × (left : ℕ) × (bare own ≡ closing k)
    × (count ≡ k + suc left) × BeginsNot (SignToken CloseBracket) rest
ClosesTo count tokens (long rest) = ⊥

-- one close bracket more
closes_more : (count : ℕ) (token : PlacedToken) (tokens : List PlacedToken) (x : Read (Unit {0}))
    → token.token ≡ SignToken CloseBracket → ClosesTo count tokens x → ClosesTo (suc count) (token ∷ tokens) x
closes_more count token tokens (got done rest) head is =
    (token ∷ is.0, ap (λ ts. token ∷ ts) is.1, (λ i. head i ∷ is.2 i))
closes_more count token tokens (stuck rest) head is =
    (token ∷ is.0, ap (λ ts. token ∷ ts) is.1, suc is.2, is.3, (λ i. head i ∷ is.4 i), omega (arith, is.5), is.6)
closes_more count token tokens (long rest) head is = absurd is

-- the reader of close brackets reads as many as it is told to, or stops where there is none
closes : (count : ℕ) (tokens : List PlacedToken) → ClosesTo count tokens (closes_at count tokens)
unfolding closes_at sign_at take_token next_on
closes zero tokens = ([], refl, refl)
closes (suc count) [] = ([], refl, 0, count, refl, omega arith, tt)
closes (suc count) (token ∷ tokens) = by (is_sign CloseBracket token.token) refl (closes count tokens)
  where
    by : (b : Bool) → is_sign CloseBracket token.token ≡ b → ClosesTo count tokens (closes_at count tokens)
        → ClosesTo (suc count) (token ∷ tokens)
        (next_on (λ done. closes_at count) (take_or_stick {A = Unit {0}} (cond b (Some tt) None) token tokens))
    by true e is = closes_more count token tokens (closes_at count tokens) (sign_true CloseBracket token.token e) is
    by false e is = ([], refl, 0, count, refl, omega arith, sign_false CloseBracket token.token e)

-- where neither an open bracket nor an upper-case name follows, no bracketed name does
no_name_follows : (n d : ℕ) (name : List ℕ) (behind others : List FileToken)
    → ((more : List FileToken) → others ≡ SignToken OpenBracket ∷ more → ⊥)
    → ((more : List FileToken) → others ≡ Identifier name ∷ more → ⊥)
    → opening n ++ others ≡ bracketed d name behind → ⊥
no_name_follows zero zero name behind others no_open no_name e = no_name behind e
no_name_follows zero (suc d) name behind others no_open no_name e = no_open (bracketed d name behind) e
no_name_follows (suc n) zero name behind others no_open no_name e = cc e
no_name_follows (suc n) (suc d) name behind others no_open no_name e =
    no_name_follows n d name behind others no_open no_name (cc e)

-- what begins as tokens that do not begin with this one does not
pub follows_not : (first : FileToken) (rest : List PlacedToken) (others more : List FileToken) → BeginsNot first rest
    → Follows rest others → others ≡ first ∷ more → ⊥
follows_not first [] others more begins follows e = cc
follows_not first (token ∷ rest) others more begins follows e = begins (cc (follows.1, e))

-- a bracketed name, and others behind its brackets
bracketed_behind : (n : ℕ) (name : List ℕ) (behind others : List FileToken)
    → bracketed n name behind ++ others ≡ bracketed n name (behind ++ others)
bracketed_behind n name behind others = append_assoc (opening n) (Identifier name ∷ behind) others

-- close brackets in two parts
closing_parts : (n k left : ℕ) (others : List FileToken) → n ≡ k + suc left
    → closing k ++ (closing (suc left) ++ others) ≡ closing n ++ others
closing_parts n k left others e =
    sym (append_assoc (closing k) (closing (suc left)) others)
    ∙ ap (λ zs. zs ++ others) (replicate-append-replicate {A = FileToken} k (suc left) (SignToken CloseBracket))
    ∙ ap (λ count. closing count ++ others) (sym e)

-- behind open brackets a category can be read
opened_goes_on : (n : ℕ) → GoesOn IsAny Category (opening n)
opened_goes_on n = (
  record { name = codes "A"; depth = n },
  Identifier (codes "A") ∷ closing n,
  λ others may. (refl, sym (append_assoc (opening n) (Identifier (codes "A") ∷ closing n) others)),
)

-- some category can be read
pub some_category : GoesOn IsAny Category []
some_category = opened_goes_on 0

module _ (n : ℕ) (front : List PlacedToken) (opens : bare front ≡ opening n) where
  -- where no name is behind the open brackets, the reader stops there
  stuck_at_name : (rest : List PlacedToken) → BeginsNot (SignToken OpenBracket) rest
      → ((name : List ℕ) → IsUpperName name → BeginsNot (Identifier name) rest)
      → IsStuckAt IsAny Category (front ++ rest) rest
  stuck_at_name rest no_open no_name = record {
    front = front;
    whole = refl;
    closed = subst IsOpenFront (sym opens) (opens_front n);
    goes_on = rw opens (opened_goes_on n);
    blocked = λ others value behind follows spelled.
        no_name_follows n value.depth value.name (closing value.depth ++ behind) others
        (λ more. follows_not (SignToken OpenBracket) rest others more no_open follows)
        (λ more. follows_not (Identifier value.name) rest others more (no_name value.name spelled.0) follows)
        (ap (λ zs. zs ++ others) (sym opens) ∙ spelled.1 ∙ category_bracketed value behind);
  }

  module _ (token : PlacedToken) (tokens : List PlacedToken) (name : List ℕ) (is : token.token ≡ Identifier name) (upper : IsUpperName name) where
    -- the category with the brackets and the name
    abbrev cat : CatName
    cat = record { name = name; depth = n }

    -- the tokens of the brackets, the name and some close brackets
    bare_named : (own : List PlacedToken) (k : ℕ) → bare own ≡ closing k
        → bare (front ++ token ∷ own) ≡ bracketed n name (closing k)
    bare_named own k e = bare-append front (token ∷ own) ∙ (λ i. opens i ++ (is i ∷ e i))

    -- the whole of the tokens, behind the close brackets
    behind_named : (own rest : List PlacedToken) → tokens ≡ own ++ rest → front ++ token ∷ tokens ≡ (front ++ token ∷ own) ++ rest
    behind_named own rest e = ap (λ ts. front ++ token ∷ ts) e ∙ sym (append_assoc front (token ∷ own) rest)

    -- where all close brackets are there, the category is read, or is too long
    all_closed : (own rest : List PlacedToken) → tokens ≡ own ++ rest → bare own ≡ closing n
        → (b : Bool) → nat_le (n + length name + n) 128 ≡ b
        → Tells IsAny Category (front ++ token ∷ tokens) (cond b (got cat rest) (long (front ++ token ∷ tokens)))
    all_closed own rest e closes true few = record {
      used = front ++ token ∷ own;
      whole = behind_named own rest e;
      behind = tt;
      spelled = λ others may. (upper, ap (λ zs. zs ++ others) (bare_named own n closes));
      closed = subst IsClosed (sym (bare_named own n closes))
          (category_closed cat (omega (arith, category_len cat, leb-true (n + length name + n) 128 few)));
    }
    all_closed own rest e closes false few = record {
      front = [];
      whole = refl;
      closed = nothing_closed;
      begins = record {
        cat = cat;
        is_cat = upper;
        long = omega (arith, category_len cat, leb-false (n + length name + n) 128 few);
        own = front ++ token ∷ own;
        behind = rest;
        whole = behind_named own rest e;
        spelled = bare_named own n closes;
      };
      goes_on = (cat, [], λ others may. (upper, ap (λ zs. zs ++ others) (bare_named own n closes)));
    }

    -- what is read behind the name
    named_tells : (x : Read (Unit {0})) → ClosesTo n tokens x
        → Tells IsAny Category (front ++ token ∷ tokens) (next_on (limited (front ++ token ∷ tokens)) (next_on (λ done. pure cat) x))
    unfolding next_on
    named_tells (got done rest) closes = all_closed closes.0 rest closes.1 closes.2 (nat_le (n + length name + n) 128) refl
    named_tells (stuck rest) closes =
        let own : List PlacedToken = closes.0 in
        let k : ℕ = closes.2 in
        let left : ℕ = closes.3 in
        let named = bare_named own k closes.4 in
        record {
          front = front ++ token ∷ own;
          whole = behind_named own rest closes.1;
          closed = subst IsOpenFront (sym named) (cut_front n k left name closes.5);
          goes_on = (
            cat,
            closing (suc left),
            λ others may. (
              upper,
              ap (λ zs. zs ++ (closing (suc left) ++ others)) named
                  ∙ bracketed_behind n name (closing k) (closing (suc left) ++ others)
                  ∙ ap (λ zs. bracketed n name zs) (closing_parts n k left others closes.5)
                  ∙ sym (bracketed_behind n name (closing n) others),
            ),
          );
          blocked = λ others value behind follows spelled.
              let e : bracketed n name (closing k ++ others) ≡ bracketed value.depth value.name (closing value.depth ++ behind)
              = sym (bracketed_behind n name (closing k) others)
              ∙ ap (λ zs. zs ++ others) (sym named) ∙ spelled.1 ∙ category_bracketed value behind in
              let same = same_brackets n value.depth name value.name _ _ e in
              let parts : closing k ++ others ≡ closing k ++ (closing (suc left) ++ behind)
              = same.2 ∙ ap (λ count. closing count ++ behind) (sym same.0) ∙ sym (closing_parts n k left behind closes.5) in
              follows_not (SignToken CloseBracket) rest others (closing left ++ behind) closes.6 follows
              (append_cancel_left (closing k) others (closing (suc left) ++ behind) parts);
        }
    named_tells (long rest) closes = absurd closes

  -- what is read behind the open brackets
  brackets_tell : (rest : List PlacedToken) → BeginsNot (SignToken OpenBracket) rest
      → Tells IsAny Category (front ++ rest) (next_on (limited (front ++ rest)) (bracketed_at n rest))
  unfolding next_on bracketed_at name_at take_token
  brackets_tell [] no_open = stuck_at_name [] no_open (λ name upper. tt)
  brackets_tell (token ∷ tokens) no_open = by (upper_name token.token) refl
    where
      by : (x : Option (List ℕ)) → upper_name token.token ≡ x
          → Tells IsAny Category (front ++ token ∷ tokens)
          (next_on (limited (front ++ token ∷ tokens))
          (next_on (λ name. λ ts. next_on (λ done. pure (record { name = name; depth = n })) (closes_at n ts)) (take_or_stick x token tokens)))
      by (Some name) e =
          let is = upper_some token.token name e in
          named_tells token tokens name is.0 is.1 (closes_at n tokens) (closes n tokens)
      by None e = stuck_at_name (token ∷ tokens) no_open (λ name upper is. upper_none token.token name e is upper)

-- the reader of a category tells of the category at the front
pub category_tells : (tokens : List PlacedToken) → Tells IsAny Category tokens (category_at tokens)
unfolding category_at
category_tells tokens =
    let is = opened tokens in
    let n : ℕ = open_count tokens in
    let behind : List PlacedToken = drop n tokens in
    let Says : List PlacedToken → Type 0 = λ ts. Tells IsAny Category ts (next_on (limited ts) (bracketed_at n behind)) in
    subst Says (sym is.1) (brackets_tell n is.0 is.2 behind is.3)
