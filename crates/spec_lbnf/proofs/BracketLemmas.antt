-- Where the tokens of a category begin and end: with an open bracket or its name, and with its name
-- or a close bracket.
use Rattle.std.proofs.Common.{◌≡◌, ℕ, zero, suc, ◌+◌, ◌<◌, ◌≤◌, List, [], ◌∷◌, ◌++◌, length, false, refl, sym, ap, subst, ◌∙◌, arith, length-append}
use Rattle.std.specs.Prelude.{replicate}
use Rattle.std.specs.List.{list_any}
use Rattle.std.proofs.lemmas.Bool.{false≢true}
use Rattle.std.proofs.lemmas.List.{length-replicate}
use Rattle.spec_lbnf.specs.declared.definition.CatName.{CatName}
use Rattle.spec_lbnf.specs.declared.token.Sign.TheVariants.{OpenBracket, CloseBracket}
use Rattle.spec_lbnf.specs.declared.token.FileToken.{FileToken}
use Rattle.spec_lbnf.specs.declared.token.FileToken.TheVariants.{Identifier}
use Rattle.spec_lbnf.specs.declared.token.FileToken.TheVariants.{Sign as SignToken}
use Rattle.spec_lbnf.specs.Expansion.{category_text}
use Rattle.spec_lbnf.specs.GrammarFile.{IsUpperName, category_tokens}
use Rattle.spec_lbnf.specs.Faults.{EndsOpen, HasLongCategory}
use Rattle.spec_lbnf.proofs.BoundaryLemmas.{IsClosed, IsOpenFront, BeginsClosed, each_same, category_len, bracketed, category_bracketed, bracketed_named, named_behind, is_name, lacks_without_names, ends_cons}

-- an upper-case name has a byte
pub name_has_byte : (name : List ℕ) → IsUpperName name → 0 < length name
name_has_byte [] upper = absurd (false≢true upper)
name_has_byte (b ∷ name) upper = omega arith

-- so many close brackets
abbrev pub closing : ℕ → List FileToken
closing count = replicate count (SignToken CloseBracket)

-- so many open brackets
abbrev pub opening : ℕ → List FileToken
opening count = replicate count (SignToken OpenBracket)

-- bracketed names that are the same have the same brackets, names and rests
pub same_brackets : (n d : ℕ) (a b : List ℕ) (x y : List FileToken) → bracketed n a x ≡ bracketed d b y
    → (n ≡ d) × (a ≡ b) × (x ≡ y)
same_brackets zero zero a b x y e = (refl, cc, cc)
same_brackets zero (suc d) a b x y e = absurd cc
same_brackets (suc n) zero a b x y e = absurd cc
same_brackets (suc n) (suc d) a b x y e =
    let tail : bracketed n a x ≡ bracketed d b y = cc in
    let same = same_brackets n d a b x y tail in
    (ap suc same.0, same.1, same.2)

-- nothing stands before a whole category but open brackets
nothing_before : (n k : ℕ) (before : List FileToken) (name : List ℕ) (d : ℕ) (other : List ℕ) (behind : List FileToken)
    → bracketed n name (closing k) ≡ before ++ bracketed d other behind → (EndsOpen before → ⊥) → before ≡ []
nothing_before n k [] name d other behind e whole = refl
nothing_before zero k (x ∷ before) name d other behind e whole =
    let tail : closing k ≡ before ++ bracketed d other behind = cc e in
    absurd (false≢true (sym (no_names k) ∙ ap (list_any is_name) tail ∙ named_behind before _ (bracketed_named d other behind)))
  where
    no_names : (k : ℕ) → list_any is_name (closing k) ≡ false
    no_names zero = refl
    no_names (suc k) = no_names k
nothing_before (suc n) k (x ∷ []) name d other behind e whole =
    let head : x ≡ SignToken OpenBracket = cc e in
    absurd (whole ([], ap (λ t. t ∷ []) head))
nothing_before (suc n) k (x ∷ y ∷ before) name d other behind e whole =
    let tail : bracketed n name (closing k) ≡ y ∷ before ++ bracketed d other behind = cc e in
    let none = nothing_before n k (y ∷ before) name d other behind tail (λ ends. whole (ends_cons x (y ∷ before) ends)) in
    absurd (cc none)

-- the only whole category of a bracketed name is that name in all its brackets
only_category : (n k : ℕ) (name : List ℕ) (before : List FileToken) → (has : HasLongCategory (bracketed n name (closing k)) before)
    → (has.cat.depth ≡ n) × (has.cat.name ≡ name) × (closing k ≡ closing n ++ has.behind)
only_category n k name before has =
    let d : ℕ = has.cat.depth in
    let e : bracketed n name (closing k) ≡ before ++ bracketed d has.cat.name (closing d ++ has.behind)
    = has.stands ∙ ap (λ zs. before ++ zs) (category_bracketed has.cat has.behind) in
    let none = nothing_before n k before name d has.cat.name _ e has.whole in
    let bare_e : bracketed n name (closing k) ≡ bracketed d has.cat.name (closing d ++ has.behind)
    = e ∙ ap (λ zs. zs ++ bracketed d has.cat.name (closing d ++ has.behind)) none in
    let same = same_brackets n d name has.cat.name _ _ bare_e in
    (sym same.0, sym same.1, rw (← same.0) at same.2)

-- tokens that begin with an open bracket or a name do not begin with a close bracket
pub begins_not : (n : ℕ) (name : List ℕ) (behind : List FileToken) → BeginsClosed (bracketed n name behind) → ⊥
begins_not zero name behind begins = cc begins.1
begins_not (suc n) name behind begins = cc begins.1

-- a category does not begin with a close bracket
pub category_no_close : (cat : CatName) → BeginsClosed (category_tokens cat) → ⊥
category_no_close cat = begins_not cat.depth cat.name (closing cat.depth)

-- nor does a category with others behind it
pub category_begins : (cat : CatName) (more : List FileToken) → BeginsClosed (category_tokens cat ++ more) → ⊥
category_begins cat more begins =
    begins_not cat.depth cat.name _ (subst BeginsClosed (category_bracketed cat more) begins)

-- open brackets are a front
pub opens_front : (n : ℕ) → IsOpenFront (opening n)
opens_front n = record { lacks = lacks_without_names (opening n) (no_names n); no_close = λ begins. begins_no n begins.0 begins.1 }
  where
    no_names : (n : ℕ) → list_any is_name (opening n) ≡ false
    no_names zero = refl
    no_names (suc n) = no_names n

    begins_no : (n : ℕ) (behind : List FileToken) → opening n ≡ SignToken CloseBracket ∷ behind → ⊥
    begins_no zero behind e = cc
    begins_no (suc n) behind e = cc

-- a name with fewer close brackets than open ones is a front
pub cut_front : (n k left : ℕ) (name : List ℕ) → n ≡ k + suc left → IsOpenFront (bracketed n name (closing k))
cut_front n k left name more = record {
  lacks = λ before has. fewer has.behind (only_category n k name before has).2;
  no_close = begins_not n name (closing k);
}
  where
    fewer : (behind : List FileToken) → closing k ≡ closing n ++ behind → ⊥
    fewer behind e =
        let len_k : length (closing k) ≡ k = length-replicate {A = FileToken} k (SignToken CloseBracket) in
        let len_n : length (closing n) ≡ n = length-replicate {A = FileToken} n (SignToken CloseBracket) in
        omega (arith, ap length e, length-append (closing n) behind, len_k, len_n, more)

-- where a name's tokens end, they end with the name or a close bracket
pub ends_not : (n k : ℕ) (name : List ℕ) → EndsOpen (bracketed n name (closing k)) → ⊥
ends_not n k name ends = by n ends.0 ends.1
  where
    closing_ends : (before : List FileToken) → Identifier name ∷ closing k ≡ before ++ SignToken OpenBracket ∷ [] → ⊥
    closing_ends [] e = cc e
    closing_ends (x ∷ before) e =
        let tail : closing k ≡ before ++ SignToken OpenBracket ∷ [] = cc e in
        let same = each_same k (SignToken CloseBracket) before (SignToken OpenBracket) [] tail in
        cc same

    by : (n : ℕ) (before : List FileToken) → bracketed n name (closing k) ≡ before ++ SignToken OpenBracket ∷ [] → ⊥
    by zero before e = closing_ends before e
    by (suc n) [] e = some n (cc e)
      where
        some : (n : ℕ) → bracketed n name (closing k) ≡ [] → ⊥
        some zero e = cc
        some (suc n) e = cc
    by (suc n) (x ∷ before) e = by n before (cc e)

-- a category does not end with an open bracket
pub category_no_open : (cat : CatName) → EndsOpen (category_tokens cat) → ⊥
category_no_open cat = ends_not cat.depth cat.depth cat.name

-- a category of at most 128 bytes is closed
pub category_closed : (cat : CatName) → length (category_text cat) ≤ 128 → IsClosed (category_tokens cat)
category_closed cat short = record {
  lacks = λ before has.
      let only = only_category cat.depth cat.depth cat.name before has in
      let name : length has.cat.name ≡ length cat.name = ap length only.1 in
      omega (arith, category_len cat, category_len has.cat, has.long, short, only.0, name);
  no_open = ends_not cat.depth cat.depth cat.name;
  no_close = begins_not cat.depth cat.name (closing cat.depth);
}
