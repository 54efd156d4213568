-- What the bytes behind a question's first word name, cut at their spaces from left to right.
use Rattle.std.proofs.Common.{◌≡◌, ℕ, zero, suc, ◌^◌, ◌<◌, true, false, nat_eq, subst, List, []}
use Rattle.std.proofs.Common.{◌∷◌, ◌++◌, length, drop, codes, decimal, Contains, sym, ◌∙◌, ap}
use Rattle.std.proofs.Common.{arith, Option, Some, None}
use Rattle.std.specs.Borrow.{Bor}
use Rattle.spec_script.specs.Script.{AreOfWord, Constituent}
use Rattle.spec_script.specs.declared.question.Constituent.TheVariants.{EntryWhole, NamedWhole}
use Rattle.spec_script.specs.declared.question.Constituent.TheVariants.{NamedSpan}
use Rattle.spec_script.specs.declared.question.TokenSpan.{TokenSpan}
use Rattle.spec_script.specs.declared.question.TokenSpan.TheVariants.{Whole, Span}
use Rattle.spec_script.specs.Script.{constituent_text, span_text, ends_text, Query, has, tree, tokens_in}
use Rattle.spec_script.proofs.ScriptLemmas.{Lacks, each_differs, cut_same, same_rest, digits_lack, word_lacks_space, has_space}
use Rattle.cyk_io.specs.Lines.{HasNoLf}
use Rattle.spec_script.specs.declared.question.Constituent.{Constituent as NamedBy}
use Rattle.script_reader.specs.Forms.{AreEnds, meant, IsNameOf, ReadsConstituent, IsSpanText, ReadsTokenSpan, IsQuestion}
use Rattle.script_reader.specs.Forms.{ReadsHas, ReadsTree, ReadsTokens}
use Rattle.script_reader.specs.Forms.{splice_text, IsSpliceText, ReadsSplice, IsEditLine, ReadsEdit}
use Rattle.script_reader.specs.declared.command.Splice.{Splice}

-- what holds of all bytes holds of those behind some, and of those before some
behind_some : (front back : List ℕ) → HasNoLf (front ++ back) → HasNoLf back
behind_some [] back h = h
behind_some (x ∷ front) back h = behind_some front back (λ k d lt. h (suc k) d (omega arith))

before_some : (front back : List ℕ) → HasNoLf (front ++ back) → HasNoLf front
before_some [] back h k d lt = absurd (omega arith)
before_some (x ∷ front) back h zero d lt = h 0 d (omega arith)
before_some (x ∷ front) back h (suc k) d lt =
    before_some front back (λ j e less. h (suc j) e (omega arith)) k d (omega arith)

-- bytes without a space and LF are those of a word
of_word : (bytes : List ℕ) → Lacks bytes 32 → HasNoLf bytes → AreOfWord bytes
of_word bytes no_space no_lf k d lt = (each_differs 32 bytes no_space k d lt, no_lf k d lt)

-- and have no space
of_word_lacks_space : (bytes : List ℕ) → AreOfWord bytes → Lacks bytes 32
of_word_lacks_space bytes each h = (each h.0 32 h.1).0 h.2

-- the bytes are no ends of a span
abbrev NoEnds : List ℕ → Type 0
NoEnds bytes = (first end : ℕ) → AreEnds bytes first end → ⊥

-- without a space there is one number at most
pub no_first : (span : List ℕ) → (Contains span 32 → ⊥) → NoEnds span
no_first span other first end h =
    other (subst (λ word. Contains word 32) (sym h.spelled) (has_space (decimal first) (decimal end)))

-- where a space stands between two parts
module _ (span left right : List ℕ) (cut : span ≡ left ++ (32 ∷ right)) (no_left : Lacks left 32) where
  -- the ends are those on its two sides
  sides : (first end : ℕ) → AreEnds span first end → (left ≡ decimal first) × (right ≡ decimal end)
  sides first end h =
      cut_same 32 left right (decimal first) (decimal end) no_left
      (digits_lack first 32 h.short.0 (omega arith)) (sym cut ∙ h.spelled)

  -- so each side of it is a number
  pub no_first_number : ((n : ℕ) → n < 10 ^ 9 → left ≡ decimal n → ⊥) → NoEnds span
  no_first_number other first end h = other first h.short.0 (sides first end h).0

  pub no_end_number : ((n : ℕ) → n < 10 ^ 9 → right ≡ decimal n → ⊥) → NoEnds span
  no_end_number other first end h = other end h.short.1 (sides first end h).1

-- the bytes tell no splice
abbrev NoSplice : List ℕ → Type 0
NoSplice bytes = (splice : Splice) → IsSpliceText bytes splice → ⊥

-- without a space there is one number at most
pub no_place : (bytes : List ℕ) → (Contains bytes 32 → ⊥) → NoSplice bytes
no_place bytes other splice h =
    other (subst (λ word. Contains word 32) (sym h.spelled)
    (has_space (decimal splice.at) (ends_text splice.deleted splice.count)))

-- where a space stands between two parts
module _ (bytes left right : List ℕ) (cut : bytes ≡ left ++ (32 ∷ right)) (no_left : Lacks left 32) where
  -- the place is on its left, and the two counts on its right
  place_and_counts : (splice : Splice) → IsSpliceText bytes splice
      → (left ≡ decimal splice.at) × (right ≡ ends_text splice.deleted splice.count)
  place_and_counts splice h =
      cut_same 32 left right (decimal splice.at) (ends_text splice.deleted splice.count) no_left
      (digits_lack splice.at 32 h.short.0 (omega arith)) (sym cut ∙ h.spelled)

  pub no_place_number : ((n : ℕ) → n < 10 ^ 9 → left ≡ decimal n → ⊥) → NoSplice bytes
  no_place_number other splice h = other splice.at h.short.0 (place_and_counts splice h).0

  pub no_counts : NoEnds right → NoSplice bytes
  no_counts other splice h =
      other splice.deleted splice.count
      (record { short = (h.short.1, h.short.2); spelled = (place_and_counts splice h).1 })

  pub splice_is : (splice : Splice) → splice.at < 10 ^ 9 → left ≡ decimal splice.at
      → AreEnds right splice.deleted splice.count → IsSpliceText bytes splice
  splice_is splice small place counts = record {
    short = (small, counts.short.0, counts.short.1);
    spelled = cut ∙ ap (λ word. word ++ (32 ∷ right)) place
        ∙ ap (λ behind. decimal splice.at ++ (32 ∷ behind)) counts.spelled;
  }

-- the bytes name no constituent
abbrev NamesNone : List ℕ → Type 0
NamesNone bytes = (constituent : Constituent) → IsNameOf bytes constituent → ⊥

-- bytes that do not begin with a space name none
pub no_space_first : (bytes : List ℕ) → false ≡ nat_eq (length bytes) 0 →
    ((named : List ℕ) → bytes ≡ 32 ∷ named → ⊥) → NamesNone bytes
no_space_first bytes some other EntryWhole h =
    let P : List ℕ → Type 0 = λ (word : List ℕ). false ≡ nat_eq (length word) 0 in
    let never : false ≡ true = subst P h.spelled some in
    cc
no_space_first bytes some other (NamedWhole name) h = other name h.spelled
no_space_first bytes some other (NamedSpan name first end) h = other (name ++ (32 ∷ ends_text first end)) h.spelled

-- bytes that are a space, a word, a space and what is no span name none
pub no_named_span : (name : List ℕ) → AreOfWord name → (span : List ℕ) → NoEnds span →
    NamesNone (32 ∷ (name ++ (32 ∷ span)))
no_named_span name each span other EntryWhole h = absurd (omega (arith, ap length h.spelled))
no_named_span name each span other (NamedWhole word) h =
    let spaced : Contains word 32 =
    subst (λ bytes. Contains bytes 32) (ap (drop 1) h.spelled) (has_space name span) in
    absurd (word_lacks_space word h.nameable spaced)
no_named_span name each span other (NamedSpan word first end) h =
    let parts = cut_same 32 name span word (ends_text first end)
    (of_word_lacks_space name each) (word_lacks_space word h.nameable.0) (ap (drop 1) h.spelled) in
    other first end (record { short = (h.nameable.1, h.nameable.2); spelled = parts.1 })

-- the bytes name no span of tokens
abbrev NamesNoSpan : List ℕ → Type 0
NamesNoSpan bytes = (span : TokenSpan) → IsSpanText bytes span → ⊥

-- bytes that do not begin with a space name none
pub no_span_behind : (bytes : List ℕ) → false ≡ nat_eq (length bytes) 0 →
    ((ends : List ℕ) → bytes ≡ 32 ∷ ends → ⊥) → NamesNoSpan bytes
no_span_behind bytes some other Whole h =
    let P : List ℕ → Type 0 = λ (word : List ℕ). false ≡ nat_eq (length word) 0 in
    let never : false ≡ true = subst P h.spelled some in
    cc
no_span_behind bytes some other (Span first end) h = other (ends_text first end) h.spelled

-- where bytes are a beginning of one space and what stands behind it
module _ (bytes space ends : List ℕ) (one : space ≡ 32 ∷ []) (e : bytes ≡ space ++ ends) where
  spaced : bytes ≡ 32 ∷ ends
  spaced = e ∙ ap (λ front. front ++ ends) one

  -- they name no span where this is none
  pub no_span : NoEnds ends → NamesNoSpan bytes
  no_span other Whole h = absurd (omega (arith, ap length spaced, ap length h.spelled))
  no_span other (Span first end) h =
      other first end (record { short = h.short; spelled = ap (drop 1) (sym spaced ∙ h.spelled) })

  -- and else this one
  pub span_is : (first end : ℕ) → AreEnds ends first end → IsSpanText bytes (Span first end)
  span_is first end h = record { short = h.short; spelled = spaced ∙ ap (λ behind. 32 ∷ behind) h.spelled }

-- behind a beginning of a line without LF stands none
pub no_lf_behind : (line beginning rest : List ℕ) →
    line ≡ beginning ++ rest → HasNoLf line → HasNoLf rest
no_lf_behind line beginning rest e h = behind_some beginning rest (subst HasNoLf e h)

-- where a line begins so or not
module _ (line beginning : List ℕ) where
  -- a line that begins so begins with the word
  begins : {word : List ℕ} → beginning ≡ word → (rest : List ℕ) → line ≡ beginning ++ rest → line ≡ word ++ rest
  begins same rest e = e ∙ ap (λ front. front ++ rest) same

  -- a line that does not begin with `has` asks of no constituent whether it is derived
  pub no_has : beginning ≡ codes "has" → ((rest : List ℕ) → line ≡ beginning ++ rest → ⊥) →
      (constituent : Constituent) → IsQuestion line (has constituent) → ⊥
  no_has same other constituent h = other (constituent_text constituent) (rw same h.spelled)

  -- one that does asks it of what the rest names
  pub has_none : beginning ≡ codes "has" → (rest : List ℕ) → line ≡ beginning ++ rest → NamesNone rest →
      (constituent : Constituent) → IsQuestion line (has constituent) → ⊥
  has_none same rest e other constituent h =
      other constituent (record {
        nameable = h.askable;
        spelled = same_rest (codes "has") rest (constituent_text constituent) (sym (begins same rest e) ∙ h.spelled);
      })

  pub has_is : beginning ≡ codes "has" → (rest : List ℕ) → line ≡ beginning ++ rest →
      (constituent : Constituent) → IsNameOf rest constituent → IsQuestion line (has constituent)
  has_is same rest e constituent h = record {
    askable = h.nameable;
    spelled = begins same rest e ∙ ap (λ behind. codes "has" ++ behind) h.spelled;
  }

  pub has_read : beginning ≡ codes "has" → (rest : List ℕ) → line ≡ beginning ++ rest →
      (r : Option (NamedBy (Bor (List ℕ)))) → ReadsConstituent rest r → ReadsHas line r
  has_read same rest e None h = has_none same rest e h
  has_read same rest e (Some constituent) h = has_is same rest e (meant constituent) h

  -- the same of `tree`
  pub no_tree : beginning ≡ codes "tree" → ((rest : List ℕ) → line ≡ beginning ++ rest → ⊥) →
      (constituent : Constituent) → IsQuestion line (tree constituent) → ⊥
  no_tree same other constituent h = other (constituent_text constituent) (rw same h.spelled)

  pub tree_none : beginning ≡ codes "tree" → (rest : List ℕ) → line ≡ beginning ++ rest → NamesNone rest →
      (constituent : Constituent) → IsQuestion line (tree constituent) → ⊥
  tree_none same rest e other constituent h =
      other constituent (record {
        nameable = h.askable;
        spelled = same_rest (codes "tree") rest (constituent_text constituent) (sym (begins same rest e) ∙ h.spelled);
      })

  pub tree_is : beginning ≡ codes "tree" → (rest : List ℕ) → line ≡ beginning ++ rest →
      (constituent : Constituent) → IsNameOf rest constituent → IsQuestion line (tree constituent)
  tree_is same rest e constituent h = record {
    askable = h.nameable;
    spelled = begins same rest e ∙ ap (λ behind. codes "tree" ++ behind) h.spelled;
  }

  pub tree_read : beginning ≡ codes "tree" → (rest : List ℕ) → line ≡ beginning ++ rest →
      (r : Option (NamedBy (Bor (List ℕ)))) → ReadsConstituent rest r → ReadsTree line r
  tree_read same rest e None h = tree_none same rest e h
  tree_read same rest e (Some constituent) h = tree_is same rest e (meant constituent) h

  -- the same of `tokens` and spans of tokens
  pub no_tokens : beginning ≡ codes "tokens" → ((rest : List ℕ) → line ≡ beginning ++ rest → ⊥) →
      (span : TokenSpan) → IsQuestion line (tokens_in span) → ⊥
  no_tokens same other span h = other (span_text span) (rw same h.spelled)

  pub tokens_none : beginning ≡ codes "tokens" → (rest : List ℕ) → line ≡ beginning ++ rest → NamesNoSpan rest →
      (span : TokenSpan) → IsQuestion line (tokens_in span) → ⊥
  tokens_none same rest e other span h =
      other span (record {
        short = h.askable;
        spelled = same_rest (codes "tokens") rest (span_text span) (sym (begins same rest e) ∙ h.spelled);
      })

  pub tokens_are : beginning ≡ codes "tokens" → (rest : List ℕ) → line ≡ beginning ++ rest →
      (span : TokenSpan) → IsSpanText rest span → IsQuestion line (tokens_in span)
  tokens_are same rest e span h = record {
    askable = h.short;
    spelled = begins same rest e ∙ ap (λ behind. codes "tokens" ++ behind) h.spelled;
  }

  pub tokens_read : beginning ≡ codes "tokens" → (rest : List ℕ) → line ≡ beginning ++ rest →
      (r : Option TokenSpan) → ReadsTokenSpan rest r → ReadsTokens line r
  tokens_read same rest e None h = tokens_none same rest e h
  tokens_read same rest e (Some span) h = tokens_are same rest e span h

-- where a line begins with `edit` and a space, or not
module _ (line beginning : List ℕ) (same : beginning ≡ codes "edit ") where
  pub no_edit : ((rest : List ℕ) → line ≡ beginning ++ rest → ⊥) → (splice : Splice) → IsEditLine line splice → ⊥
  no_edit other splice h = other (splice_text splice) (rw same h.spelled)

  pub edit_read : (rest : List ℕ) → line ≡ beginning ++ rest → (r : Option Splice) → ReadsSplice rest r
      → ReadsEdit line r
  edit_read rest e None h = λ splice k.
      h splice (record {
        short = k.short;
        spelled = same_rest (codes "edit ") rest (splice_text splice) (sym (begins line beginning same rest e) ∙ k.spelled);
      })
  edit_read rest e (Some splice) h = record {
    short = h.short;
    spelled = begins line beginning same rest e ∙ ap (λ behind. codes "edit " ++ behind) h.spelled;
  }

-- a line that asks none of the three asks nothing
pub no_query : (line : List ℕ) → ((constituent : Constituent) → IsQuestion line (has constituent) → ⊥) →
    ((constituent : Constituent) → IsQuestion line (tree constituent) → ⊥) →
    ((span : TokenSpan) → IsQuestion line (tokens_in span) → ⊥) → (query : Query) → IsQuestion line query → ⊥
no_query line no_constituent no_tree no_tokens (has constituent) h = no_constituent constituent h
no_query line no_constituent no_tree no_tokens (tree constituent) h = no_tree constituent h
no_query line no_constituent no_tree no_tokens (tokens_in span) h = no_tokens span h

-- where bytes without LF are a beginning and what it names
module _ (bytes beginning named : List ℕ) (e : bytes ≡ beginning ++ named)
    (no_lf : HasNoLf bytes) where
  -- what stands behind it has none either
  no_lf_named : HasNoLf named
  no_lf_named = no_lf_behind bytes beginning named e no_lf

  -- and where it has no space, it is of a word
  pub whole_of_word : Lacks named 32 → AreOfWord named
  whole_of_word no_space = of_word named no_space no_lf_named

  -- and so is what stands before the next space
  pub front_of_word : (name span : List ℕ) → named ≡ name ++ (32 ∷ span) →
      Lacks name 32 → AreOfWord name
  front_of_word name span cut no_space =
      of_word name no_space (before_some name (32 ∷ span) (subst HasNoLf cut no_lf_named))
