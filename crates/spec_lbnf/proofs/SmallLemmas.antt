-- The categories of a file's definitions are shallow, and no word of its items is empty.
use Rattle.std.proofs.Common.{◌≡◌, ℕ, List, [], ◌∷◌, ◌++◌, length, map, filter, not, nat_eq, Bool, true, false, cond, codes, All, ◌⊎◌, inl, inr, refl, sym, ap, subst, ◌∙◌, append_assoc, arith}
use Rattle.std.specs.List.{flat_map, slice_split, onto_first, AllByRecursion}
use Rattle.std.proofs.lemmas.Bool.{cases_lt}
use Rattle.std.proofs.lemmas.List.{append-nil}
use Rattle.std.proofs.lemmas.List.Elements.{All-from_recursion, recursion_from_All}
use Rattle.spec_lbnf.specs.declared.definition.CatName.{CatName}
use Rattle.spec_lbnf.specs.declared.definition.RawItem.{RawItem}
use Rattle.spec_lbnf.specs.declared.definition.RawItem.TheVariants.{Word}
use Rattle.spec_lbnf.specs.declared.definition.RawRule.{RawRule}
use Rattle.spec_lbnf.specs.declared.definition.Def.{Def}
use Rattle.spec_lbnf.specs.declared.definition.Def.TheVariants.{Rule, Internal, Terminator, Separator, Coercions, Entry, Token, LineComment, BlockComment}
use Rattle.spec_lbnf.specs.declared.token.Sign.TheVariants.{OpenBracket, Dot, Gives, Comma}
use Rattle.spec_lbnf.specs.declared.token.FileToken.{FileToken}
use Rattle.spec_lbnf.specs.declared.token.FileToken.TheVariants.{Text}
use Rattle.spec_lbnf.specs.declared.token.FileToken.TheVariants.{Sign as SignToken}
use Rattle.spec_lbnf.specs.Expansion.{category_text}
use Rattle.spec_lbnf.specs.Words.{is_empty, words_in}
use Rattle.spec_lbnf.specs.GrammarFile.{IsCategory, category_tokens, label_tokens, WrittenItem, category, string, IsWritten, written_tokens, written_items, SpellsRule, entry_tokens, nonempty_tokens, keyword, SpellsDef, is_semicolon, pieces_of, AreSpelledBy}
use Rattle.spec_lbnf.specs.Faults.{bare, EndsOpen, LacksLong, Spells}
use Rattle.spec_lbnf.specs.Limits.{IsShallow, IsSmallItem, IsSmall}
use Rattle.spec_lbnf.specs.Laws.{DefsWithinLimits}
use Rattle.spec_lbnf.proofs.DefSizeLemmas.{two_bytes_for_each}
use Rattle.spec_lbnf.proofs.BracketLemmas.{name_has_byte}
use Rattle.spec_lbnf.proofs.BoundaryLemmas.{long_behind, long_before, nothing_of, nothing_closed, category_len}
use Rattle.spec_lbnf.proofs.BracketLemmas.{category_no_open}
use Rattle.spec_lbnf.proofs.PieceLemmas.{cut_of}

-- the last of tokens that end with an open bracket is one
ends_last : (xs : List FileToken) (x : FileToken) → EndsOpen (xs ++ x ∷ []) → x ≡ SignToken OpenBracket
ends_last xs x ends = by xs ends.0 ends.1
  where
    by : (xs before : List FileToken) → xs ++ x ∷ [] ≡ before ++ SignToken OpenBracket ∷ [] → x ≡ SignToken OpenBracket
    by [] [] e = cc
    by [] (b ∷ before) e =
        let tail : before ++ SignToken OpenBracket ∷ [] ≡ [] = cc e in
        let none = (nothing_of before (SignToken OpenBracket ∷ []) tail).1 in
        absurd (cc none)
    by (y ∷ xs) [] e =
        let tail : xs ++ x ∷ [] ≡ [] = cc e in
        let none = (nothing_of xs (x ∷ []) tail).1 in
        absurd (cc none)
    by (y ∷ xs) (b ∷ before) e = by xs before (cc e)

-- behind tokens that do not end with an open bracket no category is too long, where none of the
-- whole is
peel : (xs ys : List FileToken) → (EndsOpen xs → ⊥) → LacksLong (xs ++ ys) → LacksLong ys
peel xs ys no_open lacks before has = lacks (xs ++ before) (long_behind xs ys before no_open has)

-- and behind tokens and one that is no open bracket
peel_last : (xs : List FileToken) (x : FileToken) (ys : List FileToken) → (x ≡ SignToken OpenBracket → ⊥) → LacksLong (xs ++ x ∷ ys) → LacksLong ys
peel_last xs x ys no_open lacks =
    peel (xs ++ x ∷ []) ys (λ ends. no_open (ends_last xs x ends)) (subst LacksLong (sym (append_assoc xs (x ∷ []) ys)) lacks)

-- a category that stands first is shallow, if none is too long
shallow_first : (cat : CatName) (rest : List FileToken) → IsCategory cat → LacksLong (category_tokens cat ++ rest) → IsShallow cat
shallow_first cat rest upper lacks = elim (cases_lt 128 (length (category_text cat))) [
  | inl more ↦ absurd (lacks [] (record {
    cat = cat;
    is_cat = upper;
    behind = rest;
    stands = refl;
    whole = nothing_closed.no_open;
    long = more;
  }))
  | inr few ↦ omega (arith, few, category_len cat, name_has_byte cat.name upper)
]

-- the parts that are not empty have a byte each
words_some : (parts : List (List ℕ)) → AllByRecursion IsSmallItem (map Word (filter (λ part. not (is_empty part)) parts))
words_some [] = tt
words_some ([] ∷ parts) = words_some parts
words_some ((b ∷ part) ∷ parts) = (omega arith, words_some parts)

-- items of two runs are small
small_both : (xs ys : List RawItem) → AllByRecursion IsSmallItem xs → AllByRecursion IsSmallItem ys → AllByRecursion IsSmallItem (xs ++ ys)
small_both [] ys first second = second
small_both (x ∷ xs) ys first second = (first.0, small_both xs ys first.1 second)

-- written items without a category that is too long give small items
small_items : (written : List WrittenItem) → AllByRecursion IsWritten written → LacksLong (flat_map written_tokens written)
    → AllByRecursion IsSmallItem (flat_map written_items written)
small_items [] each lacks = tt
small_items (category cat ∷ written) each lacks =
    let behind : List FileToken = flat_map written_tokens written in
    (shallow_first cat behind each.0 lacks, small_items written each.1 (peel (category_tokens cat) behind (category_no_open cat) lacks))
small_items (string text ∷ written) each lacks =
    small_both (map Word (words_in text)) (flat_map written_items written)
    (words_some (slice_split (λ byte. nat_eq byte 32) text))
    (small_items written each.1 (peel_last [] (Text text) (flat_map written_tokens written) (λ e. cc e) lacks))

-- a rule without a category that is too long is small
small_rule : (rule : RawRule) (tokens : List FileToken) → SpellsRule rule tokens → LacksLong tokens → IsShallow rule.cat × All IsSmallItem rule.items
small_rule rule tokens is lacks =
    let gives : List FileToken = SignToken Gives ∷ is.side in
    let behind_dot : LacksLong (category_tokens rule.cat ++ gives)
    = peel_last (label_tokens rule.label) (SignToken Dot) (category_tokens rule.cat ++ gives) (λ e. cc e) (subst LacksLong is.whole lacks) in
    let side : LacksLong is.side = peel_last (category_tokens rule.cat) (SignToken Gives) is.side (λ e. cc e) behind_dot in
    let items = small_items is.items.written (recursion_from_All IsWritten is.items.written is.items.each) (subst LacksLong is.items.whole side) in (
      shallow_first rule.cat gives is.is_cat behind_dot,
      All-from_recursion IsSmallItem rule.items (subst (AllByRecursion IsSmallItem) (sym is.items.gives) items),
    )

-- the category of a macro is shallow
small_macro : (nonempty : Bool) (cat : CatName) (word first : List ℕ) → IsCategory cat
    → LacksLong (keyword first ∷ nonempty_tokens nonempty ++ (category_tokens cat ++ (Text word ∷ []))) → IsShallow cat
small_macro true cat word first upper lacks =
    shallow_first cat (Text word ∷ []) upper
    (peel_last (keyword first ∷ []) (keyword (codes "nonempty")) (category_tokens cat ++ (Text word ∷ [])) (λ e. cc e) lacks)
small_macro false cat word first upper lacks =
    shallow_first cat (Text word ∷ []) upper (peel_last [] (keyword first) (category_tokens cat ++ (Text word ∷ [])) (λ e. cc e) lacks)

-- the categories of entry points are shallow
small_entries : (cats : List CatName) → AllByRecursion IsCategory cats → LacksLong (entry_tokens cats) → AllByRecursion IsShallow cats
small_entries [] each lacks = tt
small_entries (cat ∷ []) each lacks =
    (shallow_first cat [] each.0 (subst LacksLong (sym (append-nil (category_tokens cat))) lacks), tt)
small_entries (cat ∷ next ∷ cats) each lacks =
    let behind : List FileToken = entry_tokens (next ∷ cats) in (
      shallow_first cat (SignToken Comma ∷ behind) each.0 lacks,
      small_entries (next ∷ cats) each.1 (peel_last (category_tokens cat) (SignToken Comma) behind (λ e. cc e) lacks),
    )

-- a definition without a category that is too long is small
small_def : (def : Def) (tokens : List FileToken) → SpellsDef def tokens → LacksLong tokens → IsSmall def
small_def (Rule rule) tokens is lacks = small_rule rule tokens is lacks
small_def (Internal rule) tokens is lacks =
    small_rule rule is.0 is.1 (peel_last [] (keyword (codes "internal")) is.0 (λ e. cc e) (subst LacksLong is.2 lacks))
small_def (Terminator nonempty cat word) tokens is lacks = small_macro nonempty cat word (codes "terminator") is.0 (subst LacksLong is.1 lacks)
small_def (Separator nonempty cat word) tokens is lacks = small_macro nonempty cat word (codes "separator") is.0 (subst LacksLong is.1 lacks)
small_def (Coercions name levels) tokens is lacks = tt
small_def (Entry cats) tokens is lacks =
    All-from_recursion IsShallow cats (small_entries cats (recursion_from_All IsCategory cats is.1)
    (peel_last [] (keyword (codes "entrypoints")) (entry_tokens cats) (λ e. cc e) (subst LacksLong is.2 lacks)))
small_def (Token name expr) tokens is lacks = tt
small_def (LineComment opening) tokens is lacks = tt
small_def (BlockComment opening closing) tokens is lacks = tt

-- tokens are their first part, or it, a semicolon and what the others are parts of
abbrev IsFirstPart : List FileToken → List FileToken → List (List FileToken) → Type 0
IsFirstPart tokens first others =
    ((others ≡ []) × (tokens ≡ first))
    ⊎ ((semicolon : FileToken) × (more : List FileToken) × (is_semicolon semicolon ≡ true)
    × (tokens ≡ first ++ semicolon ∷ more) × (slice_split is_semicolon more ≡ others))

-- every list of tokens is
first_part : (tokens first : List FileToken) (others : List (List FileToken)) → slice_split is_semicolon tokens ≡ first ∷ others
    → IsFirstPart tokens first others
first_part [] first others e = inl (cc e, cc e)
first_part (token ∷ tokens) first others e = by (is_semicolon token) refl (slice_split is_semicolon tokens) refl e (first_part tokens)
  where
    by : (b : Bool) → is_semicolon token ≡ b → (parts : List (List FileToken)) → slice_split is_semicolon tokens ≡ parts
        → cond b ([] ∷ parts) (onto_first token parts) ≡ first ∷ others
        → ((f : List FileToken) (o : List (List FileToken)) → slice_split is_semicolon tokens ≡ f ∷ o → IsFirstPart tokens f o)
        → IsFirstPart (token ∷ tokens) first others
    by true is parts are e behind =
        let none : [] ≡ first = cc e in
        let rest : parts ≡ others = cc e in
        inr (token, tokens, is, ap (λ ts. ts ++ token ∷ tokens) none, are ∙ rest)
    by false is [] are e behind =
        let cut = cut_of tokens in
        absurd (cc (are, cut.2))
    by false is (f ∷ o) are e behind =
        let rest : o ≡ others = cc e in
        let one : token ∷ f ≡ first = cc e in
        elim (behind f o are) [
          | inl last ↦ inl (sym rest ∙ last.0, ap (λ ts. token ∷ ts) last.1 ∙ one)
          | inr cut ↦ inr (cut.0, cut.1, cut.2, ap (λ ts. token ∷ ts) cut.3 ∙ ap (λ ts. ts ++ cut.0 ∷ cut.1) one, cut.4 ∙ rest)
        ]

-- the parts of tokens without a category that is too long have none
parts_lack : (others : List (List FileToken)) (tokens first : List FileToken) → slice_split is_semicolon tokens ≡ first ∷ others
    → LacksLong tokens → LacksLong first × AllByRecursion LacksLong others
parts_lack [] tokens first e lacks = elim (first_part tokens first [] e) [
  | inl last ↦ (subst LacksLong last.1 lacks, tt)
  | inr cut ↦ (λ before has. lacks before (rw cut.3 (long_before first (cut.0 ∷ cut.1) before has)), tt)
]
parts_lack (part ∷ others) tokens first e lacks = elim (first_part tokens first (part ∷ others) e) [
  | inl last ↦ absurd (cc last.0)
  | inr cut ↦ (
    λ before has. lacks before (rw cut.3 (long_before first (cut.0 ∷ cut.1) before has)),
    parts_lack others cut.1 part cut.4 (peel_last first cut.0 cut.1 (λ e. cc (cut.2, e)) (subst LacksLong cut.3 lacks)),
  )
]

-- and so do those that are not empty
pieces_lack : (parts : List (List FileToken)) → AllByRecursion LacksLong parts → AllByRecursion LacksLong (filter (λ piece. not (is_empty piece)) parts)
pieces_lack [] each = tt
pieces_lack ([] ∷ parts) each = pieces_lack parts each.1
pieces_lack ((token ∷ piece) ∷ parts) each = (each.0, pieces_lack parts each.1)

-- definitions of pieces without a category that is too long are small
small_spelled : (defs : List Def) (pieces : List (List FileToken)) → AreSpelledBy defs pieces → AllByRecursion LacksLong pieces
    → AllByRecursion IsSmall defs
small_spelled [] pieces is each = tt
small_spelled (d ∷ defs) [] is each = absurd is
small_spelled (d ∷ defs) (piece ∷ pieces) is each = (small_def d piece is.0 each.0, small_spelled defs pieces is.1 each.1)

-- what a file spells is small
small_defs : (bytes : List ℕ) (defs : List Def) → Spells bytes defs → All IsSmall defs
small_defs bytes defs spelled =
    let tokens : List FileToken = bare spelled.tokens in
    let cut = cut_of tokens in
    let lack = parts_lack cut.1 tokens cut.0 cut.2 spelled.form.short in
    let parts : AllByRecursion LacksLong (slice_split is_semicolon tokens) = rw cut.2 lack in
    All-from_recursion IsSmall defs
    (small_spelled defs (pieces_of tokens) spelled.form.spelled (pieces_lack (slice_split is_semicolon tokens) parts))

-- and within the limits
pub defs_within_limits : DefsWithinLimits
defs_within_limits bytes defs spelled = record {
  few = omega (arith, spelled.form.small.few, two_bytes_for_each bytes defs spelled);
  small = small_defs bytes defs spelled;
}
