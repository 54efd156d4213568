-- How bytes spell commands: a line is told by its first LF, and a block by its length.
use Rattle.std.proofs.Common.{◌≡◌, ℕ, zero, suc, ◌^◌, ◌<◌, ◌≤◌, ◌&&◌, List, [], ◌∷◌, ◌++◌, length, take, drop, Bool, true, false, not, nat_eq, codes, decimal, Contains, All, refl, sym, ◌∙◌, ap, subst, arith, get_or, append_assoc, length-append}
use Rattle.std.specs.List.{list_all}
use Rattle.std.specs.Str.{all_ascii_digits}
use Rattle.std.specs.Str.Parse.{digits_value}
use Rattle.std.proofs.lemmas.List.{get_or_default}
use Rattle.std.proofs.lemmas.Str.Parse.{IsNumeralModel, numerals_by_value, tells_all_ascii_digits, not_in_digits}
use Rattle.std.proofs.lemmas.Fmt.{digits_decimal, decimal_injective, length-decimal-le}
use Rattle.std.proofs.Math.Seq.{take-append_seam}
use Rattle.spec_script.specs.declared.question.Constituent.TheVariants.{EntryWhole, NamedWhole, NamedSpan}
use Rattle.spec_script.specs.declared.question.TokenSpan.{TokenSpan}
use Rattle.spec_script.specs.declared.question.TokenSpan.TheVariants.{Whole, Span}
use Rattle.spec_script.specs.Script.{Constituent, constituent_text, IsNameable, ends_text, edit_text, span_text, HasShortEnds}
use Rattle.spec_script.specs.Script.{Query, has, tree, tokens_in, query_line, IsAskable, opens, edits, ask, Part, header, grammar, of_command, line_of, block_of, text_of, IsWord, IsWithinLimits, HasNoLf, HasBlock}

-- the list does not have the byte
abbrev pub Lacks : List ℕ → ℕ → Type 0
Lacks bytes byte = Contains bytes byte → ⊥

-- what a list has, a longer one has
contains_later : (x : ℕ) (xs : List ℕ) (y : ℕ) → Contains xs y → Contains (x ∷ xs) y
contains_later x xs y h = (suc h.0, omega (arith, h.1), h.2)

-- two lists that lack a byte lack it when they are joined
pub lacks_joined : (byte : ℕ) (front back : List ℕ) →
    Lacks front byte → Lacks back byte → Lacks (front ++ back) byte
lacks_joined byte [] back a b h = b h
lacks_joined byte (x ∷ front) back a b (zero, lt, e) = a (zero, omega arith, e)
lacks_joined byte (x ∷ front) back a b (suc k, lt, e) =
    let lacks : Lacks front byte = λ h. a (contains_later x front byte h) in
    lacks_joined byte front back lacks b (k, omega arith, e)

second : (a b : Bool) → (a && b) ≡ true → b ≡ true
second true b e = e
second false b e = let h : false ≡ true = e in cc

-- a test tells that a list lacks a byte
abbrev pub is_without : ℕ → List ℕ → Bool
is_without byte bytes = list_all (λ x. not (nat_eq x byte)) bytes

pub tested : (byte : ℕ) (bytes : List ℕ) → is_without byte bytes ≡ true → Lacks bytes byte
tested byte [] e (k, lt, is) = omega arith
tested byte (x ∷ bytes) e (zero, lt, is) =
    let P : ℕ → Type 0 = λ n. (not (nat_eq n byte) && is_without byte bytes) ≡ true in
    grind (arith, subst P is e)
tested byte (x ∷ bytes) e (suc k, lt, is) =
    tested byte bytes (second (not (nat_eq x byte)) (is_without byte bytes) e) (k, omega arith, is)

-- each byte of a list that lacks one is another
pub each_differs : (byte : ℕ) (bytes : List ℕ) → Lacks bytes byte → All (λ x. x ≡ byte → ⊥) bytes
each_differs byte bytes lacks k d lt e = lacks (k, lt, get_or_default bytes k byte d lt ∙ e)

-- and the other way round
pub lacks_if_each_differs : (byte : ℕ) (bytes : List ℕ) → All (λ x. x ≡ byte → ⊥) bytes → Lacks bytes byte
lacks_if_each_differs byte bytes each h = each h.0 byte h.1 h.2

-- the parts round the first such byte are the same parts
pub cut_same : (sign : ℕ) (word rest other more : List ℕ) → Lacks word sign → Lacks other sign →
    word ++ (sign ∷ rest) ≡ other ++ (sign ∷ more) → (word ≡ other) × (rest ≡ more)
cut_same sign [] rest [] more a b e = (refl, ap (drop 1) e)
cut_same sign [] rest (y ∷ ys) more a b e =
    absurd (b (0, omega arith, sym (ap (λ bytes. get_or bytes 0 0) e)))
cut_same sign (x ∷ xs) rest [] more a b e =
    absurd (a (0, omega arith, ap (λ bytes. get_or bytes 0 0) e))
cut_same sign (x ∷ xs) rest (y ∷ ys) more a b e =
    let lacks : Lacks xs sign = λ h. a (contains_later x xs sign h) in
    let lacks_too : Lacks ys sign = λ h. b (contains_later y ys sign h) in
    let tail = cut_same sign xs rest ys more lacks lacks_too (ap (drop 1) e) in
    let head : x ≡ y = ap (λ bytes. get_or bytes 0 0) e in
    (ap (λ bytes. x ∷ bytes) tail.0 ∙ ap (λ byte. byte ∷ ys) head, tail.1)

-- behind one beginning stand the same bytes
pub same_rest : (beginning rest other : List ℕ) → beginning ++ rest ≡ beginning ++ other → rest ≡ other
same_rest [] rest other e = e
same_rest (x ∷ beginning) rest other e = same_rest beginning rest other (ap (drop 1) e)

-- beginnings of one length are the same
pub same_front : (front back other more : List ℕ) → length front ≡ length other →
    front ++ back ≡ other ++ more → front ≡ other
same_front front back other more size e =
    sym (take-append_seam front back) ∙ ap (take (length front)) e
    ∙ ap (λ n. take n (other ++ more)) size ∙ take-append_seam other more

-- and so are the bytes behind them
pub same_back : (front back other more : List ℕ) → length front ≡ length other →
    front ++ back ≡ other ++ more → back ≡ more
same_back front back other more size e =
    let fronts : front ≡ other = same_front front back other more size e in
    same_rest other back more (ap (λ bytes. bytes ++ back) (sym fronts) ∙ e)

-- decimal texts are told by the test of digits
pub model : IsNumeralModel (λ word. all_ascii_digits word ≡ true) (digits_value 10)
model = numerals_by_value (λ word. all_ascii_digits word ≡ true) tells_all_ascii_digits

-- a number has digits alone
pub digits_lack : (n byte : ℕ) → n < 10 ^ 9 → byte < 48 → Lacks (decimal n) byte
digits_lack n byte small low h =
    let digits : all_ascii_digits (decimal n) ≡ true = digits_decimal model n (omega arith) in
    let is : get_or (decimal n) h.0 0 ≡ byte = get_or_default (decimal n) h.0 0 byte h.1 ∙ h.2 in
    not_in_digits model (decimal n) byte digits (λ r. omega (arith, r.0)) h.0 h.1 is

-- numbers of nine digits with one text are equal
pub same_number : (n other : ℕ) → n < 10 ^ 9 → other < 10 ^ 9 → decimal n ≡ decimal other → n ≡ other
same_number n other small small_too e = decimal_injective n other (omega arith) (omega arith) e

-- a word has no space and no LF
pub word_lacks_space : (word : List ℕ) → IsWord word → Lacks word 32
word_lacks_space word is_word h = (is_word.each h.0 32 h.1).0 h.2

pub word_lacks_lf : (word : List ℕ) → IsWord word → Lacks word 10
word_lacks_lf word is_word h = (is_word.each h.0 10 h.1).1 h.2

-- a beginning and a number have no LF
counted_lacks_lf : (beginning : List ℕ) (n : ℕ) → is_without 10 beginning ≡ true → n < 10 ^ 9 →
    Lacks (beginning ++ decimal n) 10
counted_lacks_lf beginning n clean small =
    lacks_joined 10 beginning (decimal n) (tested 10 beginning clean) (digits_lack n 10 small (omega arith))

-- a space and what stands behind it have no LF
spaced_lacks_lf : (bytes : List ℕ) → Lacks bytes 10 → Lacks (32 ∷ bytes) 10
spaced_lacks_lf bytes lacks = lacks_joined 10 (32 ∷ []) bytes (tested 10 (32 ∷ []) refl) lacks

-- the ends of a span have no LF
ends_lack_lf : (first end : ℕ) → first < 10 ^ 9 → end < 10 ^ 9 → Lacks (ends_text first end) 10
ends_lack_lf first end small small_too =
    lacks_joined 10 (decimal first) (32 ∷ decimal end) (digits_lack first 10 small (omega arith))
    (spaced_lacks_lf (decimal end) (digits_lack end 10 small_too (omega arith)))

-- the name and the span of a question
abbrev question_text : List ℕ → ℕ → ℕ → List ℕ
question_text name first end = name ++ (32 ∷ ends_text first end)

-- what names a constituent has no LF
constituent_lacks_lf : (constituent : Constituent) → IsNameable constituent →
    Lacks (constituent_text constituent) 10
constituent_lacks_lf EntryWhole nameable = tested 10 [] refl
constituent_lacks_lf (NamedWhole name) nameable =
    spaced_lacks_lf name (word_lacks_lf name nameable)
constituent_lacks_lf (NamedSpan name first end) nameable =
    let behind_lacks : Lacks (question_text name first end) 10 =
    lacks_joined 10 name (32 ∷ ends_text first end) (word_lacks_lf name nameable.0)
    (spaced_lacks_lf (ends_text first end) (ends_lack_lf first end nameable.1 nameable.2)) in
    spaced_lacks_lf (question_text name first end) behind_lacks

-- nor have the numbers of an edit
edit_lacks_lf : (at deleted count : ℕ) → at < 10 ^ 9 → deleted < 10 ^ 9 → count < 10 ^ 9 →
    Lacks (edit_text at deleted count) 10
edit_lacks_lf at deleted count at_small deleted_small count_small =
    lacks_joined 10 (decimal at) (32 ∷ ends_text deleted count) (digits_lack at 10 at_small (omega arith))
    (spaced_lacks_lf (ends_text deleted count) (ends_lack_lf deleted count deleted_small count_small))

-- nor has what names a span of tokens
span_lacks_lf : (span : TokenSpan) → HasShortEnds span → Lacks (span_text span) 10
span_lacks_lf Whole short = tested 10 [] refl
span_lacks_lf (Span first end) short =
    spaced_lacks_lf (ends_text first end) (ends_lack_lf first end short.0 short.1)

-- the line of a query has no LF
query_lacks_lf : (query : Query) → IsAskable query → Lacks (query_line query) 10
query_lacks_lf (has constituent) askable =
    lacks_joined 10 (codes "has") (constituent_text constituent) (tested 10 (codes "has") refl)
    (constituent_lacks_lf constituent askable)
query_lacks_lf (tree constituent) askable =
    lacks_joined 10 (codes "tree") (constituent_text constituent) (tested 10 (codes "tree") refl)
    (constituent_lacks_lf constituent askable)
query_lacks_lf (tokens_in span) askable =
    lacks_joined 10 (codes "tokens") (span_text span) (tested 10 (codes "tokens") refl)
    (span_lacks_lf span askable)

-- the line of a part within its limits has no LF
pub line_lacks_lf : (part : Part) → IsWithinLimits part → Lacks (line_of part) 10
line_lacks_lf header within = tested 10 (codes "script 1") refl
line_lacks_lf (grammar block) within =
    counted_lacks_lf (codes "grammar ") (length block) refl (omega (arith, within))
line_lacks_lf (of_command (opens text)) within =
    counted_lacks_lf (codes "open ") (length text) refl (omega (arith, within))
line_lacks_lf (of_command (edits at deleted inserted)) within =
    lacks_joined 10 (codes "edit ") (edit_text at deleted (length inserted)) (tested 10 (codes "edit ") refl)
    (edit_lacks_lf at deleted (length inserted) within.0 within.1 within.2)
line_lacks_lf (of_command (ask query)) within = query_lacks_lf query within.0

-- a beginning and a number are short
counted_is_short : (beginning : List ℕ) (n : ℕ) → length beginning ≤ 100 → n < 10 ^ 9 →
    length (beginning ++ decimal n) ≤ 256
counted_is_short beginning n short small =
    let digits : length (decimal n) ≤ 9 = length-decimal-le 9 n (omega arith) small (omega arith) in
    omega (arith, length-append beginning (decimal n))

-- so are the numbers of an edit
edit_is_short : (at deleted count : ℕ) → at < 10 ^ 9 → deleted < 10 ^ 9 → count < 10 ^ 9 →
    length (edit_text at deleted count) ≤ 29
edit_is_short at deleted count at_small deleted_small count_small =
    let first : length (decimal at) ≤ 9 = length-decimal-le 9 at (omega arith) at_small (omega arith) in
    let second : length (decimal deleted) ≤ 9 = length-decimal-le 9 deleted (omega arith) deleted_small (omega arith) in
    let third : length (decimal count) ≤ 9 = length-decimal-le 9 count (omega arith) count_small (omega arith) in
    omega (
      arith,
      first,
      second,
      third,
      length-append (decimal at) (32 ∷ ends_text deleted count),
      length-append (decimal deleted) (32 ∷ decimal count),
    )

-- the line of a part within its limits has at most 256 bytes
pub line_is_short : (part : Part) → IsWithinLimits part → length (line_of part) ≤ 256
line_is_short header within = omega arith
line_is_short (grammar block) within =
    counted_is_short (codes "grammar ") (length block) (omega arith) (omega (arith, within))
line_is_short (of_command (opens text)) within =
    counted_is_short (codes "open ") (length text) (omega arith) (omega (arith, within))
line_is_short (of_command (edits at deleted inserted)) within =
    let numbers = edit_is_short at deleted (length inserted) within.0 within.1 within.2 in
    omega (arith, numbers, length-append (codes "edit ") (edit_text at deleted (length inserted)))
line_is_short (of_command (ask query)) within = within.1

-- a line before an LF is that of the part that the bytes begin with, and the block comes next
pub part_line : (part : Part) (line rest more : List ℕ) → IsWithinLimits part → Lacks line 10 →
    line ++ (10 ∷ rest) ≡ text_of part ++ more → (line ≡ line_of part) × (rest ≡ block_of part ++ more)
part_line part line rest more within lacks e =
    cut_same 10 line rest (line_of part) (block_of part ++ more) lacks (line_lacks_lf part within)
    (e ∙ append_assoc (line_of part) (10 ∷ block_of part) more)

-- blocks of one length before an LF are the same, and so is what stands behind
same_block : (beginning block other rest more : List ℕ) → length block < 10 ^ 9 → length other < 10 ^ 9 →
    beginning ++ decimal (length block) ≡ beginning ++ decimal (length other) →
    (block ++ 10 ∷ []) ++ rest ≡ (other ++ 10 ∷ []) ++ more → (block ≡ other) × (rest ≡ more)
same_block beginning block other rest more small small_too e f =
    let digits = same_rest beginning (decimal (length block)) (decimal (length other)) e in
    let size : length block ≡ length other = same_number (length block) (length other) small small_too digits in
    let whole : block ++ (10 ∷ rest) ≡ other ++ (10 ∷ more) =
    sym (append_assoc block (10 ∷ []) rest) ∙ f ∙ append_assoc other (10 ∷ []) more in (
      same_front block (10 ∷ rest) other (10 ∷ more) size whole,
      ap (drop 1) (same_back block (10 ∷ rest) other (10 ∷ more) size whole),
    )

-- a word, a space and what stands behind it have a space
pub has_space : (word rest : List ℕ) → Contains (word ++ (32 ∷ rest)) 32
has_space [] rest = (0, omega arith, refl)
has_space (x ∷ word) rest = contains_later x (word ++ (32 ∷ rest)) 32 (has_space word rest)

-- a word is not another with a span
word_or_span : (word name : List ℕ) (start stop : ℕ) → IsWord word → word ≡ question_text name start stop → ⊥
word_or_span word name start stop is_word e =
    word_lacks_space word is_word
    (subst (λ bytes. Contains bytes 32) (sym e) (has_space name (ends_text start stop)))

-- ends that are spelled alike are the same
same_ends : (first end start stop : ℕ) → first < 10 ^ 9 → end < 10 ^ 9 → start < 10 ^ 9 → stop < 10 ^ 9 →
    ends_text first end ≡ ends_text start stop → (first ≡ start) × (end ≡ stop)
same_ends first end start stop first_small end_small start_small stop_small e =
    let numbers = cut_same 32 (decimal first) (decimal end) (decimal start) (decimal stop)
    (digits_lack first 32 first_small (omega arith)) (digits_lack start 32 start_small (omega arith)) e in
    (same_number first start first_small start_small numbers.0, same_number end stop end_small stop_small numbers.1)

-- what has a name and a span is named in one way
same_named_span : (name : List ℕ) (first end : ℕ) (other : List ℕ) (start stop : ℕ) →
    IsNameable (NamedSpan name first end) → IsNameable (NamedSpan other start stop) →
    question_text name first end ≡ question_text other start stop →
    NamedSpan name first end ≡ NamedSpan other start stop
same_named_span name first end other start stop v w e =
    let parts = cut_same 32 name (ends_text first end) other (ends_text start stop)
    (word_lacks_space name v.0) (word_lacks_space other w.0) e in
    let numbers = same_ends first end start stop v.1 v.2 w.1 w.2 parts.1 in
    let firsts : first ≡ start = numbers.0 in
    let ends : end ≡ stop = numbers.1 in
    let names : name ≡ other = parts.0 in
    cc

-- constituents that are named alike are the same
pub same_constituent : (a b : Constituent) → IsNameable a → IsNameable b →
    constituent_text a ≡ constituent_text b → a ≡ b
same_constituent EntryWhole EntryWhole v w e = refl
same_constituent EntryWhole (NamedWhole other) v w e = absurd (omega (arith, ap length e))
same_constituent EntryWhole (NamedSpan other start stop) v w e = absurd (omega (arith, ap length e))
same_constituent (NamedWhole name) EntryWhole v w e = absurd (omega (arith, ap length e))
same_constituent (NamedWhole name) (NamedWhole other) v w e = ap NamedWhole (ap (drop 1) e)
same_constituent (NamedWhole name) (NamedSpan other start stop) v w e =
    absurd (word_or_span name other start stop v (ap (drop 1) e))
same_constituent (NamedSpan name first end) EntryWhole v w e = absurd (omega (arith, ap length e))
same_constituent (NamedSpan name first end) (NamedWhole other) v w e =
    absurd (word_or_span other name first end w (sym (ap (drop 1) e)))
same_constituent (NamedSpan name first end) (NamedSpan other start stop) v w e =
    same_named_span name first end other start stop v w (ap (drop 1) e)

-- and so are spans of tokens
same_token_span : (a b : TokenSpan) → HasShortEnds a → HasShortEnds b → span_text a ≡ span_text b → a ≡ b
same_token_span Whole Whole v w e = refl
same_token_span Whole (Span start stop) v w e = absurd (omega (arith, ap length e))
same_token_span (Span first end) Whole v w e = absurd (omega (arith, ap length e))
same_token_span (Span first end) (Span start stop) v w e =
    let numbers = same_ends first end start stop v.0 v.1 w.0 w.1 (ap (drop 1) e) in
    let firsts : first ≡ start = numbers.0 in
    let ends : end ≡ stop = numbers.1 in
    cc

-- edits with one line, before what stands behind it, are the same
same_edit : (at deleted : ℕ) (inserted : List ℕ) (place gone : ℕ) (others rest more : List ℕ) →
    IsWithinLimits (of_command (edits at deleted inserted)) →
    IsWithinLimits (of_command (edits place gone others)) →
    codes "edit " ++ edit_text at deleted (length inserted) ≡ codes "edit " ++ edit_text place gone (length others) →
    (inserted ++ 10 ∷ []) ++ rest ≡ (others ++ 10 ∷ []) ++ more →
    (of_command (edits at deleted inserted) ≡ of_command (edits place gone others)) × (rest ≡ more)
same_edit at deleted inserted place gone others rest more v w e f =
    let numbers = cut_same 32 (decimal at) (ends_text deleted (length inserted)) (decimal place)
    (ends_text gone (length others)) (digits_lack at 32 v.0 (omega arith)) (digits_lack place 32 w.0 (omega arith))
    (same_rest (codes "edit ") (edit_text at deleted (length inserted)) (edit_text place gone (length others)) e) in
    let places : at ≡ place = same_number at place v.0 w.0 numbers.0 in
    let counts = cut_same 32 (decimal deleted) (decimal (length inserted)) (decimal gone)
    (decimal (length others)) (digits_lack deleted 32 v.1 (omega arith)) (digits_lack gone 32 w.1 (omega arith))
    numbers.1 in
    let gones : deleted ≡ gone = same_number deleted gone v.1 w.1 counts.0 in
    let blocks = same_block [] inserted others rest more v.2 w.2 counts.1 f in
    let bytes : inserted ≡ others = blocks.0 in
    (cc, blocks.1)

-- the first byte of a line, which tells the parts apart
abbrev first_byte : List ℕ → ℕ
first_byte line = get_or line 0 0

-- and the second, which tells `tree` and `tokens` apart, and `edit` and `end`
abbrev second_byte : List ℕ → ℕ
second_byte line = get_or line 1 0

-- queries with one line are the same
same_query : (a b : Query) → IsAskable a → IsAskable b → query_line a ≡ query_line b → a ≡ b
same_query (has constituent) (has other) v w e =
    let behind = same_rest (codes "has") (constituent_text constituent) (constituent_text other) e in
    ap has (same_constituent constituent other v w behind)
same_query (has constituent) (tree other) v w e = absurd (omega (arith, ap first_byte e))
same_query (has constituent) (tokens_in span) v w e = absurd (omega (arith, ap first_byte e))
same_query (tree constituent) (tree other) v w e =
    let behind = same_rest (codes "tree") (constituent_text constituent) (constituent_text other) e in
    ap tree (same_constituent constituent other v w behind)
same_query (tree constituent) (has other) v w e = absurd (omega (arith, ap first_byte e))
same_query (tree constituent) (tokens_in span) v w e = absurd (omega (arith, ap second_byte e))
same_query (tokens_in span) (has constituent) v w e = absurd (omega (arith, ap first_byte e))
same_query (tokens_in span) (tree constituent) v w e = absurd (omega (arith, ap second_byte e))
same_query (tokens_in span) (tokens_in other) v w e =
    let behind = same_rest (codes "tokens") (span_text span) (span_text other) e in
    ap tokens_in (same_token_span span other v w behind)

-- parts with one line, before what stands behind it, are the same
same_by_line : (a b : Part) (rest more : List ℕ) → IsWithinLimits a → IsWithinLimits b →
    line_of a ≡ line_of b → block_of a ++ rest ≡ block_of b ++ more → (a ≡ b) × (rest ≡ more)
same_by_line header header rest more v w e f = (refl, f)
same_by_line (grammar block) (grammar other) rest more v w e f =
    let small : length block < 10 ^ 9 = omega (arith, v) in
    let small_too : length other < 10 ^ 9 = omega (arith, w) in
    let same = same_block (codes "grammar ") block other rest more small small_too e f in
    (ap grammar same.0, same.1)
same_by_line (of_command (opens text)) (of_command (opens other)) rest more v w e f =
    let small : length text < 10 ^ 9 = omega (arith, v) in
    let small_too : length other < 10 ^ 9 = omega (arith, w) in
    let same = same_block (codes "open ") text other rest more small small_too e f in
    (ap (λ bytes. of_command (opens bytes)) same.0, same.1)
same_by_line (of_command (edits at deleted inserted)) (of_command (edits place gone others)) rest more v w e f =
    same_edit at deleted inserted place gone others rest more v w e f
same_by_line (of_command (ask query)) (of_command (ask other)) rest more v w e f = (ap (λ (asked : Query). of_command (ask asked)) (same_query query other v.0 w.0 e), f)
same_by_line a (of_command (ask (has other))) rest more v w e f = absurd (omega (arith, ap first_byte e))
same_by_line a (of_command (ask (tree other))) rest more v w e f = absurd (omega (arith, ap first_byte e))
same_by_line a (of_command (ask (tokens_in other))) rest more v w e f = absurd (omega (arith, ap first_byte e))
same_by_line (of_command (ask (has constituent))) b rest more v w e f = absurd (omega (arith, ap first_byte e))
same_by_line (of_command (ask (tree constituent))) b rest more v w e f = absurd (omega (arith, ap first_byte e))
same_by_line (of_command (ask (tokens_in span))) b rest more v w e f = absurd (omega (arith, ap first_byte e))
same_by_line a b rest more v w e f = absurd (omega (arith, ap first_byte e))

-- bytes begin with one part at most, and so one rest stands behind it
pub same_part : (a b : Part) (rest more : List ℕ) → IsWithinLimits a → IsWithinLimits b →
    text_of a ++ rest ≡ text_of b ++ more → (a ≡ b) × (rest ≡ more)
same_part a b rest more v w e =
    let whole : line_of a ++ (10 ∷ (block_of a ++ rest)) ≡ text_of b ++ more =
    sym (append_assoc (line_of a) (10 ∷ block_of a) rest) ∙ e in
    let lines = part_line b (line_of a) (block_of a ++ rest) more w (line_lacks_lf a v) whole in
    same_by_line a b rest more v w lines.0 lines.1

-- the line `end` is the line of no part
pub end_is_no_line : (part : Part) → codes "end" ≡ line_of part → ⊥
end_is_no_line header e = omega (arith, ap first_byte e)
end_is_no_line (grammar block) e = omega (arith, ap first_byte e)
end_is_no_line (of_command (opens text)) e = omega (arith, ap first_byte e)
end_is_no_line (of_command (edits at deleted inserted)) e = omega (arith, ap second_byte e)
end_is_no_line (of_command (ask (has constituent))) e = omega (arith, ap first_byte e)
end_is_no_line (of_command (ask (tree constituent))) e = omega (arith, ap first_byte e)
end_is_no_line (of_command (ask (tokens_in span))) e = omega (arith, ap first_byte e)

-- bytes that begin with the line `end` begin with no part
pub end_is_no_part : (part : Part) (rest more : List ℕ) → IsWithinLimits part →
    codes "end" ++ (10 ∷ rest) ≡ text_of part ++ more → ⊥
end_is_no_part part rest more within e =
    let lines = part_line part (codes "end") rest more within (tested 10 (codes "end") refl) e in
    end_is_no_line part lines.0

-- a line does not end within bytes that have no LF
pub no_line_within : (start rest told more : List ℕ) → HasNoLf start → length told < length start →
    start ++ rest ≡ told ++ (10 ∷ more) → ⊥
no_line_within [] rest told more h lt e = omega arith
no_line_within (x ∷ start) rest [] more h lt e = h 0 0 (omega arith) (ap (λ bytes. get_or bytes 0 0) e)
no_line_within (x ∷ start) rest (y ∷ told) more h lt e =
    no_line_within start rest told more (λ k d less. h (suc k) d (omega arith)) (omega arith) (ap (drop 1) e)

-- edits with one line insert as many bytes
pub same_edit_count : (at deleted count place gone come : ℕ) →
    (at < 10 ^ 9) × (deleted < 10 ^ 9) × (count < 10 ^ 9) → (place < 10 ^ 9) × (gone < 10 ^ 9) × (come < 10 ^ 9) →
    codes "edit " ++ edit_text at deleted count ≡ codes "edit " ++ edit_text place gone come → count ≡ come
same_edit_count at deleted count place gone come v w e =
    let numbers = cut_same 32 (decimal at) (ends_text deleted count) (decimal place) (ends_text gone come)
    (digits_lack at 32 v.0 (omega arith)) (digits_lack place 32 w.0 (omega arith))
    (same_rest (codes "edit ") (edit_text at deleted count) (edit_text place gone come) e) in
    let counts = cut_same 32 (decimal deleted) (decimal count) (decimal gone) (decimal come)
    (digits_lack deleted 32 v.1 (omega arith)) (digits_lack gone 32 w.1 (omega arith)) numbers.1 in
    same_number count come v.2 w.2 counts.1

-- of parts with one line both have a block of as many bytes, or neither has one
pub same_block_count : (a b : Part) (count : ℕ) → IsWithinLimits a → IsWithinLimits b →
    line_of a ≡ line_of b → HasBlock a count → HasBlock b count
same_block_count header b count v w e h = absurd h
same_block_count (of_command (ask query)) b count v w e h = absurd h
same_block_count (grammar block) (grammar other) count v w e h =
    let digits = same_rest (codes "grammar ") (decimal (length block)) (decimal (length other)) e in
    h ∙ same_number (length block) (length other) (omega (arith, v)) (omega (arith, w)) digits
same_block_count (of_command (opens text)) (of_command (opens other)) count v w e h =
    let digits = same_rest (codes "open ") (decimal (length text)) (decimal (length other)) e in
    h ∙ same_number (length text) (length other) (omega (arith, v)) (omega (arith, w)) digits
same_block_count (of_command (edits at deleted inserted)) (of_command (edits place gone others)) count v w e h =
    h ∙ same_edit_count at deleted (length inserted) place gone (length others) v w e
same_block_count a (of_command (ask (has other))) count v w e h = absurd (omega (arith, ap first_byte e))
same_block_count a (of_command (ask (tree other))) count v w e h = absurd (omega (arith, ap first_byte e))
same_block_count a (of_command (ask (tokens_in other))) count v w e h = absurd (omega (arith, ap first_byte e))
same_block_count a b count v w e h = absurd (omega (arith, ap first_byte e))

-- a part has one count of bytes in its block
pub one_block_count : (part : Part) (count other : ℕ) → HasBlock part count → HasBlock part other → count ≡ other
one_block_count header count other h k = absurd h
one_block_count (grammar block) count other h k = h ∙ sym k
one_block_count (of_command (opens text)) count other h k = h ∙ sym k
one_block_count (of_command (edits at deleted inserted)) count other h k = h ∙ sym k
one_block_count (of_command (ask query)) count other h k = absurd h

-- behind its line and LF a part that has a block has the block and an LF
pub block_and_lf : (part : Part) (count : ℕ) → HasBlock part count →
    (block : List ℕ) × (block_of part ≡ block ++ 10 ∷ []) × (length block ≡ count)
block_and_lf header count h = absurd h
block_and_lf (grammar block) count h = (block, refl, sym h)
block_and_lf (of_command (opens text)) count h = (text, refl, sym h)
block_and_lf (of_command (edits at deleted inserted)) count h = (inserted, refl, sym h)
block_and_lf (of_command (ask query)) count h = absurd h

-- more bytes than so many are so many, another and those behind it
pub cut_at : (count : ℕ) (bytes : List ℕ) → count < length bytes →
    (block : List ℕ) × (byte : ℕ) × (more : List ℕ) × (bytes ≡ block ++ (byte ∷ more)) × (length block ≡ count)
cut_at count [] lt = absurd (omega (arith, lt))
cut_at zero (byte ∷ bytes) lt = ([], byte, bytes, refl, refl)
cut_at (suc count) (byte ∷ bytes) lt =
    let c = cut_at count bytes (omega (arith, lt)) in
    (byte ∷ c.0, c.1, c.2, ap (λ (rest : List ℕ). byte ∷ rest) c.3, omega (arith, c.4))
