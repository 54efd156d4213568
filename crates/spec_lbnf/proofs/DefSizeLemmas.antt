-- A file has two bytes for each part of its definitions.
use Rattle.std.proofs.Common.{◌≡◌, ℕ, zero, suc, ◌+◌, ◌*◌, ◌≤◌, ◌<◌, List, [], ◌∷◌, ◌++◌, length, map, filter, not, nat_eq, Bool, true, false, cond, codes, refl, ap, ◌∙◌, arith, length-append}
use Rattle.std.specs.Prelude.{replicate}
use Rattle.std.specs.List.{flat_map, slice_split, onto_first, sum_by}
use Rattle.std.proofs.lemmas.Bool.{false≢true}
use Rattle.std.proofs.lemmas.List.{length-map, append-nil}
use Rattle.spec_grammar.specs.declared.rule.Label.{Label}
use Rattle.spec_grammar.specs.declared.rule.Label.TheVariants.{Named, Wild, Nil, Cons, One}
use Rattle.spec_lbnf.specs.declared.definition.CatName.{CatName}
use Rattle.spec_lbnf.specs.declared.definition.RawRule.{RawRule}
use Rattle.spec_lbnf.specs.declared.definition.RawItem.TheVariants.{Word}
use Rattle.spec_lbnf.specs.declared.definition.Def.{Def}
use Rattle.spec_lbnf.specs.declared.definition.Def.TheVariants.{Rule, Internal, Terminator, Separator, Coercions, Entry, Token, LineComment, BlockComment}
use Rattle.spec_lbnf.specs.declared.token.Sign.TheVariants.{CloseBracket, Dot, Gives, Comma}
use Rattle.spec_lbnf.specs.declared.token.FileToken.{FileToken}
use Rattle.spec_lbnf.specs.declared.token.FileToken.TheVariants.{Identifier, Number, Text, Character}
use Rattle.spec_lbnf.specs.declared.token.FileToken.TheVariants.{Sign as SignToken}
use Rattle.spec_lbnf.specs.Words.{is_empty, words_in}
use Rattle.spec_lbnf.specs.GrammarFile.{IsCategory, IsLabel, category_tokens, label_tokens, WrittenItem, category, string, IsWritten, written_tokens, written_items, SpellsRule, entry_tokens, nonempty_tokens, position_tokens, keyword, SpellsDef, is_semicolon, pieces_of, AreSpelledBy}
use Rattle.spec_lbnf.specs.Faults.{bare}
use Rattle.spec_lbnf.specs.Limits.{def_size, size_of}
use Rattle.spec_lbnf.specs.Laws.{TwoBytesForEach}
use Rattle.spec_lbnf.proofs.BracketLemmas.{name_has_byte}
use Rattle.spec_lbnf.proofs.BoundaryLemmas.{is_name, bracketed, category_bracketed}
use Rattle.spec_lbnf.proofs.LeastLemmas.{least, tokens_take}
use Rattle.std.specs.List.{AllByRecursion}
use Rattle.std.proofs.lemmas.List.Elements.{recursion_from_All}
use Rattle.std.proofs.lemmas.List.Sums.{sum_by-cons}

-- behind a name tokens take no less
least_behind : (tokens : List FileToken) → least false tokens ≤ least true tokens
least_behind [] = omega arith
least_behind (Identifier name ∷ tokens) = omega arith
least_behind (Number value ∷ tokens) = omega arith
least_behind (Text value ∷ tokens) = omega arith
least_behind (Character scalar ∷ tokens) = omega arith
least_behind (SignToken sign ∷ tokens) = omega arith

-- and before anything
least_any : (behind_name : Bool) (tokens : List FileToken) → least false tokens ≤ least behind_name tokens
least_any true tokens = least_behind tokens
least_any false tokens = omega arith

-- close brackets take a byte each
least_closes : (count : ℕ) (behind_name : Bool) (tokens : List FileToken)
    → count + least false tokens ≤ least behind_name (replicate count (SignToken CloseBracket) ++ tokens)
least_closes zero behind_name tokens = omega (arith, least_any behind_name tokens)
least_closes (suc count) true tokens = omega (arith, least_closes count false tokens)
least_closes (suc count) false tokens = omega (arith, least_closes count false tokens)

-- a bracketed name takes a byte for the name and two for its brackets
least_bracketed : (opens : ℕ) (name : List ℕ) (behind_name : Bool) (tokens : List FileToken) → 0 < length name
    → suc opens + least true tokens ≤ least behind_name (bracketed opens name tokens)
least_bracketed zero name true tokens some = omega (arith, some)
least_bracketed zero name false tokens some = omega (arith, some)
least_bracketed (suc opens) name true tokens some = omega (arith, least_bracketed opens name false tokens some)
least_bracketed (suc opens) name false tokens some = omega (arith, least_bracketed opens name false tokens some)

-- a category takes one byte at least
least_category : (cat : CatName) (behind_name : Bool) (tokens : List FileToken) → IsCategory cat
    → 1 + least false tokens ≤ least behind_name (category_tokens cat ++ tokens)
least_category cat behind_name tokens upper =
    let closes : List FileToken = replicate cat.depth (SignToken CloseBracket) ++ tokens in
    omega (
      arith,
      ap (least behind_name) (category_bracketed cat tokens),
      least_bracketed cat.depth cat.name behind_name closes (name_has_byte cat.name upper),
      least_closes cat.depth true tokens,
    )

-- an item of a category takes two bytes, or one less, which only a name before it takes back
least_item : (cat : CatName) (tokens : List FileToken) (count : ℕ) → IsCategory cat
    → count ≤ least false tokens + 1 → count ≤ least true tokens
    → (2 + count ≤ least false (category_tokens cat ++ tokens) + 1) × (2 + count ≤ least true (category_tokens cat ++ tokens))
least_item cat tokens count upper few behind = by cat.depth refl
  where
    some : 0 < length cat.name
    some = name_has_byte cat.name upper

    by : (depth : ℕ) → cat.depth ≡ depth
        → (2 + count ≤ least false (category_tokens cat ++ tokens) + 1) × (2 + count ≤ least true (category_tokens cat ++ tokens))
    by zero e =
        let tokens_are : category_tokens cat ++ tokens ≡ Identifier cat.name ∷ tokens
        = category_bracketed cat tokens ∙ ap (λ d. bracketed d cat.name (replicate d (SignToken CloseBracket) ++ tokens)) e in (
          omega (arith, ap (least false) tokens_are, some, behind),
          omega (arith, ap (least true) tokens_are, some, behind),
        )
    by (suc depth) e =
        let closes : List FileToken = replicate (suc depth) (SignToken CloseBracket) ++ tokens in
        let tokens_are : category_tokens cat ++ tokens ≡ bracketed (suc depth) cat.name closes
        = category_bracketed cat tokens ∙ ap (λ d. bracketed d cat.name (replicate d (SignToken CloseBracket) ++ tokens)) e in (
          omega (
            arith,
            ap (least false) tokens_are,
            least_bracketed (suc depth) cat.name false closes some,
            least_closes (suc depth) true tokens,
            few,
          ),
          omega (
            arith,
            ap (least true) tokens_are,
            least_bracketed (suc depth) cat.name true closes some,
            least_closes (suc depth) true tokens,
            few,
          ),
        )

-- the bytes of parts, with one for each cut
abbrev part_bytes : List ℕ → ℕ
part_bytes part = length part + 1

-- parts that are not empty have two bytes each, with one for each cut
nonempty_parts : (parts : List (List ℕ)) → 2 * length (filter (λ part. not (is_empty part)) parts) ≤ sum_by part_bytes parts
nonempty_parts [] = omega arith
nonempty_parts ([] ∷ parts) =
    let few : 2 * length (filter (λ part. not (is_empty part)) parts) ≤ 1 + sum_by part_bytes parts = omega (arith, nonempty_parts parts) in
    rw (sum_by-cons part_bytes [] parts) few
nonempty_parts ((b ∷ part) ∷ parts) =
    rw (sum_by-cons part_bytes (b ∷ part) parts) (omega (arith, nonempty_parts parts))

-- the parts have the bytes of the whole, with one for each cut
parts_len : (text : List ℕ) → sum_by part_bytes (slice_split (λ byte. nat_eq byte 32) text) ≡ length text + 1
parts_len [] = refl
parts_len (byte ∷ text) = by (nat_eq byte 32) (slice_split (λ byte. nat_eq byte 32) text) (parts_len text)
  where
    by : (b : Bool) (parts : List (List ℕ)) → sum_by part_bytes parts ≡ length text + 1
        → sum_by part_bytes (cond b ([] ∷ parts) (onto_first byte parts)) ≡ suc (length text) + 1
    by true parts e = omega (arith, e, sum_by-cons part_bytes [] parts)
    by false [] e = absurd (omega (arith, e))
    by false (part ∷ parts) e =
        sum_by-cons part_bytes (byte ∷ part) parts ∙ omega (arith, e, sum_by-cons part_bytes part parts)

-- the words of a string are few
words_few : (text : List ℕ) → 2 * length (words_in text) ≤ length text + 1
words_few text = omega (arith, nonempty_parts (slice_split (λ byte. nat_eq byte 32) text), parts_len text)

-- written items have two bytes for each item, or one less, which only a name before them takes back
items_least : (written : List WrittenItem) → AllByRecursion IsWritten written
    → (2 * length (flat_map written_items written) ≤ least false (flat_map written_tokens written) + 1)
    × (2 * length (flat_map written_items written) ≤ least true (flat_map written_tokens written))
items_least [] each = (omega arith, omega arith)
items_least (category cat ∷ written) each =
    let behind = items_least written each.1 in
    let count : ℕ = 2 * length (flat_map written_items written) in
    let both = least_item cat (flat_map written_tokens written) count each.0 behind.0 behind.1 in
    (omega (arith, both.0), omega (arith, both.1))
items_least (string text ∷ written) each =
    let behind = items_least written each.1 in
    let words : List (List ℕ) = words_in text in
    let count : length (map Word words ++ flat_map written_items written) ≡ length words + length (flat_map written_items written)
    = length-append (map Word words) (flat_map written_items written) ∙ ap (λ n. n + length (flat_map written_items written)) (length-map words Word) in
    (omega (arith, behind.0, words_few text, count), omega (arith, behind.0, words_few text, count))

-- a label takes a byte at least
least_label : (label : Label) (tokens : List FileToken) → IsLabel label → 1 + least false tokens ≤ least false (label_tokens label ++ tokens)
least_label (Named name) tokens upper = omega (arith, name_has_byte name upper, least_behind tokens)
least_label Wild tokens is = omega arith
least_label Nil tokens is = omega arith
least_label Cons tokens is = omega arith
least_label One tokens is = omega arith

-- a rule has two bytes for itself and for each item
least_rule : (rule : RawRule) (tokens : List FileToken) → SpellsRule rule tokens → 2 * (1 + length rule.items) ≤ least false tokens
least_rule rule tokens is =
    let side : List FileToken = is.side in
    let gives : List FileToken = SignToken Gives ∷ side in
    let dot : List FileToken = SignToken Dot ∷ (category_tokens rule.cat ++ gives) in
    let items = (items_least is.items.written (recursion_from_All IsWritten is.items.written is.items.each)).0 in
    let few : 2 * length rule.items ≤ least false side + 1 = rw (is.items.gives, is.items.whole) items in
    omega (
      arith,
      ap (least false) is.whole,
      least_label rule.label dot is.is_label,
      least_category rule.cat false gives is.is_cat,
      few,
    )

-- `nonempty` takes no less than nothing
least_nonempty : (nonempty : Bool) (behind_name : Bool) (tokens : List FileToken)
    → least false tokens ≤ least behind_name (nonempty_tokens nonempty ++ tokens)
least_nonempty true true tokens = omega (arith, least_behind tokens)
least_nonempty true false tokens = omega (arith, least_behind tokens)
least_nonempty false behind_name tokens = least_any behind_name tokens

-- a macro behind its first word takes three bytes more than its string
least_macro : (nonempty : Bool) (cat : CatName) (word : List ℕ) → IsCategory cat
    → 3 + length word ≤ least true (nonempty_tokens nonempty ++ (category_tokens cat ++ (Text word ∷ [])))
least_macro nonempty cat word upper =
    omega (
      arith,
      least_nonempty nonempty true (category_tokens cat ++ (Text word ∷ [])),
      least_category cat false (Text word ∷ []) upper,
    )

-- categories with commas between them take two bytes each, but for one
least_entries : (cats : List CatName) (behind_name : Bool) → AllByRecursion IsCategory cats → 2 * length cats ≤ least behind_name (entry_tokens cats) + 1
least_entries [] behind_name each = omega arith
least_entries (cat ∷ []) behind_name each =
    omega (
      arith,
      least_category cat behind_name [] each.0,
      ap (least behind_name) (append-nil (category_tokens cat)),
    )
least_entries (cat ∷ next ∷ cats) behind_name each =
    omega (
      arith,
      least_category cat behind_name (SignToken Comma ∷ entry_tokens (next ∷ cats)) each.0,
      least_entries (next ∷ cats) false each.1,
    )

-- a definition has two bytes for each of its parts
least_def : (def : Def) (tokens : List FileToken) → SpellsDef def tokens → 2 * def_size def ≤ least false tokens
least_def (Rule rule) tokens is = least_rule rule tokens is
least_def (Internal rule) tokens is =
    omega (arith, ap (least false) is.2, least_rule rule is.0 is.1, least_behind is.0)
least_def (Terminator nonempty cat word) tokens is =
    omega (arith, ap (least false) is.1, least_macro nonempty cat word is.0, words_few word)
least_def (Separator nonempty cat word) tokens is =
    omega (arith, ap (least false) is.1, least_macro nonempty cat word is.0, words_few word)
least_def (Coercions name levels) tokens is = omega (arith, ap (least false) is.1)
least_def (Entry cats) tokens is =
    omega (arith, ap (least false) is.2, least_entries cats true (recursion_from_All IsCategory cats is.1))
least_def (Token name expr) tokens is = least_token is.position is.whole
  where
    least_token : (position : Bool)
        → tokens ≡ position_tokens position ++ (keyword (codes "token") ∷ Identifier name ∷ is.own) → 2 ≤ least false tokens
    least_token true e = omega (arith, ap (least false) e)
    least_token false e = omega (arith, ap (least false) e)
least_def (LineComment opening) tokens is = omega (arith, ap (least false) is.1)
least_def (BlockComment opening closing) tokens is = omega (arith, ap (least false) is.2)

-- how many bytes the parts of tokens take at least, the first of them behind a name or not
abbrev parts_least : Bool → List (List FileToken) → ℕ
parts_least behind_name [] = 0
parts_least behind_name (first ∷ others) = least behind_name first + sum_by (least false) others

-- the parts together take no more than the tokens
split_least : (tokens : List FileToken) (behind_name : Bool) → parts_least behind_name (slice_split is_semicolon tokens) ≤ least behind_name tokens
split_least [] behind_name = omega arith
split_least (token ∷ tokens) behind_name = by (is_semicolon token) (slice_split is_semicolon tokens) (split_least tokens)
  where
    by : (b : Bool) (parts : List (List FileToken)) → ((c : Bool) → parts_least c parts ≤ least c tokens)
        → parts_least behind_name (cond b ([] ∷ parts) (onto_first token parts)) ≤ least behind_name (token ∷ tokens)
    by true [] few = omega arith
    by true (first ∷ others) few =
        omega (arith, few false, sum_by-cons (least false) first others, least_any (is_name token) tokens)
    by false [] few = omega arith
    by false (first ∷ others) few = omega (arith, few (is_name token))

-- pieces that are not empty take no more than all
pieces_least : (parts : List (List FileToken)) → sum_by (least false) (filter (λ piece. not (is_empty piece)) parts) ≤ sum_by (least false) parts
pieces_least [] = omega arith
pieces_least ([] ∷ parts) = rw (sum_by-cons (least false) [] parts) (omega (arith, pieces_least parts))
pieces_least ((token ∷ piece) ∷ parts) =
    rw (
      sum_by-cons (least false) (token ∷ piece) parts,
      sum_by-cons (least false) (token ∷ piece) (filter (λ piece. not (is_empty piece)) parts),
    ) (omega (arith, pieces_least parts))

-- definitions have two bytes for each of their parts
defs_least : (defs : List Def) (pieces : List (List FileToken)) → AreSpelledBy defs pieces → 2 * size_of defs ≤ sum_by (least false) pieces
defs_least [] [] is = omega arith
defs_least [] (x ∷ pieces) is = absurd is
defs_least (d ∷ defs) [] is = absurd is
defs_least (d ∷ defs) (piece ∷ pieces) is =
    rw (sum_by-cons def_size d defs, sum_by-cons (least false) piece pieces) (omega (arith, least_def d piece is.0, defs_least defs pieces is.1))

-- the parts behind no name take what they take together
parts_sum : (parts : List (List FileToken)) → sum_by (least false) parts ≡ parts_least false parts
parts_sum [] = refl
parts_sum (first ∷ others) = sum_by-cons (least false) first others

-- a file has two bytes for each part of its definitions
pub two_bytes_for_each : TwoBytesForEach
two_bytes_for_each bytes defs spelled =
    let tokens : List FileToken = bare spelled.tokens in
    let parts : List (List FileToken) = slice_split is_semicolon tokens in
    omega (
      arith,
      defs_least defs (pieces_of tokens) spelled.form.spelled,
      pieces_least parts,
      parts_sum parts,
      split_least tokens false,
      tokens_take 0 bytes spelled.tokens (length bytes) false spelled.form.scan (λ e. absurd (false≢true e)),
    )
