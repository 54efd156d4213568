-- The kinds of a lexicon and their patterns.
use Rattle.std.proofs.Common.{◌≡◌, ℕ, zero, suc, ◌+◌, ◌-◌, ◌<◌, ◌≤◌, ◌↔◌, List, [], ◌∷◌, ◌++◌, length, map, cond, nat_eq, nat_le, arith, length-append, All, Some, None, slice_get, slice_index_or, refl, sym, ◌∙◌, ap, append_assoc, subst}
use Rattle.std.specs.Str.{IsUtf8}
use Rattle.std.proofs.lemmas.Bool.{cond-true, cond-false, ne_eqb, le-leb, lt-leb}
use Rattle.std.proofs.lemmas.List.{map-append, length-map}
use Rattle.std.proofs.lemmas.List.Elements.{All-head, All-tail}
use Rattle.std.proofs.lemmas.Option.{same_Some}
use Rattle.spec_lexing.specs.declared.kind_def.KindDef.{KindDef}
use Rattle.spec_lexing.specs.Lexicon.{Lexicon}
use Rattle.spec_lexing.specs.Kinds.{LexKind, white, line_comment, block_comment, symbol, MatchesKind, numbered_from, lex_kinds}
use Rattle.spec_automata.specs.ByteExpressions.{ByteExpression, MatchesBytes}
use Rattle.spec_automata.specs.Encoding.{bytes_of_def, bytes_of_kind, IsSoundKind}
use Rattle.spec_automata.specs.States.{AreBytes}
use Rattle.spec_automata.proofs.EncodingLemmas.{kinds_match}
use Rattle.lbnf_regex.specs.Automata.{Machine, kind_at, MatchesInPlace, AreLeastMatching, RecognisesThese}
use Rattle.lbnf_regex.specs.Lexicons.{kind_of, lexicon_with, HasKindsInOrder, MatchesAtPlace, AcceptsLeast, IsAutomatonOf}
use Rattle.lbnf_regex.specs.declared.kind.Kind.TheVariants.{White, Comment, Symbol}
use Rattle.lbnf_regex.proofs.PlaceLemmas.{least_like}

map_twice : {A B C : Type 0} (f : B → C) (g : A → B) (xs : List A) → map f (map g xs) ≡ map (λ x. f (g x)) xs
map_twice f g [] = refl
map_twice f g (x ∷ xs) = ap (λ z. f (g x) ∷ z) (map_twice f g xs)

numbered_bytes : (n : ℕ) (kinds : List KindDef) → map bytes_of_kind (numbered_from n kinds) ≡ map bytes_of_def kinds
numbered_bytes n [] = refl
numbered_bytes n (kind ∷ kinds) = ap (λ (z : List ByteExpression). bytes_of_def kind ∷ z) (numbered_bytes (n + 1) kinds)

-- the expressions of a line comment, and of a block comment
abbrev Line : List ℕ → ByteExpression
Line opening = bytes_of_kind (line_comment opening)

abbrev Block : List ℕ × List ℕ → ByteExpression
Block words = bytes_of_kind (block_comment words.0 words.1)

-- white space, the comments and the kinds are all that is looked for
pub all_kinds : (lines : List (List ℕ)) (blocks : List (List ℕ × List ℕ)) (kinds : List KindDef) →
    (((bytes_of_kind white ∷ []) ++ map Line lines) ++ map Block blocks) ++ map bytes_of_def kinds
    ≡ map bytes_of_kind (lex_kinds (lexicon_with lines blocks kinds))
all_kinds lines blocks kinds =
    let ls : List LexKind = map line_comment lines in
    let bs : List LexKind = map (λ words. block_comment words.0 words.1) blocks in
    let ks : List LexKind = numbered_from 0 kinds in
    let cut : map bytes_of_kind (ls ++ (bs ++ ks)) ≡ map Line lines ++ (map Block blocks ++ map bytes_of_def kinds) =
    map-append bytes_of_kind ls (bs ++ ks)
    ∙ ap (λ (z : List ByteExpression). map bytes_of_kind ls ++ z) (map-append bytes_of_kind bs ks)
    ∙ ap (λ (z : List ByteExpression). z ++ (map bytes_of_kind bs ++ map bytes_of_kind ks))
    (map_twice bytes_of_kind line_comment lines)
    ∙ ap (λ (z : List ByteExpression). map Line lines ++ (z ++ map bytes_of_kind ks))
    (map_twice bytes_of_kind (λ (words : List ℕ × List ℕ). block_comment words.0 words.1) blocks)
    ∙ ap (λ (z : List ByteExpression). map Line lines ++ (map Block blocks ++ z)) (numbered_bytes 0 kinds) in
    ap (λ (z : List ByteExpression). bytes_of_kind white ∷ z)
    (append_assoc (map Line lines) (map Block blocks) (map bytes_of_def kinds) ∙ sym cut)

-- at the front of a text the expression of a kind matches what the kind matches
in_place : (kinds : List LexKind) → All IsSoundKind kinds → (bytes rest : List ℕ) → AreBytes bytes →
    IsUtf8 (bytes ++ rest) → (k : ℕ) →
    MatchesInPlace (map bytes_of_kind kinds) bytes k ↔ MatchesAtPlace kinds bytes k
in_place [] sound bytes rest are text k = (λ h. cc, λ h. cc)
in_place (kind ∷ kinds) sound bytes rest are text zero =
    let same = kinds_match kind (All-head IsSoundKind kind kinds sound) bytes rest are text in (
      λ h. (
        kind,
        refl,
        same.0
            (subst (λ (x : ByteExpression). MatchesBytes x bytes) (sym (same_Some (bytes_of_kind kind) h.0 h.1)) h.2),
      ),
      λ h. (
        bytes_of_kind kind,
        refl,
        same.1 (subst (λ (z : LexKind). MatchesKind z bytes) (sym (same_Some kind h.0 h.1)) h.2),
      ),
    )
in_place (kind ∷ kinds) sound bytes rest are text (suc k) =
    in_place kinds (All-tail IsSoundKind kind kinds sound) bytes rest are text k

-- the places that are accepted are those of the least kinds
pub accepts_least : (lexicon : Lexicon) (a : Machine) →
    AreLeastMatching (map bytes_of_kind (lex_kinds lexicon)) a.rows a.places → AcceptsLeast lexicon a
accepts_least lexicon a accepted sound bytes rest state some are text leads =
    least_like (MatchesInPlace (map bytes_of_kind (lex_kinds lexicon)) bytes) (MatchesAtPlace (lex_kinds lexicon) bytes)
    (slice_index_or a.places state None) (in_place (lex_kinds lexicon) sound bytes rest are text)
    (accepted bytes state some are leads)

-- a place among the comments, and one behind them
in_order_comment : (comments place : ℕ) → 0 < place → place ≤ comments → kind_at comments place ≡ Comment
in_order_comment comments place some within =
    cond-false (nat_eq place 0) White (cond (nat_le place comments) Comment (Symbol (place - comments - 1)))
    (ne_eqb place 0 (λ e. omega (arith, e, some)))
    ∙ cond-true (nat_le place comments) Comment (Symbol (place - comments - 1)) (le-leb place comments within)

in_order_past : (comments place : ℕ) → comments < place → kind_at comments place ≡ Symbol (place - comments - 1)
in_order_past comments place past =
    cond-false (nat_eq place 0) White (cond (nat_le place comments) Comment (Symbol (place - comments - 1)))
    (ne_eqb place 0 (λ e. omega (arith, e, past)))
    ∙ cond-false (nat_le place comments) Comment (Symbol (place - comments - 1)) (lt-leb place comments past)

-- the grammar's kinds are numbered in their order
symbols_in_order : (comments n : ℕ) (kinds : List KindDef) (place : ℕ) (kind : LexKind) →
    slice_get (numbered_from n kinds) place ≡ Some kind → kind_of kind ≡ Symbol (n + place)
symbols_in_order comments n [] place kind e = cc
symbols_in_order comments n (def ∷ kinds) zero kind e =
    let same : symbol n def ≡ kind = same_Some (symbol n def) kind e in
    let first : n ≡ n + 0 = omega arith in
    ap kind_of (sym same) ∙ ap Symbol first
symbols_in_order comments n (def ∷ kinds) (suc place) kind e =
    let up : n + 1 + place ≡ n + suc place = omega arith in
    symbols_in_order comments (n + 1) kinds place kind e ∙ ap Symbol up

-- behind as many comments as are left
blocks_in_order : (comments before : ℕ) (blocks : List (List ℕ × List ℕ)) (kinds : List KindDef) →
    comments ≡ before + length blocks → (place : ℕ) (kind : LexKind) →
    slice_get (map (λ words. block_comment words.0 words.1) blocks ++ numbered_from 0 kinds) place ≡ Some kind →
    kind_at comments (1 + before + place) ≡ kind_of kind
blocks_in_order comments before [] kinds all place kind e =
    let number : 1 + before + place - comments - 1 ≡ 0 + place = omega (arith, all) in
    in_order_past comments (1 + before + place) (omega (arith, all)) ∙ ap Symbol number ∙ sym (symbols_in_order comments 0 kinds place kind e)
blocks_in_order comments before (words ∷ blocks) kinds all zero kind e =
    let same : block_comment words.0 words.1 ≡ kind = same_Some (block_comment words.0 words.1) kind e in
    in_order_comment comments (1 + before + 0) (omega arith) (omega (arith, all)) ∙ ap kind_of same
blocks_in_order comments before (words ∷ blocks) kinds all (suc place) kind e =
    let up : 1 + before + suc place ≡ 1 + (before + 1) + place = omega arith in
    ap (kind_at comments) up
    ∙ blocks_in_order comments (before + 1) blocks kinds (omega (arith, all)) place kind e

lines_in_order : (comments before : ℕ) (lines : List (List ℕ)) (blocks : List (List ℕ × List ℕ))
    (kinds : List KindDef) → comments ≡ before + length lines + length blocks → (place : ℕ) (kind : LexKind) →
    slice_get
    (map line_comment lines ++ (map (λ words. block_comment words.0 words.1) blocks ++ numbered_from 0 kinds)) place
    ≡ Some kind → kind_at comments (1 + before + place) ≡ kind_of kind
lines_in_order comments before [] blocks kinds all place kind e =
    blocks_in_order comments before blocks kinds (omega (arith, all)) place kind e
lines_in_order comments before (opening ∷ lines) blocks kinds all zero kind e =
    let same : line_comment opening ≡ kind = same_Some (line_comment opening) kind e in
    in_order_comment comments (1 + before + 0) (omega arith) (omega (arith, all)) ∙ ap kind_of same
lines_in_order comments before (opening ∷ lines) blocks kinds all (suc place) kind e =
    let up : 1 + before + suc place ≡ 1 + (before + 1) + place = omega arith in
    ap (kind_at comments) up
    ∙ lines_in_order comments (before + 1) lines blocks kinds (omega (arith, all)) place kind e

-- the kinds of a lexicon are in order
pub kinds_in_order : (lines : List (List ℕ)) (blocks : List (List ℕ × List ℕ)) (kinds : List KindDef) (a : Machine) →
    a.comments ≡ length lines + length blocks → HasKindsInOrder (lexicon_with lines blocks kinds) a
kinds_in_order lines blocks kinds a count zero kind e = ap kind_of (same_Some white kind e)
kinds_in_order lines blocks kinds a count (suc place) kind e =
    let up : suc place ≡ 1 + 0 + place = omega arith in
    ap (kind_at a.comments) up
    ∙ lines_in_order a.comments 0 lines blocks kinds (omega (arith, count)) place kind e

-- what recognises the expressions of the kinds is the automaton of the lexicon
pub is_automaton_of : (lines : List (List ℕ)) (blocks : List (List ℕ × List ℕ)) (kinds : List KindDef) (a : Machine) →
    RecognisesThese (map bytes_of_kind (lex_kinds (lexicon_with lines blocks kinds))) (length lines + length blocks) a →
    IsAutomatonOf (lexicon_with lines blocks kinds) a
is_automaton_of lines blocks kinds a is = record {
  whole = is.whole;
  exact = is.exact;
  least = accepts_least (lexicon_with lines blocks kinds) a is.least;
  kinds = kinds_in_order lines blocks kinds a is.count;
}

-- so many kinds are looked for
pub kind_count : (lines : List (List ℕ)) (blocks : List (List ℕ × List ℕ)) (kinds : List KindDef) →
    length (lex_kinds (lexicon_with lines blocks kinds)) ≡ 1 + length lines + length blocks + length kinds
kind_count lines blocks kinds =
    omega (
      arith,
      length-append (map line_comment lines)
          (map (λ (words : List ℕ × List ℕ). block_comment words.0 words.1) blocks ++ numbered_from 0 kinds),
      length-append (map (λ (words : List ℕ × List ℕ). block_comment words.0 words.1) blocks) (numbered_from 0 kinds),
      length-map lines line_comment,
      length-map blocks (λ (words : List ℕ × List ℕ). block_comment words.0 words.1),
      numbered_count 0 kinds,
    )
  where
    numbered_count : (n : ℕ) (kinds : List KindDef) → length (numbered_from n kinds) ≡ length kinds
    numbered_count n [] = refl
    numbered_count n (kind ∷ kinds) = ap (λ (z : ℕ). suc z) (numbered_count (n + 1) kinds)
