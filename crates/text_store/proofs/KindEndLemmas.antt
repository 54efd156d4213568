-- A longest match in a UTF-8 text ends where the text goes on as UTF-8.
use Rattle.std.proofs.Common.{◌≡◌, ℕ, ◌+◌, ◌<◌, ◌≤◌, List, [], ◌∷◌, ◌++◌, length, get_or, map, Bool, true, false, All, nat_eq, refl, sym, ◌∙◌, ap, subst, arith, append_assoc, length-append}
use Rattle.std.specs.Str.{IsUtf8, IsCharBoundary}
use Rattle.std.proofs.lemmas.Bool.{eqb-true}
use Rattle.std.proofs.lemmas.Bool.Decides.{nat_tests}
use Rattle.std.proofs.lemmas.List.{drop_at, append-nil}
use Rattle.std.proofs.lemmas.List.Elements.{All-cons, All-append, All-map, All-push, All-nil, All-head, All-tail}
use Rattle.std.proofs.lemmas.Str.{encode_ascii, IsUtf8-nil, IsUtf8-past_char, IsUtf8-drop, IsCharBoundary-before_ascii, IsCharBoundary-start}
use Rattle.spec_lexing.specs.declared.kind_def.KindDef.{KindDef}
use Rattle.spec_lexing.specs.declared.kind_def.KindDef.TheVariants.{Word, Token as TokenDef}
use Rattle.spec_lexing.specs.Classes.{IsSoundDef}
use Rattle.spec_lexing.specs.Expressions.{expression_of}
use Rattle.spec_lexing.specs.Lexicon.{Lexicon}
use Rattle.spec_lexing.specs.Kinds.{LexKind, white, line_comment, block_comment, symbol, MatchesDef, MatchesKind, numbered_from, lex_kinds}
use Rattle.spec_automata.specs.Encoding.{IsSoundKind}
use Rattle.spec_automata.proofs.EncodingLemmas.{reads, spells}
use Rattle.spec_automata.proofs.ScalarLemmas.{behind_text}
use Rattle.text_store.specs.TextStore.{IsSoundForTexts}

-- the kind is sound, and the words of a comment are UTF-8
abbrev pub IsCutKind : LexKind → Type 0
IsCutKind white = Unit {0}
IsCutKind (line_comment opening) = IsUtf8 opening
IsCutKind (block_comment opening closing) = IsUtf8 opening × IsUtf8 closing
IsCutKind (symbol number kind) = IsSoundDef kind

-- such a kind is sound
pub cut_is_sound : (kind : LexKind) → IsCutKind kind → IsSoundKind kind
cut_is_sound white cut = tt
cut_is_sound (line_comment opening) cut = tt
cut_is_sound (block_comment opening closing) cut = tt
cut_is_sound (symbol number kind) cut = cut

-- kinds stay sound as they are numbered
numbered_cut : (number : ℕ) (kinds : List KindDef) → All IsSoundDef kinds → All IsCutKind (numbered_from number kinds)
numbered_cut number [] all = All-nil IsCutKind
numbered_cut number (kind ∷ kinds) all =
    All-cons IsCutKind (symbol number kind) (numbered_from (number + 1) kinds) (All-head IsSoundDef kind kinds all)
    (numbered_cut (number + 1) kinds (All-tail IsSoundDef kind kinds all))

-- all that is looked for under a sound lexicon is such
pub all_cut : (lexicon : Lexicon) → IsSoundForTexts lexicon → All IsCutKind (lex_kinds lexicon)
all_cut lexicon sound =
    let block_of : List ℕ × List ℕ → LexKind = λ words. block_comment words.0 words.1 in
    let numbered : List LexKind = numbered_from 0 lexicon.kinds in
    All-cons IsCutKind white
    (map line_comment lexicon.line_comments ++ (map block_of lexicon.block_comments ++ numbered)) tt
    (All-append IsCutKind (map line_comment lexicon.line_comments)
    (map block_of lexicon.block_comments ++ numbered)
    (All-map IsCutKind line_comment lexicon.line_comments sound.lines)
    (All-append IsCutKind (map block_of lexicon.block_comments) numbered
    (All-map IsCutKind block_of lexicon.block_comments sound.blocks)
    (numbered_cut 0 lexicon.kinds sound.kinds)))

-- the byte behind a front
byte_at : (front : List ℕ) (byte : ℕ) (behind : List ℕ) → get_or (front ++ byte ∷ behind) (length front) 0 ≡ byte
byte_at [] byte behind = refl
byte_at (first ∷ front) byte behind = byte_at front byte behind

-- what lies behind a place where a text may be cut is UTF-8
behind_cut : (front rest : List ℕ) → IsUtf8 (front ++ rest) → IsCharBoundary (front ++ rest) (length front) → IsUtf8 rest
behind_cut front rest text cut =
    subst IsUtf8 (drop_at front rest (length front) refl) (IsUtf8-drop (front ++ rest) (length front) text cut)

-- behind a white byte
white_ends : (bytes rest : List ℕ) → IsUtf8 (bytes ++ rest) → MatchesKind white bytes → IsUtf8 rest
white_ends bytes rest text (byte, is, of_white) =
    let small : byte < 128 = grind (arith, nat_tests) in
    IsUtf8-past_char (bytes ++ rest) rest byte text
    (ap (λ (q : List ℕ). q ++ rest) (is ∙ sym (encode_ascii byte small)))

-- the line comment does not go on by the first byte of the rest
abbrev DoesNotGoOn : LexKind → List ℕ → List ℕ → Type 0
DoesNotGoOn kind bytes rest =
    (byte : ℕ) (behind : List ℕ) → rest ≡ byte ∷ behind → MatchesKind kind (bytes ++ byte ∷ []) → ⊥

-- behind a line comment that goes to the end of its line
line_goes_on : (opening bytes : List ℕ) (byte : ℕ) → MatchesKind (line_comment opening) bytes →
    nat_eq byte 10 ≡ false → MatchesKind (line_comment opening) (bytes ++ byte ∷ [])
line_goes_on opening bytes byte (line, is, on_line) other = (
  line ++ byte ∷ [],
  ap (λ (q : List ℕ). q ++ byte ∷ []) is ∙ append_assoc opening line (byte ∷ []),
  All-push (λ b. nat_eq b 10 ≡ false) line byte on_line other,
)

line_ends : (opening bytes rest : List ℕ) → IsUtf8 (bytes ++ rest) → MatchesKind (line_comment opening) bytes →
    DoesNotGoOn (line_comment opening) bytes rest → IsUtf8 rest
line_ends opening bytes [] text m stops = IsUtf8-nil
line_ends opening bytes (byte ∷ behind) text m stops = by_byte (nat_eq byte 10) refl
  where
    by_byte : (ended : Bool) → nat_eq byte 10 ≡ ended → IsUtf8 (byte ∷ behind)
    by_byte false e = absurd (stops byte behind refl (line_goes_on opening bytes byte m e))
    by_byte true e =
        let is : byte ≡ 10 = eqb-true byte 10 e in
        let small : get_or (bytes ++ byte ∷ behind) (length bytes) 0 < 128 =
        omega (arith, byte_at bytes byte behind, is) in
        let inside : length bytes < length (bytes ++ byte ∷ behind) =
        omega (arith, length-append bytes (byte ∷ behind)) in
        behind_cut bytes (byte ∷ behind) text
        (IsCharBoundary-before_ascii (bytes ++ byte ∷ behind) (length bytes) inside small)

-- behind a closing text that is not empty
closing_ends : (front : List ℕ) (byte : ℕ) (closing rest : List ℕ) → IsUtf8 (byte ∷ closing) →
    IsUtf8 (front ++ ((byte ∷ closing) ++ rest)) → IsUtf8 rest
closing_ends front byte closing rest utf8 text =
    let whole : List ℕ = front ++ byte ∷ (closing ++ rest) in
    let start = IsCharBoundary-start (byte ∷ closing) utf8 in
    let here : get_or whole (length front) 0 ≡ byte = byte_at front byte (closing ++ rest) in
    let inside : length front < length whole = omega (arith, length-append front (byte ∷ (closing ++ rest))) in
    let cut : IsCharBoundary whole (length front) = (
      omega (arith, inside),
      λ within wide. let lead : 192 ≤ byte = start.1 (omega arith) (omega (arith, here, wide)) in omega (arith, here, lead),
    ) in
    behind_text (byte ∷ closing) rest utf8 (behind_cut front (byte ∷ (closing ++ rest)) text cut)

-- behind a block comment
block_ends : (opening closing bytes rest : List ℕ) → IsUtf8 opening → IsUtf8 closing → IsUtf8 (bytes ++ rest) →
    MatchesKind (block_comment opening closing) bytes → IsUtf8 rest
block_ends opening [] bytes rest first last text (block, is, ends) =
    let none : block ≡ [] = ends.first [] block refl in
    let all : bytes ≡ opening = is ∙ ap (λ (q : List ℕ). opening ++ q) none ∙ append-nil opening in
    behind_text opening rest first (subst IsUtf8 (ap (λ (q : List ℕ). q ++ rest) all) text)
block_ends opening (byte ∷ closing) bytes rest first last text (block, is, ends) =
    let inside : List ℕ = ends.inside in
    let all : bytes ++ rest ≡ (opening ++ inside) ++ ((byte ∷ closing) ++ rest) =
    ap (λ (q : List ℕ). q ++ rest) (is ∙ ap (λ (q : List ℕ). opening ++ q) ends.whole)
    ∙ ap (λ (q : List ℕ). q ++ rest) (sym (append_assoc opening inside (byte ∷ closing)))
    ∙ append_assoc (opening ++ inside) (byte ∷ closing) rest in
    closing_ends (opening ++ inside) byte closing rest last (subst IsUtf8 all text)

-- behind a kind of the grammar
def_ends : (kind : KindDef) → IsSoundDef kind → (bytes rest : List ℕ) → IsUtf8 (bytes ++ rest) →
    MatchesDef kind bytes → IsUtf8 rest
def_ends (Word word) sound bytes rest text m =
    behind_text word rest sound (subst IsUtf8 (ap (λ (q : List ℕ). q ++ rest) m) text)
def_ends (TokenDef name expr) sound bytes rest text m =
    (reads (expression_of expr) sound bytes rest (spells (expression_of expr) sound bytes m) text).0

-- behind a match of a kind that does not go on by the next byte
pub kind_ends : (kind : LexKind) → IsCutKind kind → (bytes rest : List ℕ) → IsUtf8 (bytes ++ rest) →
    MatchesKind kind bytes →
    ((byte : ℕ) (behind : List ℕ) → rest ≡ byte ∷ behind → MatchesKind kind (bytes ++ byte ∷ []) → ⊥) →
    IsUtf8 rest
kind_ends white cut bytes rest text m stops = white_ends bytes rest text m
kind_ends (line_comment opening) cut bytes rest text m stops = line_ends opening bytes rest text m stops
kind_ends (block_comment opening closing) cut bytes rest text m stops =
    block_ends opening closing bytes rest cut.0 cut.1 text m
kind_ends (symbol number kind) cut bytes rest text m stops = def_ends kind cut bytes rest text m
