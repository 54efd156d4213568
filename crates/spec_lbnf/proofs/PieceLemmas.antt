-- The pieces of a file's tokens, and that no definition has a semicolon among its tokens.
use Rattle.std.proofs.Common.{◌≡◌, ℕ, zero, suc, List, [], ◌∷◌, ◌++◌, length, filter, Bool, true, false, not, ◌||◌, ◌⊎◌, inl, inr, cond, codes, refl, sym, ap, subst, ◌∙◌}
use Rattle.std.specs.Prelude.{replicate}
use Rattle.std.specs.List.{flat_map, AllByRecursion, slice_split, onto_first, list_any}
use Rattle.std.proofs.lemmas.Bool.{false≢true}
use Rattle.std.proofs.lemmas.List.{append-nil}
use Rattle.spec_lexing.specs.declared.expression.Expr.{Expr}
use Rattle.spec_grammar.specs.declared.rule.Label.{Label}
use Rattle.spec_grammar.specs.declared.rule.Label.TheVariants.{Named, Wild, Nil, Cons, One}
use Rattle.spec_lbnf.specs.declared.definition.CatName.{CatName}
use Rattle.spec_lbnf.specs.declared.definition.RawRule.{RawRule}
use Rattle.spec_lbnf.specs.declared.definition.Def.{Def}
use Rattle.spec_lbnf.specs.declared.definition.Def.TheVariants.{Rule, Internal, Terminator, Separator, Coercions, Entry, Token, LineComment, BlockComment}
use Rattle.spec_lbnf.specs.declared.token.Sign.{Sign}
use Rattle.spec_lbnf.specs.declared.token.Sign.TheVariants.{Semicolon, Minus, OpenBracket, CloseBracket}
use Rattle.spec_lbnf.specs.declared.token.FileToken.{FileToken}
use Rattle.spec_lbnf.specs.declared.token.FileToken.TheVariants.{Identifier, Number, Text, Character}
use Rattle.spec_lbnf.specs.declared.token.FileToken.TheVariants.{Sign as SignToken}
use Rattle.spec_lbnf.specs.Words.{is_empty}
use Rattle.spec_lbnf.specs.TokenExpressions.{Suffix, star_sign, plus_sign, question_sign, Alternatives, one_side, or_else, Differences, one_part, less, Sequence, one_factor, and_then, Factor, bare_atom, with_sign, Atom, character_atom, set_atom, text_atom, class_atom, empty_atom, bracket_atom, suffix_sign, alternatives_tokens, differences_tokens, sequence_tokens, factor_tokens, atom_tokens}
use Rattle.spec_lbnf.specs.GrammarFile.{label_tokens, category_tokens, WrittenItem, category, string, written_tokens, entry_tokens, nonempty_tokens, position_tokens, keyword, SpellsRule, SpellsToken, SpellsDef, is_semicolon, pieces_of, AreSpelledBy}
use Rattle.spec_lbnf.specs.Faults.{last_piece}

-- no token is a semicolon
abbrev pub AreWithin : List FileToken → Type 0
AreWithin tokens = AllByRecursion (λ token. is_semicolon token ≡ false) tokens

-- two runs without a semicolon
pub within_both : (xs ys : List FileToken) → AreWithin xs → AreWithin ys → AreWithin (xs ++ ys)
within_both [] ys first second = second
within_both (x ∷ xs) ys first second = (first.0, within_both xs ys first.1 second)

-- a front of a run without a semicolon
pub within_front : (xs ys : List FileToken) → AreWithin (xs ++ ys) → AreWithin xs
within_front [] ys within = tt
within_front (x ∷ xs) ys within = (within.0, within_front xs ys within.1)

-- the token is a semicolon or a minus sign
abbrev pub breaks : FileToken → Bool
breaks (SignToken Semicolon) = true
breaks (SignToken Minus) = true
breaks other = false

-- no token is a semicolon or a minus sign
abbrev pub ArePlain : List FileToken → Type 0
ArePlain tokens = AllByRecursion (λ token. breaks token ≡ false) tokens

-- two runs of plain tokens
plain_both : (xs ys : List FileToken) → ArePlain xs → ArePlain ys → ArePlain (xs ++ ys)
plain_both [] ys first second = second
plain_both (x ∷ xs) ys first second = (first.0, plain_both xs ys first.1 second)

-- so many brackets are plain
plain_brackets : (count : ℕ) (sign : Sign) → breaks (SignToken sign) ≡ false → ArePlain (replicate count (SignToken sign))
plain_brackets zero sign h = tt
plain_brackets (suc count) sign h = (h, plain_brackets count sign h)

-- a category is plain
plain_category : (cat : CatName) → ArePlain (category_tokens cat)
plain_category cat =
    plain_both (replicate cat.depth (SignToken OpenBracket)) (Identifier cat.name ∷ replicate cat.depth (SignToken CloseBracket))
    (plain_brackets cat.depth OpenBracket refl) (refl, plain_brackets cat.depth CloseBracket refl)

-- a label is plain
plain_label : (label : Label) → ArePlain (label_tokens label)
plain_label (Named name) = (refl, tt)
plain_label Wild = (refl, tt)
plain_label Nil = (refl, (refl, tt))
plain_label Cons = (refl, (refl, (refl, tt)))
plain_label One = (refl, (refl, (refl, (refl, (refl, tt)))))

-- written items are plain
plain_items : (written : List WrittenItem) → ArePlain (flat_map written_tokens written)
plain_items [] = tt
plain_items (category cat ∷ written) = plain_both (category_tokens cat) (flat_map written_tokens written) (plain_category cat) (plain_items written)
plain_items (string text ∷ written) = (refl, plain_items written)

-- categories with commas between them are plain
plain_entries : (cats : List CatName) → ArePlain (entry_tokens cats)
plain_entries [] = tt
plain_entries (cat ∷ []) = plain_category cat
plain_entries (cat ∷ next ∷ cats) =
    plain_both (category_tokens cat) _ (plain_category cat) (refl, plain_entries (next ∷ cats))

-- a macro behind its first word is plain
plain_macro : (nonempty : Bool) (cat : CatName) (word : List ℕ)
    → ArePlain (nonempty_tokens nonempty ++ (category_tokens cat ++ (Text word ∷ [])))
plain_macro true cat word = (refl, plain_both (category_tokens cat) (Text word ∷ []) (plain_category cat) (refl, tt))
plain_macro false cat word = plain_both (category_tokens cat) (Text word ∷ []) (plain_category cat) (refl, tt)

-- a rule is plain
plain_rule : (rule : RawRule) (tokens : List FileToken) → SpellsRule rule tokens → ArePlain tokens
plain_rule rule tokens is =
    let items : ArePlain is.side = subst ArePlain (sym is.items.whole) (plain_items is.items.written) in
    subst ArePlain (sym is.whole)
    (plain_both (label_tokens rule.label) _ (plain_label rule.label) (refl, plain_both (category_tokens rule.cat) _ (plain_category rule.cat) (refl, items)))

-- a definition of another form than a token is plain
pub plain_def : (def : Def) (tokens : List FileToken) → SpellsDef def tokens
    → ArePlain tokens ⊎ ((name : List ℕ) × (expr : Expr) × (def ≡ Token name expr) × SpellsToken name expr tokens)
plain_def (Rule rule) tokens is = inl (plain_rule rule tokens is)
plain_def (Internal rule) tokens is = inl (subst ArePlain (sym is.2) (refl, plain_rule rule is.0 is.1))
plain_def (Terminator nonempty cat word) tokens is = inl (subst ArePlain (sym is.1) (refl, plain_macro nonempty cat word))
plain_def (Separator nonempty cat word) tokens is = inl (subst ArePlain (sym is.1) (refl, plain_macro nonempty cat word))
plain_def (Coercions name levels) tokens is = inl (subst ArePlain (sym is.1) (refl, (refl, (refl, tt))))
plain_def (Entry cats) tokens is = inl (subst ArePlain (sym is.2) (refl, plain_entries cats))
plain_def (Token name expr) tokens is = inr (name, expr, refl, is)
plain_def (LineComment opening) tokens is = inl (subst ArePlain (sym is.1) (refl, (refl, tt)))
plain_def (BlockComment opening closing) tokens is = inl (subst ArePlain (sym is.2) (refl, (refl, (refl, tt))))

-- a plain token is no semicolon
plain_token : (token : FileToken) → breaks token ≡ false → is_semicolon token ≡ false
plain_token (SignToken Semicolon) plain = absurd (false≢true (sym plain))
plain_token other plain = refl

-- plain tokens have no semicolon
within_plain : (tokens : List FileToken) → ArePlain tokens → AreWithin tokens
within_plain [] plain = tt
within_plain (token ∷ tokens) plain = (plain_token token plain.0, within_plain tokens plain.1)

-- a sign behind a factor is no semicolon
within_suffix : (suffix : Suffix) → is_semicolon (SignToken (suffix_sign suffix)) ≡ false
within_suffix star_sign = refl
within_suffix plus_sign = refl
within_suffix question_sign = refl

mutual
  -- alternatives have no semicolon
  within_alternatives : (sides : Alternatives) → AreWithin (alternatives_tokens sides)
  within_alternatives (one_side side) = within_differences side
  within_alternatives (or_else sides side) =
      within_both (alternatives_tokens sides) _ (within_alternatives sides) (refl, within_differences side)

  -- nor have differences
  within_differences : (side : Differences) → AreWithin (differences_tokens side)
  within_differences (one_part part) = within_sequence part
  within_differences (less left part) =
      within_both (differences_tokens left) _ (within_differences left) (refl, within_sequence part)

  -- nor has a sequence
  within_sequence : (part : Sequence) → AreWithin (sequence_tokens part)
  within_sequence (one_factor factor) = within_factor factor
  within_sequence (and_then factors factor) =
      within_both (sequence_tokens factors) (factor_tokens factor) (within_sequence factors) (within_factor factor)

  -- nor has a factor
  within_factor : (factor : Factor) → AreWithin (factor_tokens factor)
  within_factor (bare_atom atom) = within_atom atom
  within_factor (with_sign factor suffix) =
      within_both (factor_tokens factor) _ (within_factor factor) (within_suffix suffix, tt)

  -- nor has an atom
  within_atom : (atom : Atom) → AreWithin (atom_tokens atom)
  within_atom (character_atom scalar) = (refl, tt)
  within_atom (set_atom name) = (refl, (refl, (refl, tt)))
  within_atom (text_atom name) = (refl, (refl, (refl, tt)))
  within_atom (class_atom k) = (refl, tt)
  within_atom empty_atom = (refl, tt)
  within_atom (bracket_atom sides) =
      (refl, within_both (alternatives_tokens sides) _ (within_alternatives sides) (refl, tt))

-- a kind of token has no semicolon
within_token : (name : List ℕ) (expr : Expr) (tokens : List FileToken) → SpellsToken name expr tokens → AreWithin tokens
within_token name expr tokens is =
    subst AreWithin (sym is.whole) (by is.position)
  where
    own : AreWithin is.own
    own = subst AreWithin (sym is.spelled.whole) (within_alternatives is.spelled.written)

    by : (position : Bool) → AreWithin (position_tokens position ++ (keyword (codes "token") ∷ Identifier name ∷ is.own))
    by true = (refl, (refl, (refl, own)))
    by false = (refl, (refl, own))

-- a definition has no semicolon
pub within_def : (def : Def) (tokens : List FileToken) → SpellsDef def tokens → AreWithin tokens
within_def def tokens is = elim (plain_def def tokens is) [
  | inl plain ↦ within_plain tokens plain
  | inr kind ↦ within_token kind.0 kind.1 tokens kind.3
]

-- tokens are cut into a first piece and others
abbrev pub IsCut : List FileToken → Type 0
IsCut tokens = (first : List FileToken) × (others : List (List FileToken)) × (slice_split is_semicolon tokens ≡ first ∷ others)

-- all tokens are
pub cut_of : (tokens : List FileToken) → IsCut tokens
cut_of [] = ([], [], refl)
cut_of (token ∷ tokens) = by (is_semicolon token) (cut_of tokens)
  where
    by : (b : Bool) → IsCut tokens
        → (first : List FileToken) × (others : List (List FileToken))
        × (cond b ([] ∷ slice_split is_semicolon tokens) (onto_first token (slice_split is_semicolon tokens)) ≡ first ∷ others)
    by true is = ([], slice_split is_semicolon tokens, refl)
    by false is = (token ∷ is.0, is.1, ap (onto_first token) is.2)

-- with tokens without a semicolon in front the first piece begins with them
cut_behind : (front more first : List FileToken) (others : List (List FileToken)) → AreWithin front
    → slice_split is_semicolon more ≡ first ∷ others → slice_split is_semicolon (front ++ more) ≡ (front ++ first) ∷ others
cut_behind [] more first others within e = e
cut_behind (token ∷ front) more first others within e =
    rw within.0 (ap (onto_first token) (cut_behind front more first others within.1 e))

-- the pieces of tokens that begin without a semicolon: the first begins with these
pub pieces_behind : (token : FileToken) (front more : List FileToken) → AreWithin (token ∷ front)
    → (first : List FileToken) × (others : List (List FileToken))
    × (pieces_of ((token ∷ front) ++ more) ≡ ((token ∷ front) ++ first) ∷ others)
pieces_behind token front more within =
    let cut = cut_of more in (
      cut.0,
      filter (λ piece. not (is_empty piece)) cut.1,
      ap (filter (λ piece. not (is_empty piece))) (cut_behind (token ∷ front) more cut.0 cut.1 within cut.2),
    )

-- tokens without a semicolon are one piece
pub one_piece : (token : FileToken) (front : List FileToken) → AreWithin (token ∷ front)
    → pieces_of (token ∷ front) ≡ (token ∷ front) ∷ []
one_piece token front within =
    ap pieces_of (sym (append-nil (token ∷ front)))
    ∙ ap (filter (λ piece. not (is_empty piece))) (cut_behind (token ∷ front) [] [] [] within refl)
    ∙ ap (λ piece. piece ∷ []) (append-nil (token ∷ front))

-- a semicolon begins no piece
pub pieces_semicolon : (token : FileToken) (more : List FileToken) → is_semicolon token ≡ true
    → pieces_of (token ∷ more) ≡ pieces_of more
pieces_semicolon token more h = rw h refl

-- a semicolon ends a piece
pub pieces_ended : (token : FileToken) (front : List FileToken) (semicolon : FileToken) (more : List FileToken) → AreWithin (token ∷ front)
    → is_semicolon semicolon ≡ true
    → pieces_of ((token ∷ front) ++ (semicolon ∷ more)) ≡ (token ∷ front) ∷ pieces_of more
pieces_ended token front semicolon more within h =
    let at : slice_split is_semicolon (semicolon ∷ more) ≡ [] ∷ slice_split is_semicolon more = rw h refl in
    ap (filter (λ piece. not (is_empty piece)))
    (cut_behind (token ∷ front) (semicolon ∷ more) [] (slice_split is_semicolon more) within at)
    ∙ ap (λ piece. piece ∷ pieces_of more) (append-nil (token ∷ front))

-- there is a semicolon behind others
any_behind : (before behind : List FileToken) → list_any is_semicolon behind ≡ true → list_any is_semicolon (before ++ behind) ≡ true
any_behind [] behind h = h
any_behind (token ∷ before) behind h = by (is_semicolon token) (any_behind before behind h)
  where
    by : (b : Bool) → list_any is_semicolon (before ++ behind) ≡ true → (b || list_any is_semicolon (before ++ behind)) ≡ true
    by true e = refl
    by false e = e

-- there is none among tokens without one
any_within : (tokens : List FileToken) → AreWithin tokens → list_any is_semicolon tokens ≡ false
any_within [] within = refl
any_within (token ∷ tokens) within = rw within.0 (any_within tokens within.1)

-- the last piece of tokens without a semicolon is the whole
pub last_within : (tokens : List FileToken) → AreWithin tokens → last_piece tokens ≡ tokens
last_within [] within = refl
last_within (token ∷ tokens) within = rw (any_within tokens within.1, within.0) refl

-- where there is none by the test, there is none
none_within : (tokens : List FileToken) → list_any is_semicolon tokens ≡ false → AreWithin tokens
none_within [] e = tt
none_within (token ∷ tokens) e = by (is_semicolon token) refl e (none_within tokens)
  where
    by : (b : Bool) → is_semicolon token ≡ b → (b || list_any is_semicolon tokens) ≡ false
        → (list_any is_semicolon tokens ≡ false → AreWithin tokens) → AreWithin (token ∷ tokens)
    by true is e behind = absurd (false≢true (sym e))
    by false is e behind = (is, behind e)

-- the last piece behind a semicolon
last_behind_one : (token : FileToken) (tokens : List FileToken) → is_semicolon token ≡ true → last_piece (token ∷ tokens) ≡ last_piece tokens
last_behind_one token tokens h = by (list_any is_semicolon tokens) refl
  where
    by : (b : Bool) → list_any is_semicolon tokens ≡ b
        → cond b (last_piece tokens) (cond (is_semicolon token) tokens (token ∷ tokens)) ≡ last_piece tokens
    by true e = refl
    by false e = rw h (sym (last_within tokens (none_within tokens e)))

-- what stands before a semicolon does not change the last piece
pub last_behind : (before : List FileToken) (token : FileToken) (tokens : List FileToken) → is_semicolon token ≡ true
    → last_piece (before ++ token ∷ tokens) ≡ last_piece tokens
last_behind [] token tokens h = last_behind_one token tokens h
last_behind (x ∷ before) token tokens h =
    let here : list_any is_semicolon (token ∷ tokens) ≡ true = rw h refl in
    rw (any_behind before (token ∷ tokens) here) (last_behind before token tokens h)

-- a token that is a semicolon by the test is one
pub semicolon_is : (token : FileToken) → is_semicolon token ≡ true → token ≡ SignToken Semicolon
semicolon_is (SignToken Semicolon) h = refl
semicolon_is other h = absurd (false≢true h)

-- definitions of two runs of pieces
pub spelled_both : (a b : List Def) (p q : List (List FileToken)) → AreSpelledBy a p → AreSpelledBy b q → AreSpelledBy (a ++ b) (p ++ q)
spelled_both [] b [] q first second = second
spelled_both [] b (x ∷ p) q first second = absurd first
spelled_both (d ∷ a) b [] q first second = absurd first
spelled_both (d ∷ a) b (x ∷ p) q first second = (first.0, spelled_both a b p q first.1 second)

-- a piece among the pieces of definitions spells one of them
pub spelled_within : (defs : List Def) (p : List (List FileToken)) (piece : List FileToken) (q : List (List FileToken))
    → AreSpelledBy defs (p ++ piece ∷ q) → (def : Def) × SpellsDef def piece
spelled_within [] [] piece q is = absurd is
spelled_within [] (x ∷ p) piece q is = absurd is
spelled_within (d ∷ defs) [] piece q is = (d, is.0)
spelled_within (d ∷ defs) (x ∷ p) piece q is = spelled_within defs p piece q is.1

-- there are as many definitions as pieces
pub spelled_count : (defs : List Def) (p : List (List FileToken)) → AreSpelledBy defs p → length defs ≡ length p
spelled_count [] [] is = refl
spelled_count [] (x ∷ p) is = absurd is
spelled_count (d ∷ defs) [] is = absurd is
spelled_count (d ∷ defs) (x ∷ p) is = ap suc (spelled_count defs p is.1)
