-- Where tokens spell definitions, each difference has a minus sign; and what a file spells is proper.
use Rattle.std.proofs.Common.{◌≡◌, ℕ, suc, ◌+◌, List, [], ◌∷◌, ◌++◌, length, map, filter, not, All, Bool, true, false, cond, codes, inl, inr, refl, sym, ap, subst, ◌∙◌, arith, length-append}
use Rattle.std.specs.List.{flat_map, slice_split, onto_first, sum_by, AllByRecursion}
use Rattle.std.proofs.lemmas.Bool.{false≢true}
use Rattle.std.proofs.lemmas.List.Elements.{All-from_recursion, recursion_from_All}
use Rattle.std.proofs.lemmas.List.Sums.{sum_by-cons}
use Rattle.spec_lexing.specs.Expressions.{expression_of}
use Rattle.spec_lbnf.specs.declared.definition.Def.{Def}
use Rattle.spec_lbnf.specs.declared.definition.Def.TheVariants.{Token, LineComment, BlockComment}
use Rattle.spec_lbnf.specs.declared.token.Sign.TheVariants.{Minus}
use Rattle.spec_lbnf.specs.declared.token.FileToken.{FileToken}
use Rattle.spec_lbnf.specs.declared.token.FileToken.TheVariants.{Identifier}
use Rattle.spec_lbnf.specs.declared.token.FileToken.TheVariants.{Sign as SignToken}
use Rattle.spec_lbnf.specs.declared.token.PlacedToken.{PlacedToken}
use Rattle.spec_lbnf.specs.Words.{is_empty}
use Rattle.spec_lbnf.specs.TokenExpressions.{alternatives_tokens}
use Rattle.spec_lbnf.specs.GrammarFile.{position_tokens, keyword, SpellsDef, is_semicolon, pieces_of, AreSpelledBy, SpellsDefs}
use Rattle.spec_lbnf.specs.Differences.{Difference, differences_of_def, differences_of, IsGood, is_minus, minus_signs, IsProper}
use Rattle.spec_lbnf.specs.Faults.{bare}
use Rattle.spec_lbnf.specs.Laws.{ProperDefs}
use Rattle.spec_lbnf.proofs.PieceLemmas.{breaks, ArePlain, plain_def}
use Rattle.spec_lbnf.proofs.Utf8Lemmas.{tokens_utf8}
use Rattle.spec_lbnf.proofs.ExpressionLemmas.{all_front, all_rest, sound_of, IsUtf8Expr, differences_of_expr, AreUtf8, minus_among, minus_both, utf8_expression, has_expression}

-- a plain token is no minus sign
no_minus : (token : FileToken) → breaks token ≡ false → is_minus token ≡ false
no_minus (SignToken Minus) plain = absurd (false≢true (sym plain))
no_minus other plain = refl

-- there is none among plain tokens
plain_minus : (tokens : List FileToken) → ArePlain tokens → minus_among tokens ≡ 0
plain_minus [] plain = refl
plain_minus (token ∷ tokens) plain = rw (no_minus token plain.0) (plain_minus tokens plain.1)

-- a definition has a difference for each minus sign
def_minus : (def : Def) (tokens : List FileToken) → SpellsDef def tokens → length (differences_of_def def) ≡ minus_among tokens
def_minus (Token name expr) tokens is =
    ap (λ e. length (differences_of_expr e)) is.spelled.is_expr
    ∙ has_expression is.spelled.written
    ∙ ap minus_among (sym is.spelled.whole)
    ∙ by is.position
    ∙ ap minus_among (sym is.whole)
  where
    by : (position : Bool)
        → minus_among is.own ≡ minus_among (position_tokens position ++ (keyword (codes "token") ∷ Identifier name ∷ is.own))
    by true = refl
    by false = refl
def_minus def tokens is = elim (plain_def def tokens is) [
  | inl plain ↦ sym (plain_minus tokens plain)
  | inr kind ↦ absurd (cc kind.2)
]

-- a semicolon is no minus sign
semicolon_minus : (token : FileToken) → is_semicolon token ≡ true → is_minus token ≡ false
semicolon_minus (SignToken Minus) semicolon = absurd (false≢true semicolon)
semicolon_minus other semicolon = refl

-- the parts have the minus signs of the tokens
parts_minus : (tokens : List FileToken) → sum_by minus_among (slice_split is_semicolon tokens) ≡ minus_among tokens
parts_minus [] = refl
parts_minus (token ∷ tokens) = by (is_semicolon token) refl (slice_split is_semicolon tokens) (parts_minus tokens)
  where
    by : (b : Bool) → is_semicolon token ≡ b → (parts : List (List FileToken)) → sum_by minus_among parts ≡ minus_among tokens
        → sum_by minus_among (cond b ([] ∷ parts) (onto_first token parts)) ≡ minus_among (token ∷ tokens)
    by true is parts e = rw (semicolon_minus token is) (omega (arith, sum_by-cons minus_among [] parts, e))
    by false is [] e = omega (arith, e, sum_by-cons minus_among (token ∷ []) [], minus_both (token ∷ []) tokens)
    by false is (first ∷ others) e =
        omega (
          arith,
          e,
          sum_by-cons minus_among first others,
          sum_by-cons minus_among (token ∷ first) others,
          minus_both (token ∷ []) first,
          minus_both (token ∷ []) tokens,
        )

-- and so have the pieces
pieces_minus : (parts : List (List FileToken))
    → sum_by minus_among (filter (λ piece. not (is_empty piece)) parts) ≡ sum_by minus_among parts
pieces_minus [] = refl
pieces_minus ([] ∷ parts) = omega (arith, pieces_minus parts, sum_by-cons minus_among [] parts)
pieces_minus ((token ∷ piece) ∷ parts) =
    sum_by-cons minus_among (token ∷ piece) (filter (λ part. not (is_empty part)) parts)
    ∙ ap (λ n. minus_among (token ∷ piece) + n) (pieces_minus parts)
    ∙ sym (sum_by-cons minus_among (token ∷ piece) parts)

-- definitions have a difference for each minus sign of their pieces
defs_minus : (defs : List Def) (pieces : List (List FileToken)) → AreSpelledBy defs pieces
    → length (differences_of defs) ≡ sum_by minus_among pieces
defs_minus [] [] is = refl
defs_minus [] (x ∷ pieces) is = absurd is
defs_minus (d ∷ defs) [] is = absurd is
defs_minus (d ∷ defs) (piece ∷ pieces) is =
    omega (
      arith,
      length-append (differences_of_def d) (differences_of defs),
      def_minus d piece is.0,
      defs_minus defs pieces is.1,
      sum_by-cons minus_among piece pieces,
    )

-- with or without their offsets tokens have the same minus signs
bare_minus : (tokens : List PlacedToken) → length (minus_signs tokens) ≡ minus_among (bare tokens)
bare_minus [] = refl
bare_minus (token ∷ tokens) = by (is_minus token.token) (bare_minus tokens)
  where
    by : (b : Bool) → length (minus_signs tokens) ≡ minus_among (bare tokens)
        → length (cond b (token ∷ minus_signs tokens) (minus_signs tokens))
        ≡ length (cond b (token.token ∷ filter is_minus (bare tokens)) (filter is_minus (bare tokens)))
    by true e = ap suc e
    by false e = e

-- where tokens spell definitions, each difference has a minus sign
pub minus_for_each : (defs : List Def) (tokens : List PlacedToken) → SpellsDefs defs (bare tokens)
    → length (differences_of defs) ≡ length (minus_signs tokens)
minus_for_each defs tokens spelled =
    defs_minus defs (pieces_of (bare tokens)) spelled
    ∙ pieces_minus (slice_split is_semicolon (bare tokens))
    ∙ parts_minus (bare tokens)
    ∙ sym (bare_minus tokens)

-- the parts of UTF-8 tokens are such
parts_utf8 : (tokens : List FileToken) → AreUtf8 tokens → AllByRecursion AreUtf8 (slice_split is_semicolon tokens)
parts_utf8 [] utf8 = (tt, tt)
parts_utf8 (token ∷ tokens) utf8 = by (is_semicolon token) (slice_split is_semicolon tokens) (parts_utf8 tokens utf8.1)
  where
    by : (b : Bool) (parts : List (List FileToken)) → AllByRecursion AreUtf8 parts
        → AllByRecursion AreUtf8 (cond b ([] ∷ parts) (onto_first token parts))
    by true parts each = (tt, each)
    by false [] each = ((utf8.0, tt), tt)
    by false (first ∷ others) each = ((utf8.0, each.0), each.1)

-- and so are the pieces
pieces_utf8 : (parts : List (List FileToken)) → AllByRecursion AreUtf8 parts
    → AllByRecursion AreUtf8 (filter (λ piece. not (is_empty piece)) parts)
pieces_utf8 [] each = tt
pieces_utf8 ([] ∷ parts) each = pieces_utf8 parts each.1
pieces_utf8 ((token ∷ piece) ∷ parts) each = (each.0, pieces_utf8 parts each.1)

-- a definition of UTF-8 tokens whose differences are good is proper
proper_def : (def : Def) (tokens : List FileToken) → SpellsDef def tokens → AreUtf8 tokens
    → AllByRecursion IsGood (differences_of_def def) → IsProper def
proper_def (Token name expr) tokens is utf8 good =
    let own : AreUtf8 (alternatives_tokens is.spelled.written) = subst AreUtf8 is.spelled.whole (by is.position (subst AreUtf8 is.whole utf8)) in
    sound_of (expression_of expr) (subst IsUtf8Expr (sym is.spelled.is_expr) (utf8_expression is.spelled.written own)) good
  where
    by : (position : Bool) → AreUtf8 (position_tokens position ++ (keyword (codes "token") ∷ Identifier name ∷ is.own)) → AreUtf8 is.own
    by true utf8 = utf8.1.1.1
    by false utf8 = utf8.1.1
proper_def (LineComment opening) tokens is utf8 good = is.0
proper_def (BlockComment opening closing) tokens is utf8 good = (is.0, is.1)
proper_def def tokens is utf8 good = tt

-- and so are definitions
proper_spelled : (defs : List Def) (pieces : List (List FileToken)) → AreSpelledBy defs pieces → AllByRecursion AreUtf8 pieces
    → AllByRecursion IsGood (differences_of defs) → AllByRecursion IsProper defs
proper_spelled [] pieces is utf8 good = tt
proper_spelled (d ∷ defs) [] is utf8 good = absurd is
proper_spelled (d ∷ defs) (piece ∷ pieces) is utf8 good = (
  proper_def d piece is.0 utf8.0 (all_front IsGood (differences_of_def d) (differences_of defs) good),
  proper_spelled defs pieces is.1 utf8.1 (all_rest IsGood (differences_of_def d) (differences_of defs) good),
)

-- what a file spells is proper
pub proper_defs : ProperDefs
proper_defs bytes defs spelled =
    let tokens : List FileToken = bare spelled.tokens in
    let utf8 : AreUtf8 tokens = tokens_utf8 [] 0 bytes spelled.tokens (length bytes) spelled.form.scan spelled.form.small.utf8 in
    All-from_recursion IsProper defs
    (proper_spelled defs (pieces_of tokens) spelled.form.spelled
    (pieces_utf8 (slice_split is_semicolon tokens) (parts_utf8 tokens utf8))
    (recursion_from_All IsGood (differences_of defs) spelled.good))
