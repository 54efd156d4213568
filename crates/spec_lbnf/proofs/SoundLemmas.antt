-- The kinds of a grammar are sound where its words and its token definitions are.
use Rattle.std.proofs.Common.{◌≡◌, ℕ, ◌<◌, List, [], ◌∷◌, ◌++◌, map, filter, Bool, true, false, All, codes, lit<, refl, sym, subst, inl, inr}
use Prim.Native.String.{String}
use Rattle.std.specs.List.{flat_map, AllByRecursion}
use Rattle.std.specs.Str.{IsUtf8, chars}
use Rattle.std.proofs.lemmas.Bool.{cases_Bool}
use Rattle.std.proofs.lemmas.List.Elements.{All-from_recursion, recursion_from_All}
use Rattle.std.proofs.lemmas.Str.{IsUtf8-from_ascii, chars-IsAscii}
use Rattle.std.proofs.lemmas.Str.Ascii.{IsAscii-from_all}
use Rattle.spec_lexing.specs.declared.expression.Expr.{Expr}
use Rattle.spec_lexing.specs.declared.kind_def.KindDef.{KindDef}
use Rattle.spec_lexing.specs.declared.kind_def.KindDef.TheVariants.{Word as WordKind, Token as TokenKind}
use Rattle.spec_lexing.specs.Classes.{IsSound, IsSoundDef}
use Rattle.spec_lexing.specs.Expressions.{expression_of}
use Rattle.spec_lexing.specs.Predefined.{escape, inside, integer_expr, double_expr, ident_expr, string_expr, char_literal_expr, predefined_kinds}
use Rattle.spec_lexing.proofs.ExpressionLemmas.{integer_is, double_is, ident_is, string_is, char_literal_is}
use Rattle.spec_lbnf.specs.declared.definition.Def.{Def}
use Rattle.spec_lbnf.specs.Expansion.{rules_of, words_of, token_in, is_active, active_kinds, tokens_of, kinds_by}
use Rattle.spec_lbnf.specs.Laws.{IsSoundToken, SoundKinds}

-- bytes that are ASCII are UTF-8
ascii_text : (bytes : List ℕ) → AllByRecursion (λ b. b < 128) bytes → IsUtf8 bytes
ascii_text bytes low = IsUtf8-from_ascii bytes (IsAscii-from_all bytes (All-from_recursion (λ b. b < 128) bytes low))

-- the expressions of the predefined kinds are sound
escape_sound : IsSound escape
escape_sound = (refl, (ascii_text (codes "\"'\\nt") (lit< tt, (lit< tt, (lit< tt, (lit< tt, (lit< tt, tt))))), tt))

-- a class of ASCII characters is an ASCII class
ascii_class : (bytes : List ℕ) → AllByRecursion (λ b. b < 128) bytes → All (λ c. c < 128) (chars bytes)
ascii_class bytes low =
    let all : All (λ b. b < 128) bytes = All-from_recursion (λ b. b < 128) bytes low in
    subst (All (λ c. c < 128)) (sym (chars-IsAscii bytes (IsAscii-from_all bytes all))) all

string_inside_sound : IsSound (inside "\"\\")
string_inside_sound =
    let low : AllByRecursion (λ b. b < 128) (codes "\"\\") = (lit< tt, (lit< tt, tt)) in
    (((tt, ascii_class (codes "\"\\") low), tt, ascii_text (codes "\"\\") low), (escape_sound, tt))

char_inside_sound : IsSound (inside "'\\")
char_inside_sound =
    let low : AllByRecursion (λ b. b < 128) (codes "'\\") = (lit< tt, (lit< tt, tt)) in
    (((tt, ascii_class (codes "'\\") low), tt, ascii_text (codes "'\\") low), (escape_sound, tt))

predefined_sound : AllByRecursion IsSoundToken predefined_kinds
predefined_sound = (
  subst IsSound (sym integer_is) tt,
  (
    subst IsSound (sym double_is) (tt, (refl, (tt, ((refl, (refl, (tt, tt))), tt)))),
    (
      subst IsSound (sym ident_is) (tt, ((tt, (tt, (refl, (refl, tt)))), tt)),
      (
        subst IsSound (sym string_is) (refl, (string_inside_sound, (refl, tt))),
        (subst IsSound (sym char_literal_is) (refl, (char_inside_sound, (refl, tt))), tt),
      ),
    ),
  ),
)

-- what holds of each item holds of those that pass
each_kept : {X : Type 0} (P : X → Type 0) (passes : X → Bool) (xs : List X) → AllByRecursion P xs → AllByRecursion P (filter passes xs)
each_kept P passes [] all = tt
each_kept P passes (x ∷ xs) all = elim (cases_Bool (passes x)) [
  | inl e ↦ rw e (all.0, each_kept P passes xs all.1)
  | inr e ↦ rw e (each_kept P passes xs all.1)
]

-- and of items side by side
each_both : {X : Type 0} (P : X → Type 0) (xs ys : List X) → AllByRecursion P xs → AllByRecursion P ys → AllByRecursion P (xs ++ ys)
each_both P [] ys all more = more
each_both P (x ∷ xs) ys all more = (all.0, each_both P xs ys all.1 more)

-- kinds of sound tokens are sound
token_kinds_sound : (tokens : List (List ℕ × Expr)) → AllByRecursion IsSoundToken tokens → AllByRecursion IsSoundDef (kinds_by [] tokens)
token_kinds_sound [] all = tt
token_kinds_sound (token ∷ tokens) all = (all.0, token_kinds_sound tokens all.1)

-- with those of words before them
kinds_sound : (words : List (List ℕ)) (tokens : List (List ℕ × Expr)) → AllByRecursion IsUtf8 words → AllByRecursion IsSoundToken tokens
    → AllByRecursion IsSoundDef (kinds_by words tokens)
kinds_sound [] tokens texts all = token_kinds_sound tokens all
kinds_sound (word ∷ words) tokens texts all = (texts.0, kinds_sound words tokens texts.1 all)

-- the kinds of the grammar are sound
pub sound_kinds : SoundKinds
sound_kinds defs texts sound =
    let tokens : AllByRecursion IsSoundToken (tokens_of defs)
    = each_both IsSoundToken (flat_map token_in defs) (active_kinds defs) (recursion_from_All IsSoundToken (flat_map token_in defs) sound)
    (each_kept IsSoundToken (λ (kind : List ℕ × Expr). is_active defs kind.0) predefined_kinds predefined_sound) in
    All-from_recursion IsSoundDef (kinds_by (words_of (rules_of defs)) (tokens_of defs))
    (kinds_sound (words_of (rules_of defs)) (tokens_of defs) (recursion_from_All IsUtf8 (words_of (rules_of defs)) texts) tokens)
