-- The predefined kinds as code tells them apart, and lexicons. Serves the proofs alone.
use Rattle.std.specs.Prelude.{ℕ, List, [], ◌∷◌, codes, Bool, ◌&&◌, not, flat_map}
use Rattle.spec_lexing.specs.declared.expression.Expr.{Expr}
use Rattle.spec_lexing.specs.declared.expression.Class.TheVariants.{AnyChar}
use Rattle.spec_lexing.specs.declared.expression.Expr.TheVariants.{Class, AnyOf, Alt, Minus}
use Rattle.spec_lexing.specs.Predefined.{escape_expr}
use Rattle.spec_lexing.specs.Predefined.{integer_expr, double_expr, ident_expr, string_expr}
use Rattle.spec_lexing.specs.Predefined.{char_literal_expr}
use Rattle.spec_lexing.specs.declared.kind_def.KindDef.{KindDef}
use Rattle.spec_lexing.specs.declared.kind_def.KindDef.TheVariants.{Token as TokenKind}
use Rattle.spec_lexing.specs.Lexicon.{Lexicon}
use Rattle.spec_lbnf.specs.declared.definition.Def.{Def}
use Rattle.spec_lbnf.specs.Expansion.{is_among, line_comment_in, block_comment_in, kinds_by}
use Rattle.spec_lbnf.specs.Expansion.{tokens_of}
use Rattle.lbnf_grammar.specs.declared.predefined.Predefined.{Predefined}
use Rattle.lbnf_grammar.specs.declared.predefined.Predefined.TheVariants.{Integer, Double, Ident}
use Rattle.lbnf_grammar.specs.declared.predefined.Predefined.TheVariants.{String, Char}

-- the name of the kind
abbrev pub predefined_name : Predefined → List ℕ
predefined_name Integer = codes "Integer"
predefined_name Double = codes "Double"
predefined_name Ident = codes "Ident"
predefined_name String = codes "String"
predefined_name Char = codes "Char"

-- its expression
abbrev pub predefined_expr : Predefined → Expr
predefined_expr Integer = integer_expr
predefined_expr Double = double_expr
predefined_expr Ident = ident_expr
predefined_expr String = string_expr
predefined_expr Char = char_literal_expr

-- the kind, by its name and its expression
abbrev pub predefined_token : Predefined → List ℕ × Expr
predefined_token kind = (predefined_name kind, predefined_expr kind)

-- any scalar but those of the text, or an escape
abbrev pub inside_of : List ℕ → Expr
inside_of text = Alt (Minus (Class AnyChar) (AnyOf text) ∷ escape_expr ∷ [])

-- the name is one of the first names and none of the second
abbrev pub is_free_use : List (List ℕ) → List (List ℕ) → List ℕ → Bool
is_free_use used taken name = is_among used name && not (is_among taken name)

-- the kind of a token, by its name and its expression
abbrev pub token_kind : List ℕ × Expr → KindDef
token_kind token = TokenKind token.0 token.1

-- the lexicon of these words and of the definitions
abbrev pub lexicon_by : List (List ℕ) → List Def → Lexicon
lexicon_by words defs = record {
  line_comments = flat_map line_comment_in defs;
  block_comments = flat_map block_comment_in defs;
  kinds = kinds_by words (tokens_of defs);
}
