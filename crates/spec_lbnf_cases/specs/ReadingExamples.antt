-- What small grammar files spell, or their first fault, by hand.
use Rattle.std.specs.Prelude.{ℕ, List, [], ◌∷◌, ◌++◌, codes, flat_map, replicate, true, false}
use Rattle.spec_lexing.specs.declared.expression.Class.TheVariants.{Digit, AnyChar}
use Rattle.spec_lexing.specs.declared.expression.Expr.{Expr}
use Rattle.spec_lexing.specs.declared.expression.Expr.TheVariants.{Eps, Class, Scalar, AnyOf}
use Rattle.spec_lexing.specs.declared.expression.Expr.TheVariants.{Word as WordExpr, Seq, Alt}
use Rattle.spec_lexing.specs.declared.expression.Expr.TheVariants.{Minus, Star, Plus, Opt}
use Rattle.spec_grammar.specs.declared.rule.Label.TheVariants.{Named, Wild, Nil, One}
use Rattle.spec_lbnf.specs.declared.definition.CatName.{CatName}
use Rattle.spec_lbnf.specs.declared.definition.RawItem.TheVariants.{Cat, Word}
use Rattle.spec_lbnf.specs.declared.definition.Def.{Def}
use Rattle.spec_lbnf.specs.declared.definition.Def.TheVariants.{Rule, Internal, Terminator}
use Rattle.spec_lbnf.specs.declared.definition.Def.TheVariants.{Separator, Coercions, Entry}
use Rattle.spec_lbnf.specs.declared.definition.Def.TheVariants.{Token, LineComment, BlockComment}
use Rattle.spec_lbnf.specs.declared.fault.TextFault.TheVariants.{NotUtf8, Syntax}
use Rattle.spec_lbnf.specs.declared.fault.TextFault.TheVariants.{Unsupported, BadDifference}
use Rattle.spec_lbnf.specs.Faults.{Spells, IsFirstFault}

-- the category with a name and so many brackets
abbrev pub cat : ℕ → List ℕ → CatName
cat depth name = record { name = name; depth = depth }

-- the file of one rule for a category of so many brackets and this name
abbrev pub one_category : ℕ → List ℕ → List ℕ
one_category depth name =
    codes "_." ++ (replicate depth 91 ++ (name ++ (replicate depth 93 ++ codes "::=")))

-- the file of one kind of token with this expression
abbrev pub one_token : List ℕ → List ℕ
one_token expression = codes "token T " ++ expression

-- the bytes so many times
abbrev pub times : ℕ → List ℕ → List ℕ
times count bytes = flat_map {X = ℕ} (λ code. bytes) (replicate count 0)

-- the definition of one kind of token
abbrev pub token_def : Expr → Def
token_def expr = Token (codes "T") expr

-- what small files spell, or their first fault, by hand
pub record SmallReadings : Type 0 where
  pub nothing_in_it : Spells (codes " ;; ") []
  pub rule : Spells (codes "A. S ::= \"a b\" [T];")
      (Rule (record {
        label = Named (codes "A");
        cat = cat 0 (codes "S");
        items = Word (codes "a") ∷ Word (codes "b") ∷ Cat (cat 1 (codes "T")) ∷ [];
      }) ∷ [])
  pub two_rules : Spells (codes "_.S::=;(:[]).[S]::=S")
      (Rule (record { label = Wild; cat = cat 0 (codes "S"); items = [] })
      ∷ Rule (record {
        label = One;
        cat = cat 1 (codes "S");
        items = Cat (cat 0 (codes "S")) ∷ [];
      }) ∷ [])
  pub internal : Spells (codes "internal []. S ::= ")
      (Internal (record { label = Nil; cat = cat 0 (codes "S"); items = [] }) ∷ [])
  pub terminator : Spells (codes "terminator nonempty S \"\"")
      (Terminator true (cat 0 (codes "S")) [] ∷ [])
  pub separator : Spells (codes "separator [S] \",\"")
      (Separator false (cat 1 (codes "S")) (codes ",") ∷ [])
  pub coercions : Spells (codes "coercions S 03") (Coercions (codes "S") 3 ∷ [])
  pub entries : Spells (codes "entrypoints S, [T]")
      (Entry (cat 0 (codes "S") ∷ cat 1 (codes "T") ∷ []) ∷ [])
  pub layout : IsFirstFault (codes " layout") (Unsupported (codes "layout") 1)
  pub nonempty : IsFirstFault (codes "nonempty") (Unsupported (codes "nonempty") 0)
  pub lower_label : IsFirstFault (codes "internal a") (Unsupported (codes "a") 9)
  pub label_paren : IsFirstFault (codes "A(") (Unsupported (codes "(") 1)
  pub internal_paren : IsFirstFault (codes "internal A (") (Unsupported (codes "(") 11)
  pub sign_paren : IsFirstFault (codes "_(") (Syntax 1)
  pub lower_category : IsFirstFault (codes "_.s") (Syntax 2)
  pub no_item : IsFirstFault (codes "_.S::=S.") (Syntax 7)
  pub early_end : IsFirstFault (codes "_.S ") (Syntax 4)
  pub early_semicolon : IsFirstFault (codes "_.S;") (Syntax 3)
  pub no_token : IsFirstFault (codes "_.S::=S @") (Syntax 8)
  pub open_category : IsFirstFault (codes "_.[S::=") (Syntax 4)
  pub no_entry : IsFirstFault (codes "entrypoints") (Syntax 11)
  pub deep_category : Spells (one_category 63 (codes "SS"))
      (Rule (record { label = Wild; cat = cat 63 (codes "SS"); items = [] }) ∷ [])
  pub too_long_category : IsFirstFault (one_category 63 (codes "SSS")) (Syntax 2)
  pub no_utf8 : IsFirstFault (95 ∷ 255 ∷ []) (NotUtf8 1)
  pub kind : Spells (codes "position token Hex {\"0x\"} (digit|[\"af\"])+")
      (Token (codes "Hex") (Seq
      (WordExpr (codes "0x")
      ∷ Plus (Alt (Class Digit ∷ AnyOf (codes "af") ∷ [])) ∷ [])) ∷ [])
  pub levels : Spells (one_token (codes "'a' eps? | char - 'c' - 'd' | 'e'*+"))
      (token_def (Alt
      (Seq (Scalar 97 ∷ Opt Eps ∷ [])
      ∷ Minus (Minus (Class AnyChar) (Scalar 99)) (Scalar 100)
      ∷ Plus (Star (Scalar 101)) ∷ [])) ∷ [])
  pub empty_texts : Spells (one_token (codes "[\"\"]{\"\"}"))
      (token_def (Seq (AnyOf [] ∷ WordExpr [] ∷ [])) ∷ [])
  pub line_comment : Spells (codes "comment \" \"") (LineComment (codes " ") ∷ [])
  pub block_comment : Spells (codes "comment \"/*\" \"*/\"")
      (BlockComment (codes "/*") (codes "*/") ∷ [])
  pub many_brackets : Spells
      (one_token (times 64 (codes "(") ++ codes "eps" ++ times 64 (codes ")")))
      (token_def Eps ∷ [])
  pub too_many_brackets : IsFirstFault (one_token (times 65 (codes "("))) (Syntax 72)
  pub too_many_signs : IsFirstFault (one_token (codes "eps" ++ times 9 (codes "*"))) (Syntax 19)
  pub signs_in_brackets : IsFirstFault
      (one_token (codes "(eps" ++ times 8 (codes "*") ++ codes ")+ )")) (Syntax 23)
  pub too_many_minus_signs : IsFirstFault (one_token (codes "eps" ++ times 9 (codes " -eps")))
      (Syntax 52)
  pub other_word : IsFirstFault (one_token (codes "digit foo")) (Syntax 14)
  pub no_expression : IsFirstFault (one_token (codes ";")) (Syntax 8)
  pub no_operand : IsFirstFault (one_token (codes "'a' | ")) (Syntax 14)
  pub no_character : IsFirstFault (one_token (codes "['a']")) (Syntax 9)
  pub lower_kind : IsFirstFault (codes "token t 'a'") (Syntax 6)
  pub no_word_token : IsFirstFault (codes "position T") (Syntax 9)
  pub word_as_label : IsFirstFault (codes "token. S ::= \"a\"") (Syntax 5)
  pub empty_comment : IsFirstFault (codes "comment \"\"") (Syntax 8)
  pub empty_closing : IsFirstFault (codes "comment \"a\" \"\"") (Syntax 12)
  pub wide_right_side : IsFirstFault (one_token (codes "digit - char")) (BadDifference 14)
  pub outer_first : IsFirstFault (one_token (codes "('a' 'b') - (digit - char)")) (BadDifference 18)
  pub closed_brackets : IsFirstFault (one_token (times 65 (codes "(eps)") ++ codes ")"))
      (Syntax 333)
  pub bar_begins_anew : IsFirstFault
      (one_token
      (codes "eps" ++ times 8 (codes " -eps") ++ codes "|eps" ++ times 9 (codes " -eps")))
      (Syntax 96)
  pub bracket_begins_anew : IsFirstFault
      (one_token (codes "(eps" ++ times 8 (codes " -eps") ++ codes ")" ++ times 9 (codes " -eps")))
      (Syntax 94)
  pub sequence_side : IsFirstFault (one_token (codes "('a' 'b') - 'a' ;")) (BadDifference 18)
  pub inner_second : IsFirstFault (one_token (codes "char - (digit - char)")) (BadDifference 22)
