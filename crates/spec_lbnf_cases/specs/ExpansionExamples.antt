-- What small definitions stand for, by hand.
use Rattle.std.specs.Prelude.{◌≡◌, ℕ, List, [], ◌∷◌, codes, Some, None, true, false}
use Rattle.spec_lexing.specs.declared.expression.Expr.{Expr}
use Rattle.spec_lexing.specs.Lexicon.{lexicon_of}
use Rattle.spec_lexing.specs.Predefined.{integer_expr, char_literal_expr}
use Rattle.spec_grammar.specs.declared.rule.Label.{Label}
use Rattle.spec_grammar.specs.declared.rule.Label.TheVariants.{Named, Wild, Nil, Cons, One}
use Rattle.spec_grammar.specs.declared.rule.Symbol.TheVariants.{Category, Kind}
use Rattle.spec_lexing.specs.declared.kind_def.KindDef.TheVariants.{Word as WordKind}
use Rattle.spec_lexing.specs.declared.kind_def.KindDef.TheVariants.{Token as TokenKind}
use Rattle.spec_lbnf.specs.declared.definition.RawItem.{RawItem}
use Rattle.spec_lbnf.specs.declared.definition.RawItem.TheVariants.{Cat, Word}
use Rattle.spec_lbnf.specs.declared.definition.RawRule.{RawRule}
use Rattle.spec_lbnf.specs.declared.definition.Def.{Def}
use Rattle.spec_lbnf.specs.declared.definition.Def.TheVariants.{Rule, Internal, Terminator}
use Rattle.spec_lbnf.specs.declared.definition.Def.TheVariants.{Separator, Coercions, Entry}
use Rattle.spec_lbnf.specs.declared.definition.Def.TheVariants.{Token, LineComment, BlockComment}
use Rattle.spec_lbnf.specs.Expansion.{rules_of_def, expansion_of}
use Rattle.spec_lbnf_cases.specs.ReadingExamples.{cat}

-- the rule label . name ::= items, with so many brackets around the name
abbrev pub rule : Label → ℕ → List ℕ → List RawItem → RawRule
rule label depth name items = record { label = label; cat = cat depth name; items = items }

-- the category of this name, as an item
abbrev pub category : List ℕ → RawItem
category name = Cat (cat 0 name)

-- the category [C], as an item
abbrev pub list : RawItem
list = Cat (cat 1 (codes "C"))

-- the rule label . [C] ::= items
abbrev pub list_rule : Label → List RawItem → RawRule
list_rule label items = rule label 1 (codes "C") items

-- the rule (:) . [C] ::= C "w" [C]
abbrev pub longer_list : RawRule
longer_list = list_rule Cons (category (codes "C") ∷ Word (codes "w") ∷ list ∷ [])

-- internal A . U ::= "x", and _ . S ::= "a" T "a", and B . T ::= "b"
abbrev pub three_rules : List Def
three_rules =
    Internal (rule (Named (codes "A")) 0 (codes "U") (Word (codes "x") ∷ []))
    ∷ Rule (rule Wild 0 (codes "S")
    (Word (codes "a") ∷ category (codes "T") ∷ Word (codes "a") ∷ []))
    ∷ Rule (rule (Named (codes "B")) 0 (codes "T") (Word (codes "b") ∷ [])) ∷ []

-- token Hex with this expression, H . S ::= Hex, and I . S ::= Integer "w"
abbrev pub hex_rules : Expr → List Def
hex_rules expr =
    Token (codes "Hex") expr
    ∷ Rule (rule (Named (codes "H")) 0 (codes "S") (category (codes "Hex") ∷ []))
    ∷ Rule (rule (Named (codes "I")) 0 (codes "S")
    (category (codes "Integer") ∷ Word (codes "w") ∷ [])) ∷ []

-- what small definitions stand for, by hand
pub record SmallExpansions : Type 0 where
  -- [] . [C] ::=, and (:) . [C] ::= C "w" [C]
  pub terminator : rules_of_def (Terminator false (cat 0 (codes "C")) (codes "w"))
      ≡ list_rule Nil [] ∷ longer_list ∷ []
  -- (:[]) . [C] ::= C "w", and (:) . [C] ::= C "w" [C]
  pub nonempty_terminator : rules_of_def (Terminator true (cat 0 (codes "C")) (codes "w"))
      ≡ list_rule One (category (codes "C") ∷ Word (codes "w") ∷ []) ∷ longer_list ∷ []
  -- [] . [C] ::=, and (:[]) . [C] ::= C, and (:) . [C] ::= C "w" [C]
  pub separator : rules_of_def (Separator false (cat 0 (codes "C")) (codes "w"))
      ≡ list_rule Nil [] ∷ list_rule One (category (codes "C") ∷ []) ∷ longer_list ∷ []
  -- (:[]) . [C] ::= C, and (:) . [C] ::= C "w" [C]
  pub nonempty_separator : rules_of_def (Separator true (cat 0 (codes "C")) (codes "w"))
      ≡ list_rule One (category (codes "C") ∷ []) ∷ longer_list ∷ []
  -- [] . [C] ::=, and (:) . [C] ::= C [C]
  pub empty_separator : rules_of_def (Separator false (cat 0 (codes "C")) [])
      ≡ list_rule Nil [] ∷ list_rule Cons (category (codes "C") ∷ list ∷ []) ∷ []
  -- [] . [[C]] ::=, and (:) . [[C]] ::= [C] "a" "b" [[C]]
  pub two_words : rules_of_def (Terminator false (cat 1 (codes "C")) (codes " a  b"))
      ≡ rule Nil 2 (codes "C") []
      ∷ rule Cons 2 (codes "C")
      (list ∷ Word (codes "a") ∷ Word (codes "b") ∷ Cat (cat 2 (codes "C")) ∷ []) ∷ []
  -- _ . E ::= E1, and _ . E1 ::= E2, and _ . E2 ::= "(" E ")"
  pub coercions : rules_of_def (Coercions (codes "E") 2)
      ≡ rule Wild 0 (codes "E") (category (codes "E1") ∷ [])
      ∷ rule Wild 0 (codes "E1") (category (codes "E2") ∷ [])
      ∷ rule Wild 0 (codes "E2")
      (Word (codes "(") ∷ category (codes "E") ∷ Word (codes ")") ∷ []) ∷ []
  -- an internal rule gives no rule, and entry points give none
  pub internal : rules_of_def (Internal (rule Nil 1 (codes "C") [])) ≡ []
  pub entrypoints : rules_of_def (Entry (cat 0 (codes "C") ∷ [])) ≡ []
  -- the category that only an internal rule has is the last, and the word of that rule is no kind;
  -- a word that stands twice is one kind; the entry is the first one of the first entry points
  pub expansion :
      expansion_of (Entry (cat 0 (codes "T") ∷ cat 0 (codes "S") ∷ [])
      ∷ Entry (cat 0 (codes "S") ∷ []) ∷ three_rules)
      ≡ record {
        rules =
            record { label = Wild; category = 0; items = Kind 0 ∷ Category 1 ∷ Kind 0 ∷ [] }
            ∷ record { label = Named (codes "B"); category = 1; items = Kind 1 ∷ [] } ∷ [];
        categories = codes "S" ∷ codes "T" ∷ codes "U" ∷ [];
        lexicon = lexicon_of (WordKind (codes "a") ∷ WordKind (codes "b") ∷ []);
        entry = Some (Category 1);
      }
  -- without entry points the entry is the category of the first rule; without rules there is none
  pub first_rule : (expansion_of three_rules).entry ≡ Some (Category 0)
  pub without_rules : (expansion_of (Internal (list_rule Nil []) ∷ [])).entry ≡ None
  -- kinds are the words, the token definitions and the active predefined kinds, and none is a
  -- category; comments are kept
  pub tokens : (expr : Expr)
      → expansion_of (LineComment (codes "--") ∷ BlockComment (codes "(*") (codes "*)")
      ∷ hex_rules expr)
      ≡ record {
        rules =
            record { label = Named (codes "H"); category = 0; items = Kind 1 ∷ [] }
            ∷ record { label = Named (codes "I"); category = 0; items = Kind 2 ∷ Kind 0 ∷ [] } ∷ [];
        categories = codes "S" ∷ [];
        lexicon = record {
          line_comments = codes "--" ∷ [];
          block_comments = (codes "(*", codes "*)") ∷ [];
          kinds =
              WordKind (codes "w") ∷ TokenKind (codes "Hex") expr
              ∷ TokenKind (codes "Integer") integer_expr ∷ [];
        };
        entry = Some (Category 0);
      }
  -- a token definition takes the place of a predefined kind of its name
  pub own_integer : (expr : Expr)
      → (expansion_of (Token (codes "Integer") expr ∷ hex_rules expr)).lexicon.kinds
      ≡ WordKind (codes "w") ∷ TokenKind (codes "Integer") expr ∷ TokenKind (codes "Hex") expr ∷ []
  -- an entry point makes a predefined kind active, and may be one; an internal rule does not
  pub entry_kind : (expansion_of (Entry (cat 0 (codes "Char") ∷ [])
      ∷ Internal (rule (Named (codes "A")) 0 (codes "U") (category (codes "Ident") ∷ [])) ∷ []))
      ≡ record {
        rules = [];
        categories = codes "U" ∷ [];
        lexicon = lexicon_of (TokenKind (codes "Char") char_literal_expr ∷ []);
        entry = Some (Kind 0);
      }
  -- the lists of a token kind are categories
  pub token_lists : (expansion_of (Terminator false (cat 0 (codes "Ident")) (codes "w") ∷ [])).categories
      ≡ codes "[Ident]" ∷ []
