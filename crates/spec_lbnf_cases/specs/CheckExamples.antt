-- Small definitions that are fit, and small ones that are unfit, for each reason, by hand.
use Rattle.std.specs.Prelude.{ℕ, List, [], ◌∷◌, codes}
use Rattle.spec_grammar.specs.declared.rule.Label.TheVariants.{Named, Wild, Nil, Cons, One}
use Rattle.spec_lbnf.specs.declared.definition.RawItem.{RawItem}
use Rattle.spec_lbnf.specs.declared.definition.RawItem.TheVariants.{Word}
use Rattle.spec_lbnf.specs.declared.definition.Def.{Def}
use Rattle.spec_lexing.specs.declared.expression.Expr.{Expr}
use Rattle.spec_lbnf.specs.declared.definition.Def.TheVariants.{Rule, Internal, Coercions, Token}
use Rattle.spec_lbnf.specs.declared.fault.GrammarFault.TheVariants.{BadCoercion, BadList, Cyclic}
use Rattle.spec_lbnf.specs.declared.fault.GrammarFault.TheVariants.{RepeatedToken, TooManyRules}
use Rattle.spec_lbnf.specs.declared.fault.GrammarFault.TheVariants.{UnknownCategory}
use Rattle.spec_lbnf.specs.Checks.{AreFit, IsUnfit}
use Rattle.spec_lbnf_cases.specs.ExpansionExamples.{rule, category}

-- the rule A . S ::= "a"
abbrev pub word_rule : Def
word_rule = Rule (rule (Named (codes "A")) 0 (codes "S") (Word (codes "a") ∷ []))

-- the rule _ . name ::= other, of two categories
abbrev pub passing_rule : (name other : List ℕ) → Def
passing_rule name other = Rule (rule Wild 0 name (category other ∷ []))

-- the category S, as an item
abbrev pub element : RawItem
element = category (codes "S")

-- the rule _ . S ::= S S
abbrev pub double_rule : Def
double_rule = Rule (rule Wild 0 (codes "S") (element ∷ element ∷ []))

-- the rule A . [S] ::=
abbrev pub named_list : Def
named_list = Rule (rule (Named (codes "A")) 1 (codes "S") [])

-- the rule internal B . U ::= T
abbrev pub internal_rule : Def
internal_rule = Internal (rule (Named (codes "B")) 0 (codes "U") (category (codes "T") ∷ []))

-- that small definitions are fit, or why they are unfit, by hand
pub record SmallChecks : Type 0 where
  -- a rule of one word is fit
  pub word : AreFit (word_rule ∷ [])
  -- the category of an internal rule is known, and the items of one need not be
  pub internal : AreFit (internal_rule ∷ passing_rule (codes "S") (codes "U") ∷ [])
  -- a rule without a label of its own passes on one category, not two
  pub two_items : IsUnfit (word_rule ∷ double_rule ∷ []) (BadCoercion 1)
  -- a rule for lists has no name as its label; the coercions of no level stand behind it
  pub named_list : IsUnfit (named_list ∷ Coercions (codes "E") 0 ∷ []) (BadList 0)
  -- [] . S ::=, and (:[]) . [S] ::=, and (:) . [S] ::= S S, and _ . [S] ::= S
  pub nil_of_no_list : IsUnfit (Rule (rule Nil 0 (codes "S") []) ∷ []) (BadList 0)
  pub one_of_no_item : IsUnfit (Rule (rule One 1 (codes "S") []) ∷ []) (BadList 0)
  pub cons_of_no_list :
      IsUnfit (Rule (rule Cons 1 (codes "S") (element ∷ element ∷ [])) ∷ []) (BadList 0)
  pub list_of_no_list :
      IsUnfit (Rule (rule Wild 1 (codes "S") (element ∷ [])) ∷ []) (BadList 0)
  -- each of 1,024 levels gives a rule, and the brackets are one more
  pub many_rules : IsUnfit (Coercions (codes "E") 1024 ∷ []) (TooManyRules 1025)
  -- labels come before the number of rules
  pub no_level :
      IsUnfit (Coercions (codes "E") 1024 ∷ Coercions (codes "E") 0 ∷ []) (BadCoercion 1)
  -- a predefined name that has a rule comes before a category that has none
  pub own_name :
      IsUnfit (passing_rule (codes "Integer") (codes "T") ∷ []) (RepeatedToken (codes "Integer"))
  -- no rule has the category
  pub no_rule :
      IsUnfit (word_rule ∷ passing_rule (codes "S") (codes "T") ∷ [])
      (UnknownCategory (codes "T") 1)
  -- a token definition has the name of an earlier one, or a rule's category that of a later one
  pub two_tokens : (expr : Expr)
      → IsUnfit (Token (codes "T") expr ∷ Token (codes "T") expr ∷ []) (RepeatedToken (codes "T"))
  pub later_token : (expr : Expr)
      → IsUnfit (word_rule ∷ Token (codes "S") expr ∷ []) (RepeatedToken (codes "S"))
  -- a category that has no rule comes before one that reaches itself
  pub no_rule_behind_cycle :
      IsUnfit (passing_rule (codes "S") (codes "S") ∷ passing_rule (codes "S") (codes "T") ∷ [])
      (UnknownCategory (codes "T") 1)
  -- S reaches itself, and R, which leads to it, does not
  pub cycle :
      IsUnfit (passing_rule (codes "R") (codes "S") ∷ passing_rule (codes "S") (codes "S") ∷ [])
      (Cyclic (codes "S"))
