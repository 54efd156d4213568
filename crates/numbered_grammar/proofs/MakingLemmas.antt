-- The entry of rules that are given without one.
use Rattle.std.proofs.Common.{ℕ, List, [], ◌∷◌, Option, refl}
use Rattle.std.specs.Option.{IfSome}
use Rattle.spec_grammar.specs.declared.rule.Rule.{Rule}
use Rattle.spec_grammar.specs.declared.rule.Symbol.{Symbol}
use Rattle.spec_lexing.specs.Lexicon.{Lexicon}
use Rattle.spec_grammar.specs.Grammars.{IsSymbolOf, HasOwnSymbols}
use Rattle.numbered_grammar.specs.Making.{grammar_of_parts, entry_of_rules}

-- the category of the first rule is a category of the grammar, if its rules have symbols of it
pub first_own : (rules : List Rule) (categories : List (List ℕ)) (lexicon : Lexicon) (entry : Option Symbol)
    → HasOwnSymbols (grammar_of_parts rules categories lexicon entry)
    → IfSome (entry_of_rules rules) (IsSymbolOf (grammar_of_parts rules categories lexicon entry))
first_own [] categories lexicon entry own = tt
first_own (rule ∷ rules) categories lexicon entry own = (own 0 rule refl).0
