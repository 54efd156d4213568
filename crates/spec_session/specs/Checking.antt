-- The sessions of the mode `check`: a script is a header, a grammar and the line `end`, and one
-- line for each rule follows the reply to the grammar.
use Rattle.std.specs.Prelude.{◌≡◌, ℕ, ◌+◌, List, [], ◌∷◌, ◌++◌, map, flat_map, get_or, codes}
use Rattle.std.specs.Prelude.{decimal}
use Rattle.spec_text.specs.Escapes.{printed}
use Rattle.spec_lexing.specs.declared.kind_def.KindDef.{KindDef}
use Rattle.spec_lexing.specs.declared.kind_def.KindDef.TheVariants.{Word, Token}
use Rattle.spec_grammar.specs.declared.rule.Label.{Label}
use Rattle.spec_grammar.specs.declared.rule.Label.TheVariants.{Named, Wild, Nil, Cons, One}
use Rattle.spec_grammar.specs.declared.rule.Symbol.{Symbol}
use Rattle.spec_grammar.specs.declared.rule.Symbol.TheVariants.{Category, Kind}
use Rattle.spec_grammar.specs.declared.rule.Rule.{Rule}
use Rattle.spec_grammar.specs.Grammars.{Grammar}
use Rattle.spec_script.specs.Script.{Form}
use Rattle.spec_session.specs.Lines.{as_line}
use Rattle.spec_session.specs.Sessions.{Mode}
use Rattle.spec_session.specs.Laws.{OneSession}

-- the label as a grammar file writes it
abbrev pub label_text : Label → List ℕ
label_text (Named name) = name
label_text Wild = codes "_"
label_text Nil = codes "[]"
label_text Cons = codes "(:)"
label_text One = codes "(:[])"

-- the kind of token as an item: a word as it is printed, between quotes, and any other by its name
abbrev pub kind_text : KindDef → List ℕ
kind_text (Word word) = 34 ∷ (printed word ++ 34 ∷ [])
kind_text (Token name expr) = name

-- the symbol as an item: a category by its name, and a kind of token as above
abbrev pub symbol_text : Grammar → Symbol → List ℕ
symbol_text g (Category category) = get_or g.categories category []
symbol_text g (Kind kind) = get_or (map kind_text g.lexicon.kinds) kind []

-- the items, each behind a space
abbrev pub items_text : Grammar → List Symbol → List ℕ
items_text g items = flat_map (λ item. 32 ∷ symbol_text g item) items

-- the line of the rule of this number: the number, the rule's label, its category and `::=`, each
-- behind a space, and its items
abbrev pub rule_line : Grammar → ℕ → Rule → List ℕ
rule_line g number rule =
    as_line (decimal number ++ (32 ∷ (label_text rule.label
    ++ (32 ∷ (symbol_text g (Category rule.category)
    ++ (codes " ::=" ++ items_text g rule.items))))))

-- the lines of the rules, numbered from here on
abbrev pub lines_from : Grammar → ℕ → List Rule → List ℕ
lines_from g number [] = []
lines_from g number (rule ∷ rules) = rule_line g number rule ++ lines_from g (number + 1) rules

-- no command stands behind the grammar
abbrev pub bare_form : Form
bare_form = record { MayStand = λ commands. commands ≡ []; MayEnd = λ commands. commands ≡ [] }

-- the mode `check`: one line for each rule, in order, follows the reply to a grammar
abbrev pub check_mode : Mode
check_mode = record { form = bare_form; Follow = λ g lines. lines ≡ lines_from g 0 g.rules }

-- any two sessions of an input in this mode write the same bytes and end with the same status
abbrev pub OneCheckSession : Type 0
OneCheckSession = OneSession check_mode
