-- Serves the proofs alone. What is printed of a tree where its text is wanted, or its elements, or
-- nothing, and in what order it comes.
use Rattle.std.specs.Prelude.{ℕ, List, [], ◌∷◌, ◌++◌, codes, flat_map, Bool, true, false}
use Rattle.std.specs.Prelude.{Option, Some, None}
use Rattle.spec_grammar.specs.declared.rule.Label.{Label}
use Rattle.spec_grammar.specs.declared.rule.Label.TheVariants.{Named, Wild, Nil, Cons, One}
use Rattle.spec_trees.specs.TreeText.{Print, no_print, text_print, list_print, print_text}
use Rattle.spec_trees.specs.TreeText.{print_elements}
use Rattle.first_tree.specs.declared.wanted.Wanted.{Wanted}
use Rattle.first_tree.specs.declared.wanted.Wanted.TheVariants.{Nothing, Text, SpacedText, Elements}
use Rattle.first_tree.specs.declared.wanted.Plan.{Plan}
use Rattle.first_tree.specs.declared.wanted.Plan.TheVariants.{EachText, TextAndElements, First}

-- something is printed: it is a child
abbrev pub is_print : Print → Bool
is_print no_print = false
is_print (text_print text) = true
is_print (list_print elements) = true

-- there is a child
abbrev pub has_child : List Print → Bool
has_child [] = false
has_child (p ∷ ps) = true

-- what is printed, behind a space
abbrev pub spaced : Print → List ℕ
spaced no_print = []
spaced (text_print text) = 32 ∷ text
spaced (list_print elements) = 32 ∷ print_text (list_print elements)

-- the texts, each behind a comma and a space
abbrev pub commas_before : List (List ℕ) → List ℕ
commas_before texts = flat_map (λ text. codes ", " ++ text) texts

-- what is wanted of it
abbrev pub wanted_text : Wanted → Print → List ℕ
wanted_text Nothing p = []
wanted_text Text p = print_text p
wanted_text SpacedText p = spaced p
wanted_text Elements p = commas_before (print_elements p)

-- what is wanted of the first child
abbrev pub first_wanted : Plan → Wanted
first_wanted EachText = SpacedText
first_wanted TextAndElements = Text
first_wanted (First wanted) = wanted

-- the plan for the children behind the first
abbrev pub plan_behind : Plan → Plan
plan_behind EachText = EachText
plan_behind TextAndElements = First Elements
plan_behind (First wanted) = First Nothing

-- the plan where one child is passed, if it is one
abbrev pub plan_past : Bool → Plan → Plan
plan_past true plan = plan_behind plan
plan_past false plan = plan

-- what is printed of the children by the plan
abbrev pub planned_text : Plan → List Print → List ℕ
planned_text plan [] = []
planned_text plan (p ∷ ps) = wanted_text (first_wanted plan) p ++ planned_text (plan_behind plan) ps

-- the plan for the children of a node with the label
abbrev pub named_plan : Wanted → Plan
named_plan Nothing = First Nothing
named_plan Text = EachText
named_plan SpacedText = EachText
named_plan Elements = First Nothing

-- the plan for the children of a list, where it is wanted at all
abbrev pub list_plan : Plan → Wanted → Plan
list_plan plan Nothing = First Nothing
list_plan plan Text = plan
list_plan plan SpacedText = plan
list_plan plan Elements = plan

-- the plan for the children of a node by its label: `_` hands on what is wanted of it, and a list
-- asks its first child for a text and its last one for elements
abbrev pub plan_of : Label → Wanted → Plan
plan_of (Named name) wanted = named_plan wanted
plan_of Wild wanted = First wanted
plan_of Nil wanted = First Nothing
plan_of One wanted = list_plan (First Text) wanted
plan_of Cons wanted = list_plan TextAndElements wanted

-- what comes before all else of a node with the label
abbrev pub named_opening : List ℕ → Wanted → List ℕ
named_opening name Nothing = []
named_opening name Text = codes "(" ++ name
named_opening name SpacedText = codes " (" ++ name
named_opening name Elements = []

-- what comes before the elements of a list: its bracket, or a comma where it goes on
abbrev pub list_opening : List ℕ → Wanted → List ℕ
list_opening comma Nothing = []
list_opening comma Text = codes "["
list_opening comma SpacedText = codes " ["
list_opening comma Elements = comma

-- what comes before the children of a node by its label
abbrev pub opening : Label → Wanted → List ℕ
opening (Named name) wanted = named_opening name wanted
opening Wild wanted = []
opening Nil wanted = list_opening [] wanted
opening One wanted = list_opening (codes ", ") wanted
opening Cons wanted = list_opening (codes ", ") wanted

-- where a text is wanted, this byte comes behind it
abbrev pub closing_by : ℕ → Wanted → Option ℕ
closing_by byte Nothing = None
closing_by byte Text = Some byte
closing_by byte SpacedText = Some byte
closing_by byte Elements = None

-- the byte that comes behind the children of a node with the label
abbrev pub closing_of : Label → Wanted → Option ℕ
closing_of (Named name) wanted = closing_by 41 wanted
closing_of Wild wanted = None
closing_of Nil wanted = closing_by 93 wanted
closing_of One wanted = closing_by 93 wanted
closing_of Cons wanted = closing_by 93 wanted

-- whether a node with the label is a child in any case
abbrev pub makes_child : Label → Bool
makes_child (Named name) = true
makes_child Wild = false
makes_child Nil = true
makes_child One = true
makes_child Cons = true
