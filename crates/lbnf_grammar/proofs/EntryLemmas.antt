-- The first category that definitions side by side tell.
use Rattle.std.proofs.Common.{◌≡◌, ℕ, ◌+◌, List, [], ◌∷◌, ◌++◌, take, drop, Option, Some, None, slice_get, refl, sym, ap, ◌∙◌, append-nil}
use Rattle.std.specs.Option.{option_or}
use Rattle.std.proofs.lemmas.Grind.{flat_map-append}
use Rattle.std.proofs.lemmas.List.{drop_more, take-append-drop}
use Rattle.std.proofs.lemmas.Option.{slice_get_within, get_or_from_slice_get}
use Rattle.spec_lbnf.specs.declared.definition.Def.{Def}
use Rattle.spec_lbnf.specs.declared.definition.Def.TheVariants.{Rule, Internal, Terminator, Separator, Coercions, Entry, Token, LineComment, BlockComment}
use Rattle.spec_lbnf.specs.declared.definition.RawRule.{RawRule}
use Rattle.spec_lbnf.specs.Expansion.{first_entry, first_category, rules_of, rules_of_def}
use Rattle.lbnf_grammar.proofs.LabelLemmas.{take_next}

-- the first entry of definitions side by side
pub first_entry-append : (defs others : List Def)
    → first_entry (defs ++ others) ≡ option_or (first_entry defs) (first_entry others)
first_entry-append [] others = refl
first_entry-append (Entry (cat ∷ cats) ∷ defs) others = refl
first_entry-append (Entry [] ∷ defs) others = first_entry-append defs others
first_entry-append (Rule rule ∷ defs) others = first_entry-append defs others
first_entry-append (Internal rule ∷ defs) others = first_entry-append defs others
first_entry-append (Terminator nonempty cat word ∷ defs) others = first_entry-append defs others
first_entry-append (Separator nonempty cat word ∷ defs) others = first_entry-append defs others
first_entry-append (Coercions name levels ∷ defs) others = first_entry-append defs others
first_entry-append (Token name expr ∷ defs) others = first_entry-append defs others
first_entry-append (LineComment opening ∷ defs) others = first_entry-append defs others
first_entry-append (BlockComment opening closing ∷ defs) others = first_entry-append defs others

-- the category of the first rule of definitions
abbrev pub first_rule_category : List Def → Option (List ℕ)
first_rule_category defs = first_category (rules_of defs)

-- the first category of rules side by side
first_category-append : (rules others : List RawRule)
    → first_category (rules ++ others) ≡ option_or (first_category rules) (first_category others)
first_category-append [] others = refl
first_category-append (rule ∷ rules) others = refl

-- the category of the first rule of definitions side by side
pub first_rule_category-append : (defs others : List Def)
    → first_rule_category (defs ++ others) ≡ option_or (first_rule_category defs) (first_rule_category others)
first_rule_category-append defs others =
    ap first_category (flat_map-append rules_of_def defs others) ∙ first_category-append (rules_of defs) (rules_of others)

-- what a definition tells alone, of the category of its first rule
pub rule_alone : (def : Def) → first_category (rules_of_def def) ≡ first_rule_category (def ∷ [])
rule_alone def = sym (ap first_category (append-nil (rules_of_def def)))

module _ (first : List Def → Option (List ℕ)) (side_by_side : (defs others : List Def) → first (defs ++ others) ≡ option_or (first defs) (first others))
    (defs : List Def) (i : ℕ) (def : Def) (at : slice_get defs i ≡ Some def) (none : first (take i defs) ≡ None) where
  -- the definitions from the place on begin with this one
  from_def : drop i defs ≡ def ∷ drop (i + 1) defs
  from_def = drop_more defs i def (slice_get_within defs i def at) ∙ ap (λ x. x ∷ drop (i + 1) defs) (get_or_from_slice_get defs i def def at)

  -- where no definition before tells a category, the first is that of this one
  pub first_at : (text : List ℕ) → first (def ∷ []) ≡ Some text → first defs ≡ Some text
  first_at text own =
      ap first (sym (take-append-drop i defs))
      ∙ side_by_side (take i defs) (drop i defs)
      ∙ ap (λ found. option_or found (first (drop i defs))) none
      ∙ ap first from_def
      ∙ side_by_side (def ∷ []) (drop (i + 1) defs)
      ∙ ap (λ found. option_or found (first (drop (i + 1) defs))) own

  -- where this one tells none either, no definition up to it does
  pub first_past : first (def ∷ []) ≡ None → first (take (i + 1) defs) ≡ None
  first_past own =
      ap first (take_next defs i def at)
      ∙ side_by_side (take i defs) (def ∷ [])
      ∙ ap (λ found. option_or found (first (def ∷ []))) none ∙ own
