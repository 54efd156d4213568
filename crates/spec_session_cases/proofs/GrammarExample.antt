-- A grammar of one rule, `A. S ::= "a"`, and the text `a` under it, worked by hand.
use Rattle.std.proofs.Common.{◌≡◌, ℕ, zero, suc, inr, List, [], ◌∷◌, ◌++◌, length, All, Some, slice_get, codes, decimal, refl, sym, ◌∙◌, ap, subst, arith, get_or, length-append}
use Rattle.std.specs.Char.{encode_utf8}
use Rattle.std.specs.Str.{chars, is_utf8}
use Rattle.std.proofs.lemmas.Fmt.{decimal_digit}
use Rattle.std.proofs.lemmas.Str.{IsUtf8-from_is_utf8}
use Rattle.std.proofs.lemmas.Option.{none-some, same_Some}
use Rattle.std.proofs.lemmas.List.Elements.{All-from_recursion}
use Rattle.spec_grammar.specs.declared.rule.Label.TheVariants.{Named}
use Rattle.spec_grammar.specs.declared.rule.Symbol.{Symbol}
use Rattle.spec_grammar.specs.declared.rule.Symbol.TheVariants.{Category, Kind}
use Rattle.spec_grammar.specs.declared.rule.Rule.{Rule as GrammarRule}
use Rattle.spec_grammar.specs.Trees.{leaf, node, no_trees, trees}
use Rattle.spec_grammar.specs.Derivation.{Derives}
use Rattle.spec_grammar.specs.Cycles.{StepsTo}
use Rattle.spec_grammar.proofs.DerivationLemmas.{AreFull, derives_grows}
use Rattle.spec_lexing.specs.declared.kind_def.KindDef.{KindDef}
use Rattle.spec_lexing.specs.declared.token.Token.{Token}
use Rattle.spec_lexing.specs.Tokens.{AreTokensOf, kinds_of}
use Rattle.spec_lexing.proofs.KindsLemmas.{tokens_of_is}
use Rattle.spec_lbnf.specs.declared.definition.RawItem.TheVariants.{Word}
use Rattle.spec_lbnf.specs.declared.definition.Def.{Def}
use Rattle.spec_lbnf.specs.declared.definition.Def.TheVariants.{Rule}
use Rattle.spec_lbnf.specs.Faults.{Spells}
use Rattle.spec_grammar.specs.Grammars.{Grammar, IsTokenNamed}
use Rattle.spec_lbnf.specs.Expansion.{expansion_of}
use Rattle.spec_lbnf.specs.Checks.{IsTaken, IsFree, HasOwnNames, own_names, IsKnown, IsWellLabelled, NamesKnown, AreFit}
use Rattle.lbnf_readers.specs.Scanning.{scan_of, behind_closing, behind_space, identifier_at, number_token_at, literal_from, string_at, character_at, sign_token_at, file_token_at, tokens_from}
use Rattle.lbnf_readers.specs.FileReading.{next_on, take_token, sign_at, name_at, text_at, number_at, closes_at, bracketed_at, category_at, nil_at, one_at, colon_label_at, paren_label_at, sign_label_at, label_at, item_at, items_at, side_at, rule_at, macro_at, list_macro_at, coercions_at, more_entries_at, entries_at, to_end, def_by, def_at}
use Rattle.lbnf_readers.specs.FileDefinitions.{piece_def, defs_at}
use Rattle.spec_lbnf.specs.Differences.{IsGood}
use Rattle.lbnf_readers.proofs.ScanLemmas.{scanned}
use Rattle.lbnf_readers.proofs.FaultLemmas.{defs_are}
use Rattle.spec_script.specs.declared.question.TokenSpan.{TokenSpan}
use Rattle.spec_script.specs.declared.question.TokenSpan.TheVariants.{Whole, Span}
use Rattle.spec_script.specs.Script.{Constituent, has, tree, tokens_in, ask}
use Rattle.spec_script.specs.declared.question.Constituent.TheVariants.{EntryWhole, NamedWhole}
use Rattle.spec_script.specs.declared.question.Constituent.TheVariants.{NamedSpan}
use Rattle.spec_session.specs.Lines.{as_line}
use Rattle.spec_session.specs.GrammarReplies.{IsAccepted}
use Rattle.spec_session.specs.Questions.{HasSymbol, IsOfSymbol, IsDerived, of_no_symbol, of_no_span}
use Rattle.spec_session.specs.TokenAnswers.{tokens_line, IsTokensAnswer, refused_tokens, tokens_told}
use Rattle.std.specs.Prelude.{nat_lt}
use Rattle.std.proofs.lemmas.Bool.Decides.{nat_tests}
use Rattle.spec_grammar.specs.Trees.{Tree}
use Rattle.spec_trees.specs.FirstTrees.{lesser_from_left, IsFirstTree}
use Rattle.spec_trees.specs.OrderLaws.{NoLesserCut}
use Rattle.spec_trees.proofs.EndsLemmas.{none_before_none, none_before_cut}
use Rattle.spec_session.specs.TreeAnswers.{IsFirstTreeOf, IsTreeAnswer, refused_tree, no_tree, printed_tree}
use Rattle.spec_session.specs.Answers.{IsHasAnswer, refused_has, yes, no}
use Rattle.spec_session.specs.Steps.{State, IsReply, answered}
use Rattle.spec_session_cases.proofs.StatesExample.{few_states}

-- the grammar's block
abbrev pub rule_block : List ℕ
rule_block = codes "A.S::=\"a\""

-- the definition that it spells
abbrev rule_def : Def
rule_def = Rule (record { label = Named (codes "A"); cat = record { name = codes "S"; depth = 0 }; items = Word (codes "a") ∷ [] })

abbrev rule_defs : List Def
rule_defs = rule_def ∷ []

-- the grammar that this stands for
abbrev pub rule_grammar : Grammar
rule_grammar = expansion_of rule_defs

-- so the block is read
spells : Spells rule_block rule_defs
unfolding encode_utf8 chars is_utf8 behind_closing behind_space identifier_at number_token_at literal_from string_at character_at sign_token_at file_token_at tokens_from next_on take_token sign_at name_at text_at number_at closes_at bracketed_at category_at nil_at one_at colon_label_at paren_label_at sign_label_at label_at item_at items_at side_at rule_at macro_at list_macro_at coercions_at more_entries_at entries_at to_end def_by def_at piece_def defs_at
spells =
    defs_are rule_block (scan_of rule_block).0 (scan_of rule_block).1 (scanned rule_block) rule_defs (record { few = omega arith; utf8 = IsUtf8-from_is_utf8 rule_block refl }) refl refl
    (All-from_recursion IsGood [] tt)

-- no name of a kind has one byte
own_name : IsTaken rule_defs 0 rule_def (codes "S") → ⊥
own_name (zero, lt, e) = omega (arith, ap length e)
own_name (suc zero, lt, e) = omega (arith, ap length e)
own_name (suc (suc zero), lt, e) = omega (arith, ap length e)
own_name (suc (suc (suc zero)), lt, e) = omega (arith, ap length e)
own_name (suc (suc (suc (suc zero))), lt, e) = omega (arith, ap length e)
own_name (suc (suc (suc (suc (suc k)))), lt, e) = omega (arith, lt)

-- so the definition repeats no name
own_free : HasOwnNames rule_defs
own_free zero def is =
    subst (λ d. All (IsFree rule_defs 0 d) (own_names d)) (same_Some rule_def def is)
    (All-from_recursion (IsFree rule_defs 0 rule_def) (codes "S" ∷ []) (own_name, tt))
own_free (suc number) def is = absurd (none-some def is)

-- the right side has no category
no_category : (before : List Symbol) (b : ℕ) (behind : List Symbol) → Kind 0 ∷ [] ≡ before ++ (Category b ∷ behind) → ⊥
no_category [] b behind e = cc e
no_category (x ∷ before) b behind e = omega (arith, ap length e, length-append before (Category b ∷ behind))

-- so no category steps to one
no_step : (a b : ℕ) → StepsTo rule_grammar.rules a b → ⊥
no_step a b s = by s.r s.is_rule
  where
    by : (r : ℕ) → slice_get rule_grammar.rules r ≡ Some s.rule → ⊥
    by zero is =
        no_category s.before b s.behind (ap (λ (x : GrammarRule). x.items) (same_Some _ s.rule is) ∙ s.is_item)
    by (suc r) is = none-some s.rule is

-- the definition passes all checks
fit : AreFit rule_defs
fit = record {
  labelled = All-from_recursion IsWellLabelled rule_defs ((λ bad. cc bad.0, λ bad. omega (arith, bad)), tt);
  few = omega arith;
  own_names = own_free;
  known = All-from_recursion (NamesKnown rule_defs) rule_defs (All-from_recursion (IsKnown rule_defs) [] tt, tt);
  acyclic = λ c is. no_step c is.1.0 is.1.1;
}

-- so the block is accepted
pub accepted : IsAccepted rule_block rule_grammar
accepted = (rule_defs, spells, record { fit = fit; few_states = few_states; few = omega arith }, refl)

-- the text's one token
abbrev pub one_token : List Token
one_token = record { kind = Some 0; first = 0; end = 1 } ∷ []

-- the lexer computes it
pub are_tokens : AreTokensOf rule_grammar.lexicon (codes "a") one_token
are_tokens = tokens_of_is rule_grammar.lexicon (codes "a") one_token refl

-- the category derives it
derived : Derives rule_grammar.rules (kinds_of one_token) (Category 0) 0 1
derived = (
  node 0 0 1 (trees (leaf 0 0 1) no_trees),
  (_, refl, refl, (_, _, _, refl, (refl, refl, refl, refl, refl), (refl, refl)), refl, refl),
)

-- no right side is empty
full : AreFull rule_grammar.rules
full zero other is empty = cc
full (suc r) other is empty = cc

-- the texts so far
abbrev pub one_text : State
one_text = record { texts = codes "a" ∷ [] }

-- the constituents of the questions
abbrev pub category_s : Constituent
category_s = NamedWhole (codes "S")

abbrev pub category_t : Constituent
category_t = NamedWhole (codes "T")

abbrev pub span_to : ℕ → Constituent
span_to end = NamedSpan (codes "S") 0 end

-- a question has the reply that is its answer
reply : (constituent : Constituent) (line : List ℕ) → IsHasAnswer rule_grammar one_token constituent line → IsReply rule_grammar one_text (ask (has constituent)) line one_text
reply constituent line answer = (answered (codes "a") one_token ([], refl) are_tokens answer, refl)

-- the entry and the category derive the text
pub entry_reply : IsReply rule_grammar one_text (ask (has EntryWhole)) (codes "yes\n") one_text
entry_reply =
    reply EntryWhole (codes "yes\n")
    (yes (omega arith, omega arith) (record { symbol = Category 0; is_symbol = refl; derives = derived }) refl)

pub category_reply : IsReply rule_grammar one_text (ask (has category_s)) (codes "yes\n") one_text
category_reply =
    reply category_s (codes "yes\n")
    (yes (omega arith, omega arith) (record { symbol = Category 0; is_symbol = refl; derives = derived }) refl)

-- the category derives no empty span
pub empty_reply : IsReply rule_grammar one_text (ask (has (span_to 0))) (codes "no\n") one_text
empty_reply =
    reply (span_to 0) (codes "no\n")
    (no (Category 0, refl) (omega arith, omega arith)
    (λ (d : IsDerived rule_grammar one_token (span_to 0)).
    omega (arith, derives_grows rule_grammar.rules (kinds_of one_token) full d.symbol 0 0 d.derives)) refl)

-- its first tree there
abbrev first_tree : Tree
first_tree = node 0 0 1 (trees (leaf 0 0 1) no_trees)

-- the one item ends nowhere before
no_cut : NoLesserCut nat_lt rule_grammar.rules (kinds_of one_token) (Kind 0) [] 0 1 1
no_cut zero lesser first (no_trees, are) = omega (arith, are.1)
no_cut zero lesser first (trees t ts, are) = absurd (omega (arith, ap length are.3))
no_cut (suc m) lesser first others = absurd (grind (arith, nat_tests, lesser))

is_first : IsFirstTree lesser_from_left rule_grammar.rules (kinds_of one_token) first_tree (Category 0) 0 1
is_first = (
  _,
  refl,
  refl,
  (_, _, _, refl, (refl, refl, refl, refl, refl), (refl, refl)),
  refl,
  refl,
  (λ lesser rule lt. absurd (omega (arith, lt))),
  none_before_cut nat_lt rule_grammar.rules (kinds_of one_token) (Kind 0) [] 0 1 1 [] no_cut
      (none_before_none nat_lt rule_grammar.rules (kinds_of one_token) [] 1 1),
)

-- so it is the entry's
entry_tree : IsFirstTreeOf rule_grammar one_token EntryWhole first_tree
entry_tree = record {
  known = (Category 0, refl);
  is_first = λ s is. subst (λ (x : Symbol). IsFirstTree lesser_from_left rule_grammar.rules (kinds_of one_token) first_tree x 0 1)
      (same_Some (Category 0) s is) is_first;
}

-- a question on a tree has the reply that is its answer
tree_reply : (constituent : Constituent) (line : List ℕ) →
    IsTreeAnswer rule_grammar (codes "a") one_token constituent line →
    IsReply rule_grammar one_text (ask (tree constituent)) line one_text
tree_reply constituent line answer = (answered (codes "a") one_token ([], refl) are_tokens answer, refl)

pub entry_tree_reply : IsReply rule_grammar one_text (ask (tree EntryWhole)) (codes "(A)\n") one_text
entry_tree_reply =
    tree_reply EntryWhole (codes "(A)\n")
    (printed_tree first_tree (omega arith, omega arith) entry_tree (omega arith) refl)

-- over an empty span there is none
pub no_tree_reply : IsReply rule_grammar one_text (ask (tree (span_to 0))) (codes "none\n") one_text
no_tree_reply =
    tree_reply (span_to 0) (codes "none\n")
    (no_tree (Category 0, refl) (omega arith, omega arith)
    (λ (d : IsDerived rule_grammar one_token (span_to 0)).
    omega (arith, derives_grows rule_grammar.rules (kinds_of one_token) full d.symbol 0 0 d.derives)) refl)

-- nothing has the name `T`: neither a category, nor the one kind, which is a word
no_other_category : (category : ℕ) → slice_get rule_grammar.categories category ≡ Some (codes "T") → ⊥
no_other_category zero is = omega (arith, ap (λ name. get_or name 0 0) (same_Some (codes "S") (codes "T") is))
no_other_category (suc category) is = none-some (codes "T") is

no_other_kind : (kind : ℕ) (def : KindDef) → slice_get rule_grammar.lexicon.kinds kind ≡ Some def →
    IsTokenNamed def (codes "T") → ⊥
no_other_kind zero def is named = subst (λ (d : KindDef). IsTokenNamed d (codes "T")) (sym (same_Some _ def is)) named
no_other_kind (suc kind) def is named = none-some def is

-- what has the name, over no span
abbrev pub backward_t : Constituent
backward_t = NamedSpan (codes "T") 1 0

no_other : (s : Symbol) → IsOfSymbol rule_grammar category_t s → ⊥
no_other (Category category) is = no_other_category category is
no_other (Kind kind) is = no_other_kind kind is.0 is.1 is.2

-- so a question on it is refused
pub unknown_reply : IsReply rule_grammar one_text (ask (has category_t)) (codes "refused category\n") one_text
unknown_reply =
    reply category_t (codes "refused category\n")
    (refused_has (of_no_symbol (λ (known : HasSymbol rule_grammar category_t). no_other known.0 known.1) refl))

pub unknown_tree_reply : IsReply rule_grammar one_text (ask (tree backward_t)) (codes "refused category\n") one_text
unknown_tree_reply =
    tree_reply backward_t (codes "refused category\n")
    (refused_tree (of_no_symbol (λ (known : HasSymbol rule_grammar backward_t). no_other known.0 known.1) refl))

-- the line that tells that the text has one token
outside_is : codes "refused span 1\n" ≡ codes "refused span " ++ as_line (decimal 1)
outside_is = ap (λ digits. codes "refused span " ++ as_line digits) (sym (decimal_digit 1 (omega arith)))

-- the text has no two tokens
pub outside_reply : IsReply rule_grammar one_text (ask (has (span_to 2))) (codes "refused span 1\n") one_text
outside_reply =
    reply (span_to 2) (codes "refused span 1\n")
    (refused_has (of_no_span (Category 0, refl) (inr (omega arith)) outside_is))

pub outside_tree_reply : IsReply rule_grammar one_text (ask (tree (span_to 2))) (codes "refused span 1\n") one_text
outside_tree_reply =
    tree_reply (span_to 2) (codes "refused span 1\n")
    (refused_tree (of_no_span (Category 0, refl) (inr (omega arith)) outside_is))

-- a question on tokens has the reply that is its answer
tokens_reply : (span : TokenSpan) (line : List ℕ) →
    IsTokensAnswer rule_grammar.lexicon.kinds (codes "a") one_token span line →
    IsReply rule_grammar one_text (ask (tokens_in span)) line one_text
tokens_reply span line answer = (answered (codes "a") one_token ([], refl) are_tokens answer, refl)

-- the text has the one token
pub all_tokens_reply : IsReply rule_grammar one_text (ask (tokens_in Whole)) (codes "tokens 1 word:a\n") one_text
all_tokens_reply =
    tokens_reply Whole (codes "tokens 1 word:a\n")
    (tokens_told (omega arith, omega arith)
    (ap (λ digits. codes "tokens " ++ as_line (digits ++ codes " word:a")) (sym (decimal_digit 1 (omega arith)))))

-- an empty span has none
pub no_tokens_reply : IsReply rule_grammar one_text (ask (tokens_in (Span 1 1))) (codes "tokens 0\n") one_text
no_tokens_reply =
    tokens_reply (Span 1 1) (codes "tokens 0\n")
    (tokens_told (omega arith, omega arith)
    (ap (λ digits. codes "tokens " ++ as_line (digits ++ [])) (sym (decimal_digit 0 (omega arith)))))

-- and two tokens are no span of it
pub tokens_outside_reply : IsReply rule_grammar one_text (ask (tokens_in (Span 0 2))) (codes "refused span 1\n") one_text
tokens_outside_reply =
    tokens_reply (Span 0 2) (codes "refused span 1\n") (refused_tokens (inr (omega arith)) outside_is)
