-- What the chart has is what the grammar derives, and an empty span is derived where the symbol is nullable.
use Rattle.std.proofs.Common.{◌≡◌, ℕ, ◌<◌, ◌≤◌, ◌↔◌, List, [], length, Bool, true, false, Option, Result, Ok, Err, IfOk, String, string_bytes, IsTrue, Contains, refl, sym, ◌∙◌, subst, ap, arith}
use Rattle.std.proofs.lemmas.List.{length-map}
use Rattle.std.specs.declared.alloc.Global.{Global}
use Rattle.spec_grammar.specs.declared.rule.Symbol.{Symbol}
use Rattle.spec_grammar.specs.Derivation.{Derives}
use Rattle.spec_grammar.specs.Grammars.{Grammar, IsSymbolOf}
use Rattle.spec_grammar.proofs.DerivationLemmas.{nullable_derives}
use Rattle.spec_lexing.specs.declared.token.Token.{Token}
use Rattle.spec_lexing.specs.Tokens.{kinds_of}
use Rattle.cell_sets.specs.Grids.{entry}
use Rattle.binary_form.specs.Symbols.{BinarySymbol, plain, BinaryDerives, symbol_number}
use Rattle.binary_form.specs.BinaryForm.{IsNumberOf, IsNullableNumber}
use Rattle.binary_form.proofs.NumberLemmas.{number_is_one}
use Rattle.valiant.specs.Charts.{ChartValue, IsChartOf}
use Rattle.spec_grammar.specs.Trees.{Tree}
use Rattle.spec_grammar.specs.Derivation.{IsParseTree}
use Rattle.spec_trees.specs.FirstTrees.{lesser_from_left, IsFirstTree}
use Rattle.spec_trees.proofs.FirstTreeLemmas.{first_is_parse_tree}
use Rattle.spec_script.specs.Script.{Constituent}
use Rattle.spec_session.specs.Questions.{first_of, end_of, IsWithin, IsDerived, IsQuestionRefused}
use Rattle.spec_session.specs.TreeAnswers.{IsFirstTreeOf, no_tree, large_tree, printed_tree}
use Rattle.spec_session.specs.Answers.{IsHasAnswer, yes, no}
use Rattle.spec_session.proofs.TreeLemmas.{one_symbol, first_of_symbol}
use Rattle.first_tree.specs.Answers.{TellsFirst}
use Rattle.first_tree.specs.declared.answer.First.{First}
use Rattle.first_tree.specs.declared.answer.First.TheVariants.{Tree as Found, Nothing, Large}
use Rattle.chart_service.specs.declared.answering.SymbolSpan.{SymbolSpan}
use Rattle.chart_service.specs.declared.reply.Reply.{Reply}
use Rattle.chart_service.specs.Answering.{IsSpanOf, has_line, RepliesWith, AnswersTree}
use Rattle.chart_service.specs.Sessions.{IsOpened}

-- what holds of the bytes of a line holds of the line that is made of them
pub line_is : {E : Type 0} → (P : List ℕ → Type 0) (bytes : List ℕ) → P bytes → (line : Result (String Global) E)
    → IfOk line (λ text. string_bytes text ≡ bytes) → IfOk line (λ text. P (string_bytes text))
line_is P bytes h (Ok text) e = subst P (sym e) h
line_is P bytes h (Err error) e = e

-- the chart of a text is that of its own kinds
pub own_chart : (g : Grammar) (chart : ChartValue) (text : List ℕ) (tokens : List Token)
    → IsOpened g chart text tokens → IsChartOf g chart.kinds chart
own_chart g chart text tokens o =
    subst (λ (kinds : List (Option ℕ)). IsChartOf g kinds chart) (sym (o.is_chart).same_kinds) o.is_chart

module _ (g : Grammar) (chart : ChartValue) (text : List ℕ) (tokens : List Token)
    (o : IsOpened g chart text tokens) (s : Symbol) (own : IsSymbolOf g s)
    (number : ℕ) (is_number : number ≡ symbol_number g (plain s)) where
  -- the number is the symbol's
  is_its : IsNumberOf g (plain s) number
  is_its = (own, sym is_number)

  -- what is derived by a symbol of this number is derived by the symbol
  of_number : (first end : ℕ)
      → ((a : BinarySymbol) × IsNumberOf g a number × BinaryDerives g.rules (kinds_of tokens) a first end)
      → Derives g.rules (kinds_of tokens) s first end
  of_number first end found =
      let same : found.0 ≡ plain s = number_is_one g found.0 (plain s) number found.1 is_its in
      let P : BinarySymbol → Type 0 = λ a. BinaryDerives g.rules (kinds_of tokens) a first end in
      subst P same found.2

  -- over a span that is not empty the entry decides
  pub entry_derives : (found : Bool) (first end : ℕ) → first < end → end ≤ length chart.kinds
      → IsTrue found ↔ Contains (entry chart.entries first end) number
      → IsTrue found ↔ Derives g.rules (kinds_of tokens) s first end
  entry_derives found first end lt within h =
      let inside : end ≤ length (kinds_of tokens) = omega (arith, within, ap length (o.is_chart).same_kinds) in
      let exact = (o.is_chart).exact first end lt inside number in
      ((λ t. of_number first end (exact.0 (h.0 t))), (λ d. h.1 (exact.1 (plain s, is_its, d))))

  -- over an empty span the symbol derives it where it is nullable
  pub empty_derives : (found : Bool) (first end : ℕ) → first ≤ end → end ≤ first
      → IsTrue found ↔ IsNullableNumber g number
      → IsTrue found ↔ Derives g.rules (kinds_of tokens) s first end
  empty_derives found first end le ge h =
      let same : first ≡ end = omega (arith, le, ge) in
      let nullable = nullable_derives g.rules (kinds_of tokens) s first in
      let P : ℕ → Type 0 = λ n. Derives g.rules (kinds_of tokens) s first n in (
        (λ t. let found = h.0 t in
            let same_symbol : found.0 ≡ plain s = number_is_one g found.0 (plain s) number found.1 is_its in
            let Q : BinarySymbol → Type 0 = λ a. BinaryDerives g.rules [] a 0 0 in
            subst P same (nullable.0 (subst Q same_symbol found.2))),
        (λ d. h.1 (plain s, is_its, nullable.1 (subst P (sym same) d))),
      )

-- where the constituent is this symbol over this span of a text that is opened
module _ (g : Grammar) (chart : ChartValue) (text : List ℕ) (tokens : List Token)
    (o : IsOpened g chart text tokens) (constituent : Constituent) (size : ℕ)
    (size_is : size ≡ length chart.kinds) where
  all_tokens : size ≡ length tokens
  all_tokens = size_is ∙ ap length (o.is_chart).same_kinds ∙ length-map tokens (λ (token : Token). token.kind)

  -- a question that is refused by the count of the chart is refused by that of the tokens
  pub refused_here : (line : List ℕ) → IsQuestionRefused g size constituent line
      → IsQuestionRefused g (length tokens) constituent line
  refused_here line h = subst (λ n. IsQuestionRefused g n constituent line) all_tokens h

  module _ (asked : SymbolSpan) (told : IsSpanOf g size constituent asked) where
    within : IsWithin (length tokens) constituent
    within = subst (λ n. IsWithin n constituent) all_tokens told.is_within

    ends : asked.end ≡ end_of (length tokens) constituent
    ends = told.same_end ∙ ap (λ n. end_of n constituent) all_tokens

    -- what holds of the span from first to end holds of the constituent's
    over : (P : ℕ → ℕ → Type 0) → P asked.first asked.end → P (first_of constituent) (end_of (length tokens) constituent)
    over P h = subst (P (first_of constituent)) ends (subst (λ i. P i asked.end) told.same_first h)

    -- and the other way round
    back : (P : ℕ → ℕ → Type 0) → P (first_of constituent) (end_of (length tokens) constituent) → P asked.first asked.end
    back P h = subst (λ i. P i asked.end) (sym told.same_first) (subst (P (first_of constituent)) (sym ends) h)

    derived_there : Derives g.rules (kinds_of tokens) asked.symbol asked.first asked.end
        → IsDerived g tokens constituent
    derived_there d = record {
      symbol = asked.symbol;
      is_symbol = told.is_symbol;
      derives = over (Derives g.rules (kinds_of tokens) asked.symbol) d;
    }

    derived_here : IsDerived g tokens constituent
        → Derives g.rules (kinds_of tokens) asked.symbol asked.first asked.end
    derived_here d =
        let same : d.symbol ≡ asked.symbol
        = one_symbol g o.names constituent d.symbol asked.symbol d.is_symbol told.is_symbol in
        let P : Symbol → Type 0 = λ s. Derives g.rules (kinds_of tokens) s (first_of constituent)
        (end_of (length tokens) constituent) in
        back (Derives g.rules (kinds_of tokens) asked.symbol) (subst P same d.derives)

    -- the line answers whether it is derived
    pub has_is : (found : Bool) → IsTrue found ↔ Derives g.rules (kinds_of tokens) asked.symbol asked.first asked.end
        → IsHasAnswer g tokens constituent (has_line found)
    has_is true h = yes within (derived_there (h.0 refl)) refl
    has_is false h =
        no (asked.symbol, told.is_symbol) within
        (λ d. let never : false ≡ true = h.1 (derived_here d) in cc) refl

    -- a first tree of the symbol is the constituent's
    first_there : (t : Tree) → IsFirstTree lesser_from_left g.rules chart.kinds t asked.symbol asked.first asked.end
        → IsFirstTreeOf g tokens constituent t
    first_there t first =
        let here : IsFirstTree lesser_from_left g.rules (kinds_of tokens) t asked.symbol asked.first asked.end
        = subst (λ (kinds : List (Option ℕ)). IsFirstTree lesser_from_left g.rules kinds t asked.symbol asked.first asked.end)
        (o.is_chart).same_kinds first in
        first_of_symbol g tokens constituent o.names asked.symbol told.is_symbol t
        (over (IsFirstTree lesser_from_left g.rules (kinds_of tokens) t asked.symbol) here)

    -- what was found of it is told by the reply
    pub tree_is : (found : First) → TellsFirst g.rules chart.kinds asked.symbol asked.first asked.end found
        → (reply : Reply) → RepliesWith found reply → AnswersTree g text tokens constituent reply
    tree_is (Found t) (first, few) reply e =
        let P : Reply → Type 0 = AnswersTree g text tokens constituent in
        let is_tree = first_is_parse_tree g.rules chart.kinds lesser_from_left t asked.symbol asked.first asked.end first in
        let parses : IsParseTree g.rules (kinds_of tokens) t asked.symbol asked.first asked.end
        = subst (λ (kinds : List (Option ℕ)). IsParseTree g.rules kinds t asked.symbol asked.first asked.end)
        (o.is_chart).same_kinds is_tree in
        subst P (sym e) (
          printed_tree t within (first_there t first) few refl,
          (asked.symbol, asked.first, asked.end, parses),
        )
    tree_is Nothing never reply (line, e, is) =
        let P : Reply → Type 0 = AnswersTree g text tokens constituent in
        let Q : List (Option ℕ) → Type 0 = λ kinds. Derives g.rules kinds asked.symbol asked.first asked.end in
        subst P (sym e) (
          no_tree (asked.symbol, told.is_symbol) within
              (λ d. never (subst Q (sym (o.is_chart).same_kinds) (derived_here d))) is,
          tt,
        )
    tree_is Large (t, first, many) reply (line, e, is) =
        let P : Reply → Type 0 = AnswersTree g text tokens constituent in
        subst P (sym e) (large_tree t within (first_there t first) many is, tt)
