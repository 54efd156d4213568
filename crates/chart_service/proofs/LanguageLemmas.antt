-- Accepting a grammar or refusing it.
use Rattle.std.proofs.Common.{◌≡◌, ℕ, ◌⊎◌, inl, inr, List, [], ◌∷◌, length, All, Result, Some, Ok, Err, IfOk, IsErrAnd, ◌<◌, refl}
use Rattle.std.proofs.Common.{◌≤◌, arith, sym, ◌∙◌, ap, ap₂, subst}
use Rattle.std.specs.Prelude.{MatchResult}
use Rattle.std.specs.List.{flat_map, AllByRecursion}
use Rattle.std.specs.Str.{IsUtf8}
use Rattle.std.proofs.lemmas.Bool.{cases_lt}
use Rattle.std.proofs.lemmas.Option.{same_Some, none-some}
use Rattle.std.proofs.lemmas.List.Elements.{All-from_recursion, recursion_from_All}
use Rattle.spec_lexing.specs.declared.expression.Expr.{Expr}
use Rattle.spec_lexing.specs.declared.kind_def.KindDef.{KindDef}
use Rattle.spec_lexing.specs.Lexicon.{Lexicon}
use Rattle.spec_automata.specs.States.{HasTooManyStates}
use Rattle.spec_lbnf.specs.declared.definition.Def.{Def}
use Rattle.spec_lbnf.specs.declared.definition.Def.TheVariants as def
use Rattle.spec_grammar.specs.Grammars.{Grammar, HasDistinctNames, symbol_count}
use Rattle.spec_lbnf.specs.Expansion.{expansion_of, rules_of, words_of, token_in, tokens_of, kinds_by}
use Rattle.spec_lbnf.specs.Differences.{IsProper}
use Rattle.spec_lbnf.specs.Laws.{IsSoundToken}
use Rattle.spec_lbnf.proofs.DifferenceLemmas.{proper_defs}
use Rattle.spec_lbnf.proofs.SoundLemmas.{sound_kinds}
use Rattle.spec_lbnf.proofs.MemoryLemmas.{no_memory_fault}
use Rattle.spec_lbnf.proofs.SymbolNameLemmas.{one_symbol_each}
use Rattle.spec_lbnf.specs.declared.fault.TextFault.{TextFault}
use Rattle.spec_lbnf.specs.declared.fault.TextFault.TheVariants.{TooLarge}
use Rattle.spec_lbnf.specs.declared.fault.TextFault.TheVariants as file
use Rattle.spec_lbnf.specs.declared.fault.GrammarFault.{GrammarFault}
use Rattle.spec_lbnf.specs.declared.fault.GrammarFault.TheVariants as made
use Rattle.spec_lbnf.specs.Faults.{IsFirstFault, Spells, is_large}
use Rattle.spec_lbnf.specs.Checks.{AreFit, IsUnfit}
use Rattle.spec_session.specs.GrammarReplies.{IsAccepted, IsRefused, IsRefusedFor, AreAccepted, faulty, unfit}
use Rattle.spec_session.specs.GrammarReplies.{too_many_states, too_many_symbols, fault_reason, unfit_reason}
use Rattle.spec_session.specs.GrammarReplies.{states_reason, symbols_reason}
use Rattle.lbnf_text.specs.Reading.{ReadsDefs}
use Rattle.lbnf_grammar.specs.Grammars.{Expands}
use Rattle.lbnf_regex.specs.Automata.{Machine}
use Rattle.lbnf_regex.specs.Lexicons.{IsAutomatonOf, lexicon_with}
use Rattle.lbnf_regex.specs.declared.lex_fault.LexFault.{LexFault}
use Rattle.lbnf_regex.specs.declared.lex_fault.LexFault.TheVariants.{Memory as LexMemory, TooManyStates}
use Rattle.text_store.specs.TextStore.{AreUtf8, IsSoundForTexts}
use Rattle.binary_form.specs.BinaryForm.{MakesBinary}
use Rattle.binary_form.specs.declared.fault.BinaryFault.{BinaryFault}
use Rattle.binary_form.specs.declared.fault.BinaryFault.TheVariants.{Memory as BinaryMemory, TooManySymbols}
use Rattle.chart_service.specs.declared.accepting.LanguageFault.{LanguageFault}
use Rattle.chart_service.specs.declared.accepting.LanguageFault.TheVariants.{Memory, Text, Lex, Binary}
use Rattle.chart_service.specs.declared.accepting.LanguageFault.TheVariants.{Grammar as UnfitGrammar}
use Rattle.chart_service.specs.Languages.{CanOpen, IsFaultOf, MakesLexer, reason_of, IsRefusal}
use Rattle.chart_service.specs.Languages.{of_text, of_unfit, of_lex, of_binary}
use Rattle.chart_service.specs.KnownTexts.{IsUtf8Word, AreSoundByWords}

-- a count is within this room or above 2,048, which is no more than the room
pub room_or_many : (count room : ℕ) → 2048 ≤ room → (count ≤ room) ⊎ (2048 < count)
room_or_many count room enough = elim (cases_lt 2048 count) [
  | inl many ↦ inr many
  | inr few ↦ inl (omega (arith, few, enough))
]

-- words are UTF-8 where those among the kinds that they give are
words_utf8 : (words : List (List ℕ)) (tokens : List (List ℕ × Expr)) → AllByRecursion IsUtf8Word (kinds_by words tokens)
    → AllByRecursion IsUtf8 words
words_utf8 [] tokens all = tt
words_utf8 (word ∷ words) tokens all = (all.0, words_utf8 words tokens all.1)

-- the tokens of proper definitions are sound
tokens_sound : (defs : List Def) → AllByRecursion IsProper defs → AllByRecursion IsSoundToken (flat_map token_in defs)
tokens_sound [] all = tt
tokens_sound (def.Rule rule ∷ defs) all = tokens_sound defs all.1
tokens_sound (def.Internal rule ∷ defs) all = tokens_sound defs all.1
tokens_sound (def.Terminator nonempty cat word ∷ defs) all = tokens_sound defs all.1
tokens_sound (def.Separator nonempty cat word ∷ defs) all = tokens_sound defs all.1
tokens_sound (def.Coercions name levels ∷ defs) all = tokens_sound defs all.1
tokens_sound (def.Entry cats ∷ defs) all = tokens_sound defs all.1
tokens_sound (def.Token name expr ∷ defs) all = (all.0, tokens_sound defs all.1)
tokens_sound (def.LineComment opening ∷ defs) all = tokens_sound defs all.1
tokens_sound (def.BlockComment opening closing ∷ defs) all = tokens_sound defs all.1

-- the kinds of the grammar that spelled definitions stand for are sound, where its words are UTF-8
pub kinds_sound : (block : List ℕ) (defs : List Def) (g : Grammar) → Spells block defs → g ≡ expansion_of defs
    → AreSoundByWords g.lexicon.kinds
kinds_sound block defs g spells e =
    let words : List (List ℕ) = words_of (rules_of defs) in
    let sound : AllByRecursion IsSoundToken (flat_map token_in defs)
    = tokens_sound defs (recursion_from_All IsProper defs (proper_defs block defs spells)) in
    subst (λ (x : Grammar). AreSoundByWords x.lexicon.kinds) (sym e)
    (λ known. sound_kinds defs
    (All-from_recursion IsUtf8 words
    (words_utf8 words (tokens_of defs) (recursion_from_All IsUtf8Word (kinds_by words (tokens_of defs)) known)))
    (All-from_recursion IsSoundToken (flat_map token_in defs) sound))

-- and no two symbols of it have one name, where the definitions are fit
spelled_distinct : (defs : List Def) → AreFit defs → (g : Grammar) → g ≡ expansion_of defs → HasDistinctNames g
spelled_distinct defs fit g e = subst HasDistinctNames (sym e) (one_symbol_each defs fit.own_names)

-- an automaton of a lexicon that is sound lexes texts as the lexicon does
lexed_with : (lexicon : Lexicon) → IsSoundForTexts lexicon → (r : Result Machine LexFault) → IfOk r (IsAutomatonOf lexicon)
    → IfOk r (λ a. HasTooManyStates lexicon → ⊥) → (r ≡ Err TooManyStates → HasTooManyStates lexicon)
    → MakesLexer lexicon r
lexed_with lexicon sound (Ok a) is few many = (few, ∣ record { automaton = is; sound = sound } ∣₁)
lexed_with lexicon sound (Err LexMemory) is few many = tt
lexed_with lexicon sound (Err TooManyStates) is few many = many refl

-- so does that of the lexicon's comments and kinds, whose words are UTF-8
pub lexer_made : (lexicon : Lexicon) (lines : List (List ℕ)) (blocks : List (List ℕ × List ℕ)) (kinds : List KindDef)
    → lines ≡ lexicon.line_comments → blocks ≡ lexicon.block_comments → kinds ≡ lexicon.kinds
    → All IsUtf8 lines → All AreUtf8 blocks → All IsUtf8Word kinds → AreSoundByWords lexicon.kinds
    → (r : Result Machine LexFault) → IfOk r (IsAutomatonOf (lexicon_with lines blocks kinds))
    → IfOk r (λ a. HasTooManyStates (lexicon_with lines blocks kinds) → ⊥)
    → (r ≡ Err TooManyStates → HasTooManyStates (lexicon_with lines blocks kinds))
    → MakesLexer lexicon r
lexer_made lexicon lines blocks kinds lines_are blocks_are kinds_are lines_known blocks_known words_known sound r is few many =
    let same : lexicon_with lines blocks kinds ≡ lexicon
    = ap₂ (λ ls bs. lexicon_with ls bs kinds) lines_are blocks_are
    ∙ ap (λ ks. lexicon_with lexicon.line_comments lexicon.block_comments ks) kinds_are in
    let all : IsSoundForTexts (lexicon_with lines blocks kinds) = record {
      lines = lines_known;
      blocks = blocks_known;
      kinds = subst AreSoundByWords (sym kinds_are) sound words_known;
    } in
    subst (λ (x : Lexicon). MakesLexer x r) same (lexed_with (lexicon_with lines blocks kinds) all r is few many)

-- what was read and expanded: the grammar of what a block spells, where the definitions are fit
module _ (block : List ℕ) (defs : List Def) (g : Grammar) (spells : Spells block defs) (fit : AreFit defs)
    (e : g ≡ expansion_of defs) where
  -- there are few states, where there is an automaton
  few_states : (a : Machine) → MakesLexer g.lexicon (Ok a) → HasTooManyStates (expansion_of defs).lexicon → ⊥
  few_states a lexer = subst (λ (x : Grammar). HasTooManyStates x.lexicon → ⊥) e lexer.0

  -- it is accepted, where there are an automaton and a binary form
  pub accepted : (a : Machine) → MakesLexer g.lexicon (Ok a) → (binary own : Grammar) → MakesBinary g (Ok binary)
      → own ≡ g → IsAccepted block own
  accepted a lexer binary own made same =
      let all : AreAccepted defs = record {
        fit = fit;
        few_states = few_states a lexer;
        few = subst (λ (x : Grammar). symbol_count x ≤ 2048) e made.0;
      } in
      (defs, spells, all, same ∙ e)

  -- where there is no automaton, the fault is that of what the block spells
  pub no_automaton : (fault : LexFault) → MakesLexer g.lexicon (Err fault) → IsFaultOf block (of_lex fault)
  no_automaton LexMemory made = spells.form.small
  no_automaton TooManyStates made = (defs, spells, fit, subst (λ (x : Grammar). HasTooManyStates x.lexicon) e made)

  -- so it is where there is no binary form
  pub no_form : (a : Machine) → MakesLexer g.lexicon (Ok a) → (fault : BinaryFault) → MakesBinary g (Err fault)
      → IsFaultOf block (of_binary fault)
  no_form a lexer BinaryMemory made = spells.form.small
  no_form a lexer (TooManySymbols count) made =
      let IsMade : Grammar → Type 0 = λ x. MakesBinary x (Err (TooManySymbols count)) in
      let many : IsMade (expansion_of defs) = subst IsMade e made in
      (defs, spells, fit, few_states a lexer, many.0, many.1)

  -- texts can be opened under a grammar that has a binary form
  pub can_open : (room : ℕ) (binary own : Grammar) → 2048 ≤ room → MakesBinary g (Ok binary) → own ≡ g
      → CanOpen room own
  can_open room binary own enough made same = record {
    names = spelled_distinct defs fit own (same ∙ e);
    few = omega (arith, enough, subst (λ (x : Grammar). symbol_count x ≤ 2048) (sym same) made.0);
  }

-- the fault that is told is that of a layer, as one of the language
pub fault_told : {X E : Type 0} → (Q : X → Type 0) → (P : E → Type 0) → (e : E) → (r : Result X E)
    → IsErrAnd r (λ x. x ≡ e) → P e → MatchResult r Q P
fault_told Q P e (Ok x) h p = absurd h
fault_told Q P e (Err x) h p = subst P (sym h) p

-- the first fault of a block is one of its language
first_fault : (block : List ℕ) (fault : TextFault) → IsFirstFault block fault → IsFaultOf block (of_text fault)
first_fault block file.Memory first = absurd (no_memory_fault block first)
first_fault block (file.TooLarge count) first = first
first_fault block (file.NotUtf8 at) first = first
first_fault block (file.Syntax at) first = first
first_fault block (file.Unsupported word at) first = first
first_fault block (file.BadDifference at) first = first

-- where a block is not read, this is its first fault, or memory ran out
pub not_read : (block : List ℕ) (fault : TextFault) → ReadsDefs block (Err fault) → IsFaultOf block (of_text fault)
not_read block fault read = elim read [
  | inl memory ↦ subst (λ (f : TextFault). IsFaultOf block (of_text f)) (sym memory.0) memory.1
  | inr first ↦ first_fault block fault first
]

-- what a block spells, where it is unfit: this is why, or memory ran out
module _ (block : List ℕ) (defs : List Def) (spells : Spells block defs) where
  unfit_for : (fault : GrammarFault) → IsUnfit defs fault → IsFaultOf block (of_unfit fault)
  unfit_for made.Memory why = spells.form.small
  unfit_for (made.BadCoercion number) why = (defs, spells, why)
  unfit_for (made.BadList number) why = (defs, spells, why)
  unfit_for (made.TooManyRules count) why = (defs, spells, why)
  unfit_for (made.RepeatedToken name) why = (defs, spells, why)
  unfit_for (made.UnknownCategory name number) why = (defs, spells, why)
  unfit_for (made.Cyclic name) why = (defs, spells, why)

  pub no_grammar : (fault : GrammarFault) → Expands defs (Err fault) → IsFaultOf block (of_unfit fault)
  no_grammar fault made = elim made [
    | inl memory ↦ subst (λ (f : GrammarFault). IsFaultOf block (of_unfit f)) (sym memory.0) spells.form.small
    | inr why ↦ unfit_for fault why
  ]

-- a block of too many bytes has this as its first fault
pub too_long : (block : List ℕ) (count : ℕ) → count ≡ length block → 65536 < count
    → IsFaultOf block (Text (TooLarge count))
too_long block count is many = is_large (omega (arith, is, many)) (ap TooLarge is)

-- the reason that is told of a fault of a file is its reason
text_reason : (fault : TextFault) (reason : List ℕ) → reason_of (Text fault) ≡ Some reason → reason ≡ fault_reason fault
text_reason file.Memory reason is = absurd (none-some reason is)
text_reason (file.TooLarge count) reason is = sym (same_Some _ reason is)
text_reason (file.NotUtf8 at) reason is = sym (same_Some _ reason is)
text_reason (file.Syntax at) reason is = sym (same_Some _ reason is)
text_reason (file.Unsupported word at) reason is = sym (same_Some _ reason is)
text_reason (file.BadDifference at) reason is = sym (same_Some _ reason is)

-- the reason that is told of unfit definitions is that of their fault
grammar_reason : (fault : GrammarFault) (reason : List ℕ) → reason_of (UnfitGrammar fault) ≡ Some reason → reason ≡ unfit_reason fault
grammar_reason made.Memory reason is = absurd (none-some reason is)
grammar_reason (made.BadCoercion number) reason is = sym (same_Some _ reason is)
grammar_reason (made.BadList number) reason is = sym (same_Some _ reason is)
grammar_reason (made.TooManyRules count) reason is = sym (same_Some _ reason is)
grammar_reason (made.RepeatedToken name) reason is = sym (same_Some _ reason is)
grammar_reason (made.UnknownCategory name number) reason is = sym (same_Some _ reason is)
grammar_reason (made.Cyclic name) reason is = sym (same_Some _ reason is)

-- the reason that is told is one for which the block is refused
reason_is : (block : List ℕ) (fault : LanguageFault) (reason : List ℕ) → IsFaultOf block fault
    → reason_of fault ≡ Some reason → IsRefusedFor block reason
reason_is block Memory reason small is = absurd (none-some reason is)
reason_is block (Text fault) reason first is = faulty fault first (text_reason fault reason is)
reason_is block (UnfitGrammar fault) reason h is = unfit h.0 fault h.1 h.2 (grammar_reason fault reason is)
reason_is block (Lex LexMemory) reason h is = absurd h
reason_is block (Lex TooManyStates) reason h is =
    too_many_states h.0 h.1 h.2 h.3 (sym (same_Some states_reason reason is))
reason_is block (Binary BinaryMemory) reason h is = absurd h
reason_is block (Binary (TooManySymbols count)) reason h is =
    too_many_symbols h.0 h.1 h.2 h.3 (omega (arith, h.4, h.5))
    (sym (same_Some (symbols_reason count) reason is) ∙ ap symbols_reason h.4)

-- the line that refuses is the fault's
pub refusal_is : (block : List ℕ) (fault : LanguageFault) (line : List ℕ) → IsFaultOf block fault
    → IsRefusal fault line → IsRefused block line
refusal_is block fault line h (reason, is, whole) = (reason, reason_is block fault reason h is, whole)
