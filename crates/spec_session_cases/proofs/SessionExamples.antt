-- Sessions over a grammar of one rule, `A. S ::= "a"`, and the text `a`, worked by hand.
use Rattle.std.proofs.Common.{◌≡◌, ℕ, ◌+◌, ◌^◌, ◌<◌, List, [], ◌∷◌, ◌++◌, length, drop, codes, decimal, refl, sym, ◌∙◌, ap, subst, arith, get_or, length-append}
use Rattle.std.proofs.lemmas.Fmt.{decimal_digit, decimal-digits_value}
use Rattle.std.specs.Str.{IsAscii}
use Rattle.std.proofs.lemmas.Str.Ascii.{IsAscii-from_all}
use Rattle.std.proofs.lemmas.List.Elements.{All-from_recursion}
use Rattle.spec_script.specs.Script.{any_order, Constituent, Query, has, tree, tokens_in, Command, opens, edits, ask, Part, header, grammar}
use Rattle.spec_script.specs.Script.{of_command, Script, with_grammar, as_parts, text_of}
use Rattle.spec_script.specs.Script.{line_of, IsWord, IsNameable, IsWithinLimits}
use Rattle.spec_script.specs.Script.{MayFollow, BeginsWithParts, BeginsWithScript, EndsAs, Ending}
use Rattle.spec_script.specs.Script.{ended, broken, IsScript, IsNoForm, no_form}
use Rattle.spec_script.specs.declared.question.Constituent.TheVariants.{EntryWhole}
use Rattle.spec_script.specs.declared.question.TokenSpan.TheVariants.{Whole, Span}
use Rattle.spec_session.specs.Lines.{as_line}
use Rattle.spec_session.specs.GrammarReplies.{grammar_reply}
use Rattle.spec_session.specs.Steps.{version_reply, no_texts, IsReply, opened, open_already}
use Rattle.spec_session.specs.TextRefusals.{IsFitText, HasTokens}
use Rattle.std.proofs.lemmas.Str.{IsUtf8-from_ascii}
use Rattle.spec_session.specs.Runs.{AreReplies}
use Rattle.spec_session.specs.Sessions.{serve_mode, AreAllReplies, last_line, last_status, IsSession, whole}
use Rattle.spec_session.specs.Checking.{lines_from, bare_form, check_mode}
use Rattle.spec_session_cases.specs.Examples.{front, front_replies}
use Rattle.spec_script.proofs.ScriptLemmas.{model}
use Rattle.spec_session.proofs.RunLemmas.{AreTold, replies_told}
use Rattle.spec_session_cases.proofs.ExamplesLemmas.{broken_line, digits_of, clean}
use Rattle.spec_session_cases.proofs.GrammarExample.{rule_block, rule_grammar, accepted, one_token, are_tokens, one_text, category_s, category_t, span_to, entry_reply, category_reply, empty_reply, unknown_reply, outside_reply, all_tokens_reply, no_tokens_reply, tokens_outside_reply, backward_t, entry_tree_reply, no_tree_reply, unknown_tree_reply, outside_tree_reply}

-- the answer to a question comes before those to others
told : (query : Query) (line rest : List ℕ) (questions : List Command) →
    IsReply rule_grammar one_text (ask query) line one_text → AreTold rule_grammar one_text questions rest →
    AreTold rule_grammar one_text (ask query ∷ questions) (line ++ rest)
told query line rest questions is others = (line, rest, one_text, is, refl, others)

-- a part that has these bytes stands before other parts
next : (part : Part) (bytes : List ℕ) (at end : ℕ) (parts : List Part) (more rest : List ℕ) →
    text_of part ≡ bytes → at < 2 ^ 48 → IsWithinLimits part →
    BeginsWithParts (at + length bytes) more parts end rest → BeginsWithParts at (bytes ++ more) (part ∷ parts) end rest
next part bytes at end parts more rest is early within begins = (
  more,
  early,
  within,
  ap (λ front. front ++ more) (sym is),
  subst (λ (front : List ℕ). BeginsWithParts (at + length front) more parts end rest) (sym is) begins,
)

-- the reply to the grammar
abbrev counts : List ℕ
counts = codes "grammar rules 1 categories 1 kinds 1\n"

counts_are : counts ≡ grammar_reply rule_grammar
counts_are =
    ap (λ digits. codes "grammar rules " ++ (digits ++ (codes " categories " ++ (digits ++ (codes " kinds " ++ as_line digits)))))
    (sym (decimal_digit 1 (omega arith)))

-- the reply to the text
abbrev version : List ℕ
version = codes "version 0 tokens 1\n"

version_is : version ≡ version_reply 0 1
version_is =
    ap (λ digits. codes "version " ++ (digits ++ codes " tokens 1\n")) (sym (decimal_digit 0 (omega arith)))
    ∙ ap (λ digits. codes "version " ++ (decimal 0 ++ (codes " tokens " ++ as_line digits))) (sym (decimal_digit 1 (omega arith)))

-- the script of these questions
abbrev script_with : List Command → Script
script_with questions = with_grammar rule_block (opens (codes "a") ∷ questions)

-- where questions have these bytes and these answers, and the script ends so behind them
module _ (questions : List Command) (asked answers last : List ℕ) (at : ℕ) (rest : List ℕ) (ending : Ending)
    (begins : BeginsWithParts 38 asked (as_parts questions) at rest)
    (replies : AreTold rule_grammar one_text questions answers)
    (ends : EndsAs any_order (script_with questions) at rest ending) (last_is : last ≡ last_line ending) where
  ascii : IsAscii (codes "a")
  ascii = IsAscii-from_all (codes "a") (All-from_recursion (λ (byte : ℕ). byte < 128) (codes "a") (omega arith, tt))

  -- the text fits, and so do its tokens
  fit_text : IsFitText (codes "a")
  fit_text = record { few = omega arith; utf8 = IsUtf8-from_ascii (codes "a") ascii }

  has_tokens : HasTokens rule_grammar.lexicon (codes "a") one_token
  has_tokens = record { are_tokens = are_tokens; few = omega arith }

  -- the input begins with the script
  begins_all : BeginsWithScript (front ++ asked) (script_with questions) at rest
  begins_all =
      next header (codes "script 1\n") 0 at (grammar rule_block ∷ as_parts (opens (codes "a") ∷ questions)) _ rest refl (omega arith) tt
      (next (grammar rule_block) (codes "grammar 9\nA.S::=\"a\"\n") 9 at (as_parts (opens (codes "a") ∷ questions)) _ rest
      (ap (λ digits. (codes "grammar " ++ digits) ++ (10 ∷ (rule_block ++ 10 ∷ []))) (decimal_digit 9 (omega arith)))
      (omega arith) (omega arith)
      (next (of_command (opens (codes "a"))) (codes "open 1\na\n") 29 at (as_parts questions) asked rest
      (ap (λ digits. (codes "open " ++ digits) ++ codes "\na\n") (decimal_digit 1 (omega arith)))
      (omega arith) (omega arith) begins))

  -- the text and the questions have these replies
  all_replies : AreReplies rule_grammar no_texts (opens (codes "a") ∷ questions) (version ++ answers)
  all_replies =
      replies_told rule_grammar no_texts (opens (codes "a") ∷ questions) (version ++ answers)
      (version, answers, one_text, opened one_token refl fit_text has_tokens version_is refl, refl, replies)

  -- the session is these replies and the last line
  pub small_session : IsSession serve_mode (front ++ asked) (front_replies ++ (answers ++ last)) (last_status ending)
  small_session =
      let script : IsScript any_order (front ++ asked) (script_with questions) ending =
      record { at = at; rest = rest; in_order = tt; begins = begins_all; ends = ends } in
      let told_all : List ℕ = grammar_reply rule_grammar ++ (version ++ answers) in
      let out_is : front_replies ++ (answers ++ last) ≡ told_all ++ last_line ending =
      ap (λ bytes. (bytes ++ (version ++ answers)) ++ last) counts_are
      ∙ ap (λ bytes. told_all ++ bytes) last_is in
      whole (script_with questions) ending told_all script (rule_grammar, [], version ++ answers, accepted, refl, all_replies, refl) out_is refl

-- the bytes of a question on a span from 0 to one digit
span_text : (end : ℕ) → end < 10 → text_of (of_command (ask (has (span_to end)))) ≡ codes "has S 0 " ++ ((48 + end) ∷ 10 ∷ [])
span_text end small =
    ap (λ digits. codes "has S " ++ ((digits ++ (32 ∷ decimal end)) ++ 10 ∷ [])) (decimal_digit 0 (omega arith))
    ∙ ap (λ digits. codes "has S 0 " ++ (digits ++ 10 ∷ [])) (decimal_digit end small)

-- a byte that is neither a space nor LF is a word
one_byte : (byte : ℕ) → (byte ≡ 32 → ⊥) → (byte ≡ 10 → ⊥) → IsWord (byte ∷ [])
one_byte byte space lf = record {
  some = omega arith;
  each = All-from_recursion (λ (b : ℕ). (b ≡ 32 → ⊥) × (b ≡ 10 → ⊥)) (byte ∷ []) ((space, lf), tt);
}

-- the names of the questions are words
word_s : IsWord (codes "S")
word_s = one_byte 83 (λ e. omega (arith, e)) (λ e. omega (arith, e))

word_t : IsWord (codes "T")
word_t = one_byte 84 (λ e. omega (arith, e)) (λ e. omega (arith, e))

-- a question on such a span keeps the limits
span_within : (end : ℕ) → end < 10 → IsWithinLimits (of_command (ask (has (span_to end))))
span_within end small =
    let named : IsNameable (span_to end) = (word_s, omega arith, omega arith) in
    let size = length-append (line_of (of_command (ask (has (span_to end))))) (10 ∷ []) in
    (named, omega (arith, ap length (span_text end small), size))

-- a script without questions
pub no_question : IsSession serve_mode (front ++ codes "end\n") (front_replies ++ codes "end\n") 0
no_question =
    small_session [] (codes "end\n") [] (codes "end\n") 38 (codes "end\n") ended (refl, refl) refl
    (record { more = []; early = omega arith; complete = tt; spelled = refl }) refl

-- the questions of the whole session
abbrev questions : List Command
questions =
    ask (has EntryWhole) ∷ ask (has category_s) ∷ ask (has (span_to 0)) ∷ ask (has category_t)
    ∷ ask (has (span_to 2)) ∷ []

-- and their bytes
questions_begin : BeginsWithParts 38 (codes "has\nhas S\nhas S 0 0\nhas T\nhas S 0 2\nend\nhas") (as_parts questions) 74 (codes "end\nhas")
questions_begin =
    let end : List ℕ = codes "end\nhas" in
    let fifth = next (of_command (ask (has (span_to 2)))) (codes "has S 0 2\n") 64 74 [] end end
    (span_text 2 (omega arith)) (omega arith) (span_within 2 (omega arith)) (refl, refl) in
    let fourth = next (of_command (ask (has category_t))) (codes "has T\n") 58 74 (as_parts (drop 4 questions)) (codes "has S 0 2\nend\nhas") end
    refl (omega arith) (word_t, omega arith) fifth in
    let third = next (of_command (ask (has (span_to 0)))) (codes "has S 0 0\n") 48 74 (as_parts (drop 3 questions)) (codes "has T\nhas S 0 2\nend\nhas") end
    (span_text 0 (omega arith)) (omega arith) (span_within 0 (omega arith)) fourth in
    let second = next (of_command (ask (has category_s))) (codes "has S\n") 42 74 (as_parts (drop 2 questions)) (codes "has S 0 0\nhas T\nhas S 0 2\nend\nhas") end
    refl (omega arith) (word_s, omega arith) third in
    next (of_command (ask (has EntryWhole))) (codes "has\n") 38 74 (as_parts (drop 1 questions)) (codes "has S\nhas S 0 0\nhas T\nhas S 0 2\nend\nhas") end
    refl (omega arith) (tt, omega arith) second

-- and their answers
questions_told : AreTold rule_grammar one_text questions (codes "yes\nyes\nno\nrefused category\nrefused span 1\n")
questions_told =
    let fifth = told (has (span_to 2)) (codes "refused span 1\n") [] [] outside_reply refl in
    let fourth = told (has category_t) (codes "refused category\n") (codes "refused span 1\n") (drop 4 questions) unknown_reply fifth in
    let third = told (has (span_to 0)) (codes "no\n") (codes "refused category\nrefused span 1\n") (drop 3 questions) empty_reply fourth in
    let second = told (has category_s) (codes "yes\n") (codes "no\nrefused category\nrefused span 1\n") (drop 2 questions) category_reply third in
    told (has EntryWhole) (codes "yes\n") (codes "yes\nno\nrefused category\nrefused span 1\n") (drop 1 questions) entry_reply second

-- each answer once, and the end
pub whole_session : IsSession serve_mode
    (front ++ codes "has\nhas S\nhas S 0 0\nhas T\nhas S 0 2\nend\nhas")
    (front_replies ++ codes "yes\nyes\nno\nrefused category\nrefused span 1\nend\n") 0
whole_session =
    small_session questions _ (codes "yes\nyes\nno\nrefused category\nrefused span 1\n") (codes "end\n") 74 (codes "end\nhas") ended
    questions_begin questions_told
    (record { more = codes "has"; early = omega arith; complete = tt; spelled = refl }) refl

-- the questions on tokens
abbrev token_questions : List Command
token_questions = ask (tokens_in Whole) ∷ ask (tokens_in (Span 1 1)) ∷ ask (tokens_in (Span 0 2)) ∷ []

-- the bytes of such a question on a span, where its ends have one digit
tokens_text : (first end : ℕ) → first < 10 → end < 10 →
    text_of (of_command (ask (tokens_in (Span first end)))) ≡ codes "tokens " ++ ((48 + first) ∷ 32 ∷ (48 + end) ∷ 10 ∷ [])
tokens_text first end small small_too =
    ap (λ digits. codes "tokens " ++ ((digits ++ (32 ∷ decimal end)) ++ 10 ∷ [])) (decimal_digit first small)
    ∙ ap (λ digits. codes "tokens " ++ ((48 + first) ∷ 32 ∷ (digits ++ 10 ∷ []))) (decimal_digit end small_too)

-- which keeps the limits
tokens_within : (first end : ℕ) → first < 10 → end < 10 → IsWithinLimits (of_command (ask (tokens_in (Span first end))))
tokens_within first end small small_too =
    let size = length-append (line_of (of_command (ask (tokens_in (Span first end))))) (10 ∷ []) in
    ((omega (arith, small), omega (arith, small_too)), omega (arith, ap length (tokens_text first end small small_too), size))

-- their bytes
token_questions_begin : BeginsWithParts 38 (codes "tokens\ntokens 1 1\ntokens 0 2\nend\n") (as_parts token_questions) 67 (codes "end\n")
token_questions_begin =
    let end : List ℕ = codes "end\n" in
    let third = next (of_command (ask (tokens_in (Span 0 2)))) (codes "tokens 0 2\n") 56 67 [] end end
    (tokens_text 0 2 (omega arith) (omega arith)) (omega arith) (tokens_within 0 2 (omega arith) (omega arith)) (refl, refl) in
    let second = next (of_command (ask (tokens_in (Span 1 1)))) (codes "tokens 1 1\n") 45 67 (as_parts (drop 2 token_questions)) (codes "tokens 0 2\nend\n") end
    (tokens_text 1 1 (omega arith) (omega arith)) (omega arith) (tokens_within 1 1 (omega arith) (omega arith)) third in
    next (of_command (ask (tokens_in Whole))) (codes "tokens\n") 38 67 (as_parts (drop 1 token_questions)) (codes "tokens 1 1\ntokens 0 2\nend\n") end
    refl (omega arith) (tt, omega arith) second

-- and their answers
token_questions_told : AreTold rule_grammar one_text token_questions (codes "tokens 1 word:a\ntokens 0\nrefused span 1\n")
token_questions_told =
    let third = told (tokens_in (Span 0 2)) (codes "refused span 1\n") [] [] tokens_outside_reply refl in
    let second = told (tokens_in (Span 1 1)) (codes "tokens 0\n") (codes "refused span 1\n") (drop 2 token_questions) no_tokens_reply third in
    told (tokens_in Whole) (codes "tokens 1 word:a\n") (codes "tokens 0\nrefused span 1\n") (drop 1 token_questions) all_tokens_reply second

-- each answer once, and the end
pub token_session : IsSession serve_mode
    (front ++ codes "tokens\ntokens 1 1\ntokens 0 2\nend\n")
    (front_replies ++ codes "tokens 1 word:a\ntokens 0\nrefused span 1\nend\n") 0
token_session =
    small_session token_questions _ (codes "tokens 1 word:a\ntokens 0\nrefused span 1\n") (codes "end\n") 67 (codes "end\n") ended
    token_questions_begin token_questions_told
    (record { more = []; early = omega arith; complete = tt; spelled = refl }) refl

-- the bytes of a question on the tree of a span from 0 to one digit
tree_text : (end : ℕ) → end < 10 → text_of (of_command (ask (tree (span_to end)))) ≡ codes "tree S 0 " ++ ((48 + end) ∷ 10 ∷ [])
tree_text end small =
    ap (λ digits. codes "tree S " ++ ((digits ++ (32 ∷ decimal end)) ++ 10 ∷ [])) (decimal_digit 0 (omega arith))
    ∙ ap (λ digits. codes "tree S 0 " ++ (digits ++ 10 ∷ [])) (decimal_digit end small)

-- which keeps the limits
tree_within : (end : ℕ) → end < 10 → IsWithinLimits (of_command (ask (tree (span_to end))))
tree_within end small =
    let named : IsNameable (span_to end) = (word_s, omega arith, omega arith) in
    let size = length-append (line_of (of_command (ask (tree (span_to end))))) (10 ∷ []) in
    (named, omega (arith, ap length (tree_text end small), size))

-- those of a question on the tree of a span that runs backwards
backward_text : text_of (of_command (ask (tree backward_t))) ≡ codes "tree T 1 0\n"
backward_text =
    ap (λ digits. codes "tree T " ++ ((digits ++ (32 ∷ decimal 0)) ++ 10 ∷ [])) (decimal_digit 1 (omega arith))
    ∙ ap (λ digits. codes "tree T 1 " ++ (digits ++ 10 ∷ [])) (decimal_digit 0 (omega arith))

backward_within : IsWithinLimits (of_command (ask (tree backward_t)))
backward_within =
    let named : IsNameable backward_t = (word_t, omega arith, omega arith) in
    let size = length-append (line_of (of_command (ask (tree backward_t)))) (10 ∷ []) in
    (named, omega (arith, ap length backward_text, size))

-- the questions on trees
abbrev tree_questions : List Command
tree_questions =
    ask (tree EntryWhole) ∷ ask (tree (span_to 0)) ∷ ask (tree backward_t) ∷ ask (tree (span_to 2)) ∷ []

-- their bytes
tree_questions_begin : BeginsWithParts 38 (codes "tree\ntree S 0 0\ntree T 1 0\ntree S 0 2\nend\n") (as_parts tree_questions) 76 (codes "end\n")
tree_questions_begin =
    let end : List ℕ = codes "end\n" in
    let fourth = next (of_command (ask (tree (span_to 2)))) (codes "tree S 0 2\n") 65 76 [] end end
    (tree_text 2 (omega arith)) (omega arith) (tree_within 2 (omega arith)) (refl, refl) in
    let third = next (of_command (ask (tree backward_t))) (codes "tree T 1 0\n") 54 76 (as_parts (drop 3 tree_questions)) (codes "tree S 0 2\nend\n") end
    backward_text (omega arith) backward_within fourth in
    let second = next (of_command (ask (tree (span_to 0)))) (codes "tree S 0 0\n") 43 76 (as_parts (drop 2 tree_questions)) (codes "tree T 1 0\ntree S 0 2\nend\n") end
    (tree_text 0 (omega arith)) (omega arith) (tree_within 0 (omega arith)) third in
    next (of_command (ask (tree EntryWhole))) (codes "tree\n") 38 76 (as_parts (drop 1 tree_questions)) (codes "tree S 0 0\ntree T 1 0\ntree S 0 2\nend\n") end
    refl (omega arith) (tt, omega arith) second

-- and their answers
tree_questions_told : AreTold rule_grammar one_text tree_questions (codes "(A)\nnone\nrefused category\nrefused span 1\n")
tree_questions_told =
    let fourth = told (tree (span_to 2)) (codes "refused span 1\n") [] [] outside_tree_reply refl in
    let third = told (tree backward_t) (codes "refused category\n") (codes "refused span 1\n") (drop 3 tree_questions) unknown_tree_reply fourth in
    let second = told (tree (span_to 0)) (codes "none\n") (codes "refused category\nrefused span 1\n") (drop 2 tree_questions) no_tree_reply third in
    told (tree EntryWhole) (codes "(A)\n") (codes "none\nrefused category\nrefused span 1\n") (drop 1 tree_questions) entry_tree_reply second

-- each answer once, and the end
pub tree_session : IsSession serve_mode
    (front ++ codes "tree\ntree S 0 0\ntree T 1 0\ntree S 0 2\nend\n")
    (front_replies ++ codes "(A)\nnone\nrefused category\nrefused span 1\nend\n") 0
tree_session =
    small_session tree_questions _ (codes "(A)\nnone\nrefused category\nrefused span 1\n") (codes "end\n") 76 (codes "end\n") ended
    tree_questions_begin tree_questions_told
    (record { more = []; early = omega arith; complete = tt; spelled = refl }) refl

-- a second text is refused
pub second_text : IsSession serve_mode
    (front ++ codes "open 1\na\nhas S\nend\n") (front_replies ++ codes "refused open\nyes\nend\n") 0
second_text =
    let second : Command = opens (codes "a") in
    let asked = next (of_command (ask (has category_s))) (codes "has S\n") 47 53 [] (codes "end\n") (codes "end\n")
    refl (omega arith) (word_s, omega arith) (refl, refl) in
    small_session (second ∷ ask (has category_s) ∷ []) _ (codes "refused open\nyes\n") (codes "end\n") 53 (codes "end\n") ended
    (next (of_command second) (codes "open 1\na\n") 38 53 (as_parts (ask (has category_s) ∷ [])) (codes "has S\nend\n") (codes "end\n")
    (ap (λ digits. (codes "open " ++ digits) ++ codes "\na\n") (decimal_digit 1 (omega arith)))
    (omega arith) (omega arith) asked) (
      codes "refused open\n",
      codes "yes\n",
      one_text,
      open_already (codes "a", ([], refl)) refl refl,
      refl,
      told (has category_s) (codes "yes\n") [] [] category_reply refl,
    )
    (record { more = []; early = omega arith; complete = tt; spelled = refl }) refl

-- the line of a second grammar is out of its place
no_grammar_again : IsNoForm any_order (script_with []) (codes "grammar 0")
no_grammar_again = record { no_part = none; no_end = λ complete e. omega (arith, ap (λ bytes. get_or bytes 0 0) e) }
  where
    none : (part : Part) → MayFollow any_order (script_with []) part → IsWithinLimits part
        → codes "grammar 0" ≡ line_of part → ⊥
    none header in_place within e = in_place
    none (grammar block) in_place within e = in_place
    none (of_command (opens text)) in_place within e = omega (arith, ap (λ bytes. get_or bytes 0 0) e)
    none (of_command (edits at deleted inserted)) in_place within e = omega (arith, ap (λ bytes. get_or bytes 0 0) e)
    none (of_command (ask (has constituent))) in_place within e = omega (arith, ap (λ bytes. get_or bytes 0 0) e)
    none (of_command (ask (tree constituent))) in_place within e = omega (arith, ap (λ bytes. get_or bytes 0 0) e)
    none (of_command (ask (tokens_in span))) in_place within e = omega (arith, ap (λ bytes. get_or bytes 0 0) e)

-- so it breaks the script at its first byte
pub second_grammar : IsSession serve_mode (front ++ codes "grammar 0\n\n") (front_replies ++ codes "script refused 38\n") 3
second_grammar =
    small_session [] (codes "grammar 0\n\n") [] (codes "script refused 38\n") 38 (codes "grammar 0\n\n") (broken 38) (refl, refl) refl
    (no_form (codes "grammar 0") (codes "\n") refl (clean (codes "grammar 0") refl) no_grammar_again refl)
    (broken_line 38 (codes "38") (digits_of (codes "38") refl (omega arith) (λ e. omega (arith, e)) (omega arith)))

-- the line of the rule
rule_lines_are : codes "0 A S ::= \"a\"\n" ≡ lines_from rule_grammar 0 rule_grammar.rules
rule_lines_are =
    ap (λ digits. as_line (digits ++ codes " A S ::= \"a\"") ++ []) (sym (decimal_digit 0 (omega arith)))

-- a script of the mode `check`
abbrev checked : List ℕ
checked = codes "script 1\ngrammar 9\nA.S::=\"a\"\nend\n"

checked_script : IsScript bare_form checked (with_grammar rule_block []) ended
checked_script = record {
  at = 29;
  rest = codes "end\n";
  in_order = refl;
  begins = next header (codes "script 1\n") 0 29 (grammar rule_block ∷ []) _ (codes "end\n") refl (omega arith) tt
      (next (grammar rule_block) (codes "grammar 9\nA.S::=\"a\"\n") 9 29 [] (codes "end\n") (codes "end\n")
      (ap (λ digits. (codes "grammar " ++ digits) ++ (10 ∷ (rule_block ++ 10 ∷ []))) (decimal_digit 9 (omega arith)))
      (omega arith) (omega arith) (refl, refl));
  ends = record { more = []; early = omega arith; complete = refl; spelled = refl };
}

-- its session has the line of the rule
pub checked_grammar : IsSession check_mode checked (codes "grammar rules 1 categories 1 kinds 1\n0 A S ::= \"a\"\nend\n") 0
checked_grammar =
    let lines : List ℕ = lines_from rule_grammar 0 rule_grammar.rules in
    let told_all : List ℕ = grammar_reply rule_grammar ++ (lines ++ []) in
    let replies : AreAllReplies check_mode (with_grammar rule_block []) told_all =
    (rule_grammar, lines, [], accepted, refl, replies_told rule_grammar no_texts [] [] refl, refl) in
    let end : List ℕ = codes "end\n" in
    let front_is = ap (λ bytes. (bytes ++ (codes "0 A S ::= \"a\"\n" ++ [])) ++ end) counts_are in
    let out_is : codes "grammar rules 1 categories 1 kinds 1\n0 A S ::= \"a\"\nend\n" ≡ told_all ++ last_line ended =
    front_is ∙ ap (λ bytes. (grammar_reply rule_grammar ++ (bytes ++ [])) ++ end) rule_lines_are in
    whole (with_grammar rule_block []) ended told_all checked_script replies out_is refl
