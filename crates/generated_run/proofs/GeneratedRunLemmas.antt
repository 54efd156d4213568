-- A generated run is summed up by one line.
use Rattle.std.proofs.Common.{◌≡◌, ℕ, ◌+◌, ◌/◌, ◌%◌, ◌^◌, ◌<◌, ◌≤◌, List, [], ◌∷◌, ◌++◌, codes}
use Rattle.std.proofs.Common.{refl, sym, ◌∙◌, ap, subst, arith}
use Rattle.std.specs.Fmt.{decimal}
use Rattle.std.proofs.lemmas.Fmt.{decimal_digit, decimal_step}
use Rattle.std.proofs.lemmas.List.{append_cancel_right}
use Rattle.generator.specs.Draws.{drawn}
use Rattle.generator.specs.Generated.{grammar_file, statement_count}
use Rattle.spec_lexing.specs.Tokens.{AreTokensOf}
use Rattle.spec_grammar.specs.Grammars.{Grammar}
use Rattle.spec_script.specs.Script.{tree, ask}
use Rattle.spec_session.specs.Lines.{as_line}
use Rattle.spec_session.specs.Steps.{State, no_texts, AnswersQuery}
use Rattle.spec_session.specs.Runs.{state_after, IsRunOf}
use Rattle.spec_session.proofs.RepliesLemmas.{one_grammar, one_reply}
use Rattle.spec_session.proofs.RunLemmas.{one_run}
use Rattle.spec_session.proofs.TextLemmas.{same_tokens}
use Rattle.generated_run.specs.GeneratedRun.{whole_program, run_commands, last_text}
use Rattle.generated_run.specs.GeneratedRun.{GeneratedRun, summary_of, summary_line, turns}
use Rattle.generated_run.specs.GeneratedRun.{OneGeneratedLine, SmallRun}

-- a seed has one run with so many statements
module _ (seed statements : ℕ) (run other : GeneratedRun seed statements) where
  same_grammar : run.g ≡ other.g
  same_grammar = one_grammar grammar_file run.g other.g run.accepted other.accepted

  same_steps : run.steps ≡ other.steps
  same_steps =
      let IsRunUnder : Grammar → Type 0
      = λ g. IsRunOf g no_texts (run_commands seed statements) run.steps in
      one_run other.g no_texts (run_commands seed statements) run.steps other.steps
      (subst IsRunUnder same_grammar run.run) other.run

  same_last : run.last ≡ other.last
  same_last = run.is_last ∙ ap (state_after no_texts) same_steps ∙ sym other.is_last

  same_last_tokens : run.tokens ≡ other.tokens
  same_last_tokens =
      let AreUnder : Grammar → Type 0 = λ g. AreTokensOf g.lexicon (last_text run.last) run.tokens in
      let AreIn : State → Type 0 = λ s. AreTokensOf other.g.lexicon (last_text s) run.tokens in
      same_tokens other.g.lexicon (last_text other.last) run.tokens other.tokens
      (subst AreIn same_last (subst AreUnder same_grammar run.are_tokens)) other.are_tokens

  same_printed : run.printed ≡ other.printed
  same_printed =
      let IsUnder : Grammar → Type 0
      = λ g. AnswersQuery g run.last (tree whole_program) (as_line run.printed) in
      let IsIn : State → Type 0
      = λ s. AnswersQuery other.g s (tree whole_program) (as_line run.printed) in
      let replies = one_reply other.g other.last (ask (tree whole_program)) (as_line run.printed)
      (as_line other.printed) other.last other.last
      (subst IsIn same_last (subst IsUnder same_grammar run.answered), refl)
      (other.answered, refl) in
      append_cancel_right run.printed other.printed (10 ∷ []) replies.0

  same_line : summary_line (summary_of seed statements run) ≡ summary_line (summary_of seed statements other)
  same_line = rw (same_steps, same_last, same_last_tokens, same_printed) refl

pub one_generated_line : OneGeneratedLine
one_generated_line seed tokens line other a b =
    a.1 ∙ same_line seed (statement_count tokens) a.0 b.0 ∙ sym b.1

-- a number of two or more digits is that of all but the last, and the last
more_digits : (n : ℕ) (front : List ℕ) → 10 ≤ n → n < 2 ^ 64 → decimal (n / 10) ≡ front
    → decimal n ≡ front ++ ((48 + n % 10) ∷ [])
more_digits n front many small e =
    decimal_step n many small ∙ ap (λ bytes. bytes ++ ((48 + n % 10) ∷ [])) e

-- the small run, by computation
pub small_run : SmallRun
unfolding turns drawn
small_run =
    let zeros : decimal 0 ≡ codes "0" = decimal_digit 0 (omega arith) in
    let one : decimal 1 ≡ codes "1" = decimal_digit 1 (omega arith) in
    let two : decimal 2 ≡ codes "2" = decimal_digit 2 (omega arith) in
    let ten : decimal 10 ≡ codes "10" = more_digits 10 (codes "1") (omega arith) (omega arith) one in
    let eleven : decimal 11 ≡ codes "11" = more_digits 11 (codes "1") (omega arith) (omega arith) one in
    let sixteen : decimal 16 ≡ codes "16" = more_digits 16 (codes "1") (omega arith) (omega arith) one in
    let twenty : decimal 20 ≡ codes "20" = more_digits 20 (codes "2") (omega arith) (omega arith) two in
    let hundred : decimal 100 ≡ codes "100" = more_digits 100 (codes "10") (omega arith) (omega arith) ten in
    let yeses : decimal 201 ≡ codes "201" = more_digits 201 (codes "20") (omega arith) (omega arith) twenty in
    let printed : decimal 115 ≡ codes "115" = more_digits 115 (codes "11") (omega arith) (omega arith) eleven in
    record {
      commands = refl;
      even = refl;
      odd = refl;
      whole = refl;
      told = rw (zeros, two, sixteen, twenty, hundred, yeses, printed) refl;
    }
