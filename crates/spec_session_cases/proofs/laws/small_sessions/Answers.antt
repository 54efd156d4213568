-- Where each input breaks, why its grammar is refused, or how each question is answered.
use Rattle.std.proofs.Common.{◌≡◌, ℕ, [], ap, codes, decimal, replicate, get_or, refl, arith}
use Rattle.std.proofs.lemmas.Fmt.{decimal_digit}
use Rattle.std.proofs.lemmas.List.{length-replicate}
use Rattle.spec_script.specs.Script.{ends_in_line}
use Rattle.spec_session_cases.proofs.ExamplesLemmas.{broken_at_start, broken_behind_header, digits_of, clean, clean_repeat, cut_line}
use Rattle.spec_session_cases.proofs.ExamplesLemmas.{too_long, other_line, cut_block, long_block, refused_grammar, faulty_refused, unfit_refused}
use Rattle.spec_session_cases.proofs.SessionExamples.{no_question, whole_session, token_session, tree_session, second_text, second_grammar, checked_grammar}
use Rattle.spec_session_cases.proofs.laws.small_sessions.Goals as goal

zero_digit : decimal 0 ≡ codes "0"
zero_digit = decimal_digit 0 (omega arith)

pub returns : goal.returns
returns c = record {
  empty_input = broken_at_start 0 (codes "0") zero_digit [] (cut_line [] 0 refl (clean [] refl) (omega arith));
  cut_header = broken_at_start 8 (codes "8") (decimal_digit 8 (omega arith)) (codes "script 1")
      (cut_line (codes "script 1") 8 refl (clean (codes "script 1") refl) (omega arith));
  cut_line = broken_at_start 256 (codes "256") (digits_of (codes "256") refl (omega arith) (λ e. omega (arith, e)) (omega arith))
      (replicate 256 97) (cut_line (replicate 256 97) 256 (length-replicate {A = ℕ} 256 97) (clean_repeat 256) (omega arith));
  long_line = broken_at_start 0 (codes "0") zero_digit (replicate 257 97) (too_long (replicate 257 97) 257 (length-replicate {A = ℕ} 257 97) (clean_repeat 257) (omega arith));
  other_header = broken_at_start 0 (codes "0") zero_digit (codes "script 2\n")
      (other_line (codes "script 2") [] (clean (codes "script 2") refl) (λ e. omega (arith, ap (λ bytes. get_or bytes 7 0) e)));
  no_header = broken_at_start 0 (codes "0") zero_digit (codes "end\n")
      (other_line (codes "end") [] (clean (codes "end") refl) (λ e. omega (arith, ap (λ bytes. get_or bytes 0 0) e)));
  header_alone = broken_behind_header 9 (codes "9") (decimal_digit 9 (omega arith)) []
      (ends_in_line (omega arith) (clean [] refl) (omega arith) refl);
  cut_block = broken_behind_header 21 (codes "21") (digits_of (codes "21") refl (omega arith) (λ e. omega (arith, e)) (omega arith))
      (codes "grammar 2\n;\n") cut_block;
  long_block = broken_behind_header 20 (codes "20") (digits_of (codes "20") refl (omega arith) (λ e. omega (arith, e)) (omega arith))
      (codes "grammar 1\n;;\n") long_block;
  faulty_grammar = refused_grammar (codes ")") (codes "open") (codes "syntax") 0 (omega arith) (omega arith) faulty_refused;
  unfit_grammar = refused_grammar (codes "_.S::=") [] (codes "coercion") 0 (omega arith) (omega arith) unfit_refused;
  no_question = no_question;
  whole_session = whole_session;
  token_session = token_session;
  tree_session = tree_session;
  second_text = second_text;
  second_grammar = second_grammar;
  checked_grammar = checked_grammar;
}
