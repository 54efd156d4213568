-- The patterns are those of the kinds that are looked for.
use Rattle.std.proofs.Common.{◌+◌, map, length, arith, ap}
use Rattle.std.proofs.lemmas.List.{length-map}
use Rattle.std.proofs.lemmas.Result.{IfOk-weaker}
use Rattle.spec_lexing.specs.Kinds.{lex_kinds}
use Rattle.spec_automata.specs.Encoding.{bytes_of_kind}
use Rattle.lbnf_regex.specs.Automata.{RecognisesThese}
use Rattle.lbnf_regex.specs.Lexicons.{IsAutomatonOf, lexicon_with}
use Rattle.lbnf_regex.specs.Patterns.{bytes_of_pattern}
use Rattle.lbnf_regex.proofs.LexiconLemmas.{is_automaton_of, kind_count}
use Rattle.lbnf_regex.proofs.build.automaton.Goals as goal

pub returns-clause-automaton : goal.returns-clause-automaton
returns-clause-automaton c =
    let lines = c.args.lines.now in
    let blocks = c.args.blocks.now in
    let kinds = c.args.kinds.now in
    let lexicon = lexicon_with lines blocks kinds in
    let these = rw c.in_ok-patterns.ensures at c.automaton_of.ensures.these in
    IfOk-weaker c.automaton_of.result
    (RecognisesThese (map bytes_of_kind (lex_kinds lexicon)) (length lines + length blocks)) (IsAutomatonOf lexicon)
    (λ a is. is_automaton_of lines blocks kinds a is) these

pub automaton_of-requires-clause-few : goal.automaton_of-requires-clause-few
automaton_of-requires-clause-few c =
    let lines = c.args.lines.now in
    let blocks = c.args.blocks.now in
    let kinds = c.args.kinds.now in
    omega
    (arith, c.requires, length-map c.in_ok-patterns.patterns bytes_of_pattern, ap length c.in_ok-patterns.ensures, length-map (lex_kinds (lexicon_with lines blocks kinds)) bytes_of_kind, kind_count lines blocks kinds)
