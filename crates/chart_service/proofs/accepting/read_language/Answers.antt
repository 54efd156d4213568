-- The first layer that has a fault tells it; a grammar that is spelled and fit is accepted, where it
-- has few states and few symbols.
use Rattle.std.proofs.Common.{refl}
use Rattle.spec_session.specs.GrammarReplies.{IsAccepted}
use Rattle.chart_service.specs.Languages.{IsFaultOf, of_text, of_unfit, of_lex, of_binary}
use Rattle.chart_service.proofs.LanguageLemmas.{accepted, fault_told, not_read, no_grammar, no_automaton, no_form}
use Rattle.chart_service.proofs.LanguageLemmas.{can_open, kinds_sound}
use Rattle.chart_service.proofs.accepting.read_language.Goals as goal

pub automaton_of-requires : goal.automaton_of-requires
automaton_of-requires g c =
    kinds_sound c.args.bytes.now c.in_ok-defs.defs c.in_ok-grammar.grammar c.in_ok-defs.ensures c.in_ok-grammar.ensures.1

pub returns-in_err-defs-clause-ok : goal.returns-in_err-defs-clause-ok
returns-in_err-defs-clause-ok g c =
    let fault = c.in_err-defs.field-0.0 in
    fault_told (IsAccepted c.args.bytes.now) (IsFaultOf c.args.bytes.now) (of_text fault)
    c.from_residual.result c.from_residual.ensures.1
    (not_read c.args.bytes.now fault c.in_err-defs.ensures)

pub returns-in_err-grammar-clause-ok : goal.returns-in_err-grammar-clause-ok
returns-in_err-grammar-clause-ok g c =
    let fault = c.in_err-grammar.field-0.0 in
    fault_told (IsAccepted c.args.bytes.now) (IsFaultOf c.args.bytes.now) (of_unfit fault)
    c.from_residual-in_err-grammar.result c.from_residual-in_err-grammar.ensures.1
    (no_grammar c.args.bytes.now c.in_ok-defs.defs c.in_ok-defs.ensures fault c.in_err-grammar.ensures)

pub returns-in_err-automaton-clause-ok : goal.returns-in_err-automaton-clause-ok
returns-in_err-automaton-clause-ok g c =
    let fault = c.in_err-automaton.field-0.0 in
    let read = c.in_ok-grammar.ensures in
    fault_told (IsAccepted c.args.bytes.now) (IsFaultOf c.args.bytes.now) (of_lex fault)
    c.from_residual-in_err-automaton.result c.from_residual-in_err-automaton.ensures.1
    (no_automaton c.args.bytes.now c.in_ok-defs.defs c.in_ok-grammar.grammar c.in_ok-defs.ensures read.0 read.1
    fault c.in_err-automaton.ensures)

pub returns-in_err-binary-clause-ok : goal.returns-in_err-binary-clause-ok
returns-in_err-binary-clause-ok g c =
    let fault = c.in_err-binary.field-0.0 in
    let read = c.in_ok-grammar.ensures in
    fault_told (IsAccepted c.args.bytes.now) (IsFaultOf c.args.bytes.now) (of_binary fault)
    c.from_residual-in_err-binary.result c.from_residual-in_err-binary.ensures.1
    (no_form c.args.bytes.now c.in_ok-defs.defs c.in_ok-grammar.grammar c.in_ok-defs.ensures read.0 read.1
    c.in_ok-automaton.automaton c.in_ok-automaton.ensures fault c.in_err-binary.ensures)

pub returns-clause-ok : goal.returns-clause-ok
returns-clause-ok g c =
    let read = c.in_ok-grammar.ensures in
    accepted c.args.bytes.now c.in_ok-defs.defs c.in_ok-grammar.grammar c.in_ok-defs.ensures read.0 read.1
    c.in_ok-automaton.automaton c.in_ok-automaton.ensures c.in_ok-binary.binary c.of.result
    c.in_ok-binary.ensures c.of.ensures

pub of-requires-clause-can : goal.of-requires-clause-can
of-requires-clause-can g c κs within =
    let read = c.in_ok-grammar.ensures in
    can_open c.args.bytes.now c.in_ok-defs.defs c.in_ok-grammar.grammar c.in_ok-defs.ensures read.0 read.1 g.C.Room.ROOM
    c.in_ok-binary.binary c.in_ok-grammar.grammar c.requires.room c.in_ok-binary.ensures refl

pub returns-clause-can : goal.returns-clause-can
returns-clause-can g c =
    let read = c.in_ok-grammar.ensures in
    can_open c.args.bytes.now c.in_ok-defs.defs c.in_ok-grammar.grammar c.in_ok-defs.ensures read.0 read.1 g.C.Room.ROOM
    c.in_ok-binary.binary c.of.result c.requires.room c.in_ok-binary.ensures c.of.ensures
