-- The session runs behind the reply to its grammar, unless it ends before.
use Rattle.std.proofs.Common.{ℕ, List, [], Option, Some, sym, subst}
use Rattle.cyk_io.specs.Streams.{coming}
use Rattle.spec_session.specs.GrammarReplies.{grammar_reply}
use Rattle.script_reader.specs.declared.stop.Stop.TheVariants.{Fault}
use Rattle.chart_service.specs.declared.ending.EarlyEnd.TheVariants.{Stopped}
use Rattle.chart_service.specs.Progress.{EndsEarly}
use Rattle.chart_service.proofs.RepliesLemmas.{line_passes}
use Rattle.chart_service.proofs.ToldLemmas.{err_given}
use Rattle.chart_service.proofs.RunningLemmas.{first_running, cut_first}
use Rattle.chart_service.proofs.serving.begin.Goals as goal

pub returns-in_err-session-clause-err : goal.returns-in_err-session-clause-err
returns-in_err-session-clause-err g c input before comes is =
    let early = c.in_err-session.field-0.0 in
    let ends : EndsEarly input before (Some before) [] early = c.in_err-session.ensures.err input before comes in
    err_given (EndsEarly input before (g.K.Sink.written c.args.sink.now) c.args.replies.now) early
    c.from_residual.result c.from_residual.ensures.1
    (subst (λ (now : Option (List ℕ)). EndsEarly input before now c.args.replies.now early) (sym is)
    (subst (λ (these : List ℕ). EndsEarly input before (Some before) these early) (sym c.requires.none) ends))

pub returns-in_err-say-clause-err : goal.returns-in_err-say-clause-err
returns-in_err-say-clause-err g c input before comes is =
    let session = c.in_ok-session.session in
    let later : Option (List ℕ) = coming c.accept.new.ahead (g.S.Source.left c.accept.new.source) in
    err_given (EndsEarly input before (g.K.Sink.written c.say.new.sink) c.say.new.self)
    (Stopped (Fault c.in_err-say.field-0.0)) c.from_residual-in_err-say.result
    c.from_residual-in_err-say.ensures.1
    (cut_first input before later c.accept.new.ahead.offset session (c.in_ok-session.ensures.ok input comes)
    (g.K.Sink.written c.args.sink.now) (g.K.Sink.written c.say.new.sink) is c.args.replies.now
    c.requires.none c.grammar_line.result c.grammar_line.ensures c.in_err-say.ensures.err)

pub returns-clause-ok : goal.returns-clause-ok
returns-clause-ok g c input before comes is =
    let session = c.in_ok-session.session in
    let later : Option (List ℕ) = coming c.accept.new.ahead (g.S.Source.left c.accept.new.source) in
    first_running input before later c.accept.new.ahead.offset session (c.in_ok-session.ensures.ok input comes)
    (g.K.Sink.written c.args.sink.now) (g.K.Sink.written c.say.new.sink) is c.in_ok-session.ensures.fresh
    c.args.replies.now c.say.new.self c.requires.none
    (line_passes c.grammar_line.result (grammar_reply session.language) (g.K.Sink.written c.args.sink.now)
    (g.K.Sink.written c.say.new.sink) c.args.replies.now c.say.new.self c.grammar_line.ensures
    c.in_ok-say.ensures.ok)
