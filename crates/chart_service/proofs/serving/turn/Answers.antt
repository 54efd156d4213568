-- One command of a session: a reply is said, the session ends, or it stops here.
use Rattle.std.proofs.Common.{ℕ, List, Option, subst, arith, ◌≤◌, ◌<◌}
use Rattle.cyk_io.specs.Streams.{coming}
use Rattle.spec_script.specs.Script.{with_grammar}
use Rattle.spec_session.specs.Runs.{commands_of, state_after}
use Rattle.spec_session.specs.Steps.{no_texts}
use Rattle.script_reader.specs.Reading.{TakesCommand}
use Rattle.script_reader.specs.declared.command.Command.{Command}
use Rattle.script_reader.proofs.ReadingLemmas.{command_range}
use Rattle.script_reader.specs.declared.stop.Stop.TheVariants.{Fault}
use Rattle.chart_service.specs.declared.ending.EarlyEnd.TheVariants.{Stopped}
use Rattle.cyk_io.specs.declared.fault.IoFault.TheVariants.{Write}
use Rattle.chart_service.specs.Progress.{EndsEarly}
use Rattle.chart_service.proofs.ToldLemmas.{err_given, other_error}
use Rattle.chart_service.proofs.RunningLemmas.{cut_running, running_on, running_stops, running_ends}
use Rattle.chart_service.proofs.RunningLemmas.{running_said, cut_reply, command_read}
use Rattle.chart_service.proofs.RunningLemmas.{reads_only, some_script, not_end}
use Rattle.chart_service.proofs.SessionLemmas.{counts_on}
use Rattle.chart_service.proofs.serving.turn.Goals as goal

pub returns-in_err-flush_unless-clause-err : goal.returns-in_err-flush_unless-clause-err
returns-in_err-flush_unless-clause-err g c input before r =
    let comes : Option (List ℕ) = coming c.args.ahead.now (g.S.Source.left c.args.source.now) in
    err_given (EndsEarly input before (g.K.Sink.written c.flush_unless.new.sink) c.flush_unless.new.self)
    (Stopped (Fault c.in_err-flush_unless.field-0.0)) c.from_residual.result c.from_residual.ensures.1
    (cut_running input before comes c.args.ahead.now.offset (g.K.Sink.written c.args.sink.now)
    c.args.replies.now c.args.session.now r (g.K.Sink.written c.flush_unless.new.sink)
    c.in_err-flush_unless.ensures.err)

pub returns-in_err-head-clause-err : goal.returns-in_err-head-clause-err
returns-in_err-head-clause-err g c input before r =
    let comes : Option (List ℕ) = coming c.args.ahead.now (g.S.Source.left c.args.source.now) in
    let on = running_on input before comes c.args.ahead.now.offset (g.K.Sink.written c.args.sink.now)
    c.args.replies.now c.args.session.now r (g.K.Sink.written c.flush_unless.new.sink)
    c.flush_unless.new.self c.in_ok-flush_unless.ensures.ok in
    err_given (EndsEarly input before (g.K.Sink.written c.flush_unless.new.sink) c.flush_unless.new.self)
    (Stopped c.in_err-head.field-0.0) c.from_residual-in_err-head.result
    c.from_residual-in_err-head.ensures.1
    (running_stops input before comes c.args.ahead.now.offset (g.K.Sink.written c.flush_unless.new.sink)
    c.flush_unless.new.self c.args.session.now on c.in_err-head.field-0.0
    (c.in_err-head.ensures.err (with_grammar on.block (commands_of on.steps)) tt))

pub returns-in_err-head-clause-write : goal.returns-in_err-head-clause-write
returns-in_err-head-clause-write g c =
    let comes : Option (List ℕ) = coming c.args.ahead.now (g.S.Source.left c.args.source.now) in
    let never = reads_only some_script.0 c.args.ahead.now.offset comes c.in_err-head.field-0.0
    (c.in_err-head.ensures.err some_script.0 some_script.1) in
    record {
      later = c.in_ok-flush_unless.ensures.cause.later;
      cause = λ e. absurd (other_error c.from_residual-in_err-head.result (Stopped c.in_err-head.field-0.0)
          (Stopped (Fault Write)) c.from_residual-in_err-head.ensures.1 (λ same. never (let e = same in cc)) e);
    }

pub returns-in_err-flush_unless-2-clause-err : goal.returns-in_err-flush_unless-2-clause-err
returns-in_err-flush_unless-2-clause-err g c input before r =
    let comes : Option (List ℕ) = coming c.args.ahead.now (g.S.Source.left c.args.source.now) in
    let on = running_on input before comes c.args.ahead.now.offset (g.K.Sink.written c.args.sink.now)
    c.args.replies.now c.args.session.now r (g.K.Sink.written c.flush_unless.new.sink)
    c.flush_unless.new.self c.in_ok-flush_unless.ensures.ok in
    err_given (EndsEarly input before (g.K.Sink.written c.flush_unless-2.new.sink) c.flush_unless-2.new.self)
    (Stopped (Fault c.in_err-flush_unless-2.field-0.0)) c.from_residual-in_err-flush_unless-2.result
    c.from_residual-in_err-flush_unless-2.ensures.1
    (cut_running input before comes c.args.ahead.now.offset (g.K.Sink.written c.flush_unless.new.sink)
    c.flush_unless.new.self c.args.session.now on (g.K.Sink.written c.flush_unless-2.new.sink)
    c.in_err-flush_unless-2.ensures.err)

pub returns-in_err-command-clause-err : goal.returns-in_err-command-clause-err
returns-in_err-command-clause-err g c input before r =
    let comes : Option (List ℕ) = coming c.args.ahead.now (g.S.Source.left c.args.source.now) in
    let on = running_on input before comes c.args.ahead.now.offset (g.K.Sink.written c.args.sink.now)
    c.args.replies.now c.args.session.now r (g.K.Sink.written c.flush_unless.new.sink)
    c.flush_unless.new.self c.in_ok-flush_unless.ensures.ok in
    let later = running_on input before comes c.args.ahead.now.offset (g.K.Sink.written c.flush_unless.new.sink)
    c.flush_unless.new.self c.args.session.now on (g.K.Sink.written c.flush_unless-2.new.sink)
    c.flush_unless-2.new.self c.in_ok-flush_unless-2.ensures.ok in
    err_given (EndsEarly input before (g.K.Sink.written c.flush_unless-2.new.sink) c.flush_unless-2.new.self)
    (Stopped c.in_err-command.field-0.0) c.from_residual-in_err-command.result
    c.from_residual-in_err-command.ensures.1
    (running_stops input before comes c.args.ahead.now.offset (g.K.Sink.written c.flush_unless-2.new.sink)
    c.flush_unless-2.new.self c.args.session.now later c.in_err-command.field-0.0
    (c.in_err-command.ensures.err c.args.ahead.now.offset comes c.in_ok-head.ensures.ok
    (with_grammar later.block (commands_of later.steps)) tt))

pub returns-in_err-command-clause-write : goal.returns-in_err-command-clause-write
returns-in_err-command-clause-write g c =
    let comes : Option (List ℕ) = coming c.args.ahead.now (g.S.Source.left c.args.source.now) in
    let never = reads_only some_script.0 c.args.ahead.now.offset comes c.in_err-command.field-0.0
    (c.in_err-command.ensures.err c.args.ahead.now.offset comes c.in_ok-head.ensures.ok
    some_script.0 some_script.1) in
    let first = c.in_ok-flush_unless.ensures.cause.later in
    let second = c.in_ok-flush_unless-2.ensures.cause.later in
    record {
      later = omega (arith, first, second);
      cause = λ e. absurd (other_error c.from_residual-in_err-command.result (Stopped c.in_err-command.field-0.0)
          (Stopped (Fault Write)) c.from_residual-in_err-command.ensures.1 (λ same. never (let e = same in cc)) e);
    }

pub returns-then-is_end-clause-ok : goal.returns-then-is_end-clause-ok
returns-then-is_end-clause-ok g c input before r =
    let comes : Option (List ℕ) = coming c.args.ahead.now (g.S.Source.left c.args.source.now) in
    let on = running_on input before comes c.args.ahead.now.offset (g.K.Sink.written c.args.sink.now)
    c.args.replies.now c.args.session.now r (g.K.Sink.written c.flush_unless.new.sink)
    c.flush_unless.new.self c.in_ok-flush_unless.ensures.ok in
    let later = running_on input before comes c.args.ahead.now.offset (g.K.Sink.written c.flush_unless.new.sink)
    c.flush_unless.new.self c.args.session.now on (g.K.Sink.written c.flush_unless-2.new.sink)
    c.flush_unless-2.new.self c.in_ok-flush_unless-2.ensures.ok in
    let next : Option (List ℕ) = coming c.read_command.new.ahead (g.S.Source.left c.read_command.new.source) in
    let from : ℕ = c.args.ahead.now.offset in
    let to : ℕ = c.read_command.new.ahead.offset in
    running_ends input before comes from (g.K.Sink.written c.flush_unless-2.new.sink) c.flush_unless-2.new.self
    c.args.session.now later to next
    (subst (λ (x : Command). TakesCommand from to comes next x)
    (c.is_end.ensures.0 c.if-is_end.true) (c.in_ok-command.ensures.ok c.args.ahead.now.offset comes c.in_ok-head.ensures.ok))

pub returns-then-is_end-clause-range : goal.returns-then-is_end-clause-range
returns-then-is_end-clause-range g c =
    let comes : Option (List ℕ) = coming c.args.ahead.now (g.S.Source.left c.args.source.now) in
    let next : Option (List ℕ) = coming c.read_command.new.ahead (g.S.Source.left c.read_command.new.source) in
    let range = command_range c.args.ahead.now.offset c.read_command.new.ahead.offset comes next
    c.in_ok-command.command (c.in_ok-command.ensures.ok c.args.ahead.now.offset comes c.in_ok-head.ensures.ok) in
    range

pub returns-then-is_end-clause-few : goal.returns-then-is_end-clause-few
returns-then-is_end-clause-few g c =
    let comes : Option (List ℕ) = coming c.args.ahead.now (g.S.Source.left c.args.source.now) in
    let next : Option (List ℕ) = coming c.read_command.new.ahead (g.S.Source.left c.read_command.new.source) in
    let range = command_range c.args.ahead.now.offset c.read_command.new.ahead.offset comes next
    c.in_ok-command.command (c.in_ok-command.ensures.ok c.args.ahead.now.offset comes c.in_ok-head.ensures.ok) in
    omega (arith, range.0, c.requires.few)

pub reply_to-requires-clause-can_reply : goal.reply_to-requires-clause-can_reply
reply_to-requires-clause-can_reply g c κs within =
    let comes : Option (List ℕ) = coming c.args.ahead.now (g.S.Source.left c.args.source.now) in
    let next : Option (List ℕ) = coming c.read_command.new.ahead (g.S.Source.left c.read_command.new.source) in
    let read = command_read c.args.ahead.now.offset c.read_command.new.ahead.offset comes next c.in_ok-command.command
    (c.in_ok-command.ensures.ok c.args.ahead.now.offset comes c.in_ok-head.ensures.ok)
    (not_end c.is_end.result c.is_end.ensures.1 c.if-is_end.false) in
    (read.0, read.1)

pub returns-in_err-reply_to-clause-err : goal.returns-in_err-reply_to-clause-err
returns-in_err-reply_to-clause-err g c input before r =
    let comes : Option (List ℕ) = coming c.args.ahead.now (g.S.Source.left c.args.source.now) in
    let on = running_on input before comes c.args.ahead.now.offset (g.K.Sink.written c.args.sink.now)
    c.args.replies.now c.args.session.now r (g.K.Sink.written c.flush_unless.new.sink)
    c.flush_unless.new.self c.in_ok-flush_unless.ensures.ok in
    let later = running_on input before comes c.args.ahead.now.offset (g.K.Sink.written c.flush_unless.new.sink)
    c.flush_unless.new.self c.args.session.now on (g.K.Sink.written c.flush_unless-2.new.sink)
    c.flush_unless-2.new.self c.in_ok-flush_unless-2.ensures.ok in
    let next : Option (List ℕ) = coming c.read_command.new.ahead (g.S.Source.left c.read_command.new.source) in
    let read = command_read c.args.ahead.now.offset c.read_command.new.ahead.offset comes next c.in_ok-command.command
    (c.in_ok-command.ensures.ok c.args.ahead.now.offset comes c.in_ok-head.ensures.ok)
    (not_end c.is_end.result c.is_end.ensures.1 c.if-is_end.false) in
    err_given (EndsEarly input before (g.K.Sink.written c.reply_to.new.sink) c.reply_to.new.replies)
    (Stopped (Fault c.in_err-reply_to.field-0.0)) c.from_residual-in_err-reply_to.result
    c.from_residual-in_err-reply_to.ensures.1
    (cut_reply input before comes c.args.ahead.now.offset (g.K.Sink.written c.flush_unless-2.new.sink)
    c.flush_unless-2.new.self c.args.session.now later c.read_command.new.ahead.offset next
    read.0 read.2 c.reply_to.new.session (g.K.Sink.written c.reply_to.new.sink)
    (c.in_err-reply_to.ensures.err read.0 read.1))

pub returns-clause-ok : goal.returns-clause-ok
returns-clause-ok g c input before r =
    let comes : Option (List ℕ) = coming c.args.ahead.now (g.S.Source.left c.args.source.now) in
    let on = running_on input before comes c.args.ahead.now.offset (g.K.Sink.written c.args.sink.now)
    c.args.replies.now c.args.session.now r (g.K.Sink.written c.flush_unless.new.sink)
    c.flush_unless.new.self c.in_ok-flush_unless.ensures.ok in
    let later = running_on input before comes c.args.ahead.now.offset (g.K.Sink.written c.flush_unless.new.sink)
    c.flush_unless.new.self c.args.session.now on (g.K.Sink.written c.flush_unless-2.new.sink)
    c.flush_unless-2.new.self c.in_ok-flush_unless-2.ensures.ok in
    let next : Option (List ℕ) = coming c.read_command.new.ahead (g.S.Source.left c.read_command.new.source) in
    let read = command_read c.args.ahead.now.offset c.read_command.new.ahead.offset comes next c.in_ok-command.command
    (c.in_ok-command.ensures.ok c.args.ahead.now.offset comes c.in_ok-head.ensures.ok)
    (not_end c.is_end.result c.is_end.ensures.1 c.if-is_end.false) in
    running_said input before comes c.args.ahead.now.offset (g.K.Sink.written c.flush_unless-2.new.sink)
    c.flush_unless-2.new.self c.args.session.now later c.read_command.new.ahead.offset next
    read.0 read.2 c.reply_to.new.session (g.K.Sink.written c.reply_to.new.sink) c.reply_to.new.replies
    (c.in_ok-reply_to.ensures.ok read.0 read.1)

pub returns-clause-range : goal.returns-clause-range
returns-clause-range g c =
    let comes : Option (List ℕ) = coming c.args.ahead.now (g.S.Source.left c.args.source.now) in
    let next : Option (List ℕ) = coming c.read_command.new.ahead (g.S.Source.left c.read_command.new.source) in
    let range = command_range c.args.ahead.now.offset c.read_command.new.ahead.offset comes next
    c.in_ok-command.command (c.in_ok-command.ensures.ok c.args.ahead.now.offset comes c.in_ok-head.ensures.ok) in
    range

pub returns-clause-few : goal.returns-clause-few
returns-clause-few g c =
    let comes : Option (List ℕ) = coming c.args.ahead.now (g.S.Source.left c.args.source.now) in
    let next : Option (List ℕ) = coming c.read_command.new.ahead (g.S.Source.left c.read_command.new.source) in
    let taken = c.in_ok-command.ensures.ok c.args.ahead.now.offset comes c.in_ok-head.ensures.ok in
    let range = command_range c.args.ahead.now.offset c.read_command.new.ahead.offset comes next
    c.in_ok-command.command taken in
    let read = command_read c.args.ahead.now.offset c.read_command.new.ahead.offset comes next c.in_ok-command.command
    taken (not_end c.is_end.result c.is_end.ensures.1 c.if-is_end.false) in
    let says = c.in_ok-reply_to.ensures.ok read.0 read.1 in
    omega (
      arith,
      range.0,
      c.requires.few,
      counts_on c.args.session.now read.0 c.reply_to.new.session says.0 says.1,
    )
