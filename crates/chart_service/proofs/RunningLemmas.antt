-- How a session begins, goes on and ends: what was told so far is the replies to the script so far.
use Rattle.std.proofs.Common.{inl, inr, ◌≡◌, ◌⊎◌, ℕ, ◌+◌, List, [], ◌∷◌, ◌++◌, length, codes, Bool, true, false}
use Rattle.std.proofs.Common.{Option, Some, None, Result, IfOk, String, string_bytes, IsTrue, refl, sym, ◌∙◌, ap, subst}
use Rattle.std.proofs.Common.{append_assoc, append-nil, arith}
use Rattle.std.specs.declared.alloc.Global.{Global}
use Rattle.std.specs.declared.alloc.AllocError.{AllocError}
use Rattle.cyk_io.specs.Streams.{GrowsByPrefix}
use Rattle.cyk_io.specs.declared.fault.IoFault.TheVariants.{Read, Write, Memory}
use Rattle.spec_grammar.specs.Grammars.{Grammar}
use Rattle.spec_script.specs.Script.{Command, opens, edits, ask, Part, header, grammar, of_command, Script}
use Rattle.spec_script.specs.Script.{nothing, header_alone, with_grammar, parts_of, text_of}
use Rattle.spec_script.specs.Script.{any_order, IsInOrder, IsComplete}
use Rattle.spec_script.specs.Script.{BeginsWithParts, BeginsWithScript, HasEndLine}
use Rattle.spec_script.specs.Script.{ended, broken, IsScript}
use Rattle.spec_script.proofs.BeginningLemmas.{begins_more, parts_more}
use Rattle.spec_session.specs.GrammarReplies.{IsAccepted, IsRefused, grammar_reply}
use Rattle.spec_session.specs.Steps.{State, no_texts, Step, IsStep}
use Rattle.spec_session.specs.Runs.{IsRun, commands_of, replies_of, state_after}
use Rattle.spec_session.specs.Sessions.{serve_mode, AreAllReplies, refused, whole}
use Rattle.spec_session.proofs.SessionsLemmas.{replies_come_first}
use Rattle.script_reader.specs.declared.command.Command.{Command as ReadCommand}
use Rattle.script_reader.specs.declared.command.Command.TheVariants.{Open, Edit, Ask, End}
use Rattle.script_reader.specs.declared.stop.Stop.{Stop}
use Rattle.script_reader.specs.declared.stop.Stop.TheVariants.{Breaks, Fault}
use Rattle.script_reader.specs.Forms.{query_of}
use Rattle.script_reader.specs.Reading.{TakesPart, TakesEnd, TakesCommand, StopsBehind}
use Rattle.chart_service.specs.declared.accepting.LanguageFault.{LanguageFault}
use Rattle.chart_service.specs.declared.ending.EarlyEnd.TheVariants.{Refused, Stopped}
use Rattle.chart_service.specs.Serving.{IsPrefixOfSession}
use Rattle.chart_service.specs.Replies.{line_in, Passes}
use Rattle.chart_service.specs.Languages.{IsFaultOf, IsRefusal}
use Rattle.chart_service.specs.Sessions.{SessionValue, IsLastOf, IsIn, RepliesTo, HasReply, SaysReply, CutsReply}
use Rattle.chart_service.specs.Replying.{IsCommand}
use Rattle.chart_service.specs.Progress.{IsToldBehind, Running, IsCutShort, HasEnded, EndsEarly}
use Rattle.chart_service.specs.Progress.{HasAccepted}
use Rattle.chart_service.proofs.ToldLemmas.{told_on, written_is_prefix, cut_is_prefix}
use Rattle.chart_service.proofs.ToldLemmas.{line_is_prefix}
use Rattle.chart_service.proofs.LanguageLemmas.{refusal_is}
use Rattle.chart_service.proofs.RunLemmas.{run_more, commands_more, lines_more, after_more}

-- the command of a script that was read, and its part
pub command_read : (from to : ℕ) (old new : Option (List ℕ)) (command : ReadCommand)
    → TakesCommand from to old new command → (command ≡ End → ⊥)
    → (meaning : Command) × IsCommand command meaning × TakesPart from to old new (of_command meaning)
command_read from to old new (Open known) t other = (opens t.0, (t.0, t.1, refl), t.2)
command_read from to old new (Edit at deleted known) t other = (edits at deleted t.0, (t.0, t.1, refl), t.2)
command_read from to old new (Ask query) t other = (ask (query_of query), refl, t)
command_read from to old new End t other = absurd (other refl)

-- a test that fails says that it is not the line `end`
pub not_end : {P : Type 0} → (test : Bool) → (P → IsTrue test) → test ≡ false → P → ⊥
not_end test h fails p = let yes : test ≡ true = h p in cc

-- nothing was told yet
pub nothing_told : (before : List ℕ) (now : Option (List ℕ)) → now ≡ Some before → IsToldBehind before now [] []
nothing_told before now is = ([], is ∙ ap Some (sym (append-nil before)), refl)

-- before a grammar was accepted, where nothing was told
module _ (input before : List ℕ) (now : Option (List ℕ)) (is : now ≡ Some before) where
  -- nothing is a prefix
  none_is_prefix : IsPrefixOfSession input []
  none_is_prefix out status s = (out, refl)

  -- the script breaks, or there is a fault
  pub stops_early : (front : Script) (at : ℕ) (rest : List ℕ) → IsInOrder any_order front
      → AreAllReplies serve_mode front [] → BeginsWithScript input front at rest
      → (coming : Option (List ℕ)) → coming ≡ Some rest → (stop : Stop)
      → StopsBehind front at coming stop → EndsEarly input before now [] (Stopped stop)
  stops_early front at rest in_order replies begins coming comes (Breaks place) h = record {
    told = [];
    is_told = nothing_told before now is;
    is_prefix = none_is_prefix;
    last = λ line e. whole front (broken place) [] script replies e refl;
  }
    where
      script : IsScript any_order input front (broken place)
      script = record {
        at = at;
        rest = rest;
        in_order = in_order;
        begins = begins;
        ends = h rest comes;
      }
  stops_early front at rest in_order replies begins coming comes (Fault fault) h =
      ([], is ∙ ap Some (sym (append-nil before)), none_is_prefix)

  -- the grammar is refused
  pub refused_early : (block rest : List ℕ) (at : ℕ) → BeginsWithScript input (with_grammar block []) at rest
      → (fault : LanguageFault) → ((line : List ℕ) → IsRefusal fault line → IsRefused block line)
      → EndsEarly input before now [] (Refused fault)
  refused_early block rest at begins fault refuses = record {
    told = [];
    is_told = nothing_told before now is;
    is_prefix = none_is_prefix;
    last = λ line e. refused block rest at begins (refuses line e) refl;
  }

-- the header is taken
pub header_taken : (input : List ℕ) (coming next : Option (List ℕ)) (from to : ℕ) → coming ≡ Some input
    → from ≡ 0 → TakesPart from to coming next header
    → (rest : List ℕ) × (next ≡ Some rest) × BeginsWithScript input header_alone to rest
header_taken input coming next from to comes start t =
    let behind = t.taken input comes in
    let begins = begins_more [] 0 0 input input header behind.0 (refl, refl) (omega arith) t.within_limits behind.2 in
    let P : ℕ → Type 0 = λ place. BeginsWithParts 0 input (header ∷ []) place behind.0 in
    let end : 0 + length (text_of header) ≡ to = ap (λ place. place + length (text_of header)) (sym start) ∙ sym t.offset in
    (behind.0, behind.1, subst P end begins)

-- and then a grammar
pub grammar_taken : (input block rest : List ℕ) (coming next : Option (List ℕ)) (from to : ℕ)
    → coming ≡ Some rest → BeginsWithScript input header_alone from rest
    → TakesPart from to coming next (grammar block)
    → (more : List ℕ) × (next ≡ Some more) × BeginsWithScript input (with_grammar block []) to more
grammar_taken input block rest coming next from to comes begins t =
    let behind = t.taken rest comes in
    let longer = begins_more (header ∷ []) 0 from input rest (grammar block) behind.0 begins t.early t.within_limits behind.2 in
    let P : ℕ → Type 0 = λ place. BeginsWithParts 0 input (header ∷ grammar block ∷ []) place behind.0 in
    (behind.0, behind.1, subst P (sym t.offset) longer)

-- no header comes
pub header_stops : (input before : List ℕ) (coming : Option (List ℕ)) (from : ℕ) → coming ≡ Some input → from ≡ 0
    → (stop : Stop) → StopsBehind nothing from coming stop → EndsEarly input before (Some before) [] (Stopped stop)
header_stops input before coming from comes start stop h =
    stops_early input before (Some before) refl nothing from input tt refl (start, refl) coming comes stop h

-- the header is taken, and then no grammar comes, or one that is accepted or not
module _ (input before : List ℕ) (coming next : Option (List ℕ)) (from at : ℕ) (comes : coming ≡ Some input)
    (start : from ≡ 0) (t : TakesPart from at coming next header) where
  behind_header : (rest : List ℕ) × (next ≡ Some rest) × BeginsWithScript input header_alone at rest
  behind_header = header_taken input coming next from at comes start t

  pub grammar_stops : (stop : Stop) → StopsBehind header_alone at next stop
      → EndsEarly input before (Some before) [] (Stopped stop)
  grammar_stops stop h =
      let b = behind_header in
      stops_early input before (Some before) refl header_alone at b.0 tt refl b.2 next b.1 stop h

  module _ (later : Option (List ℕ)) (to : ℕ) (block : List ℕ) (taken : TakesPart at to next later (grammar block)) where
    behind_grammar : (more : List ℕ) × (later ≡ Some more) × BeginsWithScript input (with_grammar block []) to more
    behind_grammar =
        let b = behind_header in
        grammar_taken input block b.0 next later at to b.1 b.2 taken

    pub grammar_accepted : (g : Grammar) → IsAccepted block g → HasAccepted input later to g
    grammar_accepted g accepted = let b = behind_grammar in record {
      block = block;
      accepted = accepted;
      rest = b.0;
      comes = b.1;
      begins = b.2;
    }

    pub grammar_refused : (fault : LanguageFault) → IsFaultOf block fault
        → EndsEarly input before (Some before) [] (Refused fault)
    grammar_refused fault is =
        let b = behind_grammar in
        refused_early input before (Some before) refl block b.0 to b.2 fault (λ line. refusal_is block fault line is)

-- the session runs
module _ (input before : List ℕ) (coming : Option (List ℕ)) (at : ℕ) (now : Option (List ℕ))
    (gathered : List ℕ) (session : SessionValue) (r : Running input before coming at now gathered session) where
  abbrev g : Grammar
  g = session.language

  abbrev front : Script
  front = with_grammar r.block (commands_of r.steps)

  abbrev told : List ℕ
  told = grammar_reply g ++ replies_of r.steps

  all_replies : AreAllReplies serve_mode front told
  all_replies =
      (g, [], replies_of r.steps, r.accepted, refl, (r.steps, record { run = r.is_run; of_commands = refl }, refl), refl)

  -- what was told is a prefix
  told_is_prefix : IsPrefixOfSession input told
  told_is_prefix = replies_come_first input front at r.rest told r.begins tt all_replies

  -- so is what is written of it
  pub cut_running : (new : Option (List ℕ)) → GrowsByPrefix now new gathered → IsCutShort input before new
  cut_running new cut =
      let P : List ℕ → Type 0 = GrowsByPrefix now new in
      let Q : List ℕ → Type 0 = IsPrefixOfSession input in
      cut_is_prefix input before now new gathered [] told r.is_told
      (subst P (sym (append-nil gathered)) cut) (subst Q (sym (append-nil told)) told_is_prefix)

  -- some of what is gathered is written
  pub running_on : (new : Option (List ℕ)) (left : List ℕ) → Passes now new gathered [] left
      → Running input before coming at new left session
  running_on new left passes = record {
    block = r.block;
    steps = r.steps;
    rest = r.rest;
    comes = r.comes;
    begins = r.begins;
    accepted = r.accepted;
    is_run = r.is_run;
    is_in = r.is_in;
    is_told = subst (IsToldBehind before new left) (append-nil told)
        (told_on before now new gathered [] left told r.is_told passes);
  }

  -- the script breaks, or there is a fault
  pub running_stops : (stop : Stop) → StopsBehind front at coming stop
      → EndsEarly input before now gathered (Stopped stop)
  running_stops (Breaks place) h = record {
    told = told;
    is_told = r.is_told;
    is_prefix = told_is_prefix;
    last = λ line e. whole front (broken place) told script all_replies (ap (λ bytes. told ++ bytes) e) refl;
  }
    where
      script : IsScript any_order input front (broken place)
      script = record {
        at = at;
        rest = r.rest;
        in_order = tt;
        begins = r.begins;
        ends = h r.rest r.comes;
      }
  running_stops (Fault fault) h = written_is_prefix input before now gathered told r.is_told told_is_prefix

  -- the line `end` is read
  pub running_ends : (to : ℕ) (next : Option (List ℕ)) → TakesEnd at to coming next
      → HasEnded input before now gathered
  running_ends to next t = record {
    told = told;
    is_told = r.is_told;
    is_prefix = told_is_prefix;
    last = λ line e. whole front ended told script all_replies (ap (λ bytes. told ++ bytes) e) refl;
  }
    where
      behind : (more : List ℕ) × (next ≡ Some more) × (r.rest ≡ (codes "end" ++ 10 ∷ []) ++ more)
      behind = t.taken r.rest r.comes

      line_comes : HasEndLine any_order front at r.rest
      line_comes = record {
        more = behind.0;
        early = t.early;
        complete = tt;
        spelled = behind.2 ∙ append_assoc (codes "end") (10 ∷ []) behind.0;
      }

      script : IsScript any_order input front ended
      script = record { at = at; rest = r.rest; in_order = tt; begins = r.begins; ends = line_comes }

  -- a command is read
  module _ (to : ℕ) (next : Option (List ℕ)) (meaning : Command)
      (part : TakesPart at to coming next (of_command meaning)) where
    behind : (more : List ℕ) × (next ≡ Some more) × (r.rest ≡ text_of (of_command meaning) ++ more)
    behind = part.taken r.rest r.comes

    -- and replied to, by a session under the same grammar
    module _ (later : SessionValue) (same : later.language ≡ g) (line : List ℕ)
        (replied : RepliesTo g (state_after no_texts r.steps) meaning line later) where
      abbrev step : Step
      step = record { command = meaning; line = line; before = state_after no_texts r.steps; after = replied.after }

      abbrev steps : List Step
      steps = r.steps ++ step ∷ []

      run : IsRun later.language no_texts steps
      run =
          let P : Grammar → Type 0 = λ (x : Grammar). IsRun x no_texts r.steps in
          run_more later.language no_texts r.steps step (subst P (sym same) r.is_run)
          (subst (λ (x : Grammar). IsStep x step) (sym same) replied.replies) refl

      accepted : IsAccepted r.block later.language
      accepted = subst (IsAccepted r.block) (sym same) r.accepted

      -- as one command more
      of_commands : (P : List Command → Type 0) → P (commands_of r.steps ++ meaning ∷ []) → P (commands_of steps)
      of_commands P h = subst P (sym (commands_more r.steps step)) h

      begins : BeginsWithScript input (with_grammar r.block (commands_of steps)) to behind.0
      begins =
          let longer = begins_more (parts_of front) 0 at input r.rest (of_command meaning) behind.0 r.begins
          part.early part.within_limits behind.2 in
          let Places : ℕ → Type 0 = λ place.
          BeginsWithParts 0 input (parts_of front ++ of_command meaning ∷ []) place behind.0 in
          let Parts : List Part → Type 0 = λ (parts : List Part).
          BeginsWithParts 0 input (header ∷ grammar r.block ∷ parts) to behind.0 in
          of_commands (λ (commands : List Command). BeginsWithScript input (with_grammar r.block commands) to behind.0)
          (subst Parts (sym (parts_more (commands_of r.steps) meaning)) (subst Places (sym part.offset) longer))

      lines : told ++ line ≡ grammar_reply later.language ++ replies_of steps
      lines =
          append_assoc (grammar_reply g) (replies_of r.steps) line
          ∙ ap (λ bytes. grammar_reply g ++ bytes) (sym (lines_more r.steps step))
          ∙ ap (λ (x : Grammar). grammar_reply x ++ replies_of steps) (sym same)

      -- what was told then is a prefix
      pub reply_is_prefix : IsPrefixOfSession input (told ++ line)
      reply_is_prefix =
          let script : Script = with_grammar r.block (commands_of steps) in
          let out : List ℕ = grammar_reply later.language ++ replies_of steps in
          let replies : AreAllReplies serve_mode script out = (
            later.language,
            [],
            replies_of steps,
            accepted,
            refl,
            (steps, record { run = run; of_commands = refl }, refl),
            refl,
          ) in
          subst (IsPrefixOfSession input) (sym lines)
          (replies_come_first input script to behind.0 out begins tt replies)

      -- the session runs on
      pub running_replied : (new : Option (List ℕ)) (left : List ℕ) → Passes now new gathered line left
          → Running input before next to new left later
      running_replied new left passes = record {
        block = r.block;
        steps = steps;
        rest = behind.0;
        comes = behind.1;
        begins = begins;
        accepted = accepted;
        is_run = run;
        is_in = subst (IsIn later) (sym (after_more no_texts r.steps step)) replied.is_in;
        is_told = subst (IsToldBehind before new left) lines (told_on before now new gathered line left told r.is_told passes);
      }

    -- the reply was said
    pub running_said : (later : SessionValue) (new : Option (List ℕ)) (left : List ℕ)
        → SaysReply (HasReply session meaning later) now new gathered left
        → Running input before next to new left later
    running_said later new left (line, h, passes) =
        running_replied later h.language line (h.replies (state_after no_texts r.steps) r.is_in) new left passes

    -- the reply is cut short, or there was no memory for it
    reply_or_none : (later : SessionValue) (line : List ℕ) → HasReply session meaning later line ⊎ (line ≡ [])
        → IsPrefixOfSession input (told ++ line)
    reply_or_none later line (inl h) =
        reply_is_prefix later h.language line (h.replies (state_after no_texts r.steps) r.is_in)
    reply_or_none later line (inr none) =
        let Q : List ℕ → Type 0 = IsPrefixOfSession input in
        subst Q (sym (append-nil told) ∙ ap (λ bytes. told ++ bytes) (sym none)) told_is_prefix

    pub cut_reply : (later : SessionValue) (new : Option (List ℕ))
        → CutsReply (HasReply session meaning later) now new gathered → IsCutShort input before new
    cut_reply later new (line, why, cut) =
        cut_is_prefix input before now new gathered line told r.is_told cut (reply_or_none later line why)

-- a session under a grammar that was accepted, to which it replied, runs
module _ (input before : List ℕ) (coming : Option (List ℕ)) (at : ℕ) (session : SessionValue)
    (a : HasAccepted input coming at session.language) (old new : Option (List ℕ)) (is : old ≡ Some before) where
  abbrev reply : List ℕ
  reply = grammar_reply session.language

  pub first_running : session.current ≡ None → (gathered left : List ℕ)
      → gathered ≡ [] → Passes old new gathered reply left → Running input before coming at new left session
  first_running fresh gathered left none passes = record {
    block = a.block;
    steps = [];
    rest = a.rest;
    comes = a.comes;
    begins = a.begins;
    accepted = a.accepted;
    is_run = tt;
    is_in = subst (IsLastOf no_texts) (sym fresh) refl;
    is_told = subst (IsToldBehind before new left) (sym (append-nil reply))
        (told_on before old new gathered reply left []
        (subst (λ these. IsToldBehind before old these []) (sym none) (nothing_told before old is)) passes);
  }

  -- or the reply is cut short
  pub cut_first : (gathered : List ℕ) → gathered ≡ [] → (line : Result (String Global) AllocError)
      → IfOk line (λ text. string_bytes text ≡ reply) → GrowsByPrefix old new (gathered ++ line_in line)
      → IsCutShort input before new
  cut_first gathered none line replies cut =
      cut_is_prefix input before old new gathered (line_in line) []
      (subst (λ these. IsToldBehind before old these []) (sym none) (nothing_told before old is)) cut
      (line_is_prefix input before [] (λ bytes. bytes ≡ reply) (λ out status s. (out, refl)) goes line replies)
    where
      script : Script
      script = with_grammar a.block []

      goes : (line : List ℕ) → line ≡ reply → IsPrefixOfSession input ([] ++ line)
      goes line e =
          let replies : AreAllReplies serve_mode script reply = (
            session.language,
            [],
            [],
            a.accepted,
            refl,
            ([], record { run = tt; of_commands = refl }, refl),
            sym (append-nil reply),
          ) in
          subst (IsPrefixOfSession input) (sym e)
          (replies_come_first input script at a.rest reply a.begins tt replies)

-- reading alone writes nothing
pub reads_only : (script : Script) (at : ℕ) (coming : Option (List ℕ)) (stop : Stop)
    → StopsBehind script at coming stop → stop ≡ Fault Write → ⊥
reads_only script at coming (Breaks place) h e = cc
reads_only script at coming (Fault Read) h e = cc
reads_only script at coming (Fault Write) h e = h
reads_only script at coming (Fault Memory) h e = cc

-- a script that may end
pub some_script : (script : Script) × IsComplete any_order script
some_script = (with_grammar [] [], tt)
