-- The sessions of small inputs, by hand.
use Rattle.std.specs.Prelude.{ℕ, List, ◌++◌, replicate, codes}
use Rattle.spec_session.specs.Sessions.{serve_mode, IsSession}
use Rattle.spec_session.specs.Checking.{check_mode}

-- the bytes of a script up to its questions: a grammar of one rule, and a text of one token
abbrev pub front : List ℕ
front = codes "script 1\ngrammar 9\nA.S::=\"a\"\nopen 1\na\n"

-- the replies to these commands
abbrev pub front_replies : List ℕ
front_replies = codes "grammar rules 1 categories 1 kinds 1\nversion 0 tokens 1\n"

-- what the sessions of small inputs write, and their status
pub record SmallSessions : Type 0 where
  -- the empty input breaks at its end
  pub empty_input : IsSession serve_mode (codes "") (codes "script refused 0\n") 3
  -- a header without its LF is none, and the input breaks at its end
  pub cut_header : IsSession serve_mode (codes "script 1") (codes "script refused 8\n") 3
  -- so does a line of 256 bytes without its LF
  pub cut_line : IsSession serve_mode (replicate 256 97) (codes "script refused 256\n") 3
  -- one of 257 bytes breaks at its first byte
  pub long_line : IsSession serve_mode (replicate 257 97) (codes "script refused 0\n") 3
  -- so does the header of another version
  pub other_header : IsSession serve_mode (codes "script 2\n") (codes "script refused 0\n") 3
  -- and any other command in its place
  pub no_header : IsSession serve_mode (codes "end\n") (codes "script refused 0\n") 3
  -- behind the header alone the input breaks at its end
  pub header_alone : IsSession serve_mode (codes "script 1\n") (codes "script refused 9\n") 3
  -- so it does in the place of a block's LF
  pub cut_block : IsSession serve_mode (codes "script 1\ngrammar 2\n;\n")
      (codes "script refused 21\n") 3
  -- and another byte in that place breaks there
  pub long_block : IsSession serve_mode (codes "script 1\ngrammar 1\n;;\n")
      (codes "script refused 20\n") 3
  -- a grammar with a fault of syntax ends the session, whatever stands behind it
  pub faulty_grammar : IsSession serve_mode (codes "script 1\ngrammar 1\n)\nopen")
      (codes "grammar refused syntax 0\n") 2
  -- so does one with a bad coercion
  pub unfit_grammar : IsSession serve_mode (codes "script 1\ngrammar 6\n_.S::=\n")
      (codes "grammar refused coercion 0\n") 2
  -- a script without questions
  pub no_question : IsSession serve_mode (front ++ codes "end\n") (front_replies ++ codes "end\n") 0
  -- the entry derives the text, and an empty span is not derived; no category has the name `T`,
  -- and the text has no two tokens; what stands behind `end` has no effect
  pub whole_session : IsSession serve_mode
      (front ++ codes "has\nhas S\nhas S 0 0\nhas T\nhas S 0 2\nend\nhas")
      (front_replies ++ codes "yes\nyes\nno\nrefused category\nrefused span 1\nend\n") 0
  -- the tokens of the text, of an empty span and of a span that the text doesn't have
  pub token_session : IsSession serve_mode
      (front ++ codes "tokens\ntokens 1 1\ntokens 0 2\nend\n")
      (front_replies ++ codes "tokens 1 word:a\ntokens 0\nrefused span 1\nend\n") 0
  -- the first tree of the entry, and none over an empty span; a category is looked for before a span
  pub tree_session : IsSession serve_mode
      (front ++ codes "tree\ntree S 0 0\ntree T 1 0\ntree S 0 2\nend\n")
      (front_replies ++ codes "(A)\nnone\nrefused category\nrefused span 1\nend\n") 0
  -- a second text is refused, and nothing changes
  pub second_text : IsSession serve_mode (front ++ codes "open 1\na\nhas S\nend\n")
      (front_replies ++ codes "refused open\nyes\nend\n") 0
  -- a second grammar breaks the script at its line
  pub second_grammar : IsSession serve_mode (front ++ codes "grammar 0\n\n")
      (front_replies ++ codes "script refused 38\n") 3
  -- in the mode `check` the rule has a line behind the reply to its grammar
  pub checked_grammar : IsSession check_mode (codes "script 1\ngrammar 9\nA.S::=\"a\"\nend\n")
      (codes "grammar rules 1 categories 1 kinds 1\n0 A S ::= \"a\"\nend\n") 0
