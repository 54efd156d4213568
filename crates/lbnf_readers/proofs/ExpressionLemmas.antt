-- The reader of token expressions tells of the expression that the tokens spell; and so do those of
-- kinds of tokens and of comments.
use Rattle.std.proofs.Common.{◌≡◌, ℕ, ◌<◌, List, [], ◌∷◌, ◌++◌, length, cond, codes, true, Option, Some, None, option_and_then, ◌⊎◌, inl, inr, refl, sym, ap, subst, ◌∙◌, append_assoc, arith}
use Rattle.std.proofs.lemmas.List.{append-nil}
use Rattle.std.proofs.lemmas.Option.{same_Some, none-some}
use Rattle.spec_lexing.specs.declared.expression.Expr.{Expr}
use Rattle.spec_lbnf.specs.declared.definition.Def.{Def}
use Rattle.spec_lbnf.specs.declared.definition.Def.TheVariants.{Token, LineComment, BlockComment}
use Rattle.spec_lbnf.specs.declared.token.FileToken.{FileToken}
use Rattle.spec_lbnf.specs.declared.token.FileToken.TheVariants.{Identifier, Number, Text, Character}
use Rattle.spec_lbnf.specs.declared.token.FileToken.TheVariants.{Sign as SignToken}
use Rattle.spec_lbnf.specs.declared.token.PlacedToken.{PlacedToken}
use Rattle.spec_lbnf.specs.TokenExpressions.{Alternatives, Differences, Sequence, alternatives_expr, SpellsExpr}
use Rattle.spec_lbnf.specs.Faults.{bare}
use Rattle.spec_lbnf.proofs.BoundaryLemmas.{IsClosed, front_behind, nothing_closed}
use Rattle.lbnf_readers.specs.declared.expression_state.Level.{Level}
use Rattle.lbnf_readers.specs.declared.expression_state.OpenAtom.{OpenAtom}
use Rattle.lbnf_readers.specs.declared.expression_state.ExpressionState.{ExpressionState}
use Rattle.lbnf_readers.specs.ExpressionReading.{step, first_state, whole_by, whole_of}
use Rattle.lbnf_readers.specs.FileReading.{Read, got, stuck, long, next_on, ◌>>=◌, pure, got_whole, behind_step, expression_from, expression_at, token_at, word_at, position_at, filled_text, filled_text_at, comment_end, comment_at, upper_name, name_at, to_end, is_word}
use Rattle.lbnf_readers.proofs.ReaderLemmas.{Spelling, IsAny, IsNothing, GoesOn, Follows, Tells, Then, Gives, TokenOf, AtEnd, HaveShortNames, change_tells, then_tells, then_got, gives_tells, token_tells, token_some, some_then, some_gives, short_rest, one_token, bare-append, end_some, end_tells}
use Rattle.lbnf_readers.proofs.FormLemmas.{WordOf, word_of, name_tells}
use Rattle.lbnf_readers.proofs.StateLemmas.{outside, within, Held, held, push_part, level_of, levels_of, state_of, held_tokens, open_tokens, IsWithin, alternatives_of, alternatives_level, side_within, part_within, whole_held}
use Rattle.lbnf_readers.proofs.ExpressionRunLemmas.{run, run-append, spelled_runs}
use Rattle.lbnf_readers.proofs.ExpressionMoveLemmas.{moves, completes, open_front}

-- the tokens are an expression, and nothing is behind it
abbrev pub ExpressionOf : Spelling Expr
ExpressionOf expr tokens rest = SpellsExpr expr tokens × (rest ≡ [])

-- tokens spell at most one expression
pub one_expression : (a b : Expr) (tokens : List FileToken) → SpellsExpr a tokens → SpellsExpr b tokens → a ≡ b
one_expression a b tokens is_a is_b =
    let first = spelled_runs a tokens is_a in
    let second = spelled_runs b tokens is_b in
    let same : first.0 ≡ second.0 = same_Some _ _ (sym first.1 ∙ second.1) in
    same_Some a b (sym first.2 ∙ ap whole_of same ∙ second.2)

-- some expression can be read
pub some_expression : GoesOn IsNothing ExpressionOf []
some_expression =
    let is = completes (held outside None None None) None (tt, (tt, tt, tt)) in (
      alternatives_expr is.1,
      is.0,
      λ others none. (
        record {
          written = is.1;
          within = is.2;
          is_expr = refl;
          whole = ap (λ ts. is.0 ++ ts) none ∙ append-nil is.0 ∙ sym is.3;
        },
        none,
      ),
    )

-- how far an expression is read: the front of the tokens is what a state holds, and leads to it
pub record IsReadTo (all front rest : List PlacedToken) (h : Held) (begun : Option OpenAtom) : Type 0 where
  pub whole : all ≡ front ++ rest
  pub tokens : bare front ≡ held_tokens h ++ open_tokens begun
  pub limits : IsWithin h
  pub closed : IsClosed (held_tokens h)
  pub ran : run (bare front) first_state ≡ Some (state_of h begun)
  pub short : HaveShortNames rest

-- a state with a level around is not whole
open_none : (levels : List Level) (level own : Level) (begun : Option OpenAtom) → whole_by (levels ++ level ∷ []) begun own ≡ None
open_none [] level own begun = refl
open_none (x ∷ levels) level own begun = refl

module _ (all : List PlacedToken) where
  -- where what stands behind the front cannot be read, the reader stops there
  stops_tells : (front rest : List PlacedToken) (h : Held) (begun : Option OpenAtom) → IsReadTo all front rest h begun
      → ((others : List FileToken) (value : Expr) → Follows rest others → SpellsExpr value (bare front ++ others) → ⊥)
      → Tells IsNothing ExpressionOf all (stuck rest)
  stops_tells front rest h begun is blocked = record {
    front = front;
    whole = is.whole;
    closed = rw is.tokens (front_behind (held_tokens h) (open_tokens begun) is.closed (open_front begun));
    goes_on =
        let more = completes h begun is.limits in (
          alternatives_expr more.1,
          more.0,
          λ others none. (
            record {
              written = more.1;
              within = more.2;
              is_expr = refl;
              whole = ap (λ ts. bare front ++ (more.0 ++ ts)) none ∙ ap (λ ts. bare front ++ ts) (append-nil more.0)
                  ∙ ap (λ ts. ts ++ more.0) is.tokens ∙ sym more.3;
            },
            none,
          ),
        );
    blocked = λ others value behind follows spelled. blocked others value follows spelled.0;
  }

  -- what is not whole at the end of the tokens is no expression
  end_stuck : (front : List PlacedToken) (h : Held) (begun : Option OpenAtom) → IsReadTo all front [] h begun
      → whole_of (state_of h begun) ≡ None → Tells IsNothing ExpressionOf all (stuck [])
  end_stuck front h begun is none =
      stops_tells front [] h begun is (λ others value follows spelled.
      let tokens : SpellsExpr value (bare front)
      = subst (SpellsExpr value) (ap (λ ts. bare front ++ ts) follows ∙ append-nil (bare front)) spelled in
      let runs = spelled_runs value (bare front) tokens in
      let same : state_of h begun ≡ runs.0 = same_Some _ _ (sym is.ran ∙ runs.1) in
      none-some value (sym none ∙ ap whole_of same ∙ runs.2))

  -- a token that cannot stand is in no expression behind the front
  token_stuck : (front rest : List PlacedToken) (token : PlacedToken) (h : Held) (begun : Option OpenAtom)
      → IsReadTo all front (token ∷ rest) h begun → step (state_of h begun) token.token ≡ None
      → Tells IsNothing ExpressionOf all (stuck (token ∷ rest))
  token_stuck front rest token h begun is none =
      stops_tells front (token ∷ rest) h begun is (λ others value follows spelled.
      let tokens : SpellsExpr value (bare front ++ token.token ∷ follows.0)
      = subst (λ ts. SpellsExpr value (bare front ++ ts)) follows.1 spelled in
      let runs = spelled_runs value (bare front ++ token.token ∷ follows.0) tokens in
      let blocked : run (bare front ++ token.token ∷ follows.0) first_state ≡ None
      = run-append (bare front) (token.token ∷ follows.0) first_state
      ∙ ap (option_and_then (run (token.token ∷ follows.0))) is.ran
      ∙ ap (option_and_then (run follows.0)) none in
      none-some runs.0 (sym blocked ∙ runs.1))

  -- a whole expression at the end of the tokens is read
  end_got : (front : List PlacedToken) (sides : Option Alternatives) (left : Option Differences) (part : Sequence)
      → IsReadTo all front [] (held outside sides left (Some part)) None
      → Tells IsNothing ExpressionOf all (got (alternatives_expr (alternatives_of sides left part)) [])
  end_got front sides left part is =
      let tokens : bare front ≡ held_tokens (held outside sides left (Some part)) = is.tokens ∙ append-nil _ in
      record {
        used = front;
        whole = is.whole;
        behind = refl;
        spelled = λ others none. (
          record {
            written = alternatives_of sides left part;
            within = side_within 0 sides (push_part left part) is.limits.1.0 (part_within 0 left part is.limits.1.1 is.limits.1.2);
            is_expr = refl;
            whole = ap (λ ts. bare front ++ ts) none ∙ append-nil (bare front) ∙ tokens ∙ sym (alternatives_level sides left part);
          },
          none,
        );
        closed = rw tokens is.closed;
      }

  -- at the end of the tokens the reader tells
  end_tells_all : (front : List PlacedToken) (h : Held) (begun : Option OpenAtom) → IsReadTo all front [] h begun
      → Tells IsNothing ExpressionOf all (got_whole (whole_of (state_of h begun)))
  end_tells_all front (held outside sides left (Some part)) None is =
      subst (λ x. Tells IsNothing ExpressionOf all (got_whole x)) (sym (whole_held sides left part)) (end_got front sides left part is)
  end_tells_all front (held outside sides left None) None is = end_stuck front (held outside sides left None) None is refl
  end_tells_all front (held (within around a b c) sides left part) None is =
      subst (λ x. Tells IsNothing ExpressionOf all (got_whole x)) (sym (open_none (levels_of around) (level_of a b c) (level_of sides left part) None))
      (end_stuck front (held (within around a b c) sides left part) None is (open_none (levels_of around) (level_of a b c) (level_of sides left part) None))
  end_tells_all front (held outside sides left part) (Some atom) is = end_stuck front (held outside sides left part) (Some atom) is refl
  end_tells_all front (held (within around a b c) sides left part) (Some atom) is =
      subst (λ x. Tells IsNothing ExpressionOf all (got_whole x)) (sym (open_none (levels_of around) (level_of a b c) (level_of sides left part) (Some atom)))
      (end_stuck front (held (within around a b c) sides left part) (Some atom) is (open_none (levels_of around) (level_of a b c) (level_of sides left part) (Some atom)))

  -- the reader tells, however far it is
  tells_from : (front rest : List PlacedToken) (h : Held) (begun : Option OpenAtom) → IsReadTo all front rest h begun
      → Tells IsNothing ExpressionOf all (expression_from rest (state_of h begun))
  unfolding expression_from
  tells_from front [] h begun is = end_tells_all front h begun is
  tells_from front (token ∷ rest) h begun is =
      by (step (state_of h begun) token.token) refl (λ f next b there. tells_from f rest next b there)
    where
      by : (x : Option ExpressionState) → step (state_of h begun) token.token ≡ x
          → ((f : List PlacedToken) (next : Held) (b : Option OpenAtom) → IsReadTo all f rest next b
          → Tells IsNothing ExpressionOf all (expression_from rest (state_of next b)))
          → Tells IsNothing ExpressionOf all (behind_step x (expression_from rest) (token ∷ rest))
      by None none others = token_stuck front rest token h begun is none
      by (Some state) next others =
          let moved = moves h begun token.token state is.limits is.short.0 next in
          let there : IsReadTo all (front ++ token ∷ []) rest moved.next moved.next_open = record {
            whole = is.whole ∙ sym (append_assoc front (token ∷ []) rest);
            tokens = bare-append front (token ∷ []) ∙ ap (λ ts. ts ++ token.token ∷ []) is.tokens ∙ sym moved.tokens;
            limits = moved.limits;
            closed = moved.closed is.closed;
            ran = ap (λ ts. run ts first_state) (bare-append front (token ∷ []))
                ∙ run-append (bare front) (token.token ∷ []) first_state
                ∙ ap (option_and_then (run (token.token ∷ []))) is.ran
                ∙ ap (option_and_then (run [])) next
                ∙ ap Some moved.is_state;
            short = is.short.1;
          } in
          subst (λ s. Tells IsNothing ExpressionOf all (expression_from rest s)) (sym moved.is_state)
          (others (front ++ token ∷ []) moved.next moved.next_open there)

-- the reader of an expression tells of the expression that the tokens are
pub expression_tells : (tokens : List PlacedToken) → HaveShortNames tokens → Tells IsNothing ExpressionOf tokens (expression_at tokens)
unfolding expression_at
expression_tells tokens short =
    tells_from tokens [] tokens (held outside None None None) None (record {
      whole = refl;
      tokens = refl;
      limits = (tt, (tt, tt, tt));
      closed = nothing_closed;
      ran = refl;
      short = short;
    })

-- behind `token`: a name and an expression
abbrev pub TokenRest : Spelling Def
TokenRest = Then (TokenOf upper_name) (λ name. Gives (Token name) ExpressionOf)

-- some name and expression can be read
pub some_token_rest : GoesOn IsNothing TokenRest []
some_token_rest =
    some_then IsNothing (TokenOf upper_name) (λ name. Gives (Token name) ExpressionOf)
    (λ name. some_gives IsNothing (Token name) ExpressionOf some_expression)
    (token_some upper_name (Identifier (codes "A")) (codes "A") refl)

-- the reader of a kind of token behind its first word tells
pub token_rest_tells : (tokens : List PlacedToken) → HaveShortNames tokens → Tells IsNothing TokenRest tokens (token_at tokens)
unfolding token_at
token_rest_tells tokens short =
    then_tells IsNothing (TokenOf upper_name) (λ name. Gives (Token name) ExpressionOf) tokens
    (λ name. expression_at >>= (λ expr. pure (Token name expr))) (one_token upper_name)
    (λ name. some_gives IsNothing (Token name) ExpressionOf some_expression)
    (λ name rest is. gives_tells IsNothing ExpressionOf (Token name) rest (expression_at rest)
    (expression_tells rest (short_rest IsAny (TokenOf upper_name) name tokens rest is short)))
    (name_at tokens) (name_tells tokens short)

-- behind `position`: the word `token`, a name and an expression
abbrev pub PositionRest : Spelling Def
PositionRest = Then (WordOf (codes "token")) (λ done. TokenRest)

-- the reader of one word tells of it
word_at_tells : (word : List ℕ) → is_word word (Identifier word) ≡ true → (tokens : List PlacedToken) → HaveShortNames tokens
    → Tells IsAny (WordOf word) tokens (word_at word tokens)
unfolding word_at
word_at_tells word itself tokens short =
    token_tells {A = Unit {0}} (λ token. cond (is_word word token) (Some tt) None) (Identifier word) tt (rw itself refl)
    (λ token done has is. let same = word_of word token done has in elim is [ inl e ↦ cc (same, e) | inr e ↦ cc (same, e) ])
    tokens short

-- the reader of a kind of token behind `position` tells
pub position_rest_tells : (tokens : List PlacedToken) → HaveShortNames tokens → Tells IsNothing PositionRest tokens (position_at tokens)
unfolding position_at
position_rest_tells tokens short =
    then_tells IsNothing (WordOf (codes "token")) (λ done. TokenRest) tokens
    (λ word. token_at) (one_token _) (λ done. some_token_rest)
    (λ done rest is. token_rest_tells rest (short_rest IsAny (WordOf (codes "token")) done tokens rest is short))
    (word_at (codes "token") tokens) (word_at_tells (codes "token") refl tokens short)

-- a token with a text of a byte or more is that text
pub filled_some : (token : FileToken) (text : List ℕ) → filled_text token ≡ Some text → (token ≡ Text text) × (0 < length text)
filled_some (Text []) text e = absurd (none-some text e)
filled_some (Text (byte ∷ value)) text e =
    let same = same_Some (byte ∷ value) text e in (ap Text same, omega (arith, sym (ap length same)))
filled_some (Identifier name) text e = absurd (none-some text e)
filled_some (Number value) text e = absurd (none-some text e)
filled_some (Character scalar) text e = absurd (none-some text e)
filled_some (SignToken sign) text e = absurd (none-some text e)

-- a text of a byte or more is one
pub filled_is : (text : List ℕ) → 0 < length text → filled_text (Text text) ≡ Some text
filled_is [] some = absurd (omega (arith, some))
filled_is (byte ∷ text) some = refl

-- the reader of a text of a byte or more tells of it
filled_tells : (tokens : List PlacedToken) → HaveShortNames tokens → Tells IsAny (TokenOf filled_text) tokens (filled_text_at tokens)
unfolding filled_text_at
filled_tells tokens short =
    token_tells filled_text (Text (codes "-")) (codes "-") refl
    (λ token text has is. let same = (filled_some token text has).0 in elim is [ inl e ↦ cc (same, e) | inr e ↦ cc (same, e) ])
    tokens short

-- behind a comment's opening text: nothing, or a closing text
abbrev pub CommentEnd : List ℕ → Spelling Def
CommentEnd opening def tokens rest =
    ((def ≡ LineComment opening) × (tokens ≡ []) × (rest ≡ []))
    ⊎ ((closing : List ℕ) × (0 < length closing) × (def ≡ BlockComment opening closing) × (tokens ≡ Text closing ∷ []) × (rest ≡ []))

-- the end can be read
some_comment_end : (opening : List ℕ) → GoesOn IsNothing (CommentEnd opening) []
some_comment_end opening = (LineComment opening, [], λ others none. inl (refl, none, none))

-- a closing text and the end
abbrev ClosingParts : List ℕ → Spelling Def
ClosingParts opening = Then (TokenOf filled_text) (λ closing. AtEnd (BlockComment opening closing))

-- the parts close a comment
closing_forth : (opening : List ℕ) (def : Def) (tokens rest : List FileToken) → ClosingParts opening def tokens rest → CommentEnd opening def tokens rest
closing_forth opening def tokens rest is =
    let text = filled_some is.2.0 is.0 is.2.1 in
    inr (is.0, text.1, is.3.0, is.2.2 ∙ (λ i. text.0 i ∷ is.3.1 i), is.3.2)

-- a comment that is closed by a token has the parts
closing_back : (opening : List ℕ) (def : Def) (token : FileToken) (more tokens rest : List FileToken) → tokens ≡ token ∷ more
    → CommentEnd opening def tokens rest → ClosingParts opening def tokens rest
closing_back opening def token more tokens rest begins (inl is) = absurd (cc (begins, is.1))
closing_back opening def token more tokens rest begins (inr (closing, some, is, whole, none)) =
    (closing, [], (Text closing, filled_is closing some, whole), (is, refl, none))

-- the reader of a comment's end tells
comment_end_tells : (opening : List ℕ) (tokens : List PlacedToken) → HaveShortNames tokens
    → Tells IsNothing (CommentEnd opening) tokens (next_on to_end (comment_end opening tokens))
unfolding comment_end next_on to_end
comment_end_tells opening [] short = record {
  used = [];
  whole = refl;
  behind = refl;
  spelled = λ others none. inl (refl, none, none);
  closed = nothing_closed;
}
comment_end_tells opening (token ∷ tokens) short =
    change_tells IsNothing (ClosingParts opening) (CommentEnd opening) (token ∷ tokens) _
    (λ def others rest is. closing_forth opening def others rest is)
    (λ def others rest follows is. closing_back opening def token.token follows.0 others rest follows.1 is)
    (closing_tells (filled_text_at (token ∷ tokens)) (filled_tells (token ∷ tokens) short))
  where
    closing_tells : (x : Read (List ℕ)) → Tells IsAny (TokenOf filled_text) (token ∷ tokens) x
        → Tells IsNothing (ClosingParts opening) (token ∷ tokens) (next_on to_end (next_on (λ closing. pure (BlockComment opening closing)) x))
    closing_tells (got closing rest) is =
        then_tells IsNothing (TokenOf filled_text) (λ closing. AtEnd (BlockComment opening closing)) (token ∷ tokens)
        (λ closing. to_end (BlockComment opening closing)) (one_token filled_text) (λ closing. end_some (BlockComment opening closing))
        (λ closing rest is. end_tells (BlockComment opening closing) rest) (got closing rest) is
    closing_tells (stuck rest) is =
        then_tells IsNothing (TokenOf filled_text) (λ closing. AtEnd (BlockComment opening closing)) (token ∷ tokens)
        (λ closing. to_end (BlockComment opening closing)) (one_token filled_text) (λ closing. end_some (BlockComment opening closing))
        (λ closing rest is. end_tells (BlockComment opening closing) rest) (stuck rest) is
    closing_tells (long rest) is =
        then_tells IsNothing (TokenOf filled_text) (λ closing. AtEnd (BlockComment opening closing)) (token ∷ tokens)
        (λ closing. to_end (BlockComment opening closing)) (one_token filled_text) (λ closing. end_some (BlockComment opening closing))
        (λ closing rest is. end_tells (BlockComment opening closing) rest) (long rest) is

-- behind `comment`: an opening text, and its end
abbrev pub CommentRest : Spelling Def
CommentRest = Then (TokenOf filled_text) CommentEnd

-- the reader of a comment behind its first word tells
pub comment_rest_tells : (tokens : List PlacedToken) → HaveShortNames tokens
    → Tells IsNothing CommentRest tokens (next_on to_end (comment_at tokens))
unfolding comment_at next_on
comment_rest_tells tokens short = by (filled_text_at tokens) (filled_tells tokens short)
  where
    by : (x : Read (List ℕ)) → Tells IsAny (TokenOf filled_text) tokens x
        → Tells IsNothing CommentRest tokens (next_on to_end (next_on comment_end x))
    by (got opening rest) is =
        then_got IsNothing (TokenOf filled_text) CommentEnd opening tokens rest (one_token filled_text) is
        (next_on to_end (comment_end opening rest))
        (comment_end_tells opening rest (short_rest IsAny (TokenOf filled_text) opening tokens rest is short))
    by (stuck rest) is =
        then_tells IsNothing (TokenOf filled_text) CommentEnd tokens (λ opening more. next_on to_end (comment_end opening more))
        (one_token filled_text) some_comment_end
        (λ opening more there. comment_end_tells opening more (short_rest IsAny (TokenOf filled_text) opening tokens more there short)) (stuck rest) is
    by (long rest) is =
        then_tells IsNothing (TokenOf filled_text) CommentEnd tokens (λ opening more. next_on to_end (comment_end opening more))
        (one_token filled_text) some_comment_end
        (λ opening more there. comment_end_tells opening more (short_rest IsAny (TokenOf filled_text) opening tokens more there short)) (long rest) is
