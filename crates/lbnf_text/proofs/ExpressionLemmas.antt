-- Steps of the reader of token expressions.
use Rattle.std.proofs.lemmas.Bool.{lt-ltb, false≢true}
use Rattle.std.proofs.Common.{◌≡◌, ◌≢◌, ◌+◌, ◌<◌, Result, Ok, Err, ℕ, List, [], ◌∷◌, ◌++◌, length, Option, Some, None, refl, sym, ap, ◌∙◌, arith, true, false, IsTrue}
use Rattle.std.specs.Prelude.{option_map}
use Rattle.spec_lexing.specs.declared.expression.Expr.{Expr}
use Rattle.spec_lexing.specs.declared.expression.Expr.TheVariants.{AnyOf, Word}
use Rattle.spec_lbnf.specs.declared.token.PlacedToken.{PlacedToken}
use Rattle.spec_lbnf.specs.declared.token.Sign.{Sign}
use Rattle.spec_lbnf.specs.declared.token.Sign.TheVariants as sign
use Rattle.spec_lbnf.specs.declared.token.Sign.TheVariants.{CloseBracket, CloseBrace}
use Rattle.spec_lbnf.specs.declared.token.FileToken.{FileToken}
use Rattle.spec_lbnf.specs.declared.token.FileToken.TheVariants.{Identifier, Number, Text, Character}
use Rattle.spec_lbnf.specs.declared.token.FileToken.TheVariants.{Sign as SignToken}
use Rattle.spec_lbnf.specs.TokenExpressions.{alone_or}
use Rattle.lbnf_readers.specs.declared.expression_state.Level.{Level}
use Rattle.lbnf_readers.specs.declared.expression_state.OpenAtom.{OpenAtom}
use Rattle.lbnf_readers.specs.declared.expression_state.OpenAtom.TheVariants as part
use Rattle.lbnf_readers.specs.declared.expression_state.ExpressionState.{ExpressionState}
use Rattle.lbnf_readers.specs.ExpressionReading.{atom_step, plain_step, sign_step, step, whole_of, begin_atom}
use Rattle.lbnf_readers.specs.FileReading.{got, stuck, text_value, expression_from}
use Rattle.lbnf_readers.specs.ExpressionReading.{with_factor, level_expr, suffix_step, close_step, first_state}
use Rattle.lbnf_readers.proofs.StateLemmas.{split_last-push}
use Rattle.spec_lbnf.specs.TokenExpressions.{Suffix, suffix_expr}
use Rattle.spec_lbnf.specs.Words.{is_empty}
use Rattle.lbnf_readers.specs.FileReading.{expression_at}
use Rattle.lbnf_text.specs.declared.parser.Stop.{Stop}
use Rattle.lbnf_text.specs.declared.parser.Stop.TheVariants.{Memory, Stuck}
use Rattle.lbnf_text.specs.Expressions.{closed_by, StepsTo}
use Rattle.lbnf_text.specs.Parsing.{Gives, stopped}

-- several parts, or none, are taken together
pub taken_together : (parts : List Expr) → length parts ≢ 1 → (together : List Expr → Expr) → alone_or together parts ≡ together parts
taken_together [] many together = refl
taken_together (part ∷ []) many together = absurd (many (omega arith))
taken_together (part ∷ other ∷ parts) many together = refl

module _ (state : ExpressionState) where
  -- the state without an atom that is open
  abbrev pub bare_state : ExpressionState
  bare_state = record { outer = state.outer; level = state.level; atom = None }

  -- behind the first sign of an atom its string is read
  pub opened_set : (token : FileToken) → atom_step state part.Bracket token ≡ option_map (λ name. begin_atom state (part.AnyOf name)) (text_value token)
  unfolding atom_step
  opened_set (Identifier name) = refl
  opened_set (Number value) = refl
  opened_set (Text value) = refl
  opened_set (Character scalar) = refl
  opened_set (SignToken s) = refl

  pub opened_word : (token : FileToken) → atom_step state part.Brace token ≡ option_map (λ name. begin_atom state (part.Word name)) (text_value token)
  unfolding atom_step
  opened_word (Identifier name) = refl
  opened_word (Number value) = refl
  opened_word (Text value) = refl
  opened_word (Character scalar) = refl
  opened_word (SignToken s) = refl

  -- behind its string an atom is closed by its sign
  closed_set_by : (name : List ℕ) (s : Sign) → atom_step state (part.AnyOf name) (SignToken s) ≡ closed_by state CloseBracket (AnyOf name) (SignToken s)
  unfolding atom_step
  closed_set_by name sign.Dot = refl
  closed_set_by name sign.Semicolon = refl
  closed_set_by name sign.Gives = refl
  closed_set_by name sign.Colon = refl
  closed_set_by name sign.OpenBracket = refl
  closed_set_by name sign.CloseBracket = refl
  closed_set_by name sign.OpenParen = refl
  closed_set_by name sign.CloseParen = refl
  closed_set_by name sign.OpenBrace = refl
  closed_set_by name sign.CloseBrace = refl
  closed_set_by name sign.Comma = refl
  closed_set_by name sign.Bar = refl
  closed_set_by name sign.Star = refl
  closed_set_by name sign.Plus = refl
  closed_set_by name sign.Question = refl
  closed_set_by name sign.Minus = refl
  closed_set_by name sign.Underscore = refl

  closed_word_by : (name : List ℕ) (s : Sign) → atom_step state (part.Word name) (SignToken s) ≡ closed_by state CloseBrace (Word name) (SignToken s)
  unfolding atom_step
  closed_word_by name sign.Dot = refl
  closed_word_by name sign.Semicolon = refl
  closed_word_by name sign.Gives = refl
  closed_word_by name sign.Colon = refl
  closed_word_by name sign.OpenBracket = refl
  closed_word_by name sign.CloseBracket = refl
  closed_word_by name sign.OpenParen = refl
  closed_word_by name sign.CloseParen = refl
  closed_word_by name sign.OpenBrace = refl
  closed_word_by name sign.CloseBrace = refl
  closed_word_by name sign.Comma = refl
  closed_word_by name sign.Bar = refl
  closed_word_by name sign.Star = refl
  closed_word_by name sign.Plus = refl
  closed_word_by name sign.Question = refl
  closed_word_by name sign.Minus = refl
  closed_word_by name sign.Underscore = refl

  pub closed_set : (name : List ℕ) (token : FileToken) → atom_step state (part.AnyOf name) token ≡ closed_by state CloseBracket (AnyOf name) token
  unfolding atom_step
  closed_set name (Identifier word) = refl
  closed_set name (Number value) = refl
  closed_set name (Text value) = refl
  closed_set name (Character scalar) = refl
  closed_set name (SignToken s) = closed_set_by name s

  pub closed_word : (name : List ℕ) (token : FileToken) → atom_step state (part.Word name) token ≡ closed_by state CloseBrace (Word name) token
  unfolding atom_step
  closed_word name (Identifier word) = refl
  closed_word name (Number value) = refl
  closed_word name (Text value) = refl
  closed_word name (Character scalar) = refl
  closed_word name (SignToken s) = closed_word_by name s

-- where an atom is open, a token is read within it
pub step_within : (state : ExpressionState) (opened : OpenAtom) (token : FileToken) → state.atom ≡ Some opened
    → step state token ≡ atom_step (bare_state state) opened token
unfolding step atom_step
step_within state part.Bracket token is = rw is (opened_set state token ∙ sym (opened_set (bare_state state) token))
step_within state part.Brace token is = rw is (opened_word state token ∙ sym (opened_word (bare_state state) token))
step_within state (part.AnyOf name) token is = rw is (closed_set state name token ∙ sym (closed_set (bare_state state) name token))
step_within state (part.Word name) token is = rw is (closed_word state name token ∙ sym (closed_word (bare_state state) name token))

-- a token that is read leads to the next state
pub one_token : (tokens : List PlacedToken) (token : PlacedToken) (rest : List PlacedToken) (state next : ExpressionState)
    → tokens ≡ token ∷ rest → step state token.token ≡ Some next → expression_from tokens state ≡ expression_from rest next
unfolding expression_from
one_token tokens token rest state next split some = rw (split, some) refl

-- a token that cannot stand is where the reader stops
pub no_token : (tokens : List PlacedToken) (token : PlacedToken) (rest : List PlacedToken) (state : ExpressionState)
    → tokens ≡ token ∷ rest → step state token.token ≡ None → expression_from tokens state ≡ stuck tokens
unfolding expression_from
no_token tokens token rest state split none = rw (split, none) refl

-- where no token is left, the expression is whole, or the reader stops
pub whole_end : (tokens : List PlacedToken) (state : ExpressionState) (expr : Expr) → tokens ≡ [] → whole_of state ≡ Some expr
    → expression_from tokens state ≡ got expr tokens
unfolding expression_from
whole_end tokens state expr none some = rw (none, some) refl

pub no_end : (tokens : List PlacedToken) (state : ExpressionState) → tokens ≡ [] → whole_of state ≡ None
    → expression_from tokens state ≡ stuck tokens
unfolding expression_from
no_end tokens state none not_whole = rw (none, not_whole) refl

-- the level with a sign behind its last factor
pub with_sign : (level : Level) (suffix : Suffix) (front : List Expr) (last : Expr) (factors : List Expr)
    → level.factors ≡ front ++ last ∷ [] → level.signs < 8 → factors ≡ front ++ suffix_expr suffix last ∷ []
    → suffix_step level suffix
    ≡ Some (record { alternatives = level.alternatives; left = level.left; minus_signs = level.minus_signs; factors = factors; signs = level.signs + 1 })
with_sign level suffix front last factors is few pushed = rw (is, split_last-push front last, lt-ltb level.signs 8 few, pushed) refl

-- a list that has an item is not empty
some_items : {A : Type 0} (xs : List A) → (xs ≡ [] → IsTrue false) → is_empty xs ≡ false
some_items [] some = absurd (false≢true (some refl))
some_items (x ∷ xs) some = refl

-- the state behind a close bracket
pub with_close : (state : ExpressionState) (outer : List Level) (around next : Level) → (state.level.factors ≡ [] → IsTrue false)
    → state.outer ≡ outer ++ around ∷ [] → next ≡ with_factor around (level_expr state.level)
    → close_step state ≡ Some (record { outer = outer; level = next; atom = None })
with_close state outer around next some is made = rw (some_items state.level.factors some, is, split_last-push outer around, made) refl

-- at first nothing is read
pub nothing_read : (tokens : List PlacedToken) → expression_at tokens ≡ expression_from tokens first_state
unfolding expression_at
nothing_read tokens = refl

module _ (old tokens : List PlacedToken) (state : ExpressionState) (read : expression_at old ≡ expression_from tokens state) where
  -- a token that cannot stand is where the reader stops
  pub not_read : (token : PlacedToken) (behind : List PlacedToken) (stop : Stop) → tokens ≡ token ∷ behind
      → (step state token.token ≡ None) × (stop ≡ Stuck) → expression_at old ≡ stopped stop tokens
  not_read token behind stop split (none, is) = rw is (read ∙ no_token tokens token behind state split none)

  -- where no token is left, the answer is the expression that is whole
  pub all_read : (answer : Result Expr Stop) → tokens ≡ [] → StepsTo (whole_of state) answer → Gives (expression_at old) answer tokens
  all_read (Ok expr) none some = read ∙ whole_end tokens state expr none some
  all_read (Err stop) none steps = λ free. rw (steps free).1 (read ∙ no_end tokens state none (steps free).0)
