-- What a parser of tokens answers. Serves the proofs alone.
use Rattle.std.specs.Prelude.{◌≡◌, ◌≢◌, ℕ, List, [], ◌∷◌, ◌++◌, Bool, cond, codes}
use Rattle.std.specs.Prelude.{Option, Some, None, Result, Ok, Err}
use Rattle.std.specs.Borrow.{Bor}
use Rattle.spec_lbnf.specs.declared.token.PlacedToken.{PlacedToken}
use Rattle.lbnf_readers.specs.FileReading.{Read, Reader, got, stuck, long, next_on, pure}
use Rattle.lbnf_readers.specs.FileReading.{◌>>=◌, sign_at, category_at, rule_at, is_word, token_at}
use Rattle.lbnf_readers.specs.FileReading.{position_at, comment_at}
use Rattle.spec_lbnf.specs.declared.token.Sign.TheVariants.{Comma}
use Rattle.spec_lbnf.specs.declared.definition.RawItem.{RawItem}
use Rattle.spec_lbnf.specs.declared.definition.RawItem.TheVariants.{Cat}
use Rattle.spec_lbnf.specs.declared.definition.CatName.{CatName}
use Rattle.spec_lbnf.specs.declared.definition.Def.{Def}
use Rattle.spec_lbnf.specs.declared.definition.Def.TheVariants as def
use Rattle.lbnf_text.specs.declared.definition.ListMacro.{ListMacro}
use Rattle.lbnf_text.specs.declared.definition.ListMacro.TheVariants.{Terminator, Separator}
use Rattle.lbnf_text.specs.declared.parser.Stop.{Stop}
use Rattle.lbnf_text.specs.declared.parser.Stop.TheVariants.{Memory, Stuck, Long}

-- what a reader gives that stops so, with these tokens left
abbrev pub stopped : {A : Type 0} → Stop → List PlacedToken → Read A
stopped Memory rest = stuck rest
stopped Stuck rest = stuck rest
stopped Long rest = long rest

-- the answer, with these tokens left, is what a reader gives; want of memory is free
abbrev pub Gives : {A : Type 0} → Read A → Result A Stop → List PlacedToken → Type 0
Gives read (Ok value) rest = read ≡ got value rest
Gives read (Err stop) rest = stop ≢ Memory → read ≡ stopped stop rest

-- what a reader gives was added to the list, with these tokens left, or this is its answer; want of
-- memory is free
abbrev pub AddsRead : {A B : Type 0} → Read (List A) → List A → List A → Result B Stop
    → List PlacedToken → Type 0
AddsRead {A} read old new (Ok done) rest =
    (more : List A) × (read ≡ got more rest) × (new ≡ old ++ more)
AddsRead read old new (Err stop) rest = stop ≢ Memory → read ≡ stopped stop rest

-- the answer is the first of the tokens and those behind it, or that there is none
abbrev pub IsFirstToken : List PlacedToken → Option (Bor PlacedToken × Bor (List PlacedToken))
    → Type 0
IsFirstToken tokens (Some parts) = tokens ≡ parts.0.now ∷ parts.1.now
IsFirstToken tokens None = tokens ≡ []

-- the answer is the next token and those behind it, or that none is left
abbrev pub Splits : List PlacedToken → Result (Bor PlacedToken × Bor (List PlacedToken)) Stop
    → Type 0
Splits tokens (Ok parts) = tokens ≡ parts.0.now ∷ parts.1.now
Splits tokens (Err stop) = (tokens ≡ []) × (stop ≡ Stuck)

-- the definition that a macro for lists makes of its parts
abbrev pub list_def : ListMacro → Bool → CatName → List ℕ → Def
list_def Terminator nonempty cat word = def.Terminator nonempty cat word
list_def Separator nonempty cat word = def.Separator nonempty cat word

-- a category, as the items that it gives
abbrev pub category_item_at : Reader (List RawItem)
category_item_at tokens = next_on (λ cat. pure (Cat cat ∷ [])) (category_at tokens)

-- a comma and a category
abbrev pub next_entry_at : Reader CatName
next_entry_at tokens = next_on (λ comma. category_at) (sign_at Comma tokens)

-- the kind of token or the comment that begins with this word, behind it, or else a rule
abbrev pub lexical_or_rule : PlacedToken → Reader Def
lexical_or_rule token rest =
    cond (is_word (codes "token") token.token) (token_at rest)
    (cond (is_word (codes "position") token.token) (position_at rest)
    (cond (is_word (codes "comment") token.token) (comment_at rest)
    ((rule_at >>= (λ rule. pure (def.Rule rule))) (token ∷ rest))))
