-- The automaton of kinds that are sound lexes texts.
use Rattle.std.proofs.Common.{List, [], All}
use Rattle.std.specs.Str.{IsUtf8}
use Rattle.std.proofs.lemmas.List.Elements.{All-nil}
use Rattle.spec_lexing.specs.declared.kind_def.KindDef.{KindDef}
use Rattle.spec_lexing.specs.Classes.{IsSoundDef}
use Rattle.spec_lexing.specs.Lexicon.{Lexicon}
use Rattle.lbnf_regex.specs.Automata.{Machine}
use Rattle.lbnf_regex.specs.Lexicons.{IsAutomatonOf, lexicon_with}
use Rattle.text_store.specs.TextStore.{AreUtf8, Lexes}
use Rattle.first_tree_cases.proofs.tests.prints.lexer.Goals as goal

-- the automaton of sound kinds lexes texts that have no comments
lexes : (kinds : List KindDef) (a : Machine) → All IsSoundDef kinds →
    IsAutomatonOf (lexicon_with [] [] kinds) a → (lexicon : Lexicon) × Lexes lexicon a
lexes kinds a sound is = (
  lexicon_with [] [] kinds,
  ∣ record {
    automaton = is;
    sound = record { lines = All-nil IsUtf8; blocks = All-nil AreUtf8; kinds = sound };
  } ∣₁,
)

pub returns-in-Ok : goal.returns-in-Ok
returns-in-Ok c =
    lexes c.in_ok-kinds.kinds.items c.in-Ok.automaton c.in_ok-kinds.ensures
    (rw c.as_slice.ensures.value at c.in-Ok.ensures.automaton)
