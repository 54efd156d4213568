-- The words of the lexicon and of its comments are UTF-8.
use Rattle.std.proofs.Common.{List, ℕ, [], ◌∷◌, All}
use Rattle.std.specs.Str.{IsUtf8}
use Rattle.std.proofs.lemmas.List.Elements.{All-nil, All-cons}
use Rattle.spec_lexing.specs.declared.kind_def.KindDef.{KindDef}
use Rattle.spec_lexing.specs.Classes.{IsSoundDef}
use Rattle.spec_lexing.specs.Lexicon.{Lexicon}
use Rattle.lbnf_regex.specs.Automata.{Machine}
use Rattle.lbnf_regex.specs.Lexicons.{IsAutomatonOf, lexicon_with}
use Rattle.text_store.specs.TextStore.{AreUtf8, Lexes}
use Rattle.text_store_cases.proofs.tests.lexer.Goals as goal

-- the automaton of UTF-8 words lexes texts
lexes : (line opening closing : List ℕ) (kinds : List KindDef) (a : Machine) → IsUtf8 line → IsUtf8 opening →
    IsUtf8 closing → All IsSoundDef kinds →
    IsAutomatonOf (lexicon_with (line ∷ []) ((opening, closing) ∷ []) kinds) a →
    (lexicon : Lexicon) × Lexes lexicon a
lexes line opening closing kinds a l o c k is = (
  lexicon_with (line ∷ []) ((opening, closing) ∷ []) kinds,
  ∣ record {
    automaton = is;
    sound = record {
      lines = All-cons IsUtf8 line [] l (All-nil IsUtf8);
      blocks = All-cons AreUtf8 (opening, closing) [] (o, c) (All-nil AreUtf8);
      kinds = k;
    };
  } ∣₁,
)

pub returns-in-Ok : goal.returns-in-Ok
returns-in-Ok c =
    lexes c.in_ok-name.field-0 c.in_ok-name-2.field-0 c.in_ok-name-3.field-0 c.in_ok-kinds.kinds.items
    c.in-Ok.automaton c.in_ok-name.ensures c.in_ok-name-2.ensures c.in_ok-name-3.ensures c.in_ok-kinds.ensures
    (rw c.as_slice.ensures.value at c.in-Ok.ensures.automaton)
