-- Comments that are open and comments that are closed.
use Rattle.std.proofs.Common.{◌≡◌, ℕ, List, [], ◌++◌, length, take, sym, ◌∙◌, ap, arith}
use Rattle.std.proofs.lemmas.List.{append-nil, take_all}
use Rattle.spec_automata.specs.Positions.{EndWith}
use Rattle.spec_automata.specs.Laws.{InsideIsOpen, InsideIsClosed}

-- all of the closing text is a front of it
pub whole_front : (closing : List ℕ) → take (length closing) closing ≡ closing
whole_front closing = take_all (length closing) closing (omega arith)

-- where the closing text stands last, the bytes end with it
pub ends_with_last : (closing bytes before behind : List ℕ) → behind ≡ [] → bytes ≡ before ++ (closing ++ behind) →
    EndWith bytes (take (length closing) closing)
ends_with_last closing bytes before behind none e = (
  before,
  e ∙ ap (λ (q : List ℕ). before ++ (closing ++ q)) none ∙ ap (λ (q : List ℕ). before ++ q) (append-nil closing)
      ∙ ap (λ (q : List ℕ). before ++ q) (sym (whole_front closing)),
)

pub inside_is_open : InsideIsOpen
inside_is_open closing bytes size some small = (
  λ inside. (
    λ before behind e.
        let ends = ends_with_last closing bytes before behind (inside.last before behind e) e in
        absurd (omega (arith, inside.border.longest (length closing) (omega arith) ends, small)),
    inside.border,
  ),
  λ h. record { some = some; last = λ before behind e. absurd (h.0 before behind e); border = h.1 },
)

pub inside_is_closed : InsideIsClosed
inside_is_closed closing bytes some = (
  λ inside. record {
    inside = (inside.border.ends).0;
    whole = (inside.border.ends).1 ∙ ap (λ (q : List ℕ). (inside.border.ends).0 ++ q) (whole_front closing);
    first = inside.last;
  },
  λ ends. record {
    some = some;
    last = ends.first;
    border = record {
      within = omega arith;
      ends = (ends.inside, ends.whole ∙ ap (λ (q : List ℕ). ends.inside ++ q) (sym (whole_front closing)));
      longest = λ other within _. within;
    };
  },
)
