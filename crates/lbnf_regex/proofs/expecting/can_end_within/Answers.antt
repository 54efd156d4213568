-- A match ends among the positions of the pattern.
use Rattle.std.proofs.Common.{ℕ, sym, ◌∙◌, subst}
use Rattle.std.specs.List.{Contains}
use Rattle.lbnf_regex.specs.Steps.{HasWithin}
use Rattle.lbnf_regex.specs.Patterns.{bytes_of_pattern}
use Rattle.std.proofs.lemmas.Bool.{false≢true}
use Rattle.lbnf_regex.proofs.ExpectingLemmas.{last_marked}
use Rattle.lbnf_regex.proofs.expecting.can_end_within.Goals as goal

pub returns-else-has_within : goal.returns-else-has_within
returns-else-has_within c =
    let M = Contains c.args.marks.now in (
      λ t. absurd (false≢true (sym c.if-has_within.false ∙ t)),
      λ h. c.has_within.ensures.1
          (subst (λ (n : ℕ). HasWithin c.args.first n M) (sym c.requires.count)
          (last_marked (bytes_of_pattern c.args.pattern.now) c.args.first M h)),
    )
