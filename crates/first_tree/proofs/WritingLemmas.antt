-- Bytes are added, and then others.
use Rattle.std.proofs.Common.{◌≡◌, ℕ, List, [], ◌++◌, Option, Some, Result, Ok, Err, OnOk, OnErr, sym, ◌∙◌, ap, subst, append-nil}
use Rattle.cyk_io.specs.Streams.{Grows, GrowsByPrefix}
use Rattle.cyk_io.specs.Gathering.{Passes}
use Rattle.cyk_io.proofs.GatheringLemmas.{both_grow, prefix_behind, both_pass, passes_cut, cut_of_both}
use Rattle.first_tree.specs.OpenNodes.{Adds, StopsIn}

-- none are added
pub adds_none : (old : Option (List ℕ) × List ℕ) → Adds old old []
adds_none old = ([], (λ told is. is ∙ ap Some (sym (append-nil told))), append-nil old.1)

-- both are added
pub both_add :
    (old mid new : Option (List ℕ) × List ℕ) (first second : List ℕ)
    → Adds old mid first → Adds mid new second → Adds old new (first ++ second)
both_add old mid new first second adds more =
    both_pass old.0 mid.0 new.0 old.1 first mid.1 second new.1 adds more

-- a prefix of the first is one of both
pub stops_in_both :
    (old new : Option (List ℕ) × List ℕ) (first second : List ℕ)
    → StopsIn old new first → StopsIn old new (first ++ second)
stops_in_both old new first second cut = cut_of_both old.0 new.0 old.1 first second cut

-- the first are added, and then a prefix of the second
pub stops_later :
    (old mid new : Option (List ℕ) × List ℕ) (first second : List ℕ)
    → Adds old mid first → StopsIn mid new second → StopsIn old new (first ++ second)
stops_later old mid new first second adds cut =
    passes_cut old.0 mid.0 new.0 old.1 first mid.1 second adds cut

-- an error came where this is so
pub on_error : {X E : Type 0} (P : Type 0) (r : Result X E) → P → OnErr r P
on_error P (Ok x) is = tt
on_error P (Err fault) is = is

-- bytes pass behind none that were gathered, and what is left is written then, or a prefix of it
module _ (old mid new : Option (List ℕ)) (gathered bytes left : List ℕ) (none : gathered ≡ [])
    (passes : Passes old mid gathered bytes left) where
  as_written : passes.0 ++ left ≡ bytes
  as_written = sym passes.2 ∙ ap (λ these. these ++ bytes) none

  pub all_written : {X E : Type 0} → (r : Result X E)
      → OnOk r (Grows mid new left) → OnOk r (Grows old new bytes)
  all_written (Ok x) more =
      subst (Grows old new) as_written (both_grow old mid new passes.0 left passes.1 more)
  all_written (Err fault) h = h

  pub cut_written : {X E : Type 0} → (r : Result X E)
      → OnErr r (GrowsByPrefix mid new left) → OnErr r (GrowsByPrefix old new bytes)
  cut_written (Ok x) h = h
  cut_written (Err fault) cut =
      subst (GrowsByPrefix old new) as_written (prefix_behind old mid new passes.0 left passes.1 cut)
