-- Runs: the longest front of a list of bytes that passes a test, and what stops it.
use Rattle.std.proofs.Common.{◌≡◌, ℕ, List, [], ◌∷◌, ◌++◌, length, take, drop, Bool, true, refl, inl, inr, arith, take-append-drop, one-add}
use Rattle.std.proofs.lemmas.Bool.{cases_Bool}
use Rattle.std.specs.List.{prefix_len, AllByRecursion}
use Rattle.std.proofs.lemmas.List.{take_at, drop_at}
use Rattle.spec_lbnf.specs.FileTokens.{RunEnds}

module _ (passes : ℕ → Bool) where
  -- a run that is stopped is the longest front that passes
  pub run_len : (run rest : List ℕ) → AllByRecursion (λ b. passes b ≡ true) run → RunEnds passes rest
      → prefix_len passes (run ++ rest) ≡ length run
  run_len [] [] all stops = refl
  run_len [] (b ∷ rest) all stops = rw stops refl
  run_len (b ∷ run) rest all stops = rw (all.0, run_len run rest all.1 stops) (omega arith)

  -- the longest front passes
  pub run_passes : (bytes : List ℕ)
      → AllByRecursion (λ b. passes b ≡ true) (take (prefix_len passes bytes) bytes)
  run_passes [] = tt
  run_passes (b ∷ bytes) = elim (cases_Bool (passes b)) [
    | inl e ↦ rw (e, one-add) (e, run_passes bytes)
    | inr e ↦ rw e tt
  ]

  -- it is stopped
  pub run_stops : (bytes : List ℕ) → RunEnds passes (drop (prefix_len passes bytes) bytes)
  run_stops [] = tt
  run_stops (b ∷ bytes) = elim (cases_Bool (passes b)) [
    | inl e ↦ rw (e, one-add) (run_stops bytes)
    | inr e ↦ rw e e
  ]

  -- the longest front and what is behind it are the bytes
  pub run_whole : (bytes : List ℕ)
      → take (prefix_len passes bytes) bytes ++ drop (prefix_len passes bytes) bytes ≡ bytes
  run_whole bytes = take-append-drop (prefix_len passes bytes) bytes

  -- a run that is stopped is what the longest front takes
  pub run_take : (run rest : List ℕ) → AllByRecursion (λ b. passes b ≡ true) run → RunEnds passes rest
      → take (prefix_len passes (run ++ rest)) (run ++ rest) ≡ run
  run_take run rest all stops = rw (run_len run rest all stops) (take_at run rest (length run) refl)

  -- and what stops it is what is behind
  pub run_drop : (run rest : List ℕ) → AllByRecursion (λ b. passes b ≡ true) run → RunEnds passes rest
      → drop (prefix_len passes (run ++ rest)) (run ++ rest) ≡ rest
  run_drop run rest all stops = rw (run_len run rest all stops) (drop_at run rest (length run) refl)
