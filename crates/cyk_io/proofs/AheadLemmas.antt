-- Laws of the bytes that are read ahead.
use Rattle.std.proofs.Common.{◌≡◌, ℕ, ◌+◌, ◌-◌, ◌≤◌, List, [], ◌++◌, Option, Some, None, take, drop, length, refl, sym, ◌∙◌, ap, append_assoc, arith}
use Rattle.std.proofs.lemmas.List.{take-append-drop, drop-take, length-take}
use Rattle.std.specs.Option.{option_map}
use Rattle.cyk_io.specs.Streams.{Takes, Stays, ReadAhead, coming}
use Rattle.cyk_io.proofs.ListLemmas.{drop-drop}

-- where nothing was held, what is read ahead still comes
pub coming_refilled :
    (old : ReadAhead) (left new_left : Option (List ℕ)) (n : ℕ) (into held : List ℕ)
    → old.held ≡ [] → held ≡ take (n - 0) (drop 0 into) → Takes left new_left (take n into)
    → Stays (coming old left) (option_map (λ bytes. held ++ bytes) new_left)
coming_refilled old None new_left n into held empty is takes told came = absurd (cc)
coming_refilled old (Some bytes) new_left n into held empty is takes told came =
    let behind = takes bytes refl in
    let all : n - 0 ≡ n = omega arith in
    let read : held ≡ take n into = is ∙ ap (λ k. take k into) all in
    let same : old.held ++ bytes ≡ told = cc in
    let none_held : bytes ≡ told = rw empty at same in
    rw (behind.1, read) (ap Some (sym behind.2 ∙ none_held))

-- a window that begins later holds what is behind the first bytes
pub window_skipped :
    (bytes : List ℕ) (start end n : ℕ) → n ≤ length (take (end - start) (drop start bytes))
    → take (end - (start + n)) (drop (start + n) bytes) ≡ drop n (take (end - start) (drop start bytes))
window_skipped bytes start end n within =
    let behind : List ℕ = drop start bytes in
    let rest : ℕ = end - (start + n) in
    let fits : length (take (end - start) behind) ≤ end - start =
    omega (arith, length-take (end - start) behind) in
    let parts : end - start ≡ n + rest = omega arith in
    let cut : drop n (take (end - start) behind) ≡ drop n (take (n + rest) behind) =
    ap (λ k. drop n (take k behind)) parts in
    sym (cut ∙ drop-take n rest behind ∙ ap (take rest) (drop-drop start n bytes))

-- the first bytes that are held are taken
pub takes_held :
    (old new : ReadAhead) (left : Option (List ℕ)) (n : ℕ) → new.held ≡ drop n old.held
    → Takes (coming old left) (coming new left) (take n old.held)
takes_held old new None n behind told came = absurd (cc)
takes_held old new (Some bytes) n behind told came =
    let same : old.held ++ bytes ≡ told = cc in
    let cut : take n old.held ++ drop n old.held ≡ old.held = take-append-drop n old.held in
    let parts = ap (λ held. held ++ bytes) (sym cut) ∙ append_assoc (take n old.held) (drop n old.held) bytes in
    let rest = ap (λ held. take n old.held ++ (held ++ bytes)) (sym behind) in
    (new.held ++ bytes, refl, sym same ∙ parts ∙ rest)
