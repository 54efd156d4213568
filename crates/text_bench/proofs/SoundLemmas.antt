-- Tests of constant texts.
use Rattle.std.proofs.Common.{◌≡◌, ℕ, ◌<◌, List, All, nat_lt, true, sym, subst}
use Rattle.std.specs.List.{list_all}
use Rattle.std.specs.Str.{chars}
use Rattle.std.proofs.lemmas.Bool.{ltb-true}
use Rattle.std.proofs.lemmas.List.Elements.{All-weaker}
use Rattle.std.proofs.lemmas.List.Sums.{AllPass-from_list_all}
use Rattle.std.proofs.lemmas.Str.{chars-IsAscii}
use Rattle.std.proofs.lemmas.Str.Ascii.{IsAscii-from_all}

-- bytes that pass the test spell ASCII characters alone
pub ascii_chars : (bytes : List ℕ) → list_all (λ b. nat_lt b 128) bytes ≡ true → All (λ c. c < 128) (chars bytes)
ascii_chars bytes low =
    let all : All (λ b. b < 128) bytes
    = All-weaker (λ b. nat_lt b 128 ≡ true) (λ b. b < 128) (λ b test. ltb-true b 128 test) bytes
    (AllPass-from_list_all (λ b. nat_lt b 128) bytes low) in
    subst (All (λ c. c < 128)) (sym (chars-IsAscii bytes (IsAscii-from_all bytes all))) all
