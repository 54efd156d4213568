-- Tokens of a file, one by one: what is read of the rest goes on from what was read so far.
use Rattle.std.proofs.Common.{◌≡◌, ℕ, ◌+◌, ◌-◌, ◌<◌, ◌≤◌, List, [], ◌∷◌, ◌++◌, length, Some, None, refl, sym, ap, subst, ◌∙◌, append_assoc, arith, length-append}
use Rattle.spec_lbnf.specs.declared.token.FileToken.{FileToken}
use Rattle.spec_lbnf.specs.declared.token.PlacedToken.{PlacedToken}
use Rattle.spec_lbnf.specs.FileTokens.{Separates, Skips, nothing, goes_on, AreFileTokensFrom}
use Rattle.lbnf_readers.specs.Scanning.{behind_space, file_token_at, SkipsTo}
use Rattle.lbnf_readers.proofs.SpaceLemmas.{space_read}
use Rattle.lbnf_readers.proofs.ScanLemmas.{space_shorter, skip_shorter, token_read, token_shorter, nothing_read}

-- what is behind a space is shorter
pub behind_is_shorter : (bytes behind : List ℕ) → Some behind ≡ behind_space bytes → length behind < length bytes
behind_is_shorter bytes behind e = space_shorter bytes behind (space_read bytes behind (sym e))

-- a space before what is skipped is skipped with it
pub skips_more : (bytes behind rest : List ℕ) → Some behind ≡ behind_space bytes → SkipsTo behind rest → SkipsTo bytes rest
skips_more bytes behind rest e (skipped, f, skips) =
    let space = space_read bytes behind (sym e) in
    let whole : bytes ≡ (space.0 ++ skipped) ++ rest =
    space.1 ∙ ap (λ l. space.0 ++ l) f ∙ sym (append_assoc space.0 skipped rest) in
    (space.0 ++ skipped, whole, goes_on (space.0 ++ skipped) space.0 skipped rest refl (subst (Separates space.0) f space.2) skips)

-- nothing is skipped of what is left
pub skips_none : (bytes : List ℕ) → SkipsTo bytes bytes
skips_none bytes = ([], refl, nothing [] bytes refl)

-- what is behind all spaces and a token is shorter
pub behind_token_is_shorter : (bytes here behind : List ℕ) (token : FileToken) → SkipsTo bytes here
    → Some (token, behind) ≡ file_token_at here → length behind < length bytes
behind_token_is_shorter bytes here behind token skips e =
    omega (arith, skip_shorter bytes here skips, token_shorter token here behind (token_read here token behind (sym e)))

module _ (size : ℕ) where
  -- a token that is read comes before the tokens behind it
  pub token_then : (bytes here behind : List ℕ) (token : FileToken) (tokens : List PlacedToken) (stop : ℕ)
      → length bytes ≤ size → SkipsTo bytes here → Some (token, behind) ≡ file_token_at here
      → AreFileTokensFrom (size - length behind) behind tokens stop
      → AreFileTokensFrom (size - length bytes) bytes (record { token = token; offset = size - length here } ∷ tokens) stop
  token_then bytes here behind token tokens stop fits (skipped, e, skips) f more =
      let begins = token_read here token behind (sym f) in
      let lens : length bytes ≡ length skipped + length here = omega (arith, ap length e, length-append skipped here) in
      let lens' : length here ≡ length begins.0 + length behind =
      omega (arith, ap length begins.1, length-append begins.0 behind) in
      let next : size - length behind ≡ size - length here + length begins.0 = omega (arith, lens, lens', fits) in (
        skipped,
        begins.0,
        behind,
        e ∙ ap (λ l. skipped ++ l) begins.1,
        subst (Skips skipped) begins.1 skips,
        omega (arith, lens, fits),
        begins.2,
        subst (λ n. AreFileTokensFrom n behind tokens stop) next more,
      )

  -- where no token is read, the tokens end
  pub no_token_then : (bytes here : List ℕ) → length bytes ≤ size → SkipsTo bytes here
      → behind_space here ≡ None → None ≡ file_token_at here → AreFileTokensFrom (size - length bytes) bytes [] (size - length here)
  no_token_then bytes here fits (skipped, e, skips) free f =
      let lens : length bytes ≡ length skipped + length here = omega (arith, ap length e, length-append skipped here) in
      (skipped, here, e, skips, omega (arith, lens, fits), nothing_read here free (sym f))
