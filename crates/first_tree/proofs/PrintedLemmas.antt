-- Bytes are printed one by one.
use Rattle.std.proofs.Common.{◌≡◌, ℕ, ◌+◌, ◌<◌, List, [], ◌∷◌, ◌++◌, length, take, slice_index_or, sym, ◌∙◌, ap, append-nil}
use Rattle.std.proofs.lemmas.Grind.{flat_map-append}
use Rattle.std.proofs.lemmas.List.{take_more}
use Rattle.spec_text.specs.Escapes.{printed, printed_byte}

-- one byte more
pub printed_more :
    (bytes : List ℕ) (i : ℕ) → i < length bytes
    → printed (take (i + 1) bytes) ≡ printed (take i bytes) ++ printed_byte (slice_index_or bytes i 0)
printed_more bytes i below =
    let byte : ℕ = slice_index_or bytes i 0 in
    ap printed (take_more bytes i 0 below) ∙ flat_map-append printed_byte (take i bytes) (byte ∷ [])
    ∙ ap (λ text. printed (take i bytes) ++ text) (append-nil (printed_byte byte))

-- one byte more that is printed as it is
pub plain_more :
    (bytes : List ℕ) (i : ℕ) → i < length bytes
    → printed_byte (slice_index_or bytes i 0) ≡ slice_index_or bytes i 0 ∷ []
    → printed (take i bytes) ≡ take i bytes → printed (take (i + 1) bytes) ≡ take (i + 1) bytes
plain_more bytes i below plain so_far =
    printed_more bytes i below ∙ ap (λ text. printed (take i bytes) ++ text) plain
    ∙ ap (λ text. text ++ slice_index_or bytes i 0 ∷ []) so_far ∙ sym (take_more bytes i 0 below)
