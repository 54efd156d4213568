-- What is true of the numbers, the texts and the edits of seeds.
use Rattle.std.specs.Prelude.{◌≡◌, ℕ, ◌+◌, ◌*◌, ◌<◌, [], ◌∷◌, codes, get_or, length}
use Rattle.generator.specs.Draws.{drawn}
use Rattle.generator.specs.Generated.{as_lines, sign_of, text_of, sign_offset}

-- the first numbers of two seeds are those that are published for the generator
pub record ArePublished : Type 0 where
  pub zero_first : drawn 0 0 ≡ 16294208416658607535
  pub zero_second : drawn 0 1 ≡ 7960286522194355700
  pub zero_third : drawn 0 2 ≡ 487617019471545679
  pub first : drawn 1234567 0 ≡ 6457827717110365317
  pub second : drawn 1234567 1 ≡ 3203168211198807973
  pub third : drawn 1234567 2 ≡ 9817491932198370423
  pub fourth : drawn 1234567 3 ≡ 4593380528125082431
  pub fifth : drawn 1234567 4 ≡ 16408922859458223821

-- the text of seed 0 begins with these statements
abbrev pub BeginsOfZero : Type 0
BeginsOfZero =
    text_of 0 4 ≡ as_lines
    (codes "vj=(0-4);" ∷ codes "vr=(0*0);" ∷ codes "vl=(0-6);" ∷ codes "vr=(1*7);" ∷ [])

-- a text has ten bytes for each statement
abbrev pub HaveTenBytes : Type 0
HaveTenBytes = (seed statements : ℕ) → length (text_of seed statements) ≡ 10 * statements

-- at the offset of its sign a text has the sign that was drawn for the statement
abbrev pub HaveSigns : Type 0
HaveSigns =
    (seed statements statement : ℕ) → statement < statements →
    get_or (text_of seed statements) (sign_offset statement) 0
    ≡ sign_of (drawn seed (4 * statement + 2))
