-- The parts of a literal as they are read. Serves the proofs alone.
use Rattle.std.specs.Prelude.{◌≡◌, ℕ, List, [], ◌++◌, ◌<◌, length, Bool, false, Some, None}
use Rattle.std.specs.Prelude.{option_map, encode_utf8}
use Rattle.std.specs.Char.{IsScalar}
use Rattle.lbnf_readers.specs.Scanning.{literal_from}
use Rattle.lbnf_text.specs.declared.scanner.Part.{Part}
use Rattle.lbnf_text.specs.declared.scanner.Part.TheVariants.{Scalar, Close, Broken}

-- a scalar before a value that is read
abbrev pub scalar_before : ℕ → List ℕ × List ℕ → List ℕ × List ℕ
scalar_before scalar read = (encode_utf8 scalar ++ read.0, read.1)

-- the part is what comes next in a literal with this quote, where the test says whether a backslash
-- stands before the bytes
abbrev pub IsPartOf : ℕ → Bool → List ℕ → Part → Type 0
IsPartOf quote escapes bytes (Scalar scalar rest) =
    literal_from quote escapes bytes
    ≡ option_map (scalar_before scalar) (literal_from quote false rest.now)
IsPartOf quote escapes bytes (Close rest) = literal_from quote escapes bytes ≡ Some ([], rest.now)
IsPartOf quote escapes bytes Broken = literal_from quote escapes bytes ≡ None

-- the part, if it is a scalar, is the code of a character
abbrev pub IsScalarPart : Part → Type 0
IsScalarPart (Scalar scalar rest) = IsScalar scalar
IsScalarPart other = Unit {0}

-- the part leaves fewer bytes
abbrev pub LeavesFewer : List ℕ → Part → Type 0
LeavesFewer bytes (Scalar scalar rest) = length rest.now < length bytes
LeavesFewer bytes (Close rest) = length rest.now < length bytes
LeavesFewer bytes Broken = Unit {0}
