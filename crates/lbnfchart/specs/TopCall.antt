-- What the program's top call promises: the session of its input where the words are the one word
-- `serve`, and else the usage line.
use Rattle.std.specs.Prelude.{◌≡◌, ℕ, ◌⊎◌, List, [], ◌∷◌, ◌++◌, Option, String, codes, string_bytes}
use Rattle.std.specs.declared.alloc.Global.{Global}
use Rattle.chart_service.specs.declared.options.Options.{Options}
use Rattle.cyk_io.specs.Streams.{Grows, GrowsByPrefix}

-- the bytes of the words
abbrev pub word_bytes : List (String Global) → List (List ℕ)
word_bytes [] = []
word_bytes (word ∷ words) = string_bytes word ∷ word_bytes words

-- the words are the one word `serve`
abbrev pub IsServe : List (String Global) → Type 0
IsServe words = word_bytes words ≡ codes "serve" ∷ []

-- the line that says which words the program takes, with its LF
abbrev pub usage_line : List ℕ
usage_line =
    codes "usage: lbnfchart serve|watch|check|gen [--workers N] [--readers M] [--rounds R] "
    ++ (codes "[--grain G] [--seed S] [--tokens N]" ++ 10 ∷ [])

-- the usage line is written whole and the status is 1, or the status is that of a write's fault or
-- of want of memory and a prefix of the line is written
abbrev pub WritesUsage : Option (List ℕ) → Option (List ℕ) → ℕ → Type 0
WritesUsage old new status =
    ((status ≡ 1) × Grows old new usage_line)
    ⊎ (((status ≡ 5) ⊎ (status ≡ 6)) × GrowsByPrefix old new usage_line)

-- the options of a run whose words give none
abbrev pub default_options : Options
default_options =
    record { workers = 1; readers = 2; rounds = 10; grain = 64; seed = 0; tokens = 160 }
