-- What is true of each input: it is one script.
use Rattle.std.specs.Prelude.{◌≡◌, ℕ, List}
use Rattle.spec_script.specs.Script.{Script, Form, Ending, IsScript}

-- an input is at most one script of the form, and has one end
abbrev pub OneScript : Form → Type 0
OneScript form =
    (input : List ℕ) (script other : Script) (ending final : Ending) →
    IsScript form input script ending → IsScript form input other final →
    (script ≡ other) × (ending ≡ final)
