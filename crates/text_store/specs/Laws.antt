-- The laws of edits.
use Rattle.std.specs.Prelude.{◌≡◌, ℕ, ◌≤◌, List, [], length, Option, IsUtf8}
use Rattle.text_store.specs.declared.token_edit.TokenEdit.{TokenEdit}
use Rattle.text_store.specs.TokenEdits.{IsEdit, IsTrimmedEdit}
use Rattle.text_store.specs.TextEdits.{CutsNone, edited}

-- a trimmed edit makes the new kinds of the old ones
abbrev pub MakesNewKinds : Type 0
MakesNewKinds =
    (old new : List (Option ℕ)) (edit : TokenEdit) → IsTrimmedEdit old new edit →
    IsEdit old new edit

-- any two lists of kinds have a trimmed edit
abbrev pub HasTrimmedEdit : Type 0
HasTrimmedEdit = (old new : List (Option ℕ)) → (edit : TokenEdit) × IsTrimmedEdit old new edit

-- and no other
abbrev pub HasOneTrimmedEdit : Type 0
HasOneTrimmedEdit =
    (old new : List (Option ℕ)) (edit other : TokenEdit) → IsTrimmedEdit old new edit →
    IsTrimmedEdit old new other → edit ≡ other

-- no edit that makes the same of the same inserts fewer kinds than the trimmed one, or deletes fewer
abbrev pub IsLeastEdit : Type 0
IsLeastEdit =
    (old new : List (Option ℕ)) (edit other : TokenEdit) → IsTrimmedEdit old new edit →
    IsEdit old new other →
    (length edit.inserted ≤ length other.inserted) × (edit.deleted ≤ other.deleted)

-- where the kinds stay the same, nothing is deleted and nothing inserted
abbrev pub LeavesSameKinds : Type 0
LeavesSameKinds =
    (kinds : List (Option ℕ)) (edit : TokenEdit) → IsTrimmedEdit kinds kinds edit →
    (edit.deleted ≡ 0) × (edit.inserted ≡ [])

-- an edit that cuts no scalar of a text in UTF-8 leaves UTF-8
abbrev pub KeepsUtf8 : Type 0
KeepsUtf8 =
    (old : List ℕ) (at deleted : ℕ) (inserted : List ℕ) → IsUtf8 old →
    CutsNone old at deleted inserted → IsUtf8 (edited old at deleted inserted)
