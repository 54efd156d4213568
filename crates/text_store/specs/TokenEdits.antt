-- What has to be done to a list of kinds to get another.
use Rattle.std.specs.Prelude.{◌≡◌, ℕ, ◌+◌, ◌≤◌, List, [], ◌∷◌, ◌++◌, length, Option}
use Rattle.text_store.specs.declared.token_edit.TokenEdit.{TokenEdit}
use Rattle.text_store.specs.Splices.{splice}

-- no item begins both lists
abbrev pub BeginApart : {X : Type 0} → List X → List X → Type 0
BeginApart {X} xs ys = (x : X) (us vs : List X) → xs ≡ x ∷ us → ys ≡ x ∷ vs → ⊥

-- no item ends both lists
abbrev pub EndApart : {X : Type 0} → List X → List X → Type 0
EndApart {X} xs ys = (x : X) (us vs : List X) → xs ≡ us ++ x ∷ [] → ys ≡ vs ++ x ∷ [] → ⊥

-- the edit lies in the old kinds, and makes the new ones of them
abbrev pub IsEdit : List (Option ℕ) → List (Option ℕ) → TokenEdit → Type 0
IsEdit old new edit =
    (edit.first + edit.deleted ≤ length old)
    × (splice old edit.first edit.deleted edit.inserted ≡ new)

-- the edit replaces what is left of the old kinds by what is left of the new ones, where the longest
-- common prefix of both is taken away, and then the longest common suffix of the rest
pub record IsTrimmedEdit (old new : List (Option ℕ)) (edit : TokenEdit) : Type 0 where
  pub prefix : List (Option ℕ)
  pub deleted : List (Option ℕ)
  pub suffix : List (Option ℕ)
  pub first : edit.first ≡ length prefix
  pub count : edit.deleted ≡ length deleted
  pub old_is : old ≡ prefix ++ (deleted ++ suffix)
  pub new_is : new ≡ prefix ++ (edit.inserted ++ suffix)
  pub longest_prefix : BeginApart (deleted ++ suffix) (edit.inserted ++ suffix)
  pub longest_suffix : EndApart deleted edit.inserted
