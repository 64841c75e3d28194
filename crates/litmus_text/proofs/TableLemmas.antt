-- What a table returns for a name.
use Rattle.std.proofs.Common.{inl, inr, ◌≡◌, ◌≢◌, ℕ, List, [], ◌∷◌, Option, Some, None, Bor, refl, subst, sym, ◌∙◌}
use Rattle.std.specs.List.{find}
use Rattle.std.specs.Option.{IfSome, IfNone, option_map}
use Rattle.std.specs.Str.{bytes_eq}
use Rattle.std.proofs.lemmas.Bool.{cases_Bool, false≢true}
use Rattle.std.proofs.lemmas.Slice.Eq.{bytes_eq-Decides}
use Rattle.litmus_text.specs.Table.{entries, value_named}

-- each entry of a table has P
abbrev pub Each : {X : Type 0} → (X → Type 0) → List X → Type 0
Each P [] = Unit {0}
Each P (x ∷ xs) = P x × Each P xs

found : {T : Type 0} (P : List ℕ → T → Type 0) (table : List (List ℕ × T)) (name : List ℕ) (value : T)
    → Each (λ entry. P entry.0 entry.1) table → Some value ≡ value_named table name → P name value
found P [] name value each e = absurd (cc)
found P (entry ∷ more) name value each e =
    elim (cases_Bool (bytes_eq entry.0 name)) [
      | inl same ↦
          let first : value ≡ entry.1 = let picked = rw same at e in cc in
          let name_is = (bytes_eq-Decides entry.0 name).0 same in
          subst (λ v. P name v) (sym first) (subst (λ text. P text entry.1) name_is each.0)
      | inr other ↦ found P more name value each.1 (rw other at e)
    ]

missing : {T : Type 0} (table : List (List ℕ × T)) (name : List ℕ) → None ≡ value_named table name
    → Each (λ entry. name ≢ entry.0) table
missing [] name e = tt
missing (entry ∷ more) name e =
    elim (cases_Bool (bytes_eq entry.0 name)) [
      | inl same ↦ absurd (let picked = rw same at e in cc)
      | inr other ↦ (
        λ same. false≢true (sym other ∙ (bytes_eq-Decides entry.0 name).1 (sym same)),
        missing more name (rw other at e),
      )
    ]

-- what holds of each name in the table and its value holds of a name that is found and its value
pub named : {T : Type 0} (P : List ℕ → T → Type 0) (table : List (List ℕ × T)) (name : List ℕ) (answer : Option T)
    → answer ≡ value_named table name → Each (λ entry. P entry.0 entry.1) table → IfSome answer (λ value. P name value)
named P table name None e each = tt
named P table name (Some value) e each = found P table name value each e

-- a name that isn't found is none of those in the table
pub unnamed : {T : Type 0} (Q : Type 0) (table : List (List ℕ × T)) (name : List ℕ) (answer : Option T)
    → answer ≡ value_named table name → (Each (λ entry. name ≢ entry.0) table → Q) → IfNone answer Q
unnamed Q table name None e follows = follows (missing table name e)
unnamed Q table name (Some value) e follows = tt

-- a search of a table's entries, by their names
pub found_entry : {T : Type 0} (name : List ℕ) (table : List (Bor (List ℕ) × T))
    → option_map (λ entry. entry.1) (find (λ entry. bytes_eq entry.0.now name) table) ≡ value_named (entries table) name
found_entry name [] = refl
found_entry name (entry ∷ more) =
    elim (cases_Bool (bytes_eq entry.0.now name)) [
      | inl same ↦ rw same
      | inr other ↦ rw other (found_entry name more)
    ]
