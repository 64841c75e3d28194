-- A text with other settings, line by line.
use Rattle.std.proofs.Common.{◌≡◌, ℕ, Bool, List, [], ◌∷◌, ◌++◌, ap, ap₂, sym, ◌∙◌, append_assoc, ◌&&◌, not}
use Rattle.std.proofs.Common.{◌<◌, ◌≤◌, ◌+◌, None, Some, drop, false, get_or, length, refl, true}
use Rattle.std.proofs.lemmas.List.{at_drop_all, at_drop_more}
use Rattle.program_sweep.specs.declared.setting.Setting.{Setting}
use Rattle.program_sweep.specs.declared.name.Bound.{Bound}
use Rattle.program_sweep.specs.Text.{added_if, bounding_in, bounds, ended, ends_settings, left_with}

-- the next line
pub next_line : (added line : List ℕ) (more left : List (List ℕ)) (is_before ends after : Bool) (old mid new : List ℕ)
    → left ≡ line ∷ more → ends ≡ ends_settings is_before line → mid ≡ old ++ added_if added ends
    → new ≡ mid ++ ended line → after ≡ (is_before && not ends)
    → new ++ left_with added after more ≡ old ++ left_with added is_before left
next_line added line more left is_before ends after old mid new first is one two later =
    ap (λ (t : List ℕ). t ++ left_with added after more) two
    ∙ append_assoc mid (ended line) (left_with added after more)
    ∙ ap (λ (t : List ℕ). t ++ (ended line ++ left_with added after more)) one
    ∙ append_assoc old (added_if added ends) (ended line ++ left_with added after more)
    ∙ ap (λ (t : List ℕ). old ++ t)
    (ap₂ (λ (e a : Bool). added_if added e ++ (ended line ++ left_with added a more)) is
    (later ∙ ap (λ (e : Bool). is_before && not e) is)
    ∙ sym (ap (left_with added is_before) first))

-- no line is left
pub end_lines : (added : List ℕ) (is_before : Bool) (left : List (List ℕ)) (old new : List ℕ) → left ≡ []
    → new ≡ old ++ added_if added is_before → new ≡ old ++ left_with added is_before left
end_lines added is_before left old new none one =
    one ∙ ap (λ (t : List ℕ). old ++ t) (sym (ap (left_with added is_before) none))

-- ---- the setting that bounds a run

module _ (bound : Bound) (settings : List Setting) (i : ℕ) where
  -- a setting of another name does not
  pub next_bound : (setting : Setting) → i < length settings → setting ≡ get_or settings i setting
      → bounds bound setting.name.now ≡ false
      → bounding_in bound (drop i settings) ≡ bounding_in bound (drop (i + 1) settings)
  next_bound setting below here other =
      let first : bounding_in bound (setting ∷ drop (i + 1) settings) ≡ bounding_in bound (drop (i + 1) settings) =
      rw other refl in
      at_drop_more (bounding_in bound) settings i setting below
      ∙ ap (λ (s : Setting). bounding_in bound (s ∷ drop (i + 1) settings)) (sym here) ∙ first

  -- one of that name does
  pub this_bound : (setting : Setting) → i < length settings → setting ≡ get_or settings i setting
      → bounds bound setting.name.now ≡ true → bounding_in bound (drop i settings) ≡ Some setting
  this_bound setting below here named =
      let first : bounding_in bound (setting ∷ drop (i + 1) settings) ≡ Some setting = rw named refl in
      at_drop_more (bounding_in bound) settings i setting below
      ∙ ap (λ (s : Setting). bounding_in bound (s ∷ drop (i + 1) settings)) (sym here) ∙ first

  -- where none is left none does
  pub last_bound : length settings ≤ i → bounding_in bound (drop i settings) ≡ None
  last_bound end = at_drop_all (bounding_in bound) settings i end
