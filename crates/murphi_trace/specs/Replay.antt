-- What a writer of a script knows on its way.
use Rattle.std.specs.Prelude.{◌≡◌, ℕ, zero, suc, Bool, false, ◌<◌, ◌%◌, ◌==◌, List, [], ◌∷◌, ◌++◌, Option, None, Some}
use Rattle.std.specs.Prelude.{get_or}
use Rattle.murphi_trace.specs.declared.rule.Rule.{Rule}
use Rattle.murphi_trace.specs.Rule.{last_core}
use Rattle.murphi_trace.specs.Script.{Step, accesses_of, is_access_of, names_data_e, text_of_step}

-- the tag of the last of that many accesses, if there was one
abbrev pub last_tag : ℕ → Option ℕ
last_tag zero = None
last_tag (suc earlier) = Some (earlier % 64)

-- each core's last tag, after those rules
abbrev pub AreTags : List (Option ℕ) → List Rule → Type 0
AreTags tags before = (core : ℕ) → core < 10 → get_or tags core None ≡ last_tag (accesses_of core before)

-- the rule is an access of the core with this number
abbrev pub IsAccess : ℕ → Rule → Type 0
IsAccess core rule = (number : ℕ) → is_access_of number rule ≡ (core == number)

-- what one line comes to: its step's text and rule, if it reports one
abbrev pub text_of_told : List Rule → Option Step → List ℕ
text_of_told before None = []
text_of_told before (Some step) = text_of_step before step

abbrev pub rules_with : List Rule → Option Step → List Rule
rules_with before None = before
rules_with before (Some step) = before ++ step.1 ∷ []

abbrev pub core_told : Option Step → ℕ
core_told None = 0
core_told (Some step) = last_core step.1

abbrev pub data_e_told : Option (List ℕ × List ℕ) → Bool
data_e_told None = false
data_e_told (Some fired) = names_data_e fired
