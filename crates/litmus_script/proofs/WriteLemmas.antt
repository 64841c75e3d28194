-- What holds of a text that was written holds if the write succeeded.
use Rattle.std.specs.Prelude.{◌≡◌, ◌↔◌, refl, false, true, IsOk, OnOk, Result, Ok, Err}

pub on_written : {A B C D : Type 0} (wrote : Result A B) (came : Result C D) {P Q : Type 0} → (IsOk came ↔ IsOk wrote)
    → (P → Q) → OnOk wrote P → OnOk came Q
on_written (Ok x) (Ok y) both goes holds = goes holds
on_written (Err e) (Ok y) both goes holds = absurd (let no : false ≡ true = both.0 refl in cc)
on_written (Ok x) (Err f) both goes holds = tt
on_written (Err e) (Err f) both goes holds = tt

-- what holds if a result is Ok holds of it
pub on_ok_from : {T E P : Type 0} (r : Result T E) → (IsOk r → P) → OnOk r P
on_ok_from (Ok x) h = h refl
on_ok_from (Err e) h = tt
