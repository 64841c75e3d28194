-- A core's copy waits for a line exactly where accesses of the core do.
use Rattle.std.proofs.Common.{◌≡◌, ◌<◌, List, [], ◌∷◌, length, Option, Some, None, refl, sym, ap, ◌∙◌, arith}
use Rattle.std.specs.Prelude.{◌==◌, not}
use Rattle.std.proofs.lemmas.Bool.{ne_eqb}
use Rattle.address_map.specs.declared.address.CoreId.{CoreId}
use Rattle.address_map.specs.declared.address.Local.{Local}
use Rattle.mshr_file.specs.Miss.{is_waited}
use Rattle.slice_core.specs.Facts.{HasOneRegister, copy_at, targets_at}
use Rattle.slice_core_cache.specs.declared.copy.CacheCopy.{CacheCopy}
use Rattle.slice_core_spec.specs.View.{View}
use Rattle.target_list.specs.declared.target.Target.{Target}
use Rattle.program_run.specs.Register.{waits_in}

waited : (targets : List Target) → not (is_waited targets) ≡ (length targets == 0)
waited [] = refl
waited (target ∷ more) = sym (ne_eqb (length (target ∷ more)) 0 (λ same. omega (arith, same)))

copy-waits : (v : View) (core : CoreId) (place : Option Local) → core.0 < length v.caches → HasOneRegister v
    → waits_in (copy_at v core place) ≡ is_waited (targets_at v core place)
copy-waits v core None known registers = refl
copy-waits v core (Some local) known registers = registers.waits core local known

pub unwaited : (v : View) (core : CoreId) (place : Option Local) (copy : Option CacheCopy)
    → core.0 < length v.caches → HasOneRegister v → copy ≡ copy_at v core place
    → not (waits_in copy) ≡ (length (targets_at v core place) == 0)
unwaited v core place copy known registers is =
    ap (λ found. not (waits_in found)) is ∙ ap not (copy-waits v core place known registers)
    ∙ waited (targets_at v core place)
