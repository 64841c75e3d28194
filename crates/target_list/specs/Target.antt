-- Targets of a miss register, and the loads at their front.
use Rattle.std.specs.Prelude.{◌≡◌, Bool, true, false, List, [], ◌∷◌, ◌++◌, drop, All, IsTrue}
use Rattle.std.specs.List.{take_while, prefix_len}
use Rattle.address_map.specs.declared.request.Op.{Op}
use Rattle.address_map.specs.declared.request.Op.TheVariants as ops
use Rattle.target_list.specs.declared.target.Target.{Target}

-- the access only reads its word
abbrev pub reads : Op → Bool
reads ops.Load = true
reads _ = false

abbrev pub is_load : Target → Bool
is_load target = reads target.op

-- what an unused field holds
abbrev pub no_target : Target
no_target = record { op = ops.Load; seq = 0; since = 0; offset = record { 0 = 0 }; tag = 0 }

-- the loads in front of the first target that writes
abbrev pub front_loads : List Target → List Target
front_loads targets = take_while is_load targets

-- the first target that writes, and all after it
abbrev pub behind_loads : List Target → List Target
behind_loads targets = drop (prefix_len is_load targets) targets

-- There is no target, or the first one writes.
abbrev pub BeginsWithWrite : List Target → Type 0
BeginsWithWrite [] = Unit {0}
BeginsWithWrite (first ∷ _) = is_load first ≡ false

-- The loads in front were taken, and no other target: none is lost, and all stay in order.
pub record TakesLoads (old taken left : List Target) : Type 0 where
  pub whole : old ≡ taken ++ left
  pub loads : All (λ target. IsTrue (is_load target)) taken
  pub longest : BeginsWithWrite left
