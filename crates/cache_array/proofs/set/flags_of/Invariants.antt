-- The slots so far have their answers.
use Rattle.std.proofs.Common.{◌≡◌, length, take}
use Rattle.std.specs.List.{AllZip}
use Rattle.std.specs.Fn.{FnReturnsAt}
use Rattle.cache_array.proofs.set.flags_of.Given as goal

abbrev pub invariant-slots : goal.invariant-slots
invariant-slots g l =
    (length l.flags.items ≡ l.i)
    × AllZip (λ slot flag. FnReturnsAt g.F.Fn l.allowed slot.value flag) (take l.i l.slots) l.flags.items
