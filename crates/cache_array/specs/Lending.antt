-- The value of a line that is borrowed to be changed.
use Rattle.std.specs.Borrow.{Lends, MutBor, Fml, RattleType}
use Rattle.address_map.specs.declared.address.Local.{Local}
use Rattle.cache_array.specs.Set.{SetView, after_write}
use Rattle.cache_array.specs.Array.{ArrayView, slots_at, with_slots}
use Rattle.cache_array.specs.contracts.set.Set.{the_row as set_row}
use Rattle.cache_array.specs.contracts.array.CacheArray.{the_row as array_row}

-- the set ends with the value that the result's borrow leaves, in the line's slot
abbrev pub LendsIn : (V : RattleType) → MutBor (SetView V.Denot) → Local → MutBor V.Denot → Fml
LendsIn V set line result =
    Lends (set_row V) V set result (λ value. record set.now { slots = after_write set.now.slots line value })

-- the array ends with the value that the result's borrow leaves, in the line's slot
abbrev pub LendsValue : (V P : RattleType) → MutBor (ArrayView V.Denot P.Denot) → Local → MutBor V.Denot → Fml
LendsValue V P array line result =
    Lends (array_row V P) V array result
    (λ value. with_slots array.now line (after_write (slots_at array.now line) line value))
