-- A set of cores is a number: core c is in it where bit c is 1. The cores that a set can have are 0 to 63.
use Rattle.std.specs.Prelude.{ℕ, ◌^◌, ◌==◌, nat_lt, Bool, if◌then◌else◌, List, filter, length, bit_or, bit_xor}
use Rattle.std.specs.Int.{bit_at}
use Rattle.std.specs.List.{range_with_len}

-- the set has this core
unfoldable pub has : ℕ → ℕ → Bool
has set core = bit_at set core == 1

-- this core alone, and none where no set can have it
unfoldable pub only : ℕ → ℕ
only core = if nat_lt core 64 then 2 ^ core else 0

-- the set and this core
unfoldable pub with : ℕ → ℕ → ℕ
with set core = bit_or set (only core)

-- the set but for this core
unfoldable pub without : ℕ → ℕ → ℕ
without set core = if has set core then bit_xor set (2 ^ core) else set

-- the cores of the set, in ascending order
unfoldable pub members : ℕ → List ℕ
members set = filter (has set) (range_with_len 0 64)

-- how many cores the set has
unfoldable pub count_of : ℕ → ℕ
count_of set = length (members set)
