-- What an access replies, and what it does to its word.
use Rattle.std.specs.Prelude.{ℕ, ◌+◌, ◌%◌, ◌^◌, ◌==◌, if◌then◌else◌}
use Rattle.address_map.specs.declared.request.Op.{Op}
use Rattle.address_map.specs.declared.request.Op.TheVariants as ops

-- the reply to an access of a word that has this value: 0 to a store, else the value
abbrev pub reply_of : Op → ℕ → ℕ
reply_of ops.Load v = v
reply_of (ops.Store new) v = 0
reply_of (ops.Add delta) v = v
reply_of (ops.Cas expect new) v = v

-- the word's value after the access
abbrev pub value_of : Op → ℕ → ℕ
value_of ops.Load v = v
value_of (ops.Store new) v = new % 2 ^ 64
value_of (ops.Add delta) v = (v + delta) % 2 ^ 64
value_of (ops.Cas expect new) v = if v == expect then new % 2 ^ 64 else v
