use Rattle.std.proofs.Common.{◌≡◌, ◌<◌, ℕ, true}
use Rattle.address_map.specs.CoreSet.{has}
use Rattle.core_thread_system.proofs.tags.free_tag.Given as goal

-- each lower tag is among these
abbrev pub invariant-loop-tag : goal.invariant-loop-tag
invariant-loop-tag l = (lower : ℕ) → lower < l.tag → has l.fn.tags lower ≡ true
