use Rattle.std.proofs.Common.{◌≡◌, take}
use Rattle.std.specs.Box.{boxed_slice_items}
use Rattle.slice_core_exec.proofs.parts.build.copied_caches.Given as goal

abbrev pub invariant-loop-core : goal.invariant-loop-core
invariant-loop-core g l = l.all.items ≡ take l.core (boxed_slice_items l.caches)
