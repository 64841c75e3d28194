-- What follows for a slice whose lines are lines that the machine reaches.
use Rattle.std.proofs.Common.{◌≡◌, ◌<◌, ◌≤◌, length, arith, subst, IsTrue}
use Rattle.address_map.specs.declared.address.CoreId.{CoreId}
use Rattle.cache_table.specs.CopyState.{is_readable, is_writer}
use Rattle.protocol_coherence.proofs.Promises.{reached_one_writer}
use Rattle.slice_core_cache.specs.CoreCache.{state_of}
use Rattle.slice_core_theory.specs.Coherent.{HasOneWriter}
use Rattle.slice_core_theory.specs.Stands.{AreReached}
use Rattle.slice_core_spec.specs.View.{View, cache_at}

-- Where one core may write a line, no other core may read it.
pub one_writer : (v : View) → length v.caches ≤ 64 → AreReached v → HasOneWriter v
one_writer v most all local c d inside c_below d_below writes reads =
    let line = all local inside in
    let at : (core : CoreId) → core.0 < length v.caches
    → state_of (cache_at v core) local ≡ (line.0.part core.0).look.state =
    λ core below. (line.2.part core.0 below).state in
    reached_one_writer v.exclusive (length v.caches) line.0 (omega (arith, c_below)) most line.1 c.0 d.0 c_below d_below
    (subst (λ s. IsTrue (is_writer s)) (at c c_below) writes)
    (subst (λ s. IsTrue (is_readable s)) (at d d_below) reads)
