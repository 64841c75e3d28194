-- A new slice holds its whole invariant.
use Rattle.std.proofs.Common.{◌<◌}
use Rattle.address_map.specs.declared.address.SliceId.{SliceId}
use Rattle.address_map.specs.declared.config.Config.{Config}
use Rattle.cache_array.proofs.Powers.{power_from_ones}
use Rattle.mshr_file.specs.Miss.{Bound}
use Rattle.slice_core_spec.specs.Calls.{PartsView, IsNew}
use Rattle.slice_core.proofs.AccountsBegin.{keeps-begins}
use Rattle.slice_core.proofs.AccountsKept.{sound-from_keeps}
use Rattle.slice_core.proofs.LinksBeginning.{links_initial}
use Rattle.slice_core.specs.Sound.{IsSound}
use Rattle.slice_core_theory.proofs.BlocksBeginning.{legal_initial, reached_with_initial}

-- A slice of the configured machine, in which nothing was asked for yet, is sound.
pub sound-begins : (c : Config) (bound : Bound) (slice : SliceId) (p : PartsView) → IsNew c bound slice p
    → slice.0 < c.slices → IsSound p
sound-begins c bound slice p new within =
    sound-from_keeps p (keeps-begins c bound slice p new within)
    (links_initial c bound slice p new (power_from_ones c.sets new.allowed.sets_power))
    (record {
      reached = reached_with_initial c bound slice p new (keeps-begins c bound slice p new within).counted.machine;
      legal = legal_initial c bound slice p new;
    })
