-- What the links give a caller of a slice: a copy that waits for nothing has no request under way.
use Rattle.std.proofs.Common.{◌≡◌, ◌<◌, true, length, None, inl, inr, ap}
use Rattle.std.proofs.lemmas.Bool.{cases_lt}
use Rattle.std.proofs.lemmas.List.{get_or_past}
use Rattle.address_map.specs.declared.address.CoreId.{CoreId}
use Rattle.address_map.specs.declared.address.Local.{Local}
use Rattle.slice_core_spec.specs.View.{View, channels_at, cache_at, IsShaped}
use Rattle.slice_core_cache.specs.Access.{is_idle}
use Rattle.slice_core_cache.specs.CoreCache.{state_of}
use Rattle.slice_core.proofs.LinksRequests.{asked}
use Rattle.slice_core.proofs.LinksStates.{idle-none}
use Rattle.slice_core.specs.Sound.{HasLinks}
use Rattle.slice_queues.specs.Line.{LineChannels, empty_line}

-- For a copy that asks for nothing nothing is asked of the directory.
pub asked-idle : (v : View) (core : CoreId) → IsShaped v → HasLinks v → core.0 < length v.caches → (local : Local) →
    is_idle (state_of (cache_at v core) local) ≡ true → asked (channels_at v local) core.0 ≡ None
asked-idle v core shaped links there local idle =
    elim (cases_lt local.0 v.lines.lines) [
      | inl within ↦
          idle-none (state_of (cache_at v core) local) (asked (channels_at v local) core.0) idle
          (links.sent core local there within)
      | inr past ↦
          ap (λ (line : LineChannels). asked line core.0)
          (get_or_past v.channels local.0 (empty_line 0) (rw shaped.lines past))
    ]
