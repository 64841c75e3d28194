use Rattle.std.proofs.Common.{◌≡◌, ◌+◌, ◌≤◌, drop}
use Rattle.std.specs.List.{range_with_len}
use Rattle.script_waves.specs.InUse.{open_of, sum_of}
use Rattle.slice_core_cache.specs.CoreCache.{tag_at}
use Rattle.slice_core_spec.specs.View.{cache_at}
use Rattle.script_waves.proofs.in_use.target_count.Given as goal

-- those that were counted, no more than the tags that were looked at, and those that are left
abbrev pub invariant-loop-tag : goal.invariant-loop-tag
invariant-loop-tag l =
    let cache = cache_at l.state.view l.core in
    (l.count ≤ l.tag)
    × (l.count + sum_of (λ tag. open_of (tag_at cache tag)) (drop l.tag (range_with_len 0 64))
    ≡ sum_of (λ tag. open_of (tag_at cache tag)) (range_with_len 0 64))
