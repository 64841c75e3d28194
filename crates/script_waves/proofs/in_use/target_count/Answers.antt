use Rattle.std.proofs.Common.{◌≡◌, ◌+◌, ◌≤◌, arith, ℕ, List}
use Rattle.script_waves.specs.InUse.{open_of, sum_of, target_count}
use Rattle.script_waves.proofs.InUseLemmas.{numbers_end, numbers_more}
use Rattle.slice_core_cache.specs.CoreCache.{tag_at}
use Rattle.slice_core_spec.specs.View.{cache_at}
use Rattle.script_waves.proofs.in_use.target_count.Goals as goal

pub loop-tag-preserved : goal.loop-tag-preserved
loop-tag-preserved c =
    let cache = cache_at c.args.state.now.view c.args.core in
    let count : ℕ → ℕ = λ tag. open_of (tag_at cache tag) in
    let more = numbers_more (λ (xs : List ℕ). sum_of count xs) 64 c.loop-tag.tag c.loop-tag-test.true in
    let one = c.open_of-count.ensures.one in
    let same = rw c.tag.ensures at c.open_of-count.ensures.open in (
      omega (arith, c.loop-tag.invariant.0, one),
      omega (arith, c.loop-tag.invariant.1, more, same),
    )

pub returns : goal.returns
unfolding target_count
returns c =
    let cache = cache_at c.args.state.now.view c.args.core in
    let count : ℕ → ℕ = λ tag. open_of (tag_at cache tag) in
    let end = c.loop-tag-test.false in
    let none = numbers_end (λ (xs : List ℕ). sum_of count xs) 64 c.loop-tag.tag (omega (arith, end)) in
    omega (arith, c.loop-tag.invariant.1, none)
