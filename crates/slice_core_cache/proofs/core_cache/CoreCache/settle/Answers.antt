use Rattle.std.proofs.Common.{◌≡◌, ◌∙◌, Some, position, subst, sym, ap}
use Rattle.std.specs.Prelude.{nat_lt}
use Rattle.address_map.specs.declared.block.Block.{Block}
use Rattle.cache_array.specs.Array.{slots_at}
use Rattle.cache_array.specs.Set.{holds}
use Rattle.mshr_file.specs.Miss.{targets_of, TakesTargets}
use Rattle.slice_core_cache.specs.CoreCache.{CoreCacheView, array_copy}
use Rattle.slice_core_cache.proofs.Places.{written_there}
use Rattle.slice_core_cache.proofs.Settled.{IsSettled, after_settled, settled_there, used_none, used_some}
use Rattle.slice_core_cache.specs.Perform.{block_after, left_in, settled_state}
use Rattle.slice_core_cache.specs.Steps.{settled_copy}
use Rattle.slice_core_cache.proofs.core_cache.CoreCache.settle.Given.{Over}
use Rattle.slice_core_cache.proofs.core_cache.CoreCache.settle.Goals as goal
use Rattle.slice_core_cache.proofs.core_cache.CoreCache.settle.Goals.{After-settle-asks}

pub touch_at-requires : goal.touch_at-requires
touch_at-requires g c =
    let array = c.self.inside.array in
    let found : position (holds c.args.local) (slots_at array c.args.local) ≡ Some c.args.way =
    subst (λ (cache : CoreCacheView). position (holds c.args.local) (slots_at cache.array c.args.local)
    ≡ Some c.args.way)
    (sym c.self.view_is) c.requires.held in
    written_there array c.args.local c.args.way _ found

abbrev inside : (g : Over) (c : After-settle-asks g) → CoreCacheView
inside g c = record {
  array = c.self.inside.array;
  buffer = c.self.inside.buffer;
  misses = g.F.MissFile.misses c.self.inside.file;
  bound = g.F.MissFile.bound c.self.inside.file;
  tags = c.self.inside.tags;
  accepted = c.self.inside.accepted;
  generator = c.self.inside.generator;
}

settled : (g : Over) (c : After-settle-asks g) →
    IsSettled (inside g c) c.args.local c.value_mut-copy.result.now c.settle-asks.new.self c.settle-asks.result
    (g.F.MissFile.misses c.perform.new.file) c.perform.new.tags c.args.core c.args.first c.args.log.now.items
    c.perform.new.log.items
settled g c =
    let copy = c.value_mut-copy.result.now in
    let targets = targets_of (g.F.MissFile.misses c.self.inside.file) c.args.local.0 in
    let allowed = c.count_allowed-count.ensures.allowed in
    let waited = ap (nat_lt c.count_allowed-count.result) c.waiting-waiting.ensures.count
    ∙ c.count_allowed-count.ensures.left in
    record {
      asks_is = c.settle-asks.ensures.asks targets waited;
      left_is = c.settle-asks.ensures.after targets waited
          ∙ ap (λ (block : Block). settled_copy copy block (settled_state copy.state (left_in copy.state targets)))
          (c.perform.ensures.block ∙ ap (block_after copy.block) allowed);
      taken = subst (TakesTargets _ _ _) allowed c.perform.ensures.taken;
      sound = c.perform.ensures.sound;
      tags_is = rw (← allowed) c.perform.ensures.tags;
      log_is = rw (← allowed) c.perform.ensures.log;
    }

-- the same of the copy that the core's array held
there : (g : Over) (c : After-settle-asks g) →
    IsSettled c.args.self.now c.args.local (array_copy c.args.self.now c.args.local) c.settle-asks.new.self
    c.settle-asks.result (g.F.MissFile.misses c.perform.new.file) c.perform.new.tags c.args.core c.args.first
    c.args.log.now.items c.perform.new.log.items
there g c =
    settled_there (inside g c) _ _ _ _ _ _ _ _ _ _ _ c.self.view_is c.value_mut-copy.ensures.value (settled g c)

pub returns-then-count-gt0 : goal.returns-then-count-gt0
returns-then-count-gt0 g c =
    let at = (goal.at.returns-then-count-gt0 g c).After-settle-asks in
    let done = there g at in
    record {
      asks = done.asks_is;
      taken = done.taken;
      sound = done.sound;
      after = after_settled (inside g at) _ _ _ _ _ _ _ _ _ _ _ _ _ c.self.view_is c.value_mut-copy.ensures.value
          (settled g at) c.perform.ensures.bound
          (c.touch_at.ensures.after ∙ used_some _ _ _ _ _ c.count_allowed-count.ensures.allowed c.if-count-gt0.true
          c.count_allowed-count.ensures.few);
      log = done.log_is;
      room = c.perform.ensures.room;
    }

pub returns-else-count-gt0 : goal.returns-else-count-gt0
returns-else-count-gt0 g c =
    let at = (goal.at.returns-else-count-gt0 g c).After-settle-asks in
    let done = there g at in
    record {
      asks = done.asks_is;
      taken = done.taken;
      sound = done.sound;
      after = after_settled (inside g at) _ _ _ _ _ _ _ _ _ _ _ _ _ c.self.view_is c.value_mut-copy.ensures.value
          (settled g at) c.perform.ensures.bound
          (used_none _ _ _ _ _ c.count_allowed-count.ensures.allowed c.if-count-gt0.false);
      log = done.log_is;
      room = c.perform.ensures.room;
    }
