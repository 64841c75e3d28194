use Rattle.std.proofs.Common.{◌∙◌, ◌≤◌, arith, length}
use Rattle.std.proofs.lemmas.List.{take_all}
use Rattle.std.specs.Box.{boxed_slice_items}
use Rattle.slice_core_exec.proofs.Begins.{copied-more}
use Rattle.slice_core_exec.proofs.parts.build.copied_caches.Goals as goal

pub loop-core-preserved : goal.loop-core-preserved
loop-core-preserved g c =
    copied-more _ _ _ _ c.index.result.now _ (omega arith) c.loop-core.invariant c.index.ensures
    c.in_ok-try_clone.ensures c.in_ok-push.ensures.items

pub returns : goal.returns
returns g c =
    let past : length (boxed_slice_items c.args.caches.now) ≤ c.loop-core.core = omega arith in
    c.into_boxed_slice.ensures.items ∙ c.loop-core.invariant ∙ take_all _ _ past
