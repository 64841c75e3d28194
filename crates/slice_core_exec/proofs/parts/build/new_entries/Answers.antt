use Rattle.std.proofs.Common.{◌≡◌, arith, subst}
use Rattle.slice_core_spec.specs.Initial.{AreInitialEntries}
use Rattle.slice_core_exec.proofs.Begins.{entries-more}
use Rattle.slice_core_exec.proofs.parts.build.new_entries.Goals as goal

pub loop-local-preserved : goal.loop-local-preserved
loop-local-preserved c =
    rw (c.in_ok-push.ensures.items, c.none.ensures)
    (entries-more c.args.config.now c.args.lines c.loop-local.local c.loop-local.all.items c.initial_block.result
    c.loop-local.invariant c.initial_block.ensures)

pub returns : goal.returns
returns c =
    let own = c.args.lines in
    let all : c.loop-local.local ≡ own.lines = omega arith in
    rw c.into_boxed_slice.ensures.items
    (subst (λ n. AreInitialEntries c.args.config.now own n c.loop-local.all.items) all c.loop-local.invariant)
