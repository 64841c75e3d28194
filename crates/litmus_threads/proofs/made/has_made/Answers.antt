use Rattle.std.proofs.Common.{◌≡◌, ◌∙◌, ℕ, ap, arith, subst}
use Rattle.address_map.specs.declared.config.Config.{Config}
use Rattle.drain.specs.Owned.{HasItsOwn}
use Rattle.litmus_threads.proofs.Asked.{asked-below}
use Rattle.litmus_threads.proofs.Owners.{own-below}
use Rattle.litmus_threads.proofs.made.has_made.Goals as goal

pub loop-slice-preserved : goal.loop-slice-preserved
loop-slice-preserved g c =
    let setup = g.M.SystemNames.setup in
    let so_far = c.loop-slice.invariant in
    record {
      made =
          asked-below setup c.args.config.now c.loop-slice.slice c.args.steps.now c.args.core.now so_far.made c.requires
          (c.are_asked.ensures c.if-not-are_asked.false);
      own =
          own-below setup c.loop-slice.slice c.args.core.now _ so_far.own c.receipts-own.ensures.receipts
          c.receipts-own.ensures.own;
    }

pub returns-clause-own : goal.returns-clause-own
returns-clause-own g c =
    let setup = g.M.SystemNames.setup in
    let past = c.loop-slice-test.false in
    let end = c.loop-slice.auto.slice-end in
    let is = c.slices-slice-end.ensures.slices ∙ ap (λ (k : Config). k.slices) c.requires in
    let all : c.loop-slice.slice ≡ setup.slices = omega (arith, past, end, is) in
    λ yes. subst (λ (n : ℕ). HasItsOwn setup n c.args.core.now) all c.loop-slice.invariant.own
