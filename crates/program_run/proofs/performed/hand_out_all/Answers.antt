use Rattle.std.proofs.Common.{◌<◌, arith, subst, sym}
use Rattle.address_map.specs.declared.config.Config.{Config}
use Rattle.program_run.specs.Kept.{Knows}
use Rattle.program_run.proofs.PerformedLemmas.{performed_all, performed_more, performed_none}
use Rattle.program_run.proofs.performed.hand_out_all.Goals as goal

pub loop-entry-init : goal.loop-entry-init
loop-entry-init c = (performed_none _ _ _ _ _, c.requires.kept)

pub hand_out-requires-clause-slice : goal.hand_out-requires-clause-slice
hand_out-requires-clause-slice c =
    subst (λ (config : Config). c.args.slice.0 < config.slices) (sym c.loop-entry.invariant.0.config) c.requires.slice

pub hand_out-requires-clause-kept : goal.hand_out-requires-clause-kept
hand_out-requires-clause-kept c =
    subst (λ (config : Config). Knows config c.loop-entry.runner.slices c.loop-entry.kept)
    (sym c.loop-entry.invariant.0.config) c.loop-entry.invariant.1

pub loop-entry-preserved : goal.loop-entry-preserved
loop-entry-preserved c = (
  performed_more c.args.programs.now c.args.slice.0 c.loop-entry.is_first c.args.entries.now c.loop-entry.entry-index
      _ c.args.runner.now c.loop-entry.runner c.hand_out.new.self c.loop-entry-test.true c.loop-entry.invariant.0
      c.in_ok-hand_out.ensures.leads,
  subst (λ (config : Config). Knows config c.hand_out.new.self.slices c.hand_out.new.kept)
      c.loop-entry.invariant.0.config c.in_ok-hand_out.ensures.kept,
)

pub returns-clause-leads : goal.returns-clause-leads
returns-clause-leads c =
    performed_all c.args.programs.now c.args.slice.0 c.loop-entry.is_first c.args.entries.now c.loop-entry.entry-index
    c.args.runner.now c.loop-entry.runner (omega (arith, c.loop-entry-test.false)) c.loop-entry.invariant.0
