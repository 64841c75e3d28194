use Rattle.std.proofs.Common.{sym, ◌∙◌}
use Rattle.program_run.specs.Run.{may_ask}
use Rattle.program_run.specs.declared.moves.Move.TheVariants as moves
use Rattle.program_run.proofs.MoveLemmas.{fails_more, passes_more}
use Rattle.program_run.proofs.moves.list_asks.Goals as goal

pub loop-number-preserved-then-not-may_ask : goal.loop-number-preserved-then-not-may_ask
loop-number-preserved-then-not-may_ask c = (
  fails_more moves.Ask
      (may_ask c.args.machine.now.config c.args.programs.now c.args.machine.now.slices.items c.args.places.now)
      _ _ c.loop-number.number c.loop-number.invariant.0 (sym c.may_ask.ensures.may ∙ c.if-not-may_ask.true),
  c.may_ask.ensures.kept,
)

pub loop-number-preserved : goal.loop-number-preserved
loop-number-preserved c = (
  passes_more moves.Ask
      (may_ask c.args.machine.now.config c.args.programs.now c.args.machine.now.slices.items c.args.places.now)
      _ _ _ c.loop-number.number c.loop-number.invariant.0 (sym c.may_ask.ensures.may ∙ c.if-not-may_ask.false)
      c.in_ok-push.ensures.items,
  c.may_ask.ensures.kept,
)
