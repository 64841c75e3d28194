use Rattle.std.proofs.Common.{rules, [], ◌∷◌}
use Rattle.core_thread_system.proofs.Made.{on-err}
use Rattle.core_thread_system.proofs.Ran.{nothing-ran-then, ran-nothing, still-ran-nothing}
use Rattle.core_thread_system.specs.Moves.{HasRun}
use Rattle.core_thread_system.specs.declared.program.Step.TheVariants as steps
use Rattle.core_thread_system.proofs.cores.Core.access.Goals as goal
use Rattle.core_thread_system.proofs.cores.Core.access.Goals.{in-None, in-Some+in_ok-try_access+then-branch}

pub loop-init : goal.loop-init
loop-init g c = ran-nothing g.M.SystemNames.setup c.args.self.now

pub returns-in_err-try_access-clause-halted : goal.returns-in_err-try_access-clause-halted
returns-in_err-try_access-clause-halted g c =
    let setup = g.M.SystemNames.setup in
    on-err c.from_residual.result (HasRun setup c.args.self.now [] c.try_access.new.self)
    (still-ran-nothing setup c.args.self.now c.loop.self c.try_access.new.self c.loop.invariant
    c.in_err-try_access.ensures.halted)

pub loop-preserved : goal.loop-preserved
loop-preserved g c =
    let setup = g.M.SystemNames.setup in
    let asked : HasRun setup c.loop.self [] c.try_access.new.self =
    rw c.if-branch.false at c.in_ok-try_access.ensures.ran in
    still-ran-nothing setup c.args.self.now c.try_access.new.self c.turn_within.new.self
    (still-ran-nothing setup c.args.self.now c.loop.self c.try_access.new.self c.loop.invariant asked)
    c.turn_within.ensures.ran

pub returns-in_err-turn_within-clause-halted : goal.returns-in_err-turn_within-clause-halted
returns-in_err-turn_within-clause-halted g c =
    let setup = g.M.SystemNames.setup in
    let asked : HasRun setup c.loop.self [] c.try_access.new.self =
    rw c.if-branch.false at c.in_ok-try_access.ensures.ran in
    on-err c.from_residual-in_err-turn_within.result (HasRun setup c.args.self.now [] c.turn_within.new.self)
    (still-ran-nothing setup c.args.self.now c.try_access.new.self c.turn_within.new.self
    (still-ran-nothing setup c.args.self.now c.loop.self c.try_access.new.self c.loop.invariant asked)
    c.turn_within.ensures.ran)

pub returns-clause-ran : goal.returns-clause-ran
returns-clause-ran g c = elim c.match-next.branch [
  | in-None w ↦ search rules
  | in-Some+in_ok-try_access+then-branch w ↦
      let setup = g.M.SystemNames.setup in
      let access = steps.Access c.args.word c.args.op ∷ [] in
      let asked : HasRun setup c.loop.self access w.try_access.new.self =
      rw w.if-branch.true at w.in_ok-try_access.ensures.ran in
      rw w.self-is
      (nothing-ran-then setup c.args.self.now c.loop.self w.try_access.new.self access c.loop.invariant asked)
]
