use Rattle.std.proofs.Common.{◌≡◌}
use Rattle.script_prompt.specs.Session.{IsContinued}
use Rattle.script_prompt.proofs.session.Session.hand_out.Given as goal

-- the lines so far were played
abbrev pub invariant-loop-slice : goal.invariant-loop-slice
invariant-loop-slice g l = record {
  config : l.self.player.machine.config ≡ l.fn.self.player.machine.config;
  plays : IsContinued l.fn.self.player.machine.config l.fn.self.player.machine.slices.items
      l.self.player.machine.slices.items
      l.fn.self.script.items l.self.script.items;
}
