use Rattle.std.proofs.Common.{◌≡◌}
use Rattle.litmus_script.specs.Pump.{MovesTimes}
use Rattle.litmus_script.proofs.pump.make_rounds.Given as goal

abbrev pub invariant-loop-made : goal.invariant-loop-made
invariant-loop-made g l =
    let contents = g.W.Write.contents in
    let shape = g.D.Deliverer.config_of in
    record {
      config : shape l.deliverer ≡ shape l.fn.deliverer;
      moves : MovesTimes g.D.Deliverer.delivers (shape l.fn.deliverer).slices l.made l.fn.deliverer l.deliverer
          (contents l.fn.out) (contents l.out);
    }
