use Rattle.std.proofs.Common.{◌≡◌}
use Rattle.litmus_script.specs.Pump.{ComesTo}
use Rattle.litmus_script.proofs.pump.make_round.Given as goal

abbrev pub invariant-loop-slice : goal.invariant-loop-slice
invariant-loop-slice g l =
    let contents = g.W.Write.contents in
    record {
      config : g.D.Deliverer.config_of l.deliverer ≡ g.D.Deliverer.config_of l.fn.deliverer;
      made : ComesTo g.D.Deliverer.delivers l.slice l.round l.fn.deliverer l.deliverer
          (contents l.fn.out) (contents l.out);
    }
