use Rattle.std.proofs.Common.{ℕ, List, [], Option}
use Rattle.std.specs.Io.KnownBytes.{Appends}
use Rattle.std.specs.Str.Lines.{lines}
use Rattle.murphi_trace.specs.declared.rule.Rule.{Rule}
use Rattle.murphi_trace.specs.Replay.{AreTags}
use Rattle.murphi_trace.specs.Script.{steps_in, text_of_steps}
use Rattle.murphi_trace.proofs.replay.write_steps.Given as goal

-- some rules came before, and once the steps that are left are written after them, all are
abbrev pub invariant-loop-line : goal.invariant-loop-line
invariant-loop-line g l =
    let contents = g.W.Write.contents in
    record {
      before : List Rule;
      tags : AreTags l.tags before;
      rest : (after : Option (List ℕ)) → Appends (contents l.out) after
          (text_of_steps before (steps_in l.line-iterator))
          → Appends (contents l.fn.out) after (text_of_steps [] (steps_in (lines l.fn.trace)));
    }
