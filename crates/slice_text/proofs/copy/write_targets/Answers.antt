use Rattle.std.proofs.Common.{refl}
use Rattle.litmus_text.proofs.Pieces.{next_piece}
use Rattle.slice_text.specs.Shown.{text_of_targets}
use Rattle.slice_text.proofs.copy.write_targets.Goals as goal

pub loop-target-preserved : goal.loop-target-preserved
loop-target-preserved g c = λ new rest.
    c.loop-target.invariant new
    (next_piece g.W.Write.write_str_gives (text_of_targets c.args.core c.args.line) c.args.targets.now _ _ _
    c.loop-target-test.true refl
    _ _ new c.in_ok-write_target.ensures rest)
