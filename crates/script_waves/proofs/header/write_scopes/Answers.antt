use Rattle.std.proofs.Common.{refl}
use Rattle.std.specs.List.{flat_map}
use Rattle.litmus_text.proofs.Pieces.{next_piece}
use Rattle.script_waves.specs.Signals.{text_of_scope}
use Rattle.script_waves.proofs.header.write_scopes.Goals as goal

pub loop-line-preserved : goal.loop-line-preserved
loop-line-preserved g c = λ new rest.
    c.loop-line.invariant new
    (next_piece g.W.Write.write_str_gives (λ left. flat_map (text_of_scope c.args.cores) left) c.args.lines.now _ _ _
    c.loop-line-test.true refl _ _ new c.in_ok-write_scope.ensures rest)
