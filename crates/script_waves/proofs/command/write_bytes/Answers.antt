use Rattle.std.proofs.Common.{◌∷◌, [], refl}
use Rattle.std.specs.List.{flat_map}
use Rattle.litmus_text.proofs.Pieces.{next_piece}
use Rattle.script_waves.specs.Values.{byte_shown}
use Rattle.script_waves.proofs.command.write_bytes.Goals as goal

pub loop-byte-preserved : goal.loop-byte-preserved
loop-byte-preserved g c = λ new rest.
    c.loop-byte.invariant new
    (next_piece g.W.Write.write_str_gives (λ left. flat_map (λ byte. byte_shown byte ∷ []) left) c.args.line.now _ _ _
    c.loop-byte-test.true refl _ _ new (rw c.shown.ensures.shown at c.in_ok-write_ascii.ensures) rest)
