use Rattle.std.proofs.Common.{refl}
use Rattle.std.specs.List.{flat_map}
use Rattle.slice_json.specs.Json.{text_of_byte}
use Rattle.litmus_text.proofs.Pieces.{next_piece}
use Rattle.slice_json.proofs.json.write_bytes.Goals as goal

pub loop-byte-preserved : goal.loop-byte-preserved
loop-byte-preserved g c = λ new rest.
    c.loop-byte.invariant new
    (next_piece g.W.Write.write_str_gives (λ left. flat_map text_of_byte left) c.args.bytes.now _ _ _
    c.loop-byte-test.true refl _ _ new c.in_ok-write_byte.ensures rest)
