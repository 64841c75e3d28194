use Rattle.script_json.specs.Text.{escaped}
use Rattle.script_json.proofs.Items.{none_written, piece_written}
use Rattle.script_json.proofs.text.write_escaped.Goals as goal

pub loop-byte-preserved : goal.loop-byte-preserved
loop-byte-preserved g c = λ after rest.
    c.loop-byte.invariant after
    (piece_written escaped c.args.text.now c.loop-byte.byte-index _ _ after c.loop-byte-test.true
    c.in_ok-write_byte.ensures rest)

pub returns : goal.returns
returns g c =
    c.loop-byte.invariant _ (none_written escaped c.args.text.now c.loop-byte.byte-index _ c.loop-byte-test.false)
