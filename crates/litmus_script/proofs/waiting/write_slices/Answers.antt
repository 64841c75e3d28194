use Rattle.std.proofs.Common.{◌+◌, ◌∷◌, ◌∙◌, ap, drop, sym}
use Rattle.litmus_text.proofs.Pieces.{next_piece}
use Rattle.litmus_script.specs.Waiting.{in_flight, lines_of}
use Rattle.litmus_script.proofs.WaitingLemmas.{lines_of_slices}
use Rattle.slice_core_spec.specs.Calls.{PartsView}
use Rattle.litmus_script.proofs.waiting.write_slices.Goals as goal

pub loop-state-preserved : goal.loop-state-preserved
loop-state-preserved g c = λ new rest.
    let slices = c.args.slices.now in
    let behind = drop (c.loop-state.state-index + 1) slices in
    let here = ap (λ (state : PartsView). lines_of (in_flight (state ∷ behind))) (sym c.state-item.is) in
    c.loop-state.invariant new
    (next_piece g.W.Write.write_str_gives (λ slices. lines_of (in_flight slices)) slices
    c.loop-state.state-index _ c.state-item.result
    c.loop-state-test.true (here ∙ lines_of_slices c.state-item.result behind) _ _ new c.in_ok-write_slice.ensures rest)
