use Rattle.std.proofs.Common.{◌+◌, ◌∙◌, [], ◌∷◌, ap, length-append}
use Rattle.mshr_file.specs.Either.{either_bound}
use Rattle.litmus_script.proofs.MachineLemmas.{are_new_push, are_slices_push}
use Rattle.litmus_script.proofs.machine.new_slices.Goals as goal

pub loop-slice-preserved : goal.loop-slice-preserved
loop-slice-preserved c =
    let slices = c.loop-slice.slices.items in
    let state = c.in_ok-state.state in
    let config = c.args.config.now in
    let count = c.loop-slice.invariant.count in
    let each = are_slices_push config slices c.loop-slice.slice state c.loop-slice.invariant.each count
    c.in_ok-state.ensures.slice in
    let fresh = are_new_push config (either_bound c.args.empty.now) slices c.loop-slice.slice state
    c.loop-slice.invariant.fresh count c.in_ok-state.ensures.new in
    let pushed = c.in_ok-push.ensures.items in
    rw pushed (record { count = length-append slices (state ∷ []) ∙ ap (λ n. n + 1) count; each = each; fresh = fresh })
