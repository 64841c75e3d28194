use Rattle.std.proofs.Common.{◌≡◌, Option, Some, length, refl, slice_get, subst, sym}
use Rattle.std.specs.Prelude.{IfSome, ◌++◌}
use Rattle.std.proofs.lemmas.Option.{slice_get_read}
use Rattle.slice_core_spec.specs.Calls.{PartsView}
use Rattle.program_run.specs.Run.{waiting_in}
use Rattle.program_run.proofs.kept.Kept.list_waiting.Goals as goal

pub list_waiting-requires : goal.list_waiting-requires
list_waiting-requires c =
    let slices = c.args.machine.now.slices.items in
    let state = c.index.result.now in
    let found : slice_get slices c.args.slice ≡ Some state =
    slice_get_read slices (length slices) c.args.slice state refl c.requires.slice c.index.ensures in
    rw c.idle_of-idle.ensures (c.requires.kept.idle c.args.slice state found)

pub returns-clause-moves : goal.returns-clause-moves
returns-clause-moves c =
    let slices = c.args.machine.now.slices.items in
    let state = c.index.result.now in
    let found : slice_get slices c.args.slice ≡ Some state =
    slice_get_read slices (length slices) c.args.slice state refl c.requires.slice c.index.ensures in
    subst (λ (one : Option PartsView). IfSome one
    (λ state. c.list_waiting.new.moves.items ≡ c.args.moves.now.items ++ waiting_in state)) (sym found)
    c.in_ok-list_waiting.ensures.moves

pub returns-clause-kept : goal.returns-clause-kept
returns-clause-kept c =
    let slices = c.args.machine.now.slices.items in
    let state = c.index.result.now in
    let found : slice_get slices c.args.slice ≡ Some state =
    slice_get_read slices (length slices) c.args.slice state refl c.requires.slice c.index.ensures in record {
      decided = rw c.keep_idle.ensures.decided c.requires.kept.decided;
      idle = c.keep_idle.ensures.idle slices state found c.list_waiting.ensures.idle c.requires.kept.idle;
    }
