use Rattle.std.proofs.Common.{◌≡◌, ◌+◌, ◌<◌, ◌∙◌, [], ap, arith, drop, length, refl, rules, sym}
use Rattle.program_run.specs.Run.{or_else, owed_from}
use Rattle.program_run.proofs.OwedLemmas.{or_else_some, owed_here, owed_past}
use Rattle.program_run.proofs.owed.list_owed.Goals as goal

pub loop-slice-init : goal.loop-slice-init
loop-slice-init c = record { none = c.requires.first; left = refl; kept = c.requires.kept }

pub loop-slice-preserved : goal.loop-slice-preserved
loop-slice-preserved c =
    let owed = c.args.owed.now in
    let slices = c.args.machine.now.slices.items in
    let slice = c.loop-slice.slice in
    let new = c.list_owed_in.new.moves.items in
    let below : slice < length slices = omega (arith, c.loop-slice-test.true, c.loop-slice.auto.slice-end) in
    let listed = rw (c.loop-slice.invariant.none, c.left_of.ensures) at c.in_ok-list_owed_in.ensures.moves in
    let none : new ≡ [] = search rules in record {
      none = none;
      left = c.loop-slice.invariant.left ∙ owed_here owed slices slice new below listed
          ∙ ap (λ these. or_else these (owed_from owed (slice + 1) (drop (slice + 1) slices))) none;
      kept = c.in_ok-list_owed_in.ensures.kept;
    }

pub returns-then-not-is_none-clause-moves : goal.returns-then-not-is_none-clause-moves
returns-then-not-is_none-clause-moves c =
    let owed = c.args.owed.now in
    let slices = c.args.machine.now.slices.items in
    let slice = c.loop-slice.slice in
    let new = c.list_owed_in.new.moves.items in
    let below : slice < length slices = omega (arith, c.loop-slice-test.true, c.loop-slice.auto.slice-end) in
    let listed = rw (c.loop-slice.invariant.none, c.left_of.ensures) at c.in_ok-list_owed_in.ensures.moves in
    let some : new ≡ [] → ⊥ = search rules in
    sym (c.loop-slice.invariant.left ∙ owed_here owed slices slice new below listed ∙ or_else_some new _ some)

pub returns-clause-moves : goal.returns-clause-moves
returns-clause-moves c =
    let slices = c.args.machine.now.slices.items in
    let past : length slices ≡ length slices = refl in
    c.loop-slice.invariant.none
    ∙ sym (c.loop-slice.invariant.left
    ∙ owed_past c.args.owed.now slices c.loop-slice.slice
    (omega (arith, c.loop-slice-test.false, c.loop-slice.auto.slice-end)))
