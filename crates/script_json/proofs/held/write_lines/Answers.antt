use Rattle.std.proofs.Common.{◌∙◌, ◌%◌, Bool, ap, arith, sym}
use Rattle.std.specs.List.{slice_get}
use Rattle.script_json.proofs.Numbered.{none_at, none_behind, one_at}
use Rattle.script_json.specs.Held.{text_at, text_if, text_in}
use Rattle.script_json.proofs.held.write_lines.Goals as goal

pub loop-number-preserved-then-not-is_chosen_at : goal.loop-number-preserved-then-not-is_chosen_at
loop-number-preserved-then-not-is_chosen_at g c = λ new rest.
    let config = c.args.machine.now.config in
    let slices = c.args.machine.now.slices.items in
    let number = c.loop-number.number in
    let here = text_in (record { 0 = number }) (slice_get slices (number % config.slices)) in
    c.loop-number.invariant new
    (none_at g.W.Write.write_str_gives
    (λ n. text_at c.args.choice (record { 0 = n }) (slice_get slices (n % config.slices)))
    c.loop-number.is_first config.lines number (omega (arith, c.loop-number-test.true))
    (ap (λ (b : Bool). text_if b here) (sym c.is_chosen_at.ensures ∙ c.if-not-is_chosen_at.true))
    _ new rest)

pub loop-number-preserved : goal.loop-number-preserved
loop-number-preserved g c = λ new rest.
    let config = c.args.machine.now.config in
    let slices = c.args.machine.now.slices.items in
    let number = c.loop-number.number in
    let here = text_in (record { 0 = number }) (slice_get slices (number % config.slices)) in
    c.loop-number.invariant new
    (one_at g.W.Write.write_str_gives
    (λ n. text_at c.args.choice (record { 0 = n }) (slice_get slices (n % config.slices)))
    c.loop-number.is_first config.lines number here (omega (arith, c.loop-number-test.true))
    (ap (λ (b : Bool). text_if b here) (sym c.is_chosen_at.ensures ∙ c.if-not-is_chosen_at.false))
    _ _ _ new c.in_ok-write_comma.ensures c.in_ok-write_at.ensures rest)

pub returns : goal.returns
returns g c =
    let config = c.args.machine.now.config in
    let slices = c.args.machine.now.slices.items in
    c.loop-number.invariant _
    (none_behind g.W.Write.write_str_gives
    (λ n. text_at c.args.choice (record { 0 = n }) (slice_get slices (n % config.slices)))
    c.loop-number.is_first config.lines c.loop-number.number (omega (arith, c.loop-number-test.false)) _)
