use Rattle.std.proofs.Common.{◌∙◌, Bool, ap, arith, length, sym}
use Rattle.script_json.proofs.Numbered.{none_at, none_behind, one_at}
use Rattle.script_json.specs.Held.{has_copy, text_if}
use Rattle.slice_json.specs.Copy.{text_of_copy}
use Rattle.script_json.proofs.held.write_copies_of.Goals as goal

pub loop-core-preserved-then-not-has_copy : goal.loop-core-preserved-then-not-has_copy
loop-core-preserved-then-not-has_copy g c = λ new rest.
    let v = c.args.state.now.view in
    let line = c.args.line in
    let core = c.loop-core.core in
    c.loop-core.invariant new
    (none_at g.W.Write.write_str_gives
    (λ k. text_if (has_copy v line (record { 0 = k })) (text_of_copy v (record { 0 = k }) line))
    c.loop-core.is_first (length v.caches) core (omega (arith, c.loop-core-test.true, c.requires))
    (ap (λ (b : Bool). text_if b (text_of_copy v (record { 0 = core }) line))
    (sym c.has_copy.ensures ∙ c.if-not-has_copy.true))
    _ new rest)

pub loop-core-preserved : goal.loop-core-preserved
loop-core-preserved g c = λ new rest.
    let v = c.args.state.now.view in
    let line = c.args.line in
    let core = c.loop-core.core in
    c.loop-core.invariant new
    (one_at g.W.Write.write_str_gives
    (λ k. text_if (has_copy v line (record { 0 = k })) (text_of_copy v (record { 0 = k }) line))
    c.loop-core.is_first (length v.caches) core (text_of_copy v (record { 0 = core }) line)
    (omega (arith, c.loop-core-test.true, c.requires))
    (ap (λ (b : Bool). text_if b (text_of_copy v (record { 0 = core }) line)) (sym c.has_copy.ensures ∙ c.if-not-has_copy.false))
    _ _ _ new c.in_ok-write_comma.ensures c.in_ok-write_copy_in.ensures rest)

pub returns : goal.returns
returns g c =
    let v = c.args.state.now.view in
    let line = c.args.line in
    c.loop-core.invariant _
    (none_behind g.W.Write.write_str_gives
    (λ k. text_if (has_copy v line (record { 0 = k })) (text_of_copy v (record { 0 = k }) line))
    c.loop-core.is_first (length v.caches) c.loop-core.core (omega (arith, c.loop-core-test.false, c.requires)) _)
