use Rattle.std.proofs.Common.{Bool, List, map, refl}
use Rattle.litmus_text.specs.JsonList.{with_commas_from}
use Rattle.litmus_text.proofs.Commas.{last_text, next_text}
use Rattle.std.proofs.Common.{ℕ}
use Rattle.litmus_text.specs.JsonNumber.{number_of}
use Rattle.litmus_test.proofs.outcomes.json.write_values.Goals as goal

pub loop-value-preserved : goal.loop-value-preserved
loop-value-preserved g c = λ new rest.
    let all = λ (first : Bool) (items : List ℕ). with_commas_from first (map number_of items) in
    c.loop-value.invariant new
    (next_text g.W.Write.write_str_gives all c.loop-value.is_first c.args.values.now c.loop-value.value-index _ _
    c.loop-value-test.true refl _ _ _ new c.in_ok-write_comma.ensures c.in_ok-write_number.ensures rest)

pub returns : goal.returns
returns g c =
    let all = λ (first : Bool) (items : List ℕ). with_commas_from first (map number_of items) in
    c.loop-value.invariant _
    (last_text g.W.Write.write_str_gives all c.loop-value.is_first c.args.values.now c.loop-value.value-index
    c.loop-value-test.false refl _)
