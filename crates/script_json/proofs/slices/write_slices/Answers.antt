use Rattle.std.proofs.Common.{List, subst, sym, ap}
use Rattle.std.proofs.lemmas.List.{drop_more}
use Rattle.std.proofs.Output.{writes_in_calls_append}
use Rattle.std.specs.Fmt.{WritesInCalls}
use Rattle.litmus_text.specs.JsonList.{with_commas_from}
use Rattle.script_json.specs.Slices.{texts_of_slices}
use Rattle.slice_core_spec.specs.Calls.{PartsView}
use Rattle.script_json.proofs.slices.write_slices.Goals as goal

pub loop-number-preserved : goal.loop-number-preserved
loop-number-preserved g c = λ new rest.
    let took = g.W.Write.write_str_gives in
    let config = c.args.config.now in
    let number = c.loop-number.number in
    let slices = c.args.slices.now in
    let first = c.loop-number.is_first in
    let here = rw (c.core_count-cores.ensures.cores, c.lines-lines.ensures.lines, c.index-slices-number.is)
    at c.in_ok-write_slice.ensures in
    c.loop-number.invariant new
    (subst (λ text. WritesInCalls took c.loop-number.out text new)
    (sym (ap (λ (left : List PartsView). with_commas_from first (texts_of_slices config.cores config.lines number left))
    (drop_more slices number _ c.loop-number-test.true)))
    (writes_in_calls_append took _ _ _ _ _ (writes_in_calls_append took _ _ _ _ _ c.in_ok-write_comma.ensures here) rest))
