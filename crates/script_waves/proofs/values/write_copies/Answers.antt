use Rattle.std.proofs.Common.{◌+◌, sym, subst, ap}
use Rattle.std.proofs.lemmas.List.{drop_more}
use Rattle.std.proofs.Output.{writes_in_calls_append}
use Rattle.std.specs.Fmt.{WritesInCalls}
use Rattle.script_waves.specs.Values.{text_of_states}
use Rattle.script_waves.proofs.values.write_copies.Goals as goal

pub loop-core-preserved : goal.loop-core-preserved
loop-core-preserved g c = λ new rest.
    let took = g.W.Write.write_str_gives in
    let core = c.loop-core.core in
    let copies = c.args.copies.now in
    c.loop-core.invariant new
    (subst (λ text. WritesInCalls took c.loop-core.out text new)
    (sym (ap (text_of_states c.args.line core) (drop_more copies core _ c.loop-core-test.true)))
    (writes_in_calls_append took _ _ _ _ _ c.in_ok-write_copy.ensures rest))
