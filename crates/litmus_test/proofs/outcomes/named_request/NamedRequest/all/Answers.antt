use Rattle.std.proofs.Common.{arith}
use Rattle.std.proofs.lemmas.Grind.{common_steps}
use Rattle.std.proofs.lemmas.List.FromFn.{map-range_with_len_more}
use Rattle.litmus_test.specs.NamedRequest.{named_request_of}
use Rattle.litmus_test.proofs.outcomes.named_request.NamedRequest.all.Goals as goal

pub loop-name-preserved : goal.loop-name-preserved
loop-name-preserved c =
    let more = map-range_with_len_more (named_request_of c.args.test.now) 0 c.loop-name.name c.loop-name.name
    (omega arith) in
    grind (arith, common_steps, more)
