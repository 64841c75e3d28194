use Rattle.std.proofs.Common.{refl}
use Rattle.std.proofs.lemmas.Result.{on_ok_weaker}
use Rattle.trace_check.proofs.VerdictLemmas.{knows-begin}
use Rattle.trace_check.proofs.judge.Judge.begin.Goals as goal

pub returns : goal.returns
returns c =
    on_ok_weaker c.set_slot.result
    (λ set init below knows. knows-begin _ _ init c.args.word c.args.value c.ranges.value.fits below knows refl set)
    c.set_slot.ensures
