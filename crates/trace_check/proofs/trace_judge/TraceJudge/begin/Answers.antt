use Rattle.std.proofs.Common.{refl}
use Rattle.trace_check.proofs.CheckLemmas.{stands-begin}
use Rattle.trace_check.proofs.trace_judge.TraceJudge.begin.Goals as goal

pub returns : goal.returns
returns c = λ init stands.
    stands-begin c.args.self.now _ init c.args.word c.args.value c.requires.place refl refl refl
    (c.in_ok-begin.ensures init) stands
