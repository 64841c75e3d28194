use Rattle.std.proofs.Common.{arith, ap, length, ◌≡◌, ◌+◌, ◌-◌}
use Rattle.litmus_test.specs.declared.test.Thread.{Thread}
use Rattle.litmus_test.specs.Text.{said_by}
use Rattle.litmus_test.proofs.BodyLemmas.{last_steps-programs}
use Rattle.litmus_test.proofs.test.LitmusTest.last_steps.Goals as goal

pub returns : goal.returns
unfolding said_by
returns c =
    let count : length c.args.self.now.threads.items ≡ c.len.result - 1 + 1 =
    omega (arith, c.requires, c.len.ensures, c.args.self.now.threads.ok.0) in
    let last = last_steps-programs c.args.self.now.threads.items (c.len.result - 1) c.index.result.now count in
    let here = ap (λ (t : Thread). length t.steps.items) c.index.ensures in
    omega (arith, last, here, c.len-2.ensures, c.index.result.now.steps.ok.0)
