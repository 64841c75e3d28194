use Rattle.std.proofs.Common.{subst}
use Rattle.history_text.specs.Histories.{accesses_in, inits_in}
use Rattle.history_text.specs.Judged.{IsVerdictOn}
use Rattle.history_text.specs.declared.extent.Extent.{Extent}
use Rattle.history_text.proofs.Rows.{verdict_on_told}
use Rattle.history_text.proofs.judged.judge_text.Goals as goal

pub returns-clause-judged : goal.returns-clause-judged
returns-clause-judged c =
    let is = c.in_ok-histories.ensures.told in
    record {
      told = is.told;
      tells = is.tells;
      is =
          subst
          (λ (x : Extent). IsVerdictOn (λ r. inits_in x r is.told) (λ r. accesses_in x r is.told) c.in_ok-verdict.verdict)
          c.in_ok-histories.ensures.extent (verdict_on_told _ is.told _ is.are c.in_ok-verdict.ensures);
    }
