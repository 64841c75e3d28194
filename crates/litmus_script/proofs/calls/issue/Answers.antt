use Rattle.std.proofs.Common.{Ok, ap, get_or, ◌∙◌}
use Rattle.litmus_script.specs.Issued.{no_entry}
use Rattle.litmus_script.proofs.CallLemmas.{issued}
use Rattle.litmus_script.proofs.calls.issue.Goals as goal

pub returns-in-Ok-Done-clause-issued : goal.returns-in-Ok-Done-clause-issued
returns-in-Ok-Done-clause-issued c = record {
  answers = issued c.args.state.now c.issue.new.self c.args.core c.args.request c.issue.result _ c.issue.ensures.step
      (c.in-Ok-Done.is ∙ ap Ok c.in-Ok-Done.field-0-is);
  said = ap (λ log. (get_or log c.in-Ok-Done.number no_entry).reply) c.log.ensures.log;
}
