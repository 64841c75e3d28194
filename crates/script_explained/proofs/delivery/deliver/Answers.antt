use Rattle.std.proofs.Common.{rules}
use Rattle.litmus_script.proofs.CallLemmas.{delivered}
use Rattle.script_explained.proofs.delivery.deliver.Goals as goal

pub returns-clause-made : goal.returns-clause-made
returns-clause-made c = record {
  answered = delivered c.args.state.now c.deliver-delivered.new.self c.args.pick c.deliver-delivered.result
      c.deliver-delivered.ensures.step;
  told = search rules;
}
