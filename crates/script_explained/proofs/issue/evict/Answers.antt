use Rattle.std.proofs.Common.{rules}
use Rattle.litmus_script.proofs.CallLemmas.{evicted}
use Rattle.script_explained.proofs.issue.evict.Goals as goal

pub returns-clause-made : goal.returns-clause-made
returns-clause-made c = record {
  answered = evicted c.args.state.now c.evict-answer.new.self c.args.core c.args.line c.evict-answer.result
      c.evict-answer.ensures.step;
  told = search rules;
}
