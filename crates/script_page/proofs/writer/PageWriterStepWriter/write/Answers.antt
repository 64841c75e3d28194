use Rattle.std.proofs.lemmas.Result.{on_ok_weaker}
use Rattle.script_page.proofs.writer.PageWriterStepWriter.write.Goals as goal

pub returns-clause-written : goal.returns-clause-written
returns-clause-written g c =
    on_ok_weaker c.write_step.result
    (λ written. record {
      number = c.args.statement.now.number;
      answer = c.in_ok-answer.answer.items;
      told = c.in_ok-answer.ensures.told;
      written = rw c.as_slice.ensures.value at written;
    }) c.write_step.ensures.written
