use Rattle.std.proofs.lemmas.Result.{on_ok_weaker}
use Rattle.script_page.proofs.writer.PageWriterStepWriter.write_next.Goals as goal

pub returns-clause-written : goal.returns-clause-written
returns-clause-written g c =
    on_ok_weaker c.write_step.result
    (λ written. record {
      number = c.args.number;
      answer = c.in_ok-answer.answer.items;
      told = c.in_ok-answer.ensures.told;
      written = rw (c.as_slice.ensures.value, c.as_slice-2.ensures.value, c.in_ok-line.ensures.text) at written;
    }) c.write_step.ensures.written
