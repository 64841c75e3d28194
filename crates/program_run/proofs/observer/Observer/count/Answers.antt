use Rattle.std.proofs.Common.{ap, sym, ◌∙◌}
use Rattle.program_run.specs.Tally.{TallyView, new_tally, tally_with}
use Rattle.program_run.proofs.Seen.{counted_more}
use Rattle.program_run.proofs.observer.Observer.count.Goals as goal

pub returns : goal.returns
returns c = λ config history seen. record {
  lines = seen.lines;
  recalls = seen.recalls;
  counts = c.count.ensures ∙ ap (λ (tally : TallyView). tally_with tally c.args.what) seen.counts
      ∙ sym (counted_more (new_tally config.cores config.lines) history.counted c.args.what);
}
