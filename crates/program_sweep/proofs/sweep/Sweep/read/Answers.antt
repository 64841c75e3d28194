use Rattle.std.proofs.Common.{map, refl}
use Rattle.program_sweep.proofs.ReadLemmas.{settings_kept}
use Rattle.program_sweep.proofs.sweep.Sweep.read.Goals as goal

pub returns : goal.returns
returns c = record {
  settings = settings_kept (map (λ text. text.now) c.args.texts.now) c.in_ok-settings.settings.items
      c.lay_out.new.settings.items c.in-Some.ensures.kept c.in_ok-settings.ensures;
  spans = c.in-Some.ensures.spans;
  rows = c.in-Some.ensures.rows;
  few = c.in-Some.ensures.few;
  same_seeds = refl;
  same_limits = refl;
}
