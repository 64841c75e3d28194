-- The sums at the end of a run.
use Rattle.std.proofs.Common.{◌≡◌, ℕ, None, Option, Some, ap₂, false, refl, subst, sym}
use Rattle.address_map.specs.declared.config.Config.{Config}
use Rattle.mshr_file.specs.Miss.{Bound}
use Rattle.program_text.specs.declared.programs.Programs.{Programs}
use Rattle.program_run.specs.History.{History, HasSeen, no_history}
use Rattle.program_run.specs.Run.{IsNewRunner, IsOver, Leads, RunnerView, Runs, run_of, usages_of}
use Rattle.program_run.specs.Sums.{AreSums, IsCounted}
use Rattle.program_run.specs.Tally.{TallyView, totals_of}
use Rattle.program_run.specs.Usage.{no_usage, usage_of_all}
use Rattle.program_run.specs.declared.sums.Sums.{Sums}
use Rattle.program_run.specs.declared.tally.Counts.{Counts}
use Rattle.program_run.specs.declared.usage.Usage.{Usage}

-- whatever was seen, these are the sums at the end of a run
pub run_counted : (bound : Bound) (programs : Programs) (seed : ℕ) (sums : Option Sums) (start end : RunnerView)
    → IsNewRunner programs.config bound programs false start → Leads (Runs start.config programs seed) start end
    → ((history : History) → HasSeen programs.config history end.observer
    → AreSums programs.config programs (run_of end history) sums)
    → IsCounted bound programs seed sums
run_counted bound programs seed sums start end new runs counted =
    let gone = runs.goes no_history (subst (λ c. HasSeen c no_history start.observer) (sym new.config) new.unseen) in
    record {
      start = run_of start no_history;
      new = record { fresh = new.fresh; uncalled = new.uncalled; first = new.first; unseen = refl };
      end = run_of end gone.0;
      runs = subst (λ c. Runs c programs seed (run_of start no_history) (run_of end gone.0)) new.config gone.2;
      counted = counted gone.0 (subst (λ c. HasSeen c gone.0 end.observer) new.config gone.1);
    }

-- those of a run that is over are what was counted and measured
pub sums_over : (config : Config) (programs : Programs) (end : RunnerView) (history : History) (counts : Counts)
    (usage : Usage)
    → IsOver programs (run_of end history) → counts ≡ totals_of end.observer.tally.lines
    → usage ≡ usage_of_all no_usage (usages_of config.cores programs end.places) → HasSeen config history end.observer
    → AreSums config programs (run_of end history) (Some (record { counts = counts; usage = usage }))
sums_over config programs end history counts usage over counted measured seen =
    let made : Counts → Usage → Option Sums = λ c u. Some (record { counts = c; usage = u }) in
    let lines = subst (λ (tally : TallyView). counts ≡ totals_of tally.lines) seen.counts counted in
    record { over = λ is. ap₂ made lines measured; stuck = λ unless. absurd (unless over) }

-- and one that isn't has none
pub no_sums : (config : Config) (programs : Programs) (end : RunnerView) (history : History)
    → (IsOver programs (run_of end history) → ⊥) → AreSums config programs (run_of end history) None
no_sums config programs end history unless = record { over = λ is. absurd (unless is); stuck = λ is. refl }
