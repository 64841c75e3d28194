-- How a run goes on, move by move.
use Rattle.std.proofs.Common.{◌≡◌, ℕ, ◌+◌, ◌-◌, ◌^◌, List, [], ◌∷◌, ◌++◌, length, Option, refl, sym, subst, ◌∙◌}
use Rattle.std.proofs.Common.{Some, arith, false, inl, inr, true}
use Rattle.std.specs.Io.KnownBytes.{Appends}
use Rattle.address_map.specs.declared.config.Config.{Config}
use Rattle.mshr_file.specs.Miss.{Bound}
use Rattle.program_text.specs.declared.programs.Programs.{Programs}
use Rattle.rand_xoshiro.specs.SplitMix64.{splitmix_seed}
use Rattle.rand_xoshiro.specs.Xoshiro256.{of_seed, plus_plus}
use Rattle.program_run.specs.Calls.{text_of_script}
use Rattle.program_run.specs.History.{History, HasSeen, no_history}
use Rattle.program_run.specs.Run.{IsNewRunner, IsOver, IsProgramsRun, Leads, Makes, MakesAll, PrintsEnd, PrintsSchedule}
use Rattle.program_run.specs.Run.{RunnerView, measured_runner, usages_of}
use Rattle.program_run.specs.Run.{RunState, Runs, asks_of, deliveries_of, drawn_move, free_moves, is_measured, moves_of}
use Rattle.program_run.specs.Run.{nothing_owed, or_else, owed_behind, owed_from, run_of}
use Rattle.program_run.specs.Run.{text_of, text_of_stuck}
use Rattle.slice_core_spec.specs.Calls.{PartsView}
use Rattle.program_run.specs.Tidy.{Tidies}
use Rattle.program_run.specs.Tally.{TallyView}
use Rattle.program_run.specs.declared.moves.Move.{Move}
use Rattle.program_run.specs.declared.run.Form.{Form}
use Rattle.program_run.proofs.OwedLemmas.{or_else_none}

-- `count` moves were made, which took the generator from `first` to `last`: what is made after them goes on from there
abbrev pub HasMade : Config → Programs → List ℕ → List ℕ → ℕ → List ℕ → RunState → RunState → Type 0
HasMade config programs first last count owed old new =
    (end : RunState) (more : List Move) → MakesAll config programs last count owed more new end
    → (all : List Move) × MakesAll config programs first 0 (nothing_owed programs) all old end
    × (length all ≡ count + length more)

-- no move was made
pub made_none : (config : Config) (programs : Programs) (generator : List ℕ) (runner : RunnerView)
    → Leads (HasMade config programs generator generator 0 (nothing_owed programs)) runner runner
made_none config programs generator runner =
    record { config = refl; goes = λ before seen. (before, seen, λ end more makes. (more, makes, omega arith)) }

-- one more after the others; what is in use was measured, and rings were kept short
pub made_more : (programs : Programs) (first last after : List ℕ) (count : ℕ) (owed left : List ℕ)
    (start now next : RunnerView) (to : Move) (tidied : List PartsView)
    → Leads (HasMade start.config programs first last count owed) start now
    → drawn_move (plus_plus last).0 (or_else (owed_from owed 0 now.slices)
    (asks_of now.config programs now.slices now.places ++ deliveries_of now.slices)) ≡ Some to
    → after ≡ (plus_plus last).1
    → left ≡ owed_behind now.config programs now.places to owed
    → Leads (Makes now.config programs to) now next
    → Tidies next.config.slices count next.slices tidied
    → Leads (HasMade start.config programs first after (count + 1) left) start
    (record (measured_runner (is_measured programs.limits) next) { slices = tidied })
made_more programs first last after count owed left start now next to tidied made draws on owes makes tidy = record {
  config = makes.config ∙ made.config;
  goes = λ before seen.
      let one = made.goes before seen in
      let two = makes.goes one.0 (subst (λ config. HasSeen config one.0 now.observer) (sym made.config) one.1) in
      let drew : drawn_move (plus_plus last).0 (moves_of start.config programs owed (run_of now one.0)) ≡ Some to =
      subst (λ config. drawn_move (plus_plus last).0 (or_else (owed_from owed 0 now.slices)
      (asks_of config programs now.slices now.places ++ deliveries_of now.slices)) ≡ Some to) made.config draws in
      let owing : left ≡ owed_behind start.config programs now.places to owed =
      subst (λ (config : Config). left ≡ owed_behind config programs now.places to owed) made.config owes in
      let goes : Makes start.config programs to (run_of now one.0) (run_of next two.0) =
      subst (λ config. Makes config programs to (run_of now one.0) (run_of next two.0)) made.config two.2 in
      let kept : Tidies start.config.slices count next.slices tidied =
      subst (λ (config : Config). Tidies config.slices count next.slices tidied) (makes.config ∙ made.config) tidy in (
        two.0,
        subst (λ config. HasSeen config two.0 next.observer) made.config two.1,
        λ end more then.
            let from = run_of (record (measured_runner (is_measured programs.limits) next) { slices = tidied }) two.0 in
            let behind = subst
            (λ (o : List ℕ). MakesAll start.config programs (plus_plus last).1 (count + 1) o more from end) owing
            (subst (λ g. MakesAll start.config programs g (count + 1) left more from end) on then) in
            let (all, makes_all, counted) =
            one.2 end (to ∷ more) (run_of next two.0, drew, goes, tidied, kept, behind) in
            (all, makes_all, counted ∙ omega arith),
      );
}

-- the run has ended, since no move may come next
pub run_ended : (programs : Programs) (seed count : ℕ) (last owed : List ℕ) (start end : RunnerView)
    → Leads (HasMade start.config programs (of_seed (splitmix_seed 32 seed)) last count owed) start end
    → or_else (owed_from owed 0 end.slices)
    (asks_of end.config programs end.slices end.places ++ deliveries_of end.slices) ≡ []
    → Leads (Runs start.config programs seed) start end
run_ended programs seed count last owed start end made none = record {
  config = made.config;
  goes = λ before seen.
      let all = made.goes before seen in
      let ended : free_moves start.config programs (run_of end all.0) ≡ [] =
      subst (λ config. asks_of config programs end.slices end.places ++ deliveries_of end.slices ≡ []) made.config
      (or_else_none (owed_from owed 0 end.slices) _ none) in
      let (steps, makes, counted) = all.2 (run_of end all.0) [] refl in
      (all.0, all.1, record { steps = steps; made = makes; ended = inl ended });
}

-- .. or since 2^64 - 1 were made
pub run_cut : (programs : Programs) (seed count : ℕ) (last owed : List ℕ) (start end : RunnerView)
    → Leads (HasMade start.config programs (of_seed (splitmix_seed 32 seed)) last count owed) start end
    → count ≡ 2 ^ 64 - 1
    → Leads (Runs start.config programs seed) start end
run_cut programs seed count last owed start end made most = record {
  config = made.config;
  goes = λ before seen.
      let all = made.goes before seen in
      let (steps, makes, counted) = all.2 (run_of end all.0) [] refl in
      (all.0, all.1, record { steps = steps; made = makes; ended = inr (omega (arith, counted, most)) });
}

-- what the run of a new machine prints
pub programs_run : (bound : Bound) (programs : Programs) (form : Form) (seed status : ℕ)
    (start end : RunnerView) (before after : Option (List ℕ))
    → IsNewRunner programs.config bound programs false start → Leads (Runs start.config programs seed) start end
    → ((history : History) → HasSeen programs.config history end.observer
    → PrintsEnd programs.config programs form seed status (run_of end history) before after)
    → IsProgramsRun bound programs form seed status before after
programs_run bound programs form seed status start end before after new runs prints =
    let gone = runs.goes no_history (subst (λ c. HasSeen c no_history start.observer) (sym new.config) new.unseen) in
    record {
      start = run_of start no_history;
      new = record { fresh = new.fresh; uncalled = new.uncalled; first = new.first; unseen = refl };
      end = run_of end gone.0;
      runs = subst (λ c. Runs c programs seed (run_of start no_history) (run_of end gone.0)) new.config gone.2;
      prints = prints gone.0 (subst (λ c. HasSeen c gone.0 end.observer) new.config gone.1);
    }

-- .. and what is printed as a script
pub prints_schedule : (bound : Bound) (programs : Programs) (seed status : ℕ) (start end : RunnerView)
    (before after : Option (List ℕ))
    → IsNewRunner programs.config bound programs true start → Leads (Runs start.config programs seed) start end
    → (IsOver programs (run_of end no_history) → status ≡ 0)
    → ((IsOver programs (run_of end no_history) → ⊥) → status ≡ 1)
    → Appends before after (text_of_script programs.config programs.misses end.calls.made)
    → PrintsSchedule bound programs seed status before after
prints_schedule bound programs seed status start end before after new runs over stuck printed =
    let gone = runs.goes no_history (subst (λ c. HasSeen c no_history start.observer) (sym new.config) new.unseen) in
    record {
      start = run_of start no_history;
      new = record { fresh = new.fresh; uncalled = new.uncalled; first = new.first; unseen = refl };
      end = run_of end gone.0;
      runs = subst (λ c. Runs c programs seed (run_of start no_history) (run_of end gone.0)) new.config gone.2;
      over = over;
      stuck = stuck;
      printed = printed;
    }

-- at a run that is over the report is printed
pub prints_over : (config : Config) (programs : Programs) (form : Form) (seed : ℕ) (end : RunnerView)
    (before after : Option (List ℕ)) (history : History) → IsOver programs (run_of end history)
    → Appends before after
    (text_of form end.observer.tally (usages_of config.cores programs end.places) programs.limits seed)
    → HasSeen config history end.observer
    → PrintsEnd config programs form seed 0 (run_of end history) before after
prints_over config programs form seed end before after history over printed seen = record {
  over = λ is. (
    refl,
    subst
        (λ (tally : TallyView). Appends before after
        (text_of form tally (usages_of config.cores programs end.places) programs.limits seed))
        seen.counts printed,
  );
  stuck = λ unless. absurd (unless over);
}

-- .. and at one that isn't, that it is stuck
pub prints_stuck : (config : Config) (programs : Programs) (form : Form) (seed : ℕ) (end : RunnerView)
    (before after : Option (List ℕ)) (history : History) → (IsOver programs (run_of end history) → ⊥)
    → Appends before after (text_of_stuck seed)
    → PrintsEnd config programs form seed 1 (run_of end history) before after
prints_stuck config programs form seed end before after history unless printed = record {
  over = λ is. absurd (unless is);
  stuck = λ is. (refl, printed);
}
