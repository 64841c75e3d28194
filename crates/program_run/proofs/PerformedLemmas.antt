-- What a delivery performs, one access after another.
use Rattle.std.proofs.Common.{ℕ, ◌+◌, ◌<◌, Bool, true, false, List, ◌∷◌, drop, get_or, length, refl, sym, subst, ◌∙◌}
use Rattle.std.proofs.lemmas.List.{at_drop_more, drop_all}
use Rattle.std.specs.Prelude.{◌≤◌}
use Rattle.address_map.specs.declared.config.Config.{Config}
use Rattle.program_text.specs.declared.programs.Programs.{Programs}
use Rattle.slice_log.specs.declared.entry.Entry.{Entry}
use Rattle.program_run.specs.History.{HasSeen}
use Rattle.program_run.specs.Run.{Leads, Performs, PerformsAll, RunnerView, RunState, run_of}

-- these are left to perform: once they are performed, all are
abbrev pub HasPerformed : Config → Programs → ℕ → Bool → List Entry → List Entry → RunState → RunState → Type 0
HasPerformed config programs slice is_first left all old new =
    (end : RunState) → PerformsAll config programs slice is_first left new end
    → PerformsAll config programs slice true all old end

-- none was performed
pub performed_none : (config : Config) (programs : Programs) (slice : ℕ) (all : List Entry) (runner : RunnerView)
    → Leads (HasPerformed config programs slice true all all) runner runner
performed_none config programs slice all runner =
    record { config = refl; goes = λ before seen. (before, seen, λ end performs. performs) }

-- one more after the others
pub performed_more : (programs : Programs) (slice : ℕ) (is_first : Bool) (all : List Entry) (i : ℕ) (d : Entry)
    (start now next : RunnerView) → i < length all
    → Leads (HasPerformed start.config programs slice is_first (drop i all) all) start now
    → Leads (Performs now.config programs slice is_first (get_or all i d)) now next
    → Leads (HasPerformed start.config programs slice false (drop (i + 1) all) all) start next
performed_more programs slice is_first all i d start now next below made performs = record {
  config = performs.config ∙ made.config;
  goes = λ before seen.
      let one = made.goes before seen in
      let two = performs.goes one.0 (subst (λ config. HasSeen config one.0 now.observer) (sym made.config) one.1) in
      let goes : Performs start.config programs slice is_first (get_or all i d) (run_of now one.0) (run_of next two.0) =
      subst (λ config. Performs config programs slice is_first (get_or all i d) (run_of now one.0) (run_of next two.0))
      made.config two.2 in (
        two.0,
        subst (λ config. HasSeen config two.0 next.observer) made.config two.1,
        λ end rest.
            let these : PerformsAll start.config programs slice is_first (get_or all i d ∷ drop (i + 1) all)
            (run_of now one.0) end = (run_of next two.0, goes, rest) in
            one.2 end
            (subst (λ xs. PerformsAll start.config programs slice is_first xs (run_of now one.0) end)
            (sym (at_drop_more (λ (xs : List Entry). xs) all i d below)) these),
      );
}

-- all were performed
pub performed_all : (programs : Programs) (slice : ℕ) (is_first : Bool) (all : List Entry) (i : ℕ)
    (start end : RunnerView) → length all ≤ i
    → Leads (HasPerformed start.config programs slice is_first (drop i all) all) start end
    → Leads (PerformsAll start.config programs slice true all) start end
performed_all programs slice is_first all i start end past made = record {
  config = made.config;
  goes = λ before seen.
      let one = made.goes before seen in
      let none : PerformsAll start.config programs slice is_first (drop i all) (run_of end one.0) (run_of end one.0) =
      subst (λ xs. PerformsAll start.config programs slice is_first xs (run_of end one.0) (run_of end one.0))
      (sym (drop_all i all past)) refl in (one.0, one.1, one.2 (run_of end one.0) none);
}
