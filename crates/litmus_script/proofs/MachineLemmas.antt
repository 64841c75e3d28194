-- A machine that is built has its slices in order, and their counters are alike.
use Rattle.std.proofs.Common.{◌≡◌, ℕ, ◌+◌, ◌<◌, ◌≤◌, List, [], ◌∷◌, ◌++◌, length, get_or, sym, ap, below_more, ◌∙◌}
use Rattle.std.proofs.Common.{subst, arith, inl, inr, length-append}
use Rattle.std.proofs.lemmas.List.Elements.{All-from_get_or, All-head, All-nil, All-tail, All-weaker}
use Rattle.std.proofs.Math.ListN.{get_or-append}
use Rattle.std.proofs.lemmas.List.{get_or_default}
use Rattle.std.proofs.Math.Seq.{get_or-append_seam}
use Rattle.std.proofs.lemmas.Bool.{cases_lt}
use Rattle.std.specs.Prelude.{All}
use Rattle.address_map.specs.declared.config.Config.{Config}
use Rattle.address_map.specs.declared.address.SliceId.{SliceId}
use Rattle.mshr_file.specs.Miss.{Bound}
use Rattle.slice_core_spec.specs.Calls.{PartsView, IsNew}
use Rattle.slice_answer.specs.Stats.{StatsView}
use Rattle.slice_text.specs.Shown.{HaveCores}
use Rattle.stats_report.specs.Report.{AreAlike, IsLike}
use Rattle.litmus_script.specs.Machine.{IsSliceOf, AreSlicesOf, AreNew, IsCountOf}

-- a state that was built is a slice's
pub of_new : (config : Config) (bound : Bound) (slice : SliceId) (p : PartsView) → IsNew config bound slice p
    → IsSliceOf config slice.0 p
of_new config bound slice p new = record {
  cores = new.caches.count_is;
  lines = new.lines;
  exclusive = ap (λ s. s.exclusive) new.stats;
}

-- one more state, of the next slice
pub are_slices_push : (config : Config) (slices : List PartsView) (i : ℕ) (p : PartsView) → AreSlicesOf config slices
    → length slices ≡ i → IsSliceOf config i p → AreSlicesOf config (slices ++ p ∷ [])
are_slices_push config slices i p each count is = λ j d below. elim (cases_lt j (length slices)) [
  | inl before ↦ rw (get_or-append slices (p ∷ []) d j before) (each j d before)
  | inr last ↦
      let at : j ≡ length slices = omega (arith, simp length-append at below) in
      subst (λ k. IsSliceOf config k (get_or (slices ++ p ∷ []) k d)) (sym at)
      (rw (get_or-append_seam slices p [] d) (rw count is))
]

-- one more new state, of the next slice
pub are_new_push : (config : Config) (bound : Bound) (slices : List PartsView) (i : ℕ) (p : PartsView)
    → AreNew config bound slices
    → length slices ≡ i → IsNew config bound (record { 0 = i }) p → AreNew config bound (slices ++ p ∷ [])
are_new_push config bound slices i p each count is = λ j d below. elim (cases_lt j (length slices)) [
  | inl before ↦ rw (get_or-append slices (p ∷ []) d j before) (each j d before)
  | inr last ↦
      let at : j ≡ length slices = omega (arith, simp length-append at below) in
      subst (λ k. IsNew config bound (record { 0 = k }) (get_or (slices ++ p ∷ []) k d)) (sym at)
      (rw (get_or-append_seam slices p [] d) (rw count is))
]

like : (config : Config) (first other : StatsView) → IsCountOf config first
    → IsCountOf config other → IsLike first other
like config first other one two =
    record { cores = two.cores ∙ sym one.cores; exclusive = two.exclusive ∙ sym one.exclusive }

-- counters of one machine are alike
pub are_alike : (config : Config) (all : List StatsView) → 1 ≤ length all → All (IsCountOf config) all → AreAlike all
are_alike config [] some each = absurd (omega (arith, some))
are_alike config (first ∷ rest) some each =
    All-weaker (IsCountOf config) (IsLike first) (λ other. like config first other
    (All-head (IsCountOf config) first rest each)) rest
    (All-tail (IsCountOf config) first rest each)

-- what holds of each state before this place, and of the one there, holds of each before the next place
pub each_more : (P : PartsView → Type 0) (slices : List PartsView) (i : ℕ) (p : PartsView) → p ≡ get_or slices i p
    → i < length slices → ((k : ℕ) (d : PartsView) → k < i → P (get_or slices k d)) → P p
    → (k : ℕ) (d : PartsView) → k < i + 1 → P (get_or slices k d)
each_more P slices i p here within before holds k d below =
    below_more (λ k. P (get_or slices k d)) i (λ j less. before j d less)
    (subst P (here ∙ get_or_default slices i p d within) holds) k below

-- what holds of the state at each place holds of each state
each_has : (P : PartsView → Type 0) (slices : List PartsView)
    → ((i : ℕ) (d : PartsView) → i < length slices → P (get_or slices i d))
    → All P slices
each_has P [] each = All-nil P
each_has P (p ∷ more) each = All-from_get_or P (p ∷ more) p (λ i below. each i p below)

-- each slice of a machine has its cores
pub have_cores : (config : Config) (slices : List PartsView) → AreSlicesOf config slices → HaveCores config.cores slices
have_cores config slices each =
    each_has (λ p. length p.view.caches ≡ config.cores) slices (λ i d below. (each i d below).cores)
