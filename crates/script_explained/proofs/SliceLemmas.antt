-- A machine of which one slice has made a call.
use Rattle.std.proofs.Common.{◌≡◌, ℕ, ◌<◌, List, get_or, refl, sym, ◌∙◌, subst, inl, inr}
use Rattle.std.proofs.Math.ListN.{length-set, set}
use Rattle.std.proofs.lemmas.List.{get_or-set_other, get_or-set_same}
use Rattle.std.proofs.lemmas.Bool.{cases_eq}
use Rattle.std.proofs.lemmas.Option.{slice_get_read}
use Rattle.std.specs.Prelude.{length}
use Rattle.address_map.specs.declared.config.Config.{Config}
use Rattle.litmus_script.specs.Machine.{IsMachine, IsSliceOf, OneSlice}
use Rattle.slice_core.specs.Facts.{IsSameSlice}
use Rattle.slice_core_spec.specs.Calls.{PartsView}

-- the slice is the one that it was
same_slice : (config : Config) (i : ℕ) (old new : PartsView) → IsSameSlice old new → IsSliceOf config i old
    → IsSliceOf config i new
same_slice config i old new same is = record {
  cores = same.cores ∙ is.cores;
  lines = same.lines ∙ is.lines;
  exclusive = same.reported ∙ is.exclusive;
}

-- so the machine is one still
pub machine_kept : (config : Config) (slices : List PartsView) (i : ℕ) (old new : PartsView) → i < length slices
    → old ≡ get_or slices i old → IsSameSlice old new → IsMachine config slices → IsMachine config (set slices i new)
machine_kept config slices i old new below here same machine = record {
  count = length-set slices i new ∙ machine.count;
  each = λ j d within. elim (cases_eq j i) [
    | inl at ↦
        subst (λ (k : ℕ). IsSliceOf config k (get_or (set slices i new) k d)) (sym at)
        (rw (get_or-set_same slices i new d below)
        (same_slice config i old new same (subst (λ (p : PartsView). IsSliceOf config i p) (sym here)
        (machine.each i old below))))
    | inr other ↦
        rw (get_or-set_other slices i j new d other)
        (machine.each j d (subst (λ (n : ℕ). j < n) (length-set slices i new) within))
  ];
}

-- and what the slice made one of its slices made
pub one_slice : (slices : List PartsView) (i : ℕ) (old new : PartsView) (Goes : PartsView → PartsView → Type 0)
    → i < length slices
    → old ≡ get_or slices i old → Goes old new → OneSlice i Goes slices (set slices i new)
one_slice slices i old new Goes below here goes = record {
  before = old;
  after = new;
  found = slice_get_read slices (length slices) i old refl below here;
  goes = goes;
  others = refl;
}
