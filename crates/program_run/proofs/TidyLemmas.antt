-- How slices are tidied one after another.
use Rattle.std.proofs.Common.{◌≡◌, ℕ, suc, ◌+◌, List, arith}
use Rattle.std.specs.Prelude.{slice_get}
use Rattle.std.specs.List.{range_with_len}
use Rattle.slice_core_spec.specs.Calls.{PartsView}
use Rattle.program_run.specs.Tidy.{TidiesAll, TidiesSlice, tidied_by}

-- tidying those from this one on tidies all, and so does tidying those after it
pub tidies_one : (slice slices : ℕ) (start now next : List PartsView)
    → ((end : List PartsView) (left : ℕ) → slice + left ≡ slices → TidiesAll (range_with_len slice left) now end
    → TidiesAll (range_with_len 0 slices) start end)
    → TidiesSlice slice (tidied_by (slice_get now slice)) now next
    → (end : List PartsView) (left : ℕ) → slice + 1 + left ≡ slices
    → TidiesAll (range_with_len (slice + 1) left) next end
    → TidiesAll (range_with_len 0 slices) start end
tidies_one slice slices start now next behind tidies end left all more =
    behind end (suc left) (omega (arith, all)) (next, tidies, more)
