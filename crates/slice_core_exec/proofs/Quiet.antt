-- When a slice is quiet.
use Rattle.std.proofs.Common.{◌≡◌, ℕ, Bool, true, false, sym, ◌∙◌}
use Rattle.std.specs.Prelude.{IsTrue, ◌↔◌, All}
use Rattle.std.proofs.lemmas.Bool.{false≢true}
use Rattle.slice_core_cache.specs.CoreCache.{IsCoreCacheQuiet}
use Rattle.slice_core_spec.specs.View.{View, channels_at, IsQuiet}
use Rattle.slice_queues.specs.Line.{IsEmptyLine}

-- where no message waits, the cores decide
pub quiet-by_cores : (v : View) (empty quiet : Bool) → empty ≡ true
    → (IsTrue empty ↔ ((local : ℕ) → IsEmptyLine (channels_at v (record { 0 = local }))))
    → (IsTrue quiet ↔ All IsCoreCacheQuiet v.caches) → IsTrue quiet ↔ IsQuiet v
quiet-by_cores v empty quiet is_empty lines cores = (
  λ t. record { messages = λ local. lines.0 is_empty local.0; caches = cores.0 t },
  λ all. cores.1 all.caches,
)

-- where a message waits, the slice isn't quiet
pub quiet-not : (v : View) (empty : Bool) → empty ≡ false
    → (IsTrue empty ↔ ((local : ℕ) → IsEmptyLine (channels_at v (record { 0 = local }))))
    → IsTrue empty ↔ IsQuiet v
quiet-not v empty not_empty lines = (
  λ t. absurd (false≢true (sym not_empty ∙ t)),
  λ all. lines.1 (λ local. all.messages (record { 0 = local })),
)
