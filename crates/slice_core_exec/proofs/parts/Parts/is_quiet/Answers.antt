use Rattle.std.proofs.Common.{subst, List}
use Rattle.std.specs.Prelude.{IsTrue, ◌↔◌, All}
use Rattle.slice_core_cache.specs.CoreCache.{CoreCacheView, IsCoreCacheQuiet}
use Rattle.slice_core_spec.specs.Calls.{PartsView}
use Rattle.slice_core_spec.specs.View.{IsQuiet}
use Rattle.slice_core_exec.proofs.Quiet.{quiet-by_cores, quiet-not}
use Rattle.slice_core_exec.proofs.parts.Parts.is_quiet.Goals as goal

pub returns-then-is_empty : goal.returns-then-is_empty
returns-then-is_empty g c =
    let P : PartsView → Type 0 = λ p. IsTrue c.are_quiet.result ↔ IsQuiet p.view in
    let Q : List CoreCacheView → Type 0 = λ caches. IsTrue c.are_quiet.result ↔ All IsCoreCacheQuiet caches in
    subst P c.self.view_is
    (quiet-by_cores _ c.is_empty.result c.are_quiet.result c.if-is_empty.true c.is_empty.ensures.lines
    (subst Q c.deref.ensures.value c.are_quiet.ensures))

pub returns-else-is_empty : goal.returns-else-is_empty
returns-else-is_empty g c =
    let P : PartsView → Type 0 = λ p. IsTrue c.is_empty.result ↔ IsQuiet p.view in
    subst P c.self.view_is (quiet-not _ c.is_empty.result c.if-is_empty.false c.is_empty.ensures.lines)
