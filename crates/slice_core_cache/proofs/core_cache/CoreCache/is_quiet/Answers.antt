use Rattle.std.proofs.Common.{◌↔◌, ◌∙◌, subst, sym, eqb-true}
use Rattle.std.specs.Prelude.{IsTrue}
use Rattle.slice_core_cache.specs.CoreCache.{CoreCacheView, IsCoreCacheQuiet}
use Rattle.slice_core_cache.proofs.Quiet.{quiet_by_tags}
use Rattle.slice_core_cache.proofs.core_cache.CoreCache.is_quiet.Goals as goal
use Rattle.slice_core_cache.proofs.core_cache.CoreCache.is_quiet.Goals.{then-registers-eq0, else-registers-eq0}

pub returns-then-is_empty : goal.returns-then-is_empty
returns-then-is_empty g c =
    elim c.if-registers-eq0.branch [
      | then-registers-eq0 w ↦
          subst (λ (cache : CoreCacheView). IsTrue c.has_no_reply.result ↔ IsCoreCacheQuiet cache) c.self.view_is
          (quiet_by_tags _ c.has_no_reply.result (sym c.registers.ensures ∙ w.if-registers-eq0.true)
          (w.is_empty.ensures.empty.0 (sym w.value-is ∙ c.if-is_empty.true)) c.has_no_reply.ensures)
      | else-registers-eq0 w ↦
          let none = eqb-true c.registers.result 0 (sym w.value-is ∙ c.if-is_empty.true) in
          absurd (w.if-registers-eq0.false none)
    ]
