use Rattle.std.proofs.Common.{rules, ◌≡◌, ap, ◌∙◌}
use Rattle.slice_core_cache.specs.Copy.{may_leave}
use Rattle.slice_core_cache.specs.Access.{has_victim}
use Rattle.slice_core_cache.specs.CoreCache.{CoreCacheView}
use Rattle.slice_core_cache.specs.declared.copy.CacheCopy.{CacheCopy}
use Rattle.slice_core_cache.proofs.core_cache.CoreCache.has_victim.Goals as goal

pub returns : goal.returns
returns g c =
    c.has_victim.ensures.some (λ copy. may_leave copy.state)
    (λ value answer says.
    let shown : answer ≡ may_leave says.shown.now.state = let met = says.says.met in search rules in
    shown ∙ ap (λ (copy : CacheCopy). may_leave copy.state) says.shows)
    ∙ ap (λ (cache : CoreCacheView). has_victim cache c.args.local) c.self.view_is
