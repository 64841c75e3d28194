use Rattle.std.proofs.Common.{rules, ◌≡◌, ap, ◌∙◌, subst, true, IfSome, IsSomeAnd}
use Rattle.cache_array.specs.Array.{held_at as array_at}
use Rattle.cache_array.specs.Victim.{ShareSet}
use Rattle.slice_core_cache.specs.Copy.{may_leave}
use Rattle.slice_core_cache.specs.Access.{has_victim}
use Rattle.slice_core_cache.specs.CoreCache.{CoreCacheView}
use Rattle.slice_core_cache.specs.declared.copy.CacheCopy.{CacheCopy}
use Rattle.slice_core_cache.proofs.Places.{victim_goes, victim_shares}
use Rattle.slice_core_cache.proofs.core_cache.CoreCache.victim.Goals as goal

pub returns-clause-some : goal.returns-clause-some
returns-clause-some g c =
    c.victim.ensures.some (λ copy. may_leave copy.state)
    (λ value answer says.
    let shown : answer ≡ may_leave says.shown.now.state = let met = says.says.met in search rules in
    shown ∙ ap (λ (copy : CacheCopy). may_leave copy.state) says.shows)
    ∙ ap (λ (cache : CoreCacheView). has_victim cache c.args.local) c.self.view_is

pub returns-clause-goes : goal.returns-clause-goes
returns-clause-goes g c =
    let test = λ (copy : CacheCopy). may_leave copy.state in
    subst (λ (cache : CoreCacheView). IfSome c.victim.result (λ victim. IsSomeAnd (array_at cache.array victim)
    (λ copy. test copy ≡ true)))
    c.self.view_is
    (victim_goes c.self.inside.array c.args.local test _ _ c.victim.result
    (c.victim.ensures.victim test
    (λ value answer says.
    let shown : answer ≡ may_leave says.shown.now.state = let met = says.says.met in search rules in
    shown ∙ ap (λ (copy : CacheCopy). may_leave copy.state) says.shows)))

pub returns-clause-set : goal.returns-clause-set
returns-clause-set g c =
    let test = λ (copy : CacheCopy). may_leave copy.state in
    subst (λ (cache : CoreCacheView). IfSome c.victim.result (λ victim. ShareSet cache.array c.args.local victim))
    c.self.view_is
    (victim_shares c.self.inside.array c.args.local test _ _ c.victim.result
    (c.victim.ensures.victim test
    (λ value answer says.
    let shown : answer ≡ may_leave says.shown.now.state = let met = says.says.met in search rules in
    shown ∙ ap (λ (copy : CacheCopy). may_leave copy.state) says.shows)))
