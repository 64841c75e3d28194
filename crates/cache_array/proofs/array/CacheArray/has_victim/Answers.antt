use Rattle.std.proofs.Common.{subst, sym, ◌∙◌}
use Rattle.cache_array.specs.Array.{IsArray}
use Rattle.cache_array.proofs.Victims.{some_read, none_may_go}
use Rattle.cache_array.proofs.array.CacheArray.has_victim.Goals as goal

pub returns-clause-some : goal.returns-clause-some
returns-clause-some g c =
    λ test answers.
    some_read (record { sets = c.self.inside.sets.items.items; policy = c.self.inside.policy })
    c.args.self.now c.args.line
    c.set_index.result c.index.result.now test c.has_victim.result c.self.view_is c.self.invariant
    c.set_index.ensures.index c.index.ensures (c.has_victim.ensures test answers)

pub returns-clause-none : goal.returns-clause-none
returns-clause-none g c =
    λ test answers.
    let some = returns-clause-some g c test answers in
    let none = none_may_go c.args.self.now c.args.line test (subst IsArray c.self.view_is c.self.invariant) in
    ((λ e. none.0 (sym some ∙ e)), (λ no_line. some ∙ none.1 no_line))
