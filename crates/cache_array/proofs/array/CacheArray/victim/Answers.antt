use Rattle.std.specs.Fn.{FnReturnsAt}
use Rattle.cache_array.proofs.Slots.{asked_as}
use Rattle.cache_array.proofs.Victims.{choice_read, victim_read, victim_some}
use Rattle.cache_array.proofs.array.CacheArray.victim.Goals as goal

pub returns-clause-choice : goal.returns-clause-choice
returns-clause-choice g c =
    λ test answers.
    let says = λ (slot : _) (flag : _). FnReturnsAt g.F.Fn c.args.allowed slot.value flag in
    let asked =
    asked_as _ says (λ slot flag e. record { shown = e.shown; shows = e.shows; says = record { met = e.says.met } })
    c.index.result.now.slots c.victim.ensures.0 c.victim.ensures.1 in
    choice_read (record { sets = c.self.inside.sets.items.items; policy = c.self.inside.policy })
    c.args.self.now c.args.line
    c.set_index.result c.index.result.now (FnReturnsAt g.F.Fn c.args.allowed) test
    (λ policy flags. g.P.Policy.choice policy flags c.args.word) c.victim.ensures.0 c.victim.result c.self.view_is
    c.self.invariant c.set_index.ensures.index c.index.ensures answers asked c.victim.ensures.4

pub returns-clause-victim : goal.returns-clause-victim
returns-clause-victim g c =
    λ test answers.
    let says = λ (slot : _) (flag : _). FnReturnsAt g.F.Fn c.args.allowed slot.value flag in
    let asked =
    asked_as _ says (λ slot flag e. record { shown = e.shown; shows = e.shows; says = record { met = e.says.met } })
    c.index.result.now.slots c.victim.ensures.0 c.victim.ensures.1 in
    victim_read (record { sets = c.self.inside.sets.items.items; policy = c.self.inside.policy })
    c.args.self.now c.args.line
    c.set_index.result c.index.result.now (FnReturnsAt g.F.Fn c.args.allowed) test
    (λ policy flags. g.P.Policy.choice policy flags c.args.word) g.P.Policy.moves g.P.Policy.prefers c.victim.ensures.0
    c.victim.result c.self.view_is c.self.invariant c.set_index.ensures.index c.index.ensures answers asked
    c.victim.ensures.2 c.victim.ensures.3 c.victim.ensures.4

pub returns-clause-some : goal.returns-clause-some
returns-clause-some g c =
    λ test answers.
    let says = λ (slot : _) (flag : _). FnReturnsAt g.F.Fn c.args.allowed slot.value flag in
    let asked =
    asked_as _ says (λ slot flag e. record { shown = e.shown; shows = e.shows; says = record { met = e.says.met } })
    c.index.result.now.slots c.victim.ensures.0 c.victim.ensures.1 in
    victim_some (record { sets = c.self.inside.sets.items.items; policy = c.self.inside.policy })
    c.args.self.now c.args.line
    c.set_index.result c.index.result.now (FnReturnsAt g.F.Fn c.args.allowed) test
    (g.P.Policy.choice c.self.inside.policy c.victim.ensures.0 c.args.word) c.victim.ensures.0 c.victim.result
    c.self.view_is c.self.invariant c.set_index.ensures.index c.index.ensures answers asked c.victim.ensures.2
    c.victim.ensures.4
