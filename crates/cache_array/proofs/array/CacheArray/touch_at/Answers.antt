use Rattle.std.proofs.Common.{◌∙◌, sym, ap}
use Rattle.cache_array.proofs.Sets.{use_leaves, moved_if}
use Rattle.cache_array.proofs.array.CacheArray.touch_at.Goals as goal

pub invariant_of-self : goal.invariant_of-self
invariant_of-self g c =
    (use_leaves (record { sets = c.self.inside.sets.items.items; policy = c.self.inside.policy })
    c.args.self.now c.args.line
    c.set_index-index.result c.index_mut-set.result.now c.move_to_end.new.self c.self.view_is c.self.invariant
    c.set_index-index.ensures.index c.index_mut-set.ensures.value c.move_to_end.ensures).sound

pub returns-then-moves_on_use-clause-held : goal.returns-then-moves_on_use-clause-held
returns-then-moves_on_use-clause-held g c =
    (use_leaves (record { sets = c.self.inside.sets.items.items; policy = c.self.inside.policy })
    c.args.self.now c.args.line
    c.set_index-index.result c.index_mut-set.result.now c.move_to_end.new.self c.self.view_is c.self.invariant
    c.set_index-index.ensures.index c.index_mut-set.ensures.value c.move_to_end.ensures).held

pub returns-then-moves_on_use-clause-order : goal.returns-then-moves_on_use-clause-order
returns-then-moves_on_use-clause-order g c =
    moved_if _ _ _ _
    (ap (λ (a : _). g.P.Policy.moves a.policy) (sym c.self.view_is) ∙ sym c.moves_on_use.ensures
    ∙ c.if-moves_on_use.true)
    (use_leaves (record { sets = c.self.inside.sets.items.items; policy = c.self.inside.policy })
    c.args.self.now c.args.line
    c.set_index-index.result c.index_mut-set.result.now c.move_to_end.new.self c.self.view_is c.self.invariant
    c.set_index-index.ensures.index c.index_mut-set.ensures.value c.move_to_end.ensures).order
