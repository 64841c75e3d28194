use Rattle.std.proofs.Common.{◌≡◌, ◌≤◌, ◌<◌, ◌∙◌, [], ◌∷◌, ap, arith, get_or, length, refl, rules, subst, sym, List, ℕ}
use Rattle.std.proofs.Math.ListN.{set, length-set}
use Rattle.std.proofs.lemmas.List.{get_or-set_same, set-get_or, set-set}
use Rattle.address_map.specs.CoreSet.{members}
use Rattle.slice_queues.specs.Line.{LineChannels, empty_line}
use Rattle.slice_queues.proofs.InvalidateLaws.{EachTakes, EachTakes-members, after_each, after_each-members, after_one}
use Rattle.slice_queues.proofs.RunsLaws.{few-cores}
use Rattle.slice_queues.proofs.lines.Lines.invalidate.Goals as goal

pub loop-core-init : goal.loop-core-init
loop-core-init c = (
  refl,
  EachTakes-members c.args.cores c.args.requester (get_or c.args.self.now c.args.local.0 (empty_line 0))
      c.requires.takes,
  sym (set-get_or c.args.self.now c.args.local.0 (empty_line 0)),
)

pub loop-core-preserved : goal.loop-core-preserved
loop-core-preserved c =
    let local = c.args.local.0 in
    let line = get_or c.loop-core.self local (empty_line 0) in
    let there : local < length c.loop-core.self =
    omega (arith, ap (λ ls. length ls) c.loop-core.invariant.2, length-set c.args.self.now local line, c.requires.line)
    in
    let next : get_or c.send.new.self local (empty_line 0) ≡ after_one c.args.requester line c.in-Some.core.0 =
    ap (λ ls. get_or ls local (empty_line 0)) c.send.ensures.after
    ∙ get_or-set_same c.loop-core.self local _ (empty_line 0) there in
    let names : members c.loop-core.left ≡ c.in-Some.core.0 ∷ members c.pop_first.new.self = search rules in
    let same = subst
    (λ (cores : List ℕ). after_each c.args.requester cores line
    ≡ after_each c.args.requester (members c.args.cores) (get_or c.args.self.now local (empty_line 0)))
    names c.loop-core.invariant.0 in
    let takes = subst (λ (cores : List ℕ). EachTakes c.args.requester cores line) names c.loop-core.invariant.1 in (
      ap (after_each c.args.requester (members c.pop_first.new.self)) next ∙ same,
      subst (λ (l : LineChannels). EachTakes c.args.requester (members c.pop_first.new.self) l) (sym next) takes.1,
      c.send.ensures.after
          ∙ ap (λ ls. set ls local (after_one c.args.requester line c.in-Some.core.0)) c.loop-core.invariant.2
          ∙ set-set c.args.self.now local line _
          ∙ ap (set c.args.self.now local) (sym next),
    )

pub returns : goal.returns
returns c =
    let local = c.args.local.0 in
    let few : length (get_or c.args.self.now local (empty_line 0)).cores ≤ 64 =
    few-cores c.self.inside.heads.items.items c.self.inside.cores.items _ _ local c.args.self.now c.self.view_is
    c.self.invariant.0 in
    let none : members c.loop-core.left ≡ [] = (c.pop_first.ensures.none c.in_default.is).0 in
    c.loop-core.invariant.2
    ∙ ap (set c.args.self.now local)
    (rw none at c.loop-core.invariant.0
    ∙ after_each-members c.args.cores c.args.requester (get_or c.args.self.now local (empty_line 0)) few)
