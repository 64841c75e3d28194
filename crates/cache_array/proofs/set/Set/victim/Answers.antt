-- The flags are the answers about the slots, and the place that the policy chose is one of a slot.
use Rattle.std.proofs.Common.{◌∙◌, ◌<◌, sym, subst, arith, ap, length, IfSome}
use Rattle.std.specs.List.{AllZip}
use Rattle.std.specs.Fn.{FnReturnsAt}
use Rattle.cache_array.specs.Policy.{IsAllowed, IsPreferred}
use Rattle.cache_array.specs.Victim.{line_in}
use Rattle.cache_array.proofs.Slots.{choice_within, line_at, asked_as}
use Rattle.cache_array.proofs.set.Set.victim.Goals as goal

pub index-requires : goal.index-requires
index-requires g c =
    let allowed = subst (λ flags. IsAllowed flags c.choose.result) c.deref-2.ensures.0 c.choose.ensures.allowed in
    let within =
    choice_within _ c.deref.result.now c.flags_of-flags.result.items c.choose.result c.in-Some.way
    c.flags_of-flags.ensures allowed c.in-Some.is in
    omega (arith, within, ap length c.deref.ensures.value, c.self.inside.slots.ok.0)

pub returns : goal.returns
returns g c =
    let says = λ (slot : _) (flag : _). FnReturnsAt g.F.Fn c.args.allowed slot.value flag in
    let flags = c.deref-2.result.now in
    let choice = c.choose.ensures.choice in
    let slots = ap (λ (s : _). s.slots) c.self.view_is in
    let asked =
    asked_as _ says (λ x y e. record { shown = e.shown; shows = e.shows; says = record { met = e.says.met } })
    c.deref.result.now c.flags_of-flags.result.items c.flags_of-flags.ensures in
    let within : c.in-Some.way < length c.self.inside.slots.items =
    omega (
      arith,
      choice_within _ c.deref.result.now c.flags_of-flags.result.items c.choose.result c.in-Some.way
          c.flags_of-flags.ensures
          (subst (λ fs. IsAllowed fs c.choose.result) c.deref-2.ensures.0 c.choose.ensures.allowed)
          c.in-Some.is,
      ap length c.deref.ensures.value,
    ) in (
      flags,
      subst (λ all. AllZip says all flags) (c.deref.ensures.value ∙ slots)
          (subst (AllZip says c.deref.result.now) (sym c.deref-2.ensures.0) asked),
      subst (IsAllowed flags) choice c.choose.ensures.allowed,
      subst (λ chosen.
          IfSome chosen (IsPreferred (g.P.Policy.moves c.args.policy.now) (g.P.Policy.prefers c.args.policy.now) flags))
          choice c.choose.ensures.preferred,
      line_at c.self.inside.slots.items c.args.self.now.slots _ c.in-Some.way c.index.result.now slots within
          (sym choice ∙ c.in-Some.is) c.index.ensures,
    )

pub returns-in_default : goal.returns-in_default
returns-in_default g c =
    let says = λ (slot : _) (flag : _). FnReturnsAt g.F.Fn c.args.allowed slot.value flag in
    let flags = c.deref-2.result.now in
    let choice = c.choose.ensures.choice in
    let slots = ap (λ (s : _). s.slots) c.self.view_is in
    let asked =
    asked_as _ says (λ x y e. record { shown = e.shown; shows = e.shows; says = record { met = e.says.met } })
    c.deref.result.now c.flags_of-flags.result.items c.flags_of-flags.ensures in (
      flags,
      subst (λ all. AllZip says all flags) (c.deref.ensures.value ∙ slots)
          (subst (AllZip says c.deref.result.now) (sym c.deref-2.ensures.0) asked),
      subst (IsAllowed flags) choice c.choose.ensures.allowed,
      subst (λ chosen.
          IfSome chosen (IsPreferred (g.P.Policy.moves c.args.policy.now) (g.P.Policy.prefers c.args.policy.now) flags))
          choice c.choose.ensures.preferred,
      ap (line_in c.args.self.now.slots) (sym c.in_default.is ∙ choice),
    )
