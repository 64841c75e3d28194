use Rattle.std.proofs.Common.{◌≡◌, ◌∙◌, Option, false, refl, rules, subst, sym}
use Rattle.program_sweep.specs.declared.setting.Setting.{Setting}
use Rattle.program_sweep.specs.Text.{IsBoundBy, bounds}
use Rattle.program_sweep.proofs.TextLemmas.{last_bound, next_bound}
use Rattle.program_sweep.proofs.sweep.bound_in.Goals as goal

pub loop-setting-preserved : goal.loop-setting-preserved
loop-setting-preserved c =
    let other : bounds c.args.bound c.setting-item.result.name.now ≡ false = search rules in
    sym (next_bound c.args.bound c.args.settings.now c.loop-setting.setting-index c.setting-item.result
    c.loop-setting-test.true c.setting-item.is other)
    ∙ c.loop-setting.invariant

pub returns : goal.returns
returns c =
    subst (λ (o : Option Setting). IsBoundBy o c.args.given c.args.row c.args.given)
    (sym (last_bound c.args.bound c.args.settings.now c.loop-setting.setting-index c.loop-setting-test.false)
    ∙ c.loop-setting.invariant) refl
