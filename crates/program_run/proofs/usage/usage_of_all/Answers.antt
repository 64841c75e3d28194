use Rattle.std.proofs.Common.{◌+◌, ◌∙◌, ap, drop, sym}
use Rattle.std.proofs.lemmas.List.{at_drop_all, at_drop_more}
use Rattle.program_run.specs.Usage.{usage_of_all}
use Rattle.program_run.specs.declared.usage.Usage.{Usage}
use Rattle.program_run.proofs.usage.usage_of_all.Goals as goal

pub loop-usage-preserved : goal.loop-usage-preserved
loop-usage-preserved c =
    let left = drop (c.loop-usage.usage-index + 1) c.args.usages.now in
    ap (λ (all : Usage). usage_of_all all left) c.with-all.ensures
    ∙ sym (at_drop_more (usage_of_all c.loop-usage.all) c.args.usages.now c.loop-usage.usage-index _
    c.loop-usage-test.true)
    ∙ c.loop-usage.invariant

pub returns : goal.returns
returns c =
    sym (at_drop_all (usage_of_all c.loop-usage.all) c.args.usages.now c.loop-usage.usage-index
    c.loop-usage-test.false)
    ∙ c.loop-usage.invariant
