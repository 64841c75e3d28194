use Rattle.std.proofs.Common.{◌≡◌, ◌+◌, ◌∙◌, refl, subst, arith}
use Rattle.std.specs.List.{range_with_len}
use Rattle.program_run.specs.Tidy.{TidiesAll}
use Rattle.program_run.proofs.TidyLemmas.{tidies_one}
use Rattle.program_run.proofs.tidy.tidy_all.Goals as goal

pub loop-slice-init : goal.loop-slice-init
loop-slice-init c = (
  refl,
  λ end left all tidies.
      let same : left ≡ c.args.machine.now.config.slices = omega (arith, all) in
      subst (λ count. TidiesAll (range_with_len 0 count) c.args.machine.now.slices.items end) same tidies,
)

pub loop-slice-preserved : goal.loop-slice-preserved
loop-slice-preserved c = (
  c.tidy_slice.ensures.config ∙ c.loop-slice.invariant.0,
  tidies_one c.loop-slice.slice c.args.machine.now.config.slices c.args.machine.now.slices.items
      c.loop-slice.machine.slices.items c.tidy_slice.new.machine.slices.items c.loop-slice.invariant.1
      c.tidy_slice.ensures.tidied,
)

pub returns-clause-tidied : goal.returns-clause-tidied
returns-clause-tidied c =
    let all : c.loop-slice.slice + 0 ≡ c.args.machine.now.config.slices =
    omega (arith, c.loop-slice-test.false, c.slices-slice-end.ensures.slices, c.loop-slice.auto.slice-end) in
    c.loop-slice.invariant.1 c.loop-slice.machine.slices.items 0 all refl
