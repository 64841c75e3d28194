use Rattle.std.proofs.Common.{◌≡◌, ◌∙◌, ℕ, ◌-◌, ◌^◌, List, ap, arith, replicate, subst, sym}
use Rattle.address_map.specs.declared.config.Config.{Config}
use Rattle.rand_xoshiro.specs.SplitMix64.{splitmix_seed}
use Rattle.rand_xoshiro.specs.Xoshiro256.{of_seed}
use Rattle.program_run.specs.Kept.{Knows}
use Rattle.program_run.specs.Run.{Leads, RunnerView, nothing_owed}
use Rattle.program_run.proofs.RunLemmas.{HasMade, made_more, made_none, run_cut, run_ended}
use Rattle.program_run.proofs.run.run.Goals as goal

pub loop-made-init : goal.loop-made-init
loop-made-init g c =
    let config = c.args.runner.now.config in
    let programs = c.args.programs.now in
    let first = of_seed (splitmix_seed 32 c.args.seed) in
    let owed : c.in_ok-owed.owed.items ≡ nothing_owed programs =
    c.in_ok-owed.ensures ∙ ap (λ n. replicate n 0) c.slices-2.ensures.slices in
    let made : Leads (HasMade config programs first c.seed_from_u64-generator.result 0 (nothing_owed programs))
    c.args.runner.now c.args.runner.now =
    rw c.seed_from_u64-generator.ensures (made_none config programs first c.args.runner.now) in (
      subst (λ (o : List ℕ). Leads (HasMade config programs first c.seed_from_u64-generator.result 0 o)
          c.args.runner.now c.args.runner.now) (sym owed) made,
      c.in_ok-kept.ensures config c.args.runner.now.slices,
    )

pub list_moves-requires : goal.list_moves-requires
list_moves-requires g c =
    subst (λ (config : Config). Knows config c.loop-made.runner.slices c.loop-made.kept)
    (sym c.loop-made.invariant.0.config) c.loop-made.invariant.1

pub tidy-requires : goal.tidy-requires
tidy-requires g c =
    rw c.measure.ensures
    (subst (λ (config : Config). Knows config c.go.new.self.slices c.go.new.kept)
    (sym c.in_ok-go.ensures.leads.config) c.in_ok-go.ensures.kept)

pub loop-made-preserved : goal.loop-made-preserved
loop-made-preserved g c =
    let listed = rw c.as_slice.ensures.value at c.in_ok-list_moves.ensures.moves in
    let draws = rw (c.as_slice-in-loop-made.ensures.value, listed) at c.in-Some.ensures.some in
    let tidied = rw c.measure.ensures at c.tidy.ensures.tidied in
    let config = ap (λ (runner : RunnerView). runner.config) c.measure.ensures ∙ c.in_ok-go.ensures.leads.config
    ∙ c.loop-made.invariant.0.config in (
      rw (c.tidy.ensures.rest, c.measure.ensures, c.is_measured.ensures)
          (made_more c.args.programs.now _ c.loop-made.generator _ c.loop-made.made c.loop-made.owed.items
          c.owe.new.owed.items c.args.runner.now c.loop-made.runner c.go.new.self c.in-Some.to c.tidy.new.self.slices
          c.loop-made.invariant.0 draws c.in-Some.ensures.next c.owe.ensures c.in_ok-go.ensures.leads tidied),
      subst (λ (config : Config). Knows config c.tidy.new.self.slices c.tidy.new.kept) config c.tidy.ensures.kept,
    )

pub returns-in_default : goal.returns-in_default
returns-in_default g c =
    let listed = rw c.as_slice.ensures.value at c.in_ok-list_moves.ensures.moves in
    let none = rw (c.as_slice-in-loop-made.ensures.value, listed) at c.in_default.ensures.none in
    run_ended c.args.programs.now c.args.seed c.loop-made.made c.loop-made.generator c.loop-made.owed.items
    c.args.runner.now c.loop-made.runner c.loop-made.invariant.0 none

pub returns : goal.returns
returns g c =
    let most : c.loop-made.made ≡ 2 ^ 64 - 1 = omega (arith, c.loop-made.auto.made-end, c.loop-made-test.false) in
    run_cut c.args.programs.now c.args.seed c.loop-made.made c.loop-made.generator c.loop-made.owed.items
    c.args.runner.now c.loop-made.runner c.loop-made.invariant.0 most
