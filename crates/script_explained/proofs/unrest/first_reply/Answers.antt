use Rattle.std.proofs.Common.{◌∙◌, ap, arith, length, rules, sym}
use Rattle.std.specs.Prelude.{slice_get}
use Rattle.script_explained.proofs.UnrestLemmas.{here_first, none_here, none_left}
use Rattle.script_explained.specs.Unrest.{replies_of}
use Rattle.script_explained.proofs.unrest.first_reply.Goals as goal

pub returns-then-is_some : goal.returns-then-is_some
returns-then-is_some c =
    let v = c.args.state.now.view in
    let cores = length v.caches in
    c.first_reply_of-reply.ensures
    ∙ here_first (λ core. replies_of v (record { 0 = core })) c.loop-core.core cores
    (omega (arith, c.loop-core-test.true, c.loop-core.auto.core-end, c.cores-core-end.ensures.cores, c.requires))
    (search rules)
    ∙ ap (λ all. slice_get all 0) c.loop-core.invariant

pub loop-core-preserved : goal.loop-core-preserved
loop-core-preserved c =
    let v = c.args.state.now.view in
    let cores = length v.caches in
    sym (none_here (λ core. replies_of v (record { 0 = core })) c.loop-core.core cores
    (omega (arith, c.loop-core-test.true, c.loop-core.auto.core-end, c.cores-core-end.ensures.cores, c.requires))
    (search rules))
    ∙ c.loop-core.invariant

pub returns : goal.returns
returns c =
    let v = c.args.state.now.view in
    let cores = length v.caches in
    sym (none_left (λ core. replies_of v (record { 0 = core })) c.loop-core.core cores
    (omega (arith, c.loop-core-test.false, c.loop-core.auto.core-end, c.cores-core-end.ensures.cores, c.requires)))
    ∙ ap (λ all. slice_get all 0) c.loop-core.invariant
