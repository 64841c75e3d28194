use Rattle.std.proofs.Common.{◌∙◌, ap, arith, rules, sym}
use Rattle.std.specs.Prelude.{slice_get}
use Rattle.script_explained.proofs.UnrestLemmas.{here, not_here, nothing_left}
use Rattle.script_explained.specs.declared.unrest.Unrest.TheVariants as unrests
use Rattle.slice_core_spec.specs.View.{cache_at}
use Rattle.slice_core_cache.specs.CoreCache.{tag_at}
use Rattle.slice_core_cache.specs.Tags.{is_performed}
use Rattle.script_explained.proofs.unrest.first_reply_of.Goals as goal

pub returns-in-Performed : goal.returns-in-Performed
returns-in-Performed c =
    let v = c.args.state.now.view in
    sym (here (λ tag. unrests.Reply c.args.core tag)
    (λ tag. is_performed (tag_at (cache_at v c.args.core) tag)) c.loop-tag.tag 64
    (omega (arith, c.loop-tag-test.true)) (search rules))
    ∙ ap (λ all. slice_get all 0) c.loop-tag.invariant

pub loop-tag-preserved : goal.loop-tag-preserved
loop-tag-preserved c =
    let v = c.args.state.now.view in
    sym (not_here (λ tag. unrests.Reply c.args.core tag)
    (λ tag. is_performed (tag_at (cache_at v c.args.core) tag)) c.loop-tag.tag 64
    (omega (arith, c.loop-tag-test.true)) (search rules))
    ∙ c.loop-tag.invariant

pub returns : goal.returns
returns c =
    let v = c.args.state.now.view in
    sym (nothing_left (λ tag. unrests.Reply c.args.core tag)
    (λ tag. is_performed (tag_at (cache_at v c.args.core) tag)) c.loop-tag.tag 64
    (omega (arith, c.loop-tag-test.false)))
    ∙ ap (λ all. slice_get all 0) c.loop-tag.invariant
