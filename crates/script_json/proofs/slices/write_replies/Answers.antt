use Rattle.std.proofs.Common.{◌*◌, ◌/◌, ◌%◌, ◌∙◌, ap, arith, sym}
use Rattle.script_json.proofs.Numbered.{none_at, none_behind, one_at}
use Rattle.script_json.proofs.SliceLemmas.{no_reply}
use Rattle.script_json.specs.Slices.{reply_at, reply_under, text_of_reply}
use Rattle.slice_core_cache.specs.CoreCache.{tag_at}
use Rattle.slice_core_cache.specs.declared.tags.TagState.{TagState}
use Rattle.slice_core_spec.specs.View.{cache_at}
use Rattle.script_json.proofs.slices.write_replies.Goals as goal

pub loop-place-preserved-in_default : goal.loop-place-preserved-in_default
loop-place-preserved-in_default g c = λ new rest.
    let v = c.args.state.now.view in
    let place = c.loop-place.place in
    c.loop-place.invariant new
    (none_at g.W.Write.write_str_gives (reply_at v) c.loop-place.is_first (64 * c.args.cores) place
    (omega (arith, c.loop-place-test.true))
    (no_reply (place / 64) (place % 64) (tag_at (cache_at v (record { 0 = place / 64 })) (place % 64))
    (λ number is. c.in_default.not-Performed number (c.tag.ensures ∙ is)))
    _ new rest)

pub loop-place-preserved : goal.loop-place-preserved
loop-place-preserved g c = λ new rest.
    let v = c.args.state.now.view in
    let place = c.loop-place.place in
    c.loop-place.invariant new
    (one_at g.W.Write.write_str_gives (reply_at v) c.loop-place.is_first (64 * c.args.cores) place
    (text_of_reply (place / 64) (place % 64) c.in-Performed.number) (omega (arith, c.loop-place-test.true))
    (ap (λ (state : TagState). reply_under (place / 64) (place % 64) state) (sym c.tag.ensures ∙ c.in-Performed.is))
    _ _ _ new c.in_ok-write_comma.ensures c.in_ok-write_reply.ensures rest)

pub returns : goal.returns
returns g c =
    let v = c.args.state.now.view in
    c.loop-place.invariant _
    (none_behind g.W.Write.write_str_gives (reply_at v) c.loop-place.is_first (64 * c.args.cores) c.loop-place.place
    (omega (arith, c.loop-place-test.false)) _)
