use Rattle.std.proofs.Common.{◌++◌, ◌+◌, ◌∷◌, ◌∙◌, ℕ, Bool, List, ap, arith, drop, refl, sym}
use Rattle.std.specs.List.{range_with_len}
use Rattle.std.proofs.lemmas.List.FromFn.{length-range_with_len}
use Rattle.litmus_text.proofs.Pieces.{last_piece}
use Rattle.script_page.specs.Core.{replies_of, replies_under, text_of_reply}
use Rattle.litmus_text.specs.JsonList.{with_commas_from}
use Rattle.litmus_text.proofs.Commas.{at_range, next_text, skip_text}
use Rattle.script_page.proofs.Replies.{no_reply}
use Rattle.slice_core_cache.specs.CoreCache.{tag_at}
use Rattle.slice_core_cache.specs.declared.tags.TagState.{TagState}
use Rattle.slice_core_spec.specs.View.{cache_at}
use Rattle.script_page.proofs.core_part.write_replies.Goals as goal

pub loop-tag-preserved-in_default : goal.loop-tag-preserved-in_default
loop-tag-preserved-in_default g c = λ new rest.
    let v = c.args.state.now.view in
    let core = c.args.core in
    let all = λ (first : Bool) (tags : List ℕ). with_commas_from first (replies_of v core tags) in
    let tags = range_with_len 0 64 in
    let tag = c.loop-tag.tag in
    let first = c.loop-tag.is_first in
    let below = c.loop-tag-test.true in
    let none = no_reply tag (tag_at (cache_at v core) tag)
    (λ number is. c.in_default.not-Performed number (c.tag.ensures ∙ is)) in
    c.loop-tag.invariant new
    (skip_text g.W.Write.write_str_gives all first tags tag 0 (omega (arith, length-range_with_len 0 64, below))
    (ap (λ (k : ℕ). all first (k ∷ drop (tag + 1) tags)) (at_range 64 tag (omega (arith, below)))
    ∙ ap (λ (texts : List (List ℕ)). with_commas_from first (texts ++ replies_of v core (drop (tag + 1) tags))) none)
    _ new rest)

pub loop-tag-preserved : goal.loop-tag-preserved
loop-tag-preserved g c = λ new rest.
    let v = c.args.state.now.view in
    let core = c.args.core in
    let all = λ (first : Bool) (tags : List ℕ). with_commas_from first (replies_of v core tags) in
    let tags = range_with_len 0 64 in
    let tag = c.loop-tag.tag in
    let first = c.loop-tag.is_first in
    let below = c.loop-tag-test.true in
    c.loop-tag.invariant new
    (next_text g.W.Write.write_str_gives all first tags tag 0 (text_of_reply tag c.in-Performed.number)
    (omega (arith, length-range_with_len 0 64, below))
    (ap (λ (k : ℕ). all first (k ∷ drop (tag + 1) tags)) (at_range 64 tag (omega (arith, below)))
    ∙ ap (λ (state : TagState). with_commas_from first (replies_under tag state
    ++ replies_of v core (drop (tag + 1) tags))) (sym c.tag.ensures ∙ c.in-Performed.is))
    _ _ _ new c.in_ok-write_comma.ensures c.in_ok-write_reply.ensures rest)

pub returns : goal.returns
returns g c =
    let v = c.args.state.now.view in
    let all = λ (tags : List ℕ). with_commas_from c.loop-tag.is_first (replies_of v c.args.core tags) in
    c.loop-tag.invariant _
    (last_piece g.W.Write.write_str_gives all (range_with_len 0 64) c.loop-tag.tag
    (omega (arith, length-range_with_len 0 64, c.loop-tag-test.false)) refl _)
