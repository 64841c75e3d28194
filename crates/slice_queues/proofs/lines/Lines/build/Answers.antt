use Rattle.std.proofs.Common.{◌≡◌, ◌∙◌, ◌+◌, ◌*◌, ◌++◌, ap, arith, replicate}
use Rattle.std.specs.Prelude.{vec_capacity}
use Rattle.slice_queues.specs.Line.{no_messages}
use Rattle.slice_queues.specs.Runs.{blank_head}
use Rattle.slice_queues.proofs.CountLaws.{IsMailCounted-blank}
use Rattle.slice_queues.proofs.RunsLaws.{lines-blank}
use Rattle.slice_queues.proofs.lines.Lines.build.Goals as goal

pub invariant_of-result : goal.invariant_of-result
invariant_of-result c =
    let all : c.into_boxed_slice.result.items.items ≡ replicate c.args.count blank_head =
    c.into_boxed_slice.ensures.items
    ∙ c.loop-line.invariant
    ∙ ap (λ n. replicate n blank_head) (omega (arith, c.loop-line-test.false)) in
    let blank : c.push_blank.new.cores.items ≡ replicate c.args.width no_messages =
    c.push_blank.ensures.items
    ∙ ap (λ cores. cores ++ replicate c.args.width no_messages) c.in_ok-cores.ensures.items in
    let room : vec_capacity c.push_blank.new.cores ≡ (c.args.count + 1) * c.args.width =
    c.push_blank.ensures.capacity ∙ c.in_ok-cores.ensures.exact in
    let lines = lines-blank c.args.count c.args.width c.requires.cores in
    rw (all, blank, room)
    (lines.runs, rw lines.channels (IsMailCounted-blank c.args.count c.args.width))

pub returns : goal.returns
returns c =
    let all : c.into_boxed_slice.result.items.items ≡ replicate c.args.count blank_head =
    c.into_boxed_slice.ensures.items
    ∙ c.loop-line.invariant
    ∙ ap (λ n. replicate n blank_head) (omega (arith, c.loop-line-test.false)) in
    let blank : c.push_blank.new.cores.items ≡ replicate c.args.width no_messages =
    c.push_blank.ensures.items
    ∙ ap (λ cores. cores ++ replicate c.args.width no_messages) c.in_ok-cores.ensures.items in
    rw (all, blank) (lines-blank c.args.count c.args.width c.requires.cores).channels
