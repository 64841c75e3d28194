use Rattle.std.proofs.Common.{◌≡◌, ◌∙◌, sym, ap, length, replicate}
use Rattle.std.proofs.lemmas.List.{length-replicate}
use Rattle.slice_queues.specs.Line.{empty_line}
use Rattle.slice_queues.proofs.RingLaws.{no_mail-replicate}
use Rattle.slice_queues.proofs.queues.Queues.build.Goals as goal

pub invariant_of-result : goal.invariant_of-result
invariant_of-result c =
    let lines : c.in_ok-build.field-0 ≡ replicate c.lines-count.result (empty_line c.args.cores) =
    c.in_ok-build.ensures in
    let count : length c.in_ok-build.field-0 ≡ c.lines-count.result =
    ap length lines ∙ length-replicate c.lines-count.result (empty_line c.args.cores) in
    record {
      machine = c.lines-count.ensures.machine;
      lines_here = sym c.lines-count.ensures.lines ∙ sym count;
      ring_for_all = ap (λ r. r.lines) c.in_ok-build-2.ensures ∙ sym count;
      quiet = λ local apart. rw lines (no_mail-replicate c.lines-count.result c.args.cores local);
    }
