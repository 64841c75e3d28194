use Rattle.std.proofs.Common.{◌+◌}
use Rattle.std.proofs.KnownBytes.{Appends-nil, Appends-trans}
use Rattle.std.specs.List.{flat_map}
use Rattle.litmus_threads.proofs.Lines.{all_numbers, last_number, next_number, numbers_from}
use Rattle.litmus.specs.Traces.{text_of_slice}
use Rattle.litmus.proofs.traces.write_logs.Goals as goal

pub loop-slice-init : goal.loop-slice-init
loop-slice-init g c = record { written = λ after rest. rw (all_numbers c.args.machine.now.config.slices) at rest }

pub write_log-requires : goal.write_log-requires
write_log-requires g c = rw c.slices-slice-end.ensures.slices at c.loop-slice-test.true

pub loop-slice-preserved : goal.loop-slice-preserved
loop-slice-preserved g c =
    let config = c.args.machine.now.config in
    let text_of = text_of_slice config c.args.machine.now.slices.items in
    let i = c.loop-slice.slice in
    record {
      written = λ after rest.
          c.loop-slice.invariant.written after
          (rw (next_number text_of i config.slices
          (rw c.slices-slice-end.ensures.slices at c.loop-slice-test.true))
          (Appends-trans _ _ after (text_of i) (flat_map text_of (numbers_from (i + 1) config.slices))
          c.in_ok-write_log.ensures.written rest));
    }

pub returns-clause-written : goal.returns-clause-written
returns-clause-written g c =
    let config = c.args.machine.now.config in
    let text_of = text_of_slice config c.args.machine.now.slices.items in
    let i = c.loop-slice.slice in
    c.loop-slice.invariant.written _
    (rw (last_number text_of i config.slices
    (rw c.slices-slice-end.ensures.slices at c.loop-slice-test.false)) (Appends-nil _))
