use Rattle.std.proofs.Common.{◌+◌, drop, sym, ◌∙◌}
use Rattle.std.proofs.lemmas.List.{at_drop_more}
use Rattle.litmus_text.proofs.Pieces.{next_piece}
use Rattle.litmus_threads.proofs.Lines.{counters-more, counters-same}
use Rattle.litmus_threads.specs.Trace.{text_of_counters}
use Rattle.litmus_threads.proofs.notes.write_counters.Goals as goal
use Rattle.litmus_threads.proofs.notes.write_counters.Goals.{else-is_of_slice, then-is_of_slice+in_ok-write_counter}

pub loop-counter-preserved : goal.loop-counter-preserved
loop-counter-preserved g c = λ new rest.
    let took = g.W.Write.write_str_gives in
    let config = c.args.config.now in
    let log = c.args.log.now in
    let counters = c.args.counters.now in
    let i = c.loop-counter.counter-index in
    let text_of = text_of_counters config c.args.slice.0 log in
    let inside = c.loop-counter-test.true in
    c.loop-counter.invariant new (elim c.if-is_of_slice.branch [
      | then-is_of_slice+in_ok-write_counter w ↦
          next_piece took text_of counters i _ _ inside
          (counters-more config c.args.slice.0 log _ (drop (i + 1) counters)
          (sym c.is_of_slice.ensures ∙ w.if-is_of_slice.true))
          _ _ new w.in_ok-write_counter.ensures (rw w.out-is at rest)
      | else-is_of_slice w ↦
          rw (at_drop_more text_of counters i _ inside
          ∙ counters-same config c.args.slice.0 log _ (drop (i + 1) counters)
          (sym c.is_of_slice.ensures ∙ w.if-is_of_slice.false))
          (rw w.out-is at rest)
    ])
