use Rattle.std.proofs.Common.{ap, sym, ◌∙◌}
use Rattle.mshr_file.specs.Waiting.{with_line}
use Rattle.mshr_file.proofs.LinesWaited.{lines_from_all, lines_from_more, lines_from_none}
use Rattle.mshr_file.proofs.entry_table.lines_from.Goals as goal

pub loop-seen-init : goal.loop-seen-init
loop-seen-init c = c.new-lines.ensures.items ∙ lines_from_none c.args.slots.now

pub loop-seen-preserved : goal.loop-seen-preserved
loop-seen-preserved c =
    c.in_ok-note_line.ensures ∙ ap (with_line _) c.loop-seen.invariant
    ∙ sym (lines_from_more c.args.slots.now c.loop-seen.seen _ c.loop-seen-test.true)

pub returns : goal.returns
returns c = c.loop-seen.invariant ∙ lines_from_all c.args.slots.now c.loop-seen.seen c.loop-seen-test.false
