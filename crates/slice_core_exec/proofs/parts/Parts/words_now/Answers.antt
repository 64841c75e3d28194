use Rattle.std.proofs.Common.{arith, sym}
use Rattle.std.proofs.lemmas.List.FromFn.{map-range_with_len_more}
use Rattle.slice_core_exec.specs.NewLog.{word_of}
use Rattle.slice_core_exec.proofs.parts.Parts.words_now.Goals as goal

pub loop-place-preserved : goal.loop-place-preserved
loop-place-preserved g c =
    rw (c.in_ok-push.ensures.items, c.word_of.ensures, c.loop-place.invariant)
    (sym (map-range_with_len_more (word_of c.args.self.now.view) 0 c.loop-place.place c.loop-place.place (omega arith)))
