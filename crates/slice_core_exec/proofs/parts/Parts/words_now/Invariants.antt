use Rattle.std.proofs.Common.{◌≡◌, map}
use Rattle.std.specs.List.{range_with_len}
use Rattle.slice_core_exec.specs.NewLog.{word_of}
use Rattle.slice_core_exec.proofs.parts.Parts.words_now.Given as goal

abbrev pub invariant-loop-place : goal.invariant-loop-place
invariant-loop-place g l = l.words.items ≡ map (word_of l.self.view) (range_with_len 0 l.place)
