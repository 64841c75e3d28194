use Rattle.std.proofs.Common.{◌≡◌, map, take}
use Rattle.lockup_c.specs.Made.{word_of}
use Rattle.lockup_c.proofs.made.counter_words.Given as goal

abbrev pub invariant-loop-word : goal.invariant-loop-word
invariant-loop-word l = l.words ≡ map word_of (take l.word-index l.fn.counters)
