use Rattle.std.proofs.Common.{◌≡◌, ◌^◌, ◌<◌, ℕ, get_or, length}
use Rattle.address_map.specs.Locator.{word_at}
use Rattle.address_map.specs.Words.{initial_value}
use Rattle.slice_core_exec.proofs.parts.build.initial_block.Given as goal

abbrev pub invariant-loop-offset : goal.invariant-loop-offset
invariant-loop-offset l =
    record {
      size : length l.words ≡ 8;
      so_far : (k : ℕ) → k < l.offset →
          get_or l.words k 0 ≡ initial_value l.config.init (word_at l.lines l.local (record { 0 = k }));
      fits : (k : ℕ) → k < l.offset → get_or l.words k 0 < 2 ^ 64;
    }
