use Rattle.std.proofs.Common.{◌≡◌, map, take}
use Rattle.slice_core_cache.proofs.core_cache.look.lines_of_write_backs.Given as goal

-- those so far
abbrev pub invariant-loop-write_back : goal.invariant-loop-write_back
invariant-loop-write_back l = l.lines.items
    ≡ map (λ write_back. write_back.line) (take l.write_back-index l.write_backs)
