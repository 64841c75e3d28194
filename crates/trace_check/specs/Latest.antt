-- The greatest seqs by line and core.
use Rattle.std.specs.Prelude.{ℕ, List, [], slice_get, slice_index_or, Option, Some, None, Vec}
use Rattle.std.specs.declared.alloc.Global.{Global}
use Rattle.trace_check.specs.declared.latest.LatestSeqs.{LatestSeqs}

-- what is kept for the cores of a line that may have been named
abbrev pub of_line : Option (Vec (Option ℕ) Global) → List (Option ℕ)
of_line None = []
of_line (Some cores) = cores.items

-- what is kept for a line and a core
abbrev pub latest_of : LatestSeqs → ℕ → ℕ → Option ℕ
latest_of seqs line core = slice_index_or (of_line (slice_get seqs.lines.items line)) core None
