use Rattle.std.proofs.Common.{◌++◌, ◌+◌, ℕ, Bool, List, ap, arith, drop, false, length, refl}
use Rattle.std.specs.List.{range_with_len}
use Rattle.std.proofs.lemmas.List.FromFn.{length-range_with_len}
use Rattle.litmus_text.proofs.Pieces.{last_piece}
use Rattle.litmus_text.specs.JsonList.{before_text, with_commas_from}
use Rattle.program_run.specs.Json.{core_object, objects_of_cores}
use Rattle.program_run.specs.Tally.{counts_at}
use Rattle.program_run.specs.Usage.{usage_at}
use Rattle.litmus_text.proofs.Commas.{at_range, next_text}
use Rattle.program_run.proofs.json.write_cores.Goals as goal

pub loop-core-preserved : goal.loop-core-preserved
loop-core-preserved g c = λ new rest.
    let counts = c.args.cores.now in
    let usages = c.args.usages.now in
    let limited = c.args.is_limited in
    let one = λ (k : ℕ). core_object limited k (counts_at counts k) (usage_at usages k) in
    let all = λ (first : Bool) (cores : List ℕ). with_commas_from first (objects_of_cores limited counts usages cores) in
    let cores = range_with_len 0 (length counts) in
    let core = c.loop-core.core in
    let first = c.loop-core.is_first in
    let long = length-range_with_len 0 (length counts) in
    let below = c.loop-core-test.true in
    c.loop-core.invariant new
    (next_text g.W.Write.write_str_gives all first cores core 0 (one core)
    (omega (arith, long, below))
    (ap (λ (k : ℕ). (before_text first ++ one k) ++ all false (drop (core + 1) cores))
    (at_range (length counts) core below))
    _ _ _ new c.in_ok-write_comma.ensures (rw c.usage_at.ensures at c.in_ok-write_core.ensures) rest)

pub returns : goal.returns
returns g c =
    let counts = c.args.cores.now in
    let all = λ (cores : List ℕ). with_commas_from c.loop-core.is_first
    (objects_of_cores c.args.is_limited counts c.args.usages.now cores) in
    let long = length-range_with_len 0 (length counts) in
    let end = c.loop-core-test.false in
    c.loop-core.invariant _
    (last_piece g.W.Write.write_str_gives all (range_with_len 0 (length counts)) c.loop-core.core
    (omega (arith, long, end)) refl _)
