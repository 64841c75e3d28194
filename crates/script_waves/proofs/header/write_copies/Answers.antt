use Rattle.std.proofs.Common.{◌≡◌, ℕ, ◌+◌, List, ◌++◌, get_or, drop, refl, ap, arith}
use Rattle.std.proofs.lemmas.List.FromFn.{length-range_with_len, get_or-range_with_len}
use Rattle.std.specs.List.{flat_map, range_with_len}
use Rattle.litmus_text.proofs.Pieces.{next_piece, last_piece}
use Rattle.script_waves.specs.Signals.{text_of_signal}
use Rattle.script_waves.specs.declared.signal.Signal.TheVariants as signals
use Rattle.script_waves.proofs.header.write_copies.Goals as goal

pub loop-core-preserved : goal.loop-core-preserved
loop-core-preserved g c = λ new rest.
    let f : ℕ → List ℕ = λ core. text_of_signal c.args.line (signals.Copy core) in
    let all : List ℕ = range_with_len 0 c.args.cores in
    let i = c.loop-core.core in
    let long = length-range_with_len 0 c.args.cores in
    let at = get_or-range_with_len 0 c.args.cores i 0 c.loop-core-test.true in
    let here : get_or all i 0 ≡ i = omega (arith, at) in
    c.loop-core.invariant new
    (next_piece g.W.Write.write_str_gives (λ (xs : List ℕ). flat_map f xs) all i (f i) 0
    (omega (arith, long, c.loop-core-test.true)) (ap (λ k. f k ++ flat_map f (drop (i + 1) all)) here) _ _ new
    c.in_ok-write_signal.ensures rest)

pub returns : goal.returns
returns g c =
    let f : ℕ → List ℕ = λ core. text_of_signal c.args.line (signals.Copy core) in
    let all : List ℕ = range_with_len 0 c.args.cores in
    let long = length-range_with_len 0 c.args.cores in
    c.loop-core.invariant _
    (last_piece g.W.Write.write_str_gives (λ (xs : List ℕ). flat_map f xs) all c.loop-core.core
    (omega (arith, long, c.loop-core-test.false)) refl _)
