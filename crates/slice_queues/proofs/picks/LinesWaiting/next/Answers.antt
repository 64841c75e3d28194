use Rattle.std.proofs.Common.{◌≡◌, ◌+◌, ◌-◌, ◌*◌, ◌^◌, ◌<◌, ◌∙◌, [], ap, arith, drop, sym, take, ℕ}
use Rattle.slice_queues.specs.Waiting.{lines_left, line_number}
use Rattle.slice_queues.proofs.PickLaws.{lines_left-next, nil-from_get}
use Rattle.slice_queues.proofs.picks.LinesWaiting.next.Goals as goal

pub loop-channel-preserved : goal.loop-channel-preserved
loop-channel-preserved c =
    let now = c.loop-channel.self-inside in
    let left = c.loop-channel.invariant in
    let more : now.place < now.end = omega (arith, c.if-self.false) in
    let none : now.current ≡ [] = nil-from_get now.current (sym c.next.ensures.first ∙ c.in-None.is) in
    let first = lines_left-next now.slice now.slices now.place now.end now.lines.now c.line.result more left.2
    c.line.ensures in
    let rest = drop now.place (take now.end now.lines.now) in (
      ap (λ names. lines_left now.slice now.slices (line_number now.slice now.slices now.place) names (now.place + 1)
          (drop (now.place + 1) (take now.end now.lines.now))) c.waiting-self-inside.ensures.order
          ∙ first
          ∙ sym (ap (λ names. lines_left now.slice now.slices now.line names now.place rest) none)
          ∙ left.0,
      omega (arith, more),
      left.2,
      record {
        one_of_them = left.3.one_of_them;
        in_range = fits (now.place + (now.end - now.place)) _ now.slices (omega (arith, more)) left.3.in_range;
      },
    )
  where
    fits : (n m slices : ℕ) → m ≡ n → n * slices < 2 ^ 64 → m * slices < 2 ^ 64
    fits n m slices same below = rw same below
