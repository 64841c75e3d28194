-- Sums over lines, one line after another.
use Rattle.std.proofs.Common.{◌≡◌, ℕ, ◌+◌, ◌-◌, ◌^◌, ◌<◌, List, length, take, get_or, sym, ap, ◌∙◌, arith, min}
use Rattle.std.specs.Prelude.{sum_by}
use Rattle.std.proofs.lemmas.List.{take_more}
use Rattle.std.proofs.lemmas.List.Sums.{sum_by_push}
use Rattle.stats_report.specs.Report.{capped_sum}
use Rattle.program_run.specs.declared.tally.Counts.{Counts}
use Rattle.program_run.specs.Tally.{counts_together, total_by, totals_of}

-- a sum that has stopped stays there
min-again : (a b : ℕ) → min (min a (2 ^ 64 - 1) + b) (2 ^ 64 - 1) ≡ min (a + b) (2 ^ 64 - 1)
min-again a b = omega arith

-- with one more line a sum goes on from the sum before
total_more : (count : Counts → ℕ) (xs : List Counts) (i : ℕ) (d : Counts) → i < length xs
    → total_by count (take (i + 1) xs) ≡ capped_sum (total_by count (take i xs) + count (get_or xs i d))
total_more count xs i d within =
    let last : sum_by count (take (i + 1) xs) ≡ sum_by count (take i xs) + count (get_or xs i d) =
    ap (sum_by count) (take_more xs i d within) ∙ sum_by_push count (take i xs) (get_or xs i d) in
    ap (λ n. min n (2 ^ 64 - 1)) last ∙ sym (min-again (sum_by count (take i xs)) (count (get_or xs i d)))

-- .. and so do all sums
pub totals_more : (xs : List Counts) (i : ℕ) (d : Counts) → i < length xs
    → totals_of (take (i + 1) xs) ≡ counts_together (totals_of (take i xs)) (get_or xs i d)
totals_more xs i d within =
    let more : (count : Counts → ℕ)
    → total_by count (take (i + 1) xs) ≡ capped_sum (total_by count (take i xs) + count (get_or xs i d)) =
    λ count. total_more count xs i d within in
    cc (
      more (λ line. line.hits),
      more (λ line. line.cold),
      more (λ line. line.replaced),
      more (λ line. line.upgrade),
      more (λ line. line.true_sharing),
      more (λ line. line.false_sharing),
      more (λ line. line.secondary),
      more (λ line. line.no_register),
      more (λ line. line.no_target),
      more (λ line. line.no_way),
      more (λ line. line.write_back_full),
      more (λ line. line.write_back_busy),
      more (λ line. line.evictions),
      more (λ line. line.messages.requests),
      more (λ line. line.messages.forwarded),
      more (λ line. line.messages.data_replies),
      more (λ line. line.messages.acknowledgements),
      more (λ line. line.messages.home),
    )
