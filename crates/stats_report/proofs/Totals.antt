-- Sums over slices, one slice after another.
use Rattle.std.proofs.Common.{◌≡◌, ℕ, ◌+◌, ◌-◌, ◌^◌, ◌<◌, List, length, map, take, get_or, sym, ap, subst, ◌∙◌, arith}
use Rattle.std.proofs.Common.{min}
use Rattle.std.specs.Prelude.{sum_by, All}
use Rattle.std.proofs.lemmas.List.{map_more, get_or-map, length-map}
use Rattle.std.proofs.lemmas.List.Elements.{All-get_or}
use Rattle.std.proofs.lemmas.List.Sums.{sum_by_push}
use Rattle.slice_answer.specs.Stats.{StatsView}
use Rattle.stats_report.specs.Report.{capped_sum, total_by}

-- a sum that has stopped stays there
min-again : (a b : ℕ) → min (min a (2 ^ 64 - 1) + b) (2 ^ 64 - 1) ≡ min (a + b) (2 ^ 64 - 1)
min-again a b = omega arith

-- with one more slice the sum goes on from the sum before
pub total_more : {X : Type 0} (view : X → StatsView) (count : StatsView → ℕ) (xs : List X) (i : ℕ) (x : X)
    → i < length xs → x ≡ get_or xs i x
    → total_by count (map view (take (i + 1) xs)) ≡ capped_sum (total_by count (map view (take i xs)) + count (view x))
total_more view count xs i x within here =
    let before = map view (take i xs) in
    let last : sum_by count (map view (take (i + 1) xs)) ≡ sum_by count before + count (view x) =
    ap (sum_by count) (map_more view xs i x within) ∙ sum_by_push count before (view (get_or xs i x))
    ∙ ap (λ y. sum_by count before + count (view y)) (sym here) in
    ap (λ n. min n (2 ^ 64 - 1)) last ∙ sym (min-again (sum_by count before) (count (view x)))

-- what holds of each slice holds of the one at a place
pub All-at : {X : Type 0} (P : StatsView → Type 0) (view : X → StatsView) (xs : List X) (i : ℕ) (x : X)
    → i < length xs → x ≡ get_or xs i x → All P (map view xs) → P (view x)
All-at P view xs i x within here all =
    let fits : i < length (map view xs) = omega (arith, within, length-map xs view) in
    let same : get_or (map view xs) i (view x) ≡ view x = get_or-map view xs i x (view x) within ∙ ap view (sym here) in
    subst P same (All-get_or P (map view xs) i (view x) fits all)
