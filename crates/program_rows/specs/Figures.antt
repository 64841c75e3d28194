-- The mean of numbers and its confidence interval, in thousandths.
use Rattle.std.specs.Prelude.{◌≡◌, ℕ, ◌+◌, ◌*◌, ◌-◌, ◌<◌, ◌≤◌, List, MatchOption, length, sum, sum_by}
use Rattle.program_rows.specs.declared.interval.Figures.{Figures}
use Rattle.program_rows.specs.Quantile.{quantile_of}
use Rattle.program_rows.specs.declared.summary.Above.{Above}
use Rattle.program_rows.specs.declared.summary.Summary.{Summary}

abbrev pub square : ℕ → ℕ
square n = n * n

-- n times the sum of the squares of n numbers, less the square of their sum: n * (n - 1) times the variance of a sample
abbrev pub spread_of : List ℕ → ℕ
spread_of numbers = length numbers * sum_by square numbers - square (sum numbers)

pub record IsSummary (numbers : List ℕ) (summary : Summary) : Type 0 where
  pub count : summary.count ≡ length numbers
  pub sum : summary.sum ≡ sum numbers
  pub spread : summary.spread ≡ spread_of numbers

-- the sum of how far numbers are above another, and that of the squares
pub record AreAbove (least : ℕ) (numbers : List ℕ) (above : Above) : Type 0 where
  pub sum : above.sum ≡ sum_by (λ n. n - least) numbers
  pub squares : above.squares ≡ sum_by (λ n. square (n - least)) numbers

-- the nearest number of thousandths to sum / count, and of two the greater
abbrev pub IsNearest : (sum count mean : ℕ) → Type 0
IsNearest sum count mean =
    (2 * (mean * count) ≤ 2 * (1000 * sum) + count) × (2 * (1000 * sum) < 2 * (mean * count) + count)

-- the least number w with number ≤ w * divisor
abbrev pub IsRoundedUp : (number divisor w : ℕ) → Type 0
IsRoundedUp number divisor w = (number ≤ w * divisor) × ((v : ℕ) → number ≤ v * divisor → w ≤ v)

-- the least number whose square is no less
abbrev pub IsLeastRoot : (number root : ℕ) → Type 0
IsLeastRoot number root = (number ≤ square root) × ((v : ℕ) → number ≤ square v → root ≤ v)

-- the least number of thousandths w with w / 1000 ≥ t * s / sqrt(n), where s is the standard deviation of a sample of n numbers and t a quantile in thousandths: w² * n² * (n - 1) ≥ t² * spread
abbrev pub IsHalfWidth : (count spread quantile w : ℕ) → Type 0
IsHalfWidth count spread quantile w =
    (square quantile * spread ≤ square w * (square count * (count - 1)))
    × ((v : ℕ) → square quantile * spread ≤ square v * (square count * (count - 1)) → w ≤ v)

-- one number has no interval
abbrev pub AreFigures : List ℕ → Figures → Type 0
AreFigures numbers figures =
    IsNearest (sum numbers) (length numbers) figures.mean
    × MatchOption figures.half_width (length numbers ≡ 1)
    (λ w. (1 < length numbers) × IsHalfWidth (length numbers) (spread_of numbers) (quantile_of (length numbers - 1)) w)
