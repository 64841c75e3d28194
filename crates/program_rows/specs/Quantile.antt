-- The 97.5 % quantiles of Student's distribution, in thousandths, rounded up.
use Rattle.std.specs.Prelude.{◌-◌, ℕ, nat_lt, if◌then◌else◌, slice_index}
use Rattle.program_rows.specs.declared.quantile.TheConstants.{QUANTILES}

-- by the degrees of freedom: 1 to 30, and beyond those of the next lower of 30, 40, 60 and 120
abbrev pub quantile_of : ℕ → ℕ
quantile_of degrees =
    if nat_lt degrees 31 then slice_index QUANTILES (degrees - 1)
    else if nat_lt degrees 40 then 2043
    else if nat_lt degrees 60 then 2022
    else if nat_lt degrees 120 then 2001
    else 1980
