-- The name of each column, right-aligned in 10 places as `{:>10}` writes it.
use Rattle.std.proofs.Common.{◌≡◌, ◌-◌, ◌^◌, refl}
use lib.Utf8.{encode}
use Rattle.std.specs.Fmt.{format_spec, styled_text, padded, char_count, take_chars}
use Rattle.stats_report.specs.Report.{right_in_10}
use Rattle.program_run.specs.declared.column.Column.{Column}
use Rattle.program_run.specs.declared.column.Column.TheVariants as columns
use Rattle.program_run.specs.Column.{name_of}

pub name_right : (column : Column)
    → styled_text (format_spec 32 3 0 10 (2 ^ 64 - 1)) (name_of column) ≡ right_in_10 (name_of column)
unfolding padded char_count take_chars encode
name_right columns.Requests = refl
name_right columns.Hits = refl
name_right columns.Misses = refl
name_right columns.Cold = refl
name_right columns.Replaced = refl
name_right columns.Upgrade = refl
name_right columns.TrueSharing = refl
name_right columns.FalseSharing = refl
name_right columns.Evictions = refl
name_right columns.Req = refl
name_right columns.Fwd = refl
name_right columns.Data = refl
name_right columns.Ack = refl
name_right columns.Home = refl
name_right columns.Primary = refl
name_right columns.Secondary = refl
name_right columns.Stalls = refl
name_right columns.NoRegister = refl
name_right columns.NoTarget = refl
name_right columns.NoWay = refl
name_right columns.WriteBackFull = refl
name_right columns.WriteBackBusy = refl
name_right columns.Delivered = refl
