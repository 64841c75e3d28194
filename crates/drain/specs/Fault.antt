-- Why an audit fails.
use Rattle.std.specs.Prelude.{◌≡◌, ℕ, ◌<◌, ◌≤◌, List, ◌++◌, codes, decimal}
use Rattle.address_map.specs.declared.address.CoreId.{CoreId}
use Rattle.address_map.specs.declared.config.Config.{Config}
use Rattle.core_thread_system.specs.Core.{CoreView}
use Rattle.drain.specs.Audited.{AreSettledBelow}
use Rattle.drain.specs.Whole.{AreOnceBelow, AreWhole, numbers_of}
use Rattle.drain.specs.declared.fault.AuditError.{AuditError}
use Rattle.drain.specs.declared.fault.AuditError.TheVariants as audit_errors
use Rattle.receipt_ledger.specs.History.{times}

-- The core is one of the machine's, and each core below it occurs once.
pub record IsLeast (c : Config) (cores : List CoreView) (core : CoreId) : Type 0 where
  pub configured : core.0 < c.cores
  pub lower : AreOnceBelow core.0 cores

-- The error names the least core that doesn't occur once. Where each does, it names a slice that isn't quiet; or one
-- that differs, below which each slice is settled; or an allocation failed once all slices were settled.
abbrev pub IsFaultOf : Config → List CoreView → AuditError → Type 0
IsFaultOf c cores (audit_errors.Missing core) = IsLeast c cores core × (times core.0 (numbers_of cores) ≡ 0)
IsFaultOf c cores (audit_errors.Repeated core) = IsLeast c cores core × (2 ≤ times core.0 (numbers_of cores))
IsFaultOf c cores (audit_errors.NotQuiet slice) = AreWhole c cores × (slice.0 < c.slices)
IsFaultOf c cores (audit_errors.Differs slice) = AreWhole c cores × (slice.0 < c.slices)
    × AreSettledBelow c cores slice.0
IsFaultOf c cores audit_errors.Memory = AreWhole c cores × AreSettledBelow c cores c.slices

-- how it is printed: its number and name, and which core or slice
abbrev pub text_of_error : AuditError → List ℕ
text_of_error (audit_errors.Missing core) = codes "1 Missing " ++ decimal core.0
text_of_error (audit_errors.Repeated core) = codes "2 Repeated " ++ decimal core.0
text_of_error (audit_errors.NotQuiet slice) = codes "3 NotQuiet " ++ decimal slice.0
text_of_error audit_errors.Memory = codes "4 Memory"
text_of_error (audit_errors.Differs slice) = codes "5 Differs " ++ decimal slice.0
