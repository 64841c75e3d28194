-- Coherence of a line as it is kept by every step: what is true of each core by itself, and of cores with each other.
use Rattle.std.specs.Prelude.{◌≡◌, ◌<◌, ℕ, zero, suc, ◌+◌, Bool, true, false, Option, IfSome, if◌then◌else◌}
use Rattle.address_map.specs.declared.address.CoreId.{CoreId}
use Rattle.address_map.specs.CoreSet.{has}
use Rattle.directory_table.specs.Law.{HasOwnerInM}
use Rattle.directory_table.specs.declared.state.DirState.{DirState}
use Rattle.protocol_coherence.specs.Fit.{awaits, is_counting, is_fit, is_fwd_get_m, is_fwd_get_s, owes, waits_to_write}
use Rattle.protocol_coherence.specs.Line.{Line, Part, Roles, near_of}

-- How many of the cores 0, 1, .. below the bound pass the test.
unfoldable pub count_below : ℕ → (ℕ → Bool) → ℕ
count_below zero test = 0
count_below (suc bound) test = (if test bound then 1 else 0) + count_below bound test

-- How many Inv-Acks are due.
abbrev pub debts : ℕ → (ℕ → Part) → ℕ
debts cores part = count_below cores (λ core. owes (part core).look)

-- How many Inv-Acks the core awaits in all, the counted ones included.
abbrev pub wanted_acks : Part → ℕ
wanted_acks part = if awaits part.look then part.wants else 0

-- The core's numbers: while it counts, one is missing; and where it awaits none, none is counted.
pub record IsCounted (part : Part) : Type 0 where
  pub missing : is_counting part.look.state ≡ true → part.counted < part.wants
  pub none : awaits part.look ≡ false → part.counted ≡ 0

-- Who is named by a core's Fwd-GetM waits to write, and by no other. Who is named by a Fwd-GetS is the one who asks.
pub record IsChained (cores asker : ℕ) (by : ℕ → ℕ) (part : ℕ → Part) (core : ℕ) : Type 0 where
  pub writer : is_fwd_get_m (part core).look.forward ≡ true → waits_to_write (part (part core).names).look ≡ true
  pub within : is_fwd_get_m (part core).look.forward ≡ true → (part core).names < cores
  pub only_by : is_fwd_get_m (part core).look.forward ≡ true → by (part core).names ≡ core
  pub reader : is_fwd_get_s (part core).look.forward ≡ true → (part core).names ≡ asker

-- Every Inv-Ack that is due is due to the keeper, and no acknowledgement is lost or too many.
pub record IsBalanced (cores : ℕ) (keeper : ℕ) (part : ℕ → Part) : Type 0 where
  pub due : (core : ℕ) → core < cores → owes (part core).look ≡ true → (part core).owes_to ≡ keeper
  pub sum : debts cores part + (part keeper).counted ≡ wanted_acks (part keeper)

-- An owner is in the entry exactly in M, and only cores are in it.
pub record IsEntry (cores : ℕ) (directory : DirState) (owner : Option CoreId) (sharers : ℕ) : Type 0 where
  pub in_m : HasOwnerInM directory owner
  pub owner_within : IfSome owner (λ core. core.0 < cores)
  pub sharers_within : (core : ℕ) → core < 64 → has sharers core ≡ true → core < cores

-- The roles are cores.
pub record AreCores (cores : ℕ) (roles : Roles) : Type 0 where
  pub keeper : roles.keeper < cores
  pub server : roles.server < cores
  pub asker : roles.asker < cores

-- What every step keeps: each core fits, and counts, names and owes as it should.
pub record IsCoherent (cores : ℕ) (line : Line) (roles : Roles) : Type 0 where
  pub fit : (core : ℕ) → core < cores → is_fit (near_of line roles core) (line.part core).look ≡ true
  pub counted : (core : ℕ) → core < cores → IsCounted (line.part core)
  pub chained : (core : ℕ) → core < cores → IsChained cores roles.asker roles.by line.part core
  pub balanced : IsBalanced cores roles.keeper line.part
  pub entry : IsEntry cores line.directory line.owner line.sharers
  pub roles_within : AreCores cores roles
