-- Of an entry's cores only who owns and who shares the line makes a difference, as the core sees it that asks.
use Rattle.std.proofs.Common.{◌≡◌, ℕ, ◌==◌, Bool, true, false, refl, Option, Some, None}
use Rattle.std.proofs.lemmas.Bool.{ne_eqb}
use Rattle.address_map.specs.declared.address.CoreId.{CoreId}
use Rattle.address_map.specs.CoreSet.{without}
use Rattle.address_map.proofs.CoreSets.{has-zero, some-from_has, without-missing}
use Rattle.directory_table.specs.Row.{cell, shared_by}
use Rattle.directory_table.specs.declared.state.DirState.{DirState}
use Rattle.directory_table.specs.declared.state.DirState.TheVariants as dir_states
use Rattle.protocol_tables.specs.DirectoryRows.{IsEntry, IsSharing, event_of, meaning_of, rule_of, with_all, without_asker}
use Rattle.protocol_tables.specs.declared.directory_rows.DirCase.{DirCase}
use Rattle.protocol_tables.specs.declared.directory_rows.DirCase.TheVariants as cases
use Rattle.protocol_tables.specs.declared.directory_rows.Entry.{Entry}
use Rattle.protocol_tables.specs.declared.directory_rows.Entry.TheVariants as entries
use Rattle.protocol_tables.specs.declared.directory_rows.Sharing.{Sharing}
use Rattle.protocol_tables.specs.declared.directory_rows.Sharing.TheVariants as sharing

-- no core has left what no core was in
none_without : (asker : ℕ) → without 0 asker ≡ 0
none_without asker = without-missing 0 asker (has-zero asker)

-- S is left exactly where another shares the line
left_by : (seen : Sharing) (sharers : ℕ) (asker : CoreId) → IsSharing seen sharers asker
    → shared_by (without sharers asker.0) ≡ without_asker seen
left_by sharing.Nobody sharers asker none = rw (none, none_without asker.0) refl
left_by sharing.Asker sharers asker is = rw is.no_other refl
left_by sharing.Others sharers asker is = rw is.no_other refl
left_by sharing.Both sharers asker is = rw is.no_other refl

-- a set that has a core, or has one but for this, has some
some_other : (sharers asker : ℕ) → (without sharers asker == 0) ≡ false → (sharers == 0) ≡ false
some_other sharers asker others = ne_eqb sharers 0 (λ none. absurd (cc (rw (none, none_without asker) at others)))

-- S is entered exactly where some core shares the line
shared_with : (seen : Sharing) (sharers : ℕ) (asker : CoreId) → IsSharing seen sharers asker
    → shared_by sharers ≡ with_all seen
shared_with sharing.Nobody sharers asker none = rw none refl
shared_with sharing.Asker sharers asker is = rw (ne_eqb sharers 0 (some-from_has sharers asker.0 is.asks_too)) refl
shared_with sharing.Others sharers asker is = rw (some_other sharers asker.0 is.no_other) refl
shared_with sharing.Both sharers asker is = rw (ne_eqb sharers 0 (some-from_has sharers asker.0 is.asks_too)) refl

-- the row is what the rule means
pub means : (exclusive : Bool) (entry : Entry) (case : DirCase) (state : DirState) (owner : Option CoreId) (sharers : ℕ)
    (asker : CoreId) → IsEntry entry state owner sharers asker
    → cell exclusive state owner sharers (event_of case asker) ≡ meaning_of (rule_of exclusive entry case) owner sharers asker
means true entries.I cases.GetS dir_states.I None sharers asker is = refl
means false entries.I cases.GetS dir_states.I None sharers asker is = refl
means exclusive (entries.S seen) cases.PutS dir_states.S None sharers asker is = rw (left_by seen sharers asker is) refl
means exclusive (entries.S seen) cases.PutM dir_states.S None sharers asker is = rw (left_by seen sharers asker is) refl
means exclusive entries.MOfAsker cases.GetS dir_states.M (Some owner) sharers asker is = rw is refl
means exclusive entries.MOfAsker cases.GetM dir_states.M (Some owner) sharers asker is = rw is refl
means exclusive entries.MOfAsker cases.PutS dir_states.M (Some owner) sharers asker is = rw is refl
means exclusive entries.MOfAsker cases.PutM dir_states.M (Some owner) sharers asker is = rw is refl
means exclusive entries.MOfAnother cases.GetS dir_states.M (Some owner) sharers asker is = rw is refl
means exclusive entries.MOfAnother cases.GetM dir_states.M (Some owner) sharers asker is = rw is refl
means exclusive entries.MOfAnother cases.PutS dir_states.M (Some owner) sharers asker is = rw is refl
means exclusive entries.MOfAnother cases.PutM dir_states.M (Some owner) sharers asker is = rw is refl
means exclusive (entries.S_D seen) cases.DataHome dir_states.S_D None sharers asker is =
    rw (shared_with seen sharers asker is) refl
means exclusive entries.I _ dir_states.I None sharers asker is = refl
means exclusive (entries.S seen) _ dir_states.S None sharers asker is = refl
means exclusive entries.MOfAsker cases.DataHome dir_states.M (Some owner) sharers asker is = refl
means exclusive entries.MOfAnother cases.DataHome dir_states.M (Some owner) sharers asker is = refl
means exclusive (entries.S_D seen) _ dir_states.S_D None sharers asker is = refl
means _ _ _ _ _ _ _ is = absurd is
