-- What a core sees of an entry is what the entry looks like to it.
use Rattle.std.proofs.Common.{◌≡◌, ◌==◌, ℕ, Bool, true, false, Option, Some, None, IfSome, if◌then◌else◌, refl}
use Rattle.std.proofs.lemmas.Bool.{eqb-true}
use Rattle.address_map.specs.declared.address.CoreId.{CoreId}
use Rattle.address_map.specs.CoreSet.{has, without}
use Rattle.address_map.proofs.CoreSets.{without-missing}
use Rattle.directory_table.specs.declared.state.DirState.{DirState}
use Rattle.directory_table.specs.declared.state.DirState.TheVariants as dir_states
use Rattle.protocol_tables.specs.DirectoryRows.{IsEntry, IsSharing}
use Rattle.protocol_tables.specs.declared.directory_rows.Entry.TheVariants as entries
use Rattle.protocol_tables.specs.declared.directory_rows.Sharing.{Sharing}
use Rattle.protocol_tables.specs.declared.directory_rows.Sharing.TheVariants as sharing
use Rattle.changed_tables.specs.Directory.{entry_seen, shared_entry, sharing_of}

-- who shares the line, by what the tests say
shares_so : (sharers : ℕ) (asker : CoreId) (asks alone none : Bool) → has sharers asker.0 ≡ asks
    → (without sharers asker.0 == 0) ≡ alone → (sharers == 0) ≡ none
    → IsSharing
    (if asks then (if alone then sharing.Asker else sharing.Both)
    else if none then sharing.Nobody else sharing.Others)
    sharers asker
shares_so sharers asker true true none a b c = record { asks_too = a; no_other = b }
shares_so sharers asker true false none a b c = record { asks_too = a; no_other = b }
shares_so sharers asker false alone true a b c = eqb-true sharers 0 c
shares_so sharers asker false alone false a b c =
    record { asks_too = a; no_other = rw (without-missing sharers asker.0 a) c }

is_sharing : (sharers : ℕ) (asker : CoreId) → IsSharing (sharing_of sharers asker.0) sharers asker
is_sharing sharers asker =
    shares_so sharers asker (has sharers asker.0) (without sharers asker.0 == 0) (sharers == 0) refl refl refl

-- in S a line has sharers
is_shared : (seen : Sharing) (sharers : ℕ) (asker : CoreId) → IsSharing seen sharers asker
    → IfSome (shared_entry seen) (λ entry. IsEntry entry dir_states.S None sharers asker)
is_shared sharing.Nobody sharers asker is = tt
is_shared sharing.Asker sharers asker is = is
is_shared sharing.Others sharers asker is = is
is_shared sharing.Both sharers asker is = is

-- in M it has an owner
owns_so : (owner asker : CoreId) (sharers : ℕ) (same : Bool) → (owner.0 == asker.0) ≡ same
    → IsEntry (if same then entries.MOfAsker else entries.MOfAnother) dir_states.M (Some owner) sharers asker
owns_so owner asker sharers true is = is
owns_so owner asker sharers false is = is

pub is_seen : (state : DirState) (owner : Option CoreId) (sharers : ℕ) (asker : CoreId)
    → IfSome (entry_seen state owner sharers asker) (λ entry. IsEntry entry state owner sharers asker)
is_seen dir_states.I None sharers asker = tt
is_seen dir_states.I (Some owner) sharers asker = tt
is_seen dir_states.S None sharers asker = is_shared (sharing_of sharers asker.0) sharers asker (is_sharing sharers asker)
is_seen dir_states.S (Some owner) sharers asker = tt
is_seen dir_states.M None sharers asker = tt
is_seen dir_states.M (Some owner) sharers asker = owns_so owner asker sharers (owner.0 == asker.0) refl
is_seen dir_states.S_D None sharers asker = is_sharing sharers asker
is_seen dir_states.S_D (Some owner) sharers asker = tt
