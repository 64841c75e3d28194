-- The lines of a core's copies are lines of the slice, wherever the copies are.
use Rattle.std.proofs.Common.{◌≡◌, ◌<◌, ℕ, zero, suc, true, List, [], ◌∷◌, length, map, slice_get, Option, Some, None}
use Rattle.std.proofs.Common.{IsSome, refl, ap, ⊎_elim}
use Rattle.std.specs.Prelude.{All, is_some}
use Rattle.std.proofs.lemmas.Bool.{cases_Bool, eq-eqb}
use Rattle.std.proofs.lemmas.List.Elements.{All-cons, All-nil}
use Rattle.address_map.specs.Locator.{local_at}
use Rattle.address_map.specs.declared.address.CoreId.{CoreId}
use Rattle.address_map.specs.declared.address.Local.{Local}
use Rattle.cache_array.specs.Array.{slots_at}
use Rattle.cache_array.specs.declared.set.Slot.{Slot}
use Rattle.cache_array.proofs.Victims.{slot_held}
use Rattle.mshr_file.specs.declared.registers.Register.{Register}
use Rattle.mshr_file.proofs.LinesWaited.{register_waits}
use Rattle.slice_core.proofs.AccountsFacts.{registers}
use Rattle.slice_core.specs.Sound.{IsSound}
use Rattle.slice_core_cache.specs.declared.copy.CacheCopy.{CacheCopy}
use Rattle.slice_core_spec.specs.Parts.{PartsView}
use Rattle.slice_core_spec.specs.View.{cache_at}
use Rattle.slice_core_exec.specs.CoreLines.{places_of, set_of}
use Rattle.slice_core_exec.specs.declared.core_lines.CoreLines.{CoreLines}
use Rattle.slice_core_exec.specs.declared.core_lines.CoreLines.TheVariants as core_lines
use Rattle.writeback_buffer.specs.Buffer.{held_at as buffer_at, is_of}
use Rattle.writeback_buffer.specs.declared.pending.PendingWriteBack.{PendingWriteBack}

-- what holds of each element's line holds of each line
each : {X : Type 0} (P : Local → Type 0) (line_in : X → Local) (xs : List X)
    → ((place : ℕ) (x : X) → slice_get xs place ≡ Some x → P (line_in x)) → All P (map line_in xs)
each P line_in [] holds = All-nil P
each P line_in (x ∷ xs) holds =
    All-cons P (line_in x) (map line_in xs) (holds zero x refl)
    (each P line_in xs (λ place other at. holds (suc place) other at))

-- the line of each entry is found in the buffer
entry_held : (entries : List PendingWriteBack) (place : ℕ) (entry : PendingWriteBack) → slice_get entries place
    ≡ Some entry
    → IsSome (buffer_at entries entry.line.0)
entry_held [] place entry at = (cc)
entry_held (first ∷ rest) zero entry at =
    let same : first ≡ entry = (cc) in
    let is : is_of entry.line.0 first ≡ true =
    eq-eqb first.line.0 entry.line.0 (ap (λ (e : PendingWriteBack). e.line.0) same) in
    rw is refl
entry_held (first ∷ rest) (suc place) entry at =
    ⊎_elim (λ here. rw here refl) (λ elsewhere. rw elsewhere (entry_held rest place entry at))
    (cases_Bool (is_of entry.line.0 first))

module _ (p : PartsView) (sound : IsSound p) (core : CoreId) (known : core.0 < length p.view.caches) where
  in_set : (line : Option Local) → All (λ local. local.0 < p.view.lines.lines) (set_of p.view core line)
  in_set None = All-nil _
  in_set (Some local) = each _ (λ (slot : Slot CacheCopy). slot.line) (slots_at (cache_at p.view core).array local)
      (λ place slot at.
      let held = (slot_held (cache_at p.view core).array local place slot (sound.links.kept core known).array at).1 in
      sound.links.own core slot.line known (ap is_some held))

  pub own_places : (lines : CoreLines) → All (λ local. local.0 < p.view.lines.lines) (places_of p.view core lines)
  own_places core_lines.Waiting = each _ (λ (register : Register). register.line) (cache_at p.view core).misses
      (λ place register at. (registers p sound).own core register.line known
      (register_waits (cache_at p.view core).misses place register ((registers p sound).single core known) at))
  own_places core_lines.Leaving =
      each _ (λ (entry : PendingWriteBack). entry.line) (cache_at p.view core).buffer.write_backs
      (λ place entry at. sound.links.leaves core entry.line known
      (entry_held (cache_at p.view core).buffer.write_backs place entry at))
  own_places (core_lines.InSetOf line) = in_set (local_at p.view.lines line.0)
