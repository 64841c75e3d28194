-- How the parts of a line stand after one core's channels, its copy or its part are others.
use Rattle.std.proofs.Common.{◌≡◌, ℕ, ◌<◌, ◌==◌, Bool, true, false, if◌then◌else◌, length, refl, sym, ap, ◌∙◌, subst}
use Rattle.std.proofs.lemmas.List.{length-set}
use Rattle.address_map.specs.CoreSet.{has}
use Rattle.protocol_coherence.specs.Line.{Part}
use Rattle.protocol_coherence.specs.LineSteps.{change_if, stands_ack}
use Rattle.slice_core_cache.specs.declared.copy.CacheCopy.{CacheCopy}
use Rattle.slice_core_theory.proofs.Frame.{by_number, read-set, with_copy_at}
use Rattle.slice_core_theory.specs.Stands.{AcksStand, PartStands}
use Rattle.slice_queues.proofs.LineLaws.{read-set_unchanged}
use Rattle.slice_queues.specs.Line.{CoreChannels, LineChannels, core_at, no_messages, with_core}

-- Each core's copy and channels are its part.
abbrev pub PartsStand : ℕ → LineChannels → (ℕ → CacheCopy) → (ℕ → Part) → Type 0
PartsStand cores channels copy part =
    (core : ℕ) → core < cores → PartStands (copy core) (core_at channels core) (part core)

-- the parts where one is changed
abbrev pub with_part_at : (ℕ → Part) → ℕ → (Part → Part) → ℕ → Part
with_part_at part core change other = change_if (other == core) change (part other)

-- One core's copy, channels and part are others.
pub parts_turned : (cores : ℕ) (channels : LineChannels) (copy : ℕ → CacheCopy) (part : ℕ → Part) (c : ℕ)
    (now : CacheCopy) (mail : CoreChannels) (change : Part → Part) → c < length channels.cores
    → PartStands now mail (change (part c)) → PartsStand cores channels copy part
    → PartsStand cores (with_core channels c mail) (with_copy_at copy c now) (with_part_at part c change)
parts_turned cores channels copy part c now mail change there here stand x below =
    subst (λ m. PartStands (with_copy_at copy c now x) m (with_part_at part c change x))
    (sym (read-set channels.cores c x mail no_messages there))
    (by_number x c
    (λ b. PartStands (if b then now else copy x) (if b then mail else core_at channels x)
    (change_if b change (part x)))
    (λ same. subst (λ y. PartStands now mail (change (part y))) (sym same) here) (λ apart. stand x below))

-- The same of a core whose copy stays.
pub parts_sent : (cores : ℕ) (channels : LineChannels) (copy : ℕ → CacheCopy) (part : ℕ → Part) (c : ℕ)
    (mail : CoreChannels) (change : Part → Part) → c < length channels.cores
    → PartStands (copy c) mail (change (part c)) → PartsStand cores channels copy part
    → PartsStand cores (with_core channels c mail) copy (with_part_at part c change)
parts_sent cores channels copy part c mail change there here stand x below =
    subst (λ m. PartStands (copy x) m (with_part_at part c change x))
    (sym (read-set channels.cores c x mail no_messages there))
    (by_number x c
    (λ b. PartStands (copy x) (if b then mail else core_at channels x) (change_if b change (part x)))
    (λ same. subst (λ y. PartStands (copy y) mail (change (part y))) (sym same) here) (λ apart. stand x below))

-- Parts that are the same stand as well.
pub parts_as : (cores : ℕ) (channels : LineChannels) (copy : ℕ → CacheCopy) (part now : ℕ → Part)
    → ((x : ℕ) → x < cores → now x ≡ part x) → PartsStand cores channels copy part
    → PartsStand cores channels copy now
parts_as cores channels copy part now same stand x below =
    subst (λ p. PartStands (copy x) (core_at channels x) p) (sym (same x below)) (stand x below)

-- Two changes of one part.
pub change-twice : (b : Bool) (f g : Part → Part) (p : Part)
    → change_if b (λ q. g (f q)) p ≡ change_if b g (change_if b f p)
change-twice true f g p = refl
change-twice false f g p = refl

-- ---- channels

pub with_core-length : (channels : LineChannels) (c : ℕ) (mail : CoreChannels)
    → length (with_core channels c mail).cores ≡ length channels.cores
with_core-length channels c mail = length-set channels.cores c mail

-- ---- acknowledgements

-- A core's channels with the same acknowledgements leave those of all cores as they were.
pub acks-with_core : (channels : LineChannels) (c x : ℕ) (mail : CoreChannels) → mail.acks ≡ (core_at channels c).acks
    → (core_at (with_core channels c mail) x).acks ≡ (core_at channels x).acks
acks-with_core channels c x mail same =
    read-set_unchanged (λ (m : CoreChannels). m.acks) channels.cores c x mail no_messages same

-- Acknowledgements stand where none is sent or taken.
pub acks_kept : (cores : ℕ) (channels now : LineChannels) (part next : ℕ → Part)
    → ((x : ℕ) → (core_at now x).acks ≡ (core_at channels x).acks)
    → ((to from : ℕ) → from < cores → stands_ack (next from) to ≡ stands_ack (part from) to)
    → AcksStand cores channels part → AcksStand cores now next
acks_kept cores channels now part next same sent stand = record {
  waits = λ to from below within.
      ap (λ s. has s from) (same to) ∙ stand.waits to from below within ∙ sym (sent to from within);
  senders = λ to from waits. stand.senders to from (sym (ap (λ s. has s from) (same to)) ∙ waits);
}

-- A change of one part that says the same of its acknowledgement says the same to all.
pub acks_turned : (part : ℕ → Part) (c : ℕ) (change : Part → Part)
    → ((to : ℕ) → stands_ack (change (part c)) to ≡ stands_ack (part c) to)
    → (to x : ℕ) → stands_ack (with_part_at part c change x) to ≡ stands_ack (part x) to
acks_turned part c change same to x =
    by_number x c (λ b. stands_ack (change_if b change (part x)) to ≡ stands_ack (part x) to)
    (λ here. subst (λ y. stands_ack (change (part y)) to ≡ stands_ack (part y) to) (sym here) (same to)) (λ apart. refl)
