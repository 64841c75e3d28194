-- What callers of a slice may rely on, from its invariant.
use Rattle.std.proofs.Common.{◌≡◌, ℕ, ◌<◌, ◌≤◌, Bool, length, Option, Some, None, sym, ap, ◌∙◌, ⊎_elim, refl, arith}
use Rattle.std.specs.Prelude.{if◌then◌else◌, nat_lt, IfSome}
use Rattle.std.proofs.lemmas.Bool.{cases_lt, le-ltb}
use Rattle.std.proofs.lemmas.List.{get_or_past}
use Rattle.std.proofs.lemmas.Option.{get_or_from_slice_get}
use Rattle.address_map.specs.declared.address.CoreId.{CoreId}
use Rattle.slice_core_cache.specs.CoreCache.{CoreCacheView}
use Rattle.slice_core_spec.specs.Calls.{PartsView, AfterHand}
use Rattle.slice_core_spec.specs.View.{View, no_cache, cache_at}
use Rattle.slice_core_theory.proofs.Grown.{no_entry-standings}
use Rattle.slice_core_theory.specs.Standing.{standings}
use Rattle.slice_log.specs.Log.{IsOrdered}
use Rattle.slice_log.specs.declared.entry.Entry.{Entry}
use Rattle.slice_log.specs.declared.entry.Numbered.{Numbered}
use Rattle.slice_core.proofs.LinksSettling.{waits-held}
use Rattle.slice_core.specs.Facts.{CountsAccepted, HasOneRegister, TagsName, IsStanding}
use Rattle.slice_core.specs.Sound.{HasAccounts, HasLinks, IsSound}

-- A core that isn't there has nothing.
pub cache-missing : (v : View) (core : CoreId) → length v.caches ≤ core.0 → cache_at v core ≡ no_cache
cache-missing v core past = get_or_past v.caches core.0 no_cache past

abbrev one_if : Bool → ℕ
one_if b = if b then 1 else 0

-- No request of a core that isn't there is anywhere.
pub standing-from_accounts : (v : View) → HasAccounts v → IsStanding v
standing-from_accounts v has = record {
  once = λ core seq.
      ⊎_elim (λ known. (has.accounts core known).standing.once seq) (λ past. missing core seq past)
      (cases_lt core.0 (length v.caches));
}
  where
    none : (seq : ℕ) → one_if (nat_lt seq 0) ≡ 0
    none seq = let not_below = le-ltb seq 0 (omega arith) in rw not_below refl

    missing : (core : CoreId) (seq : ℕ) → length v.caches ≤ core.0
        → standings (cache_at v core).misses v.log core.0 seq ≡ one_if (nat_lt seq (cache_at v core).accepted)
    missing core seq past =
        ap (λ (s : CoreCacheView). standings s.misses v.log core.0 seq) (cache-missing v core past)
        ∙ no_entry-standings core.0 seq v.log (has.absent core.0 past) ∙ sym (none seq)
        ∙ ap (λ (s : CoreCacheView). one_if (nat_lt seq s.accepted)) (sym (cache-missing v core past))

pub tags-from_accounts : (v : View) → HasAccounts v → TagsName v
tags-from_accounts v has = record {
  opened = λ core tag known. (has.accounts core known).tags.opened tag;
  replies = λ core tag number known named. (has.accounts core known).tags.replies tag number named;
}

pub registers-from : (v : View) → HasAccounts v → HasLinks v → HasOneRegister v
registers-from v has links = record {
  single = λ core known. (has.accounts core known).waits.file;
  waits = links.waits;
  own = λ core local known missed.
      links.own core local known
      (waits-held (cache_at v core) local (links.kept core known) (links.waits core local known ∙ missed));
}

module _ (p : PartsView) (sound : IsSound p) where
  pub standing : IsStanding p.view
  standing = standing-from_accounts p.view sound.accounts

  pub tags : TagsName p.view
  tags = tags-from_accounts p.view sound.accounts

  pub registers : HasOneRegister p.view
  registers = registers-from p.view sound.accounts sound.links

  pub ordered : IsOrdered p.view.log
  ordered = sound.accounts.ordered

  pub counted : CountsAccepted p
  counted = sound.counted.accepted

  -- What is handed out to a core is an entry that it asked for.
  pub handed-core : (core : CoreId) (answer : Option Numbered) (new : PartsView) → core.0 < length p.view.caches
      → AfterHand p core answer new → IfSome answer (λ (given : Numbered). given.entry.core ≡ core)
  handed-core core None new known after = tt
  handed-core core (Some given) new known after =
      let asked = tags.replies core after.0 given.number known after.1.0 in
      let same : asked.0 ≡ given.entry =
      sym (get_or_from_slice_get p.view.log given.number asked.0 given.entry asked.1)
      ∙ get_or_from_slice_get p.view.log given.number given.entry given.entry after.2 in
      sym (ap (λ (e : Entry). e.core) same) ∙ ap (λ n. record { 0 = n }) asked.2
