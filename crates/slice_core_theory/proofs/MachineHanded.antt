-- A reply that is handed out.
use Rattle.std.proofs.Common.{◌≡◌, ◌≢◌, ℕ, ◌<◌, List, [], ◌∷◌, length, Option, Some, None, refl, sym, ap, ◌∙◌, subst}
use Rattle.std.proofs.Common.{⊎_elim}
use Rattle.std.specs.Prelude.{slice_set}
use Rattle.std.proofs.lemmas.Bool.{cases_eq, cases_lt}
use Rattle.std.proofs.lemmas.List.{get_or-set_other, get_or-set_same, get_or_past}
use Rattle.std.proofs.lemmas.Option.{same_Some}
use Rattle.address_map.specs.declared.address.CoreId.{CoreId}
use Rattle.slice_log.specs.declared.entry.Entry.{Entry}
use Rattle.slice_log.specs.declared.entry.Numbered.{Numbered}
use Rattle.slice_core_theory.proofs.Kept.{Free_apart, kept-of, named-known, leads-same, same-view, same_core}
use Rattle.slice_core_theory.proofs.Kept.{cache-here, cache-there, waits-in}
use Rattle.slice_core_theory.proofs.Named.{number_is}
use Rattle.slice_core_theory.specs.SmallMachine.{Asked, IsSame, after, hand}
use Rattle.slice_core_theory.specs.Shows.{IsAccounted, Leads, hand_steps, small_machine_of}
use Rattle.slice_log.specs.Log.{initially}
use Rattle.slice_core_spec.specs.Calls.{AfterHand, PartsView}
use Rattle.slice_core_spec.specs.Steps.{after_hand}
use Rattle.slice_core_spec.specs.View.{View, cache_at}
use Rattle.slice_core_cache.specs.CoreCache.{CoreCacheView, tag_at}
use Rattle.slice_core_cache.specs.Steps as caches
use Rattle.slice_core_cache.specs.Tags.{tag_in}
use Rattle.slice_core_cache.specs.declared.tags.TagState.{TagState}
use Rattle.slice_core_cache.specs.declared.tags.TagState.TheVariants as tag_states

-- Two tags that name one entry are one tag of one core.
pub named-once : (v : View) → IsAccounted v → (core other : CoreId) (tag second number : ℕ)
    → tag_at (cache_at v core) tag ≡ tag_states.Performed number → tag_at (cache_at v other) second
    ≡ tag_states.Performed number
    → (other.0 ≡ core.0) × (second ≡ tag)
named-once v accounted core other tag second number names also =
    let account = accounted.accounts core (named-known v core tag number names) in
    let one = account.tags.replies tag number names in
    let two = (accounted.accounts other (named-known v other second number also)).tags.replies second number also in
    let same : two.0 ≡ one.0 = same_Some two.0 one.0 (sym two.1 ∙ one.1) in (
      sym two.2 ∙ ap (λ (e : Entry). e.core.0) same ∙ one.2,
      sym two.3 ∙ ap (λ (e : Entry). e.tag) same ∙ one.3,
    )

module _ (v : View) (accounted : IsAccounted v) (core : CoreId) (tag number : ℕ)
    (names : tag_at (cache_at v core) tag ≡ tag_states.Performed number) where
  is_there : core.0 < length v.caches
  is_there = named-known v core tag number names

  abbrev states : List TagState
  states = (cache_at v core).tags

  abbrev handed : View
  handed = after_hand v core tag

  -- The tag is one of the core's.
  within : tag < length states
  within =
      ⊎_elim (λ inside. inside)
      (λ past. absurd (Free_apart number (sym (get_or_past states tag tag_states.Free past) ∙ names)))
      (cases_lt tag (length states))

  freed : tag_in (slice_set states tag tag_states.Free) tag ≡ tag_states.Free
  freed = get_or-set_same states tag tag_states.Free tag_states.Free within

  here : (other : CoreId) → other.0 ≡ core.0 → (second : ℕ)
      → tag_at (cache_at handed other) second ≡ tag_in (slice_set states tag tag_states.Free) second
  here other same second =
      ap (λ (s : CoreCacheView). tag_at s second)
      (cache-here v core (caches.after_hand (cache_at v core) tag) is_there other same)

  there : (other : CoreId) → other.0 ≢ core.0 → (second : ℕ)
      → tag_at (cache_at handed other) second ≡ tag_at (cache_at v other) second
  there other apart second =
      ap (λ (s : CoreCacheView). tag_at s second)
      (cache-there v core (caches.after_hand (cache_at v core) tag) other apart)

  -- Any other tag names what it did.
  kept : (other : CoreId) (second : ℕ) → ((other.0 ≡ core.0) × (second ≡ tag) → ⊥)
      → tag_at (cache_at handed other) second ≡ tag_at (cache_at v other) second
  kept other second apart =
      ⊎_elim
      (λ same.
      here other same second
      ∙ get_or-set_other states tag second tag_states.Free tag_states.Free (λ equal. apart (same, equal))
      ∙ ap (λ c. tag_at (cache_at v c) second) (sym (same_core other core same)))
      (λ far. there other far second) (cases_eq other.0 core.0)

  -- The tag names nothing now.
  gone : (other : CoreId) (second one : ℕ) → tag_at (cache_at handed other) second ≡ tag_states.Performed one
      → (other.0 ≡ core.0) × (second ≡ tag) → ⊥
  gone other second one also same =
      Free_apart one
      (sym freed ∙ ap (tag_in (slice_set states tag tag_states.Free)) (sym same.1) ∙ sym (here other same.0 second)
      ∙ also)

  pub handed_same : IsSame (after (initially v.init) (small_machine_of v) (hand number)) (small_machine_of handed)
  handed_same =
      let cache = caches.after_hand (cache_at v core) tag in
      let misses : (r : Asked) → (cache_at handed r.core).misses ≡ (cache_at v r.core).misses =
      λ r. kept-of (λ (s : CoreCacheView). s.misses) v core cache is_there refl r.core in record {
        log = refl;
        waiting = λ r. (
          λ waits. waits-in v handed r refl (misses r) waits,
          λ waits. waits-in handed v r refl (sym (misses r)) waits,
        );
        replies = λ one. (
          λ named.
              record {
                core = named.0.core;
                tag = named.0.tag;
                names =
                    kept named.0.core named.0.tag
                    (λ same.
                    named.1 (number_is one number
                    (sym named.0.names
                    ∙ ap (λ c. tag_at (cache_at v c) named.0.tag) (same_core named.0.core core same.0)
                    ∙ ap (λ t. tag_at (cache_at v core) t) same.1 ∙ names)))
                    ∙ named.0.names;
              },
          λ named.
              let apart = gone named.core named.tag one named.names in
              let before = sym (kept named.core named.tag apart) ∙ named.names in (
                record { core = named.core; tag = named.tag; names = before },
                λ is. apart (named-once v accounted core named.core tag named.tag number names
                    (before ∙ ap (λ n. tag_states.Performed n) is)),
              ),
        );
      }

pub hand_leads : (old new : PartsView) (core : CoreId) (answer : Option Numbered) → IsAccounted old.view
    → core.0 < length old.view.caches → AfterHand old core answer new → Leads (hand_steps answer) old.view new.view
hand_leads old new core None accounted known done =
    subst (λ (p : PartsView). Leads [] old.view p.view) (sym done.1)
    (leads-same old.view old.view (same-view old.view))
hand_leads old new core (Some given) accounted known done =
    let tag = done.0 in
    subst (λ (p : PartsView). Leads (hand given.number ∷ []) old.view p.view) (sym done.3)
    (record {
      init = refl;
      run = (
        record { core = core; tag = tag; names = done.1.0 },
        handed_same old.view accounted core tag given.number done.1.0,
      );
    })
