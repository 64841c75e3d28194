-- A request that is accepted and waits.
use Rattle.std.proofs.Common.{◌≡◌, ◌≢◌, ℕ, ◌<◌, ◌⊎◌, List, [], ◌∷◌, length, inl, inr, refl, sym, ap, ◌∙◌, subst, ⊎_elim}
use Rattle.std.proofs.Common.{arith}
use Rattle.std.specs.Prelude.{Contains, slice_set}
use Rattle.std.proofs.lemmas.Bool.{cases_eq, cases_lt}
use Rattle.std.proofs.lemmas.List.{get_or-set_other, get_or-set_same, get_or_past, length-set}
use Rattle.std.proofs.lemmas.List.Elements.{Contains-append_left, Contains-push, Contains-push_cases}
use Rattle.address_map.specs.declared.address.CoreId.{CoreId}
use Rattle.address_map.specs.declared.address.Local.{Local}
use Rattle.mshr_file.specs.Miss.{AddsTarget, targets_of}
use Rattle.mshr_file.specs.declared.registers.Register.{Register}
use Rattle.slice_core_cache.specs.CoreCache.{CoreCacheView, tag_at}
use Rattle.slice_core_cache.specs.Tags.{tag_in}
use Rattle.slice_core_cache.specs.declared.tags.TagState.{TagState}
use Rattle.slice_core_cache.specs.declared.tags.TagState.TheVariants as tag_states
use Rattle.slice_core_theory.proofs.Kept.{Free_apart, ShowsSame, same_core, cache-here, cache-there}
use Rattle.slice_core_theory.proofs.Requests.{all-earlier}
use Rattle.slice_core_theory.specs.SmallMachine.{Asked, IsSame, after, accept}
use Rattle.slice_core_theory.specs.Shows.{IsAccounted, Leads, Waits, request_of_target, small_machine_of}
use Rattle.slice_core_spec.specs.View.{View, first_word, cache_at, with_cache}
use Rattle.slice_log.specs.Log.{initially}
use Rattle.target_list.specs.declared.target.Target.{Target}

-- One tag names this entry where the other does.
abbrev pub NamesSame : TagState → TagState → ℕ → Type 0
NamesSame one other number =
    (one ≡ tag_states.Performed number → other ≡ tag_states.Performed number)
    × (other ≡ tag_states.Performed number → one ≡ tag_states.Performed number)

abbrev pub KeepsName : View → View → CoreId → ℕ → ℕ → Type 0
KeepsName old new core tag number =
    NamesSame (tag_at (cache_at old core) tag) (tag_at (cache_at new core) tag) number

-- One target has joined those of a core's line, and the same entries are named.
pub record Opens (old new : View) (core : CoreId) (local : Local) (target : Target) : Type 0 where
  pub lines : new.lines ≡ old.lines
  pub init : new.init ≡ old.init
  pub log : new.log ≡ old.log
  pub adds : AddsTarget (cache_at old core).misses (cache_at new core).misses local.0 target
  pub others : (other : CoreId) → other.0 ≢ core.0 → (cache_at new other).misses ≡ (cache_at old other).misses
  pub names : (other : CoreId) (tag number : ℕ) → KeepsName old new other tag number

module _ (old new : View) (core : CoreId) (local : Local) (target : Target) (opens : Opens old new core local target)
  where
    abbrev at_place : View → CoreId → ℕ → List Target
    at_place v other line = targets_of (cache_at v other).misses line

    -- What waited waits.
    more_here : (line : ℕ) (t : Target) → Contains (at_place old core line) t → Contains (at_place new core line) t
    more_here line t there =
        ⊎_elim
        (λ same.
        subst (λ n. Contains (at_place new core n) t) (sym same)
        (subst (λ ts. Contains ts t) (sym opens.adds.here)
        (Contains-append_left (at_place old core local.0) (target ∷ []) t
        (subst (λ n. Contains (at_place old core n) t) same there))))
        (λ apart. subst (λ ts. Contains ts t) (sym (opens.adds.others line apart)) there) (cases_eq line local.0)

    more : (other : CoreId) (line : ℕ) (t : Target) → Contains (at_place old other line) t
        → Contains (at_place new other line) t
    more other line t there =
        ⊎_elim
        (λ same.
        let is = same_core other core same in
        subst (λ c. Contains (at_place new c line) t) (sym is)
        (more_here line t (subst (λ c. Contains (at_place old c line) t) is there)))
        (λ apart.
        subst (λ (m : List Register). Contains (targets_of m line) t) (sym (opens.others other apart)) there)
        (cases_eq other.0 core.0)

    -- What waits waited, or is the target.
    fewer_here : (line : ℕ) (t : Target) → Contains (at_place new core line) t
        → Contains (at_place old core line) t ⊎ ((line ≡ local.0) × (target ≡ t))
    fewer_here line t there =
        ⊎_elim
        (λ same.
        ⊎_elim
        (λ before. inl (subst (λ n. Contains (at_place old core n) t) (sym same) before)) (λ is. inr (same, is))
        (Contains-push_cases (at_place old core local.0) target t
        (subst (λ ts. Contains ts t) opens.adds.here (subst (λ n. Contains (at_place new core n) t) same there))))
        (λ apart. inl (subst (λ ts. Contains ts t) (opens.adds.others line apart) there)) (cases_eq line local.0)

    fewer : (other : CoreId) (line : ℕ) (t : Target) → Contains (at_place new other line) t
        → Contains (at_place old other line) t ⊎ ((other.0 ≡ core.0) × (line ≡ local.0) × (target ≡ t))
    fewer other line t there =
        ⊎_elim
        (λ same.
        let is = same_core other core same in
        ⊎_elim
        (λ before. inl (subst (λ c. Contains (at_place old c line) t) (sym is) before))
        (λ new. inr (same, new.0, new.1))
        (fewer_here line t (subst (λ c. Contains (at_place new c line) t) is there)))
        (λ apart. inl (subst (λ (m : List Register). Contains (targets_of m line) t) (opens.others other apart) there))
        (cases_eq other.0 core.0)

    abbrev request : Asked
    request = request_of_target (first_word old local) core target

    waits_new : Waits new request
    waits_new = record {
      local = local;
      target = target;
      there = subst (λ ts. Contains ts target) (sym opens.adds.here) (Contains-push (at_place old core local.0) target);
      same = rw opens.lines refl;
    }

    same_place : (a : Local) (c : CoreId) (t : Target) → c.0 ≡ core.0 → a.0 ≡ local.0 → target ≡ t
        → request_of_target (first_word old a) c t ≡ request
    same_place a c t core_is local_is target_is =
        let placed : ℕ → Local = λ n. record { 0 = n } in
        ap (λ n. request_of_target (first_word old (placed n)) c t) local_is
        ∙ ap (λ d. request_of_target (first_word old local) d t) (same_core c core core_is)
        ∙ ap (request_of_target (first_word old local) core) (sym target_is)

    waits_old : (r : Asked) → Waits new r → Waits old r ⊎ (r ≡ request)
    waits_old r waits =
        let same : r ≡ request_of_target (first_word old waits.local) r.core waits.target =
        rw opens.lines at waits.same in
        ⊎_elim (λ before. inl (record { local = waits.local; target = waits.target; there = before; same = same }))
        (λ is. inr (same ∙ same_place waits.local r.core waits.target is.0 is.1 is.2))
        (fewer r.core waits.local.0 waits.target waits.there)

    pub opens_same : IsSame (after (initially old.init) (small_machine_of old) (accept request)) (small_machine_of new)
    opens_same = record {
      log = sym opens.log;
      waiting = λ r. (
        λ waits.
            ⊎_elim
            (λ before. record {
              local = before.local;
              target = before.target;
              there = more r.core before.local.0 before.target before.there;
              same = rw opens.lines before.same;
            })
            (λ is. subst (Waits new) (sym is) waits_new) waits,
        waits_old r,
      );
      replies = λ number. (
        λ named. record {
          core = named.core;
          tag = named.tag;
          names = (opens.names named.core named.tag number).0 named.names;
        },
        λ named. record {
          core = named.core;
          tag = named.tag;
          names = (opens.names named.core named.tag number).1 named.names;
        },
      );
    }

-- ---- a tag that opens

Open_apart : (number : ℕ) → tag_states.Open ≢ tag_states.Performed number
Open_apart number same = cc

-- A free tag that opens names no entry, and the others name what they did.
pub tags-open : (states : List TagState) (opened tag number : ℕ) → tag_in states opened ≡ tag_states.Free
    → NamesSame (tag_in states tag) (tag_in (slice_set states opened tag_states.Open) tag) number
tags-open states opened tag number free =
    ⊎_elim
    (λ same. (
      λ names. absurd (Free_apart number (sym free ∙ ap (tag_in states) (sym same) ∙ names)),
      λ names. absurd (here (ap (tag_in (slice_set states opened tag_states.Open)) (sym same) ∙ names)),
    ))
    (λ apart.
    let is = get_or-set_other states opened tag tag_states.Open tag_states.Free apart in (
      λ names. is ∙ names,
      λ names. sym is ∙ names,
    )) (cases_eq tag opened)
  where
    here : tag_in (slice_set states opened tag_states.Open) opened ≡ tag_states.Performed number → ⊥
    here names =
        ⊎_elim
        (λ inside.
        Open_apart number (sym (get_or-set_same states opened tag_states.Open tag_states.Free inside) ∙ names))
        (λ past.
        let long = length-set states opened tag_states.Open in
        Free_apart number
        (sym (get_or_past (slice_set states opened tag_states.Open) opened tag_states.Free (omega (arith, long, past)))
        ∙ names))
        (cases_lt opened (length states))

-- The core's cache with one more target and its tag, in a slice that shows the same as before.
pub opens-by : (old v : View) (core : CoreId) (cache : CoreCacheView) (local : Local) (target : Target) →
    ShowsSame old v
    → core.0 < length v.caches → AddsTarget (cache_at old core).misses cache.misses local.0 target
    → tag_at (cache_at old core) target.tag ≡ tag_states.Free
    → cache.tags ≡ slice_set (cache_at old core).tags target.tag tag_states.Open
    → Opens old (with_cache v core cache) core local target
opens-by old v core cache local target same known adds free states = record {
  lines = same.lines;
  init = same.init;
  log = same.log;
  adds =
      subst (λ (s : CoreCacheView). AddsTarget (cache_at old core).misses s.misses local.0 target)
      (sym (cache-here v core cache known core refl)) adds;
  others = λ other apart. ap (λ (s : CoreCacheView). s.misses) (cache-there v core cache other apart)
      ∙ same.misses other;
  names = λ other tag number. ⊎_elim (here other tag number) (there other tag number) (cases_eq other.0 core.0);
}
  where
    here : (other : CoreId) (tag number : ℕ) → other.0 ≡ core.0 →
        KeepsName old (with_cache v core cache) other tag number
    here other tag number is =
        let opening = tags-open (cache_at old core).tags target.tag tag number free in
        let was = ap (λ c. tag_at (cache_at old c) tag) (same_core other core is) in
        let now =
        ap (λ (s : CoreCacheView). tag_at s tag) (cache-here v core cache known other is)
        ∙ ap (λ t. tag_in t tag) states in (
          λ names. now ∙ opening.0 (sym was ∙ names),
          λ names. was ∙ opening.1 (sym now ∙ names),
        )

    there : (other : CoreId) (tag number : ℕ) → other.0 ≢ core.0
        → KeepsName old (with_cache v core cache) other tag number
    there other tag number apart =
        let is =
        ap (λ (s : CoreCacheView). tag_at s tag) (cache-there v core cache other apart)
        ∙ ap (λ t. tag_in t tag) (same.tags other) in (
          λ names. is ∙ names,
          λ names. sym is ∙ names,
        )

-- The core's next request is none that waits: it can be accepted, and waits then.
pub accept_leads : (old new : View) (core : CoreId) (local : Local) (target : Target) → IsAccounted old
    → Opens old new core local target → target.seq ≡ (cache_at old core).accepted → target.since ≡ length old.log
    → Leads (accept (request_of_target (first_word old local) core target) ∷ []) old new
accept_leads old new core local target accounted opens next now = record {
  init = opens.init;
  run = (
    (
      now,
      λ other waits core_is.
          let below = all-earlier old accounted core other waits core_is in
          omega (arith, below, next),
    ),
    opens_same old new core local target opens,
  );
}
