-- A delivery that settles a copy: the first targets of a core's line are performed, and their entries are named.
use Rattle.std.proofs.Common.{◌≡◌, ◌≢◌, ℕ, ◌+◌, ◌/◌, ◌<◌, ◌≤◌, ◌⊎◌, List, [], ◌∷◌, ◌++◌, length, map, inl, inr, refl}
use Rattle.std.proofs.Common.{sym, ap, ◌∙◌, subst, ⊎_elim, arith}
use Rattle.std.specs.Prelude.{All, Contains}
use Rattle.std.proofs.lemmas.Bool.{cases_eq}
use Rattle.std.proofs.lemmas.List.{get_or_append_left, length-append}
use Rattle.address_map.specs.declared.address.CoreId.{CoreId}
use Rattle.address_map.specs.declared.address.Local.{Local}
use Rattle.address_map.specs.Words.{IsAscendingBy}
use Rattle.address_map.specs.declared.block.Block.{Block}
use Rattle.mshr_file.specs.Miss.{TakesTargets, count_of, has_tag, targets_of}
use Rattle.mshr_file.specs.declared.registers.Register.{Register}
use Rattle.slice_core_cache.specs.Copy.{performed_on}
use Rattle.slice_core_cache.specs.Perform.{entries_of, tags_after}
use Rattle.slice_core_cache.specs.CoreCache.{tag_at}
use Rattle.slice_core_cache.specs.Tags.{tag_in}
use Rattle.slice_core_cache.specs.Targets.{IsPerformable}
use Rattle.slice_core_cache.specs.declared.tags.TagState.{TagState}
use Rattle.slice_core_cache.specs.declared.tags.TagState.TheVariants as tag_states
use Rattle.slice_core_theory.proofs.Kept.{same_core}
use Rattle.slice_core_theory.proofs.Named.{AreApart, named-each, named-out, none-has, tag-kept}
use Rattle.slice_core_theory.proofs.Performed.{IsAmong, Replying, Waiting, performed-run}
use Rattle.slice_core_theory.proofs.Requests.{waits-on, word_line}
use Rattle.slice_core_theory.specs.SmallMachine.{Asked}
use Rattle.slice_core_theory.specs.Shows.{IsAccounted, IsNamed, Performs, Waits, request_of_target, small_machine_of}
use Rattle.slice_core_spec.specs.View.{View, first_word, cache_at}
use Rattle.slice_core_theory.proofs.StandingFacts.{all-performable, each-tag_once}
use Rattle.slice_log.specs.Log.{IsLegal, initially}
use Rattle.target_list.specs.declared.target.Target.{Target}

-- The first targets of a core's line were performed on this block, and all else is as it was.
pub record HasPerformed (old new : View) (core : CoreId) (local : Local) (taken : List Target) (block : Block) : Type 0
  where
    pub lines : new.lines ≡ old.lines
    pub init : new.init ≡ old.init
    pub log : new.log ≡ old.log ++ entries_of core (first_word old local) block taken
    pub takes : TakesTargets (cache_at old core).misses (cache_at new core).misses local.0 taken
    pub tags : (cache_at new core).tags ≡ tags_after (cache_at old core).tags (length old.log) taken
    pub misses : (other : CoreId) → other.0 ≢ core.0 → (cache_at new other).misses ≡ (cache_at old other).misses
    pub names : (other : CoreId) → other.0 ≢ core.0 → (cache_at new other).tags ≡ (cache_at old other).tags

entries-length : (core : CoreId) (first : ℕ) (block : Block) (taken : List Target)
    → length (entries_of core first block taken) ≡ length taken
unfolding entries_of
entries-length core first block [] = refl
entries-length core first block (target ∷ taken) =
    let later = entries-length core first (performed_on block target.offset.0 target.op) taken in
    omega (arith, later)

requests-length : {X Y : Type 0} (f : X → Y) (xs : List X) → length (map f xs) ≡ length xs
requests-length f [] = refl
requests-length f (x ∷ xs) = let later = requests-length f xs in omega (arith, later)

All-front : {X : Type 0} (P : X → Type 0) (xs ys : List X) → All P (xs ++ ys) → All P xs
All-front P xs ys all k d inside =
    let long = length-append xs ys in
    let same = get_or_append_left xs ys d k inside in
    rw same at (all k d (omega (arith, inside, long)))

module _ (old new : View) (core : CoreId) (local : Local) (taken : List Target) (block : Block)
    (accounted : IsAccounted old) (known : core.0 < length old.caches)
    (done : HasPerformed old new core local taken block) where
  abbrev left : List Target
  left = targets_of (cache_at new core).misses local.0

  abbrev first : ℕ
  first = first_word old local

  abbrev at_place : View → CoreId → ℕ → List Target
  at_place v other line = targets_of (cache_at v other).misses line

  can_all : All IsPerformable taken
  can_all =
      All-front IsPerformable taken left
      (subst (All IsPerformable) done.takes.here
      (all-performable old.log (cache_at old core).misses local.0 (accounted.accounts core known).waits))

  -- ---- what waits

  -- a request that waits, but not for this line of the core
  record IsOther (r : Asked) : Type 0 where
    waits : Waits old r
    apart : (r.core.0 ≡ core.0) × (waits.local.0 ≡ local.0) → ⊥

  far : (r : Asked) (offset : ℕ) → offset < 8 → IsOther r → r.core.0 ≡ core.0
      → r.word.0 / 8 ≡ (first + offset) / 8 → ⊥
  far r offset small other core_is line_is =
      other.apart (core_is, waits-on old accounted r local other.waits (line_is ∙ word_line old local offset small))

  -- A request waits for this line of the core, or elsewhere.
  sort : (v : View) → v.lines ≡ old.lines → (r : Asked) → (waits : Waits v r)
      → IsAmong first core (at_place v core local.0) r ⊎ ((r.core.0 ≡ core.0) × (waits.local.0 ≡ local.0) → ⊥)
  sort v lines r waits =
      ⊎_elim
      (λ core_is.
      ⊎_elim
      (λ line_is.
      let there = same_core r.core core core_is in
      let here = subst (λ c. Contains (at_place v c waits.local.0) waits.target) there waits.there in
      let placed : ℕ → Local = λ n. record { 0 = n } in
      let same : r ≡ request_of_target (first_word old waits.local) r.core waits.target = rw lines at waits.same in
      inl (record {
        target = waits.target;
        there = subst (λ n. Contains (at_place v core n) waits.target) line_is here;
        same =
            same ∙ ap (λ n. request_of_target (first_word old (placed n)) r.core waits.target) line_is
            ∙ ap (λ c. request_of_target first c waits.target) there;
      }))
      (λ apart. inr (λ is. apart is.1)) (cases_eq waits.local.0 local.0))
      (λ apart. inr (λ is. apart is.0)) (cases_eq r.core.0 core.0)

  among-waits : (v : View) → v.lines ≡ old.lines → (r : Asked) → IsAmong first core (at_place v core local.0) r
      → Waits v r
  among-waits v lines r among =
      subst (Waits v) (sym among.same)
      (record { local = local; target = among.target; there = among.there; same = rw lines refl })

  waits_old : Waiting first core IsOther (Waits old) (taken ++ left)
  waits_old = record {
    out = λ r waits.
        ⊎_elim
        (λ among. inl (record {
          target = among.target;
          there = subst (λ ts. Contains ts among.target) done.takes.here among.there;
          same = among.same;
        }))
        (λ apart. inr (record { waits = waits; apart = apart })) (sort old refl r waits);
    back = λ r waits.
        ⊎_elim
        (λ among.
        among-waits old refl r (record {
          target = among.target;
          there = subst (λ ts. Contains ts among.target) (sym done.takes.here) among.there;
          same = among.same;
        }))
        (λ other. other.waits) waits;
  }

  -- Elsewhere the same waits.
  elsewhere : (other : CoreId) (line : ℕ) → ((other.0 ≡ core.0) × (line ≡ local.0) → ⊥)
      → at_place new other line ≡ at_place old other line
  elsewhere other line apart =
      ⊎_elim
      (λ same.
      subst (λ c. at_place new c line ≡ at_place old c line) (sym (same_core other core same))
      (done.takes.others line (λ here. apart (same, here))))
      (λ away. ap (λ (m : List Register). targets_of m line) (done.misses other away)) (cases_eq other.0 core.0)

  waits_new : Waiting first core IsOther (Waits new) left
  waits_new = record {
    out = λ r waits.
        ⊎_elim (λ among. inl among)
        (λ apart. inr (record {
          waits = record {
            local = waits.local;
            target = waits.target;
            there =
                subst (λ ts. Contains ts waits.target) (elsewhere r.core waits.local.0 apart) waits.there;
            same = rw done.lines at waits.same;
          };
          apart = apart;
        }))
        (sort new done.lines r waits);
    back = λ r waits.
        ⊎_elim (among-waits new done.lines r)
        (λ other. record {
          local = other.waits.local;
          target = other.waits.target;
          there =
              subst (λ ts. Contains ts other.waits.target) (sym (elsewhere r.core other.waits.local.0 other.apart))
              other.waits.there;
          same = rw done.lines other.waits.same;
        }) waits;
  }

  -- ---- replies

  abbrev states : List TagState
  states = (cache_at old core).tags

  sized : length states ≡ 64
  sized = (accounted.accounts core known).tags.sized

  apart_all : AreApart taken
  apart_all tag =
      let account = accounted.accounts core known in
      let once = each-tag_once old.log core.0 (cache_at old core).misses states account.tags tag in
      let parts = done.takes.counts (has_tag tag) in
      omega (arith, once, parts)

  -- A tag that names an entry is that of no target.
  none_has : (tag number : ℕ) → tag_in states tag ≡ tag_states.Performed number → All (λ target. target.tag ≢ tag) taken
  none_has tag number names =
      let count = (accounted.accounts core known).tags.opened tag in
      let none : count_of (has_tag tag) (cache_at old core).misses ≡ 0 = rw names at count in
      let parts = done.takes.counts (has_tag tag) in
      none-has tag taken (omega (arith, none, parts))

  grown : length new.log ≡ length old.log + length taken
  grown =
      let all = length-append old.log (entries_of core first block taken) in
      let each = entries-length core first block taken in
      let same = ap (λ l. length l) done.log in
      omega (arith, all, each, same)

  names_new : (other : CoreId) (tag number : ℕ) → tag_at (cache_at new other) tag ≡ tag_states.Performed number
      → IsNamed old number ⊎ ((length old.log ≤ number) × (number < length new.log))
  names_new other tag number names =
      ⊎_elim
      (λ same.
      let here = ap (λ c. tag_at (cache_at new c) tag) (sym (same_core other core same)) ∙ names in
      ⊎_elim (λ before. inl (record { core = core; tag = tag; names = before }))
      (λ between. let high = between.1 in inr (between.0, omega (arith, high, grown)))
      (named-out states (length old.log) taken tag number sized can_all
      (sym (ap (λ t. tag_in t tag) done.tags) ∙ here)))
      (λ away. inl (record {
        core = other;
        tag = tag;
        names = sym (ap (λ t. tag_in t tag) (done.names other away)) ∙ names;
      })) (cases_eq other.0 core.0)

  names_old : (other : CoreId) (tag number : ℕ) → tag_at (cache_at old other) tag ≡ tag_states.Performed number
      → IsNamed new number
  names_old other tag number names =
      ⊎_elim
      (λ same.
      let here = ap (λ c. tag_at (cache_at old c) tag) (sym (same_core other core same)) ∙ names in record {
        core = core;
        tag = tag;
        names =
            ap (λ t. tag_in t tag) done.tags
            ∙ tag-kept states (length old.log) tag taken (none_has tag number here) ∙ here;
      })
      (λ away. record {
        core = other;
        tag = tag;
        names = ap (λ t. tag_in t tag) (done.names other away) ∙ names;
      }) (cases_eq other.0 core.0)

  replies : Replying (IsNamed old) (IsNamed new) (length old.log) (length new.log)
  replies = record {
    out = λ number named. names_new named.core named.tag number named.names;
    back = λ number named.
        ⊎_elim (λ before. names_old before.core before.tag number before.names)
        (λ between.
        let high = between.1 in
        let tag =
        named-each states (length old.log) taken number sized can_all apart_all between.0 (omega (arith, high, grown))
        in
        record { core = core; tag = tag.0; names = ap (λ t. tag_in t tag.0) done.tags ∙ tag.1 }) named;
  }

  -- Each of them is performed, in order.
  pub settled_performs : IsLegal (initially old.init) new.log → Performs old new
  settled_performs legal = record {
    requests = map (request_of_target first core) taken;
    grows = grown ∙ ap (λ n. length old.log + n) (sym (requests-length (request_of_target first core) taken));
    leads = record {
      init = done.init;
      run =
          performed-run (initially old.init) first core left IsOther far taken block (small_machine_of old)
          (small_machine_of new) can_all
          (subst (λ ts. IsAscendingBy (λ t. t.seq) ts) done.takes.here
          ((accounted.accounts core known).order.targets local.0)) waits_old waits_new replies done.log legal;
    };
  }
