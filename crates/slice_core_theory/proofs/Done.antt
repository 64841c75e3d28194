-- A request that is performed at once: it is accepted, performed and handed out.
use Rattle.std.proofs.Common.{◌≡◌, ◌/◌, false, List, [], ◌∷◌, ◌++◌, length, inl, inr, refl, sym, ap, ◌∙◌, subst, ⊎_elim}
use Rattle.std.proofs.Common.{arith}
use Rattle.std.specs.Prelude.{Contains}
use Rattle.std.proofs.lemmas.Option.{slice_get_within}
use Rattle.address_map.specs.Locator.{line_at}
use Rattle.address_map.specs.declared.address.CoreId.{CoreId}
use Rattle.address_map.specs.declared.address.Local.{Local}
use Rattle.mshr_file.specs.Miss.{has_miss, is_waited, targets_of}
use Rattle.slice_core_theory.proofs.Kept.{named-known, same_core, waits-in}
use Rattle.slice_core_theory.proofs.Requests.{all-earlier, logged, none-contained, request_of, waits-on}
use Rattle.slice_core_theory.specs.SmallMachine.{Asked, IsNewest, IsOldest, IsSame, SmallMachine, accept, after, hand}
use Rattle.slice_core_theory.specs.SmallMachine.{perform}
use Rattle.slice_core_theory.specs.Shows.{IsAccounted, IsNamed, Leads, Waits, small_machine_of}
use Rattle.slice_core_spec.specs.View.{View, cache_at}
use Rattle.slice_log.specs.Log.{IsLegal, initially}
use Rattle.slice_log.specs.declared.entry.Entry.{Entry}
use Rattle.target_list.specs.declared.target.Target.{Target}

-- Each core has the same misses and tags, and one entry was performed.
pub record Logs (old new : View) (entry : Entry) : Type 0 where
  pub lines : new.lines ≡ old.lines
  pub init : new.init ≡ old.init
  pub log : new.log ≡ old.log ++ entry ∷ []
  pub misses : (core : CoreId) → (cache_at new core).misses ≡ (cache_at old core).misses
  pub tags : (core : CoreId) → (cache_at new core).tags ≡ (cache_at old core).tags

-- Where no access waits for a line it has no target.
none-waits : (targets : List Target) (target : Target) → is_waited targets ≡ false → Contains targets target → ⊥
none-waits [] target idle there = none-contained target there
none-waits (first ∷ targets) target idle there = cc

-- A reply has a number within the log.
named-within : (v : View) → IsAccounted v → IsNamed v (length v.log) → ⊥
named-within v accounted named =
    let account = accounted.accounts named.core
    (named-known v named.core named.tag (length v.log) named.names) in
    let entry = account.tags.replies named.tag (length v.log) named.names in
    let within = slice_get_within v.log (length v.log) entry.0 entry.1 in
    omega (arith, within)

module _ (old new : View) (local : Local) (entry : Entry) (accounted : IsAccounted old) (logs : Logs old new entry)
    (own : entry.seq ≡ (cache_at old entry.core).accepted) (now : entry.since ≡ length old.log)
    (on : entry.word.0 / 8 ≡ (line_at old.lines local).0)
    (idle : has_miss (cache_at old entry.core).misses local.0 ≡ false)
    (legal : IsLegal (initially old.init) new.log) where
  abbrev request : Asked
  request = request_of entry

  abbrev accepted : SmallMachine
  accepted = after (initially old.init) (small_machine_of old) (accept request)

  abbrev performed : SmallMachine
  performed = after (initially old.init) accepted (perform request)

  newest : IsNewest (small_machine_of old) request
  newest other waits core_is =
      let below = all-earlier old accounted entry.core other waits core_is in
      omega (arith, below, own)

  is_new : Waits old request → ⊥
  is_new waits = let below = newest request waits refl in omega (arith, below)

  -- No other request of the core waits on the line.
  oldest : IsOldest accepted request
  oldest other waiting core_is line_is =
      ⊎_elim
      (λ waits.
      let same = same_core other.core entry.core core_is in
      let here = waits-on old accounted other local waits (line_is ∙ on) in
      let there = subst (λ c. Contains (targets_of (cache_at old c).misses waits.local.0) waits.target) same waits.there
      in
      absurd (none-waits (targets_of (cache_at old entry.core).misses local.0) waits.target idle
      (subst (λ n. Contains (targets_of (cache_at old entry.core).misses n) waits.target) here there)))
      (λ is. let equal = ap (λ (r : Asked). r.seq) is in omega (arith, equal)) waiting

  same_log : old.log ++ entry ∷ [] ≡ new.log
  same_log = sym logs.log

  performed_entry : performed.log ≡ new.log
  performed_entry =
      ap (λ e. old.log ++ e ∷ [])
      (logged (initially old.init) old.log [] entry (subst (IsLegal (initially old.init)) logs.log legal)) ∙ same_log

  done_same : IsSame (after (initially old.init) performed (hand (length old.log))) (small_machine_of new)
  done_same = record {
    log = performed_entry;
    waiting = λ r. (
      λ waits.
          ⊎_elim (λ before. waits-in old new r logs.lines (logs.misses r.core) before)
          (λ is. absurd (waits.1 is)) waits.0,
      λ waits.
          let before = waits-in new old r (sym logs.lines) (sym (logs.misses r.core)) waits in (
            inl before,
            λ is. is_new (subst (Waits old) is before),
          ),
    );
    replies = λ number. (
      λ named.
          ⊎_elim
          (λ before. record { core = before.core; tag = before.tag; names = rw (logs.tags before.core) before.names })
          (λ is. absurd (named.1 is)) named.0,
      λ named.
          let before : IsNamed old number =
          record { core = named.core; tag = named.tag; names = rw (sym (logs.tags named.core)) named.names } in (
            inl before,
            λ is. named-within old accounted (subst (IsNamed old) is before),
          ),
    );
  }

  pub done_leads : Leads (accept request ∷ perform request ∷ hand (length old.log) ∷ []) old new
  done_leads = record {
    init = logs.init;
    run = ((now, newest), ((inr refl, oldest), (inr refl, done_same)));
  }
