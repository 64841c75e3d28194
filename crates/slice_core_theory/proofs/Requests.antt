-- Requests that wait: which line each is on, that none is numbered like the next one, and what its entry is.
use Rattle.std.proofs.Common.{◌≡◌, ℕ, ◌+◌, ◌*◌, ◌/◌, ◌%◌, ◌<◌, List, [], ◌∷◌, ◌++◌, length, Some, inl, inr, refl, sym}
use Rattle.std.proofs.Common.{ap, ◌∙◌, subst, arith}
use Rattle.std.specs.Prelude.{Contains, slice_get}
use Rattle.std.proofs.Math.Seq.{take-append_seam}
use Rattle.std.proofs.lemmas.List.Elements.{All-contains}
use Rattle.address_map.specs.Locator.{IsOfMachine, Lines, line_at}
use Rattle.address_map.specs.declared.address.CoreId.{CoreId}
use Rattle.address_map.specs.declared.address.Local.{Local}
use Rattle.mshr_file.specs.Miss.{targets_of}
use Rattle.slice_log.specs.Log.{IsLegal, value}
use Rattle.slice_log.specs.Op.{reply_of}
use Rattle.slice_log.specs.declared.entry.Entry.{Entry}
use Rattle.slice_core_theory.proofs.Kept.{same_core}
use Rattle.slice_core_theory.specs.SmallMachine.{Asked, entry_for}
use Rattle.slice_core_theory.specs.Shows.{IsAccounted, Waits}
use Rattle.slice_core_spec.specs.View.{View, first_word, no_cache, cache_at}
use Rattle.slice_core_cache.specs.Targets.{IsPerformable}
use Rattle.slice_core_theory.proofs.StandingFacts.{all-performable, targets-below}
use Rattle.std.proofs.lemmas.Bool.{cases_lt}
use Rattle.std.proofs.lemmas.List.{get_or_past}
use Rattle.target_list.specs.declared.target.Target.{Target}

-- ---- lines

-- Another place is another line.
pub one_line : (own : Lines) → IsOfMachine own → (a b : Local) → (line_at own a).0 ≡ (line_at own b).0 → a.0 ≡ b.0
one_line own machine a b same = elim machine.few_slices [
  | inl one ↦ let now = at_count 1 one in omega (arith, now)
  | inr more ↦ elim more [
    | inl two ↦ let now = at_count 2 two in omega (arith, now)
    | inr four ↦ let now = at_count 4 four in omega (arith, now)
  ]
]
  where
    at_count : (n : ℕ) → own.slices ≡ n → a.0 * n + own.slice ≡ b.0 * n + own.slice
    at_count n is = subst (λ k. a.0 * k + own.slice ≡ b.0 * k + own.slice) is same

-- A word of a line leads back to the line.
pub word_line : (v : View) (local : Local) (offset : ℕ) → offset < 8
    → (first_word v local + offset) / 8 ≡ (line_at v.lines local).0
word_line v local offset small = by (line_at v.lines local).0
  where
    by : (line : ℕ) → (8 * line + 0 + offset) / 8 ≡ line
    by line = omega (arith, small)

-- A word is at its offset from the first word of its line.
pub word_at_offset : (v : View) (local : Local) (word : ℕ) → word / 8 ≡ (line_at v.lines local).0
    → first_word v local + word % 8 ≡ word
word_at_offset v local word = by (line_at v.lines local).0
  where
    by : (line : ℕ) → word / 8 ≡ line → 8 * line + 0 + word % 8 ≡ word
    by line is = omega (arith, is)

-- ---- what waits

pub none-contained : {X : Type 0} (x : X) → Contains [] x → ⊥
none-contained x there = let inside = there.1 in omega (arith, inside)

-- A core for which a target waits is there.
pub waits-known : (v : View) (core : CoreId) (line : ℕ) (target : Target)
    → Contains (targets_of (cache_at v core).misses line) target → core.0 < length v.caches
waits-known v core line target there = elim (cases_lt core.0 (length v.caches)) [
  | inl known ↦ known
  | inr past ↦ absurd (none-contained target
      (subst (λ cache. Contains (targets_of cache.misses line) target) (get_or_past v.caches core.0 no_cache past)
      there))
]

module _ (v : View) (accounted : IsAccounted v) where
  pub waits-performable : (core : CoreId) (line : ℕ) (target : Target)
      → Contains (targets_of (cache_at v core).misses line) target → IsPerformable target
  waits-performable core line target there =
      let account = accounted.accounts core (waits-known v core line target there) in
      All-contains IsPerformable (targets_of (cache_at v core).misses line) target
      (all-performable v.log (cache_at v core).misses line account.waits) there

  pub waits-below : (core : CoreId) (line : ℕ) (target : Target)
      → Contains (targets_of (cache_at v core).misses line) target → target.seq < (cache_at v core).accepted
  waits-below core line target there =
      let account = accounted.accounts core (waits-known v core line target there) in
      All-contains (λ t. t.seq < (cache_at v core).accepted) (targets_of (cache_at v core).misses line) target
      (targets-below v.log core.0 (cache_at v core).misses (cache_at v core).accepted line account.standing) there

  -- A request that waits on the line of a place is a target of that place.
  pub waits-on : (r : Asked) (local : Local) → (waits : Waits v r) → r.word.0 / 8 ≡ (line_at v.lines local).0
      → waits.local.0 ≡ local.0
  waits-on r local waits on =
      let can = waits-performable r.core waits.local.0 waits.target waits.there in
      let of = ap (λ (a : Asked). a.word.0 / 8) waits.same in
      one_line v.lines accounted.machine waits.local local
      (sym (word_line v waits.local waits.target.offset.0 can.word) ∙ sym of ∙ on)

  -- What waits has a number that was given out.
  pub numbered-below : (r : Asked) → Waits v r → r.seq < (cache_at v r.core).accepted
  numbered-below r waits =
      let below = waits-below r.core waits.local.0 waits.target waits.there in
      let same = ap (λ (a : Asked). a.seq) waits.same in omega (arith, below, same)

  -- So it was accepted before the core's next request.
  pub all-earlier : (core : CoreId) (other : Asked) → Waits v other → other.core.0 ≡ core.0
      → other.seq < (cache_at v core).accepted
  all-earlier core other waits core_is =
      subst (λ c. other.seq < (cache_at v c).accepted) (same_core other.core core core_is) (numbered-below other waits)

-- ---- the log

-- the request of an entry
abbrev pub request_of : Entry → Asked
request_of e = record { op = e.op; word = e.word; seq = e.seq; since = e.since; core = e.core; tag = e.tag }

next-entry : {X : Type 0} (log more : List X) (e : X) → slice_get (log ++ e ∷ more) (length log) ≡ Some e
next-entry [] more e = refl
next-entry (d ∷ log) more e = next-entry log more e

-- In a legal log an entry is that of its request, performed after the entries before it.
pub logged : (initial : ℕ → ℕ) (log more : List Entry) (e : Entry) → IsLegal initial (log ++ e ∷ more)
    → entry_for initial log (request_of e) ≡ e
logged initial log more e legal =
    let reply = legal.replies (length log) e (next-entry log more e) in
    ap (λ answer. record {
      op = e.op;
      word = e.word;
      seq = e.seq;
      reply = answer;
      since = e.since;
      core = e.core;
      tag = e.tag;
    })
    (sym (reply ∙ ap (λ l. reply_of e.op (value (initial e.word.0) l e.word.0)) (take-append_seam log (e ∷ more))))
