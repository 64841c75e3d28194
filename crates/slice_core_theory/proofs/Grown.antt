-- The account as the log grows: what was performed stays there, and entries of other cores change nothing.
use Rattle.std.proofs.Common.{◌≡◌, ◌≢◌, ℕ, ◌*◌, ◌/◌, ◌<◌, true, false, not, List, [], ◌++◌, length, sym, ap, ◌∙◌, arith}
use Rattle.std.specs.Prelude.{count_by, nat_le, All}
use Rattle.std.proofs.Math.Nat.{mul-div_cancel}
use Rattle.std.proofs.lemmas.Bool.{and_left, and_parts, ne_eqb, leb-false, lt-leb, not-true, not_from_false}
use Rattle.std.proofs.lemmas.List.{length-append}
use Rattle.std.proofs.lemmas.List.Elements.{All-append, All-weaker}
use Rattle.address_map.specs.Locator.{Lines, line_at}
use Rattle.address_map.specs.declared.address.Local.{Local}
use Rattle.mshr_file.specs.declared.registers.Register.{Register}
use Rattle.slice_core_cache.specs.declared.tags.TagState.{TagState}
use Rattle.slice_core_theory.proofs.Lists.{count_by-append, count_by-more, count_by-none, count_of-more}
use Rattle.slice_core_theory.proofs.Lists.{slice_get-kept}
use Rattle.slice_core_theory.specs.Standing.{is_of, is_request, is_asked_by, HasNoEntry, CanWait, HasTags, IsAhead}
use Rattle.slice_core_theory.specs.Standing.{IsAccount, standings}
use Rattle.slice_log.specs.declared.entry.Entry.{Entry}
use Rattle.target_list.specs.declared.target.Target.{Target}

-- ---- lines

-- A line has one place in its slice.
pub one_place : (lines : Lines) (a b : Local) → lines.slice < lines.slices → (line_at lines a).0 ≡ (line_at lines b).0
    → a.0 ≡ b.0
one_place lines a b few same =
    let dealt : a.0 * lines.slices ≡ b.0 * lines.slices = omega (arith, same) in
    let some : 0 < lines.slices = omega (arith, few) in
    sym (mul-div_cancel a.0 some) ∙ ap (λ n. n / lines.slices) dealt ∙ mul-div_cancel b.0 some

-- ---- what waits, and tags

pub CanWait-grown : (log more : List Entry) (misses : List Register) → CanWait log misses → CanWait (log ++ more) misses
CanWait-grown log more misses waits = record {
  file = waits.file;
  performable = waits.performable;
  asked =
      let fewer = count_of-more (λ t. not (is_asked_by (length (log ++ more)) t))
      (λ t. not (is_asked_by (length log) t)) misses still in
      let before = waits.asked in
      omega (arith, fewer, before);
}
  where
    still : (target : Target) → not (nat_le target.since (length (log ++ more))) ≡ true
        → not (nat_le target.since (length log)) ≡ true
    still target late =
        let long = length-append log more in
        let above = leb-false target.since (length (log ++ more)) (not-true _ late) in
        not_from_false _ (lt-leb target.since (length log) (omega (arith, above, long)))

pub HasTags-grown : (log more : List Entry) (core : ℕ) (misses : List Register) (states : List TagState)
    → HasTags log core misses states
    → HasTags (log ++ more) core misses states
HasTags-grown log more core misses states named = record {
  sized = named.sized;
  opened = named.opened;
  replies = λ tag number is.
      let found = named.replies tag number is in
      (found.0, slice_get-kept log more number found.0 found.1, found.2, found.3);
}

-- ---- entries of other cores

-- Entries of other cores are none of this core's.
pub none-of : (core : ℕ) (more : List Entry) → All (λ entry. entry.core.0 ≢ core) more → count_by (is_of core) more ≡ 0
none-of core more others =
    count_by-none (is_of core) more
    (All-weaker (λ entry. entry.core.0 ≢ core) (λ entry. is_of core entry ≡ false)
    (λ entry other. ne_eqb entry.core.0 core other) more others)

none-request : (core seq : ℕ) (more : List Entry) → All (λ entry. entry.core.0 ≢ core) more
    → count_by (is_request core seq) more ≡ 0
none-request core seq more others =
    count_by-none (is_request core seq) more
    (All-weaker (λ entry. entry.core.0 ≢ core) (λ entry. is_request core seq entry ≡ false)
    (λ entry other. and_left _ _ (ne_eqb entry.core.0 core other)) more others)

-- Entries of other cores leave a core's account as it is.
pub account-others : (lines : Lines) (log more : List Entry) (core : ℕ) (misses : List Register)
    (states : List TagState) (accepted : ℕ)
    → All (λ entry. entry.core.0 ≢ core) more → IsAccount lines log core misses states accepted
    → IsAccount lines (log ++ more) core misses states accepted
account-others lines log more core misses states accepted others account = record {
  standing = record {
    once = λ seq.
        let both = count_by-append (is_request core seq) log more in
        let zero = none-request core seq more others in
        let before = account.standing.once seq in
        omega (arith, both, zero, before);
    counted =
        let both = count_by-append (is_of core) log more in
        let zero = none-of core more others in
        let before = account.standing.counted in
        omega (arith, both, zero, before);
  };
  waits = CanWait-grown log more misses account.waits;
  tags = HasTags-grown log more core misses states account.tags;
  order = record {
    targets = account.order.targets;
    entries =
        All-append (IsAhead lines core misses) log more account.order.entries
        (All-weaker (λ entry. entry.core.0 ≢ core) (IsAhead lines core misses)
        (λ entry other local own. absurd (other own)) more others);
  };
}

-- ---- a core that isn't there

pub no_entry-others : (core : ℕ) (log more : List Entry) → All (λ entry. entry.core.0 ≢ core) more → HasNoEntry core log
    → HasNoEntry core (log ++ more)
no_entry-others core log more others absent =
    let both = count_by-append (is_of core) log more in
    let zero = none-of core more others in
    omega (arith, both, zero, absent)

-- Its requests are nowhere: none was accepted.
pub no_entry-standings : (core seq : ℕ) (log : List Entry) → HasNoEntry core log → standings [] log core seq ≡ 0
no_entry-standings core seq log absent =
    let fewer = count_by-more (is_request core seq) (is_of core) log (λ entry passes. (and_parts _ _ passes).0) in
    omega (arith, fewer, absent)
