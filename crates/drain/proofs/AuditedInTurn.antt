-- An audit is whole once its parts were done one after the other.
use Rattle.std.proofs.Common.{◌≡◌, ◌≤◌, ◌∙◌, List, [], ◌∷◌, map, ap, arith, length, refl}
use Rattle.std.specs.List.{refill}
use Rattle.std.proofs.lemmas.List.{length-map}
use Rattle.address_map.specs.declared.config.Config.{Config}
use Rattle.core_thread_system.specs.Core.{CoreView}
use Rattle.drain.specs.Audited.{AreSettledBelow, IsAudited}
use Rattle.drain.specs.Owned.{AreOwnBelow}
use Rattle.drain.specs.Receipts.{receipts_by_core}
use Rattle.drain.specs.Valued.{settled_counter, unset_counter}
use Rattle.drain.specs.Whole.{AreConfigured, AreWhole}
use Rattle.drain.specs.declared.report.CounterValue.{CounterValue}
use Rattle.drain.proofs.Accepted.{all-accepted}
use Rattle.drain.proofs.Valued.{counters-after, settled-with}
use Rattle.receipt_ledger.specs.declared.receipt.Receipt.{Receipt}

pub audited : (c : Config) (cores : List CoreView) (receipts : List Receipt) (counters : List CounterValue)
    → 1 ≤ c.slices → c.slices ≤ 4 → AreWhole c cores → AreConfigured c cores → AreSettledBelow c cores c.slices
    → AreOwnBelow c cores c.cores → receipts ≡ receipts_by_core c cores
    → counters ≡ map (settled_counter c cores) c.counters → IsAudited c cores receipts counters
audited c cores receipts counters some few whole known settled own gathered set = record {
  whole = whole;
  receipts_are = gathered;
  accepted = ap (λ (rs : List Receipt). length rs) gathered ∙ all-accepted c cores few known settled;
  counters_are = set ∙ counters-after c cores receipts some few known own gathered;
  history = settled-with c cores counters set settled;
}

refill-whole : {X : Type 0} (xs ys : List X) → length ys ≡ length xs → refill (length xs) xs ys ≡ ys
refill-whole [] [] same = refl
refill-whole [] (y ∷ ys) same = absurd (omega (arith, same))
refill-whole (x ∷ xs) [] same = absurd (omega (arith, same))
refill-whole (x ∷ xs) (y ∷ ys) same = ap (λ zs. y ∷ zs) (refill-whole xs ys (omega (arith, same)))

-- The table of counters is what the settling made of it.
pub written-back : (config c : Config) (cores : List CoreView) (unset set shown : List CounterValue) → config ≡ c
    → unset ≡ map unset_counter config.counters → set ≡ map (settled_counter c cores) c.counters
    → shown ≡ refill (length unset) unset set → shown ≡ map (settled_counter c cores) c.counters
written-back config c cores unset set shown named first last read =
    let before = ap (λ (ks : List CounterValue). length ks) first ∙ length-map config.counters unset_counter in
    let after = ap (λ (ks : List CounterValue). length ks) last ∙ length-map c.counters (settled_counter c cores) in
    let long = ap (λ (x : Config). length x.counters) named in
    read ∙ refill-whole unset set (omega (arith, before, after, long)) ∙ last
