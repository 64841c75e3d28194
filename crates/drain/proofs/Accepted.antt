-- The receipts gathered are as many as the requests accepted.
use Rattle.std.proofs.Common.{◌≡◌, ℕ, ◌<◌, ◌≤◌, ◌∙◌, List, [], ◌∷◌, length, true, if◌then◌else◌, refl, sym, ap, arith}
use Rattle.std.proofs.Common.{sum_by, filter, length-append, lt-ltb}
use Rattle.std.specs.Prelude.{◌==◌, nat_lt}
use Rattle.std.specs.List.{AllByRecursion, range_with_len}
use Rattle.std.proofs.lemmas.List.Sums.{sum_by-cons}
use Rattle.address_map.specs.declared.config.Config.{Config}
use Rattle.core_thread_system.specs.Core.{CoreView, accepted_of, port_at, receipts_of}
use Rattle.drain.specs.Audited.{AreSettledBelow}
use Rattle.drain.specs.Receipts.{accepted_by, ports_of, receipts_at, receipts_by_core, receipts_of_core}
use Rattle.drain.proofs.Sums.{IsAdditive, additive-flat_map, by-number, sum_by-range, sum_by-same, sum_by-swap}
use Rattle.receipt_ledger.specs.History.{receipts_in}
use Rattle.receipt_ledger.specs.Settled.{accepted_in}
use Rattle.receipt_ledger.specs.declared.receipt.Receipt.{Receipt}

-- A measure that adds up is that of all cores' receipts, slice by slice.
pub by-slice : (c : Config) (cores : List CoreView) (f : List Receipt → ℕ) → IsAdditive f
    → AllByRecursion (λ (v : CoreView). v.core.0 < c.cores) cores
    → f (receipts_by_core c cores)
    ≡ sum_by (λ slice. sum_by (λ v. f (receipts_of v slice)) cores) (range_with_len 0 c.slices)
by-slice c cores f adds below =
    additive-flat_map f adds (receipts_at c cores) (range_with_len 0 c.cores)
    ∙ sum_by-same (λ number. f (receipts_at c cores number))
    (λ number. sum_by (λ v. f (receipts_of_core c v)) (filter (λ v. v.core.0 == number) cores))
    (λ number. additive-flat_map f adds (receipts_of_core c) (filter (λ v. v.core.0 == number) cores))
    (range_with_len 0 c.cores)
    ∙ by-number (λ v. v.core.0) (λ v. f (receipts_of_core c v)) c.cores cores below
    ∙ sum_by-same (λ v. f (receipts_of_core c v)) (λ v. sum_by (λ slice. f (receipts_of v slice))
    (range_with_len 0 c.slices))
    (λ v. additive-flat_map f adds (receipts_of v) (range_with_len 0 c.slices)) cores
    ∙ sum_by-swap (λ v slice. f (receipts_of v slice)) cores (range_with_len 0 c.slices)

-- that of a slice's receipts
pub in-slice : (f : List Receipt → ℕ) → IsAdditive f → (cores : List CoreView) (slice : ℕ) → nat_lt slice 4 ≡ true
    → sum_by (λ v. f (receipts_of v slice)) cores ≡ f (receipts_in (ports_of cores slice))
in-slice f adds [] slice known = sym adds.none
in-slice f adds (v ∷ cores) slice known =
    let rest = in-slice f adds cores slice known in
    let whole = sum_by-cons (λ (u : CoreView). f (receipts_of u slice)) v cores in
    let here = ap f (ap (λ b. if b then (port_at v slice).receipts else []) known) in
    let both = adds.both (port_at v slice).receipts (receipts_in (ports_of cores slice)) in
    omega (arith, rest, whole, here, both)

accepted-in-slice : (cores : List CoreView) (slice : ℕ) → nat_lt slice 4 ≡ true
    → sum_by (λ v. accepted_of v slice) cores ≡ accepted_in (ports_of cores slice)
accepted-in-slice [] slice known = refl
accepted-in-slice (v ∷ cores) slice known =
    let rest = accepted-in-slice cores slice known in
    let whole = sum_by-cons (λ (u : CoreView). accepted_of u slice) v cores in
    let here = ap (λ b. length (if b then (port_at v slice).asked else [])) known in
    omega (arith, rest, whole, here)

length-additive : IsAdditive {X = Receipt} length
length-additive = record { none = refl; both = length-append }

pub all-accepted : (c : Config) (cores : List CoreView) → c.slices ≤ 4
    → AllByRecursion (λ (v : CoreView). v.core.0 < c.cores) cores → AreSettledBelow c cores c.slices
    → length (receipts_by_core c cores) ≡ accepted_by c cores
all-accepted c cores few below settled =
    by-slice c cores length length-additive below
    ∙ sum_by-range (λ slice. sum_by (λ v. length (receipts_of v slice)) cores)
    (λ slice. sum_by (λ v. accepted_of v slice) cores) 0 c.slices
    (λ slice from within.
    let configured : slice < c.slices = omega (arith, within) in
    let known = lt-ltb slice 4 (omega (arith, configured, few)) in
    in-slice length length-additive cores slice known ∙ (settled slice configured).1.handed
    ∙ sym (accepted-in-slice cores slice known))
    ∙ sym (sum_by-swap (λ v slice. accepted_of v slice) cores (range_with_len 0 c.slices))
