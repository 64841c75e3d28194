-- The receipts of several cores in one order, and how many requests these were accepted for.
use Rattle.std.specs.Prelude.{ℕ, ◌==◌, List, filter, map, sum_by}
use Rattle.std.specs.List.{flat_map, range_with_len}
use Rattle.address_map.specs.declared.config.Config.{Config}
use Rattle.core_thread_system.specs.Core.{CoreView, accepted_of, port_at, receipts_of}
use Rattle.receipt_ledger.specs.Port.{PortView}
use Rattle.receipt_ledger.specs.declared.receipt.Receipt.{Receipt}

-- the numbers below this one, ascending
abbrev pub numbers_below : ℕ → List ℕ
numbers_below limit = range_with_len 0 limit

-- the receipts of a core: its slices ascending, of each in the order in which they were handed out
abbrev pub receipts_of_core : Config → CoreView → List Receipt
receipts_of_core c v = flat_map (λ slice. receipts_of v slice) (numbers_below c.slices)

-- those of the core of this number
abbrev pub receipts_at : Config → List CoreView → ℕ → List Receipt
receipts_at c cores number = flat_map (λ v. receipts_of_core c v) (filter (λ v. v.core.0 == number) cores)

-- those of all cores, by ascending number
abbrev pub receipts_by_core : Config → List CoreView → List Receipt
receipts_by_core c cores = flat_map (λ number. receipts_at c cores number) (numbers_below c.cores)

-- how many requests of these cores the machine's slices accepted
abbrev pub accepted_by : Config → List CoreView → ℕ
accepted_by c cores = sum_by (λ v. sum_by (λ slice. accepted_of v slice) (numbers_below c.slices)) cores

-- the cores' ports of the slice of this number
abbrev pub ports_of : List CoreView → ℕ → List PortView
ports_of cores slice = map (λ v. port_at v slice) cores
