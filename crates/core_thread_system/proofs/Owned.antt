-- A port's own receipts are those of its core's port of the slice.
use Rattle.std.proofs.Common.{◌≡◌, ℕ, List, subst}
use Rattle.address_map.specs.declared.address.CoreId.{CoreId}
use Rattle.address_map.specs.declared.config.Config.{Config}
use Rattle.receipt_ledger.specs.Port.{AreOwn}
use Rattle.receipt_ledger.specs.declared.receipt.Receipt.{Receipt}

-- Receipts that are a slice's own are those of the same machine's slice of the same number, for the same core.
pub same-own : (c d : Config) (number other : ℕ) (core owner : CoreId) (receipts : List Receipt)
    → d ≡ c → other ≡ number → core ≡ owner → AreOwn d other core receipts → AreOwn c number owner receipts
same-own c d number other core owner receipts setup named of own =
    subst (λ (x : CoreId). AreOwn c number x receipts) of
    (subst (λ (n : ℕ). AreOwn c n core receipts) named (subst (λ (x : Config). AreOwn x other core receipts) setup own))
