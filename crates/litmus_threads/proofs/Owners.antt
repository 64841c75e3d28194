-- Cores of a machine whose receipts of each slice are its own, slice by slice and core by core.
use Rattle.std.proofs.Common.{◌≡◌, ℕ, ◌+◌, ◌<◌, ◌∙◌, List, [], ◌∷◌, ◌++◌, ap, below_more, get_or, length}
use Rattle.std.proofs.Common.{subst, sym, take}
use Rattle.std.specs.List.{AllByRecursion}
use Rattle.std.proofs.lemmas.List.{take_more}
use Rattle.address_map.specs.declared.address.CoreId.{CoreId}
use Rattle.address_map.specs.declared.config.Config.{Config}
use Rattle.core_thread_system.specs.Core.{CoreView, port_at, receipts_of}
use Rattle.drain.specs.Owned.{HasItsOwn}
use Rattle.litmus_threads.specs.Made.{AreOwners}
use Rattle.receipt_ledger.specs.Port.{AreOwn}
use Rattle.receipt_ledger.specs.declared.receipt.Receipt.{Receipt}

-- The receipts of one more slice are its own.
pub own-below : (c : Config) (limit : ℕ) (v : CoreView) (receipts : List Receipt) → HasItsOwn c limit v
    → receipts ≡ receipts_of v limit → AreOwn c limit (port_at v limit).core receipts → HasItsOwn c (limit + 1) v
own-below c limit v receipts so_far are own =
    below_more (λ slice. AreOwn c slice (port_at v slice).core (receipts_of v slice)) limit so_far
    (subst (λ (rs : List Receipt). AreOwn c limit (port_at v limit).core rs) are own)

-- what holds of each element holds with one more
all-push : {X : Type 0} (P : X → Type 0) (xs : List X) (x : X) → AllByRecursion P xs → P x
    → AllByRecursion P (xs ++ x ∷ [])
all-push P [] x all one = (one, tt)
all-push P (y ∷ xs) x all one = (all.0, all-push P xs x all.1 one)

-- One more core is one of the machine's.
pub owners-more : (c : Config) (cores : List CoreView) (i : ℕ) (v : CoreView) (number : CoreId) → i < length cores
    → v ≡ get_or cores i v → number ≡ v.core → number.0 < c.cores → HasItsOwn c c.slices v
    → AreOwners c (take i cores) → AreOwners c (take (i + 1) cores)
owners-more c cores i v number inside is its known own so_far =
    let P : CoreView → Type 0 = λ w. (w.core.0 < c.cores) × HasItsOwn c c.slices w in
    let one : P v = (subst (λ (n : CoreId). n.0 < c.cores) its known, own) in
    subst (AllByRecursion P)
    (ap (λ (w : CoreView). take i cores ++ w ∷ []) is ∙ sym (take_more cores i v inside))
    (all-push P (take i cores) v so_far one)
