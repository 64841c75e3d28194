-- What the ledgers of a slice count: the requests accepted, those handed out, and what these added to each counter.
use Rattle.std.specs.Prelude.{ℕ, ◌+◌, ◌≤◌, List, [], ◌∷◌, length}
use Rattle.address_map.specs.declared.address.WordAddr.{WordAddr}
use Rattle.slice_log.specs.declared.entry.Entry.{Entry}
use Rattle.receipt_ledger.specs.Sums.{Sums, at, zeros, plus, sums}

-- whole numbers, which no machine word bounds
pub record Totals : Type 0 where
  pub accepted : ℕ
  pub handed : ℕ
  pub counters : Sums

-- what a share has: `parts` parts of each ledger, and what it holds of the totals
pub record Amounts : Type 0 where
  pub parts : ℕ
  pub held : Totals

-- where `accepted` requests were accepted, and these entries handed out
abbrev pub totals : List WordAddr → ℕ → List Entry → Totals
totals words accepted entries = record { accepted = accepted; handed = length entries; counters = sums words entries }

abbrev pub nothing : Totals
nothing = record { accepted = 0; handed = 0; counters = zeros }

-- n requests accepted, and none handed out
abbrev pub only_accepted : ℕ → Totals
only_accepted n = record { accepted = n; handed = 0; counters = zeros }

-- one entry handed out
abbrev pub only_handed : List WordAddr → Entry → Totals
only_handed words entry = record { accepted = 0; handed = 1; counters = sums words (entry ∷ []) }

abbrev pub together : Totals → Totals → Totals
together t u = record {
  accepted = t.accepted + u.accepted;
  handed = t.handed + u.handed;
  counters = plus t.counters u.counters;
}

-- no more in any of the ten
pub record IsWithin (t u : Totals) : Type 0 where
  pub accepted : t.accepted ≤ u.accepted
  pub handed : t.handed ≤ u.handed
  pub counters : (place : ℕ) → at t.counters place ≤ at u.counters place
