-- What a core has: a port of each slice that a machine may have, and its tags in flight.
use Rattle.std.specs.Prelude.{◌≡◌, ℕ, ◌<◌, ◌==◌, if◌then◌else◌, nat_lt, List, [], length, slice_get, Some}
use Rattle.address_map.specs.declared.address.CoreId.{CoreId}
use Rattle.receipt_ledger.specs.Port.{PortView, fresh_port}
use Rattle.receipt_ledger.specs.declared.receipt.Ask.{Ask}
use Rattle.receipt_ledger.specs.declared.receipt.Receipt.{Receipt}

-- a core's number, and its port of each of the slices 0 to 3
pub record SetView : Type 0 where
  pub core : CoreId
  pub p0 : PortView
  pub p1 : PortView
  pub p2 : PortView
  pub p3 : PortView

pub record CoreView : Type 0 where
  pub core : CoreId
  pub p0 : PortView
  pub p1 : PortView
  pub p2 : PortView
  pub p3 : PortView
  -- the tags in flight: bit t for tag t
  pub tags : ℕ
  -- the slice that is asked first for a reply
  pub next : ℕ

-- the ports of a core of which nothing was asked for yet
abbrev pub fresh_set : CoreId → SetView
fresh_set core = record {
  core = core;
  p0 = fresh_port core (record { 0 = 0 });
  p1 = fresh_port core (record { 0 = 1 });
  p2 = fresh_port core (record { 0 = 2 });
  p3 = fresh_port core (record { 0 = 3 });
}

-- There are ports for each of `cores` cores, ascending, and nothing was asked for through any.
pub record AreFreshSets (cores : ℕ) (sets : List SetView) : Type 0 where
  pub long : length sets ≡ cores
  pub each : (core : CoreId) → core.0 < cores → slice_get sets core.0 ≡ Some (fresh_set core)

-- a core with these ports and no tag in flight
abbrev pub core_of : SetView → CoreView
core_of set = record { core = set.core; p0 = set.p0; p1 = set.p1; p2 = set.p2; p3 = set.p3; tags = 0; next = 0 }

-- the core's port of the slice of this number, 0 to 3
abbrev pub port_at : CoreView → ℕ → PortView
port_at v slice = if slice == 0 then v.p0 else if slice == 1 then v.p1 else if slice == 2 then v.p2 else v.p3

-- the core with another port of this slice
abbrev pub with_port : CoreView → ℕ → PortView → CoreView
with_port v slice port =
    if slice == 0 then record v { p0 = port }
    else if slice == 1 then record v { p1 = port }
    else if slice == 2 then record v { p2 = port }
    else record v { p3 = port }

-- the receipts that the core has of the slice of this number; no slice has a number above 3
abbrev pub receipts_of : CoreView → ℕ → List Receipt
receipts_of v slice = if nat_lt slice 4 then (port_at v slice).receipts else []

-- the requests of the core that that slice accepted
abbrev pub asked_of : CoreView → ℕ → List Ask
asked_of v slice = if nat_lt slice 4 then (port_at v slice).asked else []

-- how many these are
abbrev pub accepted_of : CoreView → ℕ → ℕ
accepted_of v slice = length (asked_of v slice)
