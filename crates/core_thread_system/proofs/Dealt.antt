-- Ports and sets of ports while the ports are dealt out to the cores, in ascending order.
use Rattle.std.proofs.Common.{◌≡◌, ℕ, zero, suc, ◌+◌, ◌<◌, ◌∙◌, List, [], ◌∷◌, ◌++◌, length, get_or, Some, refl, ap}
use Rattle.std.proofs.Common.{arith, inl, inr, length-append}
use Rattle.std.specs.Prelude.{slice_get}
use Rattle.std.specs.List.{remove}
use Rattle.std.proofs.lemmas.Bool.{cases_lt}
use Rattle.std.proofs.lemmas.Option.{get_or_from_slice_get}
use Rattle.address_map.specs.declared.address.CoreId.{CoreId}
use Rattle.address_map.specs.declared.address.SliceId.{SliceId}
use Rattle.core_thread_system.specs.Core.{SetView, AreFreshSets, fresh_set}
use Rattle.receipt_ledger.specs.Port.{PortView, AreFreshPorts, fresh_port}

-- The ports of the cores below this one were dealt out, and those from it on are left.
pub record AreLeft (slice : SliceId) (core cores : ℕ) (ports : List PortView) : Type 0 where
  pub long : length ports + core ≡ cores
  pub each : (place : ℕ) (owner : CoreId) → owner.0 ≡ core + place → place < length ports
      → slice_get ports place ≡ Some (fresh_port owner slice)

pub all-left : (slice : SliceId) (cores : ℕ) (ports : List PortView)
    → AreFreshPorts slice cores ports → AreLeft slice 0 cores ports
all-left slice cores ports fresh = record {
  long = omega (arith, fresh.long);
  each = λ place owner e within.
      let here : place ≡ owner.0 = omega arith in
      rw here (fresh.each owner (omega (arith, fresh.long)));
}

-- the port that is dealt out next
pub first-left : (slice : SliceId) (cores : ℕ) (ports : List PortView) (owner : CoreId) (p : PortView)
    → AreLeft slice owner.0 cores ports → owner.0 < cores → p ≡ get_or ports 0 p → p ≡ fresh_port owner slice
first-left slice cores ports owner p left within e =
    e
    ∙ get_or_from_slice_get ports 0 (fresh_port owner slice) p
    (left.each 0 owner (omega arith) (omega (arith, left.long)))

-- and those that are left after it
pub rest-left : (slice : SliceId) (core cores : ℕ) (ports : List PortView)
    → AreLeft slice core cores ports → core < cores → AreLeft slice (core + 1) cores (remove ports 0)
rest-left slice core cores [] left within = absurd (omega (arith, left.long))
rest-left slice core cores (p ∷ ports) left within = record {
  long = omega (arith, left.long);
  each = λ place owner e inside. left.each (suc place) owner (omega arith) (omega arith);
}

before : {X : Type 0} (xs : List X) (x y : X) (k : ℕ) → slice_get xs k ≡ Some x → slice_get (xs ++ y ∷ []) k ≡ Some x
before [] x y k h = cc
before (z ∷ zs) x y zero h = h
before (z ∷ zs) x y (suc k) h = before zs x y k h

last : {X : Type 0} (xs : List X) (y : X) → slice_get (xs ++ y ∷ []) (length xs) ≡ Some y
last [] y = refl
last (x ∷ xs) y = last xs y

-- the set of four such ports
pub set-fresh : (owner : CoreId) (p0 p1 p2 p3 : PortView) → p0 ≡ fresh_port owner (record { 0 = 0 })
    → p1 ≡ fresh_port owner (record { 0 = 1 }) → p2 ≡ fresh_port owner (record { 0 = 2 })
    → p3 ≡ fresh_port owner (record { 0 = 3 })
    → ◌≡◌ {A = SetView} (record { core = owner; p0 = p0; p1 = p1; p2 = p2; p3 = p3 }) (fresh_set owner)
set-fresh owner p0 p1 p2 p3 e0 e1 e2 e3 = cc

pub no-sets : AreFreshSets 0 []
no-sets = record { long = refl; each = λ core within. absurd (omega arith) }

-- the core of a number
numbered : ℕ → CoreId
numbered n = record { 0 = n }

same-core : (core other : CoreId) → core.0 ≡ other.0 → core ≡ other
unfolding numbered
same-core core other e = ap numbered e

-- the sets with that of the next core
pub sets-more : (sets : List SetView) (owner : CoreId) (set : SetView)
    → AreFreshSets owner.0 sets → set ≡ fresh_set owner → AreFreshSets (owner.0 + 1) (sets ++ set ∷ [])
sets-more sets owner set fresh e = record {
  long = simp length-append (omega (arith, fresh.long));
  each = λ core within. elim (cases_lt core.0 owner.0) [
    | inl below ↦ before sets (fresh_set core) set core.0 (fresh.each core below)
    | inr from ↦
        let here : core.0 ≡ length sets = omega (arith, fresh.long) in
        let number : owner.0 ≡ core.0 = omega arith in
        ap (slice_get (sets ++ set ∷ [])) here
        ∙ last sets set
        ∙ ap (λ s. Some s) (e ∙ ap fresh_set (same-core owner core number))
  ];
}
