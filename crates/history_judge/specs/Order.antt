-- The orders in which the accesses of a history may have been performed.
use Rattle.std.specs.Prelude.{◌≡◌, ℕ, ◌<◌, ◌≤◌, List, length, map, slice_get, slice_index_or, Some}
use Rattle.address_map.specs.declared.request.Op.TheVariants as ops
use Rattle.slice_log.specs.Log.{IsLegal, IsOrdered}
use Rattle.slice_log.specs.declared.entry.Entry.{Entry}
use Rattle.history_judge.specs.Access.{entry_of}
use Rattle.history_judge.specs.declared.access.Access.{Access}

-- the default past the end of a history
abbrev pub no_access : Access
no_access = record {
  op = ops.Load;
  reply = 0;
  begin = 0;
  end = 0;
  word = record { 0 = 0 };
  core = record { 0 = 0 };
}

abbrev pub entry_at : List Access → ℕ → Entry
entry_at history i = entry_of i (slice_index_or history i no_access)

-- the trace that performs a history's accesses in this order, which names them by their places
abbrev pub trace_of : List Access → List ℕ → List Entry
trace_of history order = map (entry_at history) order

-- the access is in the order at one place alone
pub record StandsOnce (order : List ℕ) (i : ℕ) : Type 0 where
  pub place : ℕ
  pub stands : slice_get order place ≡ Some i
  pub alone : (k : ℕ) → slice_get order k ≡ Some i → k ≡ place

-- the order has each of `count` accesses once, and nothing else
pub record HasEachOnce (count : ℕ) (order : List ℕ) : Type 0 where
  pub within : (k i : ℕ) → slice_get order k ≡ Some i → i < count
  pub once : (i : ℕ) → i < count → StandsOnce order i

-- of two accesses of one core, on any words, the one that it requested first comes first
abbrev pub KeepsCores : List Access → List ℕ → Type 0
KeepsCores history order =
    (j k a b : ℕ) (d e : Access) → j < k → slice_get order j ≡ Some a → slice_get order k ≡ Some b
    → slice_get history a ≡ Some d → slice_get history b ≡ Some e → d.core.0 ≡ e.core.0 → a < b

-- no access follows one that began after it had ended
abbrev pub KeepsIntervals : List Access → List ℕ → Type 0
KeepsIntervals history order =
    (j k a b : ℕ) (d e : Access) → j < k → slice_get order j ≡ Some a → slice_get order k ≡ Some b
    → slice_get history a ≡ Some d → slice_get history b ≡ Some e → d.begin ≤ e.end

-- An order of all accesses that explains each reply, keeps each core's own order, and has an access that ended before
-- another began before it. Each word begins with its initial value.
pub record IsOrderOf (initial : ℕ → ℕ) (history : List Access) (order : List ℕ) : Type 0 where
  pub each_once : HasEachOnce (length history) order
  pub legal : IsLegal initial (trace_of history order)
  pub cores : KeepsCores history order
  pub ordered : IsOrdered (trace_of history order)
  pub intervals : KeepsIntervals history order

-- there is none
abbrev pub HasNoOrder : (ℕ → ℕ) → List Access → Type 0
HasNoOrder initial history = (order : List ℕ) → ¬ IsOrderOf initial history order
