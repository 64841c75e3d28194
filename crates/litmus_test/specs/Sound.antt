-- The invariant of a litmus test.
use Rattle.std.specs.Prelude.{◌≡◌, ◌≢◌, ℕ, Bool, true, false, ◌<◌, ◌≤◌, ◌/◌, List, length, All, AllPairs, Contains}
use Rattle.std.specs.Prelude.{IsTrue, Some, slice_get, vec_len, None}
use Rattle.address_map.specs.Config.{first_fault}
use Rattle.address_map.specs.declared.address.LineAddr.{LineAddr}
use Rattle.address_map.specs.declared.address.WordAddr.{WordAddr}
use Rattle.address_map.specs.declared.config.Config.{Config}
use Rattle.address_map.specs.declared.request.Op.{Op}
use Rattle.address_map.specs.declared.request.Op.TheVariants as ops
use Rattle.litmus_test.specs.declared.test.Action.{Action}
use Rattle.litmus_test.specs.declared.test.Action.TheVariants as actions
use Rattle.litmus_test.specs.declared.test.Thread.{Thread}
use Rattle.litmus_test.specs.declared.test.NamedReply.{NamedReply}
use Rattle.litmus_test.specs.declared.test.Pair.{Pair}
use Rattle.litmus_test.specs.declared.test.Forbidden.{Forbidden}
use Rattle.litmus_test.specs.declared.test.TheConstants.{MOST_ROUNDS, MOST_MOVERS, MOST_STEPS, MOST_NAMES, MOST_PAIRS}
use Rattle.litmus_test.specs.Name.{is_name}

-- the machine can be built
pub record IsChecked (config : Config) : Type 0 where
  pub no_fault : first_fault config ≡ None

-- whether a step receives the value that its word had
abbrev pub reads_value : Action → Bool
reads_value (actions.Access word ops.Load) = true
reads_value (actions.Access word (ops.Store value)) = false
reads_value (actions.Access word (ops.Add delta)) = true
reads_value (actions.Access word (ops.Cas expect new)) = true
reads_value actions.Settle = false
reads_value (actions.Evict line) = false

-- the machine has what the step names, and the step overwrites no counter
pub record IsStepOf (config : Config) (action : Action) : Type 0 where
  pub word : (w : WordAddr) (op : Op) → action ≡ actions.Access w op → w.0 / 8 < config.lines
  pub line : (l : LineAddr) → action ≡ actions.Evict l → l.0 < config.lines
  pub store : (w : WordAddr) (value : ℕ) → action ≡ actions.Access w (ops.Store value) → ¬ Contains config.counters w
  pub cas : (w : WordAddr) (expect new : ℕ) → action ≡ actions.Access w (ops.Cas expect new)
      → ¬ Contains config.counters w

-- the machine has the thread's core, and what its steps name
pub record IsThreadOf (config : Config) (thread : Thread) : Type 0 where
  pub core : thread.core.0 < config.cores
  pub few_steps : vec_len thread.steps ≤ MOST_STEPS
  pub steps : All (IsStepOf config) thread.steps.items

-- the name is that of a step that receives a value
pub record IsReplyOf (threads : List Thread) (named : NamedReply) : Type 0 where
  pub name : IsTrue (is_name named.name.now)
  pub thread : named.thread < length threads
  pub step : (t : Thread) → slice_get threads named.thread ≡ Some t → named.step < vec_len t.steps
  pub reads : (t : Thread) (action : Action) → slice_get threads named.thread ≡ Some t
      → slice_get t.steps.items named.step ≡ Some action → IsTrue (reads_value action)

-- each pair names one of `names` replies
pub record IsOutcomeOf (names : ℕ) (forbidden : Forbidden) : Type 0 where
  pub some : 1 ≤ vec_len forbidden.pairs
  pub few : vec_len forbidden.pairs ≤ MOST_PAIRS
  pub named : All (λ (pair : Pair). pair.name < names) forbidden.pairs.items

-- the invariant of a litmus test
pub record IsSound (config : Config) (rounds movers : ℕ) (threads : List Thread) (names : List NamedReply)
    (forbidden : List Forbidden) : Type 0 where
  pub checked : IsChecked config
  pub some_round : 1 ≤ rounds
  pub few_rounds : rounds ≤ MOST_ROUNDS
  pub few_movers : movers ≤ MOST_MOVERS
  pub programs : All (IsThreadOf config) threads
  pub one_each : AllPairs (λ (a b : Thread). a.core ≢ b.core) threads
  pub few_names : length names ≤ MOST_NAMES
  pub replies : All (IsReplyOf threads) names
  pub own_names : AllPairs (λ (a b : NamedReply). a.name.now ≢ b.name.now) names
  pub own_steps : AllPairs (λ (a b : NamedReply). a.thread ≡ b.thread → a.step < b.step) names
  pub outcomes : All (IsOutcomeOf (length names)) forbidden
