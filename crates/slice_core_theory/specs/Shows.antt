-- The small machine that a slice shows, and which of its steps a call of the slice is.
use Rattle.std.specs.Prelude.{◌≡◌, ℕ, ◌+◌, ◌<◌, List, [], ◌∷◌, length, map, Contains, Option, Some, None, Result, Ok}
use Rattle.address_map.specs.Locator.{IsOfMachine}
use Rattle.address_map.specs.declared.address.CoreId.{CoreId}
use Rattle.address_map.specs.declared.address.Local.{Local}
use Rattle.address_map.specs.declared.request.Request.{Request}
use Rattle.mshr_file.specs.Miss.{targets_of}
use Rattle.slice_answer.specs.declared.answer.Issue.{Issue}
use Rattle.slice_answer.specs.declared.answer.Issue.TheVariants as issues
use Rattle.slice_answer.specs.declared.answer.Refused.{Refused}
use Rattle.slice_core_cache.specs.CoreCache.{tag_at}
use Rattle.slice_core_cache.specs.declared.tags.TagState.TheVariants as tag_states
use Rattle.slice_core_theory.specs.SmallMachine.{Asked, SmallMachine, Run, Step, accept, hand, perform}
use Rattle.slice_core_spec.specs.View.{View, first_word, cache_at}
use Rattle.slice_core_theory.specs.Standing.{IsAccount}
use Rattle.slice_log.specs.Log.{initially}
use Rattle.slice_log.specs.declared.entry.Numbered.{Numbered}
use Rattle.target_list.specs.declared.target.Target.{Target}

-- ---- the machine that is shown

-- the request that a core's target is, on the line with this first word
abbrev pub request_of_target : ℕ → CoreId → Target → Asked
request_of_target first core target = record {
  op = target.op;
  word = record { 0 = first + target.offset.0 };
  seq = target.seq;
  since = target.since;
  core = core;
  tag = target.tag;
}

-- The request is a target of its core's miss register for a line.
pub record Waits (v : View) (r : Asked) : Type 0 where
  pub local : Local
  pub target : Target
  pub there : Contains (targets_of (cache_at v r.core).misses local.0) target
  pub same : r ≡ request_of_target (first_word v local) r.core target

-- A tag of some core names the entry of this number.
pub record IsNamed (v : View) (number : ℕ) : Type 0 where
  pub core : CoreId
  pub tag : ℕ
  pub names : tag_at (cache_at v core) tag ≡ tag_states.Performed number

abbrev pub small_machine_of : View → SmallMachine
small_machine_of v = record { log = v.log; waiting = Waits v; replies = IsNamed v }

-- What is relied on: the slice is one that a machine can have, and each core's requests are accounted for.
pub record IsAccounted (v : View) : Type 0 where
  pub machine : IsOfMachine v.lines
  pub accounts : (core : CoreId) → core.0 < length v.caches
      → IsAccount v.lines v.log core.0 (cache_at v core).misses (cache_at v core).tags (cache_at v core).accepted

-- ---- the steps of a call

-- a core's next request
abbrev pub next_of : View → CoreId → Request → Asked
next_of v core request = record {
  op = request.op;
  word = request.word;
  seq = (cache_at v core).accepted;
  since = length v.log;
  core = core;
  tag = request.tag;
}

-- what a request with this answer does: what is done at once is accepted, performed and handed out, and what is
-- pending is accepted
abbrev pub issue_steps : Asked → Result Issue Refused → List Step
issue_steps r (Ok (issues.Done number)) = accept r ∷ perform r ∷ hand number ∷ []
issue_steps r (Ok (issues.Pending seq)) = accept r ∷ []
issue_steps r _ = []

-- what is handed out
abbrev pub hand_steps : Option Numbered → List Step
hand_steps None = []
hand_steps (Some given) = hand given.number ∷ []

-- The steps lead from what the one shows to what the other shows, and the initial values stay.
pub record Leads (steps : List Step) (old new : View) : Type 0 where
  pub init : new.init ≡ old.init
  pub run : Run (initially old.init) steps (small_machine_of old) (small_machine_of new)

-- As many requests are performed as the log grows by.
pub record Performs (old new : View) : Type 0 where
  pub requests : List Asked
  pub grows : length new.log ≡ length old.log + length requests
  pub leads : Leads (map perform requests) old new
