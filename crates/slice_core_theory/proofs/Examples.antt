-- Accounts of a core that asked for little, and made-up ones that are refused.
use Rattle.std.proofs.Common.{◌≡◌, ℕ, ◌<◌, List, [], ◌∷◌, replicate, Some, None, refl, sym, arith}
use Rattle.std.specs.Prelude.{slice_set}
use Rattle.address_map.specs.Locator.{Lines}
use Rattle.address_map.specs.declared.request.Op.TheVariants as ops
use Rattle.mshr_file.specs.declared.registers.Register.{Register}
use Rattle.slice_core_cache.specs.declared.tags.TagState.{TagState}
use Rattle.slice_core_cache.specs.declared.tags.TagState.TheVariants as tag_states
use Rattle.slice_core_theory.proofs.Begins.{account-begins}
use Rattle.slice_core_theory.proofs.Hit.{account-hit}
use Rattle.slice_core_theory.specs.Standing.{HasTags, IsAccount, StandsInOrder, StandsOnce}
use Rattle.slice_log.specs.declared.entry.Entry.{Entry}
use Rattle.target_list.specs.declared.target.Target.{Target}

-- one slice of four lines
only : Lines
only = record { lines = 4; slices = 1; slice = 0 }

-- core 0's load of word 8, the first word of line 1, as its request of this number
performed : ℕ → Entry
performed seq = record
    { op = ops.Load; word = record { 0 = 8 }; seq = seq; reply = 0; since = 0; core = record { 0 = 0 }; tag = 5 }

-- the same load, while it waits
asked : ℕ → Target
asked seq = record { op = ops.Load; seq = seq; since = 0; offset = record { 0 = 0 }; tag = 5 }

waits : ℕ → List Register
waits seq = record { targets = asked seq ∷ []; line = record { 0 = 1 } } ∷ []

free : List TagState
free = replicate 64 tag_states.Free

differ : (a b : ℕ) → a < b → a ≡ b → ⊥
differ a b below same = omega arith

-- Core 0 asked for one load, which hit.
one_hit : IsAccount only (performed 0 ∷ []) 0 [] free 1
unfolding performed only free
one_hit = account-hit only [] 0 [] free 0 (record { 0 = 1 }) (performed 0) (omega arith) refl refl refl refl
    (account-begins only 0)

-- A request that was accepted and is nowhere.
lost : StandsOnce [] 0 [] 1 → ⊥
lost stands = differ 0 1 (omega arith) (stands.once 0)

-- One that is in two places: it was performed, and waits still.
twice : StandsOnce (performed 0 ∷ []) 0 (waits 0) 1 → ⊥
unfolding performed waits asked
twice stands = differ 1 2 (omega arith) (sym (stands.once 0))

-- One that was performed and never accepted.
unasked : StandsOnce (performed 0 ∷ []) 0 [] 0 → ⊥
unfolding performed
unasked stands = differ 0 1 (omega arith) (sym (stands.once 0))

-- An open tag that no target has.
idle_tag : HasTags [] 0 [] (slice_set free 5 tag_states.Open) → ⊥
unfolding free
idle_tag named = differ 0 1 (omega arith) (named.opened 5)

-- A tag that names an entry past the log's end.
no_reply : HasTags [] 0 [] (slice_set free 5 (tag_states.Performed 0)) → ⊥
unfolding free
no_reply named = let found = named.replies 5 0 refl in no_entry found.0 found.1
  where
    no_entry : (e : Entry) → None ≡ Some e → ⊥
    no_entry e same = cc

-- A load that overtook an older one of its core on its line.
overtaken : StandsInOrder only (performed 1 ∷ []) 0 (waits 0) → ⊥
unfolding performed only waits asked
overtaken order =
    let target = asked 0 in
    let behind = order.entries 0 (performed 1) (omega arith) (record { 0 = 1 }) refl refl in
    let early : 1 < 0 = behind 0 target (omega arith) in
    omega arith
