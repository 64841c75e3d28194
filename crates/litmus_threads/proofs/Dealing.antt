-- Cores that are assigned to threads one after the other.
use Rattle.std.proofs.Common.{◌≡◌, ℕ, Bool, true, false, List, [], ◌∷◌, ◌++◌, ◌∙◌, Option, Some, ap, append-nil}
use Rattle.std.proofs.Common.{subst, sym}
use Rattle.std.specs.Prelude.{Err, IfOk, IsOkAnd, Ok, Result, cond, filter, is_some, map, not}
use Rattle.std.specs.Option.{option_map_or}
use Rattle.std.proofs.lemmas.List.{map-append}
use Rattle.std.proofs.lemmas.List.Elements.{filter-append}
use Rattle.core_thread_system.specs.Core.{CoreView, SetView, core_of}
use Rattle.core_thread_system.specs.declared.program.Step.{Step}
use Rattle.litmus_test.specs.declared.test.Action.{Action}
use Rattle.litmus_test.specs.declared.test.Thread.{Thread}
use Rattle.litmus_threads.specs.Crew.{AreDealt, has_thread, program_for}
use Rattle.litmus_threads.specs.Program.{generator_of, program_of}
use Rattle.litmus_threads.specs.Threads.{thread_at}

-- a core that passes a test goes after those that did
passes : (test : CoreView → Bool) (cores : List CoreView) (v : CoreView) → test v ≡ true
    → filter test (cores ++ v ∷ []) ≡ filter test cores ++ v ∷ []
passes test cores v so =
    filter-append test cores (v ∷ [])
    ∙ ap (λ (b : Bool). filter test cores ++ cond b (v ∷ []) []) so

-- and one that doesn't changes nothing
fails : (test : CoreView → Bool) (cores : List CoreView) (v : CoreView) → test v ≡ false
    → filter test (cores ++ v ∷ []) ≡ filter test cores
fails test cores v so =
    filter-append test cores (v ∷ [])
    ∙ ap (λ (b : Bool). filter test cores ++ cond b (v ∷ []) []) so
    ∙ append-nil (filter test cores)

-- one more core that has a thread
pub thread-dealt : (threads : List Thread) (seed round : ℕ) (cores working : List CoreView) (programs : List (List Step))
    (idle : List CoreView) (v : CoreView) (thread : Thread) (program : List Step)
    → Some thread ≡ thread_at threads v.core
    → program ≡ program_of (generator_of seed round v.core) thread.steps.items
    → AreDealt threads seed round cores working programs idle
    → AreDealt threads seed round (cores ++ v ∷ []) (working ++ v ∷ []) (programs ++ program ∷ []) idle
thread-dealt threads seed round cores working programs idle v thread program found its dealt =
    let has : has_thread threads v ≡ true = ap is_some (sym found) in
    record {
      working_are =
          ap (λ (ws : List CoreView). ws ++ v ∷ []) dealt.working_are
          ∙ sym (passes (has_thread threads) cores v has);
      programs_are =
          ap (λ (ps : List (List Step)). ps ++ program ∷ []) dealt.programs_are
          ∙ ap (λ (p : List Step). map (program_for threads seed round) working ++ p ∷ [])
          (its ∙ ap (λ (t : Option Thread). program_of (generator_of seed round v.core)
          (option_map_or (λ thread. thread.steps.items) t [])) found)
          ∙ sym (map-append (program_for threads seed round) working (v ∷ []));
      idle_are = dealt.idle_are ∙ sym (fails (λ w. not (has_thread threads w)) cores v (ap not has));
    }

-- The same, if the program was made and its core put to work.
pub thread-taken : {P E : Type 0} (made : Result P E) (steps_in : P → List Step) (threads : List Thread)
    (seed round : ℕ) (cores working grown : List CoreView) (programs more : List (List Step)) (idle : List CoreView) (v : CoreView)
    (thread : Thread) (shown : List Action)
    → IsOkAnd made (λ program. (grown ≡ working ++ v ∷ []) × (more ≡ programs ++ steps_in program ∷ []))
    → Some thread ≡ thread_at threads v.core → shown ≡ thread.steps.items
    → IfOk made (λ program. steps_in program ≡ program_of (generator_of seed round v.core) shown)
    → AreDealt threads seed round cores working programs idle
    → AreDealt threads seed round (cores ++ v ∷ []) grown more idle
thread-taken (Ok program) steps_in threads seed round cores working grown programs more idle v thread shown put found is its dealt =
    let own : steps_in program ≡ program_of (generator_of seed round v.core) thread.steps.items =
    its ∙ ap (program_of (generator_of seed round v.core)) is in
    subst (λ (ws : List CoreView). AreDealt threads seed round (cores ++ v ∷ []) ws more idle) (sym put.0)
    (subst (λ (ps : List (List Step)). AreDealt threads seed round (cores ++ v ∷ []) (working ++ v ∷ []) ps idle)
    (sym put.1)
    (thread-dealt threads seed round cores working programs idle v thread (steps_in program) found own dealt))
thread-taken (Err e) steps_in threads seed round cores working grown programs more idle v thread shown put found is its dealt =
    absurd put

-- The cores of ports, one more.
pub deal-more : (threads : List Thread) (seed round : ℕ) (sets : List SetView) (set : SetView) (v : CoreView) (working : List CoreView)
    (programs : List (List Step)) (idle : List CoreView) → v ≡ core_of set
    → AreDealt threads seed round (map core_of sets ++ v ∷ []) working programs idle
    → AreDealt threads seed round (map core_of (sets ++ set ∷ [])) working programs idle
deal-more threads seed round sets set v working programs idle is dealt =
    subst (λ (cores : List CoreView). AreDealt threads seed round cores working programs idle)
    (ap (λ (w : CoreView). map core_of sets ++ w ∷ []) is ∙ sym (map-append core_of sets (set ∷ []))) dealt
