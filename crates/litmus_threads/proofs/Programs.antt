-- Programs of threads, step by step.
use Rattle.std.proofs.Common.{◌≡◌, ℕ, ◌+◌, ◌%◌, ◌<◌, ◌≤◌, List, [], ◌∷◌, ◌++◌, ◌∙◌, ap, append_assoc, drop, get_or}
use Rattle.std.proofs.Common.{length, sym}
use Rattle.std.proofs.lemmas.List.{append-nil, drop_all, drop_more}
use Rattle.litmus_threads.specs.Program.{program_of, step_of}
use Rattle.litmus_test.specs.declared.test.Action.{Action}
use Rattle.core_thread_system.specs.declared.program.Step.{Step}
use Rattle.core_thread_system.specs.declared.program.Step.TheVariants as steps
use Rattle.rand_xoshiro.specs.Xoshiro256.{plus_plus}

-- one more step is done, if the turns of the next word and then the thread's next step are appended
pub program-grows : (thread : List Action) (i : ℕ) (whole : List Step) (words next : List ℕ) (word : ℕ)
    (program turned grown : List Step) (step : Step) (d : Action)
    → i < length thread → whole ≡ program ++ program_of words (drop i thread)
    → (word, next) ≡ plus_plus words → turned ≡ program ++ steps.Turns (word % 4) ∷ []
    → step ≡ step_of (get_or thread i d) → grown ≡ turned ++ step ∷ []
    → whole ≡ grown ++ program_of next (drop (i + 1) thread)
program-grows thread i whole words next word program turned grown step d inside so_far drew turns is grows =
    let rest = program_of next (drop (i + 1) thread) in
    let first : program_of words (drop i thread) ≡ steps.Turns (word % 4) ∷ step ∷ rest =
    ap (program_of words) (drop_more thread i d inside)
    ∙ ap (λ (drawn : ℕ × List ℕ). steps.Turns (drawn.0 % 4) ∷ step_of (get_or thread i d)
    ∷ program_of drawn.1 (drop (i + 1) thread)) (sym drew)
    ∙ ap (λ (s : Step). steps.Turns (word % 4) ∷ s ∷ rest) (sym is) in
    so_far ∙ ap (λ (more : List Step). program ++ more) first
    ∙ sym (append_assoc program (steps.Turns (word % 4) ∷ []) (step ∷ rest))
    ∙ ap (λ (ss : List Step). ss ++ step ∷ rest) (sym turns)
    ∙ sym (append_assoc turned (step ∷ []) rest)
    ∙ ap (λ (ss : List Step). ss ++ rest) (sym grows)

-- the program is whole if no step is left
pub program-whole : (thread : List Action) (i : ℕ) (whole : List Step) (words : List ℕ) (program : List Step)
    → length thread ≤ i → whole ≡ program ++ program_of words (drop i thread) → program ≡ whole
program-whole thread i whole words program ended so_far =
    sym (so_far ∙ ap (λ (left : List Action). program ++ program_of words left)
    (drop_all i thread ended) ∙ append-nil program)
