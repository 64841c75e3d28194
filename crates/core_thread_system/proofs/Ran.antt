-- What a core has run: nothing, a move, and one thing after another; and what it has made then.
use Rattle.std.proofs.Common.{◌≡◌, ℕ, ◌+◌, ◌<◌, ◌≤◌, List, [], ◌∷◌, ◌++◌, refl, sym, ap, ◌∙◌, subst, append-nil}
use Rattle.std.proofs.Common.{append_assoc, Option, Some, Result, Ok, Err}
use Rattle.std.proofs.Math.Seq.{take-length}
use Rattle.std.specs.Prelude.{◌==◌, if◌then◌else◌, length, slice_index_or, take}
use Rattle.std.proofs.lemmas.List.{take_more}
use Rattle.address_map.specs.Place.{line_of, slice_of}
use Rattle.address_map.specs.declared.config.Config.{Config}
use Rattle.address_map.specs.declared.request.Request.{Request}
use Rattle.core_thread_system.proofs.Made.{issue-makes, made-nothing, made-then, nothing-then, turn-makes-nothing}
use Rattle.core_thread_system.specs.Answers.{AfterCollect, AfterIssue}
use Rattle.core_thread_system.specs.Core.{CoreView, port_at}
use Rattle.core_thread_system.specs.Moves.{HasRun, Move, Moves, accepted_in, ask, only_accesses, turn}
use Rattle.core_thread_system.specs.Program.{HasAccepted, HasMade, accesses_in}
use Rattle.core_thread_system.specs.Running.{IsLowestFree, accepted_steps}
use Rattle.core_thread_system.specs.declared.program.Step.{Step}
use Rattle.core_thread_system.specs.declared.program.Step.TheVariants as steps
use Rattle.receipt_ledger.specs.declared.receipt.Answer.{Answer}
use Rattle.receipt_ledger.specs.declared.receipt.Answer.TheVariants as answers
use Rattle.receipt_ledger.specs.declared.receipt.Receipt.{Receipt}
use Rattle.slice_answer.specs.declared.answer.Refused.{Refused}

-- ---- one thing after another

moves-then : (c : Config) (first later : List Move) (a b d : CoreView) → Moves c first a b → Moves c later b d
    → Moves c (first ++ later) a d
moves-then c [] later a b d f l = subst (λ v. Moves c later v d) f l
moves-then c (turn received ∷ first) later a b d (next, got, rest) l =
    (next, got, moves-then c first later next b d rest l)
moves-then c (ask request answer ∷ first) later a b d (next, lowest, asked, rest) l =
    (next, lowest, asked, moves-then c first later next b d rest l)

accepted-then : (first later : List Move) → accepted_in (first ++ later) ≡ accepted_in first ++ accepted_in later
accepted-then [] later = refl
accepted-then (turn received ∷ first) later = accepted-then first later
accepted-then (ask request answer ∷ first) later =
    ap (λ rest. accepted_steps request answer ++ rest) (accepted-then first later)
    ∙ sym (append_assoc (accepted_steps request answer) (accepted_in first) (accepted_in later))

accesses-then : (first later : List Step) → only_accesses (first ++ later) ≡ only_accesses first ++ only_accesses later
accesses-then [] later = refl
accesses-then (steps.Access word op ∷ first) later =
    ap (λ rest. steps.Access word op ∷ rest) (accesses-then first later)
accesses-then (steps.Settle ∷ first) later = accesses-then first later
accesses-then (steps.Evict line ∷ first) later = accesses-then first later
accesses-then (steps.Turns count ∷ first) later = accesses-then first later

pub ran-nothing : (c : Config) (v : CoreView) → HasRun c v [] v
ran-nothing c v = record { moves = []; made = refl; accesses = refl }

ran-then : (c : Config) (a b d : CoreView) (first later : List Step)
    → HasRun c a first b → HasRun c b later d → HasRun c a (first ++ later) d
ran-then c a b d first later f l = record {
  moves = f.moves ++ l.moves;
  made = moves-then c f.moves l.moves a b d f.made l.made;
  accesses =
      accepted-then f.moves l.moves
      ∙ ap (λ xs. xs ++ accepted_in l.moves) f.accesses
      ∙ ap (λ ys. only_accesses first ++ ys) l.accesses
      ∙ sym (accesses-then first later);
}

-- ---- a move

pub turn-runs-nothing : (c : Config) (old : CoreView) (received : Option Receipt) (new : CoreView)
    → AfterCollect c old received new → HasRun c old [] new
turn-runs-nothing c old received new after = record {
  moves = turn received ∷ [];
  made = (new, after, refl);
  accesses = refl;
}

accesses-alone : (request : Request) (answer : Result Answer Refused)
    → accepted_steps request answer ++ [] ≡ only_accesses (accepted_steps request answer)
accesses-alone request (Ok (answers.Done r)) = refl
accesses-alone request (Ok answers.Pending) = refl
accesses-alone request (Ok (answers.Stall stall)) = refl
accesses-alone request (Err refused) = refl

pub issue-runs : (c : Config) (old : CoreView) (request : Request) (answer : Result Answer Refused) (new : CoreView)
    → IsLowestFree old.tags (Some request.tag) → AfterIssue c old request answer new
    → HasRun c old (accepted_steps request answer) new
issue-runs c old request answer new lowest after = record {
  moves = ask request answer ∷ [];
  made = (new, lowest, after, refl);
  accesses = accesses-alone request answer;
}

-- ---- steps of a program

abbrev pub IsAccess : Step → Type 0
IsAccess (steps.Access word op) = Unit {0}
IsAccess step = ⊥

-- A step that isn't an access has none.
pub ran-no-access : (c : Config) (old new : CoreView) (step : Step) → (IsAccess step → ⊥)
    → HasRun c old [] new → HasRun c old (step ∷ []) new
ran-no-access c old new (steps.Access word op) not ran = absurd (not tt)
ran-no-access c old new steps.Settle not ran = record { moves = ran.moves; made = ran.made; accesses = ran.accesses }
ran-no-access c old new (steps.Evict line) not ran =
    record { moves = ran.moves; made = ran.made; accesses = ran.accesses }
ran-no-access c old new (steps.Turns count) not ran =
    record { moves = ran.moves; made = ran.made; accesses = ran.accesses }

-- what ran nothing, and then something
pub nothing-ran-then : (c : Config) (a b d : CoreView) (program : List Step)
    → HasRun c a [] b → HasRun c b program d → HasRun c a program d
nothing-ran-then c a b d program f l = ran-then c a b d [] program f l

pub still-ran-nothing : (c : Config) (a b d : CoreView) → HasRun c a [] b → HasRun c b [] d → HasRun c a [] d
still-ran-nothing c a b d f l = ran-then c a b d [] [] f l

pub then-ran-nothing : (c : Config) (a b d : CoreView) (program : List Step)
    → HasRun c a program b → HasRun c b [] d → HasRun c a program d
then-ran-nothing c a b d program f l =
    subst (λ ran. HasRun c a ran d) (append-nil program) (ran-then c a b d program [] f l)

-- One step more of a program was run.
pub next-ran : (c : Config) (a b d : CoreView) (program : List Step) (place : ℕ) (step : Step)
    → place < length program → HasRun c a (take place program) b
    → HasRun c b (slice_index_or program place step ∷ []) d → HasRun c a (take (place + 1) program) d
next-ran c a b d program place step within f l =
    subst (λ ran. HasRun c a ran d) (sym (take_more program place step within))
    (ran-then c a b d (take place program) (slice_index_or program place step ∷ []) f l)

-- All steps of the program were run.
pub all-ran : (c : Config) (a b : CoreView) (program : List Step) (place : ℕ) → place ≡ length program
    → HasRun c a (take place program) b → HasRun c a program b
all-ran c a b program place end ran =
    subst (λ steps. HasRun c a steps b) (ap (λ n. take n program) end ∙ take-length program) ran

-- ---- what was made

moves-make : (c : Config) (moves : List Move) (old new : CoreView) → 1 ≤ c.slices → c.slices ≤ 4
    → Moves c moves old new → HasMade c old (accepted_in moves) new
moves-make c [] old new some few same = subst (λ v. HasMade c old [] v) (sym same) (made-nothing c old)
moves-make c (turn received ∷ moves) old new some few (next, got, rest) =
    nothing-then c old next new (accepted_in moves) (turn-makes-nothing c old received next few got)
    (moves-make c moves next new some few rest)
moves-make c (ask request answer ∷ moves) old new some few (next, lowest, asked, rest) =
    made-then c old next new (accepted_steps request answer) (accepted_in moves)
    (issue-makes c old request answer next some few asked) (moves-make c moves next new some few rest)

same-accesses : (c : Config) (slice : ℕ) (program : List Step)
    → accesses_in c slice (only_accesses program) ≡ accesses_in c slice program
same-accesses c slice [] = refl
same-accesses c slice (steps.Access word op ∷ program) =
    ap (λ rest. (if (slice_of c (line_of word)).0 == slice then (word, op) ∷ [] else []) ++ rest)
    (same-accesses c slice program)
same-accesses c slice (steps.Settle ∷ program) = same-accesses c slice program
same-accesses c slice (steps.Evict line ∷ program) = same-accesses c slice program
same-accesses c slice (steps.Turns count ∷ program) = same-accesses c slice program

-- What a core has run it has made.
pub ran-made : (c : Config) (old new : CoreView) (program : List Step) → 1 ≤ c.slices → c.slices ≤ 4
    → HasRun c old program new → HasMade c old program new
ran-made c old new program some few ran = record {
  core = made.core;
  each = λ slice within.
      subst (λ accesses. HasAccepted (port_at old slice) accesses (port_at new slice))
      (ap (accesses_in c slice) ran.accesses ∙ same-accesses c slice program) (made.each slice within);
}
  where
    made : HasMade c old (accepted_in ran.moves) new
    made = moves-make c ran.moves old new some few ran.made
