-- Targets of one line that are performed one after another, each the oldest of its core on its line.
use Rattle.std.proofs.Common.{◌≡◌, ◌≢◌, ℕ, suc, ◌+◌, ◌/◌, ◌<◌, ◌≤◌, ◌⊎◌, List, [], ◌∷◌, ◌++◌, length, map, inl, inr}
use Rattle.std.proofs.Common.{refl, sym, ap, ◌∙◌, subst, ⊎_elim, append_assoc, append-nil, arith}
use Rattle.std.specs.Prelude.{All, Contains}
use Rattle.std.proofs.lemmas.Bool.{cases_eq}
use Rattle.std.proofs.lemmas.List.{length-append, length_push}
use Rattle.std.proofs.lemmas.List.Elements.{All-head, All-tail, Contains-append_cases, Contains-append_right}
use Rattle.std.proofs.lemmas.List.Elements.{Contains-push_cases}
use Rattle.address_map.specs.Words.{IsAscendingBy}
use Rattle.address_map.specs.declared.address.CoreId.{CoreId}
use Rattle.address_map.specs.declared.block.Block.{Block}
use Rattle.slice_core_cache.specs.Copy.{performed_on}
use Rattle.slice_core_cache.specs.Perform.{entries_of, entry_of}
use Rattle.slice_core_cache.specs.Targets.{IsPerformable}
use Rattle.slice_core_theory.proofs.Requests.{logged}
use Rattle.slice_core_theory.specs.SmallMachine.{Asked, IsOldest, SmallMachine, Run, after, entry_for, perform}
use Rattle.slice_core_theory.specs.Shows.{request_of_target}
use Rattle.slice_log.specs.Log.{IsLegal}
use Rattle.target_list.specs.declared.target.Target.{Target}

-- ---- lists

-- An element is the first, or one of the others.
cons-cases : {X : Type 0} (x : X) (xs : List X) (y : X) → Contains (x ∷ xs) y → (x ≡ y) ⊎ Contains xs y
cons-cases x xs y there = elim (Contains-append_cases (x ∷ []) xs y there) [
  | inl first ↦ elim (Contains-push_cases [] x y first) [
    | inl none ↦ let inside = none.1 in absurd (omega (arith, inside))
    | inr same ↦ inl same
  ]
  | inr later ↦ inr later
]

first-contained : {X : Type 0} (x : X) (xs : List X) → Contains (x ∷ xs) x
first-contained x xs = (0, omega arith, refl)

-- The first of a list that ascends is below the others, which ascend.
first-below : (first later : Target) (targets : List Target) → IsAscendingBy (λ t. t.seq) (first ∷ targets)
    → Contains targets later → first.seq < later.seq
first-below first later targets ascends there =
    let inside = there.1 in
    let rises = ascends 0 (suc there.0) later (omega arith) (omega (arith, inside)) in
    subst (λ (t : Target). first.seq < t.seq) there.2 rises

others-ascend : (first : Target) (targets : List Target) → IsAscendingBy (λ t. t.seq) (first ∷ targets)
    → IsAscendingBy (λ t. t.seq) targets
others-ascend first targets ascends i j d before inside =
    ascends (suc i) (suc j) d (omega (arith, before)) (omega (arith, inside))

-- ---- the requests of one core on one line

-- The request is one of these targets of the core, on the line with this first word.
pub record IsAmong (first : ℕ) (core : CoreId) (targets : List Target) (r : Asked) : Type 0 where
  pub target : Target
  pub there : Contains targets target
  pub same : r ≡ request_of_target first core target

-- What waits is these targets and the others.
pub record Waiting (first : ℕ) (core : CoreId) (Other waiting : Asked → Type 0) (targets : List Target) : Type 0 where
  pub out : (r : Asked) → waiting r → IsAmong first core targets r ⊎ Other r
  pub back : (r : Asked) → IsAmong first core targets r ⊎ Other r → waiting r

-- The entries from one number to another have replies besides those that had.
pub record Replying (before now : ℕ → Type 0) (from past : ℕ) : Type 0 where
  pub out : (number : ℕ) → now number → before number ⊎ ((from ≤ number) × (number < past))
  pub back : (number : ℕ) → before number ⊎ ((from ≤ number) × (number < past)) → now number

module _ (initial : ℕ → ℕ) (first : ℕ) (core : CoreId) (left : List Target) (Other : Asked → Type 0)
    (far : (r : Asked) (offset : ℕ) → offset < 8 → Other r → r.core.0 ≡ core.0
    → r.word.0 / 8 ≡ (first + offset) / 8 → ⊥) where
  module _ (m : SmallMachine) (target : Target) (targets : List Target) (small : target.offset.0 < 8)
      (ascends : IsAscendingBy (λ t. t.seq) (target ∷ targets))
      (waits : Waiting first core Other m.waiting (target ∷ targets)) where
    abbrev request : Asked
    request = request_of_target first core target

    can : m.waiting request × IsOldest m request
    can = (
      waits.back request (inl (record { target = target; there = first-contained target targets; same = refl })),
      λ other waiting core_is line_is.
          ⊎_elim
          (λ among.
          let same = ap (λ (a : Asked). a.seq) among.same in
          ⊎_elim (λ is. let equal = ap (λ (t : Target). t.seq) is in omega (arith, equal, same))
          (λ later. let above = first-below target among.target targets ascends later in omega (arith, above, same))
          (cons-cases target targets among.target among.there))
          (λ away. absurd (far other target.offset.0 small away core_is line_is)) (waits.out other waiting),
    )

    -- What waits then is the other targets.
    waits_then : Waiting first core Other (λ r. m.waiting r × (r ≢ request)) targets
    waits_then = record {
      out = λ r waiting.
          ⊎_elim
          (λ among.
          ⊎_elim (λ is. absurd (waiting.1 (among.same ∙ ap (request_of_target first core) (sym is))))
          (λ later. inl (record { target = among.target; there = later; same = among.same }))
          (cons-cases target targets among.target among.there))
          (λ away. inr away) (waits.out r waiting.0);
      back = λ r waiting.
          ⊎_elim
          (λ among.
          let there = Contains-append_right (target ∷ []) targets among.target among.there in (
            waits.back r (inl (record { target = among.target; there = there; same = among.same })),
            λ is.
                let above = first-below target among.target targets ascends among.there in
                let same = ap (λ (a : Asked). a.seq) (sym among.same ∙ is) in
                omega (arith, above, same),
          ))
          (λ away. (
            waits.back r (inr away),
            λ is.
                far r target.offset.0 small away (ap (λ (a : Asked). a.core.0) is)
                (ap (λ (a : Asked). a.word.0 / 8) is),
          )) waiting;
    }

  -- So all of them are performed, in order, and the log continues with their entries.
  pub performed-run : (taken : List Target) (block : Block) (m now : SmallMachine) → All IsPerformable taken
      → IsAscendingBy (λ t. t.seq) (taken ++ left) → Waiting first core Other m.waiting (taken ++ left)
      → Waiting first core Other now.waiting left
      → Replying m.replies now.replies (length m.log) (length now.log)
      → now.log ≡ m.log ++ entries_of core first block taken → IsLegal initial now.log
      → Run initial (map perform (map (request_of_target first core) taken)) m now
  unfolding entries_of
  performed-run [] block m now can_all ascends waits left_over replies grows legal =
      let same = grows ∙ append-nil m.log in record {
        log = sym same;
        waiting = λ r. (
          λ waiting. left_over.back r (waits.out r waiting),
          λ waiting. waits.back r (left_over.out r waiting),
        );
        replies = λ number. (
          λ named. replies.back number (inl named),
          λ named.
              ⊎_elim (λ before. before)
              (λ between.
              let from = between.0 in
              let past = between.1 in
              let long = ap (λ l. length l) same in
              absurd (omega (arith, from, past, long)))
              (replies.out number named),
        );
      }
  performed-run (target ∷ taken) block m now can_all ascends waits left_over replies grows legal =
      let small = (All-head IsPerformable target taken can_all).word in
      let entry = entry_of core first block target in
      let more = entries_of core first (performed_on block target.offset.0 target.op) taken in
      let request = request_of_target first core target in
      let is = logged initial m.log more entry (subst (IsLegal initial) grows legal) in
      let then = after initial m (perform request) in
      let push = length_push m.log (entry_for initial m.log request) in
      let long = ap (λ l. length l) grows ∙ length-append m.log (entry ∷ more) in (
        can m target (taken ++ left) small ascends waits,
        performed-run taken (performed_on block target.offset.0 target.op) then now
            (All-tail IsPerformable target taken can_all) (others-ascend target (taken ++ left) ascends)
            (waits_then m target (taken ++ left) small ascends waits) left_over
            (record {
              out = λ number named.
                  ⊎_elim (λ before. inl (inl before))
                  (λ between.
                  let from = between.0 in
                  ⊎_elim (λ same. inl (inr same)) (λ apart. inr (omega (arith, from, apart, push), between.1))
                  (cases_eq number (length m.log)))
                  (replies.out number named);
              back = λ number named.
                  ⊎_elim
                  (λ before.
                  ⊎_elim (λ had. replies.back number (inl had))
                  (λ same. replies.back number (inr (omega (arith, same), omega (arith, same, long)))) before)
                  (λ between.
                  let from = between.0 in replies.back number (inr (omega (arith, from, push), between.1))) named;
            })
            (grows ∙ sym (append_assoc m.log (entry ∷ []) more) ∙ ap (λ e. (m.log ++ e ∷ []) ++ more) (sym is)) legal,
      )
