-- The tags of each core's accesses.
use Rattle.std.proofs.Common.{◌≡◌, ◌≢◌, ℕ, suc, true, false, cond, ◌+◌, ◌%◌, ◌<◌, List, [], ◌∷◌, ◌++◌}
use Rattle.std.proofs.Common.{length, Option, None, Some, refl, sym, ap, ◌∙◌, inl, inr, arith, true-eqb, eq-eqb}
use Rattle.std.specs.Prelude.{◌==◌, replicate}
use Rattle.std.proofs.Math.ListN.{set}
use Rattle.std.proofs.lemmas.Bool.{cases_Bool, false≢true}
use Rattle.std.proofs.lemmas.Grind.{common_steps, get_or-set_at}
use Rattle.std.proofs.lemmas.List.{get_or-set_other}
use Rattle.std.proofs.lemmas.List.Sums.{sum_by-append}
use Rattle.murphi_trace.specs.declared.rule.Rule.{Rule}
use Rattle.murphi_trace.specs.Replay.{AreTags, IsAccess, last_tag}
use Rattle.murphi_trace.specs.Script.{accesses_of, is_access_of}

-- no tags yet
pub tags_none : AreTags (replicate 10 None) []
tags_none = λ core within. grind (arith, common_steps)

-- one rule more
accesses_push : (core : ℕ) (before : List Rule) (rule : Rule)
    → accesses_of core (before ++ rule ∷ []) ≡ accesses_of core before + cond (is_access_of core rule) 1 0
accesses_push core before rule =
    let one : accesses_of core (rule ∷ []) ≡ 0 + cond (is_access_of core rule) 1 0 = refl in
    omega (arith, one, sum_by-append (λ r. cond (is_access_of core r) 1 0) before (rule ∷ []))

-- after an access its core has the access's tag, and no other core another
pub tags_more : (tags : List (Option ℕ)) (before : List Rule) (rule : Rule) (number tag : ℕ) → number < length tags
    → IsAccess number rule → tag ≡ accesses_of number before % 64 → AreTags tags before
    → AreTags (set tags number (Some tag)) (before ++ rule ∷ [])
tags_more tags before rule number tag there access is are = λ core within.
    let count = accesses_push core before rule in
    elim (cases_Bool (number == core)) [
      | inl same ↦
          let here : number ≡ core = true-eqb number core (sym same) in
          let more = rw (access core, same) at count in
          let next : suc (accesses_of core before) ≡ accesses_of core (before ++ rule ∷ []) = omega arith in
          get_or-set_at tags number core (Some tag) None (sym here) there
          ∙ ap Some (is ∙ ap (λ n. accesses_of n before % 64) here) ∙ ap last_tag next
      | inr other ↦
          let apart : core ≢ number = λ same. false≢true (sym other ∙ eq-eqb number core (sym same)) in
          let more = rw (access core, other) at count in
          let next : accesses_of core before ≡ accesses_of core (before ++ rule ∷ []) = omega arith in
          get_or-set_other tags number core (Some tag) None apart ∙ are core within ∙ ap last_tag next
    ]
