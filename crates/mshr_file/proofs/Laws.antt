-- Order and tags of all targets, after one was added or some were taken.
use Rattle.std.proofs.Common.{◌≡◌, ◌≢◌, ℕ, ◌+◌, ◌<◌, ◌≤◌, Bool, true, List, [], ◌∷◌, ◌++◌, length, sym, ⊎_elim, arith}
use Rattle.std.specs.Prelude.{All}
use Rattle.std.specs.List.{count_by}
use Rattle.std.proofs.lemmas.Bool.{cases_Bool, cases_eq, eqb-true, ne_eqb}
use Rattle.std.proofs.lemmas.List.{length-append, get_or-append-add}
use Rattle.std.proofs.lemmas.List.Quantifiers.{all_pairs_push}
use Rattle.address_map.specs.Words.{IsAscendingBy}
use Rattle.target_list.specs.declared.target.Target.{Target}
use Rattle.mshr_file.specs.declared.registers.Register.{Register}
use Rattle.mshr_file.specs.Miss.{targets_of, count_of, has_tag, is_free, IsInOrder, HasEachTagOnce}
use Rattle.mshr_file.proofs.Lists.{count_by-yes, count_by-no}

abbrev InOrder : List Target → Type 0
InOrder targets = IsAscendingBy (λ target. target.seq) targets

pub order_added : (old new : List Register) (line : ℕ) (target : Target) →
    targets_of new line ≡ targets_of old line ++ target ∷ [] →
    ((other : ℕ) → other ≢ line → targets_of new other ≡ targets_of old other) → IsInOrder old →
    All (λ earlier. earlier.seq < target.seq) (targets_of old line) → IsInOrder new
order_added old new line target here others ordered above other =
    ⊎_elim
    (λ same.
    rw same
    (rw here
    (all_pairs_push (λ first later. first.seq < later.seq) (targets_of old line) target (ordered line)
    (λ k d inside. above k d inside))))
    (λ differs. rw (others other differs) (ordered other))
    (cases_eq other line)

pub order_taken : (old new : List Register) (line : ℕ) (taken : List Target) →
    targets_of old line ≡ taken ++ targets_of new line →
    ((other : ℕ) → other ≢ line → targets_of new other ≡ targets_of old other) → IsInOrder old → IsInOrder new
order_taken old new line taken here others ordered other =
    ⊎_elim
    (λ same. rw same (behind taken (targets_of new line) (rw here at (ordered line))))
    (λ differs. rw (others other differs) (ordered other))
    (cases_eq other line)
  where
    behind : (front back : List Target) → InOrder (front ++ back) → InOrder back
    behind front back ascending i j d before inside =
        let longer = length-append front back in
        let first = get_or-append-add front back i d in
        let later = get_or-append-add front back j d in
        let rises =
        ascending (length front + i) (length front + j) d (omega (arith, before)) (omega (arith, inside, longer)) in
        rw (first, later) at rises

pub once_added : (old new : List Register) (target : Target) →
    ((test : Target → Bool) → count_of test new ≡ count_of test old + count_by test (target ∷ [])) →
    HasEachTagOnce old →
    is_free old target.tag ≡ true → HasEachTagOnce new
once_added old new target counts once free tag =
    let more = counts (has_tag tag) in
    let few = once tag in
    ⊎_elim
    (λ same.
    let none : count_of (has_tag tag) old ≡ 0 = rw same (eqb-true _ _ free) in
    let one = at_most_one (has_tag tag) in
    omega (arith, more, none, one))
    (λ differs.
    let none = count_by-no (has_tag tag) target [] (ne_eqb target.tag tag (λ same. differs (sym same))) in
    omega (arith, more, few, none))
    (cases_eq tag target.tag)
  where
    at_most_one : (test : Target → Bool) → count_by test (target ∷ []) ≤ 1
    at_most_one test =
        ⊎_elim
        (λ passes. let one = count_by-yes test target [] passes in omega (arith, one))
        (λ fails. let none = count_by-no test target [] fails in omega (arith, none))
        (cases_Bool (test target))

pub once_taken : (old new : List Register) (taken : List Target) →
    ((test : Target → Bool) → count_of test old ≡ count_of test new + count_by test taken) → HasEachTagOnce old →
    HasEachTagOnce new
once_taken old new taken counts once tag =
    let fewer = counts (has_tag tag) in let few = once tag in omega (arith, fewer, few)
