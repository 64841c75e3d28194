-- Differences, one line or one answer further.
use Rattle.std.proofs.Common.{◌≡◌, ℕ, zero, suc, ◌+◌, ◌-◌, ◌<◌, ◌≤◌, List, [], ◌∷◌, ◌++◌, length, get_or, drop, take}
use Rattle.std.proofs.Common.{append-nil, map, Option, Some, None, All, ap, sym, subst, refl, ◌∙◌, inl, inr, arith, below_more}
use Rattle.std.proofs.lemmas.List.{drop-drop, length-drop, take-append-drop, take_all}
use Rattle.std.proofs.lemmas.List.{at_drop_more, drop-map, length-map, take-map}
use Rattle.std.proofs.lemmas.List.{get_or-map as get_at_map}
use Rattle.std.proofs.Math.ListN.{drop_of_length-le, get_or-map}
use Rattle.std.specs.Option.{option_to_list}
use Rattle.script_test.specs.Judged.{BeginBehind, IsBefore, IsFirstUnlike, IsJudged, IsSame, IsUnlike, IsUnlikeFrom}
use Rattle.script_test.specs.Judged.{Unlike}

-- after `n` lines comes one that isn't in front of the next statement, or none
pub begin_behind : (answers wants : List (ℕ × List ℕ)) (n : ℕ) (d : ℕ × List ℕ) → 0 < length answers
    → ((e : ℕ × List ℕ) → n < length wants → (get_or answers 0 d).0 ≤ (get_or wants n e).0)
    → BeginBehind answers (drop n wants)
begin_behind [] wants n d some at = absurd (omega arith)
begin_behind (next ∷ more) [] zero d some at = tt
begin_behind (next ∷ more) [] (suc n) d some at = tt
begin_behind (next ∷ more) (w ∷ ws) zero d some at =
    λ before. let least = at w (omega arith) in absurd (omega (arith, least, before))
begin_behind (next ∷ more) (w ∷ ws) (suc n) d some at =
    begin_behind (next ∷ more) ws n d some (λ e below. at e (omega arith))

pub begin_behind_next : {X Y : Type 0} (u : X → ℕ × List ℕ) (v : Y → ℕ × List ℕ) (next : List X) (wants : List Y)
    (n : ℕ) (d : X) → 0 < length next
    → ((e : ℕ × List ℕ) → n < length wants → (u (get_or next 0 d)).0 ≤ (get_or (map v wants) n e).0)
    → BeginBehind (map u next) (drop n (map v wants))
begin_behind_next u v next wants n d some at =
    begin_behind (map u next) (map v wants) n (u d) (rw length-map some)
    (λ e below. let inside = rw length-map at below in subst (λ p. p.0 ≤ (get_or (map v wants) n e).0)
    (sym (get_or-map u next 0 d)) (at e inside))

module _ {X : Type 0} (view : X → ℕ × List ℕ) (xs : List X) (i : ℕ) (d : X) where
  -- those up to here come before a line
  pub below_more_lines : (line : ℕ) → ((k : ℕ) → k < i → (e : ℕ × List ℕ) → (get_or (map view xs) k e).0 < line)
      → i < length xs → (view (get_or xs i d)).0 < line
      → (k : ℕ) → k < i + 1 → (e : ℕ × List ℕ) → (get_or (map view xs) k e).0 < line
  below_more_lines line before within here =
      below_more _ _ before
      (λ e. subst (λ p. p.0 < line) (sym (get_at_map view xs i d e within)) here)

  next_of : i < length xs → drop i (map view xs) ≡ view (get_or xs i d) ∷ drop (i + 1) (map view xs)
  next_of within =
      let inside : i < length (map view xs) = rw length-map within in
      at_drop_more (λ left. left) (map view xs) i (view d) inside
      ∙ ap (λ w. w ∷ drop (i + 1) (map view xs)) (get_or-map view xs i d)

  -- a line that is as wanted, and then the first difference of those after it
  pub first_more : (at : ℕ) (got : List ℕ) (more : List (List ℕ)) (unlike : Option Unlike) → i < length xs
      → IsSame (view (get_or xs i d)).1 got → IsFirstUnlike at (drop (i + 1) (map view xs)) more unlike
      → IsFirstUnlike at (drop i (map view xs)) (got ∷ more) unlike
  first_more at got more unlike within same rest =
      subst (λ left. IsFirstUnlike at left (got ∷ more) unlike) (sym (next_of within)) (inl (same, rest))

  -- a line that isn't, from this word on
  pub first_here : (at : ℕ) (got : List ℕ) (more : List (List ℕ)) (word : ℕ) → i < length xs
      → IsUnlikeFrom (view (get_or xs i d)).1 got word
      → IsFirstUnlike at (drop i (map view xs)) (got ∷ more)
      (Some ((view (get_or xs i d)).0, Some (view (get_or xs i d)).1, Some got, Some word))
  first_here at got more word within other =
      subst (λ left. IsFirstUnlike at left (got ∷ more)
      (Some ((view (get_or xs i d)).0, Some (view (get_or xs i d)).1, Some got, Some word)))
      (sym (next_of within)) (inr (word, other, refl))

  -- no line where one is wanted
  pub first_short : (at : ℕ) → i < length xs
      → IsFirstUnlike at (drop i (map view xs)) [] (Some
      ((view (get_or xs i d)).0, Some (view (get_or xs i d)).1, None, None))
  first_short at within =
      subst (λ left. IsFirstUnlike at left [] (Some
      ((view (get_or xs i d)).0, Some (view (get_or xs i d)).1, None, None)))
      (sym (next_of within)) refl

  -- the difference of an answer, if it has one, and then those of the answers after it
  pub judged_more : (wants mine later : List (ℕ × List ℕ)) (unlike : Option Unlike) (others : List Unlike)
      → i < length xs → wants ≡ mine ++ later
      → All (IsBefore (drop (i + 1) (map view xs))) mine → BeginBehind (drop (i + 1) (map view xs)) later
      → IsUnlike (view (get_or xs i d)) mine unlike → IsJudged later (drop (i + 1) (map view xs)) others
      → IsJudged wants (drop i (map view xs)) (option_to_list unlike ++ others)
  judged_more wants mine later unlike others within parts before behind here rest =
      subst (λ left. IsJudged wants left (option_to_list unlike ++ others)) (sym (next_of within))
      (mine, later, parts, before, behind, unlike, others, here, rest, refl)

module _ {X Y : Type 0} (v : X → ℕ × List ℕ) (u : Y → ℕ × List ℕ) (wants : List X) (answers : List Y)
    (taken place count : ℕ) (d : Y)
    (within : place < length answers)
    (before : All (IsBefore (map u (drop (place + 1) answers))) (take count (map v (drop taken wants))))
    (behind : BeginBehind (map u (drop (place + 1) answers)) (drop count (map v (drop taken wants)))) where
  left : drop taken (map v wants) ≡ map v (drop taken wants)
  left = drop-map v taken wants

  later_of : drop count (map v (drop taken wants)) ≡ drop (taken + count) (map v wants)
  later_of = ap (drop count) (sym left) ∙ drop-drop count taken (map v wants)

  parts : drop taken (map v wants) ≡ take count (map v (drop taken wants)) ++ drop count (map v (drop taken wants))
  parts = left ∙ sym (take-append-drop count (map v (drop taken wants)))

  pub judge_more : (unlike : Option Unlike) (others : List Unlike) → IsUnlike (u (get_or answers place d))
      (map v (take count (drop taken wants))) unlike
      → IsJudged (drop (taken + count) (map v wants)) (drop (place + 1) (map u answers)) others
      → IsJudged (drop taken (map v wants)) (drop place (map u answers)) (option_to_list unlike ++ others)
  judge_more unlike others here rest =
      judged_more u answers place d (drop taken (map v wants)) (take count (map v (drop taken wants)))
      (drop count (map v (drop taken wants))) unlike others
      within parts
      (subst (λ more. All (IsBefore more) (take count (map v (drop taken wants))))
      (sym (drop-map u (place + 1) answers)) before)
      (subst (λ more. BeginBehind more (drop count (map v (drop taken wants))))
      (sym (drop-map u (place + 1) answers)) behind)
      (subst (λ mine. IsUnlike (u (get_or answers place d)) mine unlike)
      (sym (take-map v count (drop taken wants))) here)
      (subst (λ later. IsJudged later (drop (place + 1) (map u answers)) others) (sym later_of) rest)

pub tail_is : {X : Type 0} (xs : List X) (n : ℕ) → take (length xs - n) (drop n xs) ≡ drop n xs
tail_is xs n =
    let left : length (drop n xs) ≡ length xs - n = length-drop n xs in
    take_all (length xs - n) (drop n xs) (omega (arith, left))

-- after the last answer nothing is left to find
pub judged_all : {Y : Type 0} (u : Y → ℕ × List ℕ) (answers : List Y) (place : ℕ) (left wants : List (ℕ × List ℕ))
    (found : List Unlike) → length answers ≤ place
    → ((others : List Unlike) → IsJudged left (drop place (map u answers)) others
    → IsJudged wants (map u answers) (found ++ others))
    → IsJudged wants (map u answers) found
judged_all u answers place left wants found past all =
    let none : drop place (map u answers) ≡ [] = drop_of_length-le (map u answers) (rw length-map past) in
    subst (λ ds. IsJudged wants (map u answers) ds) (append-nil found)
    (all [] (subst (λ rest. IsJudged left rest []) (sym none) refl))

-- the same, where the lists that are left are named
module _ {X Y : Type 0} (v : X → ℕ × List ℕ) (u : Y → ℕ × List ℕ) (wants : List X) (answers : List Y)
    (taken place count : ℕ) (d : Y)
    (rest : List X) (next : List Y) (rest_is : rest ≡ drop taken wants) (next_is : next ≡ drop (place + 1) answers)
    (within : place < length answers) (before : All (IsBefore (map u next)) (take count (map v rest)))
    (behind : BeginBehind (map u next) (drop count (map v rest))) where
  before_is : All (IsBefore (map u (drop (place + 1) answers))) (take count (map v (drop taken wants)))
  before_is =
      subst (λ r. All (IsBefore (map u (drop (place + 1) answers))) (take count (map v r))) rest_is
      (subst (λ n. All (IsBefore (map u n)) (take count (map v rest))) next_is before)

  behind_is : BeginBehind (map u (drop (place + 1) answers)) (drop count (map v (drop taken wants)))
  behind_is =
      subst (λ r. BeginBehind (map u (drop (place + 1) answers)) (drop count (map v r))) rest_is
      (subst (λ n. BeginBehind (map u n) (drop count (map v rest))) next_is behind)

  pub judge_next : (unlike : Option Unlike) (others : List Unlike)
      → IsUnlike (u (get_or answers place d)) (map v (take count rest)) unlike
      → IsJudged (drop (taken + count) (map v wants)) (drop (place + 1) (map u answers)) others
      → IsJudged (drop taken (map v wants)) (drop place (map u answers)) (option_to_list unlike ++ others)
  judge_next unlike others here more =
      judge_more v u wants answers taken place count d within before_is behind_is unlike others
      (subst (λ r. IsUnlike (u (get_or answers place d)) (map v (take count r)) unlike) rest_is here) more
