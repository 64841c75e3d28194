-- Lists of what is in use, one item after another.
use Rattle.std.proofs.Common.{◌≡◌, ℕ, ◌+◌, ◌<◌, ◌≤◌, List, [], ◌∷◌, ◌++◌, append_assoc, append-nil, ap, ap₂, arith, drop}
use Rattle.std.proofs.Common.{get_or, length, map, set, sym, take, ◌∙◌, drop-set-lt}
use Rattle.std.specs.List.{range_with_len}
use Rattle.std.proofs.lemmas.List.{drop_all, drop_more, map_push, take_more_set, take_all}
use Rattle.program_run.proofs.MoveLemmas.{range-more}

module _ {X : Type 0} (f : X → X) (all now : List X) (i : ℕ) where
  -- one more is changed, and with the others changed too all are
  pub one_changed : (d : X) → i < length now → all ≡ take i now ++ map f (drop i now)
      → let new : List X = set now i (f (get_or now i d)) in all ≡ take (i + 1) new ++ map f (drop (i + 1) new)
  one_changed d below whole =
      let x = f (get_or now i d) in
      let rest = map f (drop (i + 1) now) in
      whole ∙ ap (λ left. take i now ++ map f left) (drop_more now i d below)
      ∙ sym (append_assoc (take i now) (x ∷ []) rest)
      ∙ ap₂ (λ a b. a ++ map f b) (sym (take_more_set now i x below)) (sym (drop-set-lt (i + 1) now i x (omega arith)))

  -- .. and after the last all are
  pub all_changed : length now ≤ i → all ≡ take i now ++ map f (drop i now) → now ≡ all
  all_changed past whole =
      sym (whole ∙ ap₂ (λ a b. a ++ map f b) (take_all i now past) (drop_all i now past) ∙ append-nil now)

-- what comes of one more number follows the others
pub one_listed : {Y : Type 0} (f : ℕ → Y) (now new : List Y) (n : ℕ) → now ≡ map f (range_with_len 0 n)
    → new ≡ now ++ f n ∷ [] → new ≡ map f (range_with_len 0 (n + 1))
one_listed f now new n so_far pushed =
    pushed ∙ ap (λ xs. xs ++ f n ∷ []) so_far
    ∙ sym (ap (map f) (range-more n) ∙ map_push f (range_with_len 0 n) n)
