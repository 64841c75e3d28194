-- Moves that are listed one by one.
use Rattle.std.proofs.Common.{◌≡◌, ℕ, zero, suc, ◌+◌, ◌<◌, Bool, true, false, List, [], ◌∷◌, ◌++◌, length, map, take}
use Rattle.std.proofs.Common.{get_or, refl, sym, ap, ◌∙◌, append_assoc, append-nil, arith, add-one}
use Rattle.std.proofs.Common.{Option, Some, subst}
use Rattle.std.specs.Prelude.{IfSome, filter, slice_get}
use Rattle.std.specs.List.{flat_map, range_with_len}
use Rattle.std.proofs.lemmas.List.{flat_map_more, map-append, take_more}
use Rattle.std.proofs.lemmas.List.Elements.{filter-append}
use Rattle.std.proofs.lemmas.Option.{get_or_from_slice_get}
use Rattle.slice_core_spec.specs.Calls.{PartsView, next_pick}
use Rattle.slice_queues.specs.declared.channel.Class.TheVariants as classes
use Rattle.slice_queues.specs.declared.channel.Pick.{Pick}
use Rattle.program_run.specs.Front.{delivery_if}
use Rattle.program_run.specs.Run.{deliveries_of, delivery_of}
use Rattle.program_run.specs.declared.moves.Move.{Move}

-- one number more at the end of those from 0 on
range-suc : (a n j : ℕ) → a + n ≡ j → range_with_len a (suc n) ≡ range_with_len a n ++ j ∷ []
range-suc a zero j e = ap (λ x. x ∷ []) (omega (arith, e))
range-suc a (suc n) j e = ap (λ xs. a ∷ xs) (range-suc (a + 1) n j (omega (arith, e)))

pub range-more : (n : ℕ) → range_with_len 0 (n + 1) ≡ range_with_len 0 n ++ n ∷ []
range-more n = ap (range_with_len 0) (add-one n) ∙ range-suc 0 n n (omega arith)

module _ {X : Type 0} (f : ℕ → X) (test : ℕ → Bool) where
  -- one more that passes the test follows the others
  pub passes_more : (before now new : List X) (n : ℕ) → now ≡ before ++ map f (filter test (range_with_len 0 n))
      → test n ≡ true → new ≡ now ++ f n ∷ [] → new ≡ before ++ map f (filter test (range_with_len 0 (n + 1)))
  passes_more before now new n so_far passes pushed =
      let all = filter test (range_with_len 0 n) in
      let last : filter test (n ∷ []) ≡ n ∷ [] = rw passes refl in
      let more : map f (filter test (range_with_len 0 (n + 1))) ≡ map f all ++ f n ∷ [] =
      ap (λ xs. map f (filter test xs)) (range-more n) ∙ ap (map f) (filter-append test (range_with_len 0 n) (n ∷ []))
      ∙ ap (λ xs. map f (all ++ xs)) last ∙ map-append f all (n ∷ []) in
      pushed ∙ ap (λ xs. xs ++ f n ∷ []) so_far ∙ append_assoc before (map f all) (f n ∷ []) ∙ ap
      (λ xs. before ++ xs) (sym more)

  -- one that fails doesn't
  pub fails_more : (before now : List X) (n : ℕ) → now ≡ before ++ map f (filter test (range_with_len 0 n))
      → test n ≡ false → now ≡ before ++ map f (filter test (range_with_len 0 (n + 1)))
  fails_more before now n so_far fails =
      let all = filter test (range_with_len 0 n) in
      let last : filter test (n ∷ []) ≡ [] = rw fails refl in
      let more : filter test (range_with_len 0 (n + 1)) ≡ all =
      ap (filter test) (range-more n) ∙ filter-append test (range_with_len 0 n) (n ∷ [])
      ∙ ap (λ xs. all ++ xs) last ∙ append-nil all in
      so_far ∙ ap (λ xs. before ++ map f xs) (sym more)

-- what comes of one more item follows what came of the others
pub each_more : {X Y : Type 0} (f : X → List Y) (before now new : List Y) (xs : List X) (i : ℕ) (d : X) → i < length xs
    → now ≡ before ++ flat_map f (take i xs) → new ≡ now ++ f (get_or xs i d)
    → new ≡ before ++ flat_map f (take (i + 1) xs)
each_more f before now new xs i d within so_far grown =
    grown ∙ ap (λ all. all ++ f (get_or xs i d)) so_far ∙ flat_map_more f before (take i xs) (get_or xs i d)
    ∙ ap (λ these. before ++ flat_map f these) (sym (take_more xs i d within))

-- what is at a place of a list
pub at-place : {X : Type 0} (xs : List X) (i : ℕ) → i < length xs → (x : X) × (slice_get xs i ≡ Some x)
at-place [] i below = absurd (omega (arith, below))
at-place (x ∷ xs) zero below = (x, refl)
at-place (x ∷ xs) (suc i) below = at-place xs i (omega (arith, below))

-- the next delivery of one slice more is listed
pub next_listed : (before now new : List Move) (slices : List PartsView) (slice : ℕ) (next : Option Pick)
    → slice < length slices → now ≡ before ++ deliveries_of (take slice slices) → new ≡ now ++ delivery_if next
    → IfSome (slice_get slices slice) (λ state. delivery_of (next_pick state classes.Any) ≡ delivery_if next)
    → new ≡ before ++ deliveries_of (take (slice + 1) slices)
next_listed before now new slices slice next below so_far pushed is =
    let (state, at) = at-place slices slice below in
    let here : delivery_of (next_pick state classes.Any) ≡ delivery_if next =
    subst (λ (found : Option PartsView). IfSome found
    (λ state. delivery_of (next_pick state classes.Any) ≡ delivery_if next)) at is in
    each_more (λ (state : PartsView). delivery_of (next_pick state classes.Any)) before now new slices slice state below
    so_far
    (pushed ∙ ap (λ (moves : List Move). now ++ moves) (sym here
    ∙ ap (λ (p : PartsView). delivery_of (next_pick p classes.Any))
    (sym (get_or_from_slice_get slices slice state state at))))
