-- Deliveries in one slice after another.
use Rattle.std.proofs.Common.{◌≡◌, ℕ, ◌+◌, ◌*◌, ◌/◌, ◌%◌, ◌<◌, ◌≤◌, Bool, true, false, List, [], ◌∷◌, ◌++◌, length}
use Rattle.std.proofs.Common.{Option, refl, sym, ap, subst, ◌∙◌, arith, add-one, inl, inr, length-append, zero, suc}
use Rattle.std.proofs.lemmas.List.Folds.{list_any-append, list_all-append}
use Rattle.std.proofs.lemmas.Nat.{div-add-mod', mod_below}
use Rattle.std.proofs.Math.Nat.{div-mul-le_self, mul-le-mul_right}
use Rattle.std.specs.Prelude.{◌&&◌, ◌||◌, cond}
use Rattle.std.specs.List.{list_all, list_any}
use Rattle.litmus_script.specs.Pump.{AreRounds, ComesTo, Delivers, Moves, MovesTimes, Pumps, is_moved}
use Rattle.litmus_script.specs.Pump.{is_nothing, round_after, round_of}
use Rattle.litmus_script.specs.declared.answers.Pumped.{Pumped}
use Rattle.litmus_script.specs.declared.answers.Pumped.TheVariants as pumps
use Rattle.litmus_script.specs.declared.pump.Round.{Round}
use Rattle.litmus_script.specs.declared.pump.Round.TheVariants as rounds
use Rattle.slice_answer.specs.declared.answer.Delivery.TheVariants as deliveries
use Rattle.slice_answer.specs.declared.answer.Delivery.{Delivery}
use Rattle.slice_queues.specs.declared.channel.Pick.{Pick}

-- the result of a round with one more answer
round_by : (moved empty : Bool) (answer : Delivery Pick)
    → (let round : Round = cond moved rounds.Moved (cond empty rounds.Empty rounds.Stuck) in
    round_after round answer ≡ cond (moved || (is_moved answer || false)) rounds.Moved
    (cond (empty && (is_nothing answer && true)) rounds.Empty rounds.Stuck))
round_by true empty (deliveries.Moved pick) = refl
round_by true empty deliveries.Nothing = refl
round_by true empty deliveries.Blocked = refl
round_by true empty (deliveries.Broken cell) = refl
round_by false true (deliveries.Moved pick) = refl
round_by false true deliveries.Nothing = refl
round_by false true deliveries.Blocked = refl
round_by false true (deliveries.Broken cell) = refl
round_by false false (deliveries.Moved pick) = refl
round_by false false deliveries.Nothing = refl
round_by false false deliveries.Blocked = refl
round_by false false (deliveries.Broken cell) = refl

round_more : (given : List (Delivery Pick)) (answer : Delivery Pick)
    → round_after (round_of given) answer ≡ round_of (given ++ answer ∷ [])
round_more given answer =
    rw (list_any-append is_moved given (answer ∷ []), list_all-append is_nothing given (answer ∷ []))
    (round_by (list_any is_moved given) (list_all is_nothing given) answer)

-- ---- rounds

of_moved : (moved empty : Bool) → rounds.Moved ≡ cond moved rounds.Moved (cond empty rounds.Empty rounds.Stuck)
    → moved ≡ true
of_moved true empty is = refl
of_moved false true is = cc
of_moved false false is = cc

of_empty : (moved empty : Bool) → rounds.Empty ≡ cond moved rounds.Moved (cond empty rounds.Empty rounds.Stuck)
    → (moved ≡ false) × (empty ≡ true)
of_empty true empty is = cc
of_empty false true is = (refl, refl)
of_empty false false is = cc

of_stuck : (moved empty : Bool) → rounds.Stuck ≡ cond moved rounds.Moved (cond empty rounds.Empty rounds.Stuck)
    → (moved ≡ false) × (empty ≡ false)
of_stuck true empty is = cc
of_stuck false true is = cc
of_stuck false false is = (refl, refl)

-- `before + 1` rounds are within the calls
within : (slices calls before : ℕ) → before < calls / slices → (before + 1) * slices ≤ calls
within slices calls before few =
    let more : before + 1 ≤ calls / slices = omega (arith, few) in
    omega (arith, mul-le-mul_right slices more, div-mul-le_self calls slices)

module _ {D : Type 0} (tells : D → ℕ → Delivery Pick → Option (List ℕ) → Option (List ℕ) → D → Type 0) where
  -- one more slice is asked
  pub delivers_more : (slice next : ℕ) (given : List (Delivery Pick)) (answer : Delivery Pick) (a b c : D)
      (x y z : Option (List ℕ))
      → next ≡ slice + length given → Delivers tells slice given a b x y → tells b next answer y z c
      → Delivers tells slice (given ++ answer ∷ []) a c x z
  delivers_more slice next [] answer a b c x y z is made one =
      let here : next ≡ slice = omega (arith, is) in (
        c,
        z,
        subst (λ n. tells a n answer x z c) here
            (subst (λ (d : D). tells d next answer x z c) made.0
            (subst (λ (t : Option (List ℕ)). tells b next answer t z c) made.1 one)),
        (refl, refl),
      )
  delivers_more slice next (first ∷ given) answer a b c x y z is (mid, middle, here, rest) one =
      let there : next ≡ slice + 1 + length given = omega (arith, is) in
      (mid, middle, here, delivers_more (slice + 1) next given answer mid b c middle y z there rest one)

  pub comes_to_nothing : (now : D) (text : Option (List ℕ)) → ComesTo tells 0 rounds.Empty now now text text
  comes_to_nothing now text = record { given = []; made = record { whole = refl; made = (refl, refl) }; came = refl }

  -- a round over one slice more
  pub comes_to_more : (n : ℕ) (round after : Round) (answer : Delivery Pick) (a b c : D) (x y z : Option (List ℕ))
      → ComesTo tells n round a b x y → tells b n answer y z c → after ≡ round_after round answer
      → ComesTo tells (n + 1) after a c x z
  comes_to_more n round after answer a b c x y z so_far one is = record {
    given = so_far.given ++ answer ∷ [];
    made = record {
      whole = length-append so_far.given (answer ∷ []) ∙ ap (λ k. k + 1) so_far.made.whole;
      made = delivers_more 0 n so_far.given answer a b c x y z (omega (arith, so_far.made.whole)) so_far.made.made one;
    };
    came = is ∙ ap (λ r. round_after r answer) so_far.came ∙ round_more so_far.given answer;
  }

  -- one more round that delivers a message
  pub moves_more : (slices n : ℕ) (a b c : D) (x y z : Option (List ℕ)) → MovesTimes tells slices n a b x y
      → ComesTo tells slices rounds.Moved b c y z → MovesTimes tells slices (n + 1) a c x z
  moves_more slices n a b c x y z before last =
      let moved = of_moved (list_any is_moved last.given) (list_all is_nothing last.given) last.came in
      rw (add-one n) (b, y, before, record { given = last.given; round = last.made; moved = moved })

  -- a pump that ends with a round in which no message waited
  pub pumps_empty : (slices calls : ℕ) (a c : D) (x z : Option (List ℕ))
      → AreRounds tells slices (calls / slices) rounds.Empty a c x z
      → Pumps tells slices calls pumps.Empty a c x z
  pumps_empty slices calls a c x z (turns, mid, middle, few, moves, last) =
      let none = of_empty (list_any is_moved last.given) (list_all is_nothing last.given) last.came in
      record {
        turns = turns;
        mid = mid;
        middle = middle;
        given = last.given;
        moves = moves;
        made = last.made.made;
        ends = inl (record {
          whole = last.made.whole;
          within = within slices calls turns few;
          still = none.0;
          said = rw none.1 refl;
        });
      }

  -- .. in which messages waited, and none was delivered
  pub pumps_stuck : (slices calls : ℕ) (a c : D) (x z : Option (List ℕ))
      → AreRounds tells slices (calls / slices) rounds.Stuck a c x z
      → Pumps tells slices calls pumps.Left a c x z
  pumps_stuck slices calls a c x z (turns, mid, middle, few, moves, last) =
      let none = of_stuck (list_any is_moved last.given) (list_all is_nothing last.given) last.came in
      record {
        turns = turns;
        mid = mid;
        middle = middle;
        given = last.given;
        moves = moves;
        made = last.made.made;
        ends = inl (record {
          whole = last.made.whole;
          within = within slices calls turns few;
          still = none.0;
          said = rw none.1 refl;
        });
      }

  -- a pump that ends with calls too few for a whole round
  pub pumps_out : (slices calls : ℕ) (round : Round) (a b c : D) (x y z : Option (List ℕ)) → 0 < slices
      → AreRounds tells slices (calls / slices) rounds.Moved a b x y → ComesTo tells (calls % slices) round b c y z
      → Pumps tells slices calls pumps.Left a c x z
  pumps_out slices calls round a b c x y z some moves last = record {
    turns = calls / slices;
    mid = b;
    middle = y;
    given = last.given;
    moves = moves;
    made = last.made.made;
    ends = inr (record {
      all = omega (arith, last.made.whole, div-add-mod' calls slices);
      few = omega (arith, last.made.whole, mod_below calls slices some);
      said = refl;
    });
  }

-- If each delivery acts on the machine's view, then so does a whole pump.
module _ {D V : Type 0} (view : D → V) (Inv : D → Type 0)
    (tells : D → ℕ → Delivery Pick → Option (List ℕ) → Option (List ℕ) → D → Type 0)
    (shows : V → ℕ → Delivery Pick → Option (List ℕ) → Option (List ℕ) → V → Type 0)
    (step : (old new : D) (slice : ℕ) (answer : Delivery Pick) (before after : Option (List ℕ)) → Inv old
    → tells old slice answer before after new → Inv new × shows (view old) slice answer before after (view new)) where
  delivers_shown : (slice : ℕ) (given : List (Delivery Pick)) (old new : D) (before after : Option (List ℕ)) → Inv old
      → Delivers tells slice given old new before after
      → Inv new × Delivers shows slice given (view old) (view new) before after
  delivers_shown slice [] old new before after inv none = (subst Inv (sym none.0) inv, (ap view none.0, none.1))
  delivers_shown slice (answer ∷ more) old new before after inv (next, middle, one, rest) =
      let here = step old next slice answer before middle inv one in
      let there = delivers_shown (slice + 1) more next new middle after here.0 rest in
      (there.0, (view next, middle, here.1, there.1))

  moves_shown : (slices : ℕ) (old new : D) (before after : Option (List ℕ)) → Inv old
      → Moves tells slices old new before after
      → Inv new × Moves shows slices (view old) (view new) before after
  moves_shown slices old new before after inv moves =
      let made = delivers_shown 0 moves.given old new before after inv moves.round.made in (
        made.0,
        record {
          given = moves.given;
          round = record { whole = moves.round.whole; made = made.1 };
          moved = moves.moved;
        },
      )

  times_shown : (slices n : ℕ) (old new : D) (before after : Option (List ℕ)) → Inv old
      → MovesTimes tells slices n old new before after
      → Inv new × MovesTimes shows slices n (view old) (view new) before after
  times_shown slices zero old new before after inv none = (subst Inv (sym none.0) inv, (ap view none.0, none.1))
  times_shown slices (suc n) old new before after inv (mid, middle, first, last) =
      let many = times_shown slices n old mid before middle inv first in
      let one = moves_shown slices mid new middle after many.0 last in
      (one.0, (view mid, middle, many.1, one.1))

  pub pumps_shown : (slices calls : ℕ) (pumped : Pumped) (old new : D) (before after : Option (List ℕ)) → Inv old
      → Pumps tells slices calls pumped old new before after
      → Pumps shows slices calls pumped (view old) (view new) before after
  pumps_shown slices calls pumped old new before after inv done =
      let many = times_shown slices done.turns old done.mid before done.middle inv done.moves in
      let made = delivers_shown 0 done.given done.mid new done.middle after many.0 done.made in
      record {
        turns = done.turns;
        mid = view done.mid;
        middle = done.middle;
        given = done.given;
        moves = many.1;
        made = made.1;
        ends = done.ends;
      }
