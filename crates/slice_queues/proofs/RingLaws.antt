-- A round of lines as lines come to its end and leave its front.
use Rattle.std.proofs.Common.{◌≡◌, ◌≢◌, ℕ, zero, suc, ◌-◌, ◌<◌, ◌≤◌, ◌||◌, ◌++◌, if◌then◌else◌, Bool, true, false, List}
use Rattle.std.proofs.Common.{[], ◌∷◌, length, drop, take, refl, ap, sym, ◌∙◌, subst, arith, Some, replicate, get_or}
use Rattle.std.proofs.Common.{inl, inr, eq-eqb, append_assoc, add-one, drop-cons, filter, ◌+◌}
use Rattle.std.specs.Prelude.{eqb, slice_get}
use Rattle.std.specs.List.{list_any, IsDistinct, AllByRecursion}
use Rattle.std.proofs.Math.ListN.{set, length-set}
use Rattle.std.proofs.Math.Bool.{or-true, or-false}
use Rattle.std.proofs.lemmas.Bool.{cases_eq, cases_lt, ne_eqb}
use Rattle.std.proofs.lemmas.Cmp.{nat_eq_equiv}
use Rattle.std.proofs.lemmas.List.{get_or-set_same, get_or-set_other, get_or_past, length-replicate}
use Rattle.std.proofs.lemmas.List.Elements.{filter_more}
use Rattle.std.proofs.lemmas.List.Folds.{list_any-append}
use Rattle.std.proofs.lemmas.Map.Keys.{IsDistinct-push, IsDistinct-head, IsDistinct-tail}
use Rattle.std.proofs.lemmas.Map.Steps.{length-le_from_distinct_below}
use Rattle.circular_buffer.specs.Buffer.{Buffer, buffer, keep_last}
use Rattle.address_map.specs.Locator.{Lines}
use Rattle.slice_queues.specs.Line.{LineChannels, empty_line, has_mail, IsEmptyLine, TakesOnly}
use Rattle.slice_queues.specs.declared.channel.Channel.{Channel}
use Rattle.slice_queues.proofs.LineLaws.{read_default, IsEmptyLine-from_taken}
use Rattle.slice_queues.proofs.SliceLaws.{IsEmptyLine-empty_line}
use Rattle.slice_queues.proofs.MailLaws.{or_false, no_mail-from_IsEmptyLine, IsEmptyLine-from_no_mail}
use Rattle.slice_queues.specs.Ring.{IsQueues, LineOrder, is_listed, with_listed, IsOrder, IsRound}

-- a line of the round is a line of the slice
pub listed-below : (order : List ℕ) (listed : List Bool) (capacity local : ℕ) → IsRound order listed capacity →
    is_listed order local ≡ true → local < length listed
listed-below order listed capacity local round there =
    elim (cases_lt local (length listed)) [
      | inl below ↦ below
      | inr past ↦
          let clash : false ≡ true = sym (get_or_past listed local false past) ∙ round.flags local ∙ there in
          absurd (cc clash)
    ]

-- the lines of a round, each of the slice
pub IsOrder-from_round : (order : List ℕ) (listed : List Bool) (capacity : ℕ) → IsRound order listed capacity →
    IsOrder order (length listed)
IsOrder-from_round order listed capacity round = record {
  once = round.once;
  there = λ local there. listed-below order listed capacity local round there;
}

-- no round has more lines than the slice
pub length-order : (order : List ℕ) (lines : ℕ) → IsOrder order lines → length order ≤ lines
length-order order lines is = length-le_from_distinct_below order lines is.once is.there

-- an empty round
pub IsRound-empty : (lines : ℕ) → IsRound [] (replicate lines false) lines
unfolding IsDistinct
IsRound-empty lines = record {
  once = no_line;
  flags = none lines;
  room = sym (length-replicate lines false);
}
  where
    no_line : IsDistinct eqb []
    no_line = tt

    none : (n local : ℕ) → get_or (replicate n false) local false ≡ false
    none zero local = refl
    none (suc n) zero = refl
    none (suc n) (suc local) = none n local

-- a buffer with room keeps all
pub keep-room : (capacity : ℕ) (xs : List ℕ) → length xs ≤ capacity → keep_last capacity xs ≡ xs
keep-room capacity xs room =
    let none : length xs - capacity ≡ 0 = omega arith in
    rw none refl

-- one more line at the end
pub IsRound-push : (order : List ℕ) (listed : List Bool) (capacity local : ℕ) → IsRound order listed capacity →
    local < length listed → get_or listed local false ≡ false →
    IsRound (order ++ local ∷ []) (set listed local true) capacity
IsRound-push order listed capacity local round there apart = record {
  once = IsDistinct-push nat_eq_equiv order local round.once (sym (round.flags local) ∙ apart);
  flags = flags;
  room = round.room ∙ sym (length-set listed local true);
}
  where
    flags : (other : ℕ) → get_or (set listed local true) other false ≡ is_listed (order ++ local ∷ []) other
    flags other =
        elim (cases_eq other local) [
          | inl same ↦
              rw
              same (get_or-set_same listed local true false there
              ∙ sym (list_any-append (eqb local) order (local ∷ []) ∙ rw (eq-eqb local local refl) (or-true _)))
          | inr differs ↦
              get_or-set_other listed local other true false differs
              ∙ round.flags other
              ∙ sym (list_any-append (eqb other) order (local ∷ []) ∙ rw (ne_eqb other local differs) (or-false _))
        ]

-- the first line of a round isn't in the rest of it
apart-first : (first : ℕ) (order : List ℕ) → IsDistinct eqb (first ∷ order) → list_any (eqb first) order ≡ false
apart-first first order once = none order (IsDistinct-head eqb first order once)
  where
    none : (xs : List ℕ) → AllByRecursion (λ y. eqb first y ≡ false) xs → list_any (eqb first) xs ≡ false
    none [] all = refl
    none (x ∷ xs) all = rw all.0 (none xs all.1)

-- the first line goes to the end
pub IsRound-turn : (first : ℕ) (order : List ℕ) (listed : List Bool) (capacity : ℕ) →
    IsRound (first ∷ order) listed capacity →
    IsRound (order ++ first ∷ []) listed capacity
IsRound-turn first order listed capacity round = record {
  once = IsDistinct-push nat_eq_equiv order first (IsDistinct-tail eqb first order round.once)
      (apart-first first order round.once);
  flags = λ local. round.flags local
      ∙ sym (list_any-append (eqb local) order (first ∷ []) ∙ turned (eqb local first) (list_any (eqb local) order));
  room = round.room;
}
  where
    turned : (a b : Bool) → (b || (a || false)) ≡ (a || b)
    turned true true = refl
    turned true false = refl
    turned false true = refl
    turned false false = refl

-- the first line leaves
pub IsRound-leave : (first : ℕ) (order : List ℕ) (listed : List Bool) (capacity : ℕ) →
    IsRound (first ∷ order) listed capacity →
    IsRound order (set listed first false) capacity
IsRound-leave first order listed capacity round = record {
  once = IsDistinct-tail eqb first order round.once;
  flags = flags;
  room = round.room ∙ sym (length-set listed first false);
}
  where
    there : first < length listed
    there = listed-below (first ∷ order) listed capacity first round (rw (eq-eqb first first refl) refl)

    flags : (other : ℕ) → get_or (set listed first false) other false ≡ is_listed order other
    flags other =
        elim (cases_eq other first) [
          | inl same ↦ rw same (get_or-set_same listed first false false there
              ∙ sym (apart-first first order round.once))
          | inr differs ↦
              get_or-set_other listed first other false false differs
              ∙ round.flags other
              ∙ rw (ne_eqb other first differs) refl
        ]

-- the first line of a list that has one
pub first-from_get : (order : List ℕ) (first : ℕ) → slice_get order 0 ≡ Some first → order ≡ first ∷ drop 1 order
first-from_get [] first e = cc
first-from_get (line ∷ order) first e = cc

-- what a buffer has after a push
pub pushed-items : (order : List ℕ) (listed : List Bool) (local : ℕ) (old new : Buffer ℕ) →
    old.items ≡ order → IsRound (order ++ local ∷ []) listed old.capacity →
    new ≡ buffer (keep_last old.capacity (old.items ++ local ∷ [])) old.capacity →
    new ≡ buffer (order ++ local ∷ []) old.capacity
pushed-items order listed local old new is round pushed =
    let few : length (order ++ local ∷ []) ≤ old.capacity =
    omega (arith, length-order _ _ (IsOrder-from_round _ listed old.capacity round), round.room) in
    pushed
    ∙ ap (λ xs. buffer (keep_last old.capacity (xs ++ local ∷ [])) old.capacity) is
    ∙ ap (λ xs. buffer xs old.capacity) (keep-room old.capacity (order ++ local ∷ []) few)

-- a line that was pushed is at the end of what contracts see
pub listed-view : (order : List ℕ) (listed : List Bool) (local capacity : ℕ) (new : Buffer ℕ) →
    new ≡ buffer (order ++ local ∷ []) capacity → is_listed order local ≡ false →
    record { order = new.items; lines = length (set listed local true) }
    ≡ (let after : LineOrder = record { order = with_listed order local; lines = length listed } in after)
listed-view order listed local capacity new is apart =
    let view : List ℕ → ℕ → LineOrder = λ order lines. record { order = order; lines = lines } in
    ap (λ buffer. view buffer.items (length (set listed local true))) is
    ∙ ap (view (order ++ local ∷ [])) (length-set listed local true)
    ∙ ap (λ order. view order (length listed)) (with_new order local apart)
  where
    with_new : (order : List ℕ) (local : ℕ) → is_listed order local ≡ false →
        (order ++ local ∷ []) ≡ with_listed order local
    with_new order local apart = rw apart refl

-- the first line of a round in front
in_front : (order : List ℕ) (listed : List Bool) (capacity first : ℕ) →
    slice_get order 0 ≡ Some first → IsRound order listed capacity → IsRound (first ∷ drop 1 order) listed capacity
in_front order listed capacity first at_front round =
    subst (λ (lines : List ℕ). IsRound lines listed capacity) (first-from_get order first at_front) round

-- the first line of a round taken out, and put to the end
pub turned-round : (order : List ℕ) (listed : List Bool) (capacity first : ℕ) →
    slice_get order 0 ≡ Some first → IsRound order listed capacity →
    IsRound (drop 1 order ++ first ∷ []) listed capacity
turned-round order listed capacity first at_front round =
    IsRound-turn first (drop 1 order) listed capacity (in_front order listed capacity first at_front round)

pub turned-buffer : (order : List ℕ) (listed : List Bool) (capacity first : ℕ) (middle new : Buffer ℕ) →
    slice_get order 0 ≡ Some first → IsRound order listed capacity → middle ≡ buffer (drop 1 order) capacity →
    new ≡ buffer (keep_last middle.capacity (middle.items ++ first ∷ [])) middle.capacity →
    new ≡ buffer (drop 1 order ++ first ∷ []) capacity
turned-buffer order listed capacity first middle new at_front round popped pushed =
    let room : middle.capacity ≡ capacity = ap (λ b. b.capacity) popped in
    let turned : IsRound (drop 1 order ++ first ∷ []) listed middle.capacity =
    rw room (turned-round order listed capacity first at_front round) in
    pushed-items (drop 1 order) listed first middle new (ap (λ b. b.items) popped) turned pushed
    ∙ ap (buffer (drop 1 order ++ first ∷ [])) room

-- the first line of a round taken out
pub left-round : (order : List ℕ) (listed : List Bool) (capacity first : ℕ) →
    slice_get order 0 ≡ Some first → IsRound order listed capacity →
    IsRound (drop 1 order) (set listed first false) capacity
left-round order listed capacity first at_front round =
    IsRound-leave first (drop 1 order) listed capacity (in_front order listed capacity first at_front round)

-- what is got from a list is in it
pub listed-get : (order : List ℕ) (index local : ℕ) → slice_get order index ≡ Some local → is_listed order local ≡ true
listed-get [] index local e = cc
listed-get (line ∷ order) zero local e = let same : local ≡ line = cc in rw (eq-eqb local line same) refl
listed-get (line ∷ order) (suc index) local e = rw (listed-get order index local e) (or-true _)

-- a line that went to the end in what contracts see
pub turned-view : (order : List ℕ) (lines capacity first : ℕ) (new : Buffer ℕ) (stays : Bool) →
    slice_get order 0 ≡ Some first → new ≡ buffer (drop 1 order ++ first ∷ []) capacity → stays ≡ true →
    (let before : LineOrder = record { order = new.items; lines = lines } in before)
    ≡ record { order = drop 1 order ++ (if stays then take 1 order else []); lines = lines }
turned-view order lines capacity first new stays at_front is on =
    let view : List ℕ → LineOrder = λ order. record { order = order; lines = lines } in
    ap (λ buffer. view buffer.items) is
    ∙ ap (λ end. view (drop 1 order ++ end)) (front order at_front)
    ∙ ap (λ stays. view (drop 1 order ++ (if stays then take 1 order else []))) (sym on)
  where
    front : (order : List ℕ) → slice_get order 0 ≡ Some first → (first ∷ []) ≡ take 1 order
    front [] e = cc
    front (line ∷ order) e = cc

-- a turn of the ring continues what earlier turns left
pub rotate-step : (mail : ℕ → Bool) (ring now : List ℕ) (turn : ℕ) (stays : Bool) → turn < length ring →
    now ≡ drop turn ring ++ filter mail (take turn ring) → stays ≡ mail (get_or now 0 0) →
    drop 1 now ++ (if stays then take 1 now else []) ≡ drop (turn + 1) ring ++ filter mail (take (turn + 1) ring)
rotate-step mail ring now turn stays within is says =
    let first : ℕ = get_or ring turn 0 in
    let kept : List ℕ = filter mail (take turn ring) in
    let dropped : drop turn ring ≡ first ∷ drop (turn + 1) ring = rw add-one (drop-cons ring turn 0 within) in
    let front : now ≡ first ∷ (drop (turn + 1) ring ++ kept) = is ∙ ap (λ (xs : List ℕ). xs ++ kept) dropped in
    let test : stays ≡ mail first = says ∙ ap (λ (xs : List ℕ). mail (get_or xs 0 0)) front in
    let rest : List ℕ = drop (turn + 1) ring ++ kept in
    let turned : (xs : List ℕ) (b : Bool) → xs ≡ first ∷ rest →
    drop 1 xs ++ (if b then take 1 xs else []) ≡ rest ++ (if b then first ∷ [] else []) =
    λ xs b e. rw e refl in
    turned now stays front
    ∙ ap (λ (b : Bool). rest ++ (if b then first ∷ [] else [])) test
    ∙ append_assoc (drop (turn + 1) ring) kept (if mail first then first ∷ [] else [])
    ∙ ap (λ (xs : List ℕ). drop (turn + 1) ring ++ xs) (sym (filter_more mail ring turn 0 within))

-- a line that isn't in the ring after a turn wasn't in it before, or left it as it has no message
turned-quiet : (mail : ℕ → Bool) (order : List ℕ) (stays : Bool) (local : ℕ) →
    stays ≡ mail (get_or order 0 0) → (is_listed order local ≡ false → mail local ≡ false) →
    is_listed (drop 1 order ++ (if stays then take 1 order else [])) local ≡ false → mail local ≡ false
turned-quiet mail [] stays local says quiet apart = quiet refl
turned-quiet mail (first ∷ order) stays local says quiet apart =
    elim (cases_eq local first) [
      | inl same ↦ at_first stays refl same
      | inr differs ↦
          quiet (rw (ne_eqb local first differs)
          (or_false (is_listed order local) _ (sym (list_any-append (eqb local) order _) ∙ apart)).0)
    ]
  where
    at_first : (here : Bool) → stays ≡ here → local ≡ first → mail local ≡ false
    at_first false gone same = ap mail same ∙ sym says ∙ gone
    at_first true still same =
        let listed : is_listed (order ++ first ∷ []) local ≡ true =
        list_any-append (eqb local) order (first ∷ []) ∙ rw (eq-eqb local first same) (or-true _) in
        let clash : false ≡ true =
        sym apart ∙ ap (λ b. is_listed (order ++ (if b then first ∷ [] else [])) local) still ∙ listed in
        cc

-- after a turn a line that isn't in the ring has no message
pub IsQueues-turn : (lines : List LineChannels) (ring new : LineOrder) (own : Lines) (first : LineChannels)
    (stays : Bool) →
    first ≡ get_or lines (get_or ring.order 0 0) (empty_line 0) → stays ≡ has_mail first →
    new ≡ record ring { order = drop 1 ring.order ++ (if stays then take 1 ring.order else []) } →
    IsQueues lines ring own → IsQueues lines new own
IsQueues-turn lines ring new own first stays line says is queues = record {
  machine = queues.machine;
  lines_here = queues.lines_here;
  ring_for_all = ap (λ r. r.lines) is ∙ queues.ring_for_all;
  quiet = λ local apart.
      turned-quiet (λ place. has_mail (get_or lines place (empty_line 0))) ring.order stays local
      (says ∙ ap has_mail line) (queues.quiet local) (sym (ap (λ r. is_listed r.order local) is) ∙ apart);
}

-- a line that isn't in the ring with one more line is another line, and wasn't in the ring before
apart-listed : (order : List ℕ) (local other : ℕ) → is_listed (with_listed order local) other ≡ false →
    (other ≢ local) × (is_listed order other ≡ false)
apart-listed order local other = by_test (is_listed order local) refl
  where
    by_test : (there : Bool) → is_listed order local ≡ there →
        is_listed (if there then order else order ++ local ∷ []) other ≡ false →
        (other ≢ local) × (is_listed order other ≡ false)
    by_test true there apart = (
      (λ same.
          let clash : false ≡ true = sym apart ∙ ap (is_listed order) same ∙ there in
          cc),
      apart,
    )
    by_test false away apart =
        let split = or_false (is_listed order other) _
        (sym (list_any-append (eqb other) order (local ∷ [])) ∙ apart) in (
          (λ same. let clash : false ≡ true = sym split.1 ∙ rw (eq-eqb other local same) refl in cc),
          split.0,
        )

-- a line that is borrowed is in the ring
pub IsQueues-lent : (lines : List LineChannels) (ring new : LineOrder) (own : Lines) (local : ℕ) (line : LineChannels) →
    new ≡ record ring { order = with_listed ring.order local } → IsQueues lines ring own →
    IsQueues (set lines local line) new own
IsQueues-lent lines ring new own local line is queues = record {
  machine = queues.machine;
  lines_here = queues.lines_here ∙ sym (length-set lines local line);
  ring_for_all = ap (λ r. r.lines) is ∙ queues.ring_for_all ∙ sym (length-set lines local line);
  quiet = λ other apart.
      let out = apart-listed ring.order local other (sym (ap (λ r. is_listed r.order other) is) ∙ apart) in
      ap has_mail (get_or-set_other lines local other line (empty_line 0) out.0) ∙ queues.quiet other out.1;
}

-- a line of a slice in which nothing waits has no message
pub no_mail-replicate : (lines cores local : ℕ) →
    has_mail (get_or (replicate lines (empty_line cores)) local (empty_line 0)) ≡ false
no_mail-replicate zero cores local = no_mail-from_IsEmptyLine (empty_line 0) (IsEmptyLine-empty_line 0)
no_mail-replicate (suc lines) cores zero = no_mail-from_IsEmptyLine (empty_line cores) (IsEmptyLine-empty_line cores)
no_mail-replicate (suc lines) cores (suc local) = no_mail-replicate lines cores local

-- a line whose messages become fewer has none where it had none
pub IsQueues-take : (lines : List LineChannels) (ring : LineOrder) (own : Lines) (local : ℕ) (old new : LineChannels)
    (channel : Channel) →
    local < length lines → old ≡ get_or lines local old → TakesOnly old new channel → IsQueues lines ring own →
    IsQueues (set lines local new) ring own
IsQueues-take lines ring own local old new channel there read taken queues = record {
  machine = queues.machine;
  lines_here = queues.lines_here ∙ sym (length-set lines local new);
  ring_for_all = queues.ring_for_all ∙ sym (length-set lines local new);
  quiet = quiet;
}
  where
    quiet : (other : ℕ) → is_listed ring.order other ≡ false →
        has_mail (get_or (set lines local new) other (empty_line 0)) ≡ false
    quiet other apart =
        elim (cases_eq other local) [
          | inl same ↦
              let here : old ≡ get_or lines other (empty_line 0) =
              read ∙ read_default lines local old (empty_line 0) there
              ∙ ap (λ (l : ℕ). get_or lines l (empty_line 0)) (sym same) in
              let none : IsEmptyLine old = IsEmptyLine-from_no_mail old (ap has_mail here ∙ queues.quiet other apart) in
              ap (λ (l : ℕ). has_mail (get_or (set lines local new) l (empty_line 0))) same
              ∙ ap has_mail (get_or-set_same lines local new (empty_line 0) there)
              ∙ no_mail-from_IsEmptyLine new (IsEmptyLine-from_taken old new channel taken none)
          | inr differs ↦
              ap has_mail (get_or-set_other lines local other new (empty_line 0) differs) ∙ queues.quiet other apart
        ]
