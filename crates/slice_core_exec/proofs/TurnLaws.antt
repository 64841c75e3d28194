-- What is next in the order of the ring, as the lines and their channels are looked at one after another.
use Rattle.std.proofs.Common.{◌≡◌, ◌≢◌, ℕ, ◌+◌, ◌<◌, Bool, true, false, if◌then◌else◌, List, ◌∷◌, length, drop, get_or}
use Rattle.std.proofs.Common.{refl, sym, ◌∙◌, ap, arith}
use Rattle.std.specs.Prelude.{Some, slice_get}
use Rattle.std.proofs.Common.{add-one, drop-cons}
use Rattle.address_map.specs.declared.address.Local.{Local}
use Rattle.slice_core_spec.specs.Next.{better_of, next_by}
use Rattle.slice_core_spec.specs.Plan.{plan_of}
use Rattle.slice_core_spec.specs.Ring.{first_of, is_move, looked_at, next_at, next_in, waiting_in}
use Rattle.slice_core_spec.specs.View.{View, channels_at}
use Rattle.slice_core_exec.proofs.NextLaws.{taken-first}
use Rattle.slice_queues.specs.Line.{LineChannels}
use Rattle.slice_queues.specs.Waiting.{line_waiting}
use Rattle.slice_queues.specs.Class.{is_of_class}
use Rattle.slice_queues.specs.declared.channel.Channel.{Channel}
use Rattle.slice_queues.specs.declared.channel.Class.{Class}
use Rattle.std.specs.Prelude.{filter}
use Rattle.slice_answer.specs.declared.answer.Delivery.TheVariants as deliveries
use Rattle.slice_answer.specs.declared.answer.Delivery.{Delivery}
use Rattle.slice_core_spec.specs.declared.transition.Transition.{Transition}

-- ---- the better of two

-- the better of three is the same whichever two are compared first
or-assoc : (one other third : Delivery (Local × Channel)) → better_of (better_of one other) third ≡ better_of one (better_of other third)
or-assoc (deliveries.Moved at) other third = refl
or-assoc (deliveries.Broken a) (deliveries.Moved at) third = refl
or-assoc (deliveries.Broken a) (deliveries.Broken b) (deliveries.Moved at) = refl
or-assoc (deliveries.Broken a) (deliveries.Broken b) (deliveries.Broken d) = refl
or-assoc (deliveries.Broken a) (deliveries.Broken b) deliveries.Blocked = refl
or-assoc (deliveries.Broken a) (deliveries.Broken b) deliveries.Nothing = refl
or-assoc (deliveries.Broken a) deliveries.Blocked (deliveries.Moved at) = refl
or-assoc (deliveries.Broken a) deliveries.Blocked (deliveries.Broken d) = refl
or-assoc (deliveries.Broken a) deliveries.Blocked deliveries.Blocked = refl
or-assoc (deliveries.Broken a) deliveries.Blocked deliveries.Nothing = refl
or-assoc (deliveries.Broken a) deliveries.Nothing third = refl
or-assoc deliveries.Blocked (deliveries.Moved at) third = refl
or-assoc deliveries.Blocked (deliveries.Broken b) (deliveries.Moved at) = refl
or-assoc deliveries.Blocked (deliveries.Broken b) (deliveries.Broken d) = refl
or-assoc deliveries.Blocked (deliveries.Broken b) deliveries.Blocked = refl
or-assoc deliveries.Blocked (deliveries.Broken b) deliveries.Nothing = refl
or-assoc deliveries.Blocked deliveries.Blocked (deliveries.Moved at) = refl
or-assoc deliveries.Blocked deliveries.Blocked (deliveries.Broken d) = refl
or-assoc deliveries.Blocked deliveries.Blocked deliveries.Blocked = refl
or-assoc deliveries.Blocked deliveries.Blocked deliveries.Nothing = refl
or-assoc deliveries.Blocked deliveries.Nothing third = refl
or-assoc deliveries.Nothing other third = refl

-- where neither of two moves, the better of them doesn't
or-still : (one other : Delivery (Local × Channel)) → is_move one ≡ false → is_move other ≡ false → is_move (better_of one other) ≡ false
or-still (deliveries.Moved at) other still rests = cc
or-still one (deliveries.Moved at) still rests = cc
or-still (deliveries.Broken a) (deliveries.Broken b) still rests = refl
or-still (deliveries.Broken a) deliveries.Blocked still rests = refl
or-still (deliveries.Broken a) deliveries.Nothing still rests = refl
or-still deliveries.Blocked (deliveries.Broken b) still rests = refl
or-still deliveries.Blocked deliveries.Blocked still rests = refl
or-still deliveries.Blocked deliveries.Nothing still rests = refl
or-still deliveries.Nothing (deliveries.Broken b) still rests = refl
or-still deliveries.Nothing deliveries.Blocked still rests = refl
or-still deliveries.Nothing deliveries.Nothing still rests = refl

-- what moves is better than what doesn't, and no worse than what comes after it
pub or-moves : (one other third : Delivery (Local × Channel)) → is_move one ≡ false → is_move other ≡ true
    → better_of one (better_of other third) ≡ other
or-moves (deliveries.Moved at) other third still moves = cc
or-moves (deliveries.Broken a) (deliveries.Moved at) third still moves = refl
or-moves deliveries.Blocked (deliveries.Moved at) third still moves = refl
or-moves deliveries.Nothing (deliveries.Moved at) third still moves = refl
or-moves (deliveries.Broken a) (deliveries.Broken b) third still moves = cc
or-moves (deliveries.Broken a) deliveries.Blocked third still moves = cc
or-moves (deliveries.Broken a) deliveries.Nothing third still moves = cc
or-moves deliveries.Blocked (deliveries.Broken b) third still moves = cc
or-moves deliveries.Blocked deliveries.Blocked third still moves = cc
or-moves deliveries.Blocked deliveries.Nothing third still moves = cc
or-moves deliveries.Nothing (deliveries.Broken b) third still moves = cc
or-moves deliveries.Nothing deliveries.Blocked third still moves = cc
or-moves deliveries.Nothing deliveries.Nothing third still moves = cc

-- what is none of the moves doesn't move
not_move : (one : Delivery (Local × Channel)) → ((at : Local × Channel) → one ≢ deliveries.Moved at) → is_move one ≡ false
not_move deliveries.Nothing stays = refl
not_move deliveries.Blocked stays = refl
not_move (deliveries.Broken cell) stays = refl
not_move (deliveries.Moved at) stays = absurd (stays at refl)

-- ---- the channels of a line, one after another

-- Nothing that was looked at moves, and what is first of all channels is the better of this and what is first of those
-- that are left.
pub record IsFirstSoFar (v : View) (local : Local) (all : List Channel) (next : Delivery (Local × Channel))
    (left : List Channel) : Type 0 where
  pub still : is_move next ≡ false
  pub split : first_of v local all ≡ better_of next (first_of v local left)

-- before the first channel of a line that was looked up
pub first-begins : (v : View) (class : Class) (local : Local) (line : LineChannels) (names : List Channel)
    → line ≡ channels_at v local → names ≡ filter (is_of_class class) (line_waiting line)
    → IsFirstSoFar v local (waiting_in v class local) deliveries.Nothing names
first-begins v class local line names same order =
    let all = order ∙ ap (λ (l : LineChannels). filter (is_of_class class) (line_waiting l)) same in
    record { still = refl; split = ap (first_of v local) (sym all) }

module _ (v : View) (local : Local) (all : List Channel) (next one : Delivery (Local × Channel)) (left : List Channel)
    (channel : Channel) (plan : Delivery Transition) (so_far : IsFirstSoFar v local all next left)
    (first : Some channel ≡ slice_get left 0) (planned : plan ≡ plan_of v local channel)
    (is : one ≡ next_by local channel plan) where
  taken : first_of v local all ≡ better_of next (better_of one (first_of v local (drop 1 left)))
  taken =
      so_far.split
      ∙ ap (λ names. better_of next (first_of v local names)) (taken-first left channel (sym first))
      ∙ ap (λ n. better_of next (better_of n (first_of v local (drop 1 left))))
      (sym (is ∙ ap (next_by local channel) planned))

  -- one more channel
  pub first-more : (better : Delivery (Local × Channel)) (after : List Channel) → ((at : Local × Channel) → one ≢ deliveries.Moved at)
      → better ≡ better_of next one → after ≡ drop 1 left → IsFirstSoFar v local all better after
  first-more better after stays is_better rest = record {
    still = ap is_move is_better ∙ or-still next one so_far.still (not_move one stays);
    split =
        taken ∙ sym (or-assoc next one (first_of v local (drop 1 left)))
        ∙ ap (λ n. better_of n (first_of v local (drop 1 left))) (sym is_better)
        ∙ ap (λ names. better_of better (first_of v local names)) (sym rest);
  }

  -- what moves is what is first
  pub first-moves : (at : Local × Channel) → one ≡ deliveries.Moved at → one ≡ first_of v local all
  first-moves at moves = sym (taken ∙ or-moves next one _ so_far.still (ap is_move moves))

-- ---- the lines of the ring, one after another

-- Nothing that was looked at moves; what is next of all lines is the better of this and what is next of those that are
-- left; and `index` lines were looked at.
pub record IsTurnSoFar (v : View) (class : Class) (ring : List ℕ) (next : Delivery (Local × Channel)) (index : ℕ) : Type 0 where
  pub still : is_move next ≡ false
  pub split : next_in v class ring ≡ better_of next (next_in v class (drop index ring))
  pub looked : looked_at v class ring ≡ index + looked_at v class (drop index ring)

-- before the first line
pub turn-begins : (v : View) (class : Class) (ring : List ℕ) → IsTurnSoFar v class ring deliveries.Nothing 0
turn-begins v class ring = record { still = refl; split = refl; looked = omega arith }

looked-first : (v : View) (class : Class) (first : ℕ) (rest : List ℕ) (moves : Bool)
    → is_move (next_at v class (record { 0 = first })) ≡ moves
    → looked_at v class (first ∷ rest) ≡ (if moves then 1 else 1 + looked_at v class rest)
looked-first v class first rest moves e = rw e refl

module _ (v : View) (class : Class) (ring : List ℕ) (next one : Delivery (Local × Channel)) (index : ℕ) (local : Local)
    (so_far : IsTurnSoFar v class ring next index) (within : index < length ring)
    (read : local.0 ≡ get_or ring index 0) (is : one ≡ next_at v class local) where
  begins : drop index ring ≡ local.0 ∷ drop (index + 1) ring
  begins = rw (read, add-one) (drop-cons ring index 0 within)

  met : next_in v class ring ≡ better_of next (better_of one (next_in v class (drop (index + 1) ring)))
  met =
      so_far.split ∙ ap (λ lines. better_of next (next_in v class lines)) begins
      ∙ ap (λ n. better_of next (better_of n (next_in v class (drop (index + 1) ring)))) (sym is)

  counted : (moves : Bool) → is_move one ≡ moves
      → looked_at v class ring ≡ index + (if moves then 1 else 1 + looked_at v class (drop (index + 1) ring))
  counted moves e =
      so_far.looked ∙ ap (λ lines. index + looked_at v class lines) begins
      ∙ ap (λ n. index + n)
      (looked-first v class local.0 (drop (index + 1) ring) moves (ap is_move (sym is) ∙ e))

  -- one more line
  pub turn-more : (better : Delivery (Local × Channel)) → ((at : Local × Channel) → one ≢ deliveries.Moved at)
      → better ≡ better_of next one → IsTurnSoFar v class ring better (index + 1)
  turn-more better stays is_better = record {
    still = ap is_move is_better ∙ or-still next one so_far.still (not_move one stays);
    split =
        met ∙ sym (or-assoc next one (next_in v class (drop (index + 1) ring)))
        ∙ ap (λ n. better_of n (next_in v class (drop (index + 1) ring))) (sym is_better);
    looked = let e = counted false (not_move one stays) in omega (arith, e);
  }

  -- what moves is what is next
  pub turn-moves : (at : Local × Channel) → one ≡ deliveries.Moved at → one ≡ next_in v class ring
  turn-moves at moves = sym (met ∙ or-moves next one _ so_far.still (ap is_move moves))

  pub turn-looked : (at : Local × Channel) → one ≡ deliveries.Moved at → index + 1 ≡ looked_at v class ring
  turn-looked at moves = sym (counted true (ap is_move moves))
