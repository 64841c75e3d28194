-- What slices have still to deliver after an access.
use Rattle.std.proofs.Common.{◌≡◌, ◌≢◌, ℕ, zero, suc, ◌+◌, ◌<◌, ◌≤◌, List, [], ◌∷◌, ◌++◌, append-nil, ap, arith, drop}
use Rattle.std.proofs.Common.{length, map, refl, sym, subst, take, ◌∙◌, Option, Some, None}
use Rattle.std.specs.Prelude.{IfSome, slice_get, slice_index_or}
use Rattle.std.specs.List.{flat_map}
use Rattle.std.proofs.lemmas.List.{drop_all, drop_more, take_all}
use Rattle.std.proofs.lemmas.Option.{get_or_from_slice_get}
use Rattle.address_map.specs.Locator.{line_at, local_at}
use Rattle.address_map.specs.declared.address.LineAddr.{LineAddr}
use Rattle.address_map.specs.declared.address.Local.{Local}
use Rattle.slice_core.specs.Facts.{AreWaitingAt, Holds}
use Rattle.slice_core_spec.specs.Calls.{PartsView}
use Rattle.slice_core_spec.specs.Parts.{ring_lines}
use Rattle.slice_core_spec.specs.View.{View}
use Rattle.slice_queues.specs.Pick.{pick_at}
use Rattle.slice_queues.specs.declared.channel.Channel.{Channel}
use Rattle.program_run.specs.Front.{HasIdleFront, IsIdle}
use Rattle.program_run.specs.Run.{or_else, owed_from, owed_in, waiting_at, waiting_in, waiting_of}
use Rattle.program_run.specs.declared.moves.Move.{Move}
use Rattle.program_run.specs.declared.moves.Move.TheVariants as moves
use Rattle.program_run.proofs.FrontLemmas.{in-ring, machine_of, same-place, within-ring}
use Rattle.program_run.proofs.MoveLemmas.{at-place, each_more}

-- ---- a line

-- the channels of a line that were shown are those of its deliveries
pub line_listed : (v : View) (line : LineAddr) (place : Option Local) (shown : List Channel) (before new : List Move)
    → AreWaitingAt v place shown → new ≡ before ++ map (λ channel. moves.Deliver (pick_at line channel)) shown
    → new ≡ before ++ waiting_at v line place
line_listed v line None shown before new are is = absurd are
line_listed v line (Some local) shown before new are is =
    is ∙ ap (λ (channels : List Channel). before ++ map (λ channel. moves.Deliver (pick_at line channel)) channels) are.0

-- a line that isn't the slice's has none
pub no_line_listed : (v : View) (line : LineAddr) (before : List Move) → local_at v.lines line.0 ≡ None
    → before ≡ before ++ waiting_of v line
no_line_listed v line before none =
    sym (ap (λ (place : Option Local). before ++ waiting_at v line place) none ∙ append-nil before)

-- nor has one in which nothing waits
idle_line_lists : (v : View) (line : LineAddr) (place : Option Local) (l : Local)
    → ((found : Local) → place ≡ Some found → found ≡ l) → IsIdle v l → waiting_at v line place ≡ []
idle_line_lists v line None l same idle = refl
idle_line_lists v line (Some found) l same idle =
    ap (λ (local : Local). waiting_at v line (Some local)) (same found refl)
    ∙ ap (map (λ channel. moves.Deliver (pick_at line channel))) idle.waiting

-- ---- a ring

-- nothing comes of items that each come to nothing
none_of_these : {X Y : Type 0} (f : X → List Y) (xs : List X) (n : ℕ)
    → ((i : ℕ) (x : X) → i < n → slice_get xs i ≡ Some x → f x ≡ []) → flat_map f (take n xs) ≡ []
none_of_these f xs zero none = refl
none_of_these f [] (suc n) none = refl
none_of_these f (x ∷ xs) (suc n) none =
    ap (λ ys. ys ++ flat_map f (take n xs)) (none 0 x (omega arith) refl)
    ∙ none_of_these f xs n (λ i y below at. none (suc i) y (omega (arith, below)) at)

-- the lines in front have no delivery
pub front_lists_none : (p : PartsView) (count : ℕ) (before : List Move) → Holds p → HasIdleFront count p
    → before ≡ before ++ flat_map (waiting_of p.view) (take count (ring_lines p))
front_lists_none p count before holds front =
    let none = none_of_these (waiting_of p.view) (ring_lines p) count
    (λ i line below at.
    let (l, stands, named) = in-ring (λ place. line_at p.view.lines (record { 0 = place })) p.ring i line at in
    let here : Local = record { 0 = l } in
    idle_line_lists p.view line (local_at p.view.lines line.0) here
    (λ found is. same-place p.view.lines here found (machine_of p holds)
    (sym (ap (λ (a : LineAddr). local_at p.view.lines a.0) named) ∙ is))
    (front.idle i l below stands)) in
    sym (ap (λ these. before ++ these) none ∙ append-nil before)

-- one line more is listed
pub line_more : (p : PartsView) (place : ℕ) (line : LineAddr) (before now new : List Move)
    → Some line ≡ slice_get (ring_lines p) place
    → now ≡ before ++ flat_map (waiting_of p.view) (take place (ring_lines p))
    → new ≡ now ++ waiting_of p.view line
    → new ≡ before ++ flat_map (waiting_of p.view) (take (place + 1) (ring_lines p))
line_more p place line before now new at so_far grown =
    let lines : List LineAddr = ring_lines p in
    each_more (waiting_of p.view) before now new lines place line (within-ring lines place line (sym at)) so_far
    (grown ∙ ap (λ (l : LineAddr). now ++ waiting_of p.view l) (sym (get_or_from_slice_get lines place line line (sym at))))

-- where no line is any more
past_all : {X : Type 0} (xs : List X) (i : ℕ) → None ≡ slice_get xs i → length xs ≤ i
past_all [] i none = omega arith
past_all (x ∷ xs) zero none = absurd (cc none)
past_all (x ∷ xs) (suc i) none = let past = past_all xs i none in omega (arith, past)

-- .. all are listed
pub lines_all : (p : PartsView) (place : ℕ) (before now : List Move) → None ≡ slice_get (ring_lines p) place
    → now ≡ before ++ flat_map (waiting_of p.view) (take place (ring_lines p)) → now ≡ before ++ waiting_in p
lines_all p place before now none so_far =
    so_far
    ∙ ap (λ these. before ++ flat_map (waiting_of p.view) these)
    (take_all place (ring_lines p) (past_all (ring_lines p) place none))

-- ---- slices

pub or_else_some : (these others : List Move) → these ≢ [] → or_else these others ≡ these
or_else_some [] others some = absurd (some refl)
or_else_some (move ∷ more) others some = refl

pub or_else_none : (these others : List Move) → or_else these others ≡ [] → others ≡ []
or_else_none [] others none = none
or_else_none (move ∷ more) others none = absurd (cc none)

-- what a slice has to deliver comes before that of the slices after it
pub owed_here : (owed : List ℕ) (slices : List PartsView) (slice : ℕ) (new : List Move) → slice < length slices
    → IfSome (slice_get slices slice) (λ state. new ≡ [] ++ owed_in (slice_index_or owed slice 0) state)
    → owed_from owed slice (drop slice slices) ≡ or_else new (owed_from owed (slice + 1) (drop (slice + 1) slices))
owed_here owed slices slice new below is =
    let (state, at) = at-place slices slice below in
    let here : new ≡ owed_in (slice_index_or owed slice 0) state =
    subst (λ (found : Option PartsView). IfSome found
    (λ state. new ≡ [] ++ owed_in (slice_index_or owed slice 0) state)) at is in
    ap (owed_from owed slice) (drop_more slices slice state below)
    ∙ ap (λ (p : PartsView). owed_from owed slice (p ∷ drop (slice + 1) slices))
    (get_or_from_slice_get slices slice state state at)
    ∙ ap (λ these. or_else these (owed_from owed (slice + 1) (drop (slice + 1) slices))) (sym here)

-- after the last slice there is nothing
pub owed_past : (owed : List ℕ) (slices : List PartsView) (slice : ℕ) → length slices ≤ slice
    → owed_from owed slice (drop slice slices) ≡ []
owed_past owed slices slice past = ap (owed_from owed slice) (drop_all slice slices past)
