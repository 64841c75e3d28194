-- A slice's waiting picks: each is in the list once, and no other is.
use Rattle.std.proofs.Common.{◌≡◌, ◌≢◌, ℕ, ◌+◌, ◌*◌, ◌/◌, ◌%◌, ◌<◌, ◌≤◌, ◌==◌, ◌&&◌, Bool, true, false, cond}
use Rattle.std.proofs.Common.{if◌then◌else◌, List, [], ◌∷◌, ◌++◌, length, map, take, drop, sum_by, count_by, zero, suc}
use Rattle.std.proofs.Common.{refl, ap, sym, ◌∙◌, arith, inl, inr, get_or, eq-eqb, append_assoc, add-zero, zero-add}
use Rattle.std.specs.Prelude.{slice_get, None}
use native.Mathlib.Nat.{div-add-mod'}
use Rattle.std.proofs.lemmas.Nat.{mod-mul-add, div-mul-add}
use Rattle.std.proofs.lemmas.Bool.{cases_eq, ne_eqb}
use Rattle.std.proofs.lemmas.List.{append-nil, take_all, drop_more, get_or-take, length-take-le}
use Rattle.std.proofs.lemmas.List.Sums.{sum_by-append}
use Rattle.address_map.specs.declared.address.LineAddr.{LineAddr}
use Rattle.slice_queues.specs.declared.channel.Channel.{Channel}
use Rattle.slice_queues.specs.declared.channel.Pick.{Pick}
use Rattle.slice_queues.specs.Pick.{line_of, channel_of, pick_at}
use Rattle.slice_queues.specs.Line.{LineChannels, empty_line}
use Rattle.slice_queues.specs.Slice.{SliceChannels}
use Rattle.slice_queues.specs.Waiting.{line_waiting, is_same_channel, is_waiting, line_number, lines_left}
use Rattle.slice_queues.specs.Waiting.{lines_waiting, picks_waiting, is_same_pick, is_from_core, HasEachPickOnce}
use Rattle.slice_queues.proofs.OnceLaws.{times, count-map, count-never, and-false, times-line_waiting}
use Rattle.slice_queues.proofs.SliceLaws.{line_of-pick_at, channel_of-pick_at}

-- picks of one line are distinguished by their channels, and those of another line are other picks
same-pick_at : (pick : Pick) (line : LineAddr) (here : Bool) → ((line_of pick).0 == line.0) ≡ here →
    (channel : Channel) →
    is_same_pick pick (pick_at line channel) ≡ (here && is_same_channel (channel_of pick) channel)
same-pick_at pick line here e channel = rw (line_of-pick_at line channel, channel_of-pick_at line channel, e) refl

times-here : (pick : Pick) (line : LineAddr) (names : List Channel) → ((line_of pick).0 == line.0) ≡ true →
    count_by (is_same_pick pick) (map (pick_at line) names) ≡ times (channel_of pick) names
times-here pick line names here =
    count-map (is_same_pick pick) (is_same_channel (channel_of pick)) (pick_at line)
    (same-pick_at pick line true here) names

times-elsewhere : (pick : Pick) (line : LineAddr) (names : List Channel) → ((line_of pick).0 == line.0) ≡ false →
    count_by (is_same_pick pick) (map (pick_at line) names) ≡ 0
times-elsewhere pick line names apart =
    count-map (is_same_pick pick) (λ channel. false) (pick_at line) (same-pick_at pick line false apart) names
    ∙ count-never names

-- how often a channel occurs among a line's waiting channels
abbrev once_if : LineChannels → Channel → ℕ
once_if line channel = if is_from_core channel && is_waiting line channel then 1 else 0

-- the first line of a run, and the others
count-lines : (pick : Pick) (slice slices place : ℕ) (line : LineChannels) (rest : List LineChannels) (a b x : ℕ) →
    count_by (is_same_pick pick) (map (pick_at (line_number slice slices place)) (line_waiting line)) ≡ a →
    count_by (is_same_pick pick) (lines_waiting slice slices (place + 1) rest) ≡ b → a + b ≡ x →
    count_by (is_same_pick pick) (lines_waiting slice slices place (line ∷ rest)) ≡ x
count-lines pick slice slices place line rest a b x e f sum =
    sum_by-append (λ other. cond (is_same_pick pick other) 1 0)
    (map (pick_at (line_number slice slices place)) (line_waiting line)) (lines_waiting slice slices (place + 1) rest)
    ∙ total _ _ e f
  where
    total : (p q : ℕ) → p ≡ a → q ≡ b → p + q ≡ x
    total p q e f = omega arith

-- a pick of none of the lines
count-none : (pick : Pick) (slice slices : ℕ) (lines : List LineChannels) (place : ℕ) →
    ((i : ℕ) → place ≤ i → (line_of pick).0 ≢ i * slices + slice) →
    count_by (is_same_pick pick) (lines_waiting slice slices place lines) ≡ 0
count-none pick slice slices [] place none = refl
count-none pick slice slices (line ∷ rest) place none =
    count-lines pick slice slices place line rest 0 0 0
    (times-elsewhere pick (line_number slice slices place) (line_waiting line) (ne_eqb _ _ (none place (omega arith))))
    (count-none pick slice slices rest (place + 1) (λ i from. none i (omega arith))) refl

-- a pick of the line that is `behind` places further on
count-one : (pick : Pick) (slice slices at : ℕ) →
    (line_of pick).0 ≡ at * slices + slice → ((i : ℕ) → (line_of pick).0 ≡ i * slices + slice → i ≡ at) →
    (lines : List LineChannels) (place behind : ℕ) → at ≡ place + behind →
    count_by (is_same_pick pick) (lines_waiting slice slices place lines)
    ≡ once_if (get_or lines behind (empty_line 0)) (channel_of pick)
count-one pick slice slices at number only [] place behind here = times-line_waiting (empty_line 0) (channel_of pick)
count-one pick slice slices at number only (line ∷ rest) place zero here =
    let first : place ≡ at = omega arith in
    let same : (line_of pick).0 ≡ place * slices + slice = number ∙ ap (λ p. p * slices + slice) (sym first) in
    count-lines pick slice slices place line rest (once_if line (channel_of pick)) 0 (once_if line (channel_of pick))
    (times-here pick (line_number slice slices place) (line_waiting line) (eq-eqb _ _ same)
    ∙ times-line_waiting line (channel_of pick))
    (count-none pick slice slices rest (place + 1) (λ i from e. let now : i ≡ at = only i e in absurd (omega arith)))
    (add-zero _)
count-one pick slice slices at number only (line ∷ rest) place (suc behind) here =
    count-lines pick slice slices place line rest 0 (once_if (get_or rest behind (empty_line 0)) (channel_of pick))
    (once_if (get_or rest behind (empty_line 0)) (channel_of pick))
    (times-elsewhere
    pick (line_number slice slices place) (line_waiting line)
    (ne_eqb _ _ (λ e. let now : place ≡ at = only place e in absurd (omega arith))))
    (count-one pick slice slices at number only rest (place + 1) behind (omega arith))
    (zero-add _)

-- a run of lines is its first lines and those after them
lines_waiting-split : (slice slices : ℕ) (n : ℕ) (lines : List LineChannels) (place : ℕ) →
    lines_waiting slice slices place lines
    ≡ lines_waiting slice slices place (take n lines) ++ lines_waiting slice slices (place + n) (drop n lines)
lines_waiting-split slice slices zero lines place =
    ap (λ p. lines_waiting slice slices p lines) (sym (add-zero place))
lines_waiting-split slice slices (suc n) [] place = refl
lines_waiting-split slice slices (suc n) (line ∷ rest) place =
    let next : place + 1 + n ≡ place + suc n = omega arith in
    let first : List Pick = map (pick_at (line_number slice slices place)) (line_waiting line) in
    ap (λ picks. first ++ picks) (lines_waiting-split slice slices n rest (place + 1))
    ∙ sym (append_assoc first (lines_waiting slice slices (place + 1) (take n rest))
    (lines_waiting slice slices (place + 1 + n) (drop n rest)))
    ∙ ap
    (λ p. (first ++ lines_waiting slice slices (place + 1) (take n rest)) ++ lines_waiting slice slices p (drop n rest))
    next

-- round and round from any line, a pick occurs as often as from the first line to the last
count-round : (pick : Pick) (queues : SliceChannels) (start : LineAddr) →
    count_by (is_same_pick pick) (picks_waiting queues start)
    ≡ count_by (is_same_pick pick) (lines_waiting queues.slice queues.slices 0 queues.lines)
count-round pick queues start =
    let n : ℕ = start.0 / queues.slices in
    let f : Pick → ℕ = λ other. cond (is_same_pick pick other) 1 0 in
    let before : List Pick = lines_waiting queues.slice queues.slices 0 (take n queues.lines) in
    let from : List Pick = lines_waiting queues.slice queues.slices n (drop n queues.lines) in
    let zero_n : 0 + n ≡ n = zero-add n in
    let split : lines_waiting queues.slice queues.slices 0 queues.lines ≡ before ++ from =
    lines_waiting-split queues.slice queues.slices n queues.lines 0
    ∙ ap (λ p. before ++ lines_waiting queues.slice queues.slices p (drop n queues.lines)) zero_n in
    sum_by-append f from before ∙ turned (sum_by f from) (sum_by f before) ∙ sym (sum_by-append f before from)
    ∙ ap (λ picks. sum_by f picks) (sym split)
  where
    turned : (a b : ℕ) → a + b ≡ b + a
    turned a b = omega arith

-- each pick at which a message waits is once among those from a slice's first line to its last, and no other does
pub lines_waiting-once : (queues : SliceChannels) → queues.slice < queues.slices →
    HasEachPickOnce queues (lines_waiting queues.slice queues.slices 0 queues.lines)
lines_waiting-once queues one pick =
    elim (cases_eq rest queues.slice) [
      | inl here ↦
          rw (eq-eqb rest queues.slice here)
          (count-one
          pick queues.slice queues.slices at (number here)
          (λ i e. sym (div-mul-add i queues.slices queues.slice one) ∙ ap (λ n. n / queues.slices) (sym e)) queues.lines
          0 at (sym (zero-add at)))
      | inr apart ↦
          rw (ne_eqb rest queues.slice apart, and-false (is_from_core (channel_of pick)))
          (count-none
          pick queues.slice queues.slices queues.lines 0
          (λ i from e. apart (ap (λ n. n % queues.slices) e ∙ mod-mul-add i queues.slices queues.slice one)))
    ]
  where
    rest : ℕ
    rest = (line_of pick).0 % queues.slices

    at : ℕ
    at = (line_of pick).0 / queues.slices

    number : rest ≡ queues.slice → (line_of pick).0 ≡ at * queues.slices + queues.slice
    number here = sym (div-add-mod' (line_of pick).0 queues.slices) ∙ ap (λ n. at * queues.slices + n) here

-- the same round and round from any line
pub picks_waiting-once : (queues : SliceChannels) (start : LineAddr) → queues.slice < queues.slices →
    HasEachPickOnce queues (picks_waiting queues start)
picks_waiting-once queues start one pick = count-round pick queues start ∙ lines_waiting-once queues one pick

-- the first line of those that are left, and the others
pub lines_left-next : (slice slices place end : ℕ) (lines : List LineChannels) (line : LineChannels) → place < end →
    end ≤ length lines → line ≡ get_or lines place (empty_line 0) →
    lines_left slice slices (line_number slice slices place) (line_waiting line) (place + 1)
    (drop (place + 1) (take end lines))
    ≡ lines_waiting slice slices place (drop place (take end lines))
lines_left-next slice slices place end lines line left there is =
    let within : place < length (take end lines) = omega (arith, length-take-le end lines there, left) in
    let first : get_or (take end lines) place (empty_line 0) ≡ line =
    get_or-take end lines place (empty_line 0) left ∙ sym is in
    ap
    (λ line. lines_left slice slices (line_number slice slices place) (line_waiting line) (place + 1)
    (drop (place + 1) (take end lines)))
    (sym first)
    ∙ ap (lines_waiting slice slices place) (sym (drop_more (take end lines) place (empty_line 0) within))

-- where there is no first element there is none
pub nil-from_get : {A : Type 0} (xs : List A) → slice_get xs 0 ≡ None → xs ≡ []
nil-from_get [] e = refl
nil-from_get (x ∷ xs) e = cc

-- all lines, and none after them
pub all_lines : (slice slices : ℕ) (lines : List LineChannels) →
    lines_waiting slice slices 0 (drop 0 (take (length lines) lines))
    ++ lines_waiting slice slices 0 (drop 0 (take 0 lines))
    ≡ lines_waiting slice slices 0 lines
all_lines slice slices lines =
    append-nil (lines_waiting slice slices 0 (take (length lines) lines))
    ∙ ap (lines_waiting slice slices 0) (take_all (length lines) lines (omega arith))

-- the lines from a place on, and then those before it
pub lines_round : (slice slices place : ℕ) (lines : List LineChannels) →
    lines_waiting slice slices place (drop place (take (length lines) lines))
    ++ lines_waiting slice slices 0 (drop 0 (take place lines))
    ≡ lines_waiting slice slices place (drop place lines) ++ lines_waiting slice slices 0 (take place lines)
lines_round slice slices place lines =
    ap
    (λ all. lines_waiting slice slices place (drop place all) ++ lines_waiting slice slices 0 (take place lines))
    (take_all (length lines) lines (omega arith))
