-- A line gets a run of its own, and one of its cores' channels change.
use Rattle.std.proofs.Common.{◌≡◌, ◌≢◌, ℕ, zero, suc, ◌+◌, ◌-◌, ◌*◌, ◌<◌, ◌≤◌, ◌++◌, Bool, true, false, if◌then◌else◌}
use Rattle.std.proofs.Common.{List, [], ◌∷◌, length, take, drop, replicate, get_or, refl, ap, sym, ◌∙◌, subst, arith}
use Rattle.std.proofs.Common.{inl, inr, Option, None, count_by, nat_lt}
use Rattle.std.proofs.Math.ListN.{set, length-set}
use Rattle.std.proofs.Math.Seq.{take-set-lt}
use Rattle.std.proofs.Math.Seq.{drop-append_seam}
use Rattle.std.proofs.Math.Nat.{mul-le-mul_right}
use Rattle.std.proofs.lemmas.Bool.{cases_eq, cases_lt, lt-ltb, ltb-false}
use Rattle.std.proofs.lemmas.List.{length-drop, length-append, length-replicate, length-map, take_all}
use Rattle.std.proofs.lemmas.List.{take-append-le, take-set-le, drop-append-le, drop-set-lt, drop-set-add}
use Rattle.std.proofs.lemmas.List.{get_or-set_same, get_or-set_other, get_or-take, get_or-drop, get_or-append-add}
use Rattle.std.proofs.lemmas.List.{get_or-map, get_or_past, map-set, ext_get_or, set-set}
use Rattle.std.proofs.lemmas.List.Sums.{sum_by-set, count_by-le-length}
use Rattle.std.proofs.lemmas.List.Folds.{sum_by-replicate}
use Rattle.address_map.specs.declared.block.Block.{Block}
use Rattle.slice_queues.specs.declared.lines.LineHead.{LineHead}
use Rattle.slice_queues.specs.Line.{CoreChannels, LineChannels, no_messages, core_at, with_core, HasChannel, empty_line}
use Rattle.slice_queues.specs.declared.mail.Mail.{Mail}
use Rattle.slice_queues.specs.Mail.{no_marks, IsLine}
use Rattle.slice_queues.specs.Runs.{blank_head, head_at, has_run, run_under, line_under, lines_under, opened_first}
use Rattle.slice_queues.specs.Runs.{opened_cores, IsRuns}
use Rattle.slice_queues.specs.Waiting.{is_from_core}
use Rattle.slice_queues.specs.declared.channel.Channel.{Channel}
use Rattle.slice_queues.specs.declared.channel.Channel.TheVariants as channels
use Rattle.slice_queues.specs.Count.{one_where}
use Rattle.slice_queues.proofs.LineLaws.{read_default}
use Rattle.slice_queues.proofs.MailLaws.{IsLine-empty}

-- a run has one core's channels changed
run-set_own : (width first core : ℕ) (cores : List CoreChannels) (new : CoreChannels) → core < width →
    take width (drop first (set cores (first + core) new)) ≡ set (take width (drop first cores)) core new
run-set_own width first core cores new within =
    ap (take width) (drop-set-add first cores core new) ∙ take-set-lt width (drop first cores) core new within

-- a run in which the place doesn't lie keeps what it had
run-set_other : (width first place : ℕ) (cores : List CoreChannels) (new : CoreChannels) →
    ((core : ℕ) → core < width → first + core ≢ place) →
    take width (drop first (set cores place new)) ≡ take width (drop first cores)
run-set_other width first place cores new apart =
    elim (cases_lt place first) [
      | inl before ↦ ap (take width) (drop-set-lt first cores place new before)
      | inr from ↦
          let there : place ≡ first + (place - first) = omega arith in
          ap (λ p. take width (drop first (set cores p new))) there
          ∙ ap (take width) (drop-set-add first cores (place - first) new)
          ∙ take-set-le width (drop first cores) (place - first) new (behind from)
    ]
  where
    behind : first ≤ place → width ≤ place - first
    behind from =
        elim (cases_lt (place - first) width) [
          | inl here ↦ absurd (apart (place - first) here (omega arith))
          | inr past ↦ past
        ]

-- a run keeps what it had as more come after it
run-append : (width first : ℕ) (cores more : List CoreChannels) → first + width ≤ length cores →
    take width (drop first (cores ++ more)) ≡ take width (drop first cores)
run-append width first cores more within =
    ap (take width) (drop-append-le first cores more (omega arith))
    ∙ take-append-le width (drop first cores) more (omega (arith, length-drop first cores))

-- a line without a run of its own has the blank one
blank-run : (heads : List LineHead) (cores : List CoreChannels) (width capacity : ℕ) (head : LineHead) →
    has_run head ≡ false → IsRuns heads cores width capacity → run_under width cores head ≡ replicate width no_messages
blank-run heads cores width capacity head none runs =
    let zero : head.first ≡ 0 = let few = ltb-false 0 head.first none in omega arith in
    ap (λ (first : ℕ). take width (drop first cores)) zero ∙ runs.blank

-- a list of heads, and the list of their lines
line-read : (width : ℕ) (cores : List CoreChannels) (heads : List LineHead) (local : ℕ) → local < length heads →
    get_or (lines_under width cores heads) local (empty_line 0) ≡ line_under width cores (head_at heads local)
line-read width cores heads local there = get_or-map (line_under width cores) heads local blank_head (empty_line 0)
    there

-- two slices have the same lines where each line is the same
same-lines : (width : ℕ) (cores : List CoreChannels) (heads : List LineHead) (lines : List LineChannels) →
    length heads ≡ length lines →
    ((local : ℕ) → local < length heads →
    line_under width cores (head_at heads local) ≡ get_or lines local (empty_line 0)) →
    lines_under width cores heads ≡ lines
same-lines width cores heads lines many each =
    let here : length (lines_under width cores heads) ≡ length heads = length-map heads (line_under width cores) in
    ext_get_or
    (empty_line 0) _ _ (here ∙ many)
    (λ local there.
    let within : local < length heads = omega (arith, here, there) in
    line-read width cores heads local within ∙ each local within)

-- how many lines have a run of their own once one has another head
count-set : (heads : List LineHead) (local : ℕ) (head : LineHead) → local < length heads →
    count_by has_run (set heads local head) + one_where (has_run (head_at heads local))
    ≡ count_by has_run heads + one_where (has_run head)
count-set heads local head there = sum_by-set (λ h. one_where (has_run h)) heads local head blank_head there

-- each line has a head
of-each : (P : ℕ → LineHead → Type 0) (heads : List LineHead) (local : ℕ) (head : LineHead) → local < length heads →
    P local head → ((other : ℕ) → other ≢ local → P other (head_at heads other)) → (other : ℕ) →
    P other (head_at (set heads local head) other)
of-each P heads local head there here others other =
    elim (cases_eq other local) [
      | inl same ↦
          subst (λ (h : LineHead). P other h)
          (sym (ap (λ (l : ℕ). head_at (set heads local head) l) same ∙ get_or-set_same heads local head blank_head
          there))
          (subst (λ (l : ℕ). P l head) (sym same) here)
      | inr differs ↦
          subst (λ (h : LineHead). P other h) (sym (get_or-set_other heads local other head blank_head differs))
          (others other differs)
    ]

-- a head that a line could get, and the runs with one more after them
abbrev opened_head : List LineHead → List CoreChannels → ℕ → LineHead
opened_head heads cores local = record (head_at heads local) { first = length cores }

-- there is room for the run of a line that has none
pub room-left : (heads : List LineHead) (cores : List CoreChannels) (width capacity local : ℕ) →
    local < length heads → has_run (head_at heads local) ≡ false → IsRuns heads cores width capacity →
    length cores + width ≤ capacity
room-left heads cores width capacity local there none runs =
    let head : LineHead = record (head_at heads local) { first = 1 } in
    let counted = count-set heads local head there in
    let e : one_where (has_run (head_at heads local)) ≡ 0 = ap one_where none in
    let f : one_where (has_run head) ≡ 1 = ap one_where (lt-ltb 0 1 (omega arith)) in
    let few : count_by has_run heads + 1 ≤ length heads =
    omega (arith, counted, e, f, count_by-le-length has_run (set heads local head), length-set heads local head) in
    fits (count_by has_run heads) (length heads) (length cores) few runs.runs runs.room
  where
    fits : (n m long : ℕ) → n + 1 ≤ m → long ≡ (1 + n) * width → (1 + m) * width ≤ capacity → long + width ≤ capacity
    fits n m long few is room =
        let more : (2 + n) * width ≤ (1 + m) * width = mul-le-mul_right width (omega arith) in
        omega (arith, is, more, room)

-- its new run is as blank as the one that it had
new_run : (heads : List LineHead) (cores : List CoreChannels) (width capacity local : ℕ) →
    has_run (head_at heads local) ≡ false → IsRuns heads cores width capacity →
    run_under width (cores ++ replicate width no_messages) (opened_head heads cores local)
    ≡ run_under width cores (head_at heads local)
new_run heads cores width capacity local none runs =
    ap (take width) (drop-append_seam cores (replicate width no_messages))
    ∙ take_all width (replicate width no_messages) (omega (arith, length-replicate width no_messages))
    ∙ sym (blank-run heads cores width capacity (head_at heads local) none runs)

-- a line gets a run of its own
IsRuns-opened : (heads : List LineHead) (cores : List CoreChannels) (width capacity local : ℕ) → 0 < width →
    local < length heads → has_run (head_at heads local) ≡ false → IsRuns heads cores width capacity →
    IsRuns (set heads local (opened_head heads cores local)) (cores ++ replicate width no_messages) width capacity
IsRuns-opened heads cores width capacity local wide there none runs = record {
  few = runs.few;
  blank = take-append-le width cores (replicate width no_messages) (omega (arith, runs.within local)) ∙ runs.blank;
  runs = counts (count_by has_run heads) _ (omega (arith, count-set heads local head there, e, f)) runs.runs;
  room = rw length-set runs.room;
  within = within;
  own = own;
  lines = of-each
      (λ other h. IsLine (run_under width more h) h.mail)
      heads local head there
      (subst (λ run. IsLine run (head_at heads local).mail)
      (sym (new_run heads cores width capacity local none runs)) (runs.lines local))
      (λ other differs. subst (λ run. IsLine run (head_at heads other).mail)
      (sym (run-append width (head_at heads other).first cores (replicate width no_messages) (runs.within other)))
      (runs.lines other));
}
  where
    head : LineHead
    head = opened_head heads cores local

    more : List CoreChannels
    more = cores ++ replicate width no_messages

    long : length more ≡ length cores + width
    long = length-append cores (replicate width no_messages) ∙ ap (λ n. length cores + n)
        (length-replicate width no_messages)

    e : one_where (has_run (head_at heads local)) ≡ 0
    e = ap one_where none

    f : one_where (has_run head) ≡ 1
    f = ap one_where (lt-ltb 0 (length cores) (omega (arith, runs.within local, wide)))

    counts : (n m : ℕ) → m ≡ n + 1 → length cores ≡ (1 + n) * width → length more ≡ (1 + m) * width
    counts n m one is = long ∙ omega (arith, is, ap (λ k. (1 + k) * width) one)

    within : (other : ℕ) → (head_at (set heads local head) other).first + width ≤ length more
    within =
        of-each
        (λ other h. h.first + width ≤ length more)
        heads local head there (omega (arith, long)) (λ other differs. omega (arith, long, runs.within other))

    own : (one other core place : ℕ) → has_run (head_at (set heads local head) one) ≡ true → core < width →
        place < width →
        (head_at (set heads local head) one).first + core ≡ (head_at (set heads local head) other).first + place →
        one ≡ other
    own one other core place has within_core within_place =
        of-each
        (λ one h. has_run h ≡ true → h.first + core ≡ (head_at (set heads local head) other).first + place →
        one ≡ other)
        heads local head there
        (λ has_one.
        of-each
        (λ other h. head.first + core ≡ h.first + place → local ≡ other)
        heads local head there (λ same. refl)
        (λ other differs same. absurd (omega (arith, same, runs.within other))) other)
        (λ one differs has_one.
        of-each
        (λ other h. (head_at heads one).first + core ≡ h.first + place → one ≡ other)
        heads local head there (λ same. absurd (omega (arith, same, runs.within one)))
        (λ other apart same. runs.own one other core place has_one within_core within_place same) other)
        one has

lines-opened : (heads : List LineHead) (cores : List CoreChannels) (width capacity local : ℕ) →
    local < length heads → has_run (head_at heads local) ≡ false → IsRuns heads cores width capacity →
    lines_under width (cores ++ replicate width no_messages) (set heads local (opened_head heads cores local))
    ≡ lines_under width cores heads
lines-opened heads cores width capacity local there none runs =
    same-lines width (cores ++ replicate width no_messages) (set heads local (opened_head heads cores local)) _
    (length-set heads local _ ∙ sym (length-map heads (line_under width cores)))
    (λ other within.
    let before : other < length heads = omega (arith, within, length-set heads local (opened_head heads cores local)) in
    each other ∙ sym (line-read width cores heads other before))
  where
    each : (other : ℕ) →
        line_under width (cores ++ replicate width no_messages)
        (head_at (set heads local (opened_head heads cores local)) other)
        ≡ line_under width cores (head_at heads other)
    each =
        of-each
        (λ other h. line_under width (cores ++ replicate width no_messages) h
        ≡ line_under width cores (head_at heads other))
        heads local (opened_head heads cores local) there
        (ap (λ run. record { cores = run; home = (head_at heads local).home })
        (new_run heads cores width capacity local none runs))
        (λ other differs.
        ap (λ run. record { cores = run; home = (head_at heads other).home })
        (run-append width (head_at heads other).first cores (replicate width no_messages) (runs.within other)))

-- one core's channels change in a line that has a run of its own
IsRuns-changed : (heads : List LineHead) (cores : List CoreChannels) (width capacity local core : ℕ) (head : LineHead)
    (new : CoreChannels) →
    local < length heads → core < width → has_run (head_at heads local) ≡ true →
    head.first ≡ (head_at heads local).first →
    IsLine (set (run_under width cores (head_at heads local)) core new) head.mail → IsRuns heads cores width capacity →
    IsRuns (set heads local head) (set cores ((head_at heads local).first + core) new) width capacity
IsRuns-changed heads cores width capacity local core head new there within has same line runs = record {
  few = runs.few;
  blank = run-set_other width 0 place cores new
      (λ other below same.
      let past : local ≡ length heads = runs.own local (length heads) core other has within below
      (sym same ∙ ap (λ (first : ℕ). first + other) (sym (ap (λ h. h.first)
      (get_or_past heads (length heads) blank_head (omega arith))))) in
      absurd (omega (arith, past, there)))
      ∙ runs.blank;
  runs = length-set cores place new ∙ runs.runs
      ∙ ap (λ n. (1 + n) * width) (omega (
        arith,
        count-set heads local head there,
        ap
            (λ (n : ℕ). one_where (nat_lt 0 n)) same,
      ));
  room = rw length-set runs.room;
  within = λ other. rw (length-set, firsts other) (runs.within other);
  own = λ one other c p has_one below_c below_p e. runs.own one other c p
      (sym (ap (nat_lt 0) (firsts one)) ∙ has_one) below_c below_p
      (sym (ap (λ (first : ℕ). first + c) (firsts one)) ∙ e ∙ ap (λ (first : ℕ). first + p) (firsts other));
  lines = of-each
      (λ other h. IsLine (run_under width (set cores place new) h) h.mail)
      heads local head there
      (subst (λ run. IsLine run head.mail)
      (sym (ap (λ (first : ℕ). take width (drop first (set cores place new))) same
      ∙ run-set_own width (head_at heads local).first core cores new within))
      line)
      (λ other differs. subst (λ run. IsLine run (head_at heads other).mail) (sym (kept other differs))
      (runs.lines other));
}
  where
    place : ℕ
    place = (head_at heads local).first + core

    firsts : (other : ℕ) → (head_at (set heads local head) other).first ≡ (head_at heads other).first
    firsts = of-each (λ other h. h.first ≡ (head_at heads other).first) heads local head there same
        (λ other differs. refl)

    kept : (other : ℕ) → other ≢ local →
        run_under width (set cores place new) (head_at heads other) ≡ run_under width cores (head_at heads other)
    kept other differs =
        run-set_other width (head_at heads other).first place cores new
        (λ c below e. differs (sym (runs.own local other core c has within below (sym e))))

lines-changed : (heads : List LineHead) (cores : List CoreChannels) (width capacity local core : ℕ) (head : LineHead)
    (new : CoreChannels) →
    local < length heads → core < width → has_run (head_at heads local) ≡ true →
    head.first ≡ (head_at heads local).first → IsRuns heads cores width capacity →
    lines_under width (set cores ((head_at heads local).first + core) new) (set heads local head)
    ≡ set
    (lines_under width cores heads)
    local
    (record { cores = set (run_under width cores (head_at heads local)) core new; home = head.home })
lines-changed heads cores width capacity local core head new there within has same runs =
    same-lines width after (set heads local head) _
    (length-set heads local head ∙ sym (length-set lines local line ∙ length-map heads (line_under width cores)))
    (λ other below. each other (omega (arith, below, length-set heads local head)))
  where
    after : List CoreChannels
    after = set cores ((head_at heads local).first + core) new

    lines : List LineChannels
    lines = lines_under width cores heads

    line : LineChannels
    line = record { cores = set (run_under width cores (head_at heads local)) core new; home = head.home }

    kept : (other : ℕ) → other ≢ local →
        run_under width after (head_at heads other) ≡ run_under width cores (head_at heads other)
    kept other differs =
        run-set_other width (head_at heads other).first ((head_at heads local).first + core) cores new
        (λ c below e. differs (sym (runs.own local other core c has within below (sym e))))

    each : (other : ℕ) → other < length heads →
        line_under width after (head_at (set heads local head) other)
        ≡ get_or (set lines local line) other (empty_line 0)
    each =
        of-each
        (λ other h. other < length heads →
        line_under width after h ≡ get_or (set lines local line) other (empty_line 0))
        heads local head there
        (λ below.
        ap (λ run. record { cores = run; home = head.home })
        (ap (λ (first : ℕ). take width (drop first after)) same
        ∙ run-set_own width (head_at heads local).first core cores new within)
        ∙ sym (get_or-set_same lines local line (empty_line 0)
        (omega (arith, there, length-map heads (line_under width cores)))))
        (λ other differs below.
        ap (λ run. record { cores = run; home = (head_at heads other).home }) (kept other differs)
        ∙ sym (line-read width cores heads other below)
        ∙ sym (get_or-set_other lines local other line (empty_line 0) differs))

-- these are the lines, as they should be
pub record AreLines (heads : List LineHead) (cores : List CoreChannels) (width capacity : ℕ)
    (lines : List LineChannels) :
    Type 0 where
  pub runs : IsRuns heads cores width capacity
  pub channels : lines_under width cores heads ≡ lines

-- one core's channels change in a line, which has a run of its own from then on
pub lines-sent : (heads : List LineHead) (cores : List CoreChannels) (width capacity local core : ℕ)
    (old head : LineHead) (new : CoreChannels) →
    local < length heads → old ≡ get_or heads local old → core < width → head.first ≡ opened_first old cores →
    IsLine (set (run_under width cores old) core new) head.mail → IsRuns heads cores width capacity →
    AreLines
    (set heads local head)
    (set (opened_cores width old cores) (opened_first old cores + core) new)
    width
    capacity
    (set
    (lines_under width cores heads)
    local
    (record { cores = set (run_under width cores old) core new; home = head.home }))
lines-sent heads cores width capacity local core old head new there read within =
    subst
    (λ (h : LineHead). head.first ≡ opened_first h cores → IsLine (set (run_under width cores h) core new) head.mail →
    IsRuns heads cores width capacity →
    AreLines
    (set heads local head)
    (set (opened_cores width h cores) (opened_first h cores + core) new)
    width
    capacity
    (set
    (lines_under width cores heads)
    local
    (record { cores = set (run_under width cores h) core new; home = head.home })))
    (sym (read ∙ read_default heads local old blank_head there))
    (by_test (has_run (head_at heads local)) refl)
  where
    opened : has_run (head_at heads local) ≡ false → head.first ≡ length cores →
        IsLine (set (run_under width cores (head_at heads local)) core new) head.mail →
        IsRuns heads cores width capacity →
        AreLines
        (set heads local head)
        (set (cores ++ replicate width no_messages) (length cores + core) new)
        width
        capacity
        (set
        (lines_under width cores heads)
        local
        (record { cores = set (run_under width cores (head_at heads local)) core new; home = head.home }))
    opened none same line runs =
        let more : List CoreChannels = cores ++ replicate width no_messages in
        let first : LineHead = opened_head heads cores local in
        let heads_too : List LineHead = set heads local first in
        let there_too : local < length heads_too = omega (arith, there, length-set heads local first) in
        let runs_too = IsRuns-opened heads cores width capacity local (omega (arith, within)) there none runs in
        let is : head_at heads_too local ≡ first = get_or-set_same heads local first blank_head there in
        let lines_too = lines-opened heads cores width capacity local there none runs in
        let run : run_under width more first ≡ run_under width cores (head_at heads local) =
        new_run heads cores width capacity local none runs in
        let P : LineHead → List LineHead → List CoreChannels → List LineChannels → Type 0 = λ h hs run lines.
        AreLines hs (set more (h.first + core) new) width capacity
        (set lines local (record { cores = set run core new; home = head.home })) in
        let changed : P (head_at heads_too local) (set heads_too local head)
        (run_under width more (head_at heads_too local))
        (lines_under width more heads_too) =
        let has : has_run (head_at heads_too local) ≡ true =
        ap has_run is ∙ lt-ltb 0 (length cores) (omega (arith, runs.within local, within)) in
        let same_too : head.first ≡ (head_at heads_too local).first = same ∙ sym (ap (λ h. h.first) is) in
        let line_too : IsLine (set (run_under width more (head_at heads_too local)) core new) head.mail =
        subst (λ run. IsLine (set run core new) head.mail) (sym (ap (run_under width more) is ∙ run)) line in
        record {
          runs = IsRuns-changed heads_too more width capacity local core head new there_too within has same_too
              line_too runs_too;
          channels = lines-changed heads_too more width capacity local core head new there_too within has same_too
              runs_too;
        } in
        subst (λ lines. P first (set heads local head) (run_under width cores (head_at heads local)) lines) lines_too
        (subst (λ run. P first (set heads local head) run (lines_under width more heads_too)) run
        (subst (λ hs. P first hs (run_under width more first) (lines_under width more heads_too))
        (set-set heads local first head)
        (subst
        (λ h. P h (set heads_too local head) (run_under width more h) (lines_under width more heads_too))
        is changed)))

    by_test : (has : Bool) → has_run (head_at heads local) ≡ has →
        head.first ≡ (if has then (head_at heads local).first else length cores) →
        IsLine (set (run_under width cores (head_at heads local)) core new) head.mail →
        IsRuns heads cores width capacity →
        AreLines
        (set heads local head)
        (set
        (if has then cores else cores ++ replicate width no_messages)
        ((if has then (head_at heads local).first else length cores) + core)
        new)
        width
        capacity
        (set
        (lines_under width cores heads)
        local
        (record { cores = set (run_under width cores (head_at heads local)) core new; home = head.home }))
    by_test true has same line runs = record {
      runs = IsRuns-changed heads cores width capacity local core head new there within has same line runs;
      channels = lines-changed heads cores width capacity local core head new there within has same runs;
    }
    by_test false none same line runs = opened none same line runs

-- what is read at the place of a core's channels, once the line has its own run
pub read-opened : (heads : List LineHead) (cores : List CoreChannels) (width capacity core : ℕ) (head : LineHead)
    (none : CoreChannels) →
    core < width → IsRuns heads cores width capacity →
    get_or (opened_cores width head cores) (opened_first head cores + core) none
    ≡ get_or (run_under width cores head) core none
read-opened heads cores width capacity core head none within runs = by_test (has_run head) refl
  where
    by_test : (has : Bool) → has_run head ≡ has →
        get_or
        (if has then cores else cores ++ replicate width no_messages)
        ((if has then head.first else length cores) + core)
        none
        ≡ get_or (run_under width cores head) core none
    by_test true has =
        sym (get_or-take width (drop head.first cores) core none within ∙ get_or-drop head.first cores core none)
    by_test false absent =
        get_or-append-add cores (replicate width no_messages) core none
        ∙ ap (λ run. get_or run core none) (sym (blank-run heads cores width capacity head absent runs))

-- a line's home changes, and its flag may
pub lines-home : (heads : List LineHead) (cores : List CoreChannels) (width capacity local : ℕ) (old : LineHead)
    (home : Option Block) (waits : Bool) →
    local < length heads → old ≡ get_or heads local old → IsRuns heads cores width capacity →
    AreLines
    (set heads local (record old { home = home; waits = waits }))
    cores
    width
    capacity
    (set (lines_under width cores heads) local (record { cores = run_under width cores old; home = home }))
lines-home heads cores width capacity local old home waits there read runs = record {
  runs = record {
    few = runs.few;
    blank = runs.blank;
    runs = runs.runs
        ∙ ap (λ n. (1 + n) * width)
        (omega (arith, count-set heads local head there, ap (λ (h : LineHead). one_where (has_run h)) is));
    room = rw length-set runs.room;
    within = λ other. rw (firsts other) (runs.within other);
    own = λ one other c p has_one below_c below_p e. runs.own one other c p
        (sym (ap (nat_lt 0) (firsts one)) ∙ has_one) below_c below_p
        (sym (ap (λ (first : ℕ). first + c) (firsts one)) ∙ e ∙ ap (λ (first : ℕ). first + p) (firsts other));
    lines = of-each
        (λ other h. IsLine (run_under width cores h) h.mail)
        heads local head there
        (subst (λ (h : LineHead). IsLine (run_under width cores h) h.mail) (sym is) (runs.lines local))
        (λ other differs. runs.lines other);
  };
  channels = map-set (line_under width cores) heads local head;
}
  where
    head : LineHead
    head = record old { home = home; waits = waits }

    is : old ≡ head_at heads local
    is = read ∙ read_default heads local old blank_head there

    firsts : (other : ℕ) → (head_at (set heads local head) other).first ≡ (head_at heads other).first
    firsts =
        of-each
        (λ other h. h.first ≡ (head_at heads other).first)
        heads local head there (ap (λ h. h.first) is) (λ other differs. refl)

-- where nothing was ever sent each head is blank
pub blank-head : (n local : ℕ) → head_at (replicate n blank_head) local ≡ blank_head
blank-head zero local = refl
blank-head (suc n) zero = refl
blank-head (suc n) (suc local) = blank-head n local

-- a slice to which nothing was ever sent
pub lines-blank : (lines width : ℕ) → width ≤ 64 →
    AreLines
    (replicate lines blank_head)
    (replicate width no_messages)
    width
    ((lines + 1) * width)
    (replicate lines (empty_line width))
lines-blank lines width few = record {
  runs = record {
    few = few;
    blank = take_all width (replicate width no_messages) (omega (arith, length-replicate width no_messages));
    runs = length-replicate width no_messages ∙ one_run _ (none lines);
    room = room _ (length-replicate lines blank_head);
    within = λ other. rw (blank-head lines other, length-replicate width no_messages) (omega arith);
    own = λ one other c p has below_c below_p e.
        let clash : false ≡ true = sym (ap has_run (blank-head lines one)) ∙ has in cc;
    lines = λ other. rw (blank-head lines other)
        (subst (λ run. IsLine run no_marks)
        (sym (take_all width (replicate width no_messages) (omega (arith, length-replicate width no_messages))))
        (IsLine-empty width few));
  };
  channels = each lines;
}
  where
    none : (n : ℕ) → count_by has_run (replicate n blank_head) ≡ 0
    none n = sum_by-replicate (λ h. one_where (has_run h)) n blank_head ∙ omega arith

    one_run : (n : ℕ) → n ≡ 0 → width ≡ (1 + n) * width
    one_run n is = rw is (omega arith)

    room : (n : ℕ) → n ≡ lines → (1 + n) * width ≤ (lines + 1) * width
    room n is = rw is (mul-le-mul_right width (omega arith))

    line : List CoreChannels → LineChannels
    line run = record { cores = run; home = None }

    each : (n : ℕ) →
        lines_under width (replicate width no_messages) (replicate n blank_head) ≡ replicate n (empty_line width)
    each zero = refl
    each (suc n) =
        ap (λ run. line run ∷ lines_under width (replicate width no_messages) (replicate n blank_head))
        (take_all width (replicate width no_messages) (omega (arith, length-replicate width no_messages)))
        ∙ ap (λ rest. empty_line width ∷ rest) (each n)

-- where a line has a core's channels, its place in the run is one of them
pub core-within : (heads : List LineHead) (cores : List CoreChannels) (width local core : ℕ) →
    core < length (get_or (lines_under width cores heads) local (empty_line 0)).cores → core < width
core-within heads cores width local core there =
    elim (cases_lt local (length heads)) [
      | inl below ↦
          let few : length (run_under width cores (head_at heads local)) ≤ width =
          length-take-most width (drop (head_at heads local).first cores) in
          omega (arith, ap (λ line. length line.cores) (line-read width cores heads local below), there, few)
      | inr past ↦
          let none : get_or (lines_under width cores heads) local (empty_line 0) ≡ empty_line 0 =
          get_or_past (lines_under width cores heads) local (empty_line 0)
          (omega (arith, past, length-map heads (line_under width cores))) in
          absurd (omega (arith, ap (λ line. length line.cores) none, there))
    ]
  where
    length-take-most : (n : ℕ) (xs : List CoreChannels) → length (take n xs) ≤ n
    length-take-most zero xs = omega arith
    length-take-most (suc n) [] = omega arith
    length-take-most (suc n) (x ∷ xs) = let rest = length-take-most n xs in omega (arith, rest)

-- the channels of a core, as they are read at the place given for them
pub read-core : (heads : List LineHead) (cores more : List CoreChannels) (width capacity local core place : ℕ)
    (old : LineHead) (queues : CoreChannels) (lines : List LineChannels) →
    lines_under width cores heads ≡ lines → IsRuns heads cores width capacity → local < length lines →
    core < length (get_or lines local (empty_line 0)).cores → old ≡ get_or heads local old →
    place ≡ opened_first old cores + core → more ≡ opened_cores width old cores → place < length more →
    queues ≡ get_or more place queues → core_at (get_or lines local (empty_line 0)) core ≡ queues
read-core heads cores more width capacity local core place old queues lines view runs there within_line read place_is
    more_is place_there queues_is =
    let below : local < length heads =
    omega (arith, ap (λ ls. length ls) view, length-map heads (line_under width cores), there) in
    let within : core < width = core-within heads cores width local core
    (subst (λ ls. core < length (get_or ls local (empty_line 0)).cores) (sym view) within_line) in
    let old_is : old ≡ head_at heads local = read ∙ read_default heads local old blank_head below in
    ap (λ ls. core_at (get_or ls local (empty_line 0)) core) (sym view)
    ∙ ap (λ line. core_at line core) (line-read width cores heads local below)
    ∙ ap (λ h. get_or (run_under width cores h) core no_messages) (sym old_is)
    ∙ sym (read-opened heads cores width capacity core old no_messages within runs)
    ∙ ap (λ xs. get_or xs (opened_first old cores + core) no_messages) (sym more_is)
    ∙ ap (λ p. get_or more p no_messages) (sym place_is)
    ∙ sym (queues_is ∙ read_default more place queues no_messages place_there)

-- a line of a slice that is seen so, whose head is read
pub line-seen : (heads : List LineHead) (cores : List CoreChannels) (width local : ℕ) (old : LineHead)
    (lines : List LineChannels) →
    lines_under width cores heads ≡ lines → local < length lines → old ≡ get_or heads local old →
    get_or lines local (empty_line 0) ≡ line_under width cores old
line-seen heads cores width local old lines view there read =
    let below : local < length heads =
    omega (arith, ap (λ ls. length ls) view, length-map heads (line_under width cores), there) in
    ap (λ ls. get_or ls local (empty_line 0)) (sym view)
    ∙ line-read width cores heads local below
    ∙ ap (line_under width cores) (sym (read ∙ read_default heads local old blank_head below))

-- a core's channels change at the place given for them
pub lines-with_core : (heads : List LineHead) (cores more : List CoreChannels)
    (width capacity new_capacity local core place : ℕ) (old opened head : LineHead) (new : CoreChannels)
    (lines : List LineChannels) →
    lines_under width cores heads ≡ lines → IsRuns heads cores width capacity → local < length lines →
    core < length (get_or lines local (empty_line 0)).cores → old ≡ get_or heads local old →
    place ≡ opened_first old cores + core → more ≡ opened_cores width old cores →
    opened ≡ record old { first = opened_first old cores } → new_capacity ≡ capacity →
    head.first ≡ opened.first → head.home ≡ opened.home →
    (IsLine (get_or lines local (empty_line 0)).cores opened.mail →
    IsLine (set (get_or lines local (empty_line 0)).cores core new) head.mail) →
    AreLines
    (set heads local head)
    (set more place new)
    width
    new_capacity
    (set lines local (with_core (get_or lines local (empty_line 0)) core new))
lines-with_core heads cores more width capacity new_capacity local core place old opened head new lines view runs there
    within_line read place_is more_is opened_is capacity_is first home marked =
    let below : local < length heads =
    omega (arith, ap (λ ls. length ls) view, length-map heads (line_under width cores), there) in
    let within : core < width = core-within heads cores width local core
    (subst (λ ls. core < length (get_or ls local (empty_line 0)).cores) (sym view) within_line) in
    let old_is : old ≡ head_at heads local = read ∙ read_default heads local old blank_head below in
    let line = line-seen heads cores width local old lines view there read in
    let before : IsLine (run_under width cores old) opened.mail =
    subst (λ (mail : Mail). IsLine (run_under width cores old) mail) (sym (ap (λ h. h.mail) opened_is))
    (subst (λ (h : LineHead). IsLine (run_under width cores h) h.mail) (sym old_is) (runs.lines local)) in
    let after : IsLine (set (run_under width cores old) core new) head.mail =
    subst (λ (l : LineChannels). IsLine (set l.cores core new) head.mail) line
    (marked (subst (λ (l : LineChannels). IsLine l.cores opened.mail) (sym line) before)) in
    let sent = lines-sent heads cores width capacity local core old head new below read within
    (first ∙ ap (λ h. h.first) opened_is) after runs in
    let with_home : Option Block → LineChannels = λ h.
    record { cores = set (run_under width cores old) core new; home = h } in
    let same : with_home head.home ≡ with_core (get_or lines local (empty_line 0)) core new =
    ap with_home (home ∙ ap (λ h. h.home) opened_is) ∙ ap (λ l. with_core l core new) (sym line) in
    let P : ℕ → List CoreChannels → ℕ → List LineChannels → LineChannels → Type 0 = λ place more capacity lines line.
    AreLines (set heads local head) (set more place new) width capacity (set lines local line) in
    subst (λ l. P place more new_capacity lines l) same
    (subst (λ ls. P place more new_capacity ls (with_home head.home)) view
    (subst (λ n. P place more n (lines_under width cores heads) (with_home head.home)) (sym capacity_is)
    (subst (λ xs. P place xs capacity (lines_under width cores heads) (with_home head.home)) (sym more_is)
    (subst (λ p. P p (opened_cores width old cores) capacity (lines_under width cores heads) (with_home head.home))
    (sym place_is) sent))))

-- the block on its way home changes
pub lines-with_home : (heads : List LineHead) (cores : List CoreChannels) (width capacity local : ℕ) (old : LineHead)
    (home : Option Block) (waits : Bool) (lines : List LineChannels) →
    lines_under width cores heads ≡ lines → IsRuns heads cores width capacity → local < length lines →
    old ≡ get_or heads local old →
    AreLines
    (set heads local (record old { home = home; waits = waits }))
    cores
    width
    capacity
    (set lines local (record (get_or lines local (empty_line 0)) { home = home }))
lines-with_home heads cores width capacity local old home waits lines view runs there read =
    let below : local < length heads =
    omega (arith, ap (λ ls. length ls) view, length-map heads (line_under width cores), there) in
    let old_is : old ≡ head_at heads local = read ∙ read_default heads local old blank_head below in
    let line = line-seen heads cores width local old lines view there read in
    let P : List LineChannels → LineChannels → Type 0 = λ lines line.
    AreLines (set heads local (record old { home = home; waits = waits })) cores width capacity
    (set lines local (record line { home = home })) in
    subst (λ l. P lines l) (sym line)
    (subst (λ ls. P ls (line_under width cores old)) view
    (lines-home heads cores width capacity local old home waits below read runs))

-- a line's head, as it is read: there is room for the line's own run
pub opens : (heads : List LineHead) (cores : List CoreChannels) (width capacity local : ℕ) (old : LineHead)
    (lines : List LineChannels) →
    lines_under width cores heads ≡ lines → IsRuns heads cores width capacity → local < length lines →
    old ≡ get_or heads local old →
    (old.first + width ≤ length cores) × (has_run old ≡ false → length cores + width ≤ capacity)
opens heads cores width capacity local old lines view runs there read =
    let below : local < length heads =
    omega (arith, ap (λ ls. length ls) view, length-map heads (line_under width cores), there) in
    let P : LineHead → Type 0 = λ h.
    (h.first + width ≤ length cores) × (has_run h ≡ false → length cores + width ≤ capacity) in
    subst P (sym (read ∙ read_default heads local old blank_head below))
    (runs.within local, λ none. room-left heads cores width capacity local below none runs)

-- a core of a line that is seen so is one of `width`
pub seen-within : (heads : List LineHead) (cores : List CoreChannels) (width local core : ℕ)
    (lines : List LineChannels) →
    lines_under width cores heads ≡ lines → core < length (get_or lines local (empty_line 0)).cores → core < width
seen-within heads cores width local core lines view within =
    core-within heads cores width local core
    (subst (λ ls. core < length (get_or ls local (empty_line 0)).cores) (sym view) within)

-- a channel that is there, and has a sender, has one of the 64 cores that there can be
pub from-core : (heads : List LineHead) (cores : List CoreChannels) (width capacity local : ℕ) (channel : Channel)
    (lines : List LineChannels) →
    lines_under width cores heads ≡ lines → IsRuns heads cores width capacity →
    HasChannel (get_or lines local (empty_line 0)) channel → is_from_core channel ≡ true
from-core heads cores width capacity local (channels.Ack to from) lines view runs there =
    let within = seen-within heads cores width local from.0 lines view there.1 in
    lt-ltb from.0 64 (omega (arith, within, runs.few))
from-core heads cores width capacity local (channels.Req core) lines view runs there = refl
from-core heads cores width capacity local (channels.Fwd core) lines view runs there = refl
from-core heads cores width capacity local (channels.Data core) lines view runs there = refl
from-core heads cores width capacity local channels.Home lines view runs there = refl

-- no line has more cores than there can be
pub few-cores : (heads : List LineHead) (cores : List CoreChannels) (width capacity local : ℕ)
    (lines : List LineChannels) →
    lines_under width cores heads ≡ lines → IsRuns heads cores width capacity →
    length (get_or lines local (empty_line 0)).cores ≤ 64
few-cores heads cores width capacity local lines view runs =
    elim (cases_lt 64 (length (get_or lines local (empty_line 0)).cores)) [
      | inl many ↦
          let within = seen-within heads cores width local 64 lines view many in
          absurd (omega (arith, within, runs.few))
      | inr few ↦ few
    ]
