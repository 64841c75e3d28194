-- How many lines have a message, and the flags of their heads, as a line changes.
use Rattle.std.proofs.Common.{◌≡◌, ℕ, ◌+◌, ◌*◌, ◌<◌, ◌≤◌, ◌++◌, ◌∙◌, ◌&&◌, Bool, true, false, List, [], ◌∷◌}
use Rattle.std.proofs.Common.{length, replicate, get_or, refl, ap, sym, subst, arith, inl, inr}
use Rattle.std.specs.List.{count_by}
use Rattle.std.proofs.Math.ListN.{set, length-set}
use Rattle.std.proofs.lemmas.Bool.{cases_eq, cases_lt}
use Rattle.std.proofs.lemmas.List.{get_or-set_same, get_or-set_other, get_or_past, length-append, length-map}
use Rattle.std.proofs.lemmas.List.Sums.{sum_by-set, get_or-le-sum_by, count_by-le-length, sum_by-le}
use Rattle.std.proofs.lemmas.List.Elements.{All-from_get_or}
use Rattle.std.proofs.lemmas.List.Folds.{sum_by-replicate}
use Rattle.slice_queues.specs.declared.channel.Channel.{Channel}
use Rattle.slice_queues.specs.declared.message.Message.{Message}
use Rattle.slice_queues.specs.declared.lines.LineHead.{LineHead}
use Rattle.slice_queues.specs.Line.{CoreChannels, LineChannels, empty_line, has_mail, messages_at, after_send}
use Rattle.slice_queues.specs.Line.{IsEmptyLine, SendsOnly, TakesOnly}
use Rattle.slice_queues.specs.Mail.{IsLine}
use Rattle.slice_queues.specs.Count.{one_where, shows_mail, IsMailCounted}
use Rattle.slice_queues.specs.Runs.{blank_head, head_at, line_under, lines_under, run_under, IsRuns}
use Rattle.slice_queues.proofs.LineLaws.{read_default, IsEmptyLine-from_taken}
use Rattle.slice_queues.proofs.SliceLaws.{IsEmptyLine-empty_line}
use Rattle.slice_queues.proofs.MailLaws.{IsEmptyLine-from_no_mail, no_mail-from_IsEmptyLine, shows_mail-is}
use Rattle.slice_queues.proofs.RingLaws.{no_mail-replicate}
use Rattle.slice_queues.proofs.RunsLaws.{blank-head, line-seen}

-- a line in which nothing waits counts for nothing
no_mail-empty : (cores : ℕ) → has_mail (empty_line cores) ≡ false
no_mail-empty cores = no_mail-from_IsEmptyLine (empty_line cores) (IsEmptyLine-empty_line cores)

-- a line to which a message was sent has one
pub has_mail-sent : (old new : LineChannels) (channel : Channel) (message : Message) →
    SendsOnly old new channel message → has_mail new ≡ true
has_mail-sent old new channel message sent = by_mail (has_mail new) refl
  where
    by_mail : (mail : Bool) → has_mail new ≡ mail → has_mail new ≡ true
    by_mail true some = some
    by_mail false none =
        let empty : IsEmptyLine new = IsEmptyLine-from_no_mail new none in
        let clash : [] ≡ messages_at old channel ++ message ∷ [] = sym (empty channel) ∙ sent.appended in
        absurd (omega (arith, ap (λ ms. length ms) clash, length-append (messages_at old channel) (message ∷ [])))

-- a line from which a message was taken has one only where it had one before
pub has_mail-taken : (old new : LineChannels) (channel : Channel) → TakesOnly old new channel →
    (has_mail old && has_mail new) ≡ has_mail new
has_mail-taken old new channel taken = by_mail (has_mail old) refl
  where
    by_mail : (mail : Bool) → has_mail old ≡ mail → (mail && has_mail new) ≡ has_mail new
    by_mail true some = refl
    by_mail false none =
        sym (no_mail-from_IsEmptyLine new
        (IsEmptyLine-from_taken old new channel taken (IsEmptyLine-from_no_mail old none)))

-- there is a head for each line
length-heads : (heads : List LineHead) (cores : List CoreChannels) (width : ℕ) (lines : List LineChannels) →
    lines_under width cores heads ≡ lines → length heads ≡ length lines
length-heads heads cores width lines view = sym (length-map heads (line_under width cores)) ∙ ap (λ ls. length ls) view

-- a line's marks, as its head is read
pub IsLine-read : (heads : List LineHead) (cores : List CoreChannels) (width capacity local : ℕ) (old : LineHead)
    (lines : List LineChannels) →
    lines_under width cores heads ≡ lines → IsRuns heads cores width capacity → local < length lines →
    old ≡ get_or heads local old → IsLine (get_or lines local (empty_line 0)).cores old.mail
IsLine-read heads cores width capacity local old lines view runs there read =
    let below : local < length heads = omega (arith, length-heads heads cores width lines view, there) in
    let is : old ≡ head_at heads local = read ∙ read_default heads local old blank_head below in
    subst (λ (l : LineChannels). IsLine l.cores old.mail)
    (sym (line-seen heads cores width local old lines view there read))
    (subst (λ (h : LineHead). IsLine (run_under width cores h) h.mail) (sym is) (runs.lines local))

-- what is known of a line whose head is read, of a slice's lines as they are seen: its flag, and the count
record IsCountedLine (heads : List LineHead) (lines : List LineChannels) (waiting local : ℕ) (old : LineHead) :
    Type 0 where
  pub many : length heads ≡ length lines
  pub flag : old.waits ≡ has_mail (get_or lines local (empty_line 0))
  pub counted : IsMailCounted heads lines waiting

counted-line : (heads : List LineHead) (cores : List CoreChannels) (width waiting local : ℕ) (old : LineHead)
    (lines : List LineChannels) →
    lines_under width cores heads ≡ lines → IsMailCounted heads (lines_under width cores heads) waiting →
    local < length lines → old ≡ get_or heads local old → IsCountedLine heads lines waiting local old
counted-line heads cores width waiting local old lines view counted there read =
    let many = length-heads heads cores width lines view in
    let seen : IsMailCounted heads lines waiting = subst (λ ls. IsMailCounted heads ls waiting) view counted in
    record {
      many = many;
      flag = ap (λ h. h.waits) (read ∙ read_default heads local old blank_head (omega (arith, many, there)))
          ∙ seen.flags local;
      counted = seen;
    }

-- a line with a message is one of those that are counted
pub some-waiting : (heads : List LineHead) (cores : List CoreChannels) (width waiting local : ℕ) (old : LineHead)
    (lines : List LineChannels) →
    lines_under width cores heads ≡ lines → IsMailCounted heads (lines_under width cores heads) waiting →
    local < length lines → old ≡ get_or heads local old → old.waits ≡ true → 0 < waiting
some-waiting heads cores width waiting local old lines view counted there read waits =
    let is = counted-line heads cores width waiting local old lines view counted there read in
    let most = get_or-le-sum_by (λ line. one_where (has_mail line)) lines local (empty_line 0) there in
    omega (arith, most, ap one_where (sym is.flag ∙ waits), is.counted.counted)

-- a line without one isn't: another can be counted
pub room-waiting : (heads : List LineHead) (cores : List CoreChannels) (width waiting local : ℕ) (old : LineHead)
    (lines : List LineChannels) (channel : Channel) (message : Message) →
    lines_under width cores heads ≡ lines → IsMailCounted heads (lines_under width cores heads) waiting →
    local < length lines → old ≡ get_or heads local old →
    SendsOnly (get_or lines local (empty_line 0)) (after_send (get_or lines local (empty_line 0)) channel message)
    channel message → old.waits ≡ false → waiting + 1 ≤ length heads
room-waiting heads cores width waiting local old lines channel message view counted there read sent none =
    let is = counted-line heads cores width waiting local old lines view counted there read in
    let line = after_send (get_or lines local (empty_line 0)) channel message in
    let sums = sum_by-set (λ line. one_where (has_mail line)) lines local line (empty_line 0) there in
    omega (
      arith,
      sums,
      ap one_where (sym is.flag ∙ none),
      ap one_where (has_mail-sent _ line channel message sent),
      is.counted.counted,
      is.many,
      count_by-le-length has_mail (set lines local line),
      length-set lines local line,
    )

-- a line changes, and its flag with it
IsMailCounted-set : (heads : List LineHead) (lines after : List LineChannels) (waiting now local : ℕ)
    (old head : LineHead) (line : LineChannels) →
    local < length lines → after ≡ set lines local line → head.waits ≡ has_mail line →
    now + one_where old.waits ≡ waiting + one_where head.waits →
    IsCountedLine heads lines waiting local old → IsMailCounted (set heads local head) after now
IsMailCounted-set heads lines after waiting now local old head line there is flag count before = record {
  flags = λ other. flags other ∙ ap (λ ls. has_mail (get_or ls other (empty_line 0))) (sym is);
  counted = omega (arith, sums, count, ap one_where before.flag, ap one_where flag, before.counted.counted)
      ∙ ap (count_by has_mail) (sym is);
}
  where
    sums : count_by has_mail (set lines local line) + one_where (has_mail (get_or lines local (empty_line 0)))
        ≡ count_by has_mail lines + one_where (has_mail line)
    sums = sum_by-set (λ line. one_where (has_mail line)) lines local line (empty_line 0) there

    flags : (other : ℕ) →
        (head_at (set heads local head) other).waits ≡ has_mail (get_or (set lines local line) other (empty_line 0))
    flags other =
        elim (cases_eq other local) [
          | inl same ↦
              let here : local < length heads = omega (arith, before.many, there) in
              rw same (ap (λ h. h.waits) (get_or-set_same heads local head blank_head here)
              ∙ flag
              ∙ ap has_mail (sym (get_or-set_same lines local line (empty_line 0) there)))
          | inr differs ↦
              ap (λ h. h.waits) (get_or-set_other heads local other head blank_head differs)
              ∙ before.counted.flags other
              ∙ ap has_mail (sym (get_or-set_other lines local other line (empty_line 0) differs))
        ]

-- a message was sent to a line
pub IsMailCounted-sent : (heads : List LineHead) (cores : List CoreChannels) (width waiting now local : ℕ)
    (old opened : LineHead) (lines after : List LineChannels) (line : LineChannels) (channel : Channel)
    (message : Message) →
    lines_under width cores heads ≡ lines → IsMailCounted heads (lines_under width cores heads) waiting →
    local < length lines → old ≡ get_or heads local old →
    SendsOnly (get_or lines local (empty_line 0)) line channel message → after ≡ set lines local line →
    opened.waits ≡ old.waits → now + one_where opened.waits ≡ waiting + 1 →
    IsMailCounted (set heads local (record opened { waits = true })) after now
IsMailCounted-sent heads cores width waiting now local old opened lines after line channel message view counted there
    read sent is kept count =
    IsMailCounted-set heads lines after waiting now local old (record opened { waits = true }) line there is
    (sym (has_mail-sent _ line channel message sent)) (omega (arith, count, ap one_where kept))
    (counted-line heads cores width waiting local old lines view counted there read)

-- a message was taken from a line, if there was one
pub IsMailCounted-taken : (heads : List LineHead) (cores : List CoreChannels) (width waiting now local : ℕ)
    (old opened : LineHead) (lines after : List LineChannels) (line : LineChannels) (channel : Channel) →
    lines_under width cores heads ≡ lines → IsMailCounted heads (lines_under width cores heads) waiting →
    local < length lines → old ≡ get_or heads local old →
    TakesOnly (get_or lines local (empty_line 0)) line channel → after ≡ set lines local line →
    opened.waits ≡ old.waits → opened.home ≡ line.home → IsLine line.cores opened.mail →
    now + one_where opened.waits ≡ waiting + one_where (opened.waits && shows_mail opened) →
    IsMailCounted (set heads local (record opened { waits = opened.waits && shows_mail opened })) after now
IsMailCounted-taken heads cores width waiting now local old opened lines after line channel view counted there read
    taken is kept home marked count =
    let before = counted-line heads cores width waiting local old lines view counted there read in
    let flag : (opened.waits && shows_mail opened) ≡ has_mail line =
    ap (λ waits. waits && shows_mail opened) (kept ∙ before.flag)
    ∙ ap (λ shows. has_mail (get_or lines local (empty_line 0)) && shows) (shows_mail-is line opened marked.marked home)
    ∙ has_mail-taken _ line channel taken in
    IsMailCounted-set heads lines after waiting now local old
    (record opened { waits = opened.waits && shows_mail opened }) line there is flag
    (omega (arith, count, ap one_where kept)) before

-- a slice in which nothing waits
pub IsMailCounted-blank : (lines cores : ℕ) →
    IsMailCounted (replicate lines blank_head) (replicate lines (empty_line cores)) 0
IsMailCounted-blank lines cores = record {
  flags = λ local. ap (λ h. h.waits) (blank-head lines local) ∙ sym (no_mail-replicate lines cores local);
  counted = sym (none lines);
}
  where
    none : (n : ℕ) → count_by has_mail (replicate n (empty_line cores)) ≡ 0
    none n =
        sum_by-replicate (λ line. one_where (has_mail line)) n (empty_line cores)
        ∙ ap (λ (k : ℕ). n * k) (ap one_where (no_mail-empty cores)) ∙ omega arith

-- where no line has a message, none is counted
pub none-waiting : (heads : List LineHead) (lines : List LineChannels) (waiting : ℕ) →
    IsMailCounted heads lines waiting →
    ((local : ℕ) → has_mail (get_or lines local (empty_line 0)) ≡ false) → waiting ≡ 0
none-waiting heads lines waiting counted quiet =
    let f : LineChannels → ℕ = λ line. one_where (has_mail line) in
    let each = All-from_get_or (λ line. f line ≤ 0) lines (empty_line 0)
    (λ i within. let e = ap one_where (quiet i) in omega (arith, e)) in
    let all = sum_by-le f 0 lines each in
    omega (arith, all, counted.counted)

-- where none is counted, no line has one
pub no_mail-from_count : (heads : List LineHead) (lines : List LineChannels) (waiting : ℕ) →
    IsMailCounted heads lines waiting → waiting ≡ 0 → (local : ℕ) →
    has_mail (get_or lines local (empty_line 0)) ≡ false
no_mail-from_count heads lines waiting counted none local =
    elim (cases_lt local (length lines)) [
      | inl there ↦
          let most = get_or-le-sum_by (λ line. one_where (has_mail line)) lines local (empty_line 0) there in
          no_one (has_mail (get_or lines local (empty_line 0))) (omega (arith, most, counted.counted, none))
      | inr past ↦ ap has_mail (get_or_past lines local (empty_line 0) past) ∙ no_mail-empty 0
    ]
  where
    no_one : (here : Bool) → one_where here ≤ 0 → here ≡ false
    no_one true few = absurd (omega (arith, few))
    no_one false few = refl
