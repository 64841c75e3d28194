-- A slice's answer says where the request's word lies, and of its tag and its access what configuration and request
-- say.
use Rattle.std.proofs.Common.{◌≡◌, ℕ, ◌*◌, ◌/◌, ◌%◌, ◌<◌, ◌≤◌, Bool, true, false, not, if◌then◌else◌, List, Ok, Err}
use Rattle.std.proofs.Common.{Result, Option, Some, None, inl, inr, refl, sym, subst, arith}
use Rattle.std.specs.Prelude.{◌==◌, ◌&&◌, nat_lt, IsSome}
use Rattle.std.proofs.lemmas.Bool.{false_from_ne_true, leb-false, leb-true, ltb-false, ltb-true}
use Rattle.std.proofs.lemmas.Nat.{div-add-mod'}
use Rattle.address_map.specs.Config.{IsAllowed, word_count}
use Rattle.address_map.specs.Locator.{Lines, is_past, lines_of, local_at}
use Rattle.address_map.specs.Place.{counters_of, is_of_slice, line_of}
use Rattle.address_map.specs.declared.address.CoreId.{CoreId}
use Rattle.address_map.specs.declared.address.Local.{Local}
use Rattle.address_map.specs.declared.address.WordAddr.{WordAddr}
use Rattle.address_map.specs.declared.config.Config.{Config}
use Rattle.address_map.specs.declared.request.Request.{Request}
use Rattle.receipt_ledger.proofs.Values.{word-here}
use Rattle.receipt_ledger.specs.Answers.{IsAtSlice, IsJudged}
use Rattle.receipt_ledger.specs.Booked.{stores_to}
use Rattle.slice_answer.specs.declared.answer.Issue.{Issue}
use Rattle.slice_answer.specs.declared.answer.Refused.{Refused}
use Rattle.slice_answer.specs.declared.answer.Refused.TheVariants as refusals
use Rattle.slice_core_cache.specs.Access.{access_of}
use Rattle.slice_core_cache.specs.CoreCache.{tag_at}
use Rattle.slice_core_cache.specs.Tags.{is_free}
use Rattle.slice_core_cache.specs.declared.access.AccessKind.{AccessKind}
use Rattle.slice_core_cache.specs.declared.access.AccessKind.TheVariants as access_kinds
use Rattle.slice_core_spec.specs.Calls.{PartsView, AfterAccess, AfterIssue, AfterDecision}
use Rattle.slice_core_spec.specs.View.{cache_at}
use Rattle.slice_core_spec.specs.declared.decision.Decision.{Decision}
use Rattle.slice_core_spec.specs.declared.decision.Decision.TheVariants as decisions

somewhere : (found : Option Local) → found ≡ None → IsSome found → ⊥
somewhere None is there = cc
somewhere (Some local) is there = cc

module _ (c : Config) (number : ℕ) where
  abbrev own : Lines
  own = lines_of c (record { 0 = number })

  -- A word in a line of the slice is one of its own.
  here-own : (word : WordAddr) (local : Local) → local_at own (line_of word).0 ≡ Some local
      → is_of_slice c number word ≡ true
  here-own word local found =
      both (word.0 / 8 % c.slices == number) (nat_lt (word.0 / 8 / c.slices) (c.lines / c.slices)) found
    where
      both : (a b : Bool) → (if a && b then Some (record { 0 = word.0 / 8 / c.slices }) else None) ≡ Some local
          → a ≡ true
      both true b is = refl
      both false b is = absurd (cc)

  module _ (allowed : IsAllowed c) where
    -- A word of the memory that is in none of the slice's lines is another slice's.
    nowhere-own : (word : WordAddr) → word.0 < word_count c → local_at own (line_of word).0 ≡ None
        → is_of_slice c number word ≡ false
    nowhere-own word below none =
        false_from_ne_true (is_of_slice c number word)
        (λ is. somewhere (local_at own (line_of word).0) none (word-here c number word allowed is below))

    past-out : (word : WordAddr) → is_past own word ≡ true → word_count c ≤ word.0
    past-out word is =
        let past = leb-true (c.lines / c.slices * c.slices) (word.0 / 8) is in
        let whole = div-add-mod' c.lines c.slices in
        let even = allowed.even in
        omega (arith, past, whole, even)

    past-within : (word : WordAddr) → is_past own word ≡ false → word.0 < word_count c
    past-within word is =
        let before = leb-false (c.lines / c.slices * c.slices) (word.0 / 8) is in
        let whole = div-add-mod' c.lines c.slices in
        let even = allowed.even in
        omega (arith, before, whole, even)

  -- What was judged in the slice is of a word of its own.
  abbrev IsHere : Request → Type 0
  IsHere request = IsAtSlice c number request.word

  -- what configuration and request say of an answer
  abbrev Says : Request → Result Issue Refused → Type 0
  Says request answer = IsJudged c number request answer

  -- Where neither word nor tag nor access is refused, any answer may come but a refusal of these.
  abbrev IsFit : Request → Type 0
  IsFit request =
      IsHere request × (request.tag < 64)
      × (stores_to (counters_of c number) request.op request.word ≡ false)

  module _ (old : PartsView) (core : CoreId) (request : Request) (answer : Result Issue Refused) (new : PartsView) where
    accepted : IsFit request → (issue : Issue) → answer ≡ Ok issue → Says request answer
    accepted fit issue is = subst (Says request) (sym is) fit

    lacking : answer ≡ Err refusals.Memory → Says request answer
    lacking is = subst (Says request) (sym is) tt

    accessed : IsFit request → (local : Local) (access : AccessKind) →
        AfterAccess access old core request local answer new
        → Says request answer
    accessed fit local (access_kinds.Stall stall) after = accepted fit _ after.0
    accessed fit local (access_kinds.Hit way next silent) after = elim after [
      | inl lacks ↦ lacking lacks.refused
      | inr is ↦ accepted fit _ is.4
    ]
    accessed fit local access_kinds.SecondaryMiss after = elim after [
      | inl lacks ↦ lacking lacks.refused
      | inr is ↦ accepted fit _ is.4
    ]
    accessed fit local (access_kinds.PrimaryMiss next ask placement) after = elim after [
      | inl lacks ↦ lacking lacks.refused
      | inr is ↦ accepted fit _ is.4
    ]

    -- In the slice the tag is judged, and then what is done to a counter.
    tested : IsHere request → (small busy counter : Bool) → nat_lt request.tag 64 ≡ small
        → stores_to (counters_of c number) request.op request.word ≡ counter → (local : Local) (access : AccessKind)
        → AfterDecision (if not small then decisions.Refuse refusals.TagRange
        else if busy then decisions.Refuse refusals.TagBusy
        else if counter then decisions.Refuse refusals.CounterStore else decisions.Access local access) old core
        request answer new
        → Says request answer
    tested here false busy counter range stores local access after =
        subst (Says request) (sym after.0) (here, ltb-false request.tag 64 range)
    tested here true true counter range stores local access after =
        subst (Says request) (sym after.0) (here, ltb-true request.tag 64 range)
    tested here true false true range stores local access after =
        subst (Says request) (sym after.0) (here, ltb-true request.tag 64 range, stores)
    tested here true false false range stores local access after =
        accessed (here, ltb-true request.tag 64 range, stores) local access after

    -- what is decided once the line's place was looked up
    abbrev by_place : List WordAddr → Option Local → Decision
    by_place counters None = decisions.Refuse refusals.WrongSlice
    by_place counters (Some local) =
        if not (nat_lt request.tag 64) then decisions.Refuse refusals.TagRange
        else if not (is_free (tag_at (cache_at old.view core) request.tag)) then decisions.Refuse refusals.TagBusy
        else if stores_to counters request.op request.word then decisions.Refuse refusals.CounterStore
        else decisions.Access local (access_of (cache_at old.view core) local request.tag request.op)

    placed : IsAllowed c → (past : Bool) (found : Option Local) → is_past own request.word ≡ past
        → local_at own (line_of request.word).0 ≡ found
        → AfterDecision (if past then decisions.Refuse refusals.OutOfRange else by_place (counters_of c number) found)
        old core request answer new
        → Says request answer
    placed allowed true found out at after =
        subst (Says request) (sym after.0) (past-out allowed request.word out)
    placed allowed false None inside at after =
        let below = past-within allowed request.word inside in
        subst (Says request) (sym after.0) (below, nowhere-own allowed request.word below at)
    placed allowed false (Some local) inside at after =
        tested (record { within = past-within allowed request.word inside; own = here-own request.word local at })
        (nat_lt request.tag 64) (not (is_free (tag_at (cache_at old.view core) request.tag)))
        (stores_to (counters_of c number) request.op request.word) refl refl local
        (access_of (cache_at old.view core) local request.tag request.op) after

    -- An answer is judged by its word, its tag and its access.
    pub issued-judged : IsAllowed c → old.view.lines ≡ own → old.view.counters ≡ counters_of c number
        → AfterIssue old core request answer new → Says request answer
    issued-judged allowed lines counters after =
        placed allowed (is_past own request.word) (local_at own (line_of request.word).0) refl refl
        (subst
        (λ (l : Lines).
        AfterDecision
        (if is_past l request.word then decisions.Refuse refusals.OutOfRange
        else by_place (counters_of c number) (local_at l (line_of request.word).0)) old core request answer new)
        lines
        (subst
        (λ (words : List WordAddr).
        AfterDecision
        (if is_past old.view.lines request.word then decisions.Refuse refusals.OutOfRange
        else by_place words (local_at old.view.lines (line_of request.word).0)) old core request answer new)
        counters after))
