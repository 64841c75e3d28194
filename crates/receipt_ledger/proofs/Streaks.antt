-- What a port's streaks give, and that they still give it when more is kept.
use Rattle.std.proofs.Common.{◌≡◌, ℕ, zero, suc, ◌+◌, ◌-◌, ◌<◌, ◌≤◌, ◌^◌, List, [], ◌∷◌, ◌++◌, get_or, length}
use Rattle.std.proofs.Common.{length-append, map, if◌then◌else◌, inl, inr, Some, None, refl, sym, ap, subst, ◌∙◌, arith}
use Rattle.std.proofs.Common.{nat_lt}
use Rattle.std.specs.Prelude.{slice_get}
use Rattle.std.specs.List.{AllWithin, range_with_len}
use Rattle.std.proofs.lemmas.Bool.{cases_lt, le-ltb, lt-ltb}
use Rattle.std.proofs.lemmas.List.{get_or_append_left, get_or_push}
use Rattle.std.proofs.lemmas.List.FromFn.{get_or-map-range_with_len, length-map-range_with_len, map-range_with_len_more}
use Rattle.std.proofs.lemmas.List.Sorted.{IsNonDecreasingBy-push}
use Rattle.std.proofs.lemmas.Option.{slice_get-get_or, slice_get_past, slice_get_within, get_or_from_slice_get}
use Rattle.receipt_ledger.specs.Account.{AccountView, AreStreaks, GoesOn, IsTelling, IsTold, account_of, asks_of}
use Rattle.receipt_ledger.specs.Account.{no_receipt, no_streak, place_in, receipt_at, streak_in, told_at, told_in}
use Rattle.receipt_ledger.specs.History.{request_of}
use Rattle.receipt_ledger.specs.declared.account.Streak.{Streak}
use Rattle.receipt_ledger.specs.declared.receipt.Ask.{Ask}
use Rattle.receipt_ledger.specs.declared.receipt.Receipt.{Receipt}
use Rattle.slice_log.proofs.Pushes.{slice_get-push}

-- ---- the list of what was asked

-- what is under a number
abbrev told : List Streak → List Receipt → ℕ → Ask
told streaks receipts seq = told_in receipts (streak_in no_streak streaks seq) seq

pub asks_long : (streaks : List Streak) (accepted : ℕ) (receipts : List Receipt)
    → length (asks_of streaks accepted receipts) ≡ accepted
asks_long streaks accepted receipts = length-map-range_with_len (told streaks receipts) 0 accepted

pub asks-at : (streaks : List Streak) (accepted : ℕ) (receipts : List Receipt) (seq : ℕ) → seq < accepted
    → slice_get (asks_of streaks accepted receipts) seq ≡ Some (told_in receipts (streak_in no_streak streaks seq) seq)
asks-at streaks accepted receipts seq within =
    let long = asks_long streaks accepted receipts in
    let d : Ask = no_streak.ask in
    slice_get-get_or (asks_of streaks accepted receipts) seq d (omega (arith, long, within))
    ∙ ap (λ (a : Ask). Some a) (get_or-map-range_with_len (told streaks receipts) 0 accepted seq
    seq d within (omega arith))

pub asks-past : (streaks : List Streak) (accepted : ℕ) (receipts : List Receipt) (seq : ℕ) → accepted ≤ seq
    → slice_get (asks_of streaks accepted receipts) seq ≡ None
asks-past streaks accepted receipts seq past =
    let long = asks_long streaks accepted receipts in
    slice_get_past (asks_of streaks accepted receipts) seq (omega (arith, long, past))

-- Two functions that agree on each number below this one give the same list.
agree : (f g : ℕ → Ask) (n : ℕ) → ((seq : ℕ) → seq < n → f seq ≡ g seq)
    → map f (range_with_len 0 n) ≡ map g (range_with_len 0 n)
agree f g zero same = refl
agree f g (suc n) same =
    let more : n + 1 ≡ suc n = omega arith in
    subst (λ k. map f (range_with_len 0 k) ≡ map g (range_with_len 0 k)) more
    (map-range_with_len_more f 0 n n (omega arith)
    ∙ ap (λ (asks : List Ask). asks ++ f n ∷ []) (agree f g n (λ seq below. same seq (omega (arith, below))))
    ∙ ap (λ (a : Ask). map g (range_with_len 0 n) ++ a ∷ []) (same n (omega arith))
    ∙ sym (map-range_with_len_more g 0 n n (omega arith)))

-- One request more, where the earlier ones are given as before.
one-more : (streaks later : List Streak) (accepted : ℕ) (receipts given : List Receipt) (ask : Ask)
    → ((seq : ℕ) → seq < accepted → told later given seq ≡ told streaks receipts seq)
    → told later given accepted ≡ ask
    → asks_of later (accepted + 1) given ≡ asks_of streaks accepted receipts ++ ask ∷ []
one-more streaks later accepted receipts given ask same is =
    map-range_with_len_more (told later given) 0 accepted accepted (omega arith)
    ∙ ap (λ (asks : List Ask). asks ++ told later given accepted ∷ [])
    (agree (told later given) (told streaks receipts) accepted same)
    ∙ ap (λ (a : Ask). asks_of streaks accepted receipts ++ a ∷ []) is

-- ---- the streak of a request

-- The streak at a place is that of a request where those up to it begin no later, and those after it later.
pub streak-found : (streak : Streak) (streaks : List Streak) (seq place : ℕ) (d : Streak) → place < length streaks
    → ((k : ℕ) → k ≤ place → (get_or streaks k d).first ≤ seq)
    → ((k : ℕ) → place < k → k < length streaks → seq < (get_or streaks k d).first)
    → streak_in streak streaks seq ≡ get_or streaks place d
streak-found streak [] seq place d within low high = absurd (omega (arith, within))
streak-found streak (x ∷ []) seq zero d within low high = rw (le-ltb seq x.first (low 0 (omega arith))) refl
streak-found streak (x ∷ y ∷ ys) seq zero d within low high =
    rw (le-ltb seq x.first (low 0 (omega arith)), lt-ltb seq y.first (high 1 (omega arith) (omega arith))) refl
streak-found streak (x ∷ xs) seq (suc place) d within low high =
    rw (le-ltb seq x.first (low 0 (omega arith)))
    (streak-found x xs seq place d (omega (arith, within)) (λ k up. low (suc k) (omega (arith, up)))
    (λ k past below. high (suc k) (omega (arith, past)) (omega (arith, below))))

-- A streak that begins later changes nothing.
later-streak : (streak : Streak) (streaks : List Streak) (x : Streak) (seq : ℕ) → seq < x.first
    → streak_in streak (streaks ++ x ∷ []) seq ≡ streak_in streak streaks seq
later-streak streak [] x seq later = rw (lt-ltb seq x.first later) refl
later-streak streak (y ∷ ys) x seq later =
    ap (λ (s : Streak). if nat_lt seq y.first then streak else s) (later-streak y ys x seq later)

-- One that begins no later after all that do is the request's.
last-streak : (streak : Streak) (streaks : List Streak) (x : Streak) (seq : ℕ)
    → ((k : ℕ) (s : Streak) → slice_get streaks k ≡ Some s → s.first ≤ seq) → x.first ≤ seq
    → streak_in streak (streaks ++ x ∷ []) seq ≡ x
last-streak streak [] x seq low begun = rw (le-ltb seq x.first begun) refl
last-streak streak (y ∷ ys) x seq low begun =
    rw (le-ltb seq y.first (low 0 y refl)) (last-streak y ys x seq (λ k s there. low (suc k) s there) begun)

-- ---- one more receipt

module _ (receipts : List Receipt) (r : Receipt) where
  telling-still : (place : ℕ) → IsTelling receipts place
      → IsTelling (receipts ++ r ∷ []) place × (told_at (receipts ++ r ∷ []) place ≡ told_at receipts place)
  telling-still place telling =
      let long = length-append receipts (r ∷ []) in
      let some = telling.behind in
      let within = telling.within in
      let here : receipt_at (receipts ++ r ∷ []) place ≡ receipt_at receipts place =
      get_or_append_left receipts (r ∷ []) no_receipt place within in
      let before : receipt_at (receipts ++ r ∷ []) (place - 1) ≡ receipt_at receipts (place - 1) =
      get_or_append_left receipts (r ∷ []) no_receipt (place - 1) (omega (arith, some, within)) in (
        record {
          behind = some;
          within = omega (arith, long, within);
          small = subst (λ (x : Receipt). x.number + 1 < 2 ^ 64) (sym before) telling.small;
        },
        rw (here, before) refl,
      )

  told-still : (streak : Streak) (seq : ℕ) → IsTold receipts streak seq
      → told_in (receipts ++ r ∷ []) streak seq ≡ told_in receipts streak seq
  told-still streak seq told = elim (cases_lt streak.first seq) [
    | inl behind ↦
        rw (lt-ltb streak.first seq behind) ((telling-still (place_in streak seq) (told behind)).1)
    | inr first ↦ rw (le-ltb streak.first seq first) refl
  ]

pub on-held : (xs streaks : List Streak) (accepted : ℕ) (given receipts : List Receipt) (seen : ℕ) → xs ≡ streaks
    → given ≡ receipts → GoesOn xs accepted given seen → GoesOn streaks accepted receipts seen
on-held xs streaks accepted given receipts seen same received on =
    subst (λ (ys : List Streak). GoesOn ys accepted receipts seen) same
    (subst (λ (rs : List Receipt). GoesOn xs accepted rs seen) received on)

-- ---- what is kept

module _ (streaks : List Streak) (accepted : ℕ) (receipts : List Receipt)
    (are : AreStreaks streaks accepted receipts) where
  -- a streak that begins with one more request
  module _ (ask : Ask) where
    abbrev began : Streak
    began = record { ask = ask; first = accepted; receipts = length receipts }

    below : (k : ℕ) (s : Streak) → slice_get streaks k ≡ Some s → s.first ≤ accepted
    below k s there = let first = (are.within k s there).0 in omega (arith, first)

    kept-begin : (s : Streak) → slice_get (streaks ++ began ∷ []) 0 ≡ Some s → s.first ≡ 0
    kept-begin s there = elim (slice_get-push streaks began 0 s there) [
      | inl before ↦ are.begin s before.1
      | inr last ↦ elim (cases_lt 0 accepted) [
        | inl some ↦ let long = are.some some in let none = last.0 in absurd (omega (arith, long, none))
        | inr none ↦ ap (λ (x : Streak). x.first) last.1 ∙ omega (arith, none)
      ]
    ]

    kept-within : (k : ℕ) (s : Streak) → slice_get (streaks ++ began ∷ []) k ≡ Some s
        → (s.first < accepted + 1) × (s.receipts ≤ length receipts)
    kept-within k s there = elim (slice_get-push streaks began k s there) [
      | inl before ↦
          let within = are.within k s before.1 in
          let first = within.0 in
          (omega (arith, first), within.1)
      | inr last ↦
          subst (λ (x : Streak). (x.first < accepted + 1) × (x.receipts ≤ length receipts)) (sym last.1)
          (omega arith, omega arith)
    ]

    kept-told : (seq : ℕ) → seq < accepted + 1 → IsTold receipts (streak_in no_streak (streaks ++ began ∷ []) seq) seq
    kept-told seq within = elim (cases_lt seq accepted) [
      | inl before ↦
          subst (λ (s : Streak). IsTold receipts s seq) (sym (later-streak no_streak streaks began seq before))
          (are.told seq before)
      | inr from ↦
          let here : accepted ≤ seq = from in
          subst (λ (s : Streak). IsTold receipts s seq)
          (sym (last-streak no_streak streaks began seq
          (λ k s there. let first = (are.within k s there).0 in omega (arith, first, here)) here))
          (λ behind. absurd (omega (arith, behind, within)))
    ]

    pub keep-streaks : AreStreaks (streaks ++ began ∷ []) (accepted + 1) receipts
    keep-streaks = record {
      some = λ more. let long = length-append streaks (began ∷ []) in omega (arith, long);
      begin = kept-begin;
      ascend = IsNonDecreasingBy-push (λ (s : Streak). s.first) streaks began are.ascend
          (λ d some. below (length streaks - 1) (get_or streaks (length streaks - 1) d)
          (slice_get-get_or streaks (length streaks - 1) d (omega (arith, some))));
      within = kept-within;
      told = kept-told;
    }

    pub keep-asks : asks_of (streaks ++ began ∷ []) (accepted + 1) receipts
        ≡ asks_of streaks accepted receipts ++ ask ∷ []
    keep-asks =
        one-more streaks (streaks ++ began ∷ []) accepted receipts receipts ask
        (λ seq before. ap (λ (s : Streak). told_in receipts s seq) (later-streak no_streak streaks began seq before))
        (ap (λ (s : Streak). told_in receipts s accepted)
        (last-streak no_streak streaks began accepted below (omega arith))
        ∙ rw (le-ltb accepted accepted (omega arith)) refl)

  pub receive-streaks : (r : Receipt) → AreStreaks streaks accepted (receipts ++ r ∷ [])
  receive-streaks r = record {
    some = are.some;
    begin = are.begin;
    ascend = are.ascend;
    within = λ k s there.
        let within = are.within k s there in
        let fewer = within.1 in
        let long = length-append receipts (r ∷ []) in
        (within.0, omega (arith, fewer, long));
    told = λ seq before behind.
        (telling-still receipts r (place_in (streak_in no_streak streaks seq) seq) (are.told seq before behind)).0;
  }

  received-told : (r : Receipt) (seq : ℕ) → seq < accepted
      → told streaks (receipts ++ r ∷ []) seq ≡ told streaks receipts seq
  received-told r seq before = told-still receipts r (streak_in no_streak streaks seq) seq (are.told seq before)

  pub receive-asks : (r : Receipt) → asks_of streaks accepted (receipts ++ r ∷ []) ≡ asks_of streaks accepted receipts
  receive-asks r =
      agree (told streaks (receipts ++ r ∷ [])) (told streaks receipts) accepted (received-told r)

  -- one more request of the last streak, and its receipt
  module _ (ask : Ask) (r : Receipt) (named : request_of r.entry ≡ ask.request)
      (on : GoesOn streaks accepted receipts ask.seen) where
    last-is : streak_in no_streak streaks accepted ≡ on.streak
    last-is =
        let inside = slice_get_within streaks (length streaks - 1) on.streak on.last in
        streak-found no_streak streaks accepted (length streaks - 1) no_streak inside
        (λ k up.
        let first =
        (are.within k (get_or streaks k no_streak) (slice_get-get_or streaks k no_streak
        (omega (arith, up, inside)))).0 in
        omega (arith, first))
        (λ k past within. absurd (omega (arith, past, within)))
        ∙ get_or_from_slice_get streaks (length streaks - 1) on.streak no_streak on.last

    first-below : on.streak.first < accepted
    first-below = (are.within (length streaks - 1) on.streak on.last).0

    before : receipt_at (receipts ++ r ∷ []) (length receipts - 1) ≡ receipt_at receipts (length receipts - 1)
    before =
        let some = on.some in
        get_or_append_left receipts (r ∷ []) no_receipt (length receipts - 1) (omega (arith, some))

    here : receipt_at (receipts ++ r ∷ []) (length receipts) ≡ r
    here = get_or_push receipts r no_receipt (length receipts) refl

    seen : (receipt_at (receipts ++ r ∷ []) (length receipts - 1)).number + 1 ≡ ask.seen
    seen = ap (λ (x : Receipt). x.number + 1) before ∙ on.past

    telling : ask.seen < 2 ^ 64 → IsTelling (receipts ++ r ∷ []) (length receipts)
    telling small = record {
      behind = on.some;
      within = let long = length-append receipts (r ∷ []) in omega (arith, long);
      small = subst (λ n. n < 2 ^ 64) (sym seen) small;
    }

    on-told : ask.seen < 2 ^ 64 → (seq : ℕ) → seq < accepted + 1
        → IsTold (receipts ++ r ∷ []) (streak_in no_streak streaks seq) seq
    on-told small seq within behind = elim (cases_lt seq accepted) [
      | inl earlier ↦ (receive-streaks r).told seq earlier behind
      | inr from ↦
          let same : accepted ≡ seq = omega (arith, from, within) in
          subst (λ n. IsTelling (receipts ++ r ∷ []) (place_in (streak_in no_streak streaks n) n)) same
          (subst (IsTelling (receipts ++ r ∷ []))
          (sym (ap (λ (s : Streak). place_in s accepted) last-is ∙ on.next)) (telling small))
    ]

    pub on-streaks : ask.seen < 2 ^ 64 → AreStreaks streaks (accepted + 1) (receipts ++ r ∷ [])
    on-streaks small = record {
      some = λ more. let inside = slice_get_within streaks (length streaks - 1) on.streak
          on.last in omega (arith, inside);
      begin = are.begin;
      ascend = are.ascend;
      within = λ k s there.
          let within = (receive-streaks r).within k s there in
          let first = within.0 in
          (omega (arith, first), within.1);
      told = on-told small;
    }

    is-ask : told streaks (receipts ++ r ∷ []) accepted ≡ ask
    is-ask =
        let request = ap (λ (x : Receipt). request_of x.entry) here ∙ named in
        ap (λ (s : Streak). told_in (receipts ++ r ∷ []) s accepted) last-is
        ∙ rw (lt-ltb on.streak.first accepted first-below, on.next, request, seen) refl

    pub on-asks : asks_of streaks (accepted + 1) (receipts ++ r ∷ []) ≡ asks_of streaks accepted receipts ++ ask ∷ []
    on-asks = one-more streaks streaks accepted receipts (receipts ++ r ∷ []) ask (received-told r) is-ask

  -- ---- the search

  module _ (seq at : ℕ) where
    begins : at ≡ 0 → seq < accepted → AllWithin (λ (s : Streak). seq < s.first) streaks at (length streaks) → ⊥
    begins none within later =
        let some = are.some (omega (arith, within)) in
        let first = are.begin (get_or streaks 0 no_streak) (slice_get-get_or streaks 0 no_streak some) in
        let past = later 0 no_streak (omega (arith, none)) some in
        omega (arith, first, past)

    pub begun-some : (xs : List Streak) → xs ≡ streaks → seq < accepted
        → AllWithin (λ (s : Streak). seq < s.first) xs at (length xs) → 1 ≤ at
    begun-some xs same within later = elim (cases_lt 0 at) [
      | inl some ↦ omega (arith, some)
      | inr none ↦
          absurd (begins (omega (arith, none)) within
          (subst (λ (ys : List Streak). AllWithin (λ (s : Streak). seq < s.first) ys at (length ys)) same later))
    ]

    streak-before : (d : Streak) → 1 ≤ at → at ≤ length streaks
        → AllWithin (λ (s : Streak). s.first ≤ seq) streaks 0 at
        → AllWithin (λ (s : Streak). seq < s.first) streaks at (length streaks)
        → streak_in no_streak streaks seq ≡ get_or streaks (at - 1) d
    streak-before d some within begun later =
        streak-found no_streak streaks seq (at - 1) d (omega (arith, some, within))
        (λ k up. begun k d (omega arith) (omega (arith, some, up)))
        (λ k past below. later k d (omega (arith, some, past)) below)

    pub begun-streak : (xs : List Streak) (s : Streak) → xs ≡ streaks → seq < accepted → at ≤ length xs
        → AllWithin (λ (x : Streak). x.first ≤ seq) xs 0 at
        → AllWithin (λ (x : Streak). seq < x.first) xs at (length xs) → s ≡ get_or streaks (at - 1) s
        → streak_in no_streak streaks seq ≡ s
    begun-streak xs s same within few begun later is =
        streak-before s (begun-some xs same within later) (subst (λ (ys : List Streak). at ≤ length ys) same few)
        (subst (λ (ys : List Streak). AllWithin (λ (x : Streak). x.first ≤ seq) ys 0 at) same begun)
        (subst (λ (ys : List Streak). AllWithin (λ (x : Streak). seq < x.first) ys at (length ys)) same later)
        ∙ sym is

  -- ---- the account

  module _ (streaks_room receipts_room : ℕ) where
    abbrev had : AccountView
    had = account_of streaks accepted receipts streaks_room receipts_room

    pub room-left : length had.asked < had.room.asked → length streaks < streaks_room
    room-left roomy = let long = asks_long streaks accepted receipts in omega (arith, long, roomy)

    pub keep-account : (ask : Ask) → length had.asked < had.room.asked
        → account_of (streaks ++ began ask ∷ []) (accepted + 1) receipts streaks_room receipts_room
        ≡ record had { asked = had.asked ++ ask ∷ [] }
    keep-account ask roomy =
        let left = room-left roomy in
        let long = length-append streaks (began ask ∷ []) in
        let room : accepted + 1 + (streaks_room - length (streaks ++ began ask ∷ []))
        ≡ accepted + (streaks_room - length streaks) =
        omega (arith, left, long) in
        rw (keep-asks ask, room) refl

    pub receive-account : (r : Receipt)
        → account_of streaks accepted (receipts ++ r ∷ []) streaks_room receipts_room
        ≡ record had { receipts = receipts ++ r ∷ [] }
    receive-account r = rw (receive-asks r) refl
