-- How a port keeps what was asked through it and what was handed out.
use Rattle.std.specs.Prelude.{◌≡◌, ◌<◌, ◌≤◌, ℕ, ◌+◌, ◌-◌, ◌^◌, if◌then◌else◌, nat_lt, List, [], ◌∷◌, get_or, length}
use Rattle.std.specs.Prelude.{map, slice_get, Some}
use Rattle.std.specs.List.{range_with_len}
use Rattle.std.specs.List.Sorted.{IsNonDecreasingBy}
use Rattle.address_map.specs.declared.request.Op.TheVariants as ops
use Rattle.receipt_ledger.specs.History.{request_of}
use Rattle.receipt_ledger.specs.Port.{Room}
use Rattle.receipt_ledger.specs.declared.account.Streak.{Streak}
use Rattle.receipt_ledger.specs.declared.receipt.Ask.{Ask}
use Rattle.receipt_ledger.specs.declared.receipt.Receipt.{Receipt}

pub record AccountView : Type 0 where
  -- the requests that were accepted, in this order
  pub asked : List Ask
  -- the receipts, in the order in which they were handed out
  pub receipts : List Receipt
  -- how many requests, and how many receipts, it can hold at least before a list has to grow
  pub room : Room

-- nothing was asked yet
abbrev pub no_account : AccountView
no_account = record { asked = []; receipts = []; room = record { asked = 0; receipts = 0 } }

-- used where there is no receipt
abbrev pub no_receipt : Receipt
no_receipt = record {
  entry = record {
    op = ops.Load;
    word = record { 0 = 0 };
    seq = 0;
    reply = 0;
    since = 0;
    core = record { 0 = 0 };
    tag = 0;
  };
  number = 0;
  slice = record { 0 = 0 };
}

abbrev pub receipt_at : List Receipt → ℕ → Receipt
receipt_at receipts place = get_or receipts place no_receipt

-- used where there is no streak
abbrev pub no_streak : Streak
no_streak = record { ask = record { request = request_of no_receipt.entry; seen = 0 }; first = 0; receipts = 0 }

-- Of the streaks, which ascend, and of one before them: the last that begins no later than the request of this number.
abbrev pub streak_in : Streak → List Streak → ℕ → Streak
streak_in streak [] seq = streak
streak_in streak (next ∷ streaks) seq = if nat_lt seq next.first then streak else streak_in next streaks seq

-- the place of the receipt of a request that isn't the first of its streak
abbrev pub place_in : Streak → ℕ → ℕ
place_in streak seq = streak.receipts + (seq - streak.first - 1)

-- the request whose receipt is at this place, asked when the one before it said how much was seen
abbrev pub told_at : List Receipt → ℕ → Ask
told_at receipts place = record {
  request = request_of (receipt_at receipts place).entry;
  seen = (receipt_at receipts (place - 1)).number + 1;
}

-- the request of this number, by the streak that it is of
abbrev pub told_in : List Receipt → Streak → ℕ → Ask
told_in receipts streak seq = if nat_lt streak.first seq then told_at receipts (place_in streak seq) else streak.ask

-- At the place is a receipt after another one, whose number isn't the last of all.
pub record IsTelling (receipts : List Receipt) (place : ℕ) : Type 0 where
  pub behind : 0 < place
  pub within : place < length receipts
  pub small : (receipt_at receipts (place - 1)).number + 1 < 2 ^ 64

-- The receipts give the request of this number, if it isn't the first of the streak.
abbrev pub IsTold : List Receipt → Streak → ℕ → Type 0
IsTold receipts streak seq = streak.first < seq → IsTelling receipts (place_in streak seq)

-- The streaks give `accepted` requests: they ascend, the first begins with request 0, and each request is given.
pub record AreStreaks (streaks : List Streak) (accepted : ℕ) (receipts : List Receipt) : Type 0 where
  pub some : 0 < accepted → 0 < length streaks
  pub begin : (streak : Streak) → slice_get streaks 0 ≡ Some streak → streak.first ≡ 0
  pub ascend : IsNonDecreasingBy (λ streak. streak.first) streaks
  pub within : (place : ℕ) (streak : Streak) → slice_get streaks place ≡ Some streak
      → (streak.first < accepted) × (streak.receipts ≤ length receipts)
  pub told : (seq : ℕ) → seq < accepted → IsTold receipts (streak_in no_streak streaks seq) seq

-- The receipt of one more request that is done at once is where the last streak has it, and the last receipt says that
-- `seen` entries were seen.
pub record GoesOn (streaks : List Streak) (accepted : ℕ) (receipts : List Receipt) (seen : ℕ) : Type 0 where
  pub streak : Streak
  pub last : slice_get streaks (length streaks - 1) ≡ Some streak
  pub next : place_in streak accepted ≡ length receipts
  pub some : 0 < length receipts
  pub past : (receipt_at receipts (length receipts - 1)).number + 1 ≡ seen

-- `accepted` requests, as the streaks give them
abbrev pub asks_of : List Streak → ℕ → List Receipt → List Ask
asks_of streaks accepted receipts =
    map (λ seq. told_in receipts (streak_in no_streak streaks seq) seq) (range_with_len 0 accepted)

-- the account with these lists, which have room for `streaks_room` and `receipts_room` elements
abbrev pub account_of : List Streak → ℕ → List Receipt → ℕ → ℕ → AccountView
account_of streaks accepted receipts streaks_room receipts_room = record {
  asked = asks_of streaks accepted receipts;
  receipts = receipts;
  room = record { asked = accepted + (streaks_room - length streaks); receipts = receipts_room };
}
