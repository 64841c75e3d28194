-- What a core has made: nothing, a request or a turn, and one thing after another.
use Rattle.std.proofs.Common.{◌≡◌, ℕ, ◌+◌, ◌<◌, ◌≤◌, ◌⊎◌, Bool, true, false, List, [], ◌∷◌, ◌++◌, refl, sym, ap, ◌∙◌}
use Rattle.std.proofs.Common.{subst, inl, inr, arith, append-nil, append_assoc, Option, Some, None, Result, Ok, Err}
use Rattle.std.proofs.Common.{eq-eqb}
use Rattle.std.specs.Prelude.{◌==◌, if◌then◌else◌, IsSomeAnd, MatchOption, OnErr, length, slice_get, slice_index_or}
use Rattle.std.specs.Prelude.{max}
use Rattle.std.proofs.Math.Nat.{le-max_left}
use Rattle.std.proofs.lemmas.Bool.{cases_eq, ne_eqb}
use Rattle.std.proofs.lemmas.List.{map-append}
use Rattle.std.proofs.lemmas.Nat.{mod_below}
use Rattle.std.proofs.lemmas.Option.{slice_get-get_or}
use Rattle.address_map.specs.Place.{line_of, slice_of}
use Rattle.address_map.specs.declared.address.WordAddr.{WordAddr}
use Rattle.address_map.specs.declared.config.Config.{Config}
use Rattle.address_map.specs.declared.request.Op.{Op}
use Rattle.address_map.specs.declared.request.Request.{Request}
use Rattle.core_thread_system.specs.Answers.{AfterAsking, AfterCollect, AfterIssue, refusal_of}
use Rattle.core_thread_system.specs.Core.{CoreView, port_at, with_port}
use Rattle.core_thread_system.specs.Program.{HasAccepted, HasMade, IsSettledBy, accesses_in, accesses_of}
use Rattle.core_thread_system.specs.Running.{accepted_steps}
use Rattle.core_thread_system.specs.declared.program.Step.{Step}
use Rattle.core_thread_system.specs.declared.program.Step.TheVariants as steps
use Rattle.receipt_ledger.specs.Answers.{AfterReply, AfterRequest}
use Rattle.receipt_ledger.specs.Port.{PortView, IsWithRoom}
use Rattle.receipt_ledger.specs.declared.receipt.Answer.{Answer}
use Rattle.receipt_ledger.specs.declared.receipt.Answer.TheVariants as answers
use Rattle.receipt_ledger.specs.declared.receipt.Receipt.{Receipt}
use Rattle.slice_answer.specs.declared.answer.Refused.{Refused}

-- ---- a port

pub nothing-accepted : (p : PortView) → HasAccepted p [] p
nothing-accepted p = record {
  core = refl;
  slice = refl;
  seen = omega arith;
  asks = [];
  asked = sym (append-nil p.asked);
  accesses_are = refl;
  more = [];
  receipts = sym (append-nil p.receipts);
}

accepted-then : (a b d : PortView) (first later : List (WordAddr × Op))
    → HasAccepted a first b → HasAccepted b later d → HasAccepted a (first ++ later) d
accepted-then a b d first later f l = record {
  core = l.core ∙ f.core;
  slice = l.slice ∙ f.slice;
  seen = omega (arith, f.seen, l.seen);
  asks = f.asks ++ l.asks;
  asked = l.asked ∙ ap (λ asked. asked ++ l.asks) f.asked ∙ append_assoc a.asked f.asks l.asks;
  accesses_are =
      map-append (λ ask. (ask.request.word, ask.request.op)) f.asks l.asks
      ∙ ap (λ xs. xs ++ accesses_of l.asks) f.accesses_are
      ∙ ap (λ ys. first ++ ys) l.accesses_are;
  more = f.more ++ l.more;
  receipts = l.receipts ∙ ap (λ receipts. receipts ++ l.more) f.receipts ∙ append_assoc a.receipts f.more l.more;
}

-- Where a receipt was got, no less was seen.
no-less-seen : (old number new : ℕ) → new ≡ max old number → old ≤ new
no-less-seen old number new e = subst (λ seen. old ≤ seen) (sym e) (le-max_left old number)

-- A reply accepts nothing.
reply-accepts-nothing : (old : PortView) (received : Option Receipt) (new : PortView)
    → AfterReply old received new → HasAccepted old [] new
reply-accepts-nothing old None new after = subst (λ p. HasAccepted old [] p) (sym after) (nothing-accepted old)
reply-accepts-nothing old (Some r) new after = record {
  core = ap (λ p. p.core) after.1;
  slice = ap (λ p. p.slice) after.1;
  seen = no-less-seen old.seen (r.number + 1) new.seen (ap (λ p. p.seen) after.1);
  asks = [];
  asked = ap (λ p. p.asked) after.1 ∙ sym (append-nil old.asked);
  accesses_are = refl;
  more = r ∷ [];
  receipts = ap (λ p. p.receipts) after.1;
}

-- more room accepts nothing
room-accepts-nothing : (old new : PortView) → IsWithRoom old new → HasAccepted old [] new
room-accepts-nothing old new roomier = record {
  core = ap (λ p. p.core) roomier;
  slice = ap (λ p. p.slice) roomier;
  seen = let same = ap (λ p. p.seen) roomier in omega (arith, same);
  asks = [];
  asked = ap (λ p. p.asked) roomier ∙ sym (append-nil old.asked);
  accesses_are = refl;
  more = [];
  receipts = ap (λ p. p.receipts) roomier ∙ sym (append-nil old.receipts);
}

-- what a request with this answer gets accepted
abbrev requested : Request → Result Answer Refused → List (WordAddr × Op)
requested request (Ok (answers.Done r)) = (request.word, request.op) ∷ []
requested request (Ok answers.Pending) = (request.word, request.op) ∷ []
requested request answer = []

request-accepts : (old : PortView) (request : Request) (answer : Result Answer Refused) (new : PortView)
    → AfterRequest old request answer new → HasAccepted old (requested request answer) new
request-accepts old request (Ok (answers.Done r)) new after = record {
  core = ap (λ p. p.core) after.1;
  slice = ap (λ p. p.slice) after.1;
  seen = no-less-seen old.seen (r.number + 1) new.seen (ap (λ p. p.seen) after.1);
  asks = record { request = request; seen = old.seen } ∷ [];
  asked = ap (λ p. p.asked) after.1;
  accesses_are = refl;
  more = r ∷ [];
  receipts = ap (λ p. p.receipts) after.1;
}
request-accepts old request (Ok answers.Pending) new after = record {
  core = ap (λ p. p.core) after;
  slice = ap (λ p. p.slice) after;
  seen = let same = ap (λ p. p.seen) after in omega (arith, same);
  asks = record { request = request; seen = old.seen } ∷ [];
  asked = ap (λ p. p.asked) after;
  accesses_are = refl;
  more = [];
  receipts = ap (λ p. p.receipts) after ∙ sym (append-nil old.receipts);
}
request-accepts old request (Ok (answers.Stall stall)) new after = room-accepts-nothing old new after
request-accepts old request (Err refused) new after = room-accepts-nothing old new after

-- ---- the port of one slice among a core's

-- what a core's four ports are of
abbrev at : Bool → Bool → Bool → CoreView → PortView
at first second third v = if first then v.p0 else if second then v.p1 else if third then v.p2 else v.p3

abbrev put : Bool → Bool → Bool → CoreView → PortView → CoreView
put first second third v p =
    if first then record v { p0 = p } else if second then record v { p1 = p } else if third then record v { p2 = p }
    else record v { p3 = p }

put-core : (first second third : Bool) (v : CoreView) (p : PortView) → (put first second third v p).core ≡ v.core
put-core true second third v p = refl
put-core false true third v p = refl
put-core false false true v p = refl
put-core false false false v p = refl

-- A number below four is 0, 1, 2 or 3.
few : (n : ℕ) → n < 4 → (n ≡ 0) ⊎ ((n ≡ 1) ⊎ ((n ≡ 2) ⊎ (n ≡ 3)))
few n less = elim (cases_eq n 0) [
  | inl zeroth ↦ inl zeroth
  | inr past0 ↦ elim (cases_eq n 1) [
    | inl first ↦ inr (inl first)
    | inr past1 ↦ elim (cases_eq n 2) [
      | inl second ↦ inr (inr (inl second))
      | inr past2 ↦ inr (inr (inr (omega (arith, less, past0, past1, past2))))
    ]
  ]
]

-- The ports of the other slices stay.
other-ports : (v : CoreView) (k slice : ℕ) (p : PortView) → k < 4 → slice < 4 → (k ≡ slice → ⊥)
    → port_at (with_port v k p) slice ≡ port_at v slice
other-ports v k slice p known within other = elim (few k known) [
  | inl k0 ↦ elim (few slice within) [
    | inl s0 ↦ absurd (other (k0 ∙ sym s0))
    | inr (inl s1) ↦ rw (k0, s1) refl
    | inr (inr (inl s2)) ↦ rw (k0, s2) refl
    | inr (inr (inr s3)) ↦ rw (k0, s3) refl
  ]
  | inr (inl k1) ↦ elim (few slice within) [
    | inl s0 ↦ rw (k1, s0) refl
    | inr (inl s1) ↦ absurd (other (k1 ∙ sym s1))
    | inr (inr (inl s2)) ↦ rw (k1, s2) refl
    | inr (inr (inr s3)) ↦ rw (k1, s3) refl
  ]
  | inr (inr (inl k2)) ↦ elim (few slice within) [
    | inl s0 ↦ rw (k2, s0) refl
    | inr (inl s1) ↦ rw (k2, s1) refl
    | inr (inr (inl s2)) ↦ absurd (other (k2 ∙ sym s2))
    | inr (inr (inr s3)) ↦ rw (k2, s3) refl
  ]
  | inr (inr (inr k3)) ↦ elim (few slice within) [
    | inl s0 ↦ rw (k3, s0) refl
    | inr (inl s1) ↦ rw (k3, s1) refl
    | inr (inr (inl s2)) ↦ rw (k3, s2) refl
    | inr (inr (inr s3)) ↦ absurd (other (k3 ∙ sym s3))
  ]
]

-- ---- a core

-- Where the port of one slice alone accepted something, that is what the core has made.
one-slice : (c : Config) (old new : CoreView) (k : ℕ) (program : List Step) (accesses : List (WordAddr × Op))
    → k < 4 → new.core ≡ old.core
    → ((slice : ℕ) → port_at new slice ≡ port_at (with_port old k (port_at new k)) slice)
    → accesses_in c k program ≡ accesses
    → ((slice : ℕ) → (k ≡ slice → ⊥) → accesses_in c slice program ≡ [])
    → HasAccepted (port_at old k) accesses (port_at new k)
    → HasMade c old program new
one-slice c old new k program accesses known core others here elsewhere accepted = record {
  core = core;
  each = λ slice within. elim (cases_eq k slice) [
    | inl same ↦
        subst (λ at. HasAccepted (port_at old at) (accesses_in c at program) (port_at new at)) same
        (subst (λ made. HasAccepted (port_at old k) made (port_at new k)) (sym here) accepted)
    | inr other ↦
        let kept : port_at new slice ≡ port_at old slice =
        others slice ∙ other-ports old k slice (port_at new k) known within other in
        rw (elsewhere slice other, kept) (nothing-accepted (port_at old slice))
  ];
}

pub made-nothing : (c : Config) (v : CoreView) → HasMade c v [] v
made-nothing c v = record { core = refl; each = λ slice within. nothing-accepted (port_at v slice) }

accesses-then : (c : Config) (slice : ℕ) (first later : List Step)
    → accesses_in c slice (first ++ later) ≡ accesses_in c slice first ++ accesses_in c slice later
accesses-then c slice [] later = refl
accesses-then c slice (steps.Access word op ∷ first) later =
    let here = if (slice_of c (line_of word)).0 == slice then (word, op) ∷ [] else [] in
    ap (λ rest. here ++ rest) (accesses-then c slice first later)
    ∙ sym (append_assoc here (accesses_in c slice first) (accesses_in c slice later))
accesses-then c slice (steps.Settle ∷ first) later = accesses-then c slice first later
accesses-then c slice (steps.Evict line ∷ first) later = accesses-then c slice first later
accesses-then c slice (steps.Turns count ∷ first) later = accesses-then c slice first later

pub made-then : (c : Config) (a b d : CoreView) (first later : List Step)
    → HasMade c a first b → HasMade c b later d → HasMade c a (first ++ later) d
made-then c a b d first later f l = record {
  core = l.core ∙ f.core;
  each = λ slice within.
      rw (accesses-then c slice first later)
      (accepted-then (port_at a slice) (port_at b slice) (port_at d slice) (accesses_in c slice first)
      (accesses_in c slice later) (f.each slice within) (l.each slice within));
}

-- ---- a turn

pub turn-makes-nothing : (c : Config) (old : CoreView) (received : Option Receipt) (new : CoreView) → c.slices ≤ 4
    → AfterCollect c old received new → HasMade c old [] new
turn-makes-nothing c old None new few after = subst (λ v. HasMade c old [] v) (sym after) (made-nothing c old)
turn-makes-nothing c old (Some r) new few after =
    let k = r.slice.0 in
    one-slice c old new k [] [] (omega (arith, after.configured, few))
    (ap (λ v. v.core) after.others ∙ put-core (k == 0) (k == 1) (k == 2) old (port_at new k))
    (λ slice. ap (λ v. port_at v slice) after.others) refl (λ slice other. refl)
    (reply-accepts-nothing (port_at old k) (Some r) (port_at new k) after.port)

-- ---- a request

request-here : (c : Config) (request : Request) (answer : Result Answer Refused)
    → accesses_in c (slice_of c (line_of request.word)).0 (accepted_steps request answer) ≡ requested request answer
request-here c request (Ok (answers.Done r)) =
    rw (eq-eqb (slice_of c (line_of request.word)).0 (slice_of c (line_of request.word)).0 refl) refl
request-here c request (Ok answers.Pending) =
    rw (eq-eqb (slice_of c (line_of request.word)).0 (slice_of c (line_of request.word)).0 refl) refl
request-here c request (Ok (answers.Stall stall)) = refl
request-here c request (Err refused) = refl

request-elsewhere : (c : Config) (request : Request) (answer : Result Answer Refused) (slice : ℕ)
    → ((slice_of c (line_of request.word)).0 ≡ slice → ⊥) → accesses_in c slice (accepted_steps request answer) ≡ []
request-elsewhere c request (Ok (answers.Done r)) slice other =
    rw (ne_eqb (slice_of c (line_of request.word)).0 slice other) refl
request-elsewhere c request (Ok answers.Pending) slice other =
    rw (ne_eqb (slice_of c (line_of request.word)).0 slice other) refl
request-elsewhere c request (Ok (answers.Stall stall)) slice other = refl
request-elsewhere c request (Err refused) slice other = refl

asking-makes : (c : Config) (old : CoreView) (request : Request) (answer : Result Answer Refused) (new : CoreView)
    → (slice_of c (line_of request.word)).0 < 4
    → AfterAsking (slice_of c (line_of request.word)).0 old request answer new
    → HasMade c old (accepted_steps request answer) new
asking-makes c old request answer new known after =
    let k = (slice_of c (line_of request.word)).0 in
    one-slice c old new k (accepted_steps request answer) (requested request answer) known
    (ap (λ v. v.core) after.others ∙ put-core (k == 0) (k == 1) (k == 2) old (port_at new k))
    (λ slice. ap (λ v. port_at v slice) after.others) (request-here c request answer)
    (request-elsewhere c request answer)
    (request-accepts (port_at old k) request answer (port_at new k) after.port)

-- what a core leaves of a request that it refuses for this reason itself, or else takes to the word's slice
abbrev after_issue : Option Refused → Config → CoreView → Request → Result Answer Refused → CoreView → Type 0
after_issue refusal c old request answer new =
    MatchOption refusal (AfterAsking (slice_of c (line_of request.word)).0 old request answer new)
    (λ refused. (answer ≡ Err refused) × (new ≡ old))

issue-makes-by : (refusal : Option Refused) (c : Config) (old : CoreView) (request : Request)
    (answer : Result Answer Refused) (new : CoreView) → (slice_of c (line_of request.word)).0 < 4
    → after_issue refusal c old request answer new → HasMade c old (accepted_steps request answer) new
issue-makes-by None c old request answer new known after = asking-makes c old request answer new known after
issue-makes-by (Some refused) c old request answer new known after =
    rw (after.0, after.1) (made-nothing c old)

pub issue-makes : (c : Config) (old : CoreView) (request : Request) (answer : Result Answer Refused) (new : CoreView)
    → 1 ≤ c.slices → c.slices ≤ 4 → AfterIssue c old request answer new
    → HasMade c old (accepted_steps request answer) new
issue-makes c old request answer new some few after =
    issue-makes-by (refusal_of c old.tags request) c old request answer new
    (omega (arith, few, mod_below (line_of request.word).0 c.slices (omega (arith, some)))) after

-- ---- steps of a program

-- what made nothing, and then nothing again
pub still-nothing : (c : Config) (a b d : CoreView) → HasMade c a [] b → HasMade c b [] d → HasMade c a [] d
still-nothing c a b d f l = made-then c a b d [] [] f l

pub nothing-then : (c : Config) (a b d : CoreView) (program : List Step)
    → HasMade c a [] b → HasMade c b program d → HasMade c a program d
nothing-then c a b d program f l = made-then c a b d [] program f l

-- What holds of the step at a place is so of what is found there.
pub is-step-at : (P : Step → Type 0) (program : List Step) (place : ℕ) (step : Step) → place < length program
    → P (slice_index_or program place step) → IsSomeAnd (slice_get program place) P
is-step-at P program place step within holds =
    subst (λ found. IsSomeAnd found P) (sym (slice_get-get_or program place step within)) holds

-- Where the step at a place settles, no tag is in flight after it.
pub settled-at : (program : List Step) (place at : ℕ) (step : Step) (v : CoreView) → place < length program
    → at + 1 ≡ place + 1 → slice_get program at ≡ Some steps.Settle
    → IsSettledBy v (slice_index_or program place step) → v.tags ≡ 0
settled-at program place at step v within same found settled =
    let is : place ≡ at = omega (arith, same) in
    let here : IsSomeAnd (slice_get program place) (IsSettledBy v) =
    is-step-at (IsSettledBy v) program place step within settled in
    let there : IsSomeAnd (slice_get program at) (IsSettledBy v) =
    subst (λ n. IsSomeAnd (slice_get program n) (IsSettledBy v)) is here in
    subst (λ step. IsSomeAnd step (IsSettledBy v)) found there

pub on-err : {A E : Type 0} (answer : Result A E) (P : Type 0) → P → OnErr answer P
on-err (Ok a) P holds = tt
on-err (Err e) P holds = holds
