-- What a test says, by its threads, its names and its outcomes.
use Rattle.std.proofs.Common.{◌≡◌, ◌≢◌, ℕ, zero, suc, Bool, true, false, cond, not, ◌||◌, ◌&&◌, ap₂, ◌+◌, ◌-◌, ◌/◌}
use Rattle.std.proofs.Common.{take, ◌<◌, ◌≤◌, List, [], ◌∷◌, ◌++◌, length, get_or, map, Some, refl, sym, ap, subst, ◌∙◌}
use Rattle.std.proofs.Common.{inl, inr, arith, eq-eqb, length-append, append-nil, vec_len, Vec, Global, Bor}
use Rattle.std.specs.Prelude.{All, Contains, IsTrue, slice_get, unwrap_or, ◌==◌}
use Rattle.std.specs.List.{list_all, list_any, position, position_or_len}
use Rattle.std.specs.Str.{bytes_eq}
use Rattle.std.proofs.Math.ListN.{set}
use Rattle.std.proofs.lemmas.Slice.Eq.{bytes_eq-Decides}
use Rattle.std.proofs.lemmas.Bool.{cases_Bool, false≢true}
use Rattle.std.proofs.lemmas.List.{length-map, map-append, take_more, take_all}
use Rattle.std.proofs.lemmas.List.Elements.{All-nil, All-cons, All-push}
use Rattle.std.proofs.lemmas.Option.{slice_get-get_or, get_or_from_slice_get}
use Rattle.address_map.specs.declared.address.CoreId.{CoreId}
use Rattle.address_map.specs.declared.address.LineAddr.{LineAddr}
use Rattle.address_map.specs.declared.address.WordAddr.{WordAddr}
use Rattle.address_map.specs.declared.request.Op.{Op}
use Rattle.address_map.specs.declared.request.Op.TheVariants as ops
use Rattle.litmus_test.specs.declared.test.Action.{Action}
use Rattle.litmus_test.specs.declared.test.Action.TheVariants as actions
use Rattle.litmus_test.specs.declared.test.Thread.{Thread}
use Rattle.litmus_test.specs.declared.test.NamedReply.{NamedReply}
use Rattle.litmus_test.specs.declared.test.Pair.{Pair}
use Rattle.litmus_test.specs.declared.test.LitmusTest.{LitmusTest}
use Rattle.litmus_test.specs.declared.claim.Claim.{Claim}
use Rattle.litmus_test.specs.Claim.{pair_of_claim, claims_of}
use Rattle.litmus_test.specs.declared.test.Forbidden.{Forbidden}
use Rattle.litmus_test.specs.Name.{is_name}
use Rattle.litmus_test.specs.Sound.{IsOutcomeOf, IsReplyOf, IsSound, IsStepOf, IsThreadOf, reads_value}
use Rattle.litmus_test.specs.Text.{Reply, MayAccess, MayBegin, MayForbid, MayName, MayOverwrite, pairs_of, said_named}
use Rattle.litmus_test.specs.Text.{MayStep, said_step, Said, has_core, has_name, pair_of, last_steps, program_of}
use Rattle.litmus_test.specs.Text.{reply_of, said_by, with_step}
use Rattle.litmus_test.proofs.SoundLemmas.{of_both, sound_name, sound_outcome, sound_step, sound_thread}

-- a test of the image of each element
any-map : {X Y : Type 0} (f : X → Y) (p : Y → Bool) (xs : List X)
    → list_any p (map f xs) ≡ list_any (λ x. p (f x)) xs
any-map f p [] = refl
any-map f p (x ∷ xs) = ap (λ b. p (f x) || b) (any-map f p xs)

pub has_core-programs : (core : ℕ) (ts : List Thread)
    → has_core core (map program_of ts) ≡ list_any (λ (t : Thread). t.core.0 == core) ts
has_core-programs core ts = any-map program_of (λ (program : CoreId × List Action). program.0.0 == core) ts

pub has_name-replies : (name : List ℕ) (ns : List NamedReply)
    → has_name name (map reply_of ns) ≡ list_any (λ (n : NamedReply). bytes_eq n.name.now name) ns
has_name-replies name ns = any-map reply_of (λ (reply : Reply). bytes_eq reply.name name) ns

-- if no element passes, each fails
pub none_passes : {X : Type 0} (p : X → Bool) (xs : List X) → list_any p xs ≡ false → All (λ x. p x ≡ false) xs
none_passes p [] h = All-nil (λ x. p x ≡ false)
none_passes p (x ∷ xs) h =
    elim (cases_Bool (p x)) [
      | inl passes ↦ absurd (let whole = rw passes at h in cc)
      | inr fails ↦ All-cons (λ y. p y ≡ false) x xs fails (none_passes p xs (rw fails at h))
    ]

-- the last thread's steps
pub last_steps-programs : (ts : List Thread) (i : ℕ) (d : Thread) → length ts ≡ i + 1
    → last_steps (map program_of ts) ≡ length (get_or ts i d).steps.items
last_steps-programs [] i d h = absurd (omega arith)
last_steps-programs (t ∷ []) zero d h = refl
last_steps-programs (t ∷ []) (suc i) d h = absurd (omega arith)
last_steps-programs (t ∷ u ∷ ts) zero d h = absurd (omega arith)
last_steps-programs (t ∷ u ∷ ts) (suc i) d h = last_steps-programs (u ∷ ts) i d (omega arith)

-- the last thread is replaced by one with one more step
pub with_step-programs : (action : Action) (ts : List Thread) (i : ℕ) (now d : Thread) → length ts ≡ i + 1
    → now.core ≡ (get_or ts i d).core → now.steps.items ≡ (get_or ts i d).steps.items ++ action ∷ []
    → map program_of (set ts i now) ≡ with_step action (map program_of ts)
with_step-programs action [] i now d h core steps = absurd (omega arith)
with_step-programs action (t ∷ []) zero now d h core steps = cc
with_step-programs action (t ∷ []) (suc i) now d h core steps = absurd (omega arith)
with_step-programs action (t ∷ u ∷ ts) zero now d h core steps = absurd (omega arith)
with_step-programs action (t ∷ u ∷ ts) (suc zero) now d h core steps =
    ap (λ xs. program_of t ∷ xs) (with_step-programs action (u ∷ ts) zero now d (omega arith) core steps)
with_step-programs action (t ∷ u ∷ ts) (suc (suc i)) now d h core steps =
    ap (λ xs. program_of t ∷ xs) (with_step-programs action (u ∷ ts) (suc i) now d (omega arith) core steps)

pub length-with_step : (action : Action) (ps : List (CoreId × List Action)) → length (with_step action ps) ≡ length ps
length-with_step action [] = refl
length-with_step action (p ∷ []) = refl
length-with_step action (p ∷ q ∷ ps) = ap suc (length-with_step action (q ∷ ps))

-- the last thread then has the step after those before
pub record IsLast (action : Action) (before : ℕ) (program : CoreId × List Action) : Type 0 where
  pub front : List Action
  pub steps : program.1 ≡ front ++ action ∷ []
  pub count : length front ≡ before

pub last-with_step : (action : Action) (ps : List (CoreId × List Action)) (i : ℕ) (p : CoreId × List Action)
    → length ps ≡ i + 1 → slice_get (with_step action ps) i ≡ Some p → IsLast action (last_steps ps) p
last-with_step action [] i p h at = absurd (omega arith)
last-with_step action (q ∷ []) zero p h at =
    let is : p ≡ (q.0, q.1 ++ action ∷ []) = cc in
    record { front = q.1; steps = ap (λ (x : CoreId × List Action). x.1) is; count = refl }
last-with_step action (q ∷ []) (suc i) p h at = absurd (omega arith)
last-with_step action (q ∷ r ∷ ps) zero p h at = absurd (omega arith)
last-with_step action (q ∷ r ∷ ps) (suc i) p h at = last-with_step action (r ∷ ps) i p (omega arith) at

-- a step may come next only if there is a thread
pub some_thread : (test : LitmusTest) → MayStep (said_by test) → 1 ≤ vec_len test.threads
unfolding said_by
some_thread test may =
    omega (arith, may.begun, length-map test.threads.items program_of, test.threads.ok.0)

pub few_steps : (test : LitmusTest) (i : ℕ) (d : Thread) → MayStep (said_by test) → vec_len test.threads ≡ i + 1
    → length (get_or test.threads.items i d).steps.items < 4096
unfolding said_by
few_steps test i d may last =
    omega (arith, may.few, last_steps-programs test.threads.items i d (omega (arith, test.threads.ok.0)))

cond-append : {X : Type 0} (b : Bool) (xs ys : List X) → cond b (xs ++ ys) xs ≡ xs ++ cond b ys []
cond-append true xs ys = refl
cond-append false xs ys = sym (append-nil xs)

all-cond : {X : Type 0} (P : X → Type 0) (b : Bool) (xs : List X) (x : X) → All P xs → P x
    → All P (cond b (xs ++ x ∷ []) xs)
all-cond P true xs x h k = All-push P xs x h k
all-cond P false xs x h k = h

few_more : (b : Bool) (n : ℕ) (action : Action) → n < 4096 → n + length (cond b (action ∷ []) []) ≤ 4096
few_more true n action h = omega arith
few_more false n action h = omega arith

-- a test stays sound if its last thread takes a step, even if memory runs out
pub sound_last : (test : LitmusTest) (action : Action) (i : ℕ) (d t : Thread) (steps : Vec Action Global) (b : Bool)
    → MayStep (said_by test) → IsStepOf test.config action → vec_len test.threads ≡ i + 1
    → t ≡ get_or test.threads.items i d
    → steps.items ≡ cond b (t.steps.items ++ action ∷ []) t.steps.items
    → IsSound test.config test.rounds test.movers (set test.threads.items i (record { core = t.core; steps = steps }))
    test.names.items test.forbidden.items
sound_last test action i d t steps b may is last here pushed =
    let ts : List Thread = test.threads.items in
    let within : i < length ts = omega (arith, test.threads.ok.0) in
    let at : slice_get ts i ≡ Some t = slice_get-get_or ts i d within ∙ ap Some (sym here) in
    let few : length t.steps.items < 4096 = rw here (few_steps test i d may last) in
    let was : IsThreadOf test.config t = rw here (test.sound.programs i d within) in
    let long : length steps.items ≤ 4096 =
    rw (pushed, cond-append b t.steps.items (action ∷ []), length-append)
    (few_more b (length t.steps.items) action few) in
    sound_step test.config test.rounds test.movers ts test.names.items test.forbidden.items i t
    (record { core = t.core; steps = steps }) (cond b (action ∷ []) []) at
    (record { core = refl; steps = pushed ∙ cond-append b t.steps.items (action ∷ []) })
    (record {
      core = was.core;
      few_steps = omega (arith, steps.ok.0, long);
      steps = rw pushed (all-cond (IsStepOf test.config) b t.steps.items action was.steps is);
    })
    test.sound

pub with_threads : (said : Said) (ps qs : List (CoreId × List Action)) → ps ≡ qs
    → let one : Said = record said { threads = ps } in let other : Said = record said { threads = qs } in one ≡ other
with_threads said ps qs same = ap (λ xs. let s : Said = record said { threads = xs } in s) same

-- the claims' names are known
pub all_known : (ns : List NamedReply) (claims : List Claim)
    → list_all (λ (claim : List ℕ × ℕ). has_name claim.0 (map reply_of ns)) (claims_of claims)
    ≡ list_all (λ (claim : Claim). list_any (λ (n : NamedReply). bytes_eq n.name.now claim.name.now) ns) claims
all_known ns [] = refl
all_known ns (claim ∷ claims) = ap₂ (λ a b. a && b) (has_name-replies claim.name.now ns) (all_known ns claims)

-- a known name is one of some
pub some_known : (ns : List NamedReply) (claims : List Claim)
    → list_all (λ (claim : Claim). list_any (λ (n : NamedReply). bytes_eq n.name.now claim.name.now) ns) claims ≡ true
    → 1 ≤ length claims → 1 ≤ length ns
some_known ns [] known some = absurd (omega arith)
some_known [] (claim ∷ claims) known some = cc
some_known (n ∷ ns) (claim ∷ claims) known some = omega arith

-- the pair of a claim
abbrev pub pair_in : List NamedReply → Claim → Pair
pair_in ns claim = record {
  name = unwrap_or (position (λ (n : NamedReply). bytes_eq n.name.now claim.name.now) ns) 0;
  value = claim.value;
}

position_or_len-map : {X Y : Type 0} (f : X → Y) (p : Y → Bool) (xs : List X)
    → position_or_len p (map f xs) ≡ position_or_len (λ x. p (f x)) xs
position_or_len-map f p [] = refl
position_or_len-map f p (x ∷ xs) = ap (λ n. cond (not (p (f x))) (1 + n) 0) (position_or_len-map f p xs)

pub pair_of-replies : (ns : List NamedReply) (claim : Claim)
    → pair_of (map reply_of ns) (pair_of_claim claim) ≡ pair_in ns claim
pair_of-replies ns claim =
    rw (
      position_or_len-map reply_of (λ (reply : Reply). bytes_eq reply.name claim.name.now) ns,
      length-map ns reply_of,
    ) refl

pub pairs-claims : (ns : List NamedReply) (claims : List Claim)
    → map (pair_of (map reply_of ns)) (claims_of claims) ≡ map (pair_in ns) claims
pairs-claims ns [] = refl
pairs-claims ns (claim ∷ claims) = ap₂ (λ p ps. p ∷ ps) (pair_of-replies ns claim) (pairs-claims ns claims)

slice_get-last : {X : Type 0} (xs : List X) (y : X) → slice_get (xs ++ y ∷ []) (length xs) ≡ Some y
slice_get-last [] y = refl
slice_get-last (z ∷ zs) y = slice_get-last zs y

-- what two facts at one place say of an element
at_program : (ts : List Thread) (i : ℕ) (t : Thread) → slice_get ts i ≡ Some t
    → slice_get (map program_of ts) i ≡ Some (program_of t)
at_program [] i t h = cc
at_program (u ∷ ts) zero t h = let same : u ≡ t = cc in ap (λ (x : Thread). Some (program_of x)) same
at_program (u ∷ ts) (suc i) t h = at_program ts i t h

-- the last thread has the new step after those before
last_thread : (was now : List Thread) (action : Action) (i : ℕ) (t : Thread) → length was ≡ i + 1
    → map program_of now ≡ with_step action (map program_of was) → slice_get now i ≡ Some t
    → IsLast action (last_steps (map program_of was)) (program_of t)
last_thread was now action i t last stepped at =
    last-with_step action (map program_of was) i (program_of t) (omega (arith, length-map was program_of))
    (ap (λ ps. slice_get ps i) (sym stepped) ∙ at_program now i t at)

-- a name of a step that was just taken is that of a reply
new_reply : (was now : List Thread) (action : Action) (n : NamedReply) → length was ≡ n.thread + 1
    → n.step ≡ last_steps (map program_of was) → map program_of now ≡ with_step action (map program_of was)
    → IsTrue (reads_value action) → IsTrue (is_name n.name.now) → IsReplyOf now n
new_reply was now action n last step stepped reads named = record {
  name = named;
  thread =
      let long = ap length stepped ∙ length-with_step action (map program_of was) in
      omega (arith, long, length-map was program_of, length-map now program_of);
  step = λ t at.
      let is = last_thread was now action n.thread t last stepped at in
      let long = ap length is.steps ∙ length-append is.front (action ∷ []) in
      omega (arith, long, is.count, t.steps.ok.0);
  reads = λ t other at here.
      let is = last_thread was now action n.thread t last stepped at in
      let place : n.step ≡ length is.front = step ∙ sym is.count in
      let found : slice_get t.steps.items n.step ≡ Some action =
      ap₂ (λ xs k. slice_get xs k) is.steps place ∙ slice_get-last is.front action in
      let same : action ≡ other = cc in
      subst (λ a. IsTrue (reads_value a)) same reads;
}

some_element : {X : Type 0} (xs : List X) (i : ℕ) → i < length xs → (x : X) × (slice_get xs i ≡ Some x)
some_element [] i h = absurd (omega arith)
some_element (x ∷ xs) zero h = (x, refl)
some_element (x ∷ xs) (suc i) h = some_element xs i (omega arith)

-- a step that was just taken comes after those that have names
new_later : (test : LitmusTest) (i step : ℕ) → vec_len test.threads ≡ i + 1
    → step ≡ last_steps (map program_of test.threads.items)
    → All (λ (a : NamedReply). a.thread ≡ i → a.step < step) test.names.items
new_later test i step last is = λ k n within same.
    let a : NamedReply = get_or test.names.items k n in
    let ts : List Thread = test.threads.items in
    let found = some_element ts i (omega (arith, test.threads.ok.0)) in
    let t : Thread = found.0 in
    let here : slice_get ts a.thread ≡ Some t = ap (slice_get ts) same ∙ found.1 in
    let at : get_or ts i t ≡ t = get_or_from_slice_get ts i t t found.1 in
    let below = (test.sound.replies k n within).step t here in
    let count = last_steps-programs ts i t (omega (arith, test.threads.ok.0)) in
    let long = ap (λ (x : Thread). length x.steps.items) at in
    omega (arith, below, t.steps.ok.0, count, long)

-- a name that no reply has differs from each
new_name : (ns : List NamedReply) (name : List ℕ) → has_name name (map reply_of ns) ≡ false
    → All (λ (a : NamedReply). a.name.now ≢ name) ns
new_name ns name none = λ k d within same.
    let a : NamedReply = get_or ns k d in
    let other : bytes_eq a.name.now name ≡ false =
    none_passes (λ (n : NamedReply). bytes_eq n.name.now name) ns (sym (has_name-replies name ns) ∙ none) k d within in
    let equal : bytes_eq a.name.now name ≡ true = (bytes_eq-Decides a.name.now name).1 same in
    false≢true (sym other ∙ equal)

-- a test stays sound if the step that was just taken is given a name
pub sound_named : (was now : LitmusTest) (action : Action) (n : NamedReply) (names : List NamedReply) (b : Bool)
    → said_by now ≡ said_step (said_by was) action → now.names ≡ was.names → MayName (said_by was) n.name.now
    → IsTrue (reads_value action) → IsTrue (is_name n.name.now) → vec_len was.threads ≡ n.thread + 1
    → n.step ≡ last_steps (said_by was).threads → names ≡ cond b (now.names.items ++ n ∷ []) now.names.items
    → IsSound now.config now.rounds now.movers now.threads.items names now.forbidden.items
unfolding said_by
sound_named was now action n names b stepped same may reads named last step pushed =
    let items : now.names.items ≡ was.names.items = ap (λ (v : Vec NamedReply Global). v.items) same in
    let fresh : All (λ (a : NamedReply). a.name.now ≢ n.name.now) now.names.items =
    rw items (new_name was.names.items n.name.now may.fresh) in
    let later : All (λ (a : NamedReply). a.thread ≡ n.thread → a.step < n.step) now.names.items =
    rw items (new_later was n.thread n.step last step) in
    let few : length now.names.items < 16 = rw items (omega (arith, may.few, length-map was.names.items reply_of)) in
    let reply : IsReplyOf now.threads.items n =
    new_reply was.threads.items now.threads.items action n (omega (arith, was.threads.ok.0)) step
    (ap (λ (s : Said). s.threads) stepped) reads named in
    rw pushed (of_both
    (λ ns. IsSound now.config now.rounds now.movers now.threads.items ns now.forbidden.items) b
    (now.names.items ++ n ∷ []) now.names.items
    (sound_name now.config now.rounds now.movers now.threads.items now.names.items now.forbidden.items n few reply fresh
    later now.sound) now.sound)

-- a core that no thread has differs from each
pub new_core : (ts : List Thread) (t : Thread) → has_core t.core.0 (map program_of ts) ≡ false
    → All (λ (u : Thread). u.core ≢ t.core) ts
new_core ts t none = λ k d within same.
    let u : Thread = get_or ts k d in
    let other : (u.core.0 == t.core.0) ≡ false =
    none_passes (λ (x : Thread). x.core.0 == t.core.0) ts (sym (has_core-programs t.core.0 ts) ∙ none) k d within in
    let equal : (u.core.0 == t.core.0) ≡ true = eq-eqb u.core.0 t.core.0 (ap (λ (c : CoreId). c.0) same) in
    false≢true (sym other ∙ equal)

-- a test stays sound if a thread begins, even if memory runs out
pub sound_begun : (test : LitmusTest) (core : ℕ) (steps : Vec Action Global) (ts : List Thread) (b : Bool)
    → MayBegin (said_by test) core → steps.items ≡ []
    → (let t : Thread = record { core = record { 0 = core }; steps = steps } in
    ts ≡ cond b (test.threads.items ++ t ∷ []) test.threads.items)
    → IsSound test.config test.rounds test.movers ts test.names.items test.forbidden.items
unfolding said_by
sound_begun test core steps ts b may none pushed =
    let t : Thread = record { core = record { 0 = core }; steps = steps } in
    let no_step : vec_len steps ≤ 4096 = omega (arith, steps.ok.0, ap length none) in
    let is : IsThreadOf test.config t = record {
      core = may.in_range;
      few_steps = no_step;
      steps = rw none (All-nil (IsStepOf test.config));
    } in
    rw pushed (of_both
    (λ us. IsSound test.config test.rounds test.movers us test.names.items test.forbidden.items) b
    (test.threads.items ++ t ∷ []) test.threads.items
    (sound_thread test.config test.rounds test.movers test.threads.items test.names.items test.forbidden.items t is
    (new_core test.threads.items t may.first) test.sound) test.sound)

-- a test stays sound if an outcome of its names is forbidden
pub sound_forbidden : (test : LitmusTest) (f : Forbidden) (fs : List Forbidden) (b : Bool) → 1 ≤ vec_len f.pairs
    → vec_len f.pairs ≤ 16 → All (λ (p : Pair). p.name < vec_len test.names) f.pairs.items
    → fs ≡ cond b (test.forbidden.items ++ f ∷ []) test.forbidden.items
    → IsSound test.config test.rounds test.movers test.threads.items test.names.items fs
sound_forbidden test f fs b some few within pushed =
    let is : IsOutcomeOf (length test.names.items) f = record {
      some = some;
      few = few;
      named = λ k d here. let below = within k d here in omega (arith, below, test.names.ok.0);
    } in
    rw pushed (of_both
    (λ xs. IsSound test.config test.rounds test.movers test.threads.items test.names.items xs) b
    (test.forbidden.items ++ f ∷ []) test.forbidden.items
    (sound_outcome test.config test.rounds test.movers test.threads.items test.names.items test.forbidden.items f is
    test.sound) test.sound)

-- what is said once the step that was just taken is given a name
pub named_said : (said stepped : Said) (action : Action) (name : List ℕ) (rs : List Reply)
    → stepped ≡ said_step said action
    → (let r : Reply = record { name = name; thread = length said.threads - 1; step = last_steps said.threads } in
    rs ≡ said.names ++ r ∷ [])
    → let whole : Said = record stepped { names = rs } in whole ≡ said_named said action name
named_said said stepped action name rs same more =
    ap₂ (λ s ns. let whole : Said = record s { names = ns } in whole) same more

-- the machine has the word of an access that may come next
pub access_step : (test : LitmusTest) (word : ℕ) (op : Op) → MayAccess (said_by test) word
    → ((value : ℕ) → op ≡ ops.Store value → MayOverwrite (said_by test) word)
    → ((expect new : ℕ) → op ≡ ops.Cas expect new → MayOverwrite (said_by test) word)
    → IsStepOf test.config (actions.Access (record { 0 = word }) op)
unfolding said_by
access_step test word op may stores exchanges = record {
  word = λ w other same.
      let here : WordAddr = record { 0 = word } in
      let is : here ≡ w = cc in
      let number : word ≡ w.0 = ap (λ (x : WordAddr). x.0) is in
      subst (λ n. n / 8 < test.config.lines) number may.in_range;
  line = λ l same. cc;
  store = λ w value same.
      let here : WordAddr = record { 0 = word } in
      let is : here ≡ w = cc in
      let stored : op ≡ ops.Store value = cc in
      subst (λ x. ¬ Contains test.config.counters x) is (stores value stored).no_counter;
  cas = λ w expect new same.
      let here : WordAddr = record { 0 = word } in
      let is : here ≡ w = cc in
      let exchanged : op ≡ ops.Cas expect new = cc in
      subst (λ x. ¬ Contains test.config.counters x) is (exchanges expect new exchanged).no_counter;
}

pub evict_step : (test : LitmusTest) (l : ℕ) → l < (said_by test).settings.config.lines
    → IsStepOf test.config (actions.Evict (record { 0 = l }))
unfolding said_by
evict_step test l within = record {
  word = λ w op same. cc;
  line = λ other same.
      let here : LineAddr = record { 0 = l } in
      let is : here ≡ other = cc in
      subst (λ (x : LineAddr). x.0 < test.config.lines) is within;
  store = λ w value same. cc;
  cas = λ w expect new same. cc;
}

-- a test that may forbid an outcome has names
pub forbids_names : (test : LitmusTest) (claims : List Claim) → MayForbid (said_by test) (claims_of claims)
    → 1 ≤ length claims → 1 ≤ vec_len test.names
unfolding said_by
forbids_names test claims may some =
    let known = sym (all_known test.names.items claims) ∙ may.known in
    let names = some_known test.names.items claims known some in
    omega (arith, names, test.names.ok.0)

-- one more pair of an outcome
pub pairs_more : (ns : List NamedReply) (claims : List Claim) (i : ℕ) (d : Claim) (pairs now : List Pair) (pair : Pair)
    → i < length claims → pairs ≡ map (pair_in ns) (take i claims) → pair ≡ pair_in ns (get_or claims i d)
    → now ≡ pairs ++ pair ∷ [] → now ≡ map (pair_in ns) (take (i + 1) claims)
pairs_more ns claims i d pairs now pair within before is pushed =
    rw (take_more claims i d within, map-append, pushed) (ap₂ (λ xs x. xs ++ x ∷ []) before is)

pub pairs_count : (ns : List NamedReply) (claims : List Claim) (i : ℕ) (pairs : List Pair) → length claims ≤ i
    → pairs ≡ map (pair_in ns) (take i claims) → length pairs ≡ length claims
pairs_count ns claims i pairs whole is =
    ap length is ∙ length-map (take i claims) (pair_in ns) ∙ ap length (take_all i claims whole)

-- what is said once an outcome is forbidden
pub forbidden_said : (test : LitmusTest) (f : Forbidden) (fs : List Forbidden) (claims : List Claim) (i : ℕ)
    → length claims ≤ i → f.pairs.items ≡ map (pair_in test.names.items) (take i claims)
    → fs ≡ test.forbidden.items ++ f ∷ []
    → map pairs_of fs
    ≡ (said_by test).forbidden ++ map (pair_of (said_by test).names) (claims_of claims) ∷ []
unfolding said_by
forbidden_said test f fs claims i whole pairs pushed =
    let all : take i claims ≡ claims = take_all i claims whole in
    let same : f.pairs.items ≡ map (pair_of (map reply_of test.names.items)) (claims_of claims) =
    pairs ∙ ap (map (pair_in test.names.items)) all ∙ sym (pairs-claims test.names.items claims) in
    rw (pushed, map-append) (ap (λ xs. map pairs_of test.forbidden.items ++ xs ∷ []) same)

pub with_forbidden : (said : Said) (fs gs : List (List Pair)) → fs ≡ gs
    → let one : Said = record said { forbidden = fs } in let other : Said =
    record said { forbidden = gs } in one ≡ other
with_forbidden said fs gs same = ap (λ xs. let s : Said = record said { forbidden = xs } in s) same

-- the names after which a name was put
pub name_pushed : (was : LitmusTest) (before now : Vec NamedReply Global) (name : Bor (List ℕ)) (thread step : ℕ)
    → before ≡ was.names
    → (let n : NamedReply = record { name = name; thread = thread; step = step } in now.items ≡ before.items ++ n ∷ [])
    → thread ≡ length (said_by was).threads - 1 → step ≡ last_steps (said_by was).threads
    → (let r : Reply = record {
      name = name.now;
      thread = length (said_by was).threads - 1;
      step = last_steps (said_by was).threads;
    } in
    map reply_of now.items ≡ (said_by was).names ++ r ∷ [])
unfolding said_by
name_pushed was before now name thread step same pushed here at =
    rw (pushed, map-append, same)
    (ap₂ (λ t s. map reply_of was.names.items ++ (let r : Reply = record { name = name.now; thread = t; step = s } in r)
    ∷ [])
    here at)
