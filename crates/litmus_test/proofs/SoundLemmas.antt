-- A test that takes one more thread, step, name or outcome stays sound.
use Rattle.std.proofs.Common.{◌≡◌, ◌≢◌, ℕ, zero, suc, Bool, true, false, cond, ◌+◌, ◌<◌, ◌≤◌, List, [], ◌∷◌, ◌++◌}
use Rattle.std.proofs.Common.{length, get_or, Some, refl, sym, ap, ◌∙◌, inl, inr, arith, length-append, vec_len}
use Rattle.std.specs.Prelude.{All, slice_get}
use Rattle.std.proofs.Math.ListN.{set}
use Rattle.std.proofs.lemmas.Bool.{cases_eq}
use Rattle.std.proofs.lemmas.List.{length-set, get_or-set_same, get_or-set_other}
use Rattle.std.proofs.lemmas.List.Elements.{All-push, All-set}
use Rattle.std.proofs.lemmas.List.Quantifiers.{all_pairs_push}
use Rattle.std.proofs.lemmas.Option.{slice_get_within, get_or_from_slice_get}
use Rattle.address_map.specs.declared.config.Config.{Config}
use Rattle.litmus_test.specs.declared.test.Action.{Action}
use Rattle.litmus_test.specs.declared.test.Thread.{Thread}
use Rattle.litmus_test.specs.declared.test.NamedReply.{NamedReply}
use Rattle.litmus_test.specs.declared.test.Forbidden.{Forbidden}
use Rattle.litmus_test.specs.Sound.{IsSound, IsThreadOf, IsReplyOf, IsOutcomeOf}

-- what holds of two values holds of one that is chosen of them
pub of_both : {X : Type 0} (P : X → Type 0) (b : Bool) (x y : X) → P x → P y → P (cond b x y)
of_both P true x y h k = h
of_both P false x y h k = k

-- an element of the front of a list
pub slice_get-front : {X : Type 0} (xs ys : List X) (k : ℕ) (x : X) → k < length xs → slice_get (xs ++ ys) k ≡ Some x
    → slice_get xs k ≡ Some x
slice_get-front [] ys k x within h = absurd (omega arith)
slice_get-front (z ∷ zs) ys zero x within h = h
slice_get-front (z ∷ zs) ys (suc k) x within h = slice_get-front zs ys k x (omega arith) h

pub slice_get-set_here : {X : Type 0} (xs : List X) (i : ℕ) (y x : X) → i < length xs
    → slice_get (set xs i y) i ≡ Some x → x ≡ y
slice_get-set_here [] i y x within h = absurd (omega arith)
slice_get-set_here (z ∷ zs) zero y x within h = cc
slice_get-set_here (z ∷ zs) (suc i) y x within h = slice_get-set_here zs i y x (omega arith) h

pub slice_get-set_other : {X : Type 0} (xs : List X) (i k : ℕ) (y x : X) → k ≢ i → slice_get (set xs i y) k ≡ Some x
    → slice_get xs k ≡ Some x
slice_get-set_other [] i k y x other h = h
slice_get-set_other (z ∷ zs) zero zero y x other h = absurd (other refl)
slice_get-set_other (z ∷ zs) zero (suc k) y x other h = h
slice_get-set_other (z ∷ zs) (suc i) zero y x other h = h
slice_get-set_other (z ∷ zs) (suc i) (suc k) y x other h =
    slice_get-set_other zs i k y x (λ same. other (ap suc same)) h

-- a reply of some threads is one of more threads
reply-more : (ts : List Thread) (t : Thread) (n : NamedReply) → IsReplyOf ts n → IsReplyOf (ts ++ t ∷ []) n
reply-more ts t n is = record {
  name = is.name;
  thread = omega (arith, is.thread, length-append ts (t ∷ []));
  step = λ u at. is.step u (slice_get-front ts (t ∷ []) n.thread u is.thread at);
  reads = λ u action at here. is.reads u action (slice_get-front ts (t ∷ []) n.thread u is.thread at) here;
}

pub sound_thread : (c : Config) (r m : ℕ) (ts : List Thread) (ns : List NamedReply) (fs : List Forbidden) (t : Thread)
    → IsThreadOf c t → All (λ (u : Thread). u.core ≢ t.core) ts → IsSound c r m ts ns fs
    → IsSound c r m (ts ++ t ∷ []) ns fs
sound_thread c r m ts ns fs t is first sound = record {
  checked = sound.checked;
  some_round = sound.some_round;
  few_rounds = sound.few_rounds;
  few_movers = sound.few_movers;
  programs = All-push (IsThreadOf c) ts t sound.programs is;
  one_each = all_pairs_push (λ (a b : Thread). a.core ≢ b.core) ts t sound.one_each first;
  few_names = sound.few_names;
  replies = λ k d within. reply-more ts t _ (sound.replies k d within);
  own_names = sound.own_names;
  own_steps = sound.own_steps;
  outcomes = sound.outcomes;
}

-- a thread that has more steps than another
pub record IsGrown (was now : Thread) (more : List Action) : Type 0 where
  pub core : now.core ≡ was.core
  pub steps : now.steps.items ≡ was.steps.items ++ more

-- a reply of some threads is one where a thread has more steps
reply-grown : (ts : List Thread) (i : ℕ) (t now : Thread) (more : List Action) (n : NamedReply)
    → slice_get ts i ≡ Some t → IsGrown t now more → IsReplyOf ts n → IsReplyOf (set ts i now) n
reply-grown ts i t now more n at grown is =
    let within : i < length ts = slice_get_within ts i t at in
    let long : length now.steps.items ≡ length t.steps.items + length more =
    ap length grown.steps ∙ length-append t.steps.items more in
    elim (cases_eq n.thread i) [
      | inl same ↦
          let step : n.step < vec_len t.steps = is.step t (ap (slice_get ts) same ∙ at) in
          let early : n.step < length t.steps.items = omega (arith, t.steps.ok) in
          record {
            name = is.name;
            thread = omega (arith, is.thread, length-set ts i now);
            step = λ u here.
                let is_now : u ≡ now =
                slice_get-set_here ts i now u within (ap (slice_get (set ts i now)) (sym same) ∙ here) in
                rw is_now (omega (arith, now.steps.ok));
            reads = λ u action here stands.
                let is_now : u ≡ now =
                slice_get-set_here ts i now u within (ap (slice_get (set ts i now)) (sym same) ∙ here) in
                is.reads t action (ap (slice_get ts) same ∙ at)
                (slice_get-front t.steps.items more n.step action early
                (ap (λ xs. slice_get xs n.step)
                (sym grown.steps ∙ ap (λ (x : Thread). x.steps.items) (sym is_now)) ∙ stands));
          }
      | inr other ↦ record {
        name = is.name;
        thread = omega (arith, is.thread, length-set ts i now);
        step = λ u here. is.step u (slice_get-set_other ts i n.thread now u other here);
        reads = λ u action here. is.reads u action (slice_get-set_other ts i n.thread now u other here);
      }
    ]

-- the core of each thread stays
core-set : (ts : List Thread) (i k : ℕ) (t now d : Thread) → slice_get ts i ≡ Some t → now.core ≡ t.core
    → (get_or (set ts i now) k d).core ≡ (get_or ts k d).core
core-set ts i k t now d at same =
    elim (cases_eq k i) [
      | inl here ↦ rw here
          (ap (λ (x : Thread). x.core) (get_or-set_same ts i now d (slice_get_within ts i t at)) ∙ same
          ∙ ap (λ (x : Thread). x.core) (sym (get_or_from_slice_get ts i t d at)))
      | inr other ↦ ap (λ (x : Thread). x.core) (get_or-set_other ts i k now d other)
    ]

pub sound_step : (c : Config) (r m : ℕ) (ts : List Thread) (ns : List NamedReply) (fs : List Forbidden) (i : ℕ)
    (t now : Thread) (more : List Action)
    → slice_get ts i ≡ Some t → IsGrown t now more → IsThreadOf c now → IsSound c r m ts ns fs
    → IsSound c r m (set ts i now) ns fs
sound_step c r m ts ns fs i t now more at grown is sound = record {
  checked = sound.checked;
  some_round = sound.some_round;
  few_rounds = sound.few_rounds;
  few_movers = sound.few_movers;
  programs = All-set (IsThreadOf c) ts i now is sound.programs;
  one_each = λ j k d before within same.
      sound.one_each j k d before (omega (arith, length-set ts i now))
      (sym (core-set ts i j t now d at grown.core) ∙ same ∙ core-set ts i k t now d at grown.core);
  few_names = sound.few_names;
  replies = λ k d within. reply-grown ts i t now more _ at grown (sound.replies k d within);
  own_names = sound.own_names;
  own_steps = sound.own_steps;
  outcomes = sound.outcomes;
}

outcome-more : (n m : ℕ) (f : Forbidden) → n ≤ m → IsOutcomeOf n f → IsOutcomeOf m f
outcome-more n m f more is = record {
  some = is.some;
  few = is.few;
  named = λ k d within. let below = is.named k d within in omega arith;
}

pub sound_name : (c : Config) (r m : ℕ) (ts : List Thread) (ns : List NamedReply) (fs : List Forbidden) (n : NamedReply)
    → length ns < 16 → IsReplyOf ts n → All (λ (a : NamedReply). a.name.now ≢ n.name.now) ns
    → All (λ (a : NamedReply). a.thread ≡ n.thread → a.step < n.step) ns → IsSound c r m ts ns fs
    → IsSound c r m ts (ns ++ n ∷ []) fs
sound_name c r m ts ns fs n few is fresh later sound = record {
  checked = sound.checked;
  some_round = sound.some_round;
  few_rounds = sound.few_rounds;
  few_movers = sound.few_movers;
  programs = sound.programs;
  one_each = sound.one_each;
  few_names = omega (arith, length-append ns (n ∷ []));
  replies = All-push (IsReplyOf ts) ns n sound.replies is;
  own_names = all_pairs_push (λ (a b : NamedReply). a.name.now ≢ b.name.now) ns n sound.own_names fresh;
  own_steps = all_pairs_push (λ (a b : NamedReply). a.thread ≡ b.thread → a.step < b.step) ns n sound.own_steps later;
  outcomes = λ k d within.
      outcome-more (length ns) (length (ns ++ n ∷ [])) _ (omega (arith, length-append ns (n ∷ [])))
      (sound.outcomes k d within);
}

pub sound_outcome : (c : Config) (r m : ℕ) (ts : List Thread) (ns : List NamedReply) (fs : List Forbidden)
    (f : Forbidden) → IsOutcomeOf (length ns) f → IsSound c r m ts ns fs → IsSound c r m ts ns (fs ++ f ∷ [])
sound_outcome c r m ts ns fs f is sound = record {
  checked = sound.checked;
  some_round = sound.some_round;
  few_rounds = sound.few_rounds;
  few_movers = sound.few_movers;
  programs = sound.programs;
  one_each = sound.one_each;
  few_names = sound.few_names;
  replies = sound.replies;
  own_names = sound.own_names;
  own_steps = sound.own_steps;
  outcomes = All-push (IsOutcomeOf (length ns)) fs f sound.outcomes is;
}
