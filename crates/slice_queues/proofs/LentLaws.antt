-- A line that is borrowed once and then again.
use Rattle.std.proofs.Common.{◌≡◌, ℕ, ◌<◌, ◌++◌, if◌then◌else◌, Bool, true, false, List, [], ◌∷◌, length, refl, ap, ◌∙◌}
use Rattle.std.proofs.Common.{eq-eqb}
use Rattle.std.specs.Prelude.{eqb}
use Rattle.std.proofs.Math.Bool.{or-true}
use Rattle.std.proofs.lemmas.List.{get_or-set_same, set-set}
use Rattle.std.proofs.lemmas.List.Folds.{list_any-append}
use Rattle.address_map.specs.declared.address.Local.{Local}
use Rattle.slice_queues.specs.Lending.{with_lent}
use Rattle.slice_queues.specs.Line.{LineChannels, empty_line}
use Rattle.slice_queues.specs.Ring.{QueuesView, is_listed, with_listed}
use Rattle.slice_queues.specs.Slice.{at_local}

-- a line that came into a list is in it
pub is_listed-with_listed : (order : List ℕ) (local : ℕ) → is_listed (with_listed order local) local ≡ true
is_listed-with_listed order local = by_test (is_listed order local) refl
  where
    by_test : (there : Bool) → is_listed order local ≡ there →
        is_listed (if there then order else order ++ local ∷ []) local ≡ true
    by_test true there = there
    by_test false away =
        list_any-append (eqb local) order (local ∷ []) ∙ rw (eq-eqb local local refl) (or-true _)

-- a line that is in a list comes into it no second time
pub with_listed-there : (order : List ℕ) (local : ℕ) → is_listed order local ≡ true → with_listed order local ≡ order
with_listed-there order local there = rw there refl

-- borrowed twice, a line is as it was left the second time
pub with_lent-twice : (queues : QueuesView) (local : Local) (first second : LineChannels) →
    with_lent (with_lent queues local first) local second ≡ with_lent queues local second
with_lent-twice queues local first second =
    let slice : List LineChannels → List ℕ → QueuesView = λ lines ring.
    record { channels = record queues.channels { lines = lines }; ring = ring } in
    let ring = with_listed queues.ring local.0 in
    ap (λ lines. slice lines (with_listed ring local.0)) (set-set queues.channels.lines local.0 first second)
    ∙ ap (slice _) (with_listed-there ring local.0 (is_listed-with_listed queues.ring local.0))

-- a line that was borrowed is as it was left
pub at_local-lent : (queues : QueuesView) (local : Local) (line : LineChannels) →
    local.0 < length queues.channels.lines → at_local (with_lent queues local line).channels local.0 ≡ line
at_local-lent queues local line there = get_or-set_same queues.channels.lines local.0 line (empty_line 0) there

-- a line that was borrowed is changed once more
pub lent_again : (old first : QueuesView) (local : Local) (line : LineChannels) (change : LineChannels → LineChannels) →
    local.0 < length old.channels.lines → first ≡ with_lent old local line →
    with_lent first local (change (at_local first.channels local.0)) ≡ with_lent old local (change line)
lent_again old first local line change there is =
    ap (λ queues. with_lent queues local (change (at_local queues.channels local.0))) is
    ∙ ap (λ now. with_lent (with_lent old local line) local (change now)) (at_local-lent old local line there)
    ∙ with_lent-twice old local line (change line)

-- what is read of a line that was borrowed
pub read-lent : (old first : QueuesView) (local : Local) (line : LineChannels) →
    local.0 < length old.channels.lines → first ≡ with_lent old local line →
    at_local first.channels local.0 ≡ line
read-lent old first local line there is =
    ap (λ queues. at_local queues.channels local.0) is ∙ at_local-lent old local line there
