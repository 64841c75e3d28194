-- A walk that goes on by some calls and then by some more goes on by all of them.
use Rattle.std.proofs.Common.{List, [], ◌∷◌, ◌++◌, append_assoc, ap, refl, sym, subst, ◌∙◌}
use Rattle.std.proofs.lemmas.List.{append-nil}
use Rattle.address_map.specs.declared.config.Config.{Config}
use Rattle.litmus_test.specs.declared.test.Thread.{Thread}
use Rattle.slice_core_spec.specs.Calls.{PartsView}
use Rattle.litmus_walk.specs.Walk.{AreCallsOf, IsCallOf, Makes, Plays, WalkView, Walks}
use Rattle.litmus_walk.specs.declared.recorded.Made.{Made}

pub plays-append : (config : Config) (xs ys : List Made) (a b c : List PartsView)
    → Plays config xs a b → Plays config ys b c
    → Plays config (xs ++ ys) a c
plays-append config [] ys a b c first then = subst (λ s. Plays config ys s c) first then
plays-append config (x ∷ xs) ys a b c first then =
    (first.0, first.1, plays-append config xs ys first.0 b c first.2 then)

pub calls-append : (threads : List Thread) (xs ys : List Made) → AreCallsOf threads xs → AreCallsOf threads ys
    → AreCallsOf threads (xs ++ ys)
calls-append threads [] ys first then = then
calls-append threads (x ∷ xs) ys first then = (first.0, calls-append threads xs ys first.1 then)

-- a walk goes on by no calls
pub walks_none : (threads : List Thread) (walk : WalkView) → Walks threads walk walk
walks_none threads walk =
    record { more = []; theirs = tt; config = refl; calls = sym (append-nil walk.calls); plays = refl }

-- .. by one that is the threads' own
pub walks_by : (threads : List Thread) (a b : WalkView) (made : Made) → IsCallOf threads made.command made.step
    → Makes a made b → Walks threads a b
walks_by threads a b made own makes = record {
  more = made ∷ [];
  theirs = (own, tt);
  config = makes.config;
  calls = makes.calls;
  plays = (b.slices, makes.played, refl);
}

-- .. and by some, and then more
pub walks_then : (threads : List Thread) (a b c : WalkView) → Walks threads a b → Walks threads b c → Walks threads a c
walks_then threads a b c first then = record {
  more = first.more ++ then.more;
  theirs = calls-append threads first.more then.more first.theirs then.theirs;
  config = then.config ∙ first.config;
  calls = then.calls ∙ ap (λ calls. calls ++ then.more) first.calls ∙ append_assoc a.calls first.more then.more;
  plays = plays-append a.config first.more then.more a.slices b.slices c.slices first.plays
      (subst (λ config. Plays config then.more b.slices c.slices) first.config then.plays);
}
