-- The machine of a script.
use Rattle.std.proofs.Common.{◌≡◌, ℕ, List, [], ◌∷◌, ◌++◌, Option, refl, subst}
use Rattle.std.specs.Str.Lines.{lines}
use Rattle.address_map.specs.declared.config.Config.{Config}
use Rattle.litmus_text.specs.Statement.{kept_words}
use Rattle.litmus_text.specs.declared.command.Command.{Command}
use Rattle.slice_core_spec.specs.Calls.{PartsView}
use Rattle.script_prompt.specs.Session.{IsContinued, PlaysLine, PlaysLines}

-- nothing is played
pub continued_none : (config : Config) (slices : List PartsView) (script : List ℕ)
    → IsContinued config slices slices script script
continued_none config slices script = record { lines = []; played = (refl, refl) }

-- one line is
pub continued_one : (config : Config) (words : List (List ℕ)) (line : List ℕ) (command : Command)
    (old new : List PartsView)
    (before after : Option (List ℕ)) (old_script new_script : List ℕ) → words ≡ kept_words line
    → PlaysLine config words line command old new before after old_script new_script
    → IsContinued config old new old_script new_script
continued_one config words line command old new before after old_script new_script is one = record {
  lines = line ∷ [];
  played = (
    new,
    new_script,
    (
      command,
      before,
      after,
      subst (λ w. PlaysLine config w line command old new before after old_script new_script) is
          one,
    ),
    (refl, refl),
  );
}

plays_append : (config : Config) (first second : List (List ℕ)) (a b c : List PartsView) (s t u : List ℕ)
    → PlaysLines config first a b s t → PlaysLines config second b c t u → PlaysLines config (first ++ second) a c s u
plays_append config [] second a b c s t u none more =
    subst (λ slices. PlaysLines config second slices c s u) none.0
    (subst (λ script. PlaysLines config second b c script u) none.1 more)
plays_append config (line ∷ first) second a b c s t u (mid, script, one, rest) more =
    (mid, script, one, plays_append config first second mid b c script t u rest more)

-- some lines are, and then some more
pub continued_more : (config other : Config) (a b c : List PartsView) (s t u : List ℕ) → other ≡ config
    → IsContinued config a b s t → IsContinued other b c t u → IsContinued config a c s u
continued_more config other a b c s t u is first second = record {
  lines = first.lines ++ second.lines;
  played = plays_append config first.lines second.lines a b c s t u first.played
      (subst (λ (k : Config). PlaysLines k second.lines b c t u) is second.played);
}
