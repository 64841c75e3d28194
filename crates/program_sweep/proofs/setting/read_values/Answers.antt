use Rattle.std.proofs.Common.{rules, arith, ◌≡◌, ◌++◌, ◌∷◌, ◌∙◌, Bor, List, None, Some, ap, ap₂, map, sym, ℕ}
use Rattle.std.specs.Prelude.{◌==◌}
use Rattle.std.specs.List.{slice_split}
use Rattle.std.proofs.lemmas.List.{map_push}
use Rattle.std.proofs.lemmas.List.Splits.{slice_split_first}
use Rattle.std.proofs.lemmas.Str.Pattern.{split_once_first, split_parts}
use Rattle.program_sweep.proofs.ReadLemmas.{no_comma, values_more}
use Rattle.program_sweep.proofs.setting.read_values.Goals as goal

pub loop-value-preserved : goal.loop-value-preserved
loop-value-preserved c = record {
  text = search rules;
  whole =
      let rest = c.loop-value.rest.now in
      let old = c.loop-value.values.items in
      let now : Bor (List ℕ) → List ℕ = λ value. value.now in
      let parts = split_once_first 44 rest (Some (c.in-Some.value, c.in-Some.behind)) c.in-Some.ensures.cases (omega arith) in
      let split : slice_split (λ b. b == 44) rest ≡ c.in-Some.value.now ∷ slice_split (λ b. b == 44) c.in-Some.behind.now =
      slice_split_first (λ b. b == 44) rest 0 parts.0
      ∙ ap₂ (λ (a b : List ℕ). a ∷ slice_split (λ b. b == 44) b) (sym parts.1) (sym parts.2) in
      let pushed = ap (map now) c.in_ok-push_value.ensures ∙ map_push now old c.in-Some.value in
      ap (λ these. these ++ slice_split (λ b. b == 44) c.in-Some.behind.now) pushed
      ∙ values_more (map now old) c.in-Some.value.now rest c.in-Some.behind.now _ c.loop-value.invariant.whole split;
}

pub returns : goal.returns
returns c =
    let rest = c.loop-value.rest.now in
    let old = c.loop-value.values.items in
    let now : Bor (List ℕ) → List ℕ = λ value. value.now in
    let none = split_parts 44 rest None c.in_default.ensures.cases (omega arith) in
    let pushed = ap (map now) c.in_ok-push_value-2.ensures ∙ map_push now old c.loop-value.rest in
    pushed ∙ ap (λ these. map now old ++ these) (sym (no_comma rest none)) ∙ c.loop-value.invariant.whole
