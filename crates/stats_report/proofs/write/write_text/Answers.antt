use Rattle.std.proofs.Common.{◌≡◌, ℕ, ◌+◌, ◌-◌, ◌<◌, ◌≤◌, List, ◌++◌, length, take, drop, sym, ap, ◌∙◌, subst, arith}
use Rattle.std.proofs.Common.{length-drop, Option}
use Rattle.std.proofs.lemmas.List.{take_rest}
use Rattle.std.proofs.Math.Seq.{take-add}
use Rattle.std.specs.Io.KnownBytes.{Appends}
use Rattle.std.proofs.KnownBytes.{Appends-trans}
use Rattle.stats_report.proofs.write.write_text.Goals as goal

-- what one write takes of the rest stays within the text
count_within : (text : List ℕ) (taken count : ℕ) → taken < length text
    → count ≤ length (take (length text - taken) (drop taken text)) → taken + count ≤ length text
count_within text taken count left within =
    let fits : count ≤ length (drop taken text) = subst (λ rest. count ≤ length rest) (take_rest text taken) within in
    omega (arith, fits, length-drop taken text, left)

-- the bytes taken before and those of one more write are the first ones of the text
appends_more : (old mid new : Option (List ℕ)) (text : List ℕ) (taken count : ℕ) → Appends old mid (take taken text)
    → Appends mid new (take count (take (length text - taken) (drop taken text)))
    → Appends old new (take (taken + count) text)
appends_more old mid new text taken count before after =
    let rest : List ℕ = take (length text - taken) (drop taken text) in
    let first : take taken text ++ take count rest ≡ take (taken + count) text =
    ap (λ rest. take taken text ++ take count rest) (take_rest text taken) ∙ sym (take-add taken count text) in
    subst (Appends old new) first (Appends-trans old mid new _ _ before after)

pub loop-taken-preserved : goal.loop-taken-preserved
loop-taken-preserved g c = (
  count_within c.args.text.now c.loop-taken.taken c.in-Ok.count c.loop-taken-test.true c.in-Ok.ensures.bound,
  appends_more _ _ _ c.args.text.now c.loop-taken.taken c.in-Ok.count c.loop-taken.invariant.1 c.in-Ok.ensures.bytes,
)
