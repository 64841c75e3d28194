use Rattle.std.proofs.Common.{ℕ, cond, get_or, ap, ◌∙◌, arith}
use Rattle.std.proofs.lemmas.Simd.{get_or-chunk}
use Rattle.litmus_text.specs.Text.{is_blank}
use Rattle.litmus_text.proofs.BlankLemmas.{either_blank}
use Rattle.litmus_text.proofs.row.blanks_of.Goals as goal

pub returns : goal.returns
returns c = λ k below.
    let text = c.args.text.now in
    either_blank _ _ k _ (c.places_of.ensures k below) (c.places_of-2.ensures k below)
    ∙ ap (λ b. cond {A = ℕ} (is_blank b) 1 0)
    (get_or-chunk 0 64 text k 0 below ∙ ap (λ i. get_or text i 0) (omega arith))
