use Rattle.std.proofs.Common.{ℕ, eqb, cond, false, map, ap, ◌∙◌, arith, w8}
use Rattle.std.specs.Int.{bit_at}
use Rattle.std.proofs.lemmas.Simd.{bitmask_splat, bit_mask_l}
use Rattle.std.proofs.lemmas.List.{get_or-map}
use Rattle.litmus_text.proofs.row.places_of.Goals as goal

pub returns : goal.returns
returns c = λ k below.
    let test = λ (x : ℕ). eqb x c.args.byte in
    ap (λ n. bit_at n k) (bitmask_splat w8 eqb c.args.block 64 c.args.byte c.fits-block.0 (omega arith))
    ∙ bit_mask_l (map test c.args.block) k
    ∙ ap (λ b. cond b 1 0) (get_or-map test c.args.block k 0 false (omega (arith, c.fits-block.0)))
