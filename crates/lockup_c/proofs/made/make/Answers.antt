use Rattle.std.proofs.Common.{Some, ap, inl, refl, sym, ◌∙◌}
use Rattle.lockup_c.proofs.MadeLemmas.{made}
use Rattle.lockup_c.proofs.made.make.Goals as goal

pub returns-in-Ok : goal.returns-in-Ok
returns-in-Ok c =
    let new = c.in-Ok.ensures.made in
    made _ _ _ c.in-Some-kinds_named.kinds 0 _ _ c.in_default.ensures.none
    (sym c.kinds_named.ensures ∙ c.in-Some-kinds_named.is)
    (inl (refl, record { simulator = new.0; is = c.put-in-Ok.ensures ∙ ap Some new.1; fresh = new.2 }))
