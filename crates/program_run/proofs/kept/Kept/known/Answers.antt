use Rattle.std.proofs.Common.{◌≡◌, ◌∙◌, ◌<◌, Some, ap, length, refl, rules, slice_get, subst, sym}
use Rattle.std.proofs.lemmas.Bool.{ltb-true}
use Rattle.std.proofs.lemmas.Option.{slice_get_read}
use Rattle.address_map.specs.declared.request.Request.{Request}
use Rattle.program_run.specs.Run.{decision_on}
use Rattle.program_run.proofs.kept.Kept.known.Goals as goal

pub returns : goal.returns
returns c = λ config slices all.
    let known = c.in-Some-Some.known in
    let place = c.args.core.0 in
    let looked = c.in-Some-Some.ensures.lookup in
    let within : place < length c.deref.result.now = ltb-true place (length c.deref.result.now) (sym looked.0) in
    let read : slice_get c.deref.result.now place ≡ Some c.in-Some-Some.field-0.now =
    slice_get_read c.deref.result.now (length c.deref.result.now) place c.in-Some-Some.field-0.now refl within looked.1 in
    let found : slice_get c.args.self.now.decided.items place ≡ Some (Some known) =
    rw c.deref.ensures.value at read ∙ ap Some c.in-Some-Some.field-0-is in
    let same : known.request ≡ c.args.request = search rules in
    subst (λ (request : Request). decision_on config slices c.args.core request ≡ Some known.decision) same
    (all.decided place known found)
