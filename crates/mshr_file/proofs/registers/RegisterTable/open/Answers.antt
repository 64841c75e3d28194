use Rattle.std.proofs.Common.{refl, arith, ◌∙◌, ◌≡◌, slice_index_or, slice_set}
use Rattle.std.proofs.lemmas.List.{get_or_default}
use Rattle.mshr_file.specs.Register.{no_register}
use Rattle.mshr_file.proofs.Calls.{IsAdded, opened}
use Rattle.mshr_file.proofs.Rows.{kept_after}
use Rattle.mshr_file.proofs.Steps.{sound}
use Rattle.mshr_file.proofs.registers.RegisterTable.open.Goals as goal

same : (c : goal.After-self-3-1) →
    c.index_mut-register.result.now
    ≡ slice_index_or c.args.self.now.registers.items.items c.free_place-place.result no_register
same c =
    c.index_mut-register.ensures.value
    ∙ get_or_default c.args.self.now.registers.items.items c.free_place-place.result c.index_mut-register.result.now
    no_register c.free_place-place.ensures.inside

step : (c : goal.After-self-3-1) →
    IsAdded c.args.self.now.registers.items.items
    (slice_set c.args.self.now.registers.items.items c.free_place-place.result
    (record { targets = c.push.new.self; line = c.args.line }))
    c.args.line.0 c.args.target 1
step c =
    opened c.args.self.now.registers.items.items c.free_place-place.result c.args.line c.index_mut-register.result.now
    c.args.target c.push.new.self c.requires.kept.single c.free_place-place.ensures.inside (same c)
    c.free_place-place.ensures.free c.requires.unserved c.push.ensures

pub returns-clause-kept : goal.returns-clause-kept
returns-clause-kept c =
    kept_after c.args.self.now _ c.free_place-place.result (record { targets = c.push.new.self; line = c.args.line })
    c.row-row.result c.requires.kept (step c).single refl refl c.row-row.ensures.value c.row-row.ensures.few
    (let count = (step c).count in let counted = c.requires.kept.counted in omega (arith, count, counted))

pub returns-clause-sound : goal.returns-clause-sound
returns-clause-sound c = sound _ (step c).single

pub returns-clause-added : goal.returns-clause-added
returns-clause-added c = (step c).added

pub returns-clause-count : goal.returns-clause-count
returns-clause-count c = (step c).count
