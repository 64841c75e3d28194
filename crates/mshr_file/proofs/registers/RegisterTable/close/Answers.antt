use Rattle.std.proofs.Common.{refl, sym, ap, arith, ◌∙◌, ◌≡◌, ◌++◌, slice_index_or, slice_set}
use Rattle.std.proofs.lemmas.List.{get_or_default, append-nil}
use Rattle.mshr_file.specs.Register.{no_register}
use Rattle.mshr_file.proofs.Calls.{IsTaken, took, nothing_left}
use Rattle.mshr_file.proofs.Rows.{kept_after, some_open}
use Rattle.mshr_file.proofs.Steps.{sound}
use Rattle.mshr_file.proofs.registers.RegisterTable.close.Goals as goal

same : (c : goal.After-self-3-1) →
    c.index_mut-register.result.now ≡ slice_index_or c.args.self.now.registers.items.items
    c.place_of-place.result no_register
same c =
    c.index_mut-register.ensures.value
    ∙ get_or_default c.args.self.now.registers.items.items c.place_of-place.result
    c.index_mut-register.result.now no_register
    c.place_of-place.ensures.inside

step : (c : goal.After-self-3-1) →
    IsTaken c.args.self.now.registers.items.items
    (slice_set c.args.self.now.registers.items.items c.place_of-place.result
    (record { targets = c.take_all-all.new.self; line = c.index_mut-register.result.now.line }))
    c.args.line.0 c.index_mut-register.result.now (c.take_all-all.result.items) c.take_all-all.new.self
step c =
    took c.args.self.now.registers.items.items c.place_of-place.result c.args.line.0 c.index_mut-register.result.now
    (c.take_all-all.result.items) c.take_all-all.new.self c.requires.kept.single c.place_of-place.ensures.inside
    (same c) c.place_of-place.ensures.serves
    (sym c.take_all-all.ensures.taken
    ∙ sym (ap (λ rest. c.take_all-all.result.items ++ rest) c.take_all-all.ensures.left
    ∙ append-nil c.take_all-all.result.items))

pub returns-clause-kept : goal.returns-clause-kept
returns-clause-kept c =
    kept_after c.args.self.now _ c.place_of-place.result
    (record { targets = c.take_all-all.new.self; line = c.index_mut-register.result.now.line }) c.row-row.result
    c.requires.kept (step c).single refl refl c.row-row.ensures.value c.row-row.ensures.few
    (let count = (step c).count in
    let none = nothing_left c.take_all-all.new.self c.take_all-all.ensures.left in
    let counted = c.requires.kept.counted in
    omega (arith, count, none, counted))

pub returns-clause-sound : goal.returns-clause-sound
returns-clause-sound c = sound _ (step c).single

pub returns-clause-taken : goal.returns-clause-taken
returns-clause-taken c = (step c).takes

pub returns-clause-all : goal.returns-clause-all
returns-clause-all c = c.take_all-all.ensures.taken ∙ sym (step c).before

pub returns-clause-count : goal.returns-clause-count
returns-clause-count c =
    let count = (step c).count in
    let none = nothing_left c.take_all-all.new.self c.take_all-all.ensures.left in
    omega (arith, count, none)

pub overflow_sub-self : goal.overflow_sub-self
overflow_sub-self c =
    let some = some_open c.args.self.now c.args.line.0 c.requires.kept c.requires.served in
    omega (arith, some)
