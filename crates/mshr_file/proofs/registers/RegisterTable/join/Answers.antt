use Rattle.std.proofs.Common.{length, refl, sym, ap, arith, ◌∙◌, ◌≡◌, slice_index_or, slice_set}
use Rattle.std.proofs.lemmas.List.{get_or_default}
use Rattle.mshr_file.specs.Register.{no_register}
use Rattle.mshr_file.proofs.Calls.{IsAdded, joined}
use Rattle.mshr_file.proofs.Rows.{kept_after}
use Rattle.mshr_file.proofs.Steps.{sound, register_serving, waits_for}
use Rattle.mshr_file.proofs.registers.RegisterTable.join.Goals as goal

pub push-requires : goal.push-requires
push-requires c =
    let registers = c.args.self.now.registers.items.items in
    let place = c.place_of-place.result in
    let found = c.place_of-place.ensures in
    let home = register_serving registers place c.args.line.0 c.requires.kept.single found.inside found.serves in
    let waits = waits_for registers place c.args.line.0 home in
    let same = c.index_mut-register.ensures.value
    ∙ get_or_default registers place c.index_mut-register.result.now no_register found.inside in
    let short = c.requires.room in
    let equal = ap length (waits ∙ ap (λ r. r.targets) (sym same)) in
    omega (arith, short, equal)

same : (c : goal.After-self-2-1) →
    c.index_mut-register.result.now ≡ slice_index_or c.args.self.now.registers.items.items
    c.place_of-place.result no_register
same c =
    c.index_mut-register.ensures.value
    ∙ get_or_default c.args.self.now.registers.items.items c.place_of-place.result
    c.index_mut-register.result.now no_register
    c.place_of-place.ensures.inside

step : (c : goal.After-self-2-1) →
    IsAdded c.args.self.now.registers.items.items
    (slice_set c.args.self.now.registers.items.items c.place_of-place.result
    (record { targets = c.push.new.self; line = c.index_mut-register.result.now.line }))
    c.args.line.0 c.args.target 0
step c =
    joined c.args.self.now.registers.items.items c.place_of-place.result c.args.line.0 c.index_mut-register.result.now
    c.args.target c.push.new.self c.requires.kept.single c.place_of-place.ensures.inside (same c)
    c.place_of-place.ensures.serves c.push.ensures

pub returns-clause-kept : goal.returns-clause-kept
returns-clause-kept c =
    kept_after c.args.self.now _ c.place_of-place.result
    (record { targets = c.push.new.self; line = c.index_mut-register.result.now.line }) c.row-row.result c.requires.kept
    (step c).single refl refl c.row-row.ensures.value c.row-row.ensures.few
    (let count = (step c).count in let counted = c.requires.kept.counted in omega (arith, count, counted))

pub returns-clause-sound : goal.returns-clause-sound
returns-clause-sound c = sound _ (step c).single

pub returns-clause-added : goal.returns-clause-added
returns-clause-added c = (step c).added

pub returns-clause-count : goal.returns-clause-count
returns-clause-count c = let count = (step c).count in omega (arith, count)
