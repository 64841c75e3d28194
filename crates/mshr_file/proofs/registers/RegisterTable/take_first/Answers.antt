use Rattle.std.proofs.Common.{ℕ, [], ◌∷◌, refl, ap, arith, ◌∙◌, ◌≡◌, slice_index_or, slice_set, if◌then◌else◌}
use Rattle.std.proofs.lemmas.List.{get_or_default}
use Rattle.mshr_file.specs.Miss.{is_waited}
use Rattle.mshr_file.specs.Register.{no_register}
use Rattle.mshr_file.proofs.Calls.{IsTaken, took}
use Rattle.mshr_file.proofs.Rows.{closed_one, kept_after, one_at_most, some_open}
use Rattle.mshr_file.proofs.Steps.{sound}
use Rattle.mshr_file.proofs.registers.RegisterTable.take_first.Goals as goal

same : (c : goal.After-self-3-1) →
    c.index_mut-register.result.now ≡ slice_index_or c.args.self.now.registers.items.items
    c.place_of-place.result no_register
same c =
    c.index_mut-register.ensures.value
    ∙ get_or_default c.args.self.now.registers.items.items c.place_of-place.result
    c.index_mut-register.result.now no_register
    c.place_of-place.ensures.inside

step : (c : goal.After-self-3-1) →
    IsTaken c.args.self.now.registers.items.items
    (slice_set c.args.self.now.registers.items.items c.place_of-place.result
    (record { targets = c.take_first-first.new.self; line = c.index_mut-register.result.now.line }))
    c.args.line.0 c.index_mut-register.result.now (c.take_first-first.result ∷ []) c.take_first-first.new.self
step c =
    took c.args.self.now.registers.items.items c.place_of-place.result c.args.line.0 c.index_mut-register.result.now
    (c.take_first-first.result ∷ []) c.take_first-first.new.self c.requires.kept.single c.place_of-place.ensures.inside
    (same c) c.place_of-place.ensures.serves c.take_first-first.ensures

pub returns-clause-kept : goal.returns-clause-kept
returns-clause-kept c =
    kept_after c.args.self.now _ c.place_of-place.result
    (record { targets = c.take_first-first.new.self; line = c.index_mut-register.result.now.line }) c.row-row.result
    c.requires.kept (step c).single refl refl c.row-row.ensures.value c.row-row.ensures.few
    (let count = (step c).count in
    let counted = c.requires.kept.counted in
    let closed = c.from.ensures ∙ closed_one c.row-row.result
    (record { targets = c.take_first-first.new.self; line = c.index_mut-register.result.now.line })
    c.is_free.result c.is_free.ensures c.row-row.ensures.value in
    omega (arith, count, counted, closed))

pub returns-clause-sound : goal.returns-clause-sound
returns-clause-sound c = sound _ (step c).single

pub returns-clause-taken : goal.returns-clause-taken
returns-clause-taken c = (step c).takes

pub returns-clause-count : goal.returns-clause-count
returns-clause-count c =
    let count = (step c).count in
    let same = ap {B = ℕ} (λ targets. if is_waited targets then 0 else 1) (step c).after in
    omega (arith, count, same)

pub overflow_sub-self : goal.overflow_sub-self
overflow_sub-self c =
    let some = some_open c.args.self.now c.args.line.0 c.requires.kept c.requires.served in
    let one = c.from.ensures in
    let most = one_at_most c.is_free.result in
    omega (arith, some, one, most)
