use Rattle.std.proofs.Common.{[], ◌∷◌, None, refl, sym, ap, ◌∙◌, slice_set}
use Rattle.std.specs.Prelude.{unwrap_or}
use Rattle.std.specs.List.{position}
use Rattle.mshr_file.specs.Waiting.{slot_for, no_waiting, waiting_in, IsEntryTable, TakesEntries}
use Rattle.mshr_file.proofs.Slots.{slot_found, slot_held, taken_out}
use Rattle.mshr_file.proofs.entry_table.take_entry.Goals as goal

pub unwrap-place-requires : goal.unwrap-place-requires
unwrap-place-requires c =
    rw (c.first_for.ensures, c.as_slice.ensures.value)
    (slot_found c.args.table.now c.args.line.0 c.requires.kept c.requires.some)

pub bounds-table-tag : goal.bounds-table-tag
bounds-table-tag c =
    (slot_held c.args.table.now c.args.line.0 c.unwrap-place.result c.remove-tag.result c.requires.kept
    (ap (position (slot_for c.args.line.0)) (sym c.as_slice.ensures.value) ∙ sym c.first_for.ensures
    ∙ c.unwrap-place.ensures)
    c.remove-tag.ensures.value).0

pub bounds-table-tag-2 : goal.bounds-table-tag-2
bounds-table-tag-2 c =
    (slot_held c.args.table.now c.args.line.0 c.unwrap-place.result c.remove-tag.result c.requires.kept
    (ap (position (slot_for c.args.line.0)) (sym c.as_slice.ensures.value) ∙ sym c.first_for.ensures
    ∙ c.unwrap-place.ensures)
    c.remove-tag.ensures.value).0

pub unwrap-requires : goal.unwrap-requires
unwrap-requires c =
    (slot_held c.args.table.now c.args.line.0 c.unwrap-place.result c.remove-tag.result c.requires.kept
    (ap (position (slot_for c.args.line.0)) (sym c.as_slice.ensures.value) ∙ sym c.first_for.ensures
    ∙ c.unwrap-place.ensures)
    c.remove-tag.ensures.value).1 _ refl

step : (c : goal.After-result-1) →
    IsEntryTable
    (record {
      entries = slice_set c.args.table.now.entries c.remove-tag.result.tag None;
      order =
          c.remove-tag.new.self;
    })
    × TakesEntries (waiting_in c.args.table.now) c.args.line.0 (c.unwrap.result.target ∷ [])
    (waiting_in
    (record {
      entries = slice_set c.args.table.now.entries c.remove-tag.result.tag None;
      order =
          c.remove-tag.new.self;
    }))
step c =
    taken_out
    c.args.table.now
    (record {
      entries = slice_set c.args.table.now.entries c.remove-tag.result.tag None;
      order =
          c.remove-tag.new.self;
    })
    c.args.line.0 c.unwrap-place.result c.remove-tag.result c.unwrap.result c.requires.kept c.requires.some
    (ap (position (slot_for c.args.line.0)) (sym c.as_slice.ensures.value) ∙ sym c.first_for.ensures
    ∙ c.unwrap-place.ensures)
    c.remove-tag.ensures.value (ap (λ held. unwrap_or held no_waiting) (sym c.unwrap.ensures)) refl
    c.remove-tag.ensures.items

pub returns-clause-kept : goal.returns-clause-kept
returns-clause-kept c = (step c).0

pub returns-clause-taken : goal.returns-clause-taken
returns-clause-taken c = (step c).1
