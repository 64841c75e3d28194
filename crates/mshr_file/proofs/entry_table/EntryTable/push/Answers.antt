use Rattle.std.proofs.Common.{◌≡◌, ◌++◌, [], ◌∷◌, refl, ap, arith, ◌∙◌, Some, slice_set}
use Rattle.mshr_file.specs.Waiting.{waiting_in, IsEntryTable}
use Rattle.mshr_file.proofs.ByLine.{by_line_sound}
use Rattle.mshr_file.proofs.Entries.{pushed_entry, lines_pushed}
use Rattle.mshr_file.proofs.Slots.{put_in, slot_room}
use Rattle.mshr_file.proofs.Tags.{free_at}
use Rattle.mshr_file.proofs.entry_table.EntryTable.push.Goals as goal

pub push-requires : goal.push-requires
push-requires c = (
  omega arith,
  slot_room
      c.args.self.now (record { target = c.args.target; line = c.args.line }) c.requires.kept c.requires.tag
      (free_at c.args.target.tag (waiting_in c.args.self.now) c.requires.free),
)

step : (c : goal.After-push) →
    IsEntryTable
    (record {
      entries =
          slice_set c.args.self.now.entries c.args.target.tag
          (Some (record { target = c.args.target; line = c.args.line }));
      order = c.push.new.self;
    })
    × (waiting_in
    (record {
      entries =
          slice_set c.args.self.now.entries c.args.target.tag
          (Some (record { target = c.args.target; line = c.args.line }));
      order = c.push.new.self;
    })
    ≡ waiting_in c.args.self.now ++ (record { target = c.args.target; line = c.args.line }) ∷ [])
step c =
    put_in
    c.args.self.now
    (record {
      entries =
          slice_set c.args.self.now.entries c.args.target.tag
          (Some (record { target = c.args.target; line = c.args.line }));
      order = c.push.new.self;
    })
    (record { target = c.args.target; line = c.args.line })
    c.requires.kept c.requires.tag (free_at c.args.target.tag (waiting_in c.args.self.now) c.requires.free) refl
    (c.push.ensures.items
    ∙ ap (λ load. c.args.self.now.order.items ++
    (record { line = c.args.line; tag = c.args.target.tag; load = load }) ∷ []) c.is_load.ensures)

pub returns-clause-kept : goal.returns-clause-kept
returns-clause-kept c = (step c).0

pub returns-clause-added : goal.returns-clause-added
returns-clause-added c =
    let seen = (step c).1 in
    rw seen (pushed_entry (waiting_in c.args.self.now) (record { target = c.args.target; line = c.args.line }))

pub returns-clause-sound : goal.returns-clause-sound
returns-clause-sound c =
    by_line_sound
    (waiting_in
    (record {
      entries =
          slice_set c.args.self.now.entries c.args.target.tag
          (Some (record { target = c.args.target; line = c.args.line }));
      order = c.push.new.self;
    }))

pub returns-clause-lines : goal.returns-clause-lines
returns-clause-lines c =
    let seen = (step c).1 in
    rw seen (lines_pushed (waiting_in c.args.self.now) (record { target = c.args.target; line = c.args.line }))
