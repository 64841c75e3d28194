use Rattle.std.proofs.Common.{◌<◌, ◌^◌, rules}
use Rattle.address_map.proofs.CoreSets.{has-past}
use Rattle.directory_table.proofs.OnlyRow.{lawful-only}
use Rattle.directory_table.proofs.RowLaws.{cell-sets, lawful}
use Rattle.directory_table.specs.Law.{IsSet}
use Rattle.directory_table.specs.Row.{row_of}
use Rattle.directory_table.proofs.row.dir_row.Goals as goal

pub returns-clause-owner : goal.returns-clause-owner
returns-clause-owner c = rw c.cell.ensures (lawful c.args.exclusive c.args.entry.now c.args.event).owner_in_m

pub returns-clause-home : goal.returns-clause-home
returns-clause-home c = rw c.cell.ensures (lawful c.args.exclusive c.args.entry.now c.args.event).home

pub returns-clause-served : goal.returns-clause-served
returns-clause-served c = rw c.cell.ensures (lawful c.args.exclusive c.args.entry.now c.args.event).served

pub returns-clause-known : goal.returns-clause-known
returns-clause-known c = rw c.cell.ensures (lawful c.args.exclusive c.args.entry.now c.args.event).known

pub returns-clause-granted : goal.returns-clause-granted
returns-clause-granted c = rw c.cell.ensures (lawful c.args.exclusive c.args.entry.now c.args.event).granted

pub returns-clause-invalidated : goal.returns-clause-invalidated
returns-clause-invalidated c = rw c.cell.ensures (lawful c.args.exclusive c.args.entry.now c.args.event).invalidated

pub returns-clause-acknowledgements : goal.returns-clause-acknowledgements
returns-clause-acknowledgements c =
    rw c.cell.ensures (lawful c.args.exclusive c.args.entry.now c.args.event).acknowledgements

pub returns-clause-sharers : goal.returns-clause-sharers
returns-clause-sharers c = rw c.cell.ensures (lawful c.args.exclusive c.args.entry.now c.args.event).shared

pub returns-clause-messages : goal.returns-clause-messages
returns-clause-messages c = rw c.cell.ensures (lawful c.args.exclusive c.args.entry.now c.args.event).messages

pub returns-clause-idle : goal.returns-clause-idle
returns-clause-idle c = rw c.cell.ensures (lawful c.args.exclusive c.args.entry.now c.args.event).idle

pub returns-clause-awaited : goal.returns-clause-awaited
returns-clause-awaited c = rw c.cell.ensures (lawful c.args.exclusive c.args.entry.now c.args.event).awaited

pub returns-clause-blocked : goal.returns-clause-blocked
returns-clause-blocked c = rw c.cell.ensures (lawful c.args.exclusive c.args.entry.now c.args.event).blocked

pub returns-clause-exclusive : goal.returns-clause-exclusive
returns-clause-exclusive c = rw c.cell.ensures (lawful c.args.exclusive c.args.entry.now c.args.event).only_copy

pub returns-clause-replied : goal.returns-clause-replied
returns-clause-replied c = rw c.cell.ensures (lawful c.args.exclusive c.args.entry.now c.args.event).replied

pub returns-clause-sharers_in_s : goal.returns-clause-sharers_in_s
returns-clause-sharers_in_s c = rw c.cell.ensures (lawful c.args.exclusive c.args.entry.now c.args.event).sharers_in_s

pub returns-clause-only : goal.returns-clause-only
returns-clause-only c =
    let exclusive = c.args.exclusive in
    let entry = c.args.entry.now in
    let event = c.args.event in
    let fits : entry.sharers < 2 ^ 64 = search rules in
    let small : IsSet entry.sharers = λ core past. has-past entry.sharers core fits past in
    let sets = cell-sets exclusive entry.state entry.owner entry.sharers event small in
    rw c.cell.ensures (λ kept other sets_too law.
    lawful-only exclusive entry.state entry.owner entry.sharers event (row_of exclusive entry event) other kept sets
    sets_too (lawful exclusive entry event) law)
