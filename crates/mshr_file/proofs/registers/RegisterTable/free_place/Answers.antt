use Rattle.std.proofs.Common.{◌∙◌, sym, ap}
use Rattle.std.specs.List.{position}
use Rattle.mshr_file.specs.Register.{is_free_row}
use Rattle.mshr_file.proofs.Rows.{IsFreeAt, free_found, free_at}
use Rattle.mshr_file.proofs.registers.RegisterTable.free_place.Goals as goal

pub unwrap-requires : goal.unwrap-requires
unwrap-requires c =
    rw (c.first_free.ensures, c.deref.ensures.value) (free_found c.args.self.now c.requires.kept c.requires.room)

at : (c : goal.After-unwrap) → IsFreeAt c.args.self.now c.unwrap.result
at c = free_at c.args.self.now c.unwrap.result c.requires.kept
    (ap (position is_free_row) (sym c.deref.ensures.value) ∙ sym c.first_free.ensures ∙ c.unwrap.ensures)

pub returns-clause-row : goal.returns-clause-row
returns-clause-row c = (at c).row

pub returns-clause-inside : goal.returns-clause-inside
returns-clause-inside c = (at c).inside

pub returns-clause-free : goal.returns-clause-free
returns-clause-free c = (at c).free
