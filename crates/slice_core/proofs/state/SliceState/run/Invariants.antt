use Rattle.std.proofs.Common.{take}
use Rattle.std.specs.Prelude.{All}
use Rattle.slice_core.specs.Facts.{IsSameSlice}
use Rattle.slice_core.specs.Run.{IsOneRun, IsUnbroken, Runs}
use Rattle.slice_core.proofs.state.SliceState.run.Given as goal

abbrev pub invariant-loop-place : goal.invariant-loop-place
invariant-loop-place g l = record {
  same : IsSameSlice l.fn.self l.self;
  run : Runs l.fn.self (take l.place l.calls) (take l.place l.answers) l.self;
  machine : IsOneRun l.fn.self (take l.place l.calls) (take l.place l.answers) l.self;
  unbroken : All IsUnbroken (take l.place l.answers);
}
