use Rattle.mshr_file.proofs.ByLine.{by_line_sound}
use Rattle.mshr_file.proofs.inverted.InvertedFileMissFile.find.Goals as goal

pub returns-clause-sound : goal.returns-clause-sound
returns-clause-sound c = by_line_sound c.args.self.now
