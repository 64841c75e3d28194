use Rattle.std.proofs.Common.{ap, arith, length, length-append, sym, [], ◌∷◌, ◌∙◌}
use Rattle.std.specs.Prelude.{reverse}
use Rattle.std.proofs.lemmas.Grind.{common_steps}
use Rattle.std.proofs.lemmas.List.{length-map, length-reverse}
use Rattle.program_text.specs.Fault.{program_of, programs_of}
use Rattle.program_text.specs.Reading.{said_by}
use Rattle.program_text.proofs.BodyLemmas.{blocks_push}
use Rattle.program_text.proofs.JudgedLemmas.{ended_none, ends_with, none_open, too_many_ended}
use Rattle.program_text.proofs.reader.Reader.repeats_too_often.Goals as goal

pub returns-in_default : goal.returns-in_default
unfolding said_by
returns-in_default c =
    ended_none (said_by c.args.self.now)
    (ap reverse (none_open c.args.self.now.blocks.items
    (sym (rw c.as_slice-blocks.ensures.value at c.in_default.ensures.value))))
    (omega (arith, c.requires.count, c.requires.few))

pub returns : goal.returns
unfolding said_by
returns c =
    let last = ends_with c.args.self.now.blocks.items c.in-Some.block.now
    (sym (rw c.as_slice-blocks.ensures.value at c.in-Some.ensures.value)) in
    c.has_too_many.ensures
    ∙ too_many_ended (said_by c.args.self.now) c.in-Some.block.now (reverse last.front) _
    (ap reverse last.is ∙ blocks_push last.front c.in-Some.block.now)
    (omega (
      arith,
      c.requires.begun (omega (arith, ap length last.is, length-append last.front (c.in-Some.block.now ∷ []))),
      length-reverse (programs_of c.args.self.now.programs),
      length-map c.args.self.now.programs.cores.items program_of,
    ))
    (omega (arith, c.requires.count, c.requires.few)) (grind (arith, common_steps))
