use Rattle.std.proofs.Common.{◌≡◌, ◌+◌, ◌-◌, ◌==◌, arith, drop, length, length-drop, take}
use Rattle.std.proofs.lemmas.Bool.Decides.{nat_tests}
use Rattle.std.proofs.lemmas.List.{take_all}
use Rattle.std.specs.Str.Lines.{strip_carriage_return}
use Rattle.litmus_text.proofs.LineLemmas.{lines_at_feed, lines_without_feed}
use Rattle.litmus_text.proofs.PlaceLemmas.{first_byte}
use Rattle.litmus_text.proofs.line.split_line.Goals as goal

pub returns-in-13-clause-lines : goal.returns-in-13-clause-lines
returns-in-13-clause-lines c =
    let text = c.args.text.now in
    let first = first_byte (λ b. b == 10) text c.memchr.result c.memchr.ensures in
    let next = c.in-Some.end + 1 in
    let rest = take_all (length text - next) (drop next text) (simp length-drop (omega arith)) in
    let stripped : take (length (take c.in-Some.end text) - 1) (take c.in-Some.end text)
    ≡ strip_carriage_return (take c.in-Some.end text) = grind (arith, nat_tests) in
    rw (rest, stripped) (lines_at_feed text c.in-Some.end cc)

pub returns-in_default-clause-lines : goal.returns-in_default-clause-lines
returns-in_default-clause-lines c =
    let text = c.args.text.now in
    let first = first_byte (λ b. b == 10) text c.memchr.result c.memchr.ensures in
    let next = c.in-Some.end + 1 in
    let rest = take_all (length text - next) (drop next text) (simp length-drop (omega arith)) in
    let whole : take c.in-Some.end text ≡ strip_carriage_return (take c.in-Some.end text) = grind (arith, nat_tests) in
    rw (rest, whole) (lines_at_feed text c.in-Some.end cc)

pub returns-in-None-clause-lines : goal.returns-in-None-clause-lines
returns-in-None-clause-lines c =
    let text = c.args.text.now in
    let none = first_byte (λ b. b == 10) text c.memchr.result c.memchr.ensures in
    lines_without_feed text c.requires cc
