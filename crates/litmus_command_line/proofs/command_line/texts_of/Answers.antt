use Rattle.std.proofs.Common.{◌∙◌, ap, map, sym}
use Rattle.std.proofs.lemmas.Result.{IfOk-weaker}
use Rattle.std.specs.Prelude.{List}
use Rattle.std.specs.Borrow.{Bor}
use Rattle.clap.specs.Words.{Text, found_of}
use Rattle.litmus_command_line.proofs.AskedLemmas.{none_of_all, some_given}
use Rattle.litmus_command_line.proofs.command_line.texts_of.Goals as goal

pub returns-in-Some : goal.returns-in-Some
returns-in-Some c =
    let there = some_given (found_of c.args.given.now) c.args.name.now c.get_strs.result _ c.in-Some.is
    c.get_strs.ensures in
    IfOk-weaker c.from_slice.result _ _
    (λ made copied. ap (λ (all : List (Bor Text)). map (λ v. v.now) all) copied ∙ sym there)
    c.from_slice.ensures.items

pub returns-in-None : goal.returns-in-None
returns-in-None c =
    let none = none_of_all (found_of c.args.given.now) c.args.name.now c.get_strs.result c.in-None.is
    c.get_strs.ensures in
    ap (λ (all : List (Bor Text)). map (λ v. v.now) all) c.new.ensures.items ∙ sym none
