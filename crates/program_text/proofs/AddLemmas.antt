-- What a reader has once a line was added.
use Rattle.std.proofs.Common.{◌≡◌, ℕ, ◌+◌, ◌-◌, ◌≤◌, List, [], ◌∷◌, ◌++◌, length, map, refl, sym, ap, subst, ◌∙◌, arith}
use Rattle.std.specs.Prelude.{reverse}
use Rattle.std.proofs.lemmas.List.{length-map, length-reverse}
use Rattle.address_map.specs.declared.request.Op.{Op}
use Rattle.program_text.specs.declared.programs.CoreProgram.{CoreProgram}
use Rattle.program_text.specs.declared.programs.Step.{Step}
use Rattle.program_text.specs.declared.programs.Step.TheVariants as step_kinds
use Rattle.program_text.specs.declared.reader.Block.{Block}
use Rattle.program_text.specs.declared.reader.Reader.{Reader}
use Rattle.program_text.specs.Fault.{program_of, programs_of}
use Rattle.program_text.specs.Judged.{count_of}
use Rattle.program_text.specs.Reading.{said_by}
use Rattle.program_text.specs.Text.{Program, Said, after_end, last_steps, said_settle, spread, with_steps}
use Rattle.program_text.specs.Text.{written_out}
use Rattle.program_text.proofs.BodyLemmas.{count_changed, count_settled, count_spread}
use Rattle.program_text.proofs.JudgedLemmas.{IsAccessible, length-with_steps}

pub some_core : (reader : Reader) → 1 ≤ length (said_by reader).programs → 1 ≤ length reader.programs.cores.items
unfolding said_by
some_core reader some =
    omega (arith, some, length-reverse (programs_of reader.programs), length-map reader.programs.cores.items program_of)

pub some_core_after : (cores : List CoreProgram) (change : List Step → List Step) (programs : List Program)
    → reverse (map program_of cores) ≡ with_steps change programs → 1 ≤ length programs → 1 ≤ length cores
some_core_after cores change programs is some =
    omega (
      arith,
      some,
      ap length is,
      length-with_steps change programs,
      length-reverse (map program_of cores),
      length-map cores program_of,
    )

pub with_programs : (said : Said) (ps qs : List Program) → ps ≡ qs
    → let one : Said = record said { programs = ps } in let other : Said = record said { programs = qs } in one ≡ other
with_programs said ps qs same = ap (λ xs. let s : Said = record said { programs = xs } in s) same

-- the steps to a range
pub spread_fits : (said : Said) (first last : ℕ) (op : Op) → IsAccessible said first last op
    → count_of said.programs + (last - first + 1) ≤ 1000000
spread_fits said first last op may =
    omega (arith, may.few, count_spread said.programs first last op may.some may.order)

pub spread_counted : (said : Said) (after : List Program) (steps first last : ℕ) (op : Op)
    → steps ≡ count_of said.programs → IsAccessible said first last op
    → after ≡ with_steps (λ xs. xs ++ spread first last op) said.programs
    → (steps + (last - first + 1) ≡ count_of after) × (steps + (last - first + 1) ≤ 1000000)
spread_counted said after steps first last op count may is =
    let same = ap count_of is in
    let more = count_spread said.programs first last op may.some may.order in
    (omega (arith, count, same, more), omega (arith, count, spread_fits said first last op may))

-- a step that waits
pub settle_counted : (said : Said) (after : List Program) (steps : ℕ) → steps ≡ count_of said.programs
    → 1 ≤ length said.programs → count_of (said_settle said).programs ≤ 1000000
    → after ≡ with_steps (λ xs. xs ++ step_kinds.Settle ∷ []) said.programs
    → (steps + 1 ≡ count_of after) × (steps + 1 ≤ 1000000)
settle_counted said after steps count some few is =
    let same = ap count_of is in
    let more = count_settled said.programs some in
    (omega (arith, count, same, more), omega (arith, count, few, more))

-- the end of a block
pub last_few : (programs : List Program) → last_steps programs ≤ count_of programs
last_few [] = omega arith
last_few (program ∷ earlier) =
    let whole : count_of (program ∷ earlier) ≡ length program.1 + count_of earlier = refl in
    let last : last_steps (program ∷ earlier) ≡ length program.1 = refl in
    omega (arith, whole, last)

pub ended_said : (said : Said) (block : Block) (outer : List Block) (after : List Program)
    → said.blocks ≡ block ∷ outer → after ≡ with_steps (written_out block.start block.times) said.programs
    → let new : Said = record {
      settings = said.settings;
      limits = said.limits;
      programs = after;
      blocks = outer;
    } in
    new ≡ after_end said.blocks said
ended_said said block outer after stands is =
    subst
    (λ (bs : List Block).
    let new : Said = record {
      settings = said.settings;
      limits = said.limits;
      programs = after;
      blocks = outer;
    } in new ≡ after_end bs said)
    (sym stands)
    (ap
    (λ (ps : List Program).
    let s : Said = record {
      settings = said.settings;
      limits = said.limits;
      programs = ps;
      blocks = outer;
    } in s)
    is)

pub ended_counted : (said : Said) (block : Block) (outer : List Block) (after : List Program)
    (steps before next : ℕ) → said.blocks ≡ block ∷ outer → 1 ≤ length said.programs
    → steps ≡ count_of said.programs → count_of (after_end said.blocks said).programs ≤ 1000000
    → after ≡ with_steps (written_out block.start block.times) said.programs → before ≡ last_steps said.programs
    → next ≡ last_steps after
    → (before ≤ steps) × (steps - before + next ≡ count_of after) × (steps - before + next ≤ 1000000)
ended_counted said block outer after steps before next stands some count few is first last =
    let fits : count_of (with_steps (written_out block.start block.times) said.programs) ≤ 1000000 =
    subst (λ (bs : List Block). count_of (after_end bs said).programs ≤ 1000000) stands few in
    let same = ap count_of is in
    let last_same = ap last_steps is in
    let changed = count_changed (written_out block.start block.times) said.programs some in
    let within = last_few said.programs in (
      omega (arith, count, first, within),
      omega (arith, count, first, last, within, same, last_same, changed),
      omega (arith, count, first, last, within, same, last_same, changed, fits),
    )
