-- What is wrong with a line in its place.
use Rattle.std.proofs.Common.{◌≡◌, ℕ, zero, suc, Bool, true, false, ◌+◌, ◌-◌, ◌*◌, ◌/◌, ◌<◌, ◌≤◌, not, List, [], ◌∷◌}
use Rattle.std.proofs.Common.{◌++◌, map, length, None, Option, Some, refl, sym, ap, subst, ◌∙◌, inl, inr, arith, le-ltb}
use Rattle.std.proofs.Common.{lt-ltb, ltb-true, ltb-false, leb-false, ne_eqb, mul-zero, zero-mul, suc-mul, mul_comm}
use Rattle.std.specs.Prelude.{◌^◌, ◌==◌, ◌&&◌, ◌||◌, min, nat_lt, reverse, slice_get}
use Rattle.std.specs.List.{list_any}
use Rattle.std.proofs.lemmas.List.Folds.{list_any-append}
use Rattle.std.proofs.lemmas.List.{reverse-append}
use Rattle.std.proofs.lemmas.Bool.{cases_lt, eqb-false}
use Rattle.std.proofs.lemmas.Option.{slice_get-get_or}
use Rattle.address_map.specs.declared.config.Config.{Config}
use Rattle.address_map.specs.declared.request.Op.{Op}
use Rattle.address_map.specs.declared.request.Op.TheVariants as ops
use Rattle.litmus_text.specs.declared.fault.LineFault.{LineFault}
use Rattle.program_text.specs.declared.line.Line.{Line as ReadLine}
use Rattle.program_text.specs.declared.line.Line.TheVariants as read_lines
use Rattle.program_text.specs.declared.programs.Step.{Step}
use Rattle.program_text.specs.declared.range.Range.{Range}
use Rattle.program_text.specs.declared.reader.Block.{Block}
use Rattle.program_text.specs.declared.programs.CoreProgram.{CoreProgram}
use Rattle.program_text.specs.Fault.{program_of}
use Rattle.program_text.specs.Judged.{access_faults, count_of, fault_of, first_so, has_program, has_too_many, is_early}
use Rattle.program_text.specs.Judged.{is_first, is_limited, lacks_core, lacks_range, lacks_word}
use Rattle.program_text.specs.Line.{begin, end, line_of, repeat, settle}
use Rattle.program_text.specs.Text.{Program, Said, after_end, last_steps, said_access, said_line, spread}
use Rattle.program_text.specs.Text.{with_steps}
use Rattle.program_text.specs.Text.{said_settle, written_out}
use Rattle.program_text.specs.declared.programs.Step.TheVariants as step_kinds
use Rattle.program_text.proofs.BodyLemmas.{count_ended, count_settled, count_spread}

-- the first test that holds
pub so_here : (test : Bool) (fault : LineFault) (more : List (Bool × LineFault)) → test ≡ true
    → first_so ((test, fault) ∷ more) ≡ Some fault
unfolding first_so
so_here test fault more e = rw e

pub so_later : (test : Bool) (fault : LineFault) (more : List (Bool × LineFault)) (first : Option LineFault)
    → test ≡ false → first_so more ≡ first → first_so ((test, fault) ∷ more) ≡ first
unfolding first_so
so_later test fault more first e h = rw e h

pub so_never : first_so [] ≡ None
unfolding first_so
so_never = refl

pub ruleset in_order = (so_here, so_later, so_never)

-- an access is judged, and said, by its range and what it does
pub access_fault : (said : Said) (range : Range) (op : Op)
    → fault_of said (line_of (read_lines.Access range op)) ≡ first_so (access_faults said range.first range.last op)
unfolding fault_of
access_fault said range ops.Load = refl
access_fault said range (ops.Store value) = refl
access_fault said range (ops.Add delta) = refl
access_fault said range (ops.Cas expect new) = refl

pub access_said : (said : Said) (number : ℕ) (range : Range) (op : Op)
    → said_line said number (line_of (read_lines.Access range op)) ≡ said_access said range.first range.last op
access_said said number range ops.Load = refl
access_said said number range (ops.Store value) = refl
access_said said number range (ops.Add delta) = refl
access_said said number range (ops.Cas expect new) = refl

-- whether an access makes too many
pub too_many_spread : (said : Said) (first last : ℕ) (op : Op) → 1 ≤ length said.programs → first ≤ last
    → nat_lt 1000000 (count_of said.programs + (last - first + 1)) ≡ has_too_many (said_access said first last op)
too_many_spread said first last op some order =
    ap (nat_lt 1000000) (sym (count_spread said.programs first last op some order))

-- whether a step that waits makes too many
pub too_many_settled : (said : Said) → 1 ≤ length said.programs
    → nat_lt 1000000 (count_of said.programs + 1) ≡ has_too_many (said_settle said)
too_many_settled said some = ap (nat_lt 1000000) (sym (count_settled said.programs some))

-- where nothing is wrong, no test holds
pub none_so : (test : Bool) (fault : LineFault) (more : List (Bool × LineFault))
    → first_so ((test, fault) ∷ more) ≡ None → (test ≡ false) × (first_so more ≡ None)
unfolding first_so
none_so true fault more none = absurd (cc)
none_so false fault more none = (refl, none)

same_test : (a b : ℕ) → (1000000 < a → 1000000 < b) → (1000000 < b → 1000000 < a)
    → nat_lt 1000000 a ≡ nat_lt 1000000 b
same_test a b there back =
    elim (cases_lt 1000000 a) [
      | inl more ↦ lt-ltb 1000000 a more ∙ sym (lt-ltb 1000000 b (there more))
      | inr less ↦
          elim (cases_lt 1000000 b) [
            | inl more ↦ let above : 1000000 < a = back more in absurd (omega arith)
            | inr under ↦ le-ltb 1000000 a less ∙ sym (le-ltb 1000000 b under)
          ]
    ]

or_false : (a b : Bool) → (a || b) ≡ false → (a ≡ false) × (b ≡ false)
or_false true b none = absurd (cc)
or_false false b none = (refl, none)

not_false : (a : Bool) → not a ≡ false → a ≡ true
not_false true none = refl
not_false false none = absurd (cc)

pub in_range : (config : Config) (first last : ℕ) → lacks_range config first last ≡ false
    → (last / 8 < config.lines) × (first ≤ last)
in_range config first last none =
    let whole = or_false (lacks_word config first || lacks_word config last) (nat_lt last first) none in
    let both = or_false (lacks_word config first) (lacks_word config last) whole.0 in
    (ltb-true (last / 8) config.lines (not_false (nat_lt (last / 8) config.lines) both.1), ltb-false last first whole.1)

pub some_program : (said : Said) → is_early said ≡ false → 1 ≤ length said.programs
some_program said begun =
    let other = eqb-false (length said.programs) 0 begun in omega arith

-- a core that begins is one of the machine's, and a block that opens is not too deep
pub begins_core : (said : Said) (c : ℕ) → fault_of said (begin c) ≡ None → c < said.settings.config.cores
unfolding fault_of
begins_core said c none =
    let rest = (none_so _ _ _ none).1 in
    let both = (none_so _ _ _ rest).0 in
    let core = (or_false (lacks_core said.settings.config c) (has_program c said.programs) both).0 in
    ltb-true c said.settings.config.cores (not_false (nat_lt c said.settings.config.cores) core)

pub opens_block : (said : Said) (n : ℕ) → fault_of said (repeat n) ≡ None
    → (1 ≤ length said.programs) × (length said.blocks < 8)
unfolding fault_of
opens_block said n none =
    let first = none_so _ _ _ none in
    let second = none_so _ _ _ first.1 in
    (some_program said first.0, leb-false 8 (length said.blocks) second.0)

-- an access is to a range of the machine, in a program, and makes few enough
pub record IsAccessible (said : Said) (first last : ℕ) (op : Op) : Type 0 where
  pub some : 1 ≤ length said.programs
  pub within : last / 8 < said.settings.config.lines
  pub order : first ≤ last
  pub few : count_of (said_access said first last op).programs ≤ 1000000

pub accessible : (said : Said) (first last : ℕ) (op : Op) → first_so (access_faults said first last op) ≡ None
    → IsAccessible said first last op
accessible said first last op none =
    let early = none_so _ _ _ none in
    let range = none_so _ _ _ early.1 in
    let many = none_so _ _ _ range.1 in
    let both = in_range said.settings.config first last range.0 in
    record {
      some = some_program said early.0;
      within = both.0;
      order = both.1;
      few = ltb-false 1000000 (count_of (said_access said first last op).programs) many.0;
    }

-- .. and so does a step that waits
pub settles : (said : Said) → fault_of said settle ≡ None
    → (1 ≤ length said.programs) × (count_of (said_settle said).programs ≤ 1000000)
unfolding fault_of
settles said none =
    let early = none_so _ _ _ none in
    let many = none_so _ _ _ early.1 in
    (some_program said early.0, ltb-false 1000000 (count_of (said_settle said).programs) many.0)

-- .. and so does the end of a block
pub closes : (said : Said) → fault_of said end ≡ None
    → (1 ≤ length said.blocks) × (count_of (after_end said.blocks said).programs ≤ 1000000)
unfolding fault_of
closes said none =
    let open_now = none_so _ _ _ none in
    let many = none_so _ _ _ open_now.1 in
    let other = eqb-false (length said.blocks) 0 open_now.0 in
    (omega arith, ltb-false 1000000 (count_of (after_end said.blocks said).programs) many.0)

-- a block is open, and ends
pub record EndsWith (blocks : List Block) (last : Block) : Type 0 where
  pub front : List Block
  pub is : blocks ≡ front ++ last ∷ []

the_last : (blocks : List Block) (i : ℕ) (last : Block) → length blocks ≡ i + 1 → slice_get blocks i ≡ Some last
    → EndsWith blocks last
the_last [] i last count at = absurd (omega arith)
the_last (x ∷ []) zero last count at =
    let same : x ≡ last = cc in
    record { front = []; is = ap (λ (b : Block). b ∷ []) same }
the_last (x ∷ []) (suc i) last count at = absurd (omega arith)
the_last (x ∷ y ∷ more) zero last count at = absurd (omega arith)
the_last (x ∷ y ∷ more) (suc i) last count at =
    let rest = the_last (y ∷ more) i last (omega arith) at in
    record { front = x ∷ rest.front; is = ap (λ (bs : List Block). x ∷ bs) rest.is }

pub ends_with : (blocks : List Block) (last : Block) → slice_get blocks (length blocks - 1) ≡ Some last
    → EndsWith blocks last
ends_with [] last at = absurd (cc)
ends_with (x ∷ more) last at =
    let count : length (x ∷ more) - 1 ≡ length more = omega arith in
    the_last (x ∷ more) (length more) last (omega arith) (rw count at at)

pub none_open : (blocks : List Block) → slice_get blocks (length blocks - 1) ≡ None → blocks ≡ []
none_open [] at = refl
none_open (x ∷ more) at =
    absurd (let some = slice_get-get_or (x ∷ more) (length (x ∷ more) - 1) x (omega arith) in cc)

counts : (count after body n more : ℕ) → after + body ≡ count + n * body → count ≤ 1000000
    → more ≡ min (body * (n - 1)) (2 ^ 64 - 1) → nat_lt 1000000 (count + more) ≡ nat_lt 1000000 after
counts count after body zero more sum few is =
    let none : body * (zero - 1) ≡ 0 = mul-zero body in
    same_test (count + more) after (λ above. omega (arith, none)) (λ above. omega (arith, none, zero-mul body))
counts count after body (suc n) more sum few is =
    let less : suc n - 1 ≡ n = omega arith in
    let rounds : body * (suc n - 1) ≡ body * n = ap (λ k. body * k) less in
    let first = suc-mul n body in
    let turned = mul_comm body n in
    same_test (count + more) after (λ above. omega (arith, rounds, first, turned))
    (λ above. omega (arith, rounds, first, turned))

-- whether its end makes too many
pub too_many_ended : (said : Said) (block : Block) (outer : List Block) (more : ℕ)
    → said.blocks ≡ block ∷ outer
    → 1 ≤ length said.programs → count_of said.programs ≤ 1000000
    → more ≡ min ((last_steps said.programs - block.start) * (block.times - 1)) (2 ^ 64 - 1)
    → nat_lt 1000000 (count_of said.programs + more) ≡ has_too_many (after_end said.blocks said)
too_many_ended said block outer more stands some few is =
    rw stands
    (counts (count_of said.programs) _ (last_steps said.programs - block.start) block.times more
    (count_ended said.programs block.start block.times some) few is)

or_swap : (a b : Bool) → (a || (b || false)) ≡ (b || a)
or_swap true true = refl
or_swap true false = refl
or_swap false true = refl
or_swap false false = refl

-- whether a core has a program, whichever way they are looked through
any_reverse : {X : Type 0} (p : X → Bool) (xs : List X) → list_any p (reverse xs) ≡ list_any p xs
any_reverse p [] = refl
any_reverse p (x ∷ xs) =
    ap (list_any p) (reverse-append (x ∷ []) xs) ∙ list_any-append p (reverse xs) (x ∷ [])
    ∙ ap (λ b. b || (p x || false)) (any_reverse p xs) ∙ or_swap (list_any p xs) (p x)

any_map : {X Y : Type 0} (f : X → Y) (p : Y → Bool) (xs : List X)
    → list_any p (map f xs) ≡ list_any (λ x. p (f x)) xs
any_map f p [] = refl
any_map f p (x ∷ xs) = ap (λ b. p (f x) || b) (any_map f p xs)

pub has_program-of : (core : ℕ) (cores : List CoreProgram)
    → has_program core (reverse (map program_of cores))
    ≡ list_any (λ (program : CoreProgram). program.core.0 == core) cores
has_program-of core cores =
    any_reverse (λ (program : Program). program.0.0 == core) (map program_of cores)
    ∙ any_map program_of (λ (program : Program). program.0.0 == core) cores

pub or_else : (a b r : Bool) → false ≡ a → r ≡ b → r ≡ (a || b)
or_else a b r e h = subst (λ x. r ≡ (x || b)) e h

pub ended_none : (said : Said) → said.blocks ≡ [] → count_of said.programs ≤ 1000000
    → false ≡ has_too_many (after_end said.blocks said)
ended_none said none few = rw none (sym (le-ltb 1000000 (count_of said.programs) few))

pub judged_access : (said : Said) (line : ReadLine) (range : Range) (op : Op) → line ≡ read_lines.Access range op
    → fault_of said (line_of line) ≡ first_so (access_faults said range.first range.last op)
judged_access said line range op is = ap (λ (l : ReadLine). fault_of said (line_of l)) is ∙ access_fault said range op

pub length-with_steps : (change : List Step → List Step) (programs : List Program)
    → length (with_steps change programs) ≡ length programs
length-with_steps change [] = refl
length-with_steps change (program ∷ earlier) = refl

begun_access : (said : Said) (first last : ℕ) (op : Op) → first_so (access_faults said first last op) ≡ None
    → is_early (said_access said first last op) ≡ false
begun_access said first last op none =
    let may = accessible said first last op none in
    let same = length-with_steps (λ steps. steps ++ spread first last op) said.programs in
    ne_eqb (length (said_access said first last op).programs) 0 (λ zero. omega (arith, may.some, same))

begun_end : (blocks : List Block) (said : Said) → 1 ≤ length said.programs → is_early (after_end blocks said) ≡ false
begun_end [] said some = ne_eqb (length said.programs) 0 (λ zero. omega arith)
begun_end (block ∷ outer) said some =
    let same = length-with_steps (written_out block.start block.times) said.programs in
    ne_eqb (length (after_end (block ∷ outer) said).programs) 0 (λ zero. omega (arith, some, same))

begun_settle : (said : Said) → 1 ≤ length said.programs → is_early (said_settle said) ≡ false
begun_settle said some =
    let same = length-with_steps (λ steps. steps ++ step_kinds.Settle ∷ []) said.programs in
    ne_eqb (length (said_settle said).programs) 0 (λ zero. omega (arith, some, same))

and_first : (a b : Bool) → a ≡ false → (a && b) ≡ false
and_first false b e = refl
and_first true b e = absurd (cc)

and_last : (a : Bool) → (a && false) ≡ false
and_last false = refl
and_last true = refl

begun_first : (said : Said) → is_early said ≡ false → is_first said ≡ false
begun_first said begun = and_first (is_early said) _ begun

-- something was said that doesn't configure once such a line was read
pub begun_line : (said : Said) (number : ℕ) (line : ReadLine) → (1 ≤ length said.blocks → 1 ≤ length said.programs)
    → fault_of said (line_of line) ≡ None → is_first (said_line said number (line_of line)) ≡ false
begun_line said number (read_lines.Outstanding most) open_in none = and_last (is_early said)
begun_line said number (read_lines.Pace most) open_in none =
    ap (λ b. is_early said && b) (and_last (not (is_limited said.limits.outstanding))) ∙ and_last (is_early said)
begun_line said number (read_lines.Core c) open_in none =
    begun_first (said_line said number (begin c))
    (ne_eqb (length (said_line said number (begin c)).programs) 0 (λ zero. omega arith))
begun_line said number (read_lines.Access range op) open_in none =
    begun_first (said_line said number (line_of (read_lines.Access range op)))
    (ap is_early (access_said said number range op)
    ∙ begun_access said range.first range.last op (sym (access_fault said range op) ∙ none))
begun_line said number read_lines.Settle open_in none =
    begun_first (said_settle said) (begun_settle said (settles said none).0)
begun_line said number (read_lines.Repeat n) open_in none =
    begun_first (said_line said number (repeat n))
    (ne_eqb (length said.programs) 0 (λ zero. omega (arith, (opens_block said n none).0)))
begun_line said number read_lines.End open_in none =
    begun_first (after_end said.blocks said) (begun_end said.blocks said (open_in (closes said none).0))
