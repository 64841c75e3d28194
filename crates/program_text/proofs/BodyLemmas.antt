-- Accesses that are spread, and written out, and how many there are.
use Rattle.std.proofs.Common.{◌≡◌, ℕ, zero, suc, ◌+◌, ◌-◌, ◌*◌, ◌<◌, ◌≤◌, List, [], ◌∷◌, ◌++◌}
use Rattle.std.proofs.Common.{length, get_or, map, take, drop, refl, sym, ap, ap₂, ◌∙◌, arith}
use Rattle.std.proofs.Common.{append_assoc, append-nil, length-append, length-drop, suc-mul}
use Rattle.std.proofs.Math.Seq.{take-append_seam}
use Rattle.std.specs.Prelude.{reverse, slice_range}
use Rattle.std.specs.List.{range_with_len}
use Rattle.std.proofs.Math.ListN.{set}
use Rattle.std.proofs.lemmas.List.{drop-append-le, drop_all, get_or-drop, get_or_append_left}
use Rattle.std.proofs.lemmas.List.{map-append, reverse-append, take_all, take_more, take-append-drop}
use Rattle.std.proofs.lemmas.List.FromFn.{length-map-range_with_len, map-range_with_len_more}
use Rattle.address_map.specs.declared.request.Op.{Op}
use Rattle.program_text.specs.declared.programs.Step.{Step}
use Rattle.program_text.specs.declared.programs.Step.TheVariants as step_kinds
use Rattle.program_text.specs.declared.programs.CoreProgram.{CoreProgram}
use Rattle.program_text.specs.declared.reader.Block.{Block}
use Rattle.program_text.specs.Fault.{program_of}
use Rattle.program_text.specs.Judged.{count_of}
use Rattle.program_text.specs.Text.{Program, access_to, last_steps, spread, times, with_steps, written_out}

-- one more access of a range
pub spread_more : (op : Op) (first word : ℕ) (old now : List Step) → first ≤ word
    → now ≡ old ++ map (access_to op) (range_with_len first (word - first))
    → now ++ access_to op word ∷ [] ≡ old ++ map (access_to op) (range_with_len first (word + 1 - first))
spread_more op first word old now order is =
    let count : word + 1 - first ≡ word - first + 1 = omega arith in
    let more = map-range_with_len_more (access_to op) first (word - first) word (omega arith) in
    rw (is, count, more)
    (append_assoc old (map (access_to op) (range_with_len first (word - first))) (access_to op word ∷ []))

-- one more of the steps that are there already
pub again_more : (old now : List Step) (start place : ℕ) (step : Step) → start ≤ place → place < length old
    → now ≡ old ++ slice_range old start place → step ≡ get_or now place step
    → now ++ step ∷ [] ≡ old ++ slice_range old start (place + 1)
again_more old now start place step order within is here =
    let text : List Step = slice_range old start place in
    let back : start + (place - start) ≡ place = omega arith in
    let at : step ≡ get_or (drop start old) (place - start) step =
    here ∙ ap (λ (xs : List Step). get_or xs place step) is ∙ get_or_append_left old text step place within
    ∙ sym (get_or-drop start old (place - start) step ∙ ap (λ i. get_or old i step) back) in
    let short : place - start < length (drop start old) = omega (arith, length-drop start old) in
    let count : place + 1 - start ≡ place - start + 1 = omega arith in
    let more : slice_range old start (place + 1) ≡ text ++ step ∷ [] =
    ap (λ n. take n (drop start old)) count ∙ take_more (drop start old) (place - start) step short
    ∙ ap (λ (x : Step). text ++ x ∷ []) (sym at) in
    ap (λ (xs : List Step). xs ++ step ∷ []) is ∙ append_assoc old text (step ∷ [])
    ∙ ap (λ (xs : List Step). old ++ xs) (sym more)

pub again_within : (old now : List Step) (start place : ℕ) → now ≡ old ++ slice_range old start place
    → place < length old → place < length now
again_within old now start place is within =
    omega (arith, ap length is, length-append old (slice_range old start place))

pub again_none : (old : List Step) (start : ℕ) → old ≡ old ++ slice_range old start start
again_none old start =
    let none : start - start ≡ 0 = omega arith in
    rw none (sym (append-nil old))

pub spread_none : (op : Op) (first : ℕ) (old : List Step)
    → old ≡ old ++ map (access_to op) (range_with_len first (first - first))
spread_none op first old =
    let none : first - first ≡ 0 = omega arith in
    rw none (sym (append-nil old))

pub spread_all : (op : Op) (first last word : ℕ) (old now : List Step) → word ≡ last + 1
    → now ≡ old ++ map (access_to op) (range_with_len first (word - first)) → now ≡ old ++ spread first last op
spread_all op first last word old now at is =
    is ∙ ap (λ k. old ++ map (access_to op) (range_with_len first (k - first))) at

-- all of them are there once more
pub times_next : (n : ℕ) (body : List Step) → times n body ++ body ≡ times (suc n) body
times_next zero body = sym (append-nil body)
times_next (suc n) body =
    append_assoc body (times n body) body ∙ ap (λ rest. body ++ rest) (times_next n body)

pub times_nothing : (n : ℕ) → times n [] ≡ []
times_nothing zero = refl
times_nothing (suc n) = times_nothing n

pub round_more : (old now new : List Step) (start end n more : ℕ) → start ≤ length old → end ≡ length old
    → more ≡ n + 1
    → now ≡ old ++ times n (drop start old) → new ≡ now ++ slice_range now start end
    → new ≡ old ++ times more (drop start old)
round_more old now new start end n more within end_is count_is is made_to =
    let as_suc : more ≡ suc n = omega arith in
    let made : new ≡ now ++ slice_range now start (length old) =
    made_to ∙ ap (λ e. now ++ slice_range now start e) end_is in
    let body : List Step = drop start old in
    let rest : List Step = times n body in
    let count : length old - start ≡ length body = omega (arith, length-drop start old) in
    let same : slice_range now start (length old) ≡ body =
    ap (λ (xs : List Step). slice_range xs start (length old)) is
    ∙ ap (take (length old - start)) (drop-append-le start old rest within)
    ∙ ap (λ k. take k (body ++ rest)) count ∙ take-append_seam body rest in
    made ∙ ap₂ (λ (xs ys : List Step). xs ++ ys) is same ∙ append_assoc old rest body
    ∙ ap (λ (xs : List Step). old ++ xs) (times_next n body ∙ ap (λ k. times k body) (sym as_suc))

pub round_within : (old now : List Step) (start n : ℕ) → now ≡ old ++ times n (drop start old)
    → length old ≤ length now
round_within old now start n is = omega (arith, ap length is, length-append old (times n (drop start old)))

pub rounds_all : (old now : List Step) (start n all : ℕ) → all ≡ n + 1
    → now ≡ old ++ times n (drop start old) → now ≡ written_out start all old
rounds_all old now start n all count is =
    let body : List Step = drop start old in
    let as_suc : all ≡ suc n = omega arith in
    is ∙ ap (λ (xs : List Step). xs ++ times n body) (sym (take-append-drop start old))
    ∙ append_assoc (take start old) body (times n body)
    ∙ ap (λ k. written_out start k old) (sym as_suc)

-- nothing follows the start
pub written_nothing : (start n : ℕ) (old : List Step) → length old ≤ start → old ≡ written_out start n old
written_nothing start n old past =
    sym (ap₂ (λ (xs ys : List Step). xs ++ ys) (take_all start old past)
    (ap (times n) (drop_all start old past) ∙ times_nothing n) ∙ append-nil old)

-- ---- the last program

pub record IsLast (cores : List CoreProgram) (last : ℕ) (now d : CoreProgram) : Type 0 where
  pub front : List CoreProgram
  pub was : cores ≡ front ++ get_or cores last d ∷ []
  pub is : set cores last now ≡ front ++ now ∷ []

pub set_last : (cores : List CoreProgram) (last : ℕ) (now d : CoreProgram) → length cores ≡ last + 1
    → IsLast cores last now d
set_last [] last now d count = absurd (omega arith)
set_last (x ∷ []) zero now d count = record { front = []; was = refl; is = refl }
set_last (x ∷ []) (suc last) now d count = absurd (omega arith)
set_last (x ∷ y ∷ more) zero now d count = absurd (omega arith)
set_last (x ∷ y ∷ more) (suc last) now d count =
    let rest = set_last (y ∷ more) last now d (omega arith) in
    record {
      front = x ∷ rest.front;
      was = ap (λ (xs : List CoreProgram). x ∷ xs) rest.was;
      is = ap (λ (xs : List CoreProgram). x ∷ xs) rest.is;
    }

-- the programs with one more, the last one first
pub programs_push : (front : List CoreProgram) (last : CoreProgram)
    → reverse (map program_of (front ++ last ∷ [])) ≡ program_of last ∷ reverse (map program_of front)
programs_push front last = simp (map-append, reverse-append)

-- the last program's steps change
pub programs_last : (change : List Step → List Step) (cores : List CoreProgram) (last : ℕ) (now d : CoreProgram)
    → length cores ≡ last + 1 → now.core ≡ (get_or cores last d).core
    → now.steps.items ≡ change (get_or cores last d).steps.items
    → reverse (map program_of (set cores last now)) ≡ with_steps change (reverse (map program_of cores))
programs_last change cores last now d count core steps =
    let at = set_last cores last now d count in
    let before : List Program = reverse (map program_of at.front) in
    let was : CoreProgram = get_or cores last d in
    let new : reverse (map program_of (set cores last now)) ≡ program_of now ∷ before =
    ap (λ (xs : List CoreProgram). reverse (map program_of xs)) at.is ∙ programs_push at.front now in
    let old : reverse (map program_of cores) ≡ program_of was ∷ before =
    ap (λ (xs : List CoreProgram). reverse (map program_of xs)) at.was ∙ programs_push at.front was in
    let same : program_of now ≡ (was.core, change was.steps.items) = cc in
    new ∙ ap (λ (p : Program). p ∷ before) same ∙ sym (ap (with_steps change) old)

-- ---- how many steps there are

pub length-spread : (first last : ℕ) (op : Op) → length (spread first last op) ≡ last + 1 - first
length-spread first last op = length-map-range_with_len (access_to op) first (last + 1 - first)

pub count_spread : (programs : List Program) (first last : ℕ) (op : Op) → 1 ≤ length programs → first ≤ last
    → count_of (with_steps (λ steps. steps ++ spread first last op) programs)
    ≡ count_of programs + (last - first + 1)
count_spread [] first last op some order = absurd (omega arith)
count_spread (program ∷ earlier) first last op some order =
    let long = length-append program.1 (spread first last op) in
    let after : count_of (with_steps (λ steps. steps ++ spread first last op) (program ∷ earlier))
    ≡ length (program.1 ++ spread first last op) + count_of earlier = refl in
    let before : count_of (program ∷ earlier) ≡ length program.1 + count_of earlier = refl in
    omega (arith, long, after, before, length-spread first last op)

pub count_settled : (programs : List Program) → 1 ≤ length programs
    → count_of (with_steps (λ steps. steps ++ step_kinds.Settle ∷ []) programs) ≡ count_of programs + 1
count_settled [] some = absurd (omega arith)
count_settled (program ∷ earlier) some =
    let long = length-append program.1 (step_kinds.Settle ∷ []) in
    let after : count_of (with_steps (λ steps. steps ++ step_kinds.Settle ∷ []) (program ∷ earlier))
    ≡ length (program.1 ++ step_kinds.Settle ∷ []) + count_of earlier = refl in
    let before : count_of (program ∷ earlier) ≡ length program.1 + count_of earlier = refl in
    omega (arith, long, after, before)

pub length-times : (n : ℕ) (body : List Step) → length (times n body) ≡ n * length body
length-times zero body = omega arith
length-times (suc n) body =
    let long = length-append body (times n body) in
    let before = length-times n body in
    omega (arith, long, before, suc-mul n (length body))

pub count_ended : (programs : List Program) (start n : ℕ) → 1 ≤ length programs
    → count_of (with_steps (written_out start n) programs) + (last_steps programs - start)
    ≡ count_of programs + n * (last_steps programs - start)
count_ended [] start n some = absurd (omega arith)
count_ended (program ∷ earlier) start n some =
    let body : List Step = drop start program.1 in
    let whole = length-append (take start program.1) (times n body) in
    let front = ap length (take-append-drop start program.1) in
    let parts = length-append (take start program.1) body in
    let rounds = length-times n body in
    let short = length-drop start program.1 in
    let product : n * length body ≡ n * (length program.1 - start) = ap (λ k. n * k) short in
    let after : count_of (with_steps (written_out start n) (program ∷ earlier))
    ≡ length (take start program.1 ++ times n body) + count_of earlier = refl in
    let before : count_of (program ∷ earlier) ≡ length program.1 + count_of earlier = refl in
    omega (arith, whole, front, parts, rounds, short, product, after, before)

pub count_changed : (change : List Step → List Step) (programs : List Program) → 1 ≤ length programs
    → count_of (with_steps change programs) + last_steps programs
    ≡ count_of programs + last_steps (with_steps change programs)
count_changed change [] some = absurd (omega arith)
count_changed change (program ∷ earlier) some =
    let after : count_of (with_steps change (program ∷ earlier)) ≡ length (change program.1) + count_of earlier =
    refl in
    let before : count_of (program ∷ earlier) ≡ length program.1 + count_of earlier = refl in
    let last : last_steps (with_steps change (program ∷ earlier)) ≡ length (change program.1) = refl in
    let first : last_steps (program ∷ earlier) ≡ length program.1 = refl in
    omega (arith, after, before, last, first)

-- one more block, the innermost first
pub blocks_push : (front : List Block) (last : Block) → reverse (front ++ last ∷ []) ≡ last ∷ reverse front
blocks_push front last = simp reverse-append
