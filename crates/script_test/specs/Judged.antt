-- Where answers aren't those that are wanted.
use Rattle.std.specs.Prelude.{◌≡◌, ◌≢◌, ◌⊎◌, ℕ, ◌+◌, ◌<◌, ◌==◌, Bool, false, if◌then◌else◌, List, [], ◌∷◌, ◌++◌, All}
use Rattle.std.specs.Prelude.{codes, decimal, length, map, take, slice_get, Option, None, Some}
use Rattle.std.specs.List.{flat_map}
use Rattle.std.specs.Option.{option_map, option_to_list}
use Rattle.std.specs.Io.KnownBytes.{Appends}
use Rattle.std.specs.Str.Lines.{lines}
use Rattle.litmus_text.specs.Statement.{statements_from}
use Rattle.litmus_text.specs.Text.{words_of_line}
use Rattle.litmus_text.specs.declared.fault.TextFault.{TextFault}
use Rattle.litmus_script.specs.Play.{IsOfRun}
use Rattle.litmus_script.specs.Script.{IsRunUpTo}
use Rattle.script_test.specs.declared.judge.Difference.{Difference}
use Rattle.script_test.specs.Answers.{Answering, AreAnswers, answers_of}
use Rattle.script_test.specs.Exercise.{script_in, wants_from}

-- a difference: the number of a line, what it wants, and what the answer has there, where either has a line; and where
-- both have one, the first word that isn't the same
abbrev pub Unlike : Type 0
Unlike = ℕ × Option (List ℕ) × Option (List ℕ) × Option ℕ

-- .. as code has it
abbrev pub unlike_of : Difference → Unlike
unlike_of d = (d.line, option_map (λ t. t.now) d.wanted, option_map (λ t. t.now) d.got, d.word)

-- two lines say the same: they have the same words
abbrev pub IsSame : List ℕ → List ℕ → Type 0
IsSame a b = words_of_line a ≡ words_of_line b

-- This is the first word, from 1, that isn't the same in two lines. One of them may end before it.
abbrev pub IsUnlikeFrom : List ℕ → List ℕ → ℕ → Type 0
IsUnlikeFrom a b word =
    (k : ℕ) × (word ≡ k + 1) × (take k (words_of_line a) ≡ take k (words_of_line b))
    × (slice_get (words_of_line a) k ≢ slice_get (words_of_line b) k)

-- The first place at which the lines of an answer aren't those that are wanted, if there is one. Where more lines come
-- than are wanted, it is at this line.
abbrev pub IsFirstUnlike : ℕ → List (ℕ × List ℕ) → List (List ℕ) → Option Unlike → Type 0
IsFirstUnlike at [] [] unlike = unlike ≡ None
IsFirstUnlike at [] (got ∷ more) unlike = unlike ≡ Some (at, None, Some got, None)
IsFirstUnlike at (want ∷ wants) [] unlike = unlike ≡ Some (want.0, Some want.1, None, None)
IsFirstUnlike at (want ∷ wants) (got ∷ more) unlike =
    (IsSame want.1 got × IsFirstUnlike at wants more unlike)
    ⊎ ((word : ℕ) × IsUnlikeFrom want.1 got word × (unlike ≡ Some (want.0, Some want.1, Some got, Some word)))

-- an answer without a wanted line may be any; of another, all lines are wanted
abbrev pub IsUnlike : ℕ × List ℕ → List (ℕ × List ℕ) → Option Unlike → Type 0
IsUnlike answer [] unlike = unlike ≡ None
IsUnlike answer (want ∷ wants) unlike = IsFirstUnlike answer.0 (want ∷ wants) (lines answer.1) unlike

-- the line is in front of the next statement, if there is one
abbrev pub IsBefore : List (ℕ × List ℕ) → ℕ × List ℕ → Type 0
IsBefore [] want = Unit {0}
IsBefore (next ∷ more) want = want.0 < next.0

-- the first of the lines doesn't
abbrev pub BeginBehind : List (ℕ × List ℕ) → List (ℕ × List ℕ) → Type 0
BeginBehind answers [] = Unit {0}
BeginBehind answers (want ∷ wants) = ¬ IsBefore answers want

-- The differences of all answers, in order: of each the first, if there is one. What is in a statement's line and in
-- the lines after it, up to the next statement, is wanted of it.
abbrev pub IsJudged : List (ℕ × List ℕ) → List (ℕ × List ℕ) → List Unlike → Type 0
IsJudged wants [] unlikes = unlikes ≡ []
IsJudged wants (answer ∷ more) unlikes =
    (mine : List (ℕ × List ℕ)) × (later : List (ℕ × List ℕ)) × (wants ≡ mine ++ later) × All (IsBefore more) mine
    × BeginBehind more later
    × (unlike : Option Unlike) × (others : List Unlike) × IsUnlike answer mine unlike × IsJudged later more others
    × (unlikes ≡ option_to_list unlike ++ others)

-- the text's script runs to its end, and this is where its answers aren't the wanted ones
pub record IsTested (text : List ℕ) (unlikes : List Unlike) : Type 0 where
  pub texts : List (List ℕ)
  pub answered : AreAnswers (statements_from 0 (lines (script_in false text))) texts
  pub judged : IsJudged (wants_from 0 (lines text))
      (answers_of (map (λ s. s.0) (statements_from 0 (lines (script_in false text)))) texts) unlikes

-- ---- what is printed of it

-- a line of an answer, or that there is none
abbrev pub text_of_line : Option (List ℕ) → List ℕ
text_of_line None = codes "no further line"
text_of_line (Some line) = line

-- which word isn't the same, if one is named
abbrev pub text_of_word : Option ℕ → List ℕ
text_of_word None = []
text_of_word (Some word) = codes ": word " ++ decimal word

-- a difference
abbrev pub text_of_difference : Unlike → List ℕ
text_of_difference d =
    codes "line " ++ decimal d.0 ++ codes ": wanted " ++ text_of_line d.1 ++ codes ", got "
    ++ text_of_line d.2 ++ text_of_word d.3 ++ codes "\n"

-- how many lines are as wanted
abbrev pub text_of_count : ℕ → List ℕ
text_of_count wanted = codes "as wanted: " ++ decimal wanted ++ codes " lines\n"

-- the differences that are printed: all, or the first alone
abbrev pub shown : Bool → List Unlike → List Unlike
shown first unlikes = if first then take 1 unlikes else unlikes

-- a text that wants no line is no test, and nothing is printed of it; else it is the one or the other
abbrev pub text_of : Bool → ℕ → List Unlike → List ℕ
text_of first wanted unlikes =
    if wanted == 0 then []
    else (if length unlikes == 0 then text_of_count wanted else flat_map text_of_difference (shown first unlikes))

-- the exit status: 2 where it is no test, 0 where all is as wanted, and 1 where it isn't
abbrev pub status_of : ℕ → List Unlike → ℕ
status_of wanted unlikes = if wanted == 0 then 2 else (if length unlikes == 0 then 0 else 1)

-- .. and it is printed, with its status
pub record PrintsTest (text : List ℕ) (first : Bool) (before after : Option (List ℕ)) (status : ℕ) : Type 0 where
  pub unlikes : List Unlike
  pub tested : IsTested text unlikes
  pub is : status ≡ status_of (length (wants_from 0 (lines text))) unlikes
  pub printed : Appends before after (text_of first (length (wants_from 0 (lines text))) unlikes)

-- .. or why nothing is: the run of the text's script ends at a fault, or there was no memory, or nothing can be written
abbrev pub IsStopped : List ℕ → TextFault → Type 0
IsStopped text fault =
    ((after : Option (List ℕ)) × IsRunUpTo Answering
    (statements_from 0 (lines (script_in false text))) (Some []) after fault)
    ⊎ IsOfRun fault
