-- The queries as a whole: what no row decides as it is in the code, and a query for each row of both tables.
use Rattle.std.specs.Prelude.{ℕ, Bool, List, [], ◌++◌, codes, if◌then◌else◌}
use Rattle.protocol_models.specs.SmtCache.{queries_of as cache_queries}
use Rattle.protocol_models.specs.SmtDirectory.{entry_terms, queries_of as directory_queries}
use Rattle.protocol_models.specs.declared.smt.fixed.introduction.TheConstants.{INTRODUCTION}
use Rattle.protocol_models.specs.declared.smt.fixed.invariant.TheConstants.{INVARIANT, WORDS}
use Rattle.protocol_models.specs.declared.smt.fixed.line.TheConstants.{ROWS, STATE, TAKEN}
use Rattle.protocol_models.specs.declared.smt.fixed.whole.TheConstants.{BEGINNING, COVERAGE, EXCLUSIVE_ALONE, NEVER}

abbrev pub word_of : Bool → List ℕ
word_of truth = if truth then codes "true" else codes "false"

-- what is before the queries, with the setting of the exclusive state amid what is fixed
abbrev pub head_of : Bool → List ℕ
head_of exclusive =
    INTRODUCTION.now ++ (codes "(define-fun exclusive () Bool " ++ (word_of exclusive ++ (codes ")\n\n"
    ++ (STATE.now ++ (ROWS.now ++ (WORDS.now ++ (INVARIANT.now ++ TAKEN.now)))))))

-- what comes only with the exclusive state, where there is none
abbrev pub end_of : Bool → List ℕ
end_of exclusive = if exclusive then [] else EXCLUSIVE_ALONE.now

-- the whole text: the beginning and the promises, the rows, and that they are all
abbrev pub queries_of : Bool → List ℕ
queries_of exclusive =
    head_of exclusive ++ entry_terms ++ BEGINNING.now ++ cache_queries exclusive ++ directory_queries exclusive
    ++ (COVERAGE.now ++ (NEVER.now ++ end_of exclusive))
