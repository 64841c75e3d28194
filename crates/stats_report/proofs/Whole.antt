-- The report as a whole, from its pieces.
use Rattle.std.proofs.Common.{◌≡◌, ℕ, List, [], ◌∷◌, ◌++◌, length, map, get_or, sym, ap, ◌∙◌, append_assoc, append-nil}
use Rattle.slice_answer.specs.Stats.{StatsView}
use Rattle.stats_report.specs.declared.column.Column.{Column}
use Rattle.stats_report.specs.Column.{columns_of}
use Rattle.stats_report.specs.Report.{AreAlike, heading_of, core_lines, message_line, message_totals, report_of}

-- three pieces, one after the other
three : (a b c text heading_text lines_text : List ℕ) → heading_text ≡ [] ++ a → lines_text ≡ heading_text ++ b
    → text ≡ lines_text ++ c → text ≡ a ++ (b ++ (c ++ []))
three a b c text heading_text lines_text first second third =
    third ∙ ap (λ t. t ++ c) (second ∙ ap (λ t. t ++ b) first) ∙ append_assoc a b c
    ∙ ap (λ t. a ++ (b ++ t)) (sym (append-nil c))

-- the heading, the lines of the cores and that of the messages are the report
pub whole_report : {X : Type 0} (view : X → StatsView) (xs : List X) (first : X) (text heading_text lines_text : List ℕ)
    (columns : List Column) (cores : ℕ) → AreAlike (map view xs) → first ≡ get_or xs 0 first
    → columns ≡ columns_of (view first).exclusive → cores ≡ length (view first).cores
    → heading_text ≡ [] ++ heading_of columns → lines_text ≡ heading_text ++ core_lines columns (map view xs) cores
    → text ≡ lines_text ++ message_line (message_totals (map view xs)) → text ≡ report_of (map view xs)
whole_report view [] first text heading_text lines_text columns cores alike here shown many one two last =
    absurd alike
whole_report view (x ∷ xs) first text heading_text lines_text columns cores alike here shown many one two last =
    let these : columns ≡ columns_of (view x).exclusive = shown ∙ ap (λ y. columns_of (view y).exclusive) here in
    let all : cores ≡ length (view x).cores = many ∙ ap (λ y. length (view y).cores) here in
    three _ _ _ text heading_text lines_text
    (one ∙ ap (λ cs. [] ++ heading_of cs) these)
    (two ∙ ap (λ cs. heading_text ++ core_lines cs (map view (x ∷ xs)) cores) these
    ∙ ap (λ n. heading_text ++ core_lines (columns_of (view x).exclusive) (map view (x ∷ xs)) n) all)
    last
