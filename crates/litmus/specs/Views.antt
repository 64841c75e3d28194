-- What the script of a schedule is shown as.
use Rattle.std.specs.Prelude.{ℕ, false, List, Option, Some}
use Rattle.std.specs.Str.Lines.{lines}
use Rattle.litmus.specs.Coverage.{HasCounts, HasNoCounts}
use Rattle.litmus.specs.Traces.{HasTraces, HasTracesFault}
use Rattle.litmus.specs.declared.views.View.{View}
use Rattle.litmus.specs.declared.views.View.TheVariants as views
use Rattle.litmus_text.specs.Statement.{statements_from}
use Rattle.litmus_text.specs.declared.fault.TextFault.{TextFault}
use Rattle.script_page.specs.Page.{IsPage, IsPageFault}

-- The script's page is written. As a record it isn't unfolded, with all of the page's text, where it is passed on.
pub record HasPage (script : List ℕ) (before after : Option (List ℕ)) : Type 0 where
  pub is : IsPage false script (statements_from 0 (lines script)) before after

-- .. or not whole
pub record HasPageFault (script : List ℕ) (fault : TextFault) : Type 0 where
  pub is : IsPageFault (statements_from 0 (lines script)) fault

-- this view of the script is written: its page, its traces, or its counts
abbrev pub HasView : View → List ℕ → Option (List ℕ) → Option (List ℕ) → Type 0
HasView views.Page script before after = HasPage script before after
HasView views.Traces script before after = HasTraces script before after
HasView views.Coverage script before after = (counts : List (Option ℕ)) × HasCounts script counts

-- .. or not whole
abbrev pub HasViewFault : View → List ℕ → TextFault → Type 0
HasViewFault views.Page script fault = HasPageFault script fault
HasViewFault views.Traces script fault = HasTracesFault script fault
HasViewFault views.Coverage script fault = HasNoCounts script fault

-- what is printed after these lines is a script, and this view of it is written
pub record IsViewOfPrinted (view : View) (head : List ℕ) (Prints : Option (List ℕ) → Option (List ℕ) → Type 0)
    (before after : Option (List ℕ)) : Type 0 where
  pub script : List ℕ
  pub printed : Prints (Some head) (Some script)
  pub shown : HasView view script before after

-- .. or why it isn't, or not whole
pub record IsViewCut (view : View) (head : List ℕ) (Prints : Option (List ℕ) → Option (List ℕ) → Type 0)
    (fault : TextFault) : Type 0 where
  pub script : List ℕ
  pub printed : Prints (Some head) (Some script)
  pub cut : HasViewFault view script fault
