-- What `clap`'s getters give of a subcommand is what it read.
use Rattle.std.proofs.Common.{◌≡◌, ◌∙◌, ℕ, Bool, true, false, List, Option, Some, None, refl, sym, ap, ap₂, inl, inr}
use Rattle.std.proofs.Common.{option_map, map, []}
use Rattle.std.specs.Prelude.{Box, IfSome, Result, unwrap_or}
use Rattle.std.specs.Box.{box_value}
use Rattle.std.specs.Borrow.{Bor}
use Rattle.std.specs.Option.{option_map_or}
use Rattle.std.specs.Str.{bytes_eq}
use Rattle.std.specs.Str.Parse.{ParsesBool, ParsesUnsigned, true_text}
use Rattle.std.proofs.lemmas.Bool.{cases_Bool}
use Rattle.std.proofs.lemmas.Slice.Eq.{bytes_eq-Decides}
use Rattle.clap.specs.declared.parser.matches.SubCommand.{SubCommand}
use Rattle.clap.specs.declared.parser.matches.ArgMatches.{ArgMatches}
use Rattle.clap.specs.declared.parser.matches.ArgMatches.TheViews.{out-ArgMatches, out-SubCommand}
use Rattle.clap.specs.declared.parser.matches.Found.{Found}
use Rattle.clap.specs.Matches.{ReadsOne}
use Rattle.clap.specs.Words.{Row, Text, all_of, first_of, first_value, matched_of, one_text, raw_values, rows_of}
use Rattle.clap.specs.Words.{subcommand_name_of}
use Rattle.clap.specs.Words.{subcommand_rows, subcommand_rows_of}
use Rattle.clap.proofs.WalkLemmas.{first_value-rows, one_text-rows, raw_values-rows}
use Rattle.litmus_command_line.specs.CommandLine.{IsAsked, IsLine, IsNumberOf, is_given}
use Rattle.litmus_command_line.specs.declared.command_line.CommandLine.{CommandLine}

named_rows : {Z : Type 0} (s : Option (Box SubCommand Z))
    → option_map (λ (p : Text × List Row). p.0) (subcommand_rows s)
    ≡ option_map (λ b. (out-SubCommand (box_value b)).name.now) s
named_rows None = refl
named_rows (Some b) = refl

-- a name and rows that were read are of one subcommand
both_read : (read : Option (Text × List Row)) (name : Text) (rows : List Row) → Some name ≡ option_map (λ p. p.0) read
    → Some rows ≡ option_map (λ p. p.1) read → read ≡ Some (name, rows)
both_read None name rows named found = cc (named)
both_read (Some p) name rows named found =
    let of_name : name ≡ p.0 = cc (named) in
    let of_rows : rows ≡ p.1 = cc (found) in
    ap₂ (λ (n : Text) (r : List Row). Some (n, r)) (sym of_name) (sym of_rows)

-- what is read of the subcommand's name and rows is asked for
pub asked_of : (m : ArgMatches) (name : Text) (rows : List Row) (line : Option CommandLine)
    → Some name ≡ subcommand_name_of m → Some rows ≡ option_map (λ p. p.1) (subcommand_rows_of m)
    → IfSome line (IsLine name rows) → IfSome line (IsAsked (subcommand_rows_of m))
asked_of m name rows line named found is =
    let of_name = named ∙ sym (named_rows (out-ArgMatches m).subcommand) in
    let read = both_read (subcommand_rows_of m) name rows of_name found in
    rw read is

-- a text that the getter gives is the first value of the rows
pub first_given : (found : Found) (id : Text) (text : Option (Bor Text))
    → option_map (λ s. s.now) text ≡ first_value found id → IfSome text (λ s. first_of id (rows_of found) ≡ Some s.now)
first_given found id None given = tt
first_given found id (Some s) given = sym (given ∙ first_value-rows found id)

-- the value of an option, and false where it has none, is whether it was given
given_of : (E : Type 0) (o : Option Text) (flag : Option Bool) → (o ≡ None → flag ≡ None)
    → ((t : Text) → o ≡ Some t → ReadsOne {E = E} ParsesBool t flag)
    → unwrap_or flag false ≡ option_map_or (λ t. bytes_eq t true_text) o false
given_of E None flag none some = rw (none refl) refl
given_of E (Some t) (Some true) none some = sym ((bytes_eq-Decides t true_text).1 (some t refl))
given_of E (Some t) (Some false) none some = rw (some t refl) refl
given_of E (Some t) None none some = elim (cases_Bool (bytes_eq t true_text)) [
  | inl is ↦ absurd ((some t refl).1.0 ((bytes_eq-Decides t true_text).0 is))
  | inr not ↦ sym not
]

pub flag_given : (E : Type 0) (found : Found) (name : Text) (flag : Option Bool)
    → (one_text found name ≡ None → flag ≡ None)
    → ((t : Text) → one_text found name ≡ Some t → ReadsOne {E = E} ParsesBool t flag)
    → unwrap_or flag false ≡ is_given name (rows_of found)
flag_given E found name flag none some =
    given_of E (one_text found name) flag none some
    ∙ ap (λ o. option_map_or (λ t. bytes_eq t true_text) o false) (one_text-rows found name)

-- a number that the getter gives is the one that the option has
pub number_given : (E : Type 0) (gives : List ℕ → Result ℕ E → Type 0) (found : Found) (name : Text) (number : Option ℕ)
    → ((t : Text) (r : Result ℕ E) → gives t r → ParsesUnsigned 64 10 t r)
    → (one_text found name ≡ None → number ≡ None)
    → ((t : Text) → one_text found name ≡ Some t → ReadsOne gives t number)
    → IfSome number (IsNumberOf name (rows_of found))
number_given E gives found name None parses none some = tt
number_given E gives found name (Some n) parses none some = of_text (one_text found name) refl
  where
    of_text : (o : Option Text) → one_text found name ≡ o → IsNumberOf name (rows_of found) n
    of_text None is = cc (none is)
    of_text (Some t) is =
        let there = rw (one_text-rows found name) at is in
        let read = parses t _ (some t is) in
        rw there (sym read.1)

-- an option without a first value was given none
pub none_given : (found : Found) (id : Text) (text : Option (Bor Text)) → text ≡ None
    → option_map (λ s. s.now) text ≡ first_value found id → first_of id (rows_of found) ≡ None
none_given found id None is given = sym (given ∙ first_value-rows found id)
none_given found id (Some s) is given = cc (is)

-- the values that a getter gives are those of the rows
all_given : (found : Found) (id : Text) (texts : Option (Bor (List (Bor Text))))
    → option_map (λ s. map (λ v. v.now) s.now) texts ≡ option_map raw_values (matched_of found id)
    → all_of id (rows_of found) ≡ option_map (λ s. map (λ v. v.now) s.now) texts
all_given found id texts given = sym (given ∙ raw_values-rows found id)

pub some_given : (found : Found) (id : Text) (texts : Option (Bor (List (Bor Text)))) (these : Bor (List (Bor Text)))
    → texts ≡ Some these
    → option_map (λ s. map (λ v. v.now) s.now) texts ≡ option_map raw_values (matched_of found id)
    → unwrap_or (all_of id (rows_of found)) [] ≡ map (λ v. v.now) these.now
some_given found id texts these is given =
    ap (λ o. unwrap_or o [])
    (all_given found id texts given ∙ ap (option_map (λ s. map (λ v. v.now) s.now)) is)

-- .. or there are none
pub none_of_all : (found : Found) (id : Text) (texts : Option (Bor (List (Bor Text)))) → texts ≡ None
    → option_map (λ s. map (λ v. v.now) s.now) texts ≡ option_map raw_values (matched_of found id)
    → unwrap_or (all_of id (rows_of found)) [] ≡ []
none_of_all found id texts is given =
    ap (λ o. unwrap_or o [])
    (all_given found id texts given ∙ ap (option_map (λ s. map (λ v. v.now) s.now)) is)
