-- The command line: the program's arguments, and what the words of a line say.
use Rattle.std.specs.Prelude.{◌≡◌, ◌≢◌, ℕ, pos, List, [], Option, None, Some, true, codes, IfSome}
use Rattle.std.specs.Str.Parse.{digits_value, without_leading_plus}
use Rattle.clap.specs.{Kinds.IsAmong, Simple.on_top, Values.IsUnsignedIn, declared.builder.action.ArgAction.TheVariants.Set, declared.error.kind.ErrorKind.ErrorKind, declared.error.kind.ErrorKind.TheVariants.DisplayHelp, declared.parser.matches.ArgMatches.ArgMatches}
use Rattle.clap.specs.Words.{App, Rule, fault_of, first_of, first_value, found_of, matches_of, new_app, new_rule, with_rule}
use Rattle.clap.specs.declared.builder.value_parser.ValueParser.TheVariants.{Signed, Unsigned}
use Rattle.pipeline_runner.specs.{declared.runner.RunError.RunError, Run.OutputOf}
use Rattle.pipeline_runner.specs.declared.runner.RunError.TheVariants.{Fault, NoMemory, ReadFailed, WriteFailed, DuplicateKey}
use Rattle.std.specs.Io.KnownBytes.{Appends}

-- The program's arguments, as clap's specification writes a program down. First the file's name, which has to be there.
abbrev pub file_rule : Rule
file_rule = record (new_rule (codes "FILE")) { action = Some Set; required = true }

-- a number from 1 to 64
abbrev pub workers_rule : Rule
workers_rule = record (new_rule (codes "workers")) {
  long = Some (codes "workers");
  action = Some Set;
  value_names = 1;
  parser = Some (Signed (pos 1) (pos 64));
}

-- a number from 0 to 2^62
abbrev pub target_rule : Rule
target_rule = record (new_rule (codes "target")) {
  long = Some (codes "target");
  action = Some Set;
  value_names = 1;
  parser = Some (Unsigned 0 4611686018427387904);
}

-- the program before its arguments: the words don't begin with its own name
abbrev pub bare_program : App
bare_program = on_top (λ s. record s { no_binary_name = true }) (new_app (codes "pstream"))

-- and with them
abbrev pub program : App
program = with_rule (with_rule (with_rule bare_program file_rule) workers_rule) target_rule

-- What the words say. They ask for the help,
pub record AsksForHelp (words : List (List ℕ)) : Type 0 where
  pub help : IsAmong DisplayHelp (fault_of program words)

-- or have a fault,
pub record HasLineFault (words : List (List ℕ)) : Type 0 where
  pub kind : ErrorKind
  pub among : IsAmong kind (fault_of program words)
  pub other : kind ≢ DisplayHelp

-- or have none, and name this file.
pub record NamesFile (words : List (List ℕ)) (name : List ℕ) : Type 0 where
  pub faultless : fault_of program words ≡ []
  pub named : first_of (codes "FILE") (matches_of program words) ≡ Some name

-- the file's name that a line was read with
abbrev pub HasName : ArgMatches → List ℕ → Type 0
HasName matches name = first_value (found_of matches) (codes "FILE") ≡ Some name

-- The number of an option: the default where a line doesn't have the option, and else that of its text, where it lies in the range.
abbrev pub IsNumberOf : Option (List ℕ) → (default low high : ℕ) → ℕ → Type 0
IsNumberOf None default low high number = number ≡ default
IsNumberOf (Some text) default low high number = IsUnsignedIn low high text → number ≡ digits_value 10 (without_leading_plus text)

-- The status of the program.

abbrev pub status_of : RunError → ℕ
status_of (Fault fault) = 2
status_of NoMemory = 3
status_of ReadFailed = 3
status_of WriteFailed = 3
status_of (DuplicateKey key) = 4

-- How the program ends, by the words of its command line and by the file that they name.

-- The words name a file, the opener may give an input for that name, and what the input holds, where it is known, has the property.
pub record OnFile {I : Type 0} (opens : List ℕ → Option I → Type 0) (remaining : I → Option (List ℕ)) (words : List (List ℕ))
    (P : List ℕ → Type 0) : Type 0 where
  pub name : List ℕ
  pub named : NamesFile words name
  pub input : I
  pub opened : opens name (Some input)
  pub holds : IfSome (remaining input) P

-- the output grew by the text of the file's value, with a line end
abbrev pub Answers : Option (List ℕ) → Option (List ℕ) → List ℕ → Type 0
Answers old new file = OutputOf file (Appends old new)

-- the words ask for the help, and the output grew by a text
abbrev pub ShowsHelp : List (List ℕ) → Option (List ℕ) → Option (List ℕ) → Type 0
ShowsHelp words old new = AsksForHelp words × ((text : List ℕ) × Appends old new text)
