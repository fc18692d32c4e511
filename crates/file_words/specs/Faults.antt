-- The names of faults, what is told of a file, and the errors of a line as those of a file.
use Rattle.std.specs.Prelude.{ℕ, List, ◌++◌, codes}
use Rattle.std.specs.Fmt.{decimal}
use Rattle.file_words.specs.declared.fault.{FileError.FileError, FileFault.FileFault, LineError.LineError, ReadError.ReadError}
use Rattle.file_words.specs.declared.fault.FileError.TheVariants.{BadText, TooLarge, BadVersion, UnknownWord, BadArity, BadNumber, WrongKind, RangeTooLong, MissingTerminal, AfterTerminal, TooManyStages}
use Rattle.file_words.specs.declared.fault.LineError.TheVariants.{Fault, NoMemory}
use Rattle.file_words.specs.declared.fault.ReadError.TheVariants as read

abbrev pub fault_name : FileError → List ℕ
fault_name BadText = codes "BAD_TEXT"
fault_name TooLarge = codes "TOO_LARGE"
fault_name BadVersion = codes "BAD_VERSION"
fault_name UnknownWord = codes "UNKNOWN_WORD"
fault_name BadArity = codes "BAD_ARITY"
fault_name BadNumber = codes "BAD_NUMBER"
fault_name WrongKind = codes "WRONG_KIND"
fault_name RangeTooLong = codes "RANGE_TOO_LONG"
fault_name MissingTerminal = codes "MISSING_TERMINAL"
fault_name AfterTerminal = codes "AFTER_TERMINAL"
fault_name TooManyStages = codes "TOO_MANY_STAGES"

abbrev pub fault_text : FileFault → List ℕ
fault_text fault = codes "line " ++ (decimal fault.line ++ (codes ": " ++ fault_name fault.kind))

abbrev pub read_error_at : ℕ → LineError → ReadError
read_error_at line (Fault kind) = read.Fault (record { line = line; kind = kind })
read_error_at line NoMemory = read.NoMemory
