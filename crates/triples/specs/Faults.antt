-- The lines for errors of a run.
use Rattle.std.specs.Prelude.{ℕ, List, ◌++◌, codes}
use Rattle.triples.specs.declared.run_error.RunError.{RunError}
use Rattle.triples.specs.declared.run_error.RunError.TheVariants.{Read, Write, NotUtf8, NotJson, NotList, OutOfMemory}

-- the line for an error
abbrev pub line_of : RunError → List ℕ
line_of Read = codes "Read failed"
line_of Write = codes "Write failed"
line_of NotUtf8 = codes "Input is not UTF-8"
line_of NotJson = codes "Input is not JSON"
line_of NotList = codes "Input is not a JSON list"
line_of OutOfMemory = codes "Out of memory"

-- what a program writes if a run fails
abbrev pub fault_line : RunError → List ℕ
fault_line error = codes "fault: " ++ (line_of error ++ codes "\n")
