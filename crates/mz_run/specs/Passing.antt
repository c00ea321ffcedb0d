-- Passing over lines to the first that isn't built. This project's own.
use Rattle.std.specs.Prelude.{ℕ, ◌+◌, List, [], ◌∷◌, Result, Ok, Err, if◌then◌else◌}
use Rattle.mz_run.specs.declared.built.Unbuilt.{Unbuilt}
use Rattle.mz_run.specs.Built.{is_built_line}
use Rattle.mz_lines.specs.declared.line.Line.{Line}

-- the number of the line behind these, of which the first has this number, or of the first that isn't built
abbrev pub passed : ℕ → List Line → Result ℕ Unbuilt
passed line [] = Ok line
passed line (l ∷ ls) = if is_built_line l then passed (line + 1) ls else Err (record { line = line })
