-- Which commands a session can still serve, one after another. This project's own.
use Rattle.std.specs.Prelude.{ℕ, ◌+◌, ◌≤◌, ◌≡◌, true, List, count_by}
use Rattle.std.specs.List.{flat_map, list_all}
use Rattle.mz_events.specs.Changes.{one_for}
use Rattle.mz_lines.specs.declared.command.Command.{Command}
use Rattle.mz_lines.specs.Commands.{command_fits}
use Rattle.mz_lines.specs.Lines.{command_gives}
use Rattle.mz_trace.specs.declared.round.Round.{Round}
use Rattle.mz_session.specs.Sessions.{SessionView, is_given}

-- The commands are ones of a trace of one caller, and no block is given twice under one name, by these and by those before.
pub record CanCome (s : SessionView) (commands : List Command) : Type 0 where
  pub each : list_all (command_fits 1) commands ≡ true
  pub given_once : (name : List ℕ) → one_for (is_given s name) + count_by (command_gives name) commands ≤ 1

-- all commands of a round
abbrev pub commands_in : Round → List Command
commands_in r = flat_map (λ commands. commands) r.commands

-- and of rounds
abbrev pub commands_in_rounds : List Round → List Command
commands_in_rounds rounds = flat_map commands_in rounds
