-- Commands of the code as the definitions have them.
use Rattle.std.specs.Prelude.{List, ⊤, map, Option, String, string_bytes}
use Rattle.std.specs.declared.alloc.Global.{Global}
use Rattle.cif_run.specs.Runs.{IsSize}
use Rattle.cif_run.specs.declared.size.RunSize.{RunSize}
use Rattle.cif_desk.specs.Commands.{Command as CommandData, check, eval, augstim, run, command_of}
use Rattle.cif_desk.specs.declared.command.RunFiles.{RunFiles}
use Rattle.cif_desk.specs.declared.command.Command.{Command}
use Rattle.cif_desk.specs.declared.command.Command.TheVariants.{Check, Eval, AugStim, Run}

abbrev pub run_seen : RunFiles → RunSize → CommandData
run_seen files size = run files.net.now files.stim.now files.sessions.now size

abbrev pub command_seen : Command → CommandData
command_seen (Check net) = check net.now
command_seen (Eval net stim) = eval net.now stim.now
command_seen (AugStim net stim) = augstim net.now stim.now
command_seen (Run files size) = run_seen files size

-- what words ask for
abbrev pub asked_by : List (String Global) → Option CommandData
asked_by words = command_of (map (string_bytes {Z = Global}) words)

-- a run is cut as a run may be
abbrev pub HasSize : Command → Type 0
HasSize (Check net) = ⊤
HasSize (Eval net stim) = ⊤
HasSize (AugStim net stim) = ⊤
HasSize (Run files size) = IsSize size
