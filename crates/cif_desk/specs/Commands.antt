-- What the words of a command line ask for.
use Rattle.std.specs.Prelude.{ℕ, nat_le, Bool, false, ◌&&◌, ◌||◌, List, [], ◌∷◌, codes, bytes_eq, Option, Some, None, option_and_then, option_map, if◌then◌else◌}
use Rattle.cif_defs.specs.Text.{number_read}
use Rattle.cif_run.specs.declared.size.RunSize.{RunSize}

-- a command; files are given by their names
pub data Command : Type 0 where
  -- the counts of a netlist
  check : List ℕ → Command
  -- the output ports of a netlist in every cycle of a stimulus
  eval : List ℕ → List ℕ → Command
  -- the stimulus for the augmented netlist, from one for a netlist
  augstim : List ℕ → List ℕ → Command
  -- the transcripts of sessions over a netlist and a stimulus
  run : List ℕ → List ℕ → List ℕ → RunSize → Command

-- the file of the netlist
abbrev pub net_word : Command → List ℕ
net_word (check net) = net
net_word (eval net stim) = net
net_word (augstim net stim) = net
net_word (run net stim sessions size) = net

-- the file of the stimulus, where the command has one
abbrev pub stim_word : Command → Option (List ℕ)
stim_word (check net) = None
stim_word (eval net stim) = Some stim
stim_word (augstim net stim) = Some stim
stim_word (run net stim sessions size) = Some stim

-- ---- numbers

-- a number that is neither below the least nor above the most
abbrev pub within : ℕ → ℕ → ℕ → Option ℕ
within least most n = if nat_le least n && nat_le n most then Some n else None

abbrev pub number_within : ℕ → ℕ → List ℕ → Option ℕ
number_within least most word = option_and_then (within least most) (number_read word)

-- 1 to 32 workers, 1 to 64 parts, a window of 2 to 64 cycles
abbrev pub size_of : List ℕ → List ℕ → List ℕ → Option RunSize
size_of workers parts window =
    option_and_then (λ w. option_and_then (λ p. option_map (λ d. record { workers = w; parts = p; window = d })
    (number_within 2 64 window)) (number_within 1 64 parts)) (number_within 1 32 workers)

-- ---- words

abbrev pub command_if : Bool → Command → Option Command
command_if fits command = if fits then Some command else None

abbrev pub stimulus_command : List ℕ → List ℕ → List ℕ → Option Command
stimulus_command verb net stim =
    if bytes_eq verb (codes "eval") then Some (eval net stim) else command_if (bytes_eq verb (codes "augstim")) (augstim net stim)

-- `check NET`, `eval NET STIM`, `augstim NET STIM` or `run NET STIM SESSIONS WORKERS PARTS WINDOW`; other words fit no form
unfoldable pub command_of : List (List ℕ) → Option Command
command_of (verb ∷ net ∷ []) = command_if (bytes_eq verb (codes "check")) (check net)
command_of (verb ∷ net ∷ stim ∷ []) = stimulus_command verb net stim
command_of (verb ∷ net ∷ stim ∷ sessions ∷ workers ∷ parts ∷ window ∷ []) =
    if bytes_eq verb (codes "run") then option_map (run net stim sessions) (size_of workers parts window) else None
command_of _ = None

-- whether a command of these words may wait: the first is `run` or `gen`
abbrev pub may_wait : List (List ℕ) → Bool
may_wait [] = false
may_wait (verb ∷ words) = bytes_eq verb (codes "run") || bytes_eq verb (codes "gen")
