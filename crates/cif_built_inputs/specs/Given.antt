-- What stimulus t gives to module a, which augments module n, is what stimulus s gives to n, and its taint.
use Rattle.std.specs.Prelude.{ℕ, ◌<◌, ◌≡◌, true, false, not, ◌&&◌, [], ◌∷◌, length, get_or, Contains}
use Rattle.cif_defs.specs.Words.{bit}
use Rattle.cif_defs.specs.Kinds.{is_register, is_memory}
use Rattle.cif_defs.specs.RawModule.{net_numbers}
use Rattle.cif_defs.specs.Accepted.{is_input, no_bit, source}
use Rattle.cif_defs.specs.Stimulus.{Stimulus}
use Rattle.cif_defs.specs.declared.raw_module.RawPort.{RawPort}
use Rattle.cif_defs.specs.declared.raw_module.RawCell.{RawCell}
use Rattle.cif_defs.specs.declared.raw_module.Raw.{Raw}
use Rattle.cif_augment.specs.Names.{taint_name, flag_name, stored_name, data_ports, has_role, has_flag, is_reset_register}
use Rattle.cif_augment.specs.Stimuli.{is_released_bit}
use Rattle.cif_raw_runs.specs.Given.{port_holds, cell_starts}

-- ports that are inputs hold at cycle k what they do, and those of their taint hold it, but for released bits
pub record GivesInputs (n a : Raw) (s t : Stimulus) (k : ℕ) : Type 0 where
  pub values : (p : RawPort) (i : ℕ) → Contains n.ports p → is_input p ≡ true → bit (port_holds t k p).value i ≡ bit (port_holds s k p).value i
  pub taints : (p q : RawPort) (i : ℕ) → Contains (data_ports n) p → is_input p ≡ true → q.name ≡ taint_name p.name → i < length p.bits
      → bit (port_holds t k q).value i ≡ (bit (port_holds s k p).taint i && not (is_released_bit s.lines (source (net_numbers n) (get_or p.bits i no_bit))))

-- cells start with what they do, and the cells that store for them with its taint, with the word, and with no flag
pub record GivesStarts (n a : Raw) (s t : Stimulus) : Type 0 where
  pub values : (c : RawCell) → Contains n.cells c → (cell_starts [] a t c).value ≡ (cell_starts [] n s c).value
  pub registers : (c d : RawCell) → Contains n.cells c → Contains a.cells d → has_role is_register c ≡ true → d.name ≡ taint_name c.name
      → (cell_starts [] a t d).value ≡ (cell_starts [] n s c).taint
  pub memories : (c d : RawCell) → Contains n.cells c → Contains a.cells d → has_role is_memory c ≡ true → d.name ≡ taint_name c.name
      → (cell_starts [] a t d).value ≡ (cell_starts [] n s c).taint
  pub copies : (c d : RawCell) → Contains n.cells c → Contains a.cells d → has_role is_reset_register c ≡ true → d.name ≡ stored_name c.name
      → (cell_starts [] a t d).value ≡ (cell_starts [] n s c).value
  pub flags : (c d : RawCell) → Contains n.cells c → Contains a.cells d → has_flag c ≡ true → d.name ≡ flag_name c.name
      → (cell_starts [] a t d).value ≡ false ∷ []
