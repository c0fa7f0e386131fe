-- What the fields of a `Case` hold.
use Rattle.cif_defs.specs.Accepted.{netlist_of}
use Rattle.cif_defs.specs.Loop.{IsLevelled}
use Rattle.cif_defs.specs.Stimulus.{is_released}
use Rattle.std.specs.Prelude.{ℕ, ◌≡◌, true, List, get_or, map, Option, None, MatchOption, ⊤}
use Rattle.cif_defs.specs.Netlist.{Netlist, cell_at}
use Rattle.cif_words.specs.Forms.{StandsFor}
use Rattle.cif_words.specs.declared.form.WordForm.{WordForm}
use Rattle.cif_inputs.specs.Cursor.{IsMapOf}
use Rattle.cif_stimulus.specs.Fitting.{fits_of}
use Rattle.cif_seq.specs.Cases.{CaseOf}
use Rattle.cif_readers.specs.Tables.{AreReaders}
use Rattle.cif_shapes.specs.CellRules.{rule_of}
use Rattle.cif_shown.specs.Evaluates.{Marks}
use Rattle.cif_shown.specs.Shown.{AreSources}
use Rattle.cif_seq.specs.declared.case.Case.TheInside.{Inside}

abbrev pub case_seen : Inside → CaseOf
case_seen c = record { raw = c.netlist; order = c.levels; stimulus = c.stimulus }

-- each form stands for the cell of its number
unfoldable pub AreForms : Netlist → List (Option WordForm) → Type 0
AreForms n forms = (c : ℕ) → MatchOption (get_or forms c None) ⊤ (λ f. StandsFor f (cell_at n c))

-- the levels are the netlist's, the stimulus fits, the marks are the released bits, the names of the stimulus are looked up, and
-- the sources, the readers, the rules and the forms are the netlist's
pub record HoldsCase (c : Inside) : Type 0 where
  pub levelled : IsLevelled (netlist_of c.netlist) c.levels
  pub fits : fits_of c.netlist c.stimulus ≡ true
  pub marks : Marks (netlist_of c.netlist) c.released.items (is_released c.stimulus.lines)
  pub names : IsMapOf (netlist_of c.netlist) c.stimulus c.names
  pub sources : AreSources (netlist_of c.netlist) c.sources.items
  pub readers : AreReaders (netlist_of c.netlist) c.readers
  pub forms : AreForms (netlist_of c.netlist) c.forms.items
  pub rules : c.rules ≡ map rule_of (netlist_of c.netlist).cells
