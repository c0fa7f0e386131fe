-- What the cells store, one word, one taint word and one flag for each.
use Rattle.std.specs.Prelude.{ℕ, ◌≡◌, ◌<◌, Bool, true, false, List, [], length, get_or}
use Rattle.cif_defs.specs.Words.{Word}
use Rattle.cif_defs.specs.Cells.{state_bits}
use Rattle.cif_defs.specs.Loop.{is_passing}
use Rattle.cif_defs.specs.Netlist.{Netlist, cell_at, role_at}
use Rattle.cif_cycle.specs.declared.stored.StoredWords.{StoredWords}
use Rattle.cif_shown.specs.Shown.{Given}

-- one of each for a cell, and each word as long as the cell's state
pub record IsStored (n : Netlist) (values taints : List Word) (flags : List Bool) : Type 0 where
  pub as_many_values : length values ≡ length n.cells
  pub as_many_taints : length taints ≡ length n.cells
  pub as_many_flags : length flags ≡ length n.cells
  pub value_width : (c : ℕ) → c < length n.cells → length (get_or values c []) ≡ state_bits (cell_at n c)
  pub taint_width : (c : ℕ) → c < length n.cells → length (get_or taints c []) ≡ state_bits (cell_at n c)

-- the same of one cell: it has a place in each table, and its words are as long as its state
pub record IsStoredAt (n : Netlist) (values taints : List Word) (flags : List Bool) (c : ℕ) : Type 0 where
  pub value_place : c < length values
  pub taint_place : c < length taints
  pub flag_place : c < length flags
  pub value_width : length (get_or values c []) ≡ state_bits (cell_at n c)
  pub taint_width : length (get_or taints c []) ≡ state_bits (cell_at n c)

-- and of each cell of a list
abbrev pub AreStored : Netlist → List Word → List Word → List Bool → List ℕ → Type 0
AreStored n values taints flags cells = (i : ℕ) → i < length cells → IsStoredAt n values taints flags (get_or cells i 0)

-- all cells of a list are passing
abbrev pub ArePassing : Netlist → List ℕ → Type 0
ArePassing n cells = (i : ℕ) → i < length cells → is_passing (role_at n (get_or cells i 0)) ≡ true

-- what is given by what the cells store alone, with no input and no release
abbrev pub given_words : List Word → List Word → List Bool → Given
given_words values taints flags = record {
  stored = values;
  state = record { stored = taints; flags = flags };
  input = λ p i. false;
  taint_input = λ p i. false;
  released = λ b. false;
}

abbrev pub given_of : StoredWords → Given
given_of s = given_words s.values.items s.taints.items s.flags.items
