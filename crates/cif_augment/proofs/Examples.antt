-- Worked examples of augmentation, by computation.
use Rattle.std.specs.Prelude.{ℕ, ◌≡◌, true, false, List, [], ◌∷◌, ◌++◌, map, codes, refl, Some, None}
use Rattle.cif_defs.specs.Accepted.{netlist_of, cell_of, initial_of, driven}
use Rattle.cif_defs.specs.RawModule.{net_numbers, needed_number, digits_read}
use Rattle.cif_defs.specs.Stimulus.{Stimulus, StimLine, cycle_line, release_line, set_line}
use Rattle.cif_defs.specs.Table.{operands_of, outputs_of, clocks_of, ports_of, parameters_of, width_limit}
use Rattle.cif_defs.specs.Weights.{weight_by}
use Rattle.cif_defs.specs.declared.nets.Src.TheVariants.{Bit}
use Rattle.cif_defs.specs.declared.raw_module.RawParam.{RawParam}
use Rattle.cif_defs.specs.declared.raw_module.RawBit.{RawBit}
use Rattle.cif_defs.specs.declared.raw_module.RawBit.TheVariants.{Net, One}
use Rattle.cif_defs.specs.declared.raw_module.Direction.TheVariants.{Input, Output}
use Rattle.cif_defs.specs.declared.raw_module.RawCell.{RawCell}
use Rattle.cif_defs.specs.declared.raw_module.RawName.{RawName}
use Rattle.cif_defs.specs.declared.raw_module.Raw.{Raw}
use Rattle.cif_defs.specs.WordText.{word_of_text}
use Rattle.cif_defs.specs.Stimulus.{TaintedWord}
use Rattle.cif_augment.specs.declared.fault.InstrumentFault.TheVariants.{NameTaken}
use Rattle.cif_augment.specs.Names.{data_ports}
use Rattle.cif_augment.specs.Refusals.{instrument_fault, names_fault, size_fault, taken_names, wanted_names, standing_names, first_name, augmented_size}
use Rattle.cif_augment.specs.Stimuli.{augmented}
use Rattle.cif_raw_runs.specs.Places.{value_at, taint_at, stored_at, stored_taint_at, stored_word, stored_taint_word, flag_at}
use Rattle.cif_augment.specs.Additions.{IsTaintRegister}
use Rattle.cif_checks.specs.Checks.{form_fault, ports_fault, cell_fault, drivers_fault, clocks_fault, reads_fault, inits_fault}
use Rattle.cif_stimulus.specs.Fitting.{fits_of, settable, register_named, memory_named}
use Rattle.cif_cells.specs.Finding.{found_of}
use Rattle.cif_defs.specs.Order.{place_among}
use Rattle.cif_defs.specs.Cells.{words_by, next_by, shown_word}
use Rattle.cif_defs.specs.Memory.{read_word, written_bit, flag_after, written_taint_bit, read_taint}
use Rattle.cif_defs.specs.Words.{Word}
use Rattle.cif_defs.specs.Completions.{can_differ}
use Rattle.cif_defs.specs.Run.{settled, driver_value, driver_value_at_depth_0, state}
use Rattle.cif_defs.specs.TaintRun.{taint_state, settled_taint, driver_taint, driver_taint_at_depth_0}
use Rattle.cif_augment.proofs.HandMade.{param, joined, port, net, cell, counter_with_taint, memory, memory_with_taint, reset_register, reset_register_with_taint}

abbrev q_bits : List RawBit
q_bits = Net 5 ∷ Net 6 ∷ Net 7 ∷ Net 8 ∷ []

abbrev sum_bits : List RawBit
sum_bits = Net 9 ∷ Net 10 ∷ Net 11 ∷ Net 12 ∷ []

abbrev counter_with : List RawName → Raw
counter_with more = record {
  «module» = codes "counter";
  attributes = [];
  ports = port (codes "clk") Input (Net 2 ∷ []) ∷ port (codes "en") Input (Net 4 ∷ []) ∷ port (codes "q") Output q_bits ∷ port (codes "rst") Input (Net 3 ∷ []) ∷ [];
  cells =
      cell (codes "$add$c.v:7$2") (codes "$add")
      (param (codes "A_SIGNED") (codes "0") ∷ param (codes "A_WIDTH") (codes "100") ∷ param (codes "B_SIGNED") (codes "0") ∷ param (codes "B_WIDTH") (codes "1") ∷ param (codes "Y_WIDTH") (codes "100") ∷ [])
      (joined (codes "A") q_bits ∷ joined (codes "B") (One ∷ []) ∷ joined (codes "Y") sum_bits ∷ []) ∷
      cell (codes "$procdff$4") (codes "$sdffe")
      (param (codes "CLK_POLARITY") (codes "1") ∷ param (codes "EN_POLARITY") (codes "1") ∷ param (codes "SRST_POLARITY") (codes "1") ∷ param (codes "SRST_VALUE") (codes "0000") ∷ param (codes "WIDTH") (codes "100") ∷ [])
      (joined (codes "CLK") (Net 2 ∷ []) ∷ joined (codes "D") sum_bits ∷ joined (codes "EN") (Net 4 ∷ []) ∷ joined (codes "Q") q_bits ∷ joined (codes "SRST") (Net 3 ∷ []) ∷ []) ∷
      cell (codes "u0") (codes "$scopeinfo") [] [] ∷ [];
  names = net (codes "clk") (Net 2 ∷ []) ∷ net (codes "en") (Net 4 ∷ []) ∷ more ++ net (codes "q") q_bits ∷ net (codes "rst") (Net 3 ∷ []) ∷ [];
}

abbrev counter : Raw
counter = counter_with []

abbrev clashing : Raw
clashing = counter_with (net (codes "en__t") (Net 4 ∷ []) ∷ [])

wanted_of_counter : wanted_names counter ≡ codes "en__t" ∷ codes "q__t" ∷ codes "rst__t" ∷ codes "$procdff$4__t" ∷ []
unfolding wanted_names data_ports clocks_of
wanted_of_counter = refl

counter_is_augmented : instrument_fault counter ≡ None
unfolding instrument_fault names_fault size_fault taken_names wanted_names standing_names first_name augmented_size data_ports clocks_of netlist_of cell_of operands_of outputs_of parameters_of needed_number digits_read net_numbers weight_by
counter_is_augmented = refl

counter_size : augmented_size counter ≡ 107
unfolding augmented_size netlist_of cell_of operands_of outputs_of parameters_of needed_number digits_read net_numbers weight_by
counter_size = refl

instrument_refusals : instrument_fault clashing ≡ Some (NameTaken (codes "en__t"))
unfolding instrument_fault names_fault size_fault taken_names wanted_names standing_names first_name augmented_size data_ports clocks_of
instrument_refusals = refl

-- ---- stimuli

abbrev mark : List ℕ → List ℕ → TaintedWord
mark v t = record { value = word_of_text v; taint = word_of_text t }

abbrev set_en : List ℕ → StimLine
set_en t = set_line (codes "en") (mark (codes "1") t)

abbrev counting : List StimLine → Stimulus
counting released = record { cycles = 5; lines = released ++ cycle_line 0 ∷ set_en (codes "0") ∷ cycle_line 2 ∷ set_en (codes "1") ∷ cycle_line 3 ∷ set_en (codes "0") ∷ [] }

abbrev set_en_taint : List ℕ → StimLine
set_en_taint v = set_line (codes "en__t") (mark v (codes "0"))

abbrev counted : List ℕ → Stimulus
counted t = record { cycles = 5; lines = cycle_line 0 ∷ set_en (codes "0") ∷ set_en_taint (codes "0") ∷ cycle_line 2 ∷ set_en (codes "0") ∷ set_en_taint t ∷ cycle_line 3 ∷ set_en (codes "0") ∷ set_en_taint (codes "0") ∷ [] }

counter_stimulus : augmented (netlist_of counter) (counting []) ≡ counted (codes "1")
unfolding augmented netlist_of net_numbers operands_of outputs_of clocks_of
counter_stimulus = refl

release_augmented : augmented (netlist_of counter) (counting (release_line (codes "en") (Bit 2 ∷ []) ∷ [])) ≡ counted (codes "0")
unfolding augmented netlist_of net_numbers operands_of outputs_of clocks_of
release_augmented = refl

-- ---- a register behind a gate, augmented by hand: y shows what a and b gave the cycle before

abbrev width_1 : List RawParam
width_1 = param (codes "A_SIGNED") (codes "0") ∷ param (codes "A_WIDTH") (codes "1") ∷ param (codes "B_SIGNED") (codes "0") ∷ param (codes "B_WIDTH") (codes "1") ∷ param (codes "Y_WIDTH") (codes "1") ∷ []

abbrev gate : List ℕ → List ℕ → ℕ → ℕ → ℕ → RawCell
gate name kind a b y = cell name kind width_1 (joined (codes "A") (Net a ∷ []) ∷ joined (codes "B") (Net b ∷ []) ∷ joined (codes "Y") (Net y ∷ []) ∷ [])

abbrev register : List ℕ → ℕ → ℕ → RawCell
register name d q = cell name (codes "$dff") (param (codes "CLK_POLARITY") (codes "1") ∷ param (codes "WIDTH") (codes "1") ∷ [])
    (joined (codes "CLK") (Net 2 ∷ []) ∷ joined (codes "D") (Net d ∷ []) ∷ joined (codes "Q") (Net q ∷ []) ∷ [])

abbrev gated : Raw
gated = record {
  «module» = codes "m";
  attributes = [];
  ports = port (codes "a") Input (Net 3 ∷ []) ∷ port (codes "b") Input (Net 4 ∷ []) ∷ port (codes "clk") Input (Net 2 ∷ []) ∷ port (codes "y") Output (Net 6 ∷ []) ∷ [];
  cells = gate (codes "g") (codes "$and") 3 4 5 ∷ register (codes "r") 5 6 ∷ [];
  names = [];
}

-- 7, 8 and 9 are the taints of a, b and y; 14 is that of the gate
abbrev gated_with_taint : Raw
gated_with_taint = record {
  «module» = codes "m";
  attributes = [];
  ports = port (codes "a") Input (Net 3 ∷ []) ∷ port (codes "a__t") Input (Net 7 ∷ []) ∷ port (codes "b") Input (Net 4 ∷ []) ∷ port (codes "b__t") Input (Net 8 ∷ [])
      ∷ port (codes "clk") Input (Net 2 ∷ []) ∷ port (codes "y") Output (Net 6 ∷ []) ∷ port (codes "y__t") Output (Net 9 ∷ []) ∷ [];
  cells =
      gate (codes "g") (codes "$and") 3 4 5 ∷
      gate (codes "g__t0") (codes "$and") 7 4 10 ∷ gate (codes "g__t1") (codes "$and") 3 8 11 ∷ gate (codes "g__t2") (codes "$and") 7 8 12 ∷
      gate (codes "g__t3") (codes "$or") 10 11 13 ∷ gate (codes "g__t4") (codes "$or") 12 13 14 ∷
      register (codes "r") 5 6 ∷ register (codes "r__t") 14 9 ∷ [];
  names = net (codes "a__t") (Net 7 ∷ []) ∷ net (codes "b__t") (Net 8 ∷ []) ∷ net (codes "y__t") (Net 9 ∷ []) ∷ [];
}

-- the same, but y__t shows what goes into the register of the taint
abbrev too_early : Raw
too_early = record gated_with_taint {
  ports = port (codes "a") Input (Net 3 ∷ []) ∷ port (codes "a__t") Input (Net 7 ∷ []) ∷ port (codes "b") Input (Net 4 ∷ []) ∷ port (codes "b__t") Input (Net 8 ∷ [])
      ∷ port (codes "clk") Input (Net 2 ∷ []) ∷ port (codes "y") Output (Net 6 ∷ []) ∷ port (codes "y__t") Output (Net 14 ∷ []) ∷ [];
}

-- a is tainted in cycle 0 alone, where b is 1
abbrev gating : Stimulus
gating = record { cycles = 3; lines = cycle_line 0 ∷ set_line (codes "a") (mark (codes "0") (codes "1")) ∷ set_line (codes "b") (mark (codes "1") (codes "0")) ∷ cycle_line 1 ∷ set_line (codes "a") (mark (codes "1") (codes "0")) ∷ [] }

passes : (form_fault gated ≡ None) × (form_fault gated_with_taint ≡ None)
unfolding form_fault ports_fault cell_fault drivers_fault clocks_fault reads_fault inits_fault net_numbers driven operands_of outputs_of clocks_of ports_of parameters_of needed_number digits_read width_limit
passes = (refl, refl)

fits : fits_of gated gating ≡ true
unfolding fits_of settable found_of register_named memory_named netlist_of cell_of net_numbers driven operands_of outputs_of clocks_of parameters_of needed_number digits_read
fits = refl

abbrev augmented_gating : Stimulus
augmented_gating = augmented (netlist_of gated) gating

shows_taint : (map (λ k. taint_at gated gating k (Net 6)) (0 ∷ 1 ∷ 2 ∷ []) ≡ false ∷ true ∷ false ∷ [])
    × (map (λ k. value_at gated_with_taint augmented_gating k (Net 9)) (0 ∷ 1 ∷ 2 ∷ []) ≡ false ∷ true ∷ false ∷ [])
unfolding taint_at value_at augmented netlist_of cell_of initial_of net_numbers driven operands_of outputs_of clocks_of parameters_of needed_number digits_read taint_state settled_taint driver_taint driver_taint_at_depth_0 can_differ state settled driver_value driver_value_at_depth_0 words_by next_by
shows_taint = (refl, refl)

shows_values : map (λ k. value_at gated gating k (Net 6)) (0 ∷ 1 ∷ 2 ∷ []) ≡ map (λ k. value_at gated_with_taint augmented_gating k (Net 6)) (0 ∷ 1 ∷ 2 ∷ [])
unfolding taint_at value_at augmented netlist_of cell_of initial_of net_numbers driven operands_of outputs_of clocks_of parameters_of needed_number digits_read state settled driver_value driver_value_at_depth_0 words_by next_by
shows_values = refl

stores_taint : (stored_at gated_with_taint augmented_gating 1 (codes "r__t") 0 ≡ true) × (stored_taint_at gated gating 1 (codes "r") 0 ≡ true)
unfolding stored_word stored_taint_word place_among augmented netlist_of cell_of initial_of net_numbers driven operands_of outputs_of clocks_of parameters_of needed_number digits_read taint_state settled_taint driver_taint driver_taint_at_depth_0 can_differ state settled driver_value driver_value_at_depth_0 words_by next_by
stores_taint = (refl, refl)

-- which isn't what the output shows: in cycle 0 it is tainted a cycle before y is
shows_early : map (λ k. value_at too_early augmented_gating k (Net 14)) (0 ∷ 1 ∷ 2 ∷ []) ≡ true ∷ false ∷ false ∷ []
unfolding value_at augmented netlist_of cell_of initial_of net_numbers driven operands_of outputs_of clocks_of parameters_of needed_number digits_read state settled driver_value driver_value_at_depth_0 words_by next_by
shows_early = refl

taint_register : IsTaintRegister (register (codes "r") 5 6) (register (codes "r__t") 14 9)
unfolding clocks_of
taint_register = record { is_new = record { name = refl; kind = refl; shown = refl; bare = refl }; width = refl; clock = refl; edge = refl }

-- ---- the counter, a memory and an asynchronous reset, augmented by hand

hand_made_pass : (form_fault counter_with_taint ≡ None) × (form_fault memory ≡ None) × (form_fault memory_with_taint ≡ None) × (form_fault reset_register ≡ None) × (form_fault reset_register_with_taint ≡ None)
unfolding form_fault ports_fault cell_fault drivers_fault clocks_fault reads_fault inits_fault net_numbers driven operands_of outputs_of clocks_of ports_of parameters_of needed_number digits_read width_limit
hand_made_pass = (refl, refl, refl, refl, refl)

-- values of some bits, cycle by cycle
abbrev values_from : Raw → Stimulus → List RawBit → List ℕ → List Word
values_from raw s bits cycles = map (λ k. map (value_at raw s k) bits) cycles

abbrev taints_from : Raw → Stimulus → List RawBit → List ℕ → List Word
taints_from raw s bits cycles = map (λ k. map (taint_at raw s k) bits) cycles

abbrev words : List (List ℕ) → List Word
words texts = map word_of_text texts

abbrev augmented_counting : Stimulus
augmented_counting = augmented (netlist_of counter) (counting [])

counter_with_taint_shows :
    (values_from counter_with_taint augmented_counting q_bits (0 ∷ 1 ∷ 2 ∷ 3 ∷ 4 ∷ []) ≡ words (codes "0000" ∷ codes "0001" ∷ codes "0010" ∷ codes "0011" ∷ codes "0100" ∷ []))
    × (values_from counter_with_taint augmented_counting (Net 15 ∷ Net 16 ∷ Net 17 ∷ Net 18 ∷ []) (0 ∷ 1 ∷ 2 ∷ 3 ∷ 4 ∷ []) ≡ words (codes "0000" ∷ codes "0000" ∷ codes "0000" ∷ codes "0001" ∷ codes "0111" ∷ []))
unfolding flag_at stored_word stored_taint_word place_among taint_at value_at augmented netlist_of cell_of initial_of net_numbers driven operands_of outputs_of clocks_of parameters_of needed_number digits_read taint_state settled_taint driver_taint driver_taint_at_depth_0 can_differ state settled driver_value driver_value_at_depth_0 words_by next_by shown_word read_word written_bit flag_after written_taint_bit read_taint
counter_with_taint_shows = (refl, refl)

abbrev sets : List (List ℕ × List ℕ × List ℕ) → List StimLine
sets [] = []
sets ((name, v, t) ∷ ws) = set_line name (mark v t) ∷ sets ws

abbrev writing : Stimulus
writing = record {
  cycles = 3;
  lines = cycle_line 0 ∷ sets ((codes "ra", codes "11", codes "00") ∷ (codes "wa", codes "01", codes "01") ∷ (codes "wd", codes "11", codes "00") ∷ (codes "we", codes "11", codes "00") ∷ [])
      ++ cycle_line 1 ∷ sets ((codes "we", codes "00", codes "00") ∷ []);
}

instrumented_memory :
    (taints_from memory writing (Net 11 ∷ Net 12 ∷ []) (0 ∷ 1 ∷ 2 ∷ []) ≡ words (codes "00" ∷ codes "11" ∷ codes "11" ∷ []))
    × (values_from memory_with_taint (augmented (netlist_of memory) writing) (Net 37 ∷ Net 38 ∷ []) (0 ∷ 1 ∷ 2 ∷ []) ≡ words (codes "00" ∷ codes "11" ∷ codes "11" ∷ []))
    × (stored_at memory_with_taint (augmented (netlist_of memory) writing) 1 (codes "c__flag") 0 ≡ true) × (flag_at memory writing 1 (codes "c") ≡ true)
unfolding flag_at stored_word stored_taint_word place_among taint_at value_at augmented netlist_of cell_of initial_of net_numbers driven operands_of outputs_of clocks_of parameters_of needed_number digits_read taint_state settled_taint driver_taint driver_taint_at_depth_0 can_differ state settled driver_value driver_value_at_depth_0 words_by next_by shown_word read_word written_bit flag_after written_taint_bit read_taint
instrumented_memory = (refl, refl, refl, refl)

abbrev resetting : Stimulus
resetting = record {
  cycles = 5;
  lines = cycle_line 0 ∷ sets ((codes "d", codes "11", codes "00") ∷ (codes "arst", codes "0", codes "0") ∷ [])
      ++ cycle_line 1 ∷ sets ((codes "arst", codes "1", codes "0") ∷ []) ++ cycle_line 2 ∷ sets ((codes "arst", codes "0", codes "1") ∷ [])
      ++ cycle_line 3 ∷ sets ((codes "arst", codes "0", codes "0") ∷ []) ++ cycle_line 4 ∷ sets ((codes "arst", codes "0", codes "1") ∷ []);
}

async_reset_augmented :
    (values_from reset_register_with_taint (augmented (netlist_of reset_register) resetting) (Net 6 ∷ Net 7 ∷ []) (0 ∷ 1 ∷ 2 ∷ 3 ∷ 4 ∷ []) ≡ words (codes "00" ∷ codes "10" ∷ codes "10" ∷ codes "11" ∷ codes "11" ∷ []))
    × (values_from reset_register_with_taint (augmented (netlist_of reset_register) resetting) (Net 41 ∷ Net 42 ∷ []) (0 ∷ 1 ∷ 2 ∷ 3 ∷ 4 ∷ []) ≡ words (codes "00" ∷ codes "00" ∷ codes "00" ∷ codes "01" ∷ codes "01" ∷ []))
unfolding flag_at stored_word stored_taint_word place_among taint_at value_at augmented netlist_of cell_of initial_of net_numbers driven operands_of outputs_of clocks_of parameters_of needed_number digits_read taint_state settled_taint driver_taint driver_taint_at_depth_0 can_differ state settled driver_value driver_value_at_depth_0 words_by next_by shown_word read_word written_bit flag_after written_taint_bit read_taint
async_reset_augmented = (refl, refl)
