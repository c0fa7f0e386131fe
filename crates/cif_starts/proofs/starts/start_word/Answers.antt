use Rattle.std.proofs.Common.{arith, ap, ◌∙◌, ◌≡◌, ◌*◌, ◌≤◌, length}
use Rattle.std.proofs.lemmas.List.{with_items_is}
use Rattle.cif_defs.specs.Accepted.{netlist_of}
use Rattle.cif_defs.specs.Cells.{state_bits}
use Rattle.cif_cells.proofs.InitialLaws.{initial_words}
use Rattle.cif_stimulus.specs.StimulusView.{tainted}
use Rattle.cif_starts.proofs.StartWords.{cell_read, size_read, few_bits, length_given, length_clear, given_same, chain_read, as_many_following, last_value, last_taint}
use Rattle.cif_starts.proofs.starts.start_word.Goals as goal

pub overflow_mul-size : goal.overflow_mul-size
overflow_mul-size c =
    let found = cell_read (netlist_of c.args.netlist.now) c.cells.result.now c.args.number c.index-cells-number.result c.cells.ensures.are c.index-cells-number.is c.requires.number in
    let size : c.row_count-rows.result * c.number.result ≡ state_bits c.index-cells-number.result = size_read c.args.netlist.now c.args.number c.index-cells-number.result c.row_count-rows.result c.number.result found c.row_count-rows.ensures c.number.ensures in
    let few : state_bits c.index-cells-number.result ≤ 16777216 = few_bits c.args.netlist.now c.args.number c.index-cells-number.result c.cells.ensures.accepted c.requires.number found in
    omega arith

pub given_word-requires : goal.given_word-requires
given_word-requires c = omega (arith, initial_words c.args.netlist.now, c.requires.number)

pub take_lines-requires-clause-as_many : goal.take_lines-requires-clause-as_many
take_lines-requires-clause-as_many c = as_many_following (netlist_of c.args.netlist.now) c.args.stimulus.now c.args.table.now _ _ c.requires.table c.lines-lines.ensures.value c.deref.ensures.value

pub take_lines-requires-clause-chain : goal.take_lines-requires-clause-chain
take_lines-requires-clause-chain c =
    let found = cell_read (netlist_of c.args.netlist.now) c.cells.result.now c.args.number c.index-cells-number.result c.cells.ensures.are c.index-cells-number.is c.requires.number in
    chain_read (netlist_of c.args.netlist.now) c.args.stimulus.now c.args.table.now c.lines-lines.result.now c.args.number c.index-cells-number.result _ c.deref.result.now
    c.requires.table c.requires.number found c.lines-lines.ensures.value c.index-first.ensures c.deref.ensures.value

pub take_lines-requires-clause-value : goal.take_lines-requires-clause-value
take_lines-requires-clause-value c =
    let found = cell_read (netlist_of c.args.netlist.now) c.cells.result.now c.args.number c.index-cells-number.result c.cells.ensures.are c.index-cells-number.is c.requires.number in
    length_given _ _ _ _ (c.deref_mut.ensures.value ∙ c.in_ok-value.ensures) (size_read c.args.netlist.now c.args.number c.index-cells-number.result c.row_count-rows.result c.number.result found c.row_count-rows.ensures c.number.ensures)

pub returns-clause-value : goal.returns-clause-value
returns-clause-value c =
    let found = cell_read (netlist_of c.args.netlist.now) c.cells.result.now c.args.number c.index-cells-number.result c.cells.ensures.are c.index-cells-number.is c.requires.number in
    let size = size_read c.args.netlist.now c.args.number c.index-cells-number.result c.row_count-rows.result c.number.result found c.row_count-rows.ensures c.number.ensures in
    let kept = with_items_is c.in_ok-value.value c.take_lines.new.value (c.take_lines.auto.value ∙ c.deref_mut.ensures.len) in
    last_value (netlist_of c.args.netlist.now) c.args.stimulus.now c.args.number c.index-cells-number.result _ c.deref_mut.result.now c.deref_mut-2.result.now (tainted c.take_lines.new.value c.take_lines.new.taint) _ found c.lines-lines.ensures.value
    (given_same _ _ _ _ _ (c.deref_mut.ensures.value ∙ c.in_ok-value.ensures) (c.deref_mut-2.ensures.value ∙ c.in_ok-taint.ensures) size) c.take_lines.ensures kept
    (ap length kept ∙ c.take_lines.auto.value ∙ length_given _ _ _ _ (c.deref_mut.ensures.value ∙ c.in_ok-value.ensures) size)

pub returns-clause-taint : goal.returns-clause-taint
returns-clause-taint c =
    let found = cell_read (netlist_of c.args.netlist.now) c.cells.result.now c.args.number c.index-cells-number.result c.cells.ensures.are c.index-cells-number.is c.requires.number in
    let size = size_read c.args.netlist.now c.args.number c.index-cells-number.result c.row_count-rows.result c.number.result found c.row_count-rows.ensures c.number.ensures in
    let kept = with_items_is c.in_ok-taint.taint c.take_lines.new.taint (c.take_lines.auto.taint ∙ c.deref_mut-2.ensures.len) in
    last_taint (netlist_of c.args.netlist.now) c.args.stimulus.now c.args.number c.index-cells-number.result _ c.deref_mut.result.now c.deref_mut-2.result.now (tainted c.take_lines.new.value c.take_lines.new.taint) _ found c.lines-lines.ensures.value
    (given_same _ _ _ _ _ (c.deref_mut.ensures.value ∙ c.in_ok-value.ensures) (c.deref_mut-2.ensures.value ∙ c.in_ok-taint.ensures) size) c.take_lines.ensures kept
    (ap length kept ∙ c.take_lines.auto.taint ∙ length_clear _ _ _ (c.deref_mut-2.ensures.value ∙ c.in_ok-taint.ensures) size)
