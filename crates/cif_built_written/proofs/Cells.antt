-- New cells that can be written: plain ones, whose names can be written, and so all new cells for a cell.
use Rattle.std.specs.Prelude.{◌<◌, ◌^◌, List, ◌++◌, IsUtf8}
use Rattle.std.specs.List.{AllByRecursion}
use Rattle.std.proofs.Common.{arith, subst, sym}
use Rattle.std.proofs.lemmas.List.Elements.{recursion_from_All}
use Rattle.cif_defs.specs.declared.raw_module.RawParam.{RawParam}
use Rattle.cif_defs.specs.declared.raw_module.Connection.{Connection}
use Rattle.cif_defs.specs.declared.raw_module.RawCell.{RawCell}
use Rattle.cif_defs.specs.declared.raw_module.Raw.{Raw}
use Rattle.cif_json.specs.Writable.{AreParamsWritable, IsCellWritable, IsConnectionWritable, IsParamWritable}
use Rattle.cif_augment.specs.Additions.{IsBlock, block_cells}
use Rattle.cif_emit.specs.Emitted.{IsAtPort, IsNumber, IsPlainCell}
use Rattle.cif_emit.proofs.TextLaws.{param_text-IsUtf8, plain_kind-IsUtf8, port_text-IsUtf8}
use Rattle.cif_built.specs.Makings.{Making, block_of, state_cells}
use Rattle.cif_built_names.proofs.Zips.{all_append, all_weaker}
use Rattle.cif_built_written.proofs.Lists.{all_both}
use Rattle.cif_built_written.proofs.Texts.{numbered_name-IsUtf8}

-- ---- one cell

number_written : (q : RawParam) → IsNumber q → IsParamWritable q
number_written q h = subst IsParamWritable (sym h.1.1.1) (record { name = param_text-IsUtf8 h.0; value = (let small : h.1.0 < 2 ^ 32 = h.1.1.0 in omega arith) })

port_written : (x : Connection) → IsAtPort x → IsConnectionWritable x
port_written x h = subst IsConnectionWritable (sym h.1) (port_text-IsUtf8 h.0)

plain_written : (d : RawCell) → IsPlainCell d → IsUtf8 d.name → IsCellWritable d
plain_written d h name = record {
  name = name;
  kind = plain_kind-IsUtf8 d h;
  parameters = all_weaker IsNumber IsParamWritable d.parameters number_written h.numbers;
  attributes = subst AreParamsWritable (sym h.bare) tt;
  connections = all_weaker IsAtPort IsConnectionWritable d.connections port_written h.ports;
}

-- ---- the new cells for a cell

further_written : (n : Raw) (c : RawCell) (m : Making) → IsUtf8 c.name → IsBlock n c (block_of m) → AllByRecursion IsPlainCell (m.showing ++ m.storing) → AllByRecursion IsCellWritable (m.showing ++ m.storing)
further_written n c m h block plain =
    let HasText : RawCell → Type 0 = λ d. IsUtf8 d.name in
    let further : List RawCell = m.showing ++ m.storing in
    let names : AllByRecursion HasText further = recursion_from_All HasText further (λ i d l. subst IsUtf8 (sym (block.further i d l).is_new.name) (numbered_name-IsUtf8 c.name i h)) in
    all_both IsPlainCell HasText IsCellWritable further plain_written plain names

-- those that store, and then the further ones
pub block_written : (n : Raw) (c : RawCell) (m : Making) → IsUtf8 c.name → IsBlock n c (block_of m) → AllByRecursion IsPlainCell (m.showing ++ m.storing)
    → AllByRecursion IsCellWritable (state_cells m) → AllByRecursion IsCellWritable (block_cells (block_of m))
block_written n c m h block plain states =
    all_append IsCellWritable (state_cells m) (m.showing ++ m.storing) states (further_written n c m h block plain)
