-- The value of a written file has whole numbers alone, and its members stand in order.
use Rattle.std.specs.Prelude.{ℕ, suc, ◌≡◌, pos, negsuc, List, [], ◌∷◌, map, Bool, true, false, Option, Some, None, refl}
use Rattle.std.proofs.Common.{Less, arith}
use Rattle.std.specs.List.{AllByRecursion}
use Rattle.std.specs.List.Sorted.{IsStrictlySortedBy}
use Rattle.serde_json.specs.Data.{Data, Members}
use Rattle.cif_defs.specs.Order.{AreInOrder, param_names, connection_names, IsCellInOrder, IsNetInOrder}
use Rattle.cif_defs.specs.declared.raw_module.RawBit.{RawBit}
use Rattle.cif_defs.specs.declared.raw_module.RawBit.TheVariants.{Net, Zero, One, X, Z}
use Rattle.cif_defs.specs.declared.raw_module.ParamValue.{ParamValue}
use Rattle.cif_defs.specs.declared.raw_module.ParamValue.TheVariants.{Text, Number}
use Rattle.cif_defs.specs.declared.raw_module.RawParam.{RawParam}
use Rattle.cif_defs.specs.declared.raw_module.Connection.{Connection}
use Rattle.cif_defs.specs.declared.raw_module.Direction.{Direction}
use Rattle.cif_defs.specs.declared.raw_module.RawPort.{RawPort}
use Rattle.cif_defs.specs.declared.raw_module.RawCell.{RawCell}
use Rattle.cif_defs.specs.declared.raw_module.RawName.{RawName}
use Rattle.cif_defs.specs.declared.raw_module.Raw.{Raw}
use Rattle.cif_json.specs.WrittenNetlist.{bit_items, bits_data, param_name, param_data, params_data, flag_data, members_by, connection_name, connection_data, connections_data, direction_in, with_direction, directions, port_data, cell_data, net_data, port_name, cell_name, net_name, module_data, file_data}
use Rattle.cif_json.specs.Writable.{IsValueWritable, IsParamWritable, IsCellWritable, IsNetWritable, IsWritable, IsBitSmall, AreBitsSmall, AreConnectionsSmall, HasSmallNets}
use Rattle.cif_json.proofs.OrderedData.{compared, IsBelowAll, member_names}
use Rattle.cif_json.proofs.ReadBack.{IsPlain, ItemsArePlain, MembersArePlain}

-- ---- bits and values

bit_plain : (n : ℕ) (b : RawBit) (bs : List RawBit) → IsBitSmall b → ItemsArePlain n (bit_items bs) → ItemsArePlain n (bit_items (b ∷ bs))
bit_plain n (Net x) bs h hs = (omega (arith, h), hs)
bit_plain n Zero bs h hs = (tt, hs)
bit_plain n One bs h hs = (tt, hs)
bit_plain n X bs h hs = (tt, hs)
bit_plain n Z bs h hs = (tt, hs)

bits_plain : (n : ℕ) (bits : List RawBit) → AreBitsSmall bits → IsPlain (suc n) (bits_data bits)
bits_plain n [] h = tt
bits_plain n (b ∷ bs) h = bit_plain n b bs h.0 (bits_plain n bs h.1)

value_plain : (n : ℕ) (name : List ℕ) (v : ParamValue) → IsValueWritable v → IsPlain n (param_data (record { name = name; value = v }))
value_plain n name (Text text) h = tt
value_plain n name (Number (pos x)) h = h
value_plain n name (Number (negsuc x)) h = h

param_plain : (n : ℕ) (p : RawParam) → IsParamWritable p → IsPlain n (param_data p)
param_plain n p h = value_plain n p.name p.value h.value

flag_plain : (n : ℕ) (hide : Bool) → IsPlain n (flag_data hide)
flag_plain n true = omega arith
flag_plain n false = omega arith

-- ---- objects that have a member for each of some things

below_members : {A : Type 0} (name_of : A → List ℕ) (data_of : A → Data) (k : List ℕ) (xs : List A) → IsBelowAll k (map name_of xs) → IsBelowAll k (member_names (members_by name_of data_of xs))
below_members name_of data_of k [] h = tt
below_members name_of data_of k (x ∷ xs) h = (h.0, below_members name_of data_of k xs h.1)

members_plain : {A : Type 0} (n : ℕ) (name_of : A → List ℕ) (data_of : A → Data) (Good : A → Type 0) → ((x : A) → Good x → IsPlain n (data_of x))
    → (xs : List A) → AreInOrder (map name_of xs) → AllByRecursion Good xs → MembersArePlain n (members_by name_of data_of xs)
unfolding IsStrictlySortedBy
members_plain n name_of data_of Good each [] order h = tt
members_plain n name_of data_of Good each (x ∷ xs) order h =
    (below_members name_of data_of (name_of x) xs order.0, each x h.0, members_plain n name_of data_of Good each xs order.1 h.1)

params_plain : (n : ℕ) (params : List RawParam) → AreInOrder (param_names params) → AllByRecursion IsParamWritable params → IsPlain (suc n) (params_data params)
params_plain n params order h = members_plain n param_name param_data IsParamWritable (param_plain n) params order h

connections_plain : (n : ℕ) (xs : List Connection) → AreInOrder (connection_names xs) → AllByRecursion (λ (x : Connection). AreBitsSmall x.bits) xs → IsPlain (suc (suc n)) (connections_data xs)
connections_plain n xs order h = members_plain (suc n) connection_name connection_data _ (λ x hx. bits_plain n x.bits hx) xs order h

-- ---- directions

below_direction : (k name : List ℕ) (o : Option Direction) (ms : Members) → compared k name ≡ Less → IsBelowAll k (member_names ms) → IsBelowAll k (member_names (with_direction name o ms))
below_direction k name None ms h hs = hs
below_direction k name (Some direction) ms h hs = (h, hs)

below_directions : (k kind : List ℕ) (xs : List Connection) → IsBelowAll k (connection_names xs) → IsBelowAll k (member_names (directions kind xs))
below_directions k kind [] h = tt
below_directions k kind (x ∷ xs) h = below_direction k x.name (direction_in kind x.name) (directions kind xs) h.0 (below_directions k kind xs h.1)

direction_plain : (n : ℕ) (name : List ℕ) (o : Option Direction) (ms : Members) → IsBelowAll name (member_names ms) → MembersArePlain n ms → MembersArePlain n (with_direction name o ms)
direction_plain n name None ms below h = h
direction_plain n name (Some direction) ms below h = (below, tt, h)

directions_plain : (n : ℕ) (kind : List ℕ) (xs : List Connection) → AreInOrder (connection_names xs) → MembersArePlain n (directions kind xs)
unfolding IsStrictlySortedBy
directions_plain n kind [] order = tt
directions_plain n kind (x ∷ xs) order = direction_plain n x.name (direction_in kind x.name) (directions kind xs) (below_directions x.name kind xs order.0) (directions_plain n kind xs order.1)

-- ---- ports, cells and named nets

port_plain : (n : ℕ) (p : RawPort) → AreBitsSmall p.bits → IsPlain (suc (suc n)) (port_data p)
port_plain n p h = ((refl, tt), bits_plain n p.bits h, (tt, tt, tt))

pub record IsGoodCell (c : RawCell) : Type 0 where
  pub order : IsCellInOrder c
  pub fit : IsCellWritable c
  pub small : AreConnectionsSmall c

cell_plain : (n : ℕ) (c : RawCell) → IsGoodCell c → IsPlain (suc (suc (suc n))) (cell_data c)
cell_plain n c h = (
  (refl, (refl, (refl, (refl, (refl, tt))))),
  params_plain (suc n) c.attributes h.order.attributes h.fit.attributes,
  (
    (refl, (refl, (refl, (refl, tt)))),
    connections_plain n c.connections h.order.connections h.small,
    (
      (refl, (refl, (refl, tt))),
      flag_plain (suc (suc n)) c.hide,
      (
        (refl, (refl, tt)),
        params_plain (suc n) c.parameters h.order.parameters h.fit.parameters,
        (
          (refl, tt),
          directions_plain (suc n) c.kind c.connections h.order.connections,
          (
            tt,
            tt,
            tt,
          ),
        ),
      ),
    ),
  ),
)

pub record IsGoodNet (n : RawName) : Type 0 where
  pub order : IsNetInOrder n
  pub fit : IsNetWritable n
  pub small : AreBitsSmall n.bits

net_plain : (n : ℕ) (x : RawName) → IsGoodNet x → IsPlain (suc (suc n)) (net_data x)
net_plain n x h = (
  (refl, (refl, tt)),
  params_plain n x.attributes h.order h.fit.attributes,
  (
    (refl, tt),
    bits_plain n x.bits h.small,
    (
      tt,
      flag_plain (suc n) x.hide,
      tt,
    ),
  ),
)

-- ---- the file

good_cells : (cells : List RawCell) → AllByRecursion IsCellInOrder cells → AllByRecursion IsCellWritable cells → AllByRecursion AreConnectionsSmall cells → AllByRecursion IsGoodCell cells
good_cells [] order fit small = tt
good_cells (c ∷ cs) order fit small = (record { order = order.0; fit = fit.0; small = small.0 }, good_cells cs order.1 fit.1 small.1)

good_nets : (nets : List RawName) → AllByRecursion IsNetInOrder nets → AllByRecursion IsNetWritable nets → AllByRecursion (λ (x : RawName). AreBitsSmall x.bits) nets → AllByRecursion IsGoodNet nets
good_nets [] order fit small = tt
good_nets (x ∷ xs) order fit small = (record { order = order.0; fit = fit.0; small = small.0 }, good_nets xs order.1 fit.1 small.1)

-- the levels of a file: file, modules, module, cells, cell, connections, bits
abbrev pub file_levels : ℕ
file_levels = 7

module_plain : (raw : Raw) → IsWritable raw → HasSmallNets raw → IsPlain 5 (module_data raw)
module_plain raw h small = (
  (refl, (refl, (refl, tt))),
  params_plain 3 raw.attributes h.in_order.attributes h.attributes,
  (
    (refl, (refl, tt)),
    members_plain 3 cell_name cell_data IsGoodCell (cell_plain 0) raw.cells h.in_order.cells (good_cells raw.cells h.in_order.each_cell h.cells small.cells),
    (
      (refl, tt),
      members_plain 3 net_name net_data IsGoodNet (net_plain 1) raw.names h.in_order.nets (good_nets raw.names h.in_order.each_net h.nets small.nets),
      (
        tt,
        members_plain 3 port_name port_data _ (port_plain 1) raw.ports h.in_order.ports small.ports,
        tt,
      ),
    ),
  ),
)

pub file_plain : (raw : Raw) → IsWritable raw → HasSmallNets raw → IsPlain file_levels (file_data raw)
file_plain raw h small = ((refl, tt), tt, (tt, (tt, module_plain raw h small, tt), tt))
