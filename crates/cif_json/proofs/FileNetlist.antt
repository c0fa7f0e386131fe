-- The value of a written file stands for the module that was written.
use Rattle.std.specs.Prelude.{ℕ, ◌^◌, ◌≡◌, pos, negsuc, List, [], ◌∷◌, Bool, true, false, Some, Result, Ok, ⊤, refl}
use Rattle.std.proofs.Common.{ap, lt-ltb}
use Rattle.std.specs.List.{AllByRecursion}
use Rattle.serde_json.specs.Data.{Data}
use Rattle.cif_defs.specs.declared.raw_module.RawBit.{RawBit}
use Rattle.cif_defs.specs.declared.raw_module.RawBit.TheVariants.{Net, Zero, One, X, Z}
use Rattle.cif_defs.specs.declared.raw_module.ParamValue.{ParamValue}
use Rattle.cif_defs.specs.declared.raw_module.ParamValue.TheVariants.{Text, Number}
use Rattle.cif_defs.specs.declared.raw_module.RawParam.{RawParam}
use Rattle.cif_defs.specs.declared.raw_module.Connection.{Connection}
use Rattle.cif_defs.specs.declared.raw_module.Direction.{Direction}
use Rattle.cif_defs.specs.declared.raw_module.Direction.TheVariants.{Input, Output, Inout}
use Rattle.cif_defs.specs.declared.raw_module.RawPort.{RawPort}
use Rattle.cif_defs.specs.declared.raw_module.RawCell.{RawCell}
use Rattle.cif_defs.specs.declared.raw_module.RawName.{RawName}
use Rattle.cif_defs.specs.declared.raw_module.Raw.{Raw}
use Rattle.cif_json.specs.WrongPlace.{Place, each}
use Rattle.cif_json.specs.Shape.{bit_of, bits_of_items, bits_of, value_of, parameter, connection, attributes_of, direction_of, port, cell, named_net, module_of}
use Rattle.cif_json.specs.Top.{netlist_of}
use Rattle.cif_json.specs.WrittenNetlist.{bit_data, bit_items, bits_data, value_data, direction_data, members_by, param_name, param_data, connection_name, connection_data, port_data, cell_data, net_data, port_name, cell_name, net_name, module_data, file_data}
use Rattle.cif_json.specs.Writable.{IsBitSmall, AreBitsSmall, AreConnectionsSmall, HasSmallNets}

-- ---- bits and values

bit_back : (b : RawBit) → IsBitSmall b → bit_of (bit_data b) ≡ Some b
bit_back (Net n) h = rw (lt-ltb n (2 ^ 32) h)
bit_back Zero h = refl
bit_back One h = refl
bit_back X h = refl
bit_back Z h = refl

items_back : (bits : List RawBit) → AreBitsSmall bits → bits_of_items (bit_items bits) ≡ Some bits
items_back [] h = refl
items_back (b ∷ bs) h = rw (bit_back b h.0) (rw (items_back bs h.1))

bits_back : (bits : List RawBit) → AreBitsSmall bits → bits_of (bits_data bits) ≡ Some bits
bits_back bits h = items_back bits h

value_back : (v : ParamValue) → value_of (value_data v) ≡ Some v
value_back (Text text) = refl
value_back (Number (pos n)) = refl
value_back (Number (negsuc n)) = refl

direction_back : (d : Direction) → direction_of (direction_data d) ≡ Some d
direction_back Input = refl
direction_back Output = refl
direction_back Inout = refl

-- ---- objects that have a member for each of some things

each_back : {A : Type 0} (name_of : A → List ℕ) (data_of : A → Data) (reading : List ℕ → Data → Result A Place) (Good : A → Type 0) → ((x : A) → Good x → reading (name_of x) (data_of x) ≡ Ok x)
    → (xs : List A) → AllByRecursion Good xs → each reading (members_by name_of data_of xs) ≡ Ok xs
each_back name_of data_of reading Good back [] h = refl
each_back name_of data_of reading Good back (x ∷ xs) h = rw (back x h.0) (rw (each_back name_of data_of reading Good back xs h.1))

all : {A : Type 0} (xs : List A) → AllByRecursion (λ _. ⊤) xs
all [] = tt
all (x ∷ xs) = (tt, all xs)

parameter_back : (p : RawParam) → parameter (param_name p) (param_data p) ≡ Ok p
parameter_back p = rw (value_back p.value)

parameters_back : (params : List RawParam) → each parameter (members_by param_name param_data params) ≡ Ok params
parameters_back params = each_back param_name param_data parameter (λ _. ⊤) (λ p h. parameter_back p) params (all params)

attributes_back : (params : List RawParam) → attributes_of (members_by param_name param_data params) ≡ params
attributes_back [] = refl
attributes_back (p ∷ ps) = rw (value_back p.value) (ap (λ rest. p ∷ rest) (attributes_back ps))

connection_back : (x : Connection) → AreBitsSmall x.bits → connection (connection_name x) (connection_data x) ≡ Ok x
connection_back x h = rw (items_back x.bits h)

connections_back : (xs : List Connection) → AllByRecursion (λ (x : Connection). AreBitsSmall x.bits) xs → each connection (members_by connection_name connection_data xs) ≡ Ok xs
connections_back xs h = each_back connection_name connection_data connection (λ (x : Connection). AreBitsSmall x.bits) connection_back xs h

-- ---- ports, cells and named nets

port_back : (p : RawPort) → AreBitsSmall p.bits → port (port_name p) (port_data p) ≡ Ok p
port_back p h = rw (direction_back p.direction) (rw (items_back p.bits h))

hidden_cell : (hide : Bool) (name kind : List ℕ) (parameters attributes : List RawParam) (connections : List Connection) → AllByRecursion (λ (x : Connection). AreBitsSmall x.bits) connections
    → (c : RawCell) → c ≡ record { name = name; hide = hide; kind = kind; parameters = parameters; attributes = attributes; connections = connections } → cell (cell_name c) (cell_data c) ≡ Ok c
hidden_cell true name kind parameters attributes connections h c e = rw e (rw (parameters_back parameters) (rw (attributes_back attributes) (rw (connections_back connections h))))
hidden_cell false name kind parameters attributes connections h c e = rw e (rw (parameters_back parameters) (rw (attributes_back attributes) (rw (connections_back connections h))))

cell_back : (c : RawCell) → AreConnectionsSmall c → cell (cell_name c) (cell_data c) ≡ Ok c
cell_back c h = hidden_cell c.hide c.name c.kind c.parameters c.attributes c.connections h c refl

hidden_net : (hide : Bool) (name : List ℕ) (bits : List RawBit) (attributes : List RawParam) → AreBitsSmall bits
    → (n : RawName) → n ≡ record { name = name; hide = hide; bits = bits; attributes = attributes } → named_net (net_name n) (net_data n) ≡ Ok n
hidden_net true name bits attributes h n e = rw e (rw (items_back bits h) (rw (attributes_back attributes)))
hidden_net false name bits attributes h n e = rw e (rw (items_back bits h) (rw (attributes_back attributes)))

net_back : (n : RawName) → AreBitsSmall n.bits → named_net (net_name n) (net_data n) ≡ Ok n
net_back n h = hidden_net n.hide n.name n.bits n.attributes h n refl

-- ---- the module, and the file

module_back : (raw : Raw) → HasSmallNets raw → module_of raw.«module» (module_data raw) ≡ Ok raw
unfolding module_of
module_back raw h =
    rw (attributes_back raw.attributes)
    (rw (each_back port_name port_data port _ port_back raw.ports h.ports)
    (rw (each_back cell_name cell_data cell _ cell_back raw.cells h.cells)
    (rw (each_back net_name net_data named_net _ net_back raw.names h.nets))))

pub file_back : (raw : Raw) → HasSmallNets raw → netlist_of (file_data raw) ≡ Ok raw
unfolding netlist_of
file_back raw h = rw (module_back raw h)
