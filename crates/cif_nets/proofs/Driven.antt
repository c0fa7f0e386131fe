-- What drives a net number: each driver with the place at which the number stands, and back.
use Rattle.std.specs.Prelude.{ℕ, zero, suc, ◌+◌, ◌/◌, ◌%◌, ◌<◌, ◌≤◌, ◌≡◌, ◌⊎◌, ◌==◌, Bool, true, false, List, [], ◌∷◌, map, filter, length, Option, Some, None, unwrap_or, eqb, refl}
use Rattle.std.proofs.Common.{arith, sym, ap, ◌∙◌, cond, inl, inr}
use Rattle.std.proofs.lemmas.Bool.{cond-true, cond-false, cond_both, eqb-true, eq-eqb}
use Rattle.cif_defs.specs.Kinds.{role_of}
use Rattle.cif_defs.specs.Table.{kind_of, outputs_of}
use Rattle.cif_defs.specs.RawModule.{number_given, port_bits, output_bits}
use Rattle.cif_defs.specs.Accepted.{is_input, driven, driven_from, driven_by_inputs, driven_by_outputs, driven_by_role, driven_by_kind, driven_by_cells, driver_in}
use Rattle.cif_defs.specs.declared.kinds.Kind.{Kind}
use Rattle.cif_defs.specs.declared.kinds.Role.{Role}
use Rattle.cif_defs.specs.declared.kinds.Role.TheVariants.{Combinational, PlainRegister, ResetRegister, MemoryBlock, CarriedOver}
use Rattle.cif_defs.specs.declared.kinds.Param.TheVariants.{Width}
use Rattle.cif_defs.specs.declared.kinds.PortRow.{PortRow}
use Rattle.cif_defs.specs.declared.nets.Driver.{Driver}
use Rattle.cif_defs.specs.declared.nets.Driver.TheVariants.{Input, Output, Register, Read}
use Rattle.cif_defs.specs.declared.raw_module.RawBit.{RawBit}
use Rattle.cif_defs.specs.declared.raw_module.RawBit.TheVariants.{Net, Zero, One, X, Z}
use Rattle.cif_defs.specs.declared.raw_module.RawPort.{RawPort}
use Rattle.cif_defs.specs.declared.raw_module.RawCell.{RawCell}
use Rattle.cif_defs.specs.declared.raw_module.Raw.{Raw}
use Rattle.cif_nets.proofs.Places.{At, Has, At-subst, At-moved, Has-left, Has-right, Has-append}

-- ---- the driver of a number among some

abbrev pub Drive : Type 0
Drive = ℕ × Driver

pair_is : (e : Drive) (x : ℕ) (d : Driver) → e.0 ≡ x → e.1 ≡ d → e ≡ (x, d)
pair_is e x d p q = ap (λ (a : ℕ). (a, e.1)) p ∙ ap (λ (b : Driver). (x, b)) q

Has-driver_by : (b : Bool) (e : Drive) (ds : List Drive) (x : ℕ) (d : Driver) → eqb e.0 x ≡ b → (driver_in ds x ≡ Some d → Has ds (x, d)) → cond b (Some e.1) (driver_in ds x) ≡ Some d → Has (e ∷ ds) (x, d)
Has-driver_by true e ds x d t rest h = inl (pair_is e x d (eqb-true e.0 x t) (cc))
Has-driver_by false e ds x d t rest h = inr (rest h)

pub Has-driver : (ds : List Drive) (x : ℕ) (d : Driver) → driver_in ds x ≡ Some d → Has ds (x, d)
Has-driver [] x d h = absurd (cc)
Has-driver (e ∷ ds) x d h = Has-driver_by (eqb e.0 x) e ds x d refl (Has-driver ds x d) h

-- how often a number is driven
abbrev pub times : List Drive → ℕ → ℕ
times ds x = length (filter (λ y. y == x) (map (λ (d : Drive). d.0) ds))

times_past : (e : Drive) (ds : List Drive) (x : ℕ) → times ds x ≤ times (e ∷ ds) x
times_past e ds x = cond_both (eqb e.0 x) (e.0 ∷ filter (λ y. y == x) (map (λ (d : Drive). d.0) ds)) (filter (λ y. y == x) (map (λ (d : Drive). d.0) ds)) (λ ys. times ds x ≤ length ys) (λ _. omega arith) (λ _. omega arith)

times_here : (e : Drive) (ds : List Drive) (x : ℕ) → eqb e.0 x ≡ true → times (e ∷ ds) x ≡ suc (times ds x)
times_here e ds x t = ap length (cond-true (eqb e.0 x) (e.0 ∷ filter (λ y. y == x) (map (λ (d : Drive). d.0) ds)) (filter (λ y. y == x) (map (λ (d : Drive). d.0) ds)) t)

pub Has-counted : (ds : List Drive) (x : ℕ) (d : Driver) → Has ds (x, d) → 0 < times ds x
Has-counted [] x d h = absurd h
Has-counted (e ∷ ds) x d (inl p) = (let t : eqb e.0 x ≡ true = eq-eqb e.0 x (ap (λ (q : Drive). q.0) p) in let n = times_here e ds x t in omega arith)
Has-counted (e ∷ ds) x d (inr h) = (let n : 0 < times ds x = Has-counted ds x d h in let m = times_past e ds x in omega arith)

driver_by : (b : Bool) (e : Drive) (ds : List Drive) (x : ℕ) (d : Driver) → eqb e.0 x ≡ b → times (e ∷ ds) x ≤ 1 → (times ds x ≤ 1 → driver_in ds x ≡ Some d) → Has ds (x, d) → driver_in (e ∷ ds) x ≡ Some d
driver_by true e ds x d t n rest h = absurd (let a = times_here e ds x t in let b : 0 < times ds x = Has-counted ds x d h in omega arith)
driver_by false e ds x d t n rest h = cond-false (eqb e.0 x) (Some e.1) (driver_in ds x) t ∙ rest (let m = times_past e ds x in omega arith)

-- a number that is driven once has that driver
pub driver_once : (ds : List Drive) (x : ℕ) (d : Driver) → times ds x ≤ 1 → Has ds (x, d) → driver_in ds x ≡ Some d
driver_once [] x d n h = absurd h
driver_once (e ∷ ds) x d n (inl p) = cond-true (eqb e.0 x) (Some e.1) (driver_in ds x) (eq-eqb e.0 x (ap (λ (q : Drive). q.0) p)) ∙ ap (λ (q : Drive). Some q.1) p
driver_once (e ∷ ds) x d n (inr h) = driver_by (eqb e.0 x) e ds x d refl n (λ m. driver_once ds x d m h) h

-- ---- bits in a row

pub driven_from_at : (f : ℕ → Driver) (i : ℕ) (bits : List RawBit) (x : ℕ) (d : Driver) → Has (driven_from f i bits) (x, d) → (j : ℕ) × At bits j (Net x) × (d ≡ f (i + j))
driven_from_at f i [] x d h = absurd h
driven_from_at f i (Net y ∷ bits) x d (inl e) = (0, ap (λ (q : Drive). Net q.0) e, sym (ap (λ (q : Drive). q.1) e) ∙ ap f (let z : i ≡ i + 0 = omega arith in z))
driven_from_at f i (Net y ∷ bits) x d (inr h) = (let r = driven_from_at f (i + 1) bits x d h in (suc r.0, r.1, r.2 ∙ ap f (omega arith)))
driven_from_at f i (Zero ∷ bits) x d h = (let r = driven_from_at f (i + 1) bits x d h in (suc r.0, r.1, r.2 ∙ ap f (omega arith)))
driven_from_at f i (One ∷ bits) x d h = (let r = driven_from_at f (i + 1) bits x d h in (suc r.0, r.1, r.2 ∙ ap f (omega arith)))
driven_from_at f i (X ∷ bits) x d h = (let r = driven_from_at f (i + 1) bits x d h in (suc r.0, r.1, r.2 ∙ ap f (omega arith)))
driven_from_at f i (Z ∷ bits) x d h = (let r = driven_from_at f (i + 1) bits x d h in (suc r.0, r.1, r.2 ∙ ap f (omega arith)))

one_on : (f : ℕ → Driver) (i j x : ℕ) (ds : List Drive) → Has ds (x, f (i + 1 + j)) → Has ds (x, f (i + suc j))
one_on f i j x ds h = (let e : i + suc j ≡ i + 1 + j = omega arith in rw e h)

pub Has-driven_from : (f : ℕ → Driver) (i : ℕ) (bits : List RawBit) (j x : ℕ) → At bits j (Net x) → Has (driven_from f i bits) (x, f (i + j))
Has-driven_from f i [] j x h = absurd h
Has-driven_from f i (Net y ∷ bits) zero x h = inl (let e : y ≡ x = cc in let z : i ≡ i + 0 = omega arith in pair_is (y, f i) x (f (i + 0)) e (ap f z))
Has-driven_from f i (Zero ∷ bits) zero x h = absurd (cc)
Has-driven_from f i (One ∷ bits) zero x h = absurd (cc)
Has-driven_from f i (X ∷ bits) zero x h = absurd (cc)
Has-driven_from f i (Z ∷ bits) zero x h = absurd (cc)
Has-driven_from f i (Net y ∷ bits) (suc j) x h = inr (one_on f i j x (driven_from f (i + 1) bits) (Has-driven_from f (i + 1) bits j x h))
Has-driven_from f i (Zero ∷ bits) (suc j) x h = one_on f i j x (driven_from f (i + 1) bits) (Has-driven_from f (i + 1) bits j x h)
Has-driven_from f i (One ∷ bits) (suc j) x h = one_on f i j x (driven_from f (i + 1) bits) (Has-driven_from f (i + 1) bits j x h)
Has-driven_from f i (X ∷ bits) (suc j) x h = one_on f i j x (driven_from f (i + 1) bits) (Has-driven_from f (i + 1) bits j x h)
Has-driven_from f i (Z ∷ bits) (suc j) x h = one_on f i j x (driven_from f (i + 1) bits) (Has-driven_from f (i + 1) bits j x h)

-- ---- input ports

-- a bit of a port
pub record PortBit (ports : List RawPort) (p i x : ℕ) : Type 0 where
  pub port : RawPort
  pub at_port : At ports p port
  pub at_bit : At port.bits i (Net x)

pub record InputDrive (p : ℕ) (ports : List RawPort) (x : ℕ) (d : Driver) : Type 0 where
  pub number : ℕ
  pub index : ℕ
  pub bit : PortBit ports number index x
  pub is : d ≡ Input (p + number) index

pub inputs_at : (p : ℕ) (ports : List RawPort) (x : ℕ) (d : Driver) → Has (driven_by_inputs p ports) (x, d) → InputDrive p ports x d
inputs_at p [] x d h = absurd h
inputs_at p (port ∷ ports) x d h = elim (Has-append (driven_from (Input p) 0 port.bits) (driven_by_inputs (p + 1) ports) (x, d) h) [
  | inl a ↦ (let r = driven_from_at (Input p) 0 port.bits x d a in record { number = 0; index = r.0; bit = record { port = port; at_port = refl; at_bit = r.1 }; is = r.2 ∙ (let e : p ≡ p + 0 = omega arith in let g : 0 + r.0 ≡ r.0 = omega arith in ap (λ (k : ℕ). Input k (0 + r.0)) e ∙ ap (Input (p + 0)) g) })
  | inr b ↦ (let r = inputs_at (p + 1) ports x d b in record { number = suc r.number; index = r.index; bit = record { port = r.bit.port; at_port = r.bit.at_port; at_bit = r.bit.at_bit }; is = r.is ∙ ap (λ (k : ℕ). Input k r.index) (omega arith) })
]

pub Has-inputs : (p : ℕ) (ports : List RawPort) (q i x : ℕ) → PortBit ports q i x → Has (driven_by_inputs p ports) (x, Input (p + q) i)
Has-inputs p [] q i x b = absurd b.at_port
Has-inputs p (port ∷ ports) zero i x b =
    let at : At port.bits i (Net x) = At-subst b.port.bits port.bits i (Net x) (ap (λ (r : RawPort). r.bits) (sym b.at_port)) b.at_bit in
    let e : p + 0 ≡ p = omega arith in
    let g : i ≡ 0 + i = omega arith in
    Has-left (driven_from (Input p) 0 port.bits) (driven_by_inputs (p + 1) ports) (x, Input (p + 0) i) (rw (e, g) (Has-driven_from (Input p) 0 port.bits i x at))
Has-inputs p (port ∷ ports) (suc q) i x b =
    let e : p + suc q ≡ p + 1 + q = omega arith in
    Has-right (driven_from (Input p) 0 port.bits) (driven_by_inputs (p + 1) ports) (x, Input (p + suc q) i) (rw e (Has-inputs (p + 1) ports q i x (record { port = b.port; at_port = b.at_port; at_bit = b.at_bit })))

-- ---- cells

pub record CellDrive (c : ℕ) (cells : List RawCell) (x : ℕ) (d : Driver) : Type 0 where
  pub number : ℕ
  pub cell : RawCell
  pub at_cell : At cells number cell
  pub has : Has (driven_by_kind (c + number) cell (kind_of cell.kind)) (x, d)

pub cells_at : (c : ℕ) (cells : List RawCell) (x : ℕ) (d : Driver) → Has (driven_by_cells c cells) (x, d) → CellDrive c cells x d
cells_at c [] x d h = absurd h
cells_at c (cell ∷ cells) x d h = elim (Has-append (driven_by_kind c cell (kind_of cell.kind)) (driven_by_cells (c + 1) cells) (x, d) h) [
  | inl a ↦ record { number = 0; cell = cell; at_cell = refl; has = (let e : c + 0 ≡ c = omega arith in rw e a) }
  | inr b ↦ (let r = cells_at (c + 1) cells x d b in record { number = suc r.number; cell = r.cell; at_cell = r.at_cell; has = (let e : c + suc r.number ≡ c + 1 + r.number = omega arith in rw e r.has) })
]

pub Has-cells : (c : ℕ) (cells : List RawCell) (q : ℕ) (cell : RawCell) (x : ℕ) (d : Driver) → At cells q cell → Has (driven_by_kind (c + q) cell (kind_of cell.kind)) (x, d) → Has (driven_by_cells c cells) (x, d)
Has-cells c [] q cell x d at h = absurd at
Has-cells c (first ∷ cells) zero cell x d at h =
    let e : c + 0 ≡ c = omega arith in
    Has-left (driven_by_kind c first (kind_of first.kind)) (driven_by_cells (c + 1) cells) (x, d) (rw (at, ← e) h)
Has-cells c (first ∷ cells) (suc q) cell x d at h =
    let e : c + 1 + q ≡ c + suc q = omega arith in
    Has-right (driven_by_kind c first (kind_of first.kind)) (driven_by_cells (c + 1) cells) (x, d) (Has-cells (c + 1) cells q cell x d at (rw e h))

-- a bit of an output of a cell
pub record OutputBit (cell : RawCell) (k : Kind) (p i x : ℕ) : Type 0 where
  pub row : PortRow
  pub at_row : At (outputs_of k) p row
  pub at_bit : At (port_bits cell row) i (Net x)

pub record OutputDrive (c : ℕ) (cell : RawCell) (rows : List PortRow) (p : ℕ) (x : ℕ) (d : Driver) : Type 0 where
  pub number : ℕ
  pub index : ℕ
  pub row : PortRow
  pub at_row : At rows number row
  pub at_bit : At (port_bits cell row) index (Net x)
  pub is : d ≡ Output c (p + number) index

pub outputs_at : (c : ℕ) (cell : RawCell) (rows : List PortRow) (p x : ℕ) (d : Driver) → Has (driven_by_outputs c p (map (port_bits cell) rows)) (x, d) → OutputDrive c cell rows p x d
outputs_at c cell [] p x d h = absurd h
outputs_at c cell (row ∷ rows) p x d h = elim (Has-append (driven_from (Output c p) 0 (port_bits cell row)) (driven_by_outputs c (p + 1) (map (port_bits cell) rows)) (x, d) h) [
  | inl a ↦ (let r = driven_from_at (Output c p) 0 (port_bits cell row) x d a in record { number = 0; index = r.0; row = row; at_row = refl; at_bit = r.1; is = r.2 ∙ (let e : p ≡ p + 0 = omega arith in let g : 0 + r.0 ≡ r.0 = omega arith in ap (λ (k : ℕ). Output c k (0 + r.0)) e ∙ ap (Output c (p + 0)) g) })
  | inr b ↦ (let r = outputs_at c cell rows (p + 1) x d b in record { number = suc r.number; index = r.index; row = r.row; at_row = r.at_row; at_bit = r.at_bit; is = r.is ∙ ap (λ (k : ℕ). Output c k r.index) (omega arith) })
]

pub Has-outputs : (c : ℕ) (cell : RawCell) (rows : List PortRow) (p q i x : ℕ) (row : PortRow) → At rows q row → At (port_bits cell row) i (Net x) → Has (driven_by_outputs c p (map (port_bits cell) rows)) (x, Output c (p + q) i)
Has-outputs c cell [] p q i x row at h = absurd at
Has-outputs c cell (first ∷ rows) p zero i x row at h =
    let e : p + 0 ≡ p = omega arith in
    let g : i ≡ 0 + i = omega arith in
    let bit : At (port_bits cell first) i (Net x) = At-subst (port_bits cell row) (port_bits cell first) i (Net x) (ap (port_bits cell) (sym at)) h in
    Has-left (driven_from (Output c p) 0 (port_bits cell first)) (driven_by_outputs c (p + 1) (map (port_bits cell) rows)) (x, Output c (p + 0) i) (rw (e, g) (Has-driven_from (Output c p) 0 (port_bits cell first) i x bit))
Has-outputs c cell (first ∷ rows) p (suc q) i x row at h =
    let e : p + suc q ≡ p + 1 + q = omega arith in
    Has-right (driven_from (Output c p) 0 (port_bits cell first)) (driven_by_outputs c (p + 1) (map (port_bits cell) rows)) (x, Output c (p + suc q) i) (rw e (Has-outputs c cell rows (p + 1) q i x row at h))

-- the width of a memory's words
abbrev pub word_width : RawCell → ℕ
word_width cell = unwrap_or (number_given cell Width) 0

-- ---- what each driver of a cell says

pub record OutputPlace (c : ℕ) (cell : RawCell) (role : Role) (k : Kind) (x c' p i : ℕ) : Type 0 where
  pub same_cell : c' ≡ c
  pub same_role : role ≡ Combinational
  pub bit : OutputBit cell k p i x

output_by_role : (c : ℕ) (role : Role) (cell : RawCell) (k : Kind) (x c' p i : ℕ) → Has (driven_by_role c role cell k) (x, Output c' p i) → OutputPlace c cell role k x c' p i
output_by_role c Combinational cell k x c' p i h =
    let r = outputs_at c cell (outputs_of k) 0 x (Output c' p i) h in
    let is : Output c' p i ≡ Output c (0 + r.number) r.index = r.is in
    let z : 0 + r.number ≡ r.number = omega arith in
    let place : p ≡ r.number = cc in
    let index : i ≡ r.index = cc in
    record { same_cell = cc; same_role = refl; bit = record { row = r.row; at_row = At-moved (outputs_of k) r.number p r.row place r.at_row; at_bit = At-moved (port_bits cell r.row) r.index i (Net x) index r.at_bit } }
output_by_role c PlainRegister cell k x c' p i h = absurd (let r = driven_from_at (Register c) 0 (output_bits cell) x (Output c' p i) h in let is : Output c' p i ≡ Register c (0 + r.0) = r.2 in cc)
output_by_role c ResetRegister cell k x c' p i h = absurd (let r = driven_from_at (Register c) 0 (output_bits cell) x (Output c' p i) h in let is : Output c' p i ≡ Register c (0 + r.0) = r.2 in cc)
output_by_role c MemoryBlock cell k x c' p i h = absurd (let r = driven_from_at (λ j. Read c (j / word_width cell) (j % word_width cell)) 0 (output_bits cell) x (Output c' p i) h in let is : Output c' p i ≡ Read c ((0 + r.0) / word_width cell) ((0 + r.0) % word_width cell) = r.2 in cc)
output_by_role c CarriedOver cell k x c' p i h = absurd h

pub record RegisterPlace (c : ℕ) (cell : RawCell) (role : Role) (x c' i : ℕ) : Type 0 where
  pub same_cell : c' ≡ c
  pub same_role : (role ≡ PlainRegister) ⊎ (role ≡ ResetRegister)
  pub at_bit : At (output_bits cell) i (Net x)

register_from : (c : ℕ) (role : Role) (cell : RawCell) (x c' i : ℕ) → (role ≡ PlainRegister) ⊎ (role ≡ ResetRegister) → Has (driven_from (Register c) 0 (output_bits cell)) (x, Register c' i) → RegisterPlace c cell role x c' i
register_from c role cell x c' i e h =
    let r = driven_from_at (Register c) 0 (output_bits cell) x (Register c' i) h in
    let is : Register c' i ≡ Register c (0 + r.0) = r.2 in
    let z : 0 + r.0 ≡ r.0 = omega arith in
    let index : i ≡ r.0 = cc in
    record { same_cell = cc; same_role = e; at_bit = At-moved (output_bits cell) r.0 i (Net x) index r.1 }

register_by_role : (c : ℕ) (role : Role) (cell : RawCell) (k : Kind) (x c' i : ℕ) → Has (driven_by_role c role cell k) (x, Register c' i) → RegisterPlace c cell role x c' i
register_by_role c Combinational cell k x c' i h = absurd (let r = outputs_at c cell (outputs_of k) 0 x (Register c' i) h in let is : Register c' i ≡ Output c (0 + r.number) r.index = r.is in cc)
register_by_role c PlainRegister cell k x c' i h = register_from c PlainRegister cell x c' i (inl refl) h
register_by_role c ResetRegister cell k x c' i h = register_from c ResetRegister cell x c' i (inr refl) h
register_by_role c MemoryBlock cell k x c' i h = absurd (let r = driven_from_at (λ j. Read c (j / word_width cell) (j % word_width cell)) 0 (output_bits cell) x (Register c' i) h in let is : Register c' i ≡ Read c ((0 + r.0) / word_width cell) ((0 + r.0) % word_width cell) = r.2 in cc)
register_by_role c CarriedOver cell k x c' i h = absurd h

pub record ReadPlace (c : ℕ) (cell : RawCell) (role : Role) (x c' r i : ℕ) : Type 0 where
  pub same_cell : c' ≡ c
  pub same_role : role ≡ MemoryBlock
  pub place : ℕ
  pub port : r ≡ place / word_width cell
  pub index : i ≡ place % word_width cell
  pub at_bit : At (output_bits cell) place (Net x)

read_by_role : (c : ℕ) (role : Role) (cell : RawCell) (k : Kind) (x c' q i : ℕ) → Has (driven_by_role c role cell k) (x, Read c' q i) → ReadPlace c cell role x c' q i
read_by_role c Combinational cell k x c' q i h = absurd (let r = outputs_at c cell (outputs_of k) 0 x (Read c' q i) h in let is : Read c' q i ≡ Output c (0 + r.number) r.index = r.is in cc)
read_by_role c PlainRegister cell k x c' q i h = absurd (let r = driven_from_at (Register c) 0 (output_bits cell) x (Read c' q i) h in let is : Read c' q i ≡ Register c (0 + r.0) = r.2 in cc)
read_by_role c ResetRegister cell k x c' q i h = absurd (let r = driven_from_at (Register c) 0 (output_bits cell) x (Read c' q i) h in let is : Read c' q i ≡ Register c (0 + r.0) = r.2 in cc)
read_by_role c MemoryBlock cell k x c' q i h =
    let r = driven_from_at (λ j. Read c (j / word_width cell) (j % word_width cell)) 0 (output_bits cell) x (Read c' q i) h in
    let is : Read c' q i ≡ Read c ((0 + r.0) / word_width cell) ((0 + r.0) % word_width cell) = r.2 in
    let z : 0 + r.0 ≡ r.0 = omega arith in
    let port : q ≡ r.0 / word_width cell = cc in
    let index : i ≡ r.0 % word_width cell = cc in
    record { same_cell = cc; same_role = refl; place = r.0; port = port; index = index; at_bit = r.1 }
read_by_role c CarriedOver cell k x c' q i h = absurd h

input_by_role : (c : ℕ) (role : Role) (cell : RawCell) (k : Kind) (x p i : ℕ) → Has (driven_by_role c role cell k) (x, Input p i) → ⊥
input_by_role c Combinational cell k x p i h = let r = outputs_at c cell (outputs_of k) 0 x (Input p i) h in let is : Input p i ≡ Output c (0 + r.number) r.index = r.is in cc
input_by_role c PlainRegister cell k x p i h = let r = driven_from_at (Register c) 0 (output_bits cell) x (Input p i) h in let is : Input p i ≡ Register c (0 + r.0) = r.2 in cc
input_by_role c ResetRegister cell k x p i h = let r = driven_from_at (Register c) 0 (output_bits cell) x (Input p i) h in let is : Input p i ≡ Register c (0 + r.0) = r.2 in cc
input_by_role c MemoryBlock cell k x p i h = let r = driven_from_at (λ j. Read c (j / word_width cell) (j % word_width cell)) 0 (output_bits cell) x (Input p i) h in let is : Input p i ≡ Read c ((0 + r.0) / word_width cell) ((0 + r.0) % word_width cell) = r.2 in cc
input_by_role c CarriedOver cell k x p i h = h

-- ---- over all that is driven

-- cell c of a module, with its kind
pub record CellIs (raw : Raw) (c : ℕ) (cell : RawCell) (k : Kind) : Type 0 where
  pub at_cell : At raw.cells c cell
  pub is_kind : kind_of cell.kind ≡ Some k

pub record OutputOf (raw : Raw) (c p i x : ℕ) : Type 0 where
  pub cell : RawCell
  pub kind : Kind
  pub is : CellIs raw c cell kind
  pub role : role_of kind ≡ Combinational
  pub bit : OutputBit cell kind p i x

pub record RegisterOf (raw : Raw) (c i x : ℕ) : Type 0 where
  pub cell : RawCell
  pub kind : Kind
  pub is : CellIs raw c cell kind
  pub role : (role_of kind ≡ PlainRegister) ⊎ (role_of kind ≡ ResetRegister)
  pub at_bit : At (output_bits cell) i (Net x)

pub record ReadOf (raw : Raw) (c r i x : ℕ) : Type 0 where
  pub cell : RawCell
  pub kind : Kind
  pub is : CellIs raw c cell kind
  pub role : role_of kind ≡ MemoryBlock
  pub place : ℕ
  pub port : r ≡ place / word_width cell
  pub index : i ≡ place % word_width cell
  pub at_bit : At (output_bits cell) place (Net x)

cell_is : (raw : Raw) (n c : ℕ) (cell : RawCell) (k : Kind) → At raw.cells n cell → c ≡ 0 + n → kind_of cell.kind ≡ Some k → CellIs raw c cell k
cell_is raw n c cell k at e h = record { at_cell = (let z : c ≡ n = omega arith in rw z at); is_kind = h }

output_by_kind : (raw : Raw) (c n p i x : ℕ) (cell : RawCell) (o : Option Kind) → At raw.cells n cell → kind_of cell.kind ≡ o → Has (driven_by_kind (0 + n) cell o) (x, Output c p i) → OutputOf raw c p i x
output_by_kind raw c n p i x cell None at e h = absurd h
output_by_kind raw c n p i x cell (Some k) at e h = (let r = output_by_role (0 + n) (role_of k) cell k x c p i h in record { cell = cell; kind = k; is = cell_is raw n c cell k at r.same_cell e; role = r.same_role; bit = r.bit })

register_by_kind : (raw : Raw) (c n i x : ℕ) (cell : RawCell) (o : Option Kind) → At raw.cells n cell → kind_of cell.kind ≡ o → Has (driven_by_kind (0 + n) cell o) (x, Register c i) → RegisterOf raw c i x
register_by_kind raw c n i x cell None at e h = absurd h
register_by_kind raw c n i x cell (Some k) at e h = (let r = register_by_role (0 + n) (role_of k) cell k x c i h in record { cell = cell; kind = k; is = cell_is raw n c cell k at r.same_cell e; role = r.same_role; at_bit = r.at_bit })

read_by_kind : (raw : Raw) (c n q i x : ℕ) (cell : RawCell) (o : Option Kind) → At raw.cells n cell → kind_of cell.kind ≡ o → Has (driven_by_kind (0 + n) cell o) (x, Read c q i) → ReadOf raw c q i x
read_by_kind raw c n q i x cell None at e h = absurd h
read_by_kind raw c n q i x cell (Some k) at e h = (let r = read_by_role (0 + n) (role_of k) cell k x c q i h in record { cell = cell; kind = k; is = cell_is raw n c cell k at r.same_cell e; role = r.same_role; place = r.place; port = r.port; index = r.index; at_bit = r.at_bit })

input_by_kind : (n p i x : ℕ) (cell : RawCell) (o : Option Kind) → Has (driven_by_kind (0 + n) cell o) (x, Input p i) → ⊥
input_by_kind n p i x cell None h = h
input_by_kind n p i x cell (Some k) h = input_by_role (0 + n) (role_of k) cell k x p i h

from_inputs : (raw : Raw) (x : ℕ) (d : Driver) → Has (driven_by_inputs 0 (filter is_input raw.ports)) (x, d) → InputDrive 0 (filter is_input raw.ports) x d
from_inputs raw x d h = inputs_at 0 (filter is_input raw.ports) x d h

pub output_driven : (raw : Raw) (c p i x : ℕ) → Has (driven raw) (x, Output c p i) → OutputOf raw c p i x
unfolding driven
output_driven raw c p i x h = elim (Has-append (driven_by_inputs 0 (filter is_input raw.ports)) (driven_by_cells 0 raw.cells) (x, Output c p i) h) [
  | inl a ↦ absurd (let r = from_inputs raw x (Output c p i) a in let is : Output c p i ≡ Input (0 + r.number) r.index = r.is in cc)
  | inr b ↦ (let r = cells_at 0 raw.cells x (Output c p i) b in output_by_kind raw c r.number p i x r.cell (kind_of r.cell.kind) r.at_cell refl r.has)
]

pub register_driven : (raw : Raw) (c i x : ℕ) → Has (driven raw) (x, Register c i) → RegisterOf raw c i x
unfolding driven
register_driven raw c i x h = elim (Has-append (driven_by_inputs 0 (filter is_input raw.ports)) (driven_by_cells 0 raw.cells) (x, Register c i) h) [
  | inl a ↦ absurd (let r = from_inputs raw x (Register c i) a in let is : Register c i ≡ Input (0 + r.number) r.index = r.is in cc)
  | inr b ↦ (let r = cells_at 0 raw.cells x (Register c i) b in register_by_kind raw c r.number i x r.cell (kind_of r.cell.kind) r.at_cell refl r.has)
]

pub read_driven : (raw : Raw) (c q i x : ℕ) → Has (driven raw) (x, Read c q i) → ReadOf raw c q i x
unfolding driven
read_driven raw c q i x h = elim (Has-append (driven_by_inputs 0 (filter is_input raw.ports)) (driven_by_cells 0 raw.cells) (x, Read c q i) h) [
  | inl a ↦ absurd (let r = from_inputs raw x (Read c q i) a in let is : Read c q i ≡ Input (0 + r.number) r.index = r.is in cc)
  | inr b ↦ (let r = cells_at 0 raw.cells x (Read c q i) b in read_by_kind raw c r.number q i x r.cell (kind_of r.cell.kind) r.at_cell refl r.has)
]

pub input_driven : (raw : Raw) (p i x : ℕ) → Has (driven raw) (x, Input p i) → PortBit (filter is_input raw.ports) p i x
unfolding driven
input_driven raw p i x h = elim (Has-append (driven_by_inputs 0 (filter is_input raw.ports)) (driven_by_cells 0 raw.cells) (x, Input p i) h) [
  | inl a ↦ (let r = from_inputs raw x (Input p i) a in
      let is : Input p i ≡ Input (0 + r.number) r.index = r.is in
      let z : 0 + r.number ≡ r.number = omega arith in
      let number : p ≡ r.number = cc in
      let index : i ≡ r.index = cc in
      record { port = r.bit.port; at_port = At-moved (filter is_input raw.ports) r.number p r.bit.port number r.bit.at_port; at_bit = At-moved r.bit.port.bits r.index i (Net x) index r.bit.at_bit })
  | inr b ↦ absurd (let r = cells_at 0 raw.cells x (Input p i) b in input_by_kind r.number p i x r.cell (kind_of r.cell.kind) r.has)
]

-- ---- and back

pub driven_by_input : (raw : Raw) (p i x : ℕ) → PortBit (filter is_input raw.ports) p i x → Has (driven raw) (x, Input p i)
unfolding driven
driven_by_input raw p i x b = (let e : p ≡ 0 + p = omega arith in Has-left (driven_by_inputs 0 (filter is_input raw.ports)) (driven_by_cells 0 raw.cells) (x, Input p i) (rw e (Has-inputs 0 (filter is_input raw.ports) p i x b)))

driven_by_cell : (raw : Raw) (c : ℕ) (cell : RawCell) (k : Kind) (x : ℕ) (d : Driver) → CellIs raw c cell k → Has (driven_by_role (0 + c) (role_of k) cell k) (x, d) → Has (driven raw) (x, d)
unfolding driven
driven_by_cell raw c cell k x d is h = Has-right (driven_by_inputs 0 (filter is_input raw.ports)) (driven_by_cells 0 raw.cells) (x, d) (Has-cells 0 raw.cells c cell x d is.at_cell (rw is.is_kind h))

driven_as : (ds : List Drive) (x : ℕ) (d e : Driver) → e ≡ d → Has ds (x, d) → Has ds (x, e)
driven_as ds x d e q h = rw q h

by_role_output : (c q : ℕ) (role : Role) (cell : RawCell) (k : Kind) (p i x : ℕ) → role ≡ Combinational → c ≡ q → OutputBit cell k p i x → Has (driven_by_role q role cell k) (x, Output c p i)
by_role_output c q role cell k p i x e z b =
    let w : p ≡ 0 + p = omega arith in
    rw e (driven_as (driven_by_outputs q 0 (map (port_bits cell) (outputs_of k))) x (Output q (0 + p) i) (Output c p i) (ap (λ (a : ℕ). Output a p i) z ∙ ap (λ (a : ℕ). Output q a i) w) (Has-outputs q cell (outputs_of k) 0 p i x b.row b.at_row b.at_bit))

pub driven_by_output : (raw : Raw) (c p i x : ℕ) → OutputOf raw c p i x → Has (driven raw) (x, Output c p i)
driven_by_output raw c p i x o = driven_by_cell raw c o.cell o.kind x (Output c p i) o.is (by_role_output c (0 + c) (role_of o.kind) o.cell o.kind p i x o.role (omega arith) o.bit)

by_role_register : (c q : ℕ) (role : Role) (cell : RawCell) (k : Kind) (i x : ℕ) → (role ≡ PlainRegister) ⊎ (role ≡ ResetRegister) → c ≡ q → At (output_bits cell) i (Net x) → Has (driven_by_role q role cell k) (x, Register c i)
by_role_register c q role cell k i x e z h =
    let w : i ≡ 0 + i = omega arith in
    let all : Has (driven_from (Register q) 0 (output_bits cell)) (x, Register c i) = driven_as (driven_from (Register q) 0 (output_bits cell)) x (Register q (0 + i)) (Register c i) (ap (λ (a : ℕ). Register a i) z ∙ ap (Register q) w) (Has-driven_from (Register q) 0 (output_bits cell) i x h) in
    elim e [ inl a ↦ rw a all | inr b ↦ rw b all ]

pub driven_by_register : (raw : Raw) (c i x : ℕ) → RegisterOf raw c i x → Has (driven raw) (x, Register c i)
driven_by_register raw c i x o = driven_by_cell raw c o.cell o.kind x (Register c i) o.is (by_role_register c (0 + c) (role_of o.kind) o.cell o.kind i x o.role (omega arith) o.at_bit)

by_role_read : (c q : ℕ) (role : Role) (cell : RawCell) (k : Kind) (j x : ℕ) → role ≡ MemoryBlock → c ≡ q → At (output_bits cell) j (Net x) → Has (driven_by_role q role cell k) (x, Read c (j / word_width cell) (j % word_width cell))
by_role_read c q role cell k j x e z h =
    let w : j ≡ 0 + j = omega arith in
    rw e (driven_as (driven_from (λ i. Read q (i / word_width cell) (i % word_width cell)) 0 (output_bits cell)) x (Read q ((0 + j) / word_width cell) ((0 + j) % word_width cell)) (Read c (j / word_width cell) (j % word_width cell))
    (ap (λ (a : ℕ). Read a (j / word_width cell) (j % word_width cell)) z ∙ ap (λ (a : ℕ). Read q (a / word_width cell) (a % word_width cell)) w)
    (Has-driven_from (λ i. Read q (i / word_width cell) (i % word_width cell)) 0 (output_bits cell) j x h))

pub driven_by_read : (raw : Raw) (c q i x : ℕ) → ReadOf raw c q i x → Has (driven raw) (x, Read c q i)
driven_by_read raw c q i x o =
    driven_as (driven raw) x (Read c (o.place / word_width o.cell) (o.place % word_width o.cell)) (Read c q i) (ap (λ (a : ℕ). Read c a i) o.port ∙ ap (Read c (o.place / word_width o.cell)) o.index)
    (driven_by_cell raw c o.cell o.kind x (Read c (o.place / word_width o.cell) (o.place % word_width o.cell)) o.is (by_role_read c (0 + c) (role_of o.kind) o.cell o.kind o.place x o.role (omega arith) o.at_bit))
