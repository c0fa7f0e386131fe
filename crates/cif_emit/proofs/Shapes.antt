-- The kinds of the cells that are appended, and which checks such cells pass.
use Rattle.std.specs.Prelude.{ℕ, suc, ◌+◌, ◌≤◌, ◌<◌, ◌≡◌, Bool, true, false, not, ◌&&◌, ◌||◌, ◌==◌, nat_lt, List, [], ◌∷◌, ◌++◌, map, length, get_or, Option, Some, None, option_map, is_some, if◌then◌else◌, refl}
use Rattle.std.specs.List.{AllByRecursion, flat_map, list_all}
use Rattle.std.proofs.Common.{arith, ap, sym, ◌∙◌, subst, append-nil}
use Rattle.std.proofs.lemmas.Bool.Decides.{nat_tests}
use Rattle.cif_defs.specs.Kinds.{role_of}
use Rattle.cif_defs.specs.declared.kinds.Role.{Role}
use Rattle.cif_defs.specs.declared.kinds.Role.TheVariants.{Combinational}
use Rattle.cif_defs.specs.declared.kinds.Kind.{Kind}
use Rattle.cif_defs.specs.declared.kinds.Kind.TheVariants.{Mux}
use Rattle.cif_defs.specs.declared.kinds.Param.{Param}
use Rattle.cif_defs.specs.declared.kinds.Param.TheVariants.{ASigned, BSigned, AWidth, BWidth, YWidth, Width}
use Rattle.cif_defs.specs.declared.kinds.CellPort.{CellPort}
use Rattle.cif_defs.specs.declared.kinds.CellPort.TheVariants.{A, B, S, Y}
use Rattle.cif_defs.specs.declared.kinds.PortWidth.TheVariants.{One, Of}
use Rattle.cif_defs.specs.declared.kinds.PortRow.{PortRow}
use Rattle.cif_defs.specs.declared.raw_module.RawBit.{RawBit}
use Rattle.cif_defs.specs.declared.raw_module.RawBit.TheVariants.{Net, Zero as ZeroBit, One as OneBit, X, Z}
use Rattle.cif_defs.specs.declared.raw_module.RawCell.{RawCell}
use Rattle.cif_defs.specs.Table.{kind_of, type_text, parameters_of, operands_of, outputs_of, clocks_of, ports_of, width_limit, row, a_row, b_row, y_row}
use Rattle.cif_defs.specs.RawModule.{is_net, nets_in, port_bits, connected, bits_by, operand_bits, output_bits}
use Rattle.cif_defs.specs.Order.{IsCellInOrder}
use Rattle.cif_defs.specs.Words.{Word, operand}
use Rattle.cif_raw_runs.specs.Assigned.{raw_word, TakesWord, IsMet, IsMetBy, words_given}
use Rattle.cif_emit.specs.Emitted.{drives, IsNumber, IsAtPort, IsPlainCell}
use Rattle.cif_emit.proofs.NewNets.{length-nets}
use Rattle.cif_checks.specs.declared.fault.BuildFault.{BuildFault}
use Rattle.cif_checks.specs.Checks.{◌else_by◌, fault_if, first_fault, first_fault_from, cell_fault, cell_fault_by, parameters_fault, slice_fault, is_wide_memory, has_value, bad_parameter, memory_form, row_width, zero_width, too_wide, missing_port, wrong_width, constant_output, is_constant, may_be_empty}
use Rattle.cif_term.specs.declared.ops.Op1.{Op1}
use Rattle.cif_term.specs.declared.ops.Op1.TheVariants.{Not, ReduceAnd, ReduceOr, ReduceXor}
use Rattle.cif_term.specs.declared.ops.Op2.{Op2}
use Rattle.cif_term.specs.declared.ops.Op2.TheVariants.{And, Or, Xor, Add, Mul, Div, LessUnsigned, LessSigned, Equal}
use Rattle.cif_term.specs.Formulas.{is_on_numbers}
use Rattle.cif_emit.specs.CellForms.{one_kind, two_kind}

-- what the table says of a kind
pub record HasShape (k : Kind) (ps : List Param) (os : List PortRow) (o : PortRow) (limit : ℕ) : Type 0 where
  pub kind : kind_of (type_text k) ≡ Some k
  pub role : role_of k ≡ Combinational
  pub parameters : parameters_of k ≡ ps
  pub operands : operands_of k ≡ os
  pub outputs : outputs_of k ≡ o ∷ []
  pub ports : ports_of k ≡ os ++ o ∷ []
  pub limits : (p : CellPort) → width_limit k p ≡ limit
  pub slice : (c : RawCell) → slice_fault c k ≡ None
  pub memory : (c : RawCell) (r : PortRow) → is_wide_memory c k r ≡ false

abbrev pub unary_params : List Param
unary_params = ASigned ∷ AWidth ∷ YWidth ∷ []

abbrev pub binary_params : List Param
binary_params = ASigned ∷ BSigned ∷ AWidth ∷ BWidth ∷ YWidth ∷ []

pub one_shape : (op : Op1) → HasShape (one_kind op) unary_params (a_row ∷ []) y_row 4096
unfolding parameters_of operands_of outputs_of clocks_of ports_of width_limit
one_shape Not = record { kind = refl; role = refl; parameters = refl; operands = refl; outputs = refl; ports = refl; limits = λ p. refl; slice = λ c. refl; memory = λ c r. refl }
one_shape ReduceAnd = record { kind = refl; role = refl; parameters = refl; operands = refl; outputs = refl; ports = refl; limits = λ p. refl; slice = λ c. refl; memory = λ c r. refl }
one_shape ReduceOr = record { kind = refl; role = refl; parameters = refl; operands = refl; outputs = refl; ports = refl; limits = λ p. refl; slice = λ c. refl; memory = λ c r. refl }
one_shape ReduceXor = record { kind = refl; role = refl; parameters = refl; operands = refl; outputs = refl; ports = refl; limits = λ p. refl; slice = λ c. refl; memory = λ c r. refl }

abbrev pub operand_limit : Op2 → ℕ
operand_limit op = if is_on_numbers op then 128 else 4096

pub two_shape : (op : Op2) → HasShape (two_kind op) binary_params (a_row ∷ b_row ∷ []) y_row (operand_limit op)
unfolding parameters_of operands_of outputs_of clocks_of ports_of width_limit
two_shape And = record { kind = refl; role = refl; parameters = refl; operands = refl; outputs = refl; ports = refl; limits = λ p. refl; slice = λ c. refl; memory = λ c r. refl }
two_shape Or = record { kind = refl; role = refl; parameters = refl; operands = refl; outputs = refl; ports = refl; limits = λ p. refl; slice = λ c. refl; memory = λ c r. refl }
two_shape Xor = record { kind = refl; role = refl; parameters = refl; operands = refl; outputs = refl; ports = refl; limits = λ p. refl; slice = λ c. refl; memory = λ c r. refl }
two_shape Add = record { kind = refl; role = refl; parameters = refl; operands = refl; outputs = refl; ports = refl; limits = λ p. refl; slice = λ c. refl; memory = λ c r. refl }
two_shape Mul = record { kind = refl; role = refl; parameters = refl; operands = refl; outputs = refl; ports = refl; limits = λ p. refl; slice = λ c. refl; memory = λ c r. refl }
two_shape Div = record { kind = refl; role = refl; parameters = refl; operands = refl; outputs = refl; ports = refl; limits = λ p. refl; slice = λ c. refl; memory = λ c r. refl }
two_shape LessUnsigned = record { kind = refl; role = refl; parameters = refl; operands = refl; outputs = refl; ports = refl; limits = λ p. refl; slice = λ c. refl; memory = λ c r. refl }
two_shape LessSigned = record { kind = refl; role = refl; parameters = refl; operands = refl; outputs = refl; ports = refl; limits = λ p. refl; slice = λ c. refl; memory = λ c r. refl }
two_shape Equal = record { kind = refl; role = refl; parameters = refl; operands = refl; outputs = refl; ports = refl; limits = λ p. refl; slice = λ c. refl; memory = λ c r. refl }

pub choice_shape : HasShape Mux (Width ∷ []) (row A (Of Width) ∷ row B (Of Width) ∷ row S One ∷ []) (row Y (Of Width)) 4096
unfolding parameters_of operands_of outputs_of clocks_of ports_of width_limit
choice_shape = record { kind = refl; role = refl; parameters = refl; operands = refl; outputs = refl; ports = refl; limits = λ p. refl; slice = λ c. refl; memory = λ c r. refl }

-- ---- the checks, one by one

none_else : (a b : Option BuildFault) → a ≡ None → b ≡ None → (a else_by b) ≡ None
none_else a b h k = ap (λ x. x else_by b) h ∙ k

none_first : {T : Type 0} (check : T → Option BuildFault) (xs : List T) → AllByRecursion (λ x. check x ≡ None) xs → first_fault check xs ≡ None
none_first check [] h = refl
none_first check (x ∷ xs) h = none_else (check x) (first_fault check xs) h.0 (none_first check xs h.1)

all_weaker : {T : Type 0} (P Q : T → Type 0) → ((x : T) → P x → Q x) → (xs : List T) → AllByRecursion P xs → AllByRecursion Q xs
all_weaker P Q f [] h = tt
all_weaker P Q f (x ∷ xs) h = (f x h.0, all_weaker P Q f xs h.1)

no_fault : (b : Bool) (e : BuildFault) → b ≡ false → fault_if b e ≡ None
no_fault b e h = ap (λ x. fault_if x e) h

-- a port that is connected and as wide as it has to be
pub record PortFits (c : RawCell) (limit : ℕ) (r : PortRow) : Type 0 where
  pub connected : is_some (connected c r) ≡ true
  pub wide : length (port_bits c r) ≡ row_width c r
  pub some : 1 ≤ row_width c r
  pub few : row_width c r ≤ limit

some_bits : (n : ℕ) (b : Bool) → 1 ≤ n → (n == 0 && b) ≡ false
some_bits n b h = let e : (n == 0) ≡ false = grind (arith, nat_tests) in ap (λ x. x && b) e

not_more : (n limit : ℕ) (b : Bool) → n ≤ limit → b ≡ false → (nat_lt limit n || b) ≡ false
not_more n limit b h e = let t : nat_lt limit n ≡ false = grind (arith, nat_tests) in ap (λ x. x || b) t ∙ e

same_test : (m n : ℕ) → m ≡ n → not (m == n) ≡ false
same_test m n e = let t : (m == n) ≡ true = grind (arith, nat_tests) in ap not t

some_width : (c : RawCell) (k : Kind) (limit : ℕ) (r : PortRow) → PortFits c limit r → zero_width c k r ≡ None
some_width c k limit r h = no_fault _ _ (some_bits (row_width c r) (not (may_be_empty (role_of k))) h.some)

fits_limit : (c : RawCell) (k : Kind) (limit : ℕ) (r : PortRow) → width_limit k r.port ≡ limit → is_wide_memory c k r ≡ false → PortFits c limit r → too_wide c k r ≡ None
fits_limit c k limit r e m h = no_fault _ _ (ap (λ l. nat_lt l (row_width c r) || is_wide_memory c k r) e ∙ not_more (row_width c r) limit (is_wide_memory c k r) h.few m)

is_there : (c : RawCell) (limit : ℕ) (r : PortRow) → PortFits c limit r → missing_port c r ≡ None
is_there c limit r h = no_fault _ _ (ap not h.connected)

has_width : (c : RawCell) (limit : ℕ) (r : PortRow) → PortFits c limit r → wrong_width c r ≡ None
has_width c limit r h = no_fault _ _ (same_test (length (port_bits c r)) (row_width c r) h.wide)

net_is_no_constant : (b : RawBit) → is_net b ≡ true → is_constant b ≡ false
net_is_no_constant (Net x) h = refl
net_is_no_constant ZeroBit h = absurd (cc)
net_is_no_constant OneBit h = absurd (cc)
net_is_no_constant X h = refl
net_is_no_constant Z h = refl

first_of_both : (a b : Bool) → (a && b) ≡ true → a ≡ true
first_of_both true b h = refl
first_of_both false b h = h

second_of_both : (a b : Bool) → (a && b) ≡ true → b ≡ true
second_of_both true b h = h
second_of_both false b h = absurd (cc)

no_constants : (f : ℕ → BuildFault) (i : ℕ) (bits : List RawBit) → list_all is_net bits ≡ true → first_fault_from (λ j b. fault_if (is_constant b) (f j)) i bits ≡ None
no_constants f i [] h = refl
no_constants f i (b ∷ bits) h = none_else _ _ (no_fault _ _ (net_is_no_constant b (first_of_both (is_net b) _ h))) (no_constants f (i + 1) bits (second_of_both (is_net b) _ h))

-- a cell of this shape with good parameters and ports
pub shaped_passes : (c : RawCell) (k : Kind) (ps : List Param) (os : List PortRow) (o : PortRow) (limit : ℕ) → HasShape k ps os o limit → c.kind ≡ type_text k
    → first_fault (λ p. fault_if (not (has_value c p)) (bad_parameter c p)) ps ≡ None
    → AllByRecursion (PortFits c limit) (os ++ o ∷ [])
    → list_all is_net (port_bits c o) ≡ true
    → cell_fault c ≡ None
unfolding cell_fault
shaped_passes c k ps os o limit s e params ports nets =
    let known : kind_of c.kind ≡ Some k = ap kind_of e ∙ s.kind in
    let fit : AllByRecursion (PortFits c limit) (ports_of k) = subst (AllByRecursion (PortFits c limit)) (sym s.ports) ports in
    let a : parameters_fault c k ≡ None = none_else _ _ (ap (first_fault (λ p. fault_if (not (has_value c p)) (bad_parameter c p))) s.parameters ∙ params) (s.slice c) in
    let z : first_fault (zero_width c k) (ports_of k) ≡ None = none_first _ _ (all_weaker _ _ (some_width c k limit) (ports_of k) fit) in
    let w : first_fault (too_wide c k) (ports_of k) ≡ None = none_first _ _ (all_weaker _ _ (λ r. fits_limit c k limit r (s.limits r.port) (s.memory c r)) (ports_of k) fit) in
    let m : first_fault (missing_port c) (ports_of k) ≡ None = none_first _ _ (all_weaker _ _ (is_there c limit) (ports_of k) fit) in
    let l : first_fault (wrong_width c) (ports_of k) ≡ None = none_first _ _ (all_weaker _ _ (has_width c limit) (ports_of k) fit) in
    let n : first_fault (constant_output c) (outputs_of k) ≡ None = ap (first_fault (constant_output c)) s.outputs ∙ none_else _ _ (no_constants _ 0 (port_bits c o) nets) refl in
    let f : memory_form c (role_of k) ≡ None = ap (memory_form c) s.role in
    ap (cell_fault_by c) known ∙ none_else _ _ (none_else _ _ (none_else _ _ (none_else _ _ (none_else _ _ (none_else _ _ a f) z) w) m) l) n

-- ---- what such a cell reads and gives

pub shaped_output : (c : RawCell) (k : Kind) (ps : List Param) (os : List PortRow) (o : PortRow) (limit : ℕ) → HasShape k ps os o limit → c.kind ≡ type_text k → output_bits c ≡ port_bits c o
shaped_output c k ps os o limit s e = ap (bits_by outputs_of c) (ap kind_of e ∙ s.kind) ∙ ap (flat_map (port_bits c)) s.outputs ∙ append-nil (port_bits c o)

pub shaped_operands : (c : RawCell) (k : Kind) (ps : List Param) (os : List PortRow) (o : PortRow) (limit : ℕ) → HasShape k ps os o limit → c.kind ≡ type_text k → operand_bits c ≡ flat_map (port_bits c) os
shaped_operands c k ps os o limit s e = ap (bits_by operands_of c) (ap kind_of e ∙ s.kind) ∙ ap (flat_map (port_bits c)) s.operands

pub shaped_plain : (c : RawCell) (k : Kind) (ps : List Param) (os : List PortRow) (o : PortRow) (limit : ℕ) → HasShape k ps os o limit → c.kind ≡ type_text k
    → c.hide ≡ false → c.attributes ≡ [] → AllByRecursion IsNumber c.parameters → AllByRecursion IsAtPort c.connections → IsCellInOrder c
    → first_fault (λ p. fault_if (not (has_value c p)) (bad_parameter c p)) ps ≡ None
    → AllByRecursion (PortFits c limit) (os ++ o ∷ [])
    → list_all is_net (port_bits c o) ≡ true → length (port_bits c o) ≤ 4096
    → IsPlainCell c
shaped_plain c k ps os o limit s e hide bare numbers ports_named order params ports nets few =
    let out : output_bits c ≡ port_bits c o = shaped_output c k ps os o limit s e in
    record {
      passes = shaped_passes c k ps os o limit s e params ports nets;
      computes = ap (option_map role_of) (ap kind_of e ∙ s.kind) ∙ ap (λ (r : Role). Some r) s.role;
      in_order = order;
      shown = hide;
      bare = bare;
      numbers = numbers;
      ports = ports_named;
      nets = ap (list_all is_net) out ∙ nets;
      few = (let n : length (drives c) ≡ length (port_bits c o) = ap (λ (l : List RawBit). length (nets_in l)) out ∙ length-nets (port_bits c o) nets in omega arith);
    }

-- ---- what it says of an assignment

taken_word : (v : ℕ → Bool) (bits : List RawBit) (w : Word) → list_all is_net bits ≡ true → length bits ≡ length w → TakesWord v bits w → raw_word v bits ≡ w
taken_word v [] [] n e h = refl
taken_word v [] (b ∷ w) n e h = absurd (let q : 0 ≡ suc (length w) = e in omega arith)
taken_word v (x ∷ bits) [] n e h = absurd (let q : suc (length bits) ≡ 0 = e in omega arith)
taken_word v (Net x ∷ bits) (b ∷ w) n e h =
    let first : v x ≡ b = h 0 (omega arith) in
    let long : length bits ≡ length w = (let q : suc (length bits) ≡ suc (length w) = e in omega arith) in
    let rest : raw_word v bits ≡ w = taken_word v bits w n long (λ i l. h (suc i) (omega arith)) in
    (cc)
taken_word v (ZeroBit ∷ bits) (b ∷ w) n e h = absurd (cc)
taken_word v (OneBit ∷ bits) (b ∷ w) n e h = absurd (cc)
taken_word v (X ∷ bits) (b ∷ w) n e h = absurd (cc)
taken_word v (Z ∷ bits) (b ∷ w) n e h = absurd (cc)

pub shaped_means : (v : ℕ → Bool) (c : RawCell) (k : Kind) (ps : List Param) (os : List PortRow) (o : PortRow) (limit : ℕ) (w : Word) → HasShape k ps os o limit → c.kind ≡ type_text k
    → list_all is_net (port_bits c o) ≡ true → length (port_bits c o) ≡ length w → operand (words_given v c k) 0 ≡ w
    → IsMet v c → raw_word v (port_bits c o) ≡ w
unfolding IsMet
shaped_means v c k ps os o limit w s e nets long gives met =
    let known : IsMetBy v c (Some k) = subst (IsMetBy v c) (ap kind_of e ∙ s.kind) met in
    let one : 0 < length (outputs_of k) = rw s.outputs (omega arith) in
    let bits : get_or (map (port_bits c) (outputs_of k)) 0 [] ≡ port_bits c o = ap (λ (rs : List PortRow). get_or (map (port_bits c) rs) 0 []) s.outputs in
    let first : TakesWord v (get_or (map (port_bits c) (outputs_of k)) 0 []) (operand (words_given v c k) 0) = known 0 one in
    let here : TakesWord v (port_bits c o) (operand (words_given v c k) 0) = subst (λ (l : List RawBit). TakesWord v l (operand (words_given v c k) 0)) bits first in
    taken_word v (port_bits c o) w nets long (subst (λ (u : Word). TakesWord v (port_bits c o) u) gives here)
