-- What is known of a net number once all its drivers are read.
use Rattle.std.specs.Prelude.{ℕ, zero, suc, ◌+◌, ◌/◌, ◌%◌, ◌<◌, ◌≤◌, ◌≡◌, ◌⊎◌, ◌==◌, nat_lt, Bool, true, false, List, [], ◌∷◌, ◌++◌, length, map, filter, eqb, get_or, drop, take, position, Option, Some, None, is_some, unwrap_or, replicate, refl, if◌then◌else◌}
use Rattle.std.specs.List.{flat_map}
use Rattle.std.specs.List.Sorted.{IsStrictlyIncreasing}
use Rattle.std.proofs.lemmas.List.{length-map, length-replicate, take_at}
use Rattle.cif_checks.specs.Checks.{◌else_by◌, fault_if, first_fault, counts_fault, ports_fault, cells_fault, drivers_fault, driven_numbers, is_twice}
use Rattle.cif_checks.specs.declared.fault.BuildFault.TheVariants.{MultiDriven}
use Rattle.std.proofs.Common.{arith, sym, ap, subst, ◌∙◌, cond, inl, inr, add-one}
use Rattle.std.proofs.lemmas.Bool.{cond-true, cond-false, cond_both, lt-ltb, ne_eqb}
use Rattle.std.proofs.lemmas.Bool.Decides.{nat_tests}
use Rattle.cif_defs.specs.Accepted.{driven, driver_in, driven_by_inputs, driven_by_cells, driven_by_kind, driven_by_role, driven_from, is_input}
use Rattle.cif_defs.specs.Kinds.{role_of}
use Rattle.cif_defs.specs.Table.{kind_of, outputs_of}
use Rattle.cif_defs.specs.RawModule.{bits_by, clock_bits, nets_in, net_numbers, numbers_held, operand_bits, output_bits, port_bits}
use Rattle.cif_defs.specs.declared.kinds.Kind.{Kind}
use Rattle.cif_defs.specs.declared.kinds.Role.{Role}
use Rattle.cif_defs.specs.declared.kinds.Role.TheVariants.{Combinational, PlainRegister, ResetRegister, MemoryBlock, CarriedOver}
use Rattle.cif_defs.specs.declared.nets.Driver.{Driver}
use Rattle.cif_defs.specs.declared.nets.Driver.TheVariants.{Register, Read, Clock}
use Rattle.cif_defs.specs.declared.raw_module.RawBit.{RawBit}
use Rattle.cif_defs.specs.declared.raw_module.RawPort.{RawPort}
use Rattle.cif_defs.specs.declared.raw_module.RawCell.{RawCell}
use Rattle.cif_defs.specs.declared.raw_module.Raw.{Raw}
use Rattle.cif_nets.specs.Told.{told, told_all}
use Rattle.cif_nets.specs.Clocks.{first_edge, uses_of}
use Rattle.cif_nets.specs.Drives.{driven_by, driven_more}
use Rattle.cif_nets.specs.declared.clock.ClockEdge.{ClockEdge}
use Rattle.cif_nets.specs.Nets.{HoldsNets, drive_at, driver_or_clock, is_driven, is_several, several_fault}
use Rattle.cif_nets.specs.declared.drives.DrivenBy.{DrivenBy}
use Rattle.cif_nets.specs.declared.drives.DrivenBy.TheVariants.{Nothing, One, Several}
use Rattle.cif_nets.proofs.Places.{Has, At-has, Has-at, Has-flat_map, Has-left, Has-right, Has-append, Has-nets, Has-unfilter, At-map}
use Rattle.cif_nets.proofs.Rising.{Has-rising, IsRising}
use Rattle.cif_nets.proofs.Driven.{Drive, times, word_width, driven_from_at, inputs_at, cells_at, outputs_at}
use Rattle.cif_nets.proofs.Wired.{nets_of_rows, numbers_rise}
use Rattle.cif_nets.proofs.ToldLaws.{cases_has, length-told_all, told_all-append}
use Rattle.cif_nets.proofs.NumberLaws.{increasing_rising, position_found, position_none}

-- ---- counts and states

abbrev state : DrivenBy → List Drive → ℕ → DrivenBy
state s ds x = told driven_more s ds x

step_eq : (s : DrivenBy) (e : Drive) (ds : List Drive) (x : ℕ) → eqb e.0 x ≡ true → state s (e ∷ ds) x ≡ state (driven_more s e.1) ds x
step_eq s e ds x h = ap (λ b. state (cond b (driven_more s e.1) s) ds x) h

step_ne : (s : DrivenBy) (e : Drive) (ds : List Drive) (x : ℕ) → eqb e.0 x ≡ false → state s (e ∷ ds) x ≡ state s ds x
step_ne s e ds x h = ap (λ b. state (cond b (driven_more s e.1) s) ds x) h

count_eq : (e : Drive) (ds : List Drive) (x : ℕ) → eqb e.0 x ≡ true → times (e ∷ ds) x ≡ suc (times ds x)
count_eq e ds x h = ap length (cond-true (eqb e.0 x) (e.0 ∷ filter (λ y. y == x) (map (λ (d : Drive). d.0) ds)) (filter (λ y. y == x) (map (λ (d : Drive). d.0) ds)) h)

count_ne : (e : Drive) (ds : List Drive) (x : ℕ) → eqb e.0 x ≡ false → times (e ∷ ds) x ≡ times ds x
count_ne e ds x h = ap length (cond-false (eqb e.0 x) (e.0 ∷ filter (λ y. y == x) (map (λ (d : Drive). d.0) ds)) (filter (λ y. y == x) (map (λ (d : Drive). d.0) ds)) h)

several_stays : (ds : List Drive) (x : ℕ) → state Several ds x ≡ Several
several_stays [] x = refl
several_stays (e ∷ ds) x = cond_both (eqb e.0 x) Several Several (λ s. state s ds x ≡ Several) (λ _. several_stays ds x) (λ _. several_stays ds x)

cases_of : (b : Bool) → (b ≡ true) ⊎ (b ≡ false)
cases_of true = inl refl
cases_of false = inr refl

more_than_0 : (n m : ℕ) → n ≡ suc m → true ≡ nat_lt 0 n
more_than_0 n m h = sym (lt-ltb 0 n (omega arith))

one_then : (d : Driver) (ds : List Drive) (x : ℕ) → is_several (state (One d) ds x) ≡ nat_lt 0 (times ds x)
one_then d [] x = refl
one_then d (e ∷ ds) x = elim (cases_of (eqb e.0 x)) [
  | inl h ↦ ap is_several (step_eq (One d) e ds x h ∙ several_stays ds x) ∙ more_than_0 (times (e ∷ ds) x) (times ds x) (count_eq e ds x h)
  | inr h ↦ ap is_several (step_ne (One d) e ds x h) ∙ one_then d ds x ∙ ap (nat_lt 0) (sym (count_ne e ds x h))
]

one_less : (n m : ℕ) → n ≡ suc m → nat_lt 0 m ≡ nat_lt 1 n
one_less n m h = grind (arith, nat_tests)

pub several_is_twice : (ds : List Drive) (x : ℕ) → is_several (state Nothing ds x) ≡ nat_lt 1 (times ds x)
several_is_twice [] x = refl
several_is_twice (e ∷ ds) x = elim (cases_of (eqb e.0 x)) [
  | inl h ↦ ap is_several (step_eq Nothing e ds x h) ∙ one_then e.1 ds x ∙ one_less (times (e ∷ ds) x) (times ds x) (count_eq e ds x h)
  | inr h ↦ ap is_several (step_ne Nothing e ds x h) ∙ several_is_twice ds x ∙ ap (nat_lt 1) (sym (count_ne e ds x h))
]

one_is_driven : (d : Driver) (ds : List Drive) (x : ℕ) → is_driven (state (One d) ds x) ≡ true
one_is_driven d [] x = refl
one_is_driven d (e ∷ ds) x = elim (cases_of (eqb e.0 x)) [
  | inl h ↦ ap is_driven (step_eq (One d) e ds x h ∙ several_stays ds x)
  | inr h ↦ ap is_driven (step_ne (One d) e ds x h) ∙ one_is_driven d ds x
]

pub driven_has_driver : (ds : List Drive) (x : ℕ) → is_driven (state Nothing ds x) ≡ is_some (driver_in ds x)
driven_has_driver [] x = refl
driven_has_driver (e ∷ ds) x = elim (cases_of (eqb e.0 x)) [
  | inl h ↦ ap is_driven (step_eq Nothing e ds x h) ∙ one_is_driven e.1 ds x ∙ sym (ap is_some (cond-true (eqb e.0 x) (Some e.1) (driver_in ds x) h))
  | inr h ↦ ap is_driven (step_ne Nothing e ds x h) ∙ driven_has_driver ds x ∙ sym (ap is_some (cond-false (eqb e.0 x) (Some e.1) (driver_in ds x) h))
]

pub contradiction : {A : Type 0} (b : Bool) → b ≡ true → b ≡ false → A
contradiction b h k = absurd (cc)

one_stays : (d : Driver) (ds : List Drive) (x : ℕ) → is_several (state (One d) ds x) ≡ false → state (One d) ds x ≡ One d
one_stays d [] x h = refl
one_stays d (e ∷ ds) x h = elim (cases_of (eqb e.0 x)) [
  | inl t ↦ contradiction (is_several (state (One d) (e ∷ ds) x)) (ap is_several (step_eq (One d) e ds x t ∙ several_stays ds x)) h
  | inr t ↦ step_ne (One d) e ds x t ∙ one_stays d ds x (sym (ap is_several (step_ne (One d) e ds x t)) ∙ h)
]

pub driver_of_state : (ds : List Drive) (x : ℕ) → is_several (state Nothing ds x) ≡ false → driver_or_clock (state Nothing ds x) ≡ unwrap_or (driver_in ds x) Clock
driver_of_state [] x h = refl
driver_of_state (e ∷ ds) x h = elim (cases_of (eqb e.0 x)) [
  | inl t ↦ ap driver_or_clock (step_eq Nothing e ds x t ∙ one_stays e.1 ds x (sym (ap is_several (step_eq Nothing e ds x t)) ∙ h)) ∙ sym (ap (λ (o : Option Driver). unwrap_or o Clock) (cond-true (eqb e.0 x) (Some e.1) (driver_in ds x) t))
  | inr t ↦ ap driver_or_clock (step_ne Nothing e ds x t) ∙ driver_of_state ds x (sym (ap is_several (step_ne Nothing e ds x t)) ∙ h) ∙ sym (ap (λ (o : Option Driver). unwrap_or o Clock) (cond-false (eqb e.0 x) (Some e.1) (driver_in ds x) t))
]

-- ---- numbers that are no net numbers

never_told : {S V : Type 0} (more : S → V → S) (s : S) (ts : List (ℕ × V)) (x : ℕ) → ((v : V) → Has ts (x, v) → ⊥) → told more s ts x ≡ s
never_told more s [] x h = refl
never_told {S} {V} more s (t ∷ ts) x h =
    ap (λ b. told more (cond b (more s t.1) s) ts x) (ne_eqb t.0 x (λ e. h t.1 (inl (ap (λ (n : ℕ). (n, t.1)) e))))
    ∙ never_told more s ts x (λ v k. h v (inr k))

nets_of_drives : (f : ℕ → Driver) (bits : List RawBit) (x : ℕ) (d : Driver) → Has (driven_from f 0 bits) (x, d) → Has (nets_in bits) x
nets_of_drives f bits x d h = (let r = driven_from_at f 0 bits x d h in Has-nets bits r.0 x r.1)

nets_of_role : (c : ℕ) (role : Role) (cell : RawCell) (k : Kind) (x : ℕ) (d : Driver) → kind_of cell.kind ≡ Some k → Has (driven_by_role c role cell k) (x, d) → Has (nets_in (output_bits cell)) x
nets_of_role c Combinational cell k x d e h =
    let r = outputs_at c cell (outputs_of k) 0 x d h in
    let here : Has (nets_in (bits_by outputs_of cell (Some k))) x = nets_of_rows cell (outputs_of k) r.number r.row x r.at_row (Has-nets (port_bits cell r.row) r.index x r.at_bit) in
    rw e here
nets_of_role c PlainRegister cell k x d e h = nets_of_drives (Register c) (output_bits cell) x d h
nets_of_role c ResetRegister cell k x d e h = nets_of_drives (Register c) (output_bits cell) x d h
nets_of_role c MemoryBlock cell k x d e h = nets_of_drives (λ i. Read c (i / word_width cell) (i % word_width cell)) (output_bits cell) x d h
nets_of_role c CarriedOver cell k x d e h = absurd h

nets_of_kind : (c : ℕ) (cell : RawCell) (o : Option Kind) (x : ℕ) (d : Driver) → kind_of cell.kind ≡ o → Has (driven_by_kind c cell o) (x, d) → Has (nets_in (output_bits cell)) x
nets_of_kind c cell None x d e h = absurd h
nets_of_kind c cell (Some k) x d e h = nets_of_role c (role_of k) cell k x d e h

pub driven_is_number : (raw : Raw) (x : ℕ) (d : Driver) → Has (driven raw) (x, d) → Has (net_numbers raw) x
unfolding driven net_numbers
driven_is_number raw x d h =
    let ports = flat_map (λ (p : RawPort). nets_in p.bits) raw.ports in
    let cells = flat_map (λ (c : RawCell). nets_in (operand_bits c) ++ nets_in (output_bits c) ++ nets_in (clock_bits c)) raw.cells in
    elim (Has-append (driven_by_inputs 0 (filter is_input raw.ports)) (driven_by_cells 0 raw.cells) (x, d) h) [
      | inl a ↦ (let r = inputs_at 0 (filter is_input raw.ports) x d a in
          let port : Has raw.ports r.bit.port = Has-unfilter is_input raw.ports r.bit.port (Has-at (filter is_input raw.ports) r.number r.bit.port r.bit.at_port) in
          let at = At-has raw.ports r.bit.port port in
          Has-rising (numbers_held raw) x (Has-left ports cells x (Has-flat_map (λ (p : RawPort). nets_in p.bits) raw.ports at.0 r.bit.port x at.1 (Has-nets r.bit.port.bits r.index x r.bit.at_bit))))
      | inr b ↦ (let r = cells_at 0 raw.cells x d b in
          let outputs : Has (nets_in (output_bits r.cell)) x = nets_of_kind (0 + r.number) r.cell (kind_of r.cell.kind) x d refl r.has in
          let all : Has (nets_in (operand_bits r.cell) ++ nets_in (output_bits r.cell) ++ nets_in (clock_bits r.cell)) x = Has-left (nets_in (operand_bits r.cell) ++ nets_in (output_bits r.cell)) (nets_in (clock_bits r.cell)) x (Has-right (nets_in (operand_bits r.cell)) (nets_in (output_bits r.cell)) x outputs) in
          Has-rising (numbers_held raw) x (Has-right ports cells x (Has-flat_map (λ (c : RawCell). nets_in (operand_bits c) ++ nets_in (output_bits c) ++ nets_in (clock_bits c)) raw.cells r.number r.cell x r.at_cell all)))
    ]

drive_by_place : (raw : Raw) (x : ℕ) → IsRising (net_numbers raw) → drive_at (map (driven_by raw) (net_numbers raw)) (position (λ n. n == x) (net_numbers raw)) ≡ driven_by raw x
drive_by_place raw x r = elim (cases_has (net_numbers raw) x) [
  | inl h ↦ (let at = At-has (net_numbers raw) x h in ap (drive_at (map (driven_by raw) (net_numbers raw))) (position_found (net_numbers raw) at.0 x r at.1) ∙ At-map (driven_by raw) (net_numbers raw) at.0 x Nothing at.1)
  | inr n ↦ ap (drive_at (map (driven_by raw) (net_numbers raw))) (position_none (net_numbers raw) x n) ∙ sym (never_told driven_more Nothing (driven raw) x (λ d k. n (driven_is_number raw x d k)))
]

pub drive_found : (raw : Raw) (x : ℕ) (ns : List ℕ) (ds : List DrivenBy) → ns ≡ net_numbers raw → ds ≡ map (driven_by raw) (net_numbers raw) → drive_at ds (position (λ n. n == x) ns) ≡ driven_by raw x
drive_found raw x ns ds e f = ap (λ (ms : List ℕ). drive_at ds (position (λ n. n == x) ms)) e ∙ ap (λ es. drive_at es (position (λ n. n == x) (net_numbers raw))) f ∙ drive_by_place raw x (numbers_rise raw)

pub numbers_increase : (raw : Raw) (ns : List ℕ) → ns ≡ net_numbers raw → IsStrictlyIncreasing ns
numbers_increase raw ns e = increasing_rising ns (rw e (numbers_rise raw))

pub same_count : (raw : Raw) (ns : List ℕ) (ds : List DrivenBy) → ns ≡ net_numbers raw → ds ≡ map (driven_by raw) (net_numbers raw) → length ds ≡ length ns
same_count raw ns ds e f = ap length f ∙ length-map (net_numbers raw) (driven_by raw) ∙ sym (ap length e)

-- ---- the check of drivers

several_is_multi : (raw : Raw) (ns : List ℕ) → several_fault ns (map (driven_by raw) ns) ≡ first_fault (λ x. fault_if (is_twice (driven_numbers raw) x) (MultiDriven x)) ns
several_is_multi raw [] = refl
several_is_multi raw (n ∷ ns) =
    ap (λ b. fault_if b (MultiDriven n) else_by several_fault ns (map (driven_by raw) ns)) (several_is_twice (driven raw) n)
    ∙ ap (λ o. fault_if (is_twice (driven_numbers raw) n) (MultiDriven n) else_by o) (several_is_multi raw ns)

pub drivers_checked : (raw : Raw) (ns : List ℕ) (ds : List DrivenBy) → ns ≡ net_numbers raw → ds ≡ map (driven_by raw) (net_numbers raw) → several_fault ns ds ≡ drivers_fault raw
unfolding drivers_fault
drivers_checked raw ns ds e f = ap (λ (ms : List ℕ). several_fault ms ds) e ∙ ap (several_fault (net_numbers raw)) f ∙ several_is_multi raw (net_numbers raw)

-- ---- all drivers, from none

pub told_all-replicate : {S V : Type 0} (more : S → V → S) (ns : List ℕ) (s : S) (ts : List (ℕ × V)) → told_all more ns (replicate (length ns) s) ts ≡ map (told more s ts) ns
told_all-replicate more [] s ts = refl
told_all-replicate more (n ∷ ns) s ts = ap (λ us. told more s ts n ∷ us) (told_all-replicate more ns s ts)

-- ---- one more place of the check

single_suc : (ns : List ℕ) (ds : List DrivenBy) (i : ℕ) (d : DrivenBy) → i < length ds → length ds ≡ length ns → is_several (get_or ds i d) ≡ false → several_fault (drop (suc i) ns) (drop (suc i) ds) ≡ several_fault (drop i ns) (drop i ds)
single_suc [] ds i d l e h = absurd (omega arith)
single_suc (n ∷ ns) [] i d l e h = absurd (omega arith)
single_suc (n ∷ ns) (s ∷ ss) zero d l e h = sym (ap (λ b. fault_if b (MultiDriven n) else_by several_fault ns ss) h)
single_suc (n ∷ ns) (s ∷ ss) (suc i) d l e h = single_suc ns ss i d (omega arith) (omega arith) h

not_several : (d : DrivenBy) → (d ≡ Several → ⊥) → is_several d ≡ false
not_several Nothing h = refl
not_several (One d) h = refl
not_several Several h = absurd (h refl)

pub single_step : (ns : List ℕ) (ds : List DrivenBy) (i : ℕ) (d : DrivenBy) → i < length ds → length ds ≡ length ns → (get_or ds i d ≡ Several → ⊥) → several_fault (drop (i + 1) ns) (drop (i + 1) ds) ≡ several_fault (drop i ns) (drop i ds)
single_step ns ds i d l e h = rw (add-one) (single_suc ns ds i d l e (not_several (get_or ds i d) h))

-- inputs first, and then cells
pub all_driven : (raw : Raw) (ns : List ℕ) (items first one second two : List DrivenBy) (n : ℕ) (ports : List RawPort) (cells : List RawCell) → items ≡ replicate (length ns) Nothing → n ≡ length items → first ≡ items → ports ≡ raw.ports
    → one ≡ told_all driven_more ns first (driven_by_inputs 0 (filter is_input ports)) → second ≡ take n (one ++ drop (length one) items) → cells ≡ raw.cells → two ≡ told_all driven_more ns second (driven_by_cells 0 cells)
    → take n (two ++ drop (length two) (take n (one ++ drop (length one) items))) ≡ map (driven_by raw) ns
unfolding driven
all_driven raw ns items first one second two n ports cells e l f p o s c t =
    let count : length items ≡ length ns = ap length e ∙ length-replicate (length ns) Nothing in
    let one_count : length one ≡ length ns = ap length o ∙ length-told_all driven_more ns first (driven_by_inputs 0 (filter is_input ports)) (ap length f ∙ count) in
    let one_left : take n (one ++ drop (length one) items) ≡ one = take_at one (drop (length one) items) n (one_count ∙ sym count ∙ sym l) in
    let two_count : length two ≡ length ns = ap length t ∙ length-told_all driven_more ns second (driven_by_cells 0 cells) (ap length (s ∙ one_left) ∙ one_count) in
    let start : first ≡ replicate (length ns) Nothing = f ∙ e in
    take_at two (drop (length two) (take n (one ++ drop (length one) items))) n (two_count ∙ sym count ∙ sym l)
    ∙ t ∙ ap (λ ss. told_all driven_more ns ss (driven_by_cells 0 cells)) (s ∙ one_left ∙ o)
    ∙ ap (λ (cs : List RawCell). told_all driven_more ns (told_all driven_more ns first (driven_by_inputs 0 (filter is_input ports))) (driven_by_cells 0 cs)) c
    ∙ ap (λ (ps : List RawPort). told_all driven_more ns (told_all driven_more ns first (driven_by_inputs 0 (filter is_input ps))) (driven_by_cells 0 raw.cells)) p
    ∙ sym (told_all-append driven_more ns first (driven_by_inputs 0 (filter is_input raw.ports)) (driven_by_cells 0 raw.cells))
    ∙ ap (λ ss. told_all driven_more ns ss (driven_by_inputs 0 (filter is_input raw.ports) ++ driven_by_cells 0 raw.cells)) start
    ∙ told_all-replicate driven_more ns Nothing (driven_by_inputs 0 (filter is_input raw.ports) ++ driven_by_cells 0 raw.cells)

-- ---- what is read of a module

pub nets_hold : (raw known : Raw) (numbers seen : List ℕ) (drives : List DrivenBy) (cells : List RawCell) (clock : Option ClockEdge) (count : ℕ) → known ≡ raw → counts_fault raw ≡ None → ports_fault raw ≡ None → cells_fault known ≡ None
    → length raw.cells ≤ 400000 → count ≤ 4194304 → count ≡ length numbers → numbers ≡ net_numbers known → seen ≡ numbers → drives ≡ map (driven_by known) seen → cells ≡ known.cells → clock ≡ first_edge (flat_map uses_of cells)
    → HoldsNets known numbers drives clock
nets_hold raw known numbers seen drives cells clock count same counts ports each few_cells few_bits q n s d c k = record {
  counts = ap counts_fault same ∙ counts;
  ports = ap ports_fault same ∙ ports;
  cells = each;
  few_cells = (let P : Raw → Type 0 = λ r. length r.cells ≤ 400000 in subst P (sym same) few_cells);
  few_bits = (let e : length numbers ≡ length (net_numbers known) = ap length n in omega arith);
  same_numbers = n;
  same_drives = d ∙ ap (map (driven_by known)) (s ∙ n);
  same_clock = k ∙ ap (λ cs. first_edge (flat_map uses_of cs)) c;
}
