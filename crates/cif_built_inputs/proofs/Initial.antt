-- The words with which cells of a built module start, where no line gives them one.
use Rattle.std.specs.Prelude.{ℕ, zero, suc, ◌+◌, ◌<◌, ◌≡◌, ◌==◌, Bool, true, false, ◌&&◌, ◌||◌, List, [], ◌∷◌, ◌++◌, length, get_or, bytes_eq, Option, Some, None, option_to_list, unwrap_or, refl}
use Rattle.std.specs.List.{flat_map, list_all, list_any}
use Rattle.std.proofs.Common.{arith, sym, ap, ◌∙◌, cond, inl, inr}
use Rattle.std.proofs.lemmas.Bool.{and_parts, and_right, eq-eqb}
use Rattle.cif_defs.specs.Words.{Word, bit, word}
use Rattle.cif_defs.specs.WordText.{text_of}
use Rattle.cif_defs.specs.Kinds.{is_register, role_of}
use Rattle.cif_defs.specs.Table.{kind_of, outputs_of, port_text}
use Rattle.cif_defs.specs.RawModule.{bits_by, bits_named, digits_given, is_net, net_numbers, nets_in, output_bits, port_bits}
use Rattle.cif_defs.specs.Cells.{Cell, state_bits_by, width}
use Rattle.cif_defs.specs.Accepted.{cell_of, init_at, initial_bit, initial_by, initial_of, no_bit}
use Rattle.cif_defs.specs.declared.kinds.Kind.{Kind}
use Rattle.cif_defs.specs.declared.kinds.Param.TheVariants.{Init}
use Rattle.cif_defs.specs.declared.kinds.PortRow.{PortRow}
use Rattle.cif_defs.specs.declared.kinds.Role.{Role}
use Rattle.cif_defs.specs.declared.kinds.Role.TheVariants.{Combinational, PlainRegister, ResetRegister, MemoryBlock, CarriedOver}
use Rattle.cif_defs.specs.declared.raw_module.ParamValue.TheVariants.{Text}
use Rattle.cif_defs.specs.declared.raw_module.Connection.{Connection}
use Rattle.cif_defs.specs.declared.raw_module.RawBit.{RawBit}
use Rattle.cif_defs.specs.declared.raw_module.RawBit.TheVariants.{Net, Zero, One, X, Z}
use Rattle.cif_defs.specs.declared.raw_module.RawPort.{RawPort}
use Rattle.cif_defs.specs.declared.raw_module.RawCell.{RawCell}
use Rattle.cif_defs.specs.declared.raw_module.RawName.{RawName}
use Rattle.cif_defs.specs.declared.raw_module.Raw.{Raw}
use Rattle.cif_defs.specs.Order.{IsInOrder}
use Rattle.cif_defs.proofs.WordLaws.{bit-word, le_or_lt, length-word, past_word, same_words}
use Rattle.cif_checks.specs.Checks.{◌else_by◌, IsAccepted, build_fault, cells_fault, clocks_fault, counts_fault, drivers_fault, gives_init, has_number, inits_fault, is_register as is_register_role, ports_fault, reads_fault, register_numbers, register_numbers_by}
use Rattle.cif_nets.proofs.Passed.{each_passes, next_passes, test_passes}
use Rattle.cif_nets.proofs.Places.{At, At-get, At-has, Has, Has-append, Has-flat_map, Has-left, Has-nets, Has-right, nets_in-append}
use Rattle.cif_raw_runs.proofs.Anywhere.{anywhere, bare}
use Rattle.cif_raw_runs.proofs.Numbers.{number_of_output}
use Rattle.cif_augment.specs.Names.{stored_name}
use Rattle.cif_augment.specs.Additions.{IsCopy, net_of_copy, standing_numbers}
use Rattle.cif_built.specs.Built.{IsBuilt}
use Rattle.cif_built_inputs.proofs.Digits.{digit_of_text, gives, gives_held, gives_is, is_digit, one_held, starts_with}
use Rattle.cif_built_inputs.proofs.Finds.{any_has, none_has, only_named, same_any}
use Rattle.cif_built_inputs.proofs.Named.{kind_of_cell, known}
use Rattle.cif_built_inputs.proofs.Names.{same_stored}
use Rattle.cif_built_inputs.proofs.NewCells.{CopyName, MakingOf, copied, copy_named, drives, giver, is_unused, name_kept, new_cells, once_in, one_driver, standing}
use Rattle.cif_built_inputs.proofs.Started.{bits_of}

-- ---- bits of a list, one by one

-- two tests that agree at the net numbers of some bits and elsewhere agree at each of these bits
pub agree_at : (f g : RawBit → Bool) (bits : List RawBit) → ((x : ℕ) → Has (nets_in bits) x → f (Net x) ≡ g (Net x)) → f Zero ≡ g Zero → f One ≡ g One → f X ≡ g X → f Z ≡ g Z → (i : ℕ) → f (get_or bits i no_bit) ≡ g (get_or bits i no_bit)
agree_at f g [] net zero' one x z i = x
agree_at f g (Net y ∷ bits) net zero' one x z zero = net y (inl refl)
agree_at f g (Zero ∷ bits) net zero' one x z zero = zero'
agree_at f g (One ∷ bits) net zero' one x z zero = one
agree_at f g (X ∷ bits) net zero' one x z zero = x
agree_at f g (Z ∷ bits) net zero' one x z zero = z
agree_at f g (Net y ∷ bits) net zero' one x z (suc i) = agree_at f g bits (λ w h. net w (inr h)) zero' one x z i
agree_at f g (Zero ∷ bits) net zero' one x z (suc i) = agree_at f g bits net zero' one x z i
agree_at f g (One ∷ bits) net zero' one x z (suc i) = agree_at f g bits net zero' one x z i
agree_at f g (X ∷ bits) net zero' one x z (suc i) = agree_at f g bits net zero' one x z i
agree_at f g (Z ∷ bits) net zero' one x z (suc i) = agree_at f g bits net zero' one x z i

-- each of some bits is a net number
net_there : (b : RawBit) → is_net b ≡ true → (x : ℕ) × (b ≡ Net x)
net_there (Net x) h = (x, refl)
net_there Zero h = absurd (cc)
net_there One h = absurd (cc)
net_there X h = absurd (cc)
net_there Z h = absurd (cc)

pub net_at_place : (bits : List RawBit) (i : ℕ) → list_all is_net bits ≡ true → i < length bits → (x : ℕ) × At bits i (Net x)
net_at_place [] i h l = absurd (omega arith)
net_at_place (b ∷ bits) zero h l = net_there b (and_parts (is_net b) (list_all is_net bits) h).0
net_at_place (b ∷ bits) (suc i) h l = net_at_place bits i (and_parts (is_net b) (list_all is_net bits) h).1 (omega arith)

-- ---- numbers that stand in the accepted module

name_stands : (n : Raw) (z : RawName) (x : ℕ) → Has n.names z → Has (nets_in z.bits) x → has_number x (standing_numbers n) ≡ true
unfolding standing_numbers
name_stands n z x h k =
    let ports = flat_map (λ (p : RawPort). nets_in p.bits) n.ports in
    let cells = flat_map (λ (c : RawCell). flat_map (λ (w : Connection). nets_in w.bits) c.connections) n.cells in
    let names = flat_map (λ (m : RawName). nets_in m.bits) n.names in
    let at = At-has n.names z h in
    any_has (λ y. y == x) (ports ++ cells ++ names) x (Has-right (ports ++ cells) names x (Has-flat_map (λ (m : RawName). nets_in m.bits) n.names at.0 z x at.1 k)) (eq-eqb x x refl)

-- what a cell connects to its outputs stands among its connections
connected_by : (name : List ℕ) (w : Connection) (ws : List Connection) (x : ℕ) (t : Bool) → (Has (nets_in (unwrap_or (bits_named name ws) [])) x → Has (flat_map (λ (v : Connection). nets_in v.bits) ws) x)
    → Has (nets_in (unwrap_or (cond t (Some w.bits) (bits_named name ws)) [])) x → Has (flat_map (λ (v : Connection). nets_in v.bits) (w ∷ ws)) x
connected_by name w ws x true rest h = Has-left (nets_in w.bits) (flat_map (λ (v : Connection). nets_in v.bits) ws) x h
connected_by name w ws x false rest h = Has-right (nets_in w.bits) (flat_map (λ (v : Connection). nets_in v.bits) ws) x (rest h)

connected_there : (name : List ℕ) (xs : List Connection) (x : ℕ) → Has (nets_in (unwrap_or (bits_named name xs) [])) x → Has (flat_map (λ (w : Connection). nets_in w.bits) xs) x
connected_there name [] x h = absurd h
connected_there name (w ∷ ws) x h = connected_by name w ws x (bytes_eq w.name name) (connected_there name ws x) h

rows_there : (c : RawCell) (rows : List PortRow) (x : ℕ) → Has (nets_in (flat_map (port_bits c) rows)) x → Has (flat_map (λ (w : Connection). nets_in w.bits) c.connections) x
rows_there c [] x h = absurd h
rows_there c (r ∷ rows) x h =
    let parts : Has (nets_in (port_bits c r) ++ nets_in (flat_map (port_bits c) rows)) x = rw (sym (nets_in-append (port_bits c r) (flat_map (port_bits c) rows))) h in
    elim (Has-append (nets_in (port_bits c r)) (nets_in (flat_map (port_bits c) rows)) x parts) [
      | inl here ↦ connected_there (port_text r.port) c.connections x here
      | inr later ↦ rows_there c rows x later
    ]

output_there : (c : RawCell) (o : Option Kind) (x : ℕ) → Has (nets_in (bits_by outputs_of c o)) x → Has (flat_map (λ (w : Connection). nets_in w.bits) c.connections) x
output_there c None x h = absurd h
output_there c (Some k) x h = rows_there c (outputs_of k) x h

output_stands : (n : Raw) (c : RawCell) (x : ℕ) → Has n.cells c → Has (nets_in (output_bits c)) x → has_number x (standing_numbers n) ≡ true
unfolding standing_numbers
output_stands n c x h k =
    let ports = flat_map (λ (p : RawPort). nets_in p.bits) n.ports in
    let held = λ (d : RawCell). flat_map (λ (w : Connection). nets_in w.bits) d.connections in
    let cells = flat_map held n.cells in
    let names = flat_map (λ (m : RawName). nets_in m.bits) n.names in
    let at = At-has n.cells c h in
    any_has (λ y. y == x) (ports ++ cells ++ names) x
    (Has-left (ports ++ cells) names x (Has-right ports cells x (Has-flat_map held n.cells at.0 c x at.1 (output_there c (kind_of c.kind) x k)))) (eq-eqb x x refl)

-- ---- registers' bits have no conflict in the accepted module

checked_role : (role : Role) → is_register role ≡ true → is_register_role role ≡ true
checked_role PlainRegister e = refl
checked_role ResetRegister e = refl
checked_role MemoryBlock e = absurd (cc)
checked_role Combinational e = absurd (cc)
checked_role CarriedOver e = absurd (cc)

number_by_kind : (c : RawCell) (k : Kind) (x : ℕ) → kind_of c.kind ≡ Some k → is_register (role_of k) ≡ true → Has (nets_in (output_bits c)) x → Has (register_numbers_by c (kind_of c.kind)) x
number_by_kind c k x e r h = (let t : is_register_role (role_of k) ≡ true = checked_role (role_of k) r in rw (e, t) h)

register_number : (n : Raw) (c : RawCell) (k : Kind) (x : ℕ) → Has n.cells c → kind_of c.kind ≡ Some k → is_register (role_of k) ≡ true → Has (nets_in (output_bits c)) x → Has (register_numbers n) x
register_number n c k x h e r o = (let at = At-has n.cells c h in Has-flat_map (λ (d : RawCell). register_numbers_by d (kind_of d.kind)) n.cells at.0 c x at.1 (number_by_kind c k x e r o))

self_same : (y : ℕ) → (y == y) ≡ true
self_same y = eq-eqb y y refl

is_given : (a b c : Bool) → (a && b && c) ≡ false → a ≡ true → (b && c) ≡ false
is_given true b c h e = h
is_given false b c h e = absurd (cc)

no_conflict : (n : Raw) (c : RawCell) (k : Kind) (x : ℕ) → IsAccepted n → Has n.cells c → kind_of c.kind ≡ Some k → is_register (role_of k) ≡ true → Has (nets_in (output_bits c)) x
    → (list_any (gives x false) n.names && list_any (gives x true) n.names) ≡ false
unfolding build_fault inits_fault
no_conflict n c k x ok h e r o =
    let at = At-has n.cells c h in
    let number : Has (net_numbers n) x = number_of_output n at.0 c x at.1 o in
    let before = counts_fault n else_by ports_fault n else_by cells_fault n else_by drivers_fault n else_by clocks_fault n else_by reads_fault n in
    let free = test_passes (has_number x (register_numbers n) && gives_init n.names x false && gives_init n.names x true) _ (each_passes _ (net_numbers n) x (next_passes before (inits_fault n) ok) number) in
    let among : has_number x (register_numbers n) ≡ true = any_has (λ y. y == x) (register_numbers n) x (register_number n c k x h e r o) (self_same x) in
    sym (ap (λ b. b && list_any (gives x true) n.names) (gives_is n.names x false)) ∙ sym (ap (λ b. gives_init n.names x false && b) (gives_is n.names x true)) ∙ is_given (has_number x (register_numbers n)) (gives_init n.names x false) (gives_init n.names x true) free among

-- ---- initial bits

module _ (n a : Raw) (released : List ℕ) (built : IsBuilt n released a) where
  -- a number that stands in n is given the digits that names of n give it
  not_copied : (x : ℕ) (z : RawName) (d : Bool) → has_number x (standing_numbers n) ≡ true → gives x d z ≡ true → CopyName n released built.shadow n.cells built.makings z → ⊥
  not_copied x z d stands t c =
      let held : Has (drives n a released built c.copy) x = rw c.is at (gives_held x d z t) in
      let unused = is_unused n a released built c.copy x c.is_new held in
      absurd (cc)

  as_before : (x : ℕ) (d : Bool) → has_number x (standing_numbers n) ≡ true → list_any (gives x d) a.names ≡ list_any (gives x d) n.names
  as_before x d stands = same_any (gives x d) a.names n.names
      (λ z h t. elim (giver n a released built x d z h t) [ standing old ↦ old | copied c ↦ absurd (not_copied x z d stands t c) ])
      (λ z h t. name_kept n a released built z h)

  old_bit : (c : RawCell) (k : Kind) (x : ℕ) → IsAccepted n → Has n.cells c → kind_of c.kind ≡ Some k → is_register (role_of k) ≡ true → Has (nets_in (output_bits c)) x → initial_bit a.names (Net x) ≡ initial_bit n.names (Net x)
  old_bit c k x ok h e r o =
      let free = no_conflict n c k x ok h e r o in
      let stands = output_stands n c x h o in
      let zeros = as_before x false stands in
      let ones = as_before x true stands in
      starts_with a.names x (ap (λ b. b && list_any (gives x true) a.names) zeros ∙ ap (λ b. list_any (gives x false) n.names && b) ones ∙ free) ∙ ones ∙ sym (starts_with n.names x free)

  -- a net that a new cell drives, other than a copy, is given no digit
  none_given : (d : RawCell) (x : ℕ) (e : Bool) → Has (new_cells built.makings) d → ((name : List ℕ) → d.name ≡ stored_name name → ⊥) → Has (nets_in (output_bits d)) x → list_any (gives x e) a.names ≡ false
  none_given d x e h other k = none_has (gives x e) a.names (λ z m t. elim (giver n a released built x e z m t) [
    | standing old ↦ (let stands = name_stands n z x old (gives_held x e z t) in let unused = is_unused n a released built d x h k in absurd (cc))
    | copied c ↦ (let held : Has (drives n a released built c.copy) x = rw c.is at (gives_held x e z t) in
        let same = one_driver n a released built d c.copy x h c.is_new k held in
        absurd (other c.cell.name (ap (λ (b : RawCell). b.name) same ∙ c.is_copy.is_new.name)))
  ])

  clear_bit : (d : RawCell) (x : ℕ) → Has (new_cells built.makings) d → ((name : List ℕ) → d.name ≡ stored_name name → ⊥) → Has (nets_in (output_bits d)) x → initial_bit a.names (Net x) ≡ false
  clear_bit d x h other k =
      let none = none_given d x true h other k in
      starts_with a.names x (and_right (list_any (gives x false) a.names) (list_any (gives x true) a.names) none) ∙ none

  pub clear_bits : (d : RawCell) (i : ℕ) → Has (new_cells built.makings) d → ((name : List ℕ) → d.name ≡ stored_name name → ⊥) → initial_bit a.names (get_or (output_bits d) i no_bit) ≡ false
  clear_bits d i h other = agree_at (initial_bit a.names) (λ b. false) (output_bits d) (λ x k. clear_bit d x h other k) refl refl refl refl i

  -- a net that a copy drives is given the digit that the text of its name has there
  module _ (c v : RawCell) (order : IsInOrder n) (stands : Has n.cells c) (making : MakingOf n released built.shadow n.cells built.makings c) (copy : making.making.copy ≡ Some v) (new : Has (new_cells built.makings) v) (is : IsCopy c v) where
    abbrev before : Word
    before = initial_of (net_numbers n) n.names c

    own_giver : (x : ℕ) (e : Bool) (z : RawName) → Has (nets_in (output_bits v)) x → Has a.names z → gives x e z ≡ true → z ≡ net_of_copy n c v
    own_giver x e z k m t = elim (giver n a released built x e z m t) [
      | standing old ↦ absurd (let there = name_stands n z x old (gives_held x e z t) in let unused = is_unused n a released built v x new k in cc)
      | copied o ↦ (let held : Has (drives n a released built o.copy) x = rw o.is at (gives_held x e z t) in
          let same : o.copy ≡ v = sym (one_driver n a released built v o.copy x new o.is_new k held) in
          let named : o.cell.name ≡ c.name = same_stored o.cell.name c.name (sym o.is_copy.is_new.name ∙ ap (λ (b : RawCell). b.name) same ∙ is.is_new.name) in
          let cell : o.cell ≡ c = only_named (λ (b : RawCell). b.name) n.cells o.cell c order.cells o.stands stands named in
          o.is ∙ ap (λ (b : RawCell). net_of_copy n b o.copy) cell ∙ ap (net_of_copy n c) same)
    ]

    by_copy : (x : ℕ) (e : Bool) → Has (nets_in (output_bits v)) x → list_any (gives x e) a.names ≡ gives x e (net_of_copy n c v)
    by_copy x e k = by_test (gives x e (net_of_copy n c v)) refl where
      by_test : (t : Bool) → gives x e (net_of_copy n c v) ≡ t → list_any (gives x e) a.names ≡ t
      by_test true h = any_has (gives x e) a.names (net_of_copy n c v) (copy_named n a released built (net_of_copy n c v) (making.net v copy)) h
      by_test false h = none_has (gives x e) a.names (λ z m t. let same = own_giver x e z k m t in let s : gives x e (net_of_copy n c v) ≡ true = ap (gives x e) (sym same) ∙ t in absurd (cc))

    text_digit : (x i : ℕ) (e : Bool) → At (output_bits v) i (Net x) → i < length before → gives x e (net_of_copy n c v) ≡ (is_digit e (bit before i) || false)
    text_digit x i e at l =
        ap (λ (ds : List Bool). list_any (is_digit e) ds) (one_held (Text (text_of before)) x 0 i (output_bits v) at (once_in n a released built v x new))
        ∙ ap (λ (k : ℕ). list_any (is_digit e) (option_to_list (init_at (Text (text_of before)) k))) (let z : 0 + i ≡ i = omega arith in z)
        ∙ ap (λ (o : Option Bool). list_any (is_digit e) (option_to_list o)) (digit_of_text before i l)

    one_digit : (b : Bool) → ((is_digit false b || false) && (is_digit true b || false)) ≡ false
    one_digit true = refl
    one_digit false = refl

    that_digit : (b : Bool) → (is_digit true b || false) ≡ b
    that_digit true = refl
    that_digit false = refl

    pub copied_bit : (x i : ℕ) → At (output_bits v) i (Net x) → i < length before → initial_bit a.names (get_or (output_bits v) i no_bit) ≡ bit before i
    copied_bit x i at l =
        let k : Has (nets_in (output_bits v)) x = Has-nets (output_bits v) i x at in
        let zeros = by_copy x false k ∙ text_digit x i false at l in
        let ones = by_copy x true k ∙ text_digit x i true at l in
        ap (initial_bit a.names) (At-get (output_bits v) i (Net x) no_bit at)
        ∙ starts_with a.names x (ap (λ b. b && list_any (gives x true) a.names) zeros ∙ ap (λ b. (is_digit false (bit before i) || false) && b) ones ∙ one_digit (bit before i))
        ∙ ones ∙ that_digit (bit before i)

-- ---- initial words

zero_bit : (m i : ℕ) → bit (word m (λ k. false)) i ≡ false
zero_bit m i = elim (le_or_lt i m) [ inl l ↦ bit-word m (λ k. false) i false l | inr g ↦ past_word m (λ k. false) i false g ]

pub zero_word : (m : ℕ) → bits_of (word m (λ i. false)) ≡ bits_of []
zero_word m j i = zero_bit m i j

state_bare : (role : Role) (c : Cell) → state_bits_by role c ≡ state_bits_by role (bare c)
state_bare Combinational c = refl
state_bare PlainRegister c = refl
state_bare ResetRegister c = refl
state_bare MemoryBlock c = refl
state_bare CarriedOver c = refl

initial_bare : (role : Role) (names : List RawName) (c : RawCell) (d : Cell) → initial_by names c d role ≡ initial_by names c (bare d) role
initial_bare PlainRegister names c d = refl
initial_bare ResetRegister names c d = refl
initial_bare MemoryBlock names c d = ap (λ (m : ℕ). word m (λ i. bit (digits_given c Init) i)) (state_bare (role_of d.kind) d)
initial_bare Combinational names c d = refl
initial_bare CarriedOver names c d = refl

initial_anywhere : (ns ms : List ℕ) (names : List RawName) (c : RawCell) → initial_of ns names c ≡ initial_of ms names c
unfolding initial_of
initial_anywhere ns ms names c = anywhere (λ (d : Cell). initial_by names c d (role_of d.kind)) ns ms c (λ d. initial_bare (role_of d.kind) names c d)

pub register_word : (names : List RawName) (c : RawCell) (k : Kind) → kind_of c.kind ≡ Some k → is_register (role_of k) ≡ true
    → initial_of [] names c ≡ word (width (cell_of [] c)) (λ i. initial_bit names (get_or (output_bits c) i no_bit))
unfolding initial_of
register_word names c k e r = by_role (role_of (cell_of [] c).kind) (ap (λ (l : Kind). is_register (role_of l)) (kind_of_cell [] c k e) ∙ r) where
  by_role : (role : Role) → is_register role ≡ true → initial_by names c (cell_of [] c) role ≡ word (width (cell_of [] c)) (λ i. initial_bit names (get_or (output_bits c) i no_bit))
  by_role PlainRegister t = refl
  by_role ResetRegister t = refl
  by_role MemoryBlock t = absurd (cc)
  by_role Combinational t = absurd (cc)
  by_role CarriedOver t = absurd (cc)

other_word : (old new : List RawName) (c : RawCell) (k : Kind) → kind_of c.kind ≡ Some k → is_register (role_of k) ≡ false → initial_of [] new c ≡ initial_of [] old c
unfolding initial_of
other_word old new c k e r = by_role (role_of (cell_of [] c).kind) (ap (λ (l : Kind). is_register (role_of l)) (kind_of_cell [] c k e) ∙ r) where
  by_role : (role : Role) → is_register role ≡ false → initial_by new c (cell_of [] c) role ≡ initial_by old c (cell_of [] c) role
  by_role PlainRegister t = absurd (cc)
  by_role ResetRegister t = absurd (cc)
  by_role MemoryBlock t = refl
  by_role Combinational t = refl
  by_role CarriedOver t = refl

-- cells of n start with what they do there
pub same_word : (n a : Raw) (released : List ℕ) → IsBuilt n released a → (c : RawCell) → IsAccepted n → Has n.cells c → initial_of [] a.names c ≡ initial_of [] n.names c
same_word n a released built c ok h = (let kind = known n c ok h in by_test kind.0 kind.1 (is_register (role_of kind.0)) refl) where
  by_test : (k : Kind) → kind_of c.kind ≡ Some k → (t : Bool) → is_register (role_of k) ≡ t → initial_of [] a.names c ≡ initial_of [] n.names c
  by_test k e true r =
      register_word a.names c k e r
      ∙ ap (λ (f : ℕ → Bool). word (width (cell_of [] c)) f) (λ j i. agree_at (initial_bit a.names) (initial_bit n.names) (output_bits c) (λ x o. old_bit n a released built c k x ok h e r o) refl refl refl refl i j)
      ∙ sym (register_word n.names c k e r)
  by_test k e false r = other_word n.names a.names c k e r

-- new registers that aren't copies start with 0
pub clear_word : (n a : Raw) (released : List ℕ) (built : IsBuilt n released a) (d : RawCell) (k : Kind) → Has (new_cells built.makings) d → ((name : List ℕ) → d.name ≡ stored_name name → ⊥) → kind_of d.kind ≡ Some k → is_register (role_of k) ≡ true
    → bits_of (initial_of [] a.names d) ≡ bits_of []
clear_word n a released built d k h other e r =
    ap bits_of (register_word a.names d k e r)
    ∙ ap (λ (f : ℕ → Bool). bits_of (word (width (cell_of [] d)) f)) (λ j i. clear_bits n a released built d i h other j)
    ∙ zero_word (width (cell_of [] d))

-- a copy starts with what the other starts with
pub copied_word : (n a : Raw) (released : List ℕ) (built : IsBuilt n released a) (c v : RawCell) (k l : Kind) → IsInOrder n → IsAccepted n → Has n.cells c → (making : MakingOf n released built.shadow n.cells built.makings c) → making.making.copy ≡ Some v → Has (new_cells built.makings) v → IsCopy c v
    → kind_of c.kind ≡ Some k → is_register (role_of k) ≡ true → kind_of v.kind ≡ Some l → is_register (role_of l) ≡ true → width (cell_of [] v) ≡ width (cell_of [] c) → length (output_bits v) ≡ width (cell_of [] v) → list_all is_net (output_bits v) ≡ true
    → initial_of [] a.names v ≡ initial_of [] n.names c
copied_word n a released built c v k l order ok h making copy new is e r el rl wide long nets =
    let before : Word = initial_of (net_numbers n) n.names c in
    let anywhere : before ≡ initial_of [] n.names c = initial_anywhere (net_numbers n) [] n.names c in
    let size : length before ≡ width (cell_of [] c) = ap length (anywhere ∙ register_word n.names c k e r) ∙ length-word (width (cell_of [] c)) (λ i. initial_bit n.names (get_or (output_bits c) i no_bit)) in
    register_word a.names v l el rl
    ∙ same_words (word (width (cell_of [] v)) (λ i. initial_bit a.names (get_or (output_bits v) i no_bit))) before
    (length-word (width (cell_of [] v)) (λ i. initial_bit a.names (get_or (output_bits v) i no_bit)) ∙ wide ∙ sym size)
    (λ i inside. let low : i < width (cell_of [] v) = (let s = length-word (width (cell_of [] v)) (λ i. initial_bit a.names (get_or (output_bits v) i no_bit)) in omega arith) in
    let net = net_at_place (output_bits v) i nets (omega arith) in
    bit-word (width (cell_of [] v)) (λ i. initial_bit a.names (get_or (output_bits v) i no_bit)) i false low
    ∙ copied_bit n a released built c v order h making copy new is net.0 i net.1 (omega arith))
    ∙ anywhere
