-- What holds of each thing of a list, one by one, and when named things are in order.
use Rattle.std.specs.Prelude.{ℕ, zero, suc, ◌+◌, ◌<◌, ◌≤◌, ◌≡◌, List, [], ◌∷◌, length, get_or, drop}
use Rattle.std.specs.List.{AllByRecursion}
use Rattle.std.proofs.Common.{arith, sym, ap, ◌∙◌, subst}
use Rattle.cif_defs.specs.Order.{AreInOrder, cell_names, connection_names, net_names, param_names, port_names}
use Rattle.cif_defs.specs.declared.raw_module.Connection.{Connection}
use Rattle.cif_defs.specs.declared.raw_module.RawCell.{RawCell}
use Rattle.cif_defs.specs.declared.raw_module.RawName.{RawName}
use Rattle.cif_defs.specs.declared.raw_module.RawParam.{RawParam}
use Rattle.cif_defs.specs.declared.raw_module.RawPort.{RawPort}
use Rattle.std.proofs.Math.ListN.{drop_of_length-le}
use Rattle.std.proofs.Math.Seq.{drop-cons}

-- ---- lists of named things

abbrev pub ParamsInOrder : List RawParam → Type 0
ParamsInOrder params = AreInOrder (param_names params)

abbrev pub ConnectionsInOrder : List Connection → Type 0
ConnectionsInOrder connections = AreInOrder (connection_names connections)

abbrev pub PortsInOrder : List RawPort → Type 0
PortsInOrder ports = AreInOrder (port_names ports)

abbrev pub CellNamesInOrder : List RawCell → Type 0
CellNamesInOrder cells = AreInOrder (cell_names cells)

abbrev pub NetNamesInOrder : List RawName → Type 0
NetNamesInOrder nets = AreInOrder (net_names nets)

-- ---- each thing of a list

pub all_at : {A : Type 0} (P : A → Type 0) (xs : List A) (i : ℕ) (x : A) → i < length xs → x ≡ get_or xs i x → AllByRecursion P xs → P x
all_at P [] i x l e h = absurd (omega arith)
all_at P (y ∷ ys) zero x l e h = subst P (sym e) h.0
all_at P (y ∷ ys) (suc i) x l e h = all_at P ys i x (omega arith) e h.1

-- what holds of all things from place i on holds of all
abbrev pub HoldsFrom : {A : Type 0} → (A → Type 0) → List A → ℕ → Type 0
HoldsFrom {A} P xs i = AllByRecursion P (drop i xs) → AllByRecursion P xs

pub holds_from_next : {A : Type 0} (P : A → Type 0) (xs : List A) (i : ℕ) (x : A) → i < length xs → x ≡ get_or xs i x → P x → HoldsFrom P xs i → HoldsFrom P xs (i + 1)
holds_from_next P xs i x l e p h = λ rest.
    let here : drop i xs ≡ x ∷ drop (i + 1) xs = drop-cons xs i x l ∙ ap (λ y. y ∷ drop (suc i) xs) (sym e) ∙ ap (λ j. x ∷ drop j xs) (let one : suc i ≡ i + 1 = omega arith in one) in
    h (subst (AllByRecursion P) (sym here) (p, rest))

pub holds_from_end : {A : Type 0} (P : A → Type 0) (xs : List A) (i : ℕ) → length xs ≤ i → HoldsFrom P xs i → AllByRecursion P xs
holds_from_end P xs i l h = h (subst (AllByRecursion P) (sym (drop_of_length-le xs l)) tt)
