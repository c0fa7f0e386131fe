-- The first cell of a loop has the least name, since cells stand in byte order of name.
use Rattle.std.specs.Prelude.{ℕ, ◌<◌, ◌≡◌, List, [], length, map, get_or, Result, Ok, Err, IfErr}
use Rattle.std.specs.declared.cmp.Ordering.TheVariants.{Less}
use Rattle.std.specs.Ordering.{nat_cmp}
use Rattle.std.specs.Cmp.Lexicographic.{slice_cmp}
use Rattle.std.proofs.Common.{arith, sym, ap, ◌∙◌, subst}
use Rattle.std.proofs.lemmas.List.{get_or-map, length-map}
use Rattle.std.proofs.lemmas.Map.Keys.{Less-from_sorted}
use Rattle.cif_defs.specs.Cells.{Cell}
use Rattle.cif_defs.specs.Netlist.{Netlist, cell_at, no_cell}
use Rattle.cif_defs.specs.Order.{AreCellsInOrder}
use Rattle.cif_level.specs.LevelFaults.{IsReal, HasLeastNameFirst}
use Rattle.cif_level.specs.declared.fault.LevelFault.{LevelFault}
use Rattle.cif_level.specs.declared.fault.LevelFault.TheVariants.{Loop, Memory}

abbrev names_of : Netlist → List (List ℕ)
names_of n = map (λ (c : Cell). c.name) n.cells

name_at : (n : Netlist) (i : ℕ) → i < length n.cells → get_or (names_of n) i [] ≡ (cell_at n i).name
name_at n i l = get_or-map (λ (c : Cell). c.name) n.cells i no_cell [] l

lower_name : (n : Netlist) (i j : ℕ) → AreCellsInOrder n.cells → i < j → j < length n.cells → slice_cmp nat_cmp (cell_at n i).name (cell_at n j).name ≡ Less
lower_name n i j o l h =
    let many : length (names_of n) ≡ length n.cells = length-map n.cells (λ (c : Cell). c.name) in
    ap (λ (a : List ℕ). slice_cmp nat_cmp a (cell_at n j).name) (sym (name_at n i (omega arith)))
    ∙ ap (λ (b : List ℕ). slice_cmp nat_cmp (get_or (names_of n) i []) b) (sym (name_at n j h))
    ∙ Less-from_sorted (slice_cmp nat_cmp) (names_of n) i j [] o l (omega arith)

least_first : (n : Netlist) (f : LevelFault) → AreCellsInOrder n.cells → IsReal n f → HasLeastNameFirst n f
least_first n (Loop cells) o r = λ i p q. lower_name n (get_or cells 0 0) (get_or cells i 0) o (r.least_first i p q) (r.in_range i q)
least_first n Memory o r = tt

pub least_name_first : {A : Type 0} (n : Netlist) (cells : List Cell) (r : Result A LevelFault) → cells ≡ n.cells → AreCellsInOrder cells → IfErr r (IsReal n) → IfErr r (HasLeastNameFirst n)
least_name_first n cells (Ok x) e o real = tt
least_name_first n cells (Err f) e o real = least_first n f (let P : List Cell → Type 0 = λ cs. AreCellsInOrder cs in subst P e o) real
