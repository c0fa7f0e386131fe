-- Uses of the clock, cell by cell.
use Rattle.std.specs.Prelude.{ℕ, ◌+◌, ◌<◌, ◌≤◌, ◌≡◌, ◌==◌, true, false, ◌||◌, List, [], ◌∷◌, ◌++◌, length, get_or, drop, Option, Some, None, refl}
use Rattle.std.specs.List.{flat_map}
use Rattle.std.proofs.Common.{arith, sym, ap, ◌∙◌, lit≤}
use Rattle.std.proofs.lemmas.List.{append-nil, at_drop_more, length-map}
use Rattle.std.proofs.lemmas.List.Folds.{list_any-append}
use Rattle.cif_defs.specs.Table.{clocks_of, kind_of}
use Rattle.cif_defs.specs.RawModule.{clock_bits, nets_in, port_bits}
use Rattle.cif_checks.specs.Known.{bits_at, joined, rows_by}
use Rattle.cif_checks.proofs.KnownCells.{joined_is}
use Rattle.cif_defs.specs.declared.kinds.Kind.{Kind}
use Rattle.cif_defs.specs.declared.kinds.Kind.TheVariants.{Mem}
use Rattle.cif_defs.specs.declared.raw_module.RawBit.{RawBit}
use Rattle.cif_defs.specs.declared.raw_module.RawCell.{RawCell}
use Rattle.cif_defs.specs.declared.raw_module.Raw.{Raw}
use Rattle.cif_checks.specs.Checks.{◌else_by◌, ClockUse, clock_uses, clocks_fault, data_fault, first_fault, has_number, reads_number, uses_fault}
use Rattle.cif_nets.specs.Clocks.{edge_fault, edge_faults, first_edge, uses_of}
use Rattle.cif_nets.specs.declared.clock.ClockEdge.{ClockEdge}
use Rattle.cif_nets.proofs.Places.{nets_in-append}

-- ---- the clock ports of a cell

few_clocks : (k : Kind) → length (clocks_of k) ≤ 1
unfolding clocks_of
few_clocks Mem = lit≤ tt
few_clocks _ = lit≤ tt

few_ports : (o : Option Kind) → length (rows_by clocks_of o) ≤ 1
few_ports None = lit≤ tt
few_ports (Some k) = few_clocks k

only_port : (ports : List (List RawBit)) (d : List RawBit) → 0 < length ports → length ports ≤ 1 → get_or ports 0 d ≡ joined ports
only_port [] d l h = absurd (omega arith)
only_port (p ∷ []) d l h = sym (append-nil p)
only_port (p ∷ q ∷ ports) d l h = absurd (omega arith)

pub first_clock_port : (cell : RawCell) (ports : List (List RawBit)) (d : List RawBit) → ports ≡ bits_at clocks_of cell → 0 < length ports → get_or ports 0 d ≡ clock_bits cell
first_clock_port cell ports d each l =
    let rows = rows_by clocks_of (kind_of cell.kind) in
    let few : length rows ≤ 1 = few_ports (kind_of cell.kind) in
    let n : length ports ≡ length rows = ap length each ∙ length-map rows (port_bits cell) in
    only_port ports d l (omega arith) ∙ joined_is clocks_of cell ports each

no_port : (ports : List (List RawBit)) → length ports ≡ 0 → [] ≡ joined ports
no_port [] h = refl
no_port (p ∷ ports) h = absurd (omega arith)

pub no_clock_port : (cell : RawCell) (ports : List (List RawBit)) → ports ≡ bits_at clocks_of cell → length ports ≡ 0 → [] ≡ clock_bits cell
no_clock_port cell ports each h = no_port ports h ∙ joined_is clocks_of cell ports each

-- ---- the first use

first_of_some : (us vs : List ClockUse) (e : ClockEdge) → Some e ≡ first_edge us → Some e ≡ first_edge (us ++ vs)
first_of_some [] vs e h = absurd (cc)
first_of_some (u ∷ us) vs e h = h

first_of_none : (us vs : List ClockUse) → None ≡ first_edge us → first_edge (us ++ vs) ≡ first_edge vs
first_of_none [] vs h = refl
first_of_none (u ∷ us) vs h = absurd (cc)

pub edge_found : (cells : List RawCell) (i : ℕ) (c d : RawCell) (e : ClockEdge) → i < length cells → c ≡ get_or cells i d → Some e ≡ first_edge (uses_of c) → Some e ≡ first_edge (flat_map uses_of (drop i cells))
edge_found cells i c d e l q h =
    first_of_some (uses_of c) (flat_map uses_of (drop (i + 1) cells)) e h
    ∙ sym (at_drop_more (λ cs. first_edge (flat_map uses_of cs)) cells i d l ∙ ap (λ x. first_edge (uses_of x ++ flat_map uses_of (drop (i + 1) cells))) (sym q))

pub edge_step : (cells : List RawCell) (i : ℕ) (c d : RawCell) → i < length cells → c ≡ get_or cells i d → None ≡ first_edge (uses_of c) → first_edge (flat_map uses_of (drop (i + 1) cells)) ≡ first_edge (flat_map uses_of (drop i cells))
edge_step cells i c d l q h =
    sym (first_of_none (uses_of c) (flat_map uses_of (drop (i + 1) cells)) h)
    ∙ sym (at_drop_more (λ cs. first_edge (flat_map uses_of cs)) cells i d l ∙ ap (λ x. first_edge (uses_of x ++ flat_map uses_of (drop (i + 1) cells))) (sym q))

-- ---- net numbers among the bits of some ports

number_here : (ports : List (List RawBit)) (i x : ℕ) (d : List RawBit) → i < length ports → reads_number x (joined (drop i ports)) ≡ (reads_number x (get_or ports i d) || reads_number x (joined (drop (i + 1) ports)))
number_here ports i x d l =
    at_drop_more (λ ps. reads_number x (joined ps)) ports i d l
    ∙ ap (has_number x) (nets_in-append (get_or ports i d) (joined (drop (i + 1) ports)))
    ∙ list_any-append (λ y. y == x) (nets_in (get_or ports i d)) (nets_in (joined (drop (i + 1) ports)))

pub number_found : (ports : List (List RawBit)) (i x : ℕ) (port d bits : List RawBit) → i < length ports → port ≡ get_or ports i d → bits ≡ port → true ≡ reads_number x bits → true ≡ reads_number x (joined (drop i ports))
number_found ports i x port d bits l p b h =
    let at : reads_number x (get_or ports i d) ≡ true = sym (h ∙ ap (reads_number x) (b ∙ p)) in
    sym (number_here ports i x d l ∙ ap (λ t. t || reads_number x (joined (drop (i + 1) ports))) at)

pub number_missed : (ports : List (List RawBit)) (i x : ℕ) (port d bits : List RawBit) → i < length ports → port ≡ get_or ports i d → bits ≡ port → false ≡ reads_number x bits → reads_number x (joined (drop (i + 1) ports)) ≡ reads_number x (joined (drop i ports))
number_missed ports i x port d bits l p b h =
    let at : reads_number x (get_or ports i d) ≡ false = sym (h ∙ ap (reads_number x) (b ∙ p)) in
    sym (number_here ports i x d l ∙ ap (λ t. t || reads_number x (joined (drop (i + 1) ports))) at)

-- ---- the whole check

uses_checked : (raw : Raw) (us : List ClockUse) (e : ClockEdge) → Some e ≡ first_edge us → first_fault (edge_fault raw.ports e) us else_by data_fault raw e.bit ≡ uses_fault raw us
uses_checked raw [] e h = absurd (cc)
uses_checked raw (u ∷ us) e h = (let q : e ≡ record { bit = u.bit; polarity = u.polarity } = cc in ap (λ (x : ClockEdge). first_fault (edge_fault raw.ports x) (u ∷ us) else_by data_fault raw x.bit) q)

pub clocks_checked : (raw : Raw) (e : ClockEdge) → Some e ≡ first_edge (flat_map uses_of raw.cells) → edge_faults raw e ≡ clocks_fault raw
unfolding clocks_fault
clocks_checked raw e h = uses_checked raw (clock_uses raw) e h

none_checked : (raw : Raw) (us : List ClockUse) → None ≡ first_edge us → uses_fault raw us ≡ None
none_checked raw [] h = refl
none_checked raw (u ∷ us) h = absurd (cc)

pub no_clocks : (raw : Raw) → None ≡ first_edge (flat_map uses_of raw.cells) → clocks_fault raw ≡ None
unfolding clocks_fault
no_clocks raw h = none_checked raw (clock_uses raw) h
