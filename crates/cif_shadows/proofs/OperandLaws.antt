-- The operands of a cell as they are connected and as they are read.
use Rattle.std.specs.Prelude.{ℕ, ◌+◌, ◌<◌, ◌≤◌, ◌≡◌, List, [], ◌∷◌, ◌++◌, length, map, get_or, take, Option, Some, None, refl}
use Rattle.std.proofs.Common.{arith, ap, sym, ◌∙◌}
use Rattle.std.proofs.lemmas.List.{get_or_default, length-map, map_more, map_push, take_all, take_more}
use Rattle.cif_defs.specs.Accepted.{cell_by, cell_of, source}
use Rattle.cif_defs.specs.RawModule.{port_bits}
use Rattle.cif_defs.specs.Table.{kind_of, operands_of}
use Rattle.cif_defs.specs.declared.kinds.Kind.{Kind}
use Rattle.cif_defs.specs.declared.kinds.PortRow.{PortRow}
use Rattle.cif_defs.specs.declared.nets.Src.{Src}
use Rattle.cif_defs.specs.declared.raw_module.RawBit.{RawBit}
use Rattle.cif_defs.specs.declared.raw_module.RawBit.TheVariants.{Net, Zero, One, X, Z}
use Rattle.cif_defs.specs.declared.raw_module.RawCell.{RawCell}
use Rattle.cif_checks.specs.Known.{bits_at, rows_by}
use Rattle.cif_emit.specs.Emitted.{value_bits}
use Rattle.cif_emit.specs.Emitted.{taint_bits as taints_among}
use Rattle.cif_emit.specs.declared.terms.OperandPair.{OperandPair}
use Rattle.cif_built.specs.Makings.{taint_bit, taint_bits}
use Rattle.cif_shadows.specs.Tables.{ShadowTable, shadow_in, taint_of_source}

-- ---- the taint of a bit that is read is that of its number

number_taint : (ns : List ℕ) (t : ShadowTable) (bit : RawBit) → taint_of_source t (source ns bit) ≡ taint_bit (shadow_in ns t) bit
number_taint ns t (Net x) = refl
number_taint ns t Zero = refl
number_taint ns t One = refl
number_taint ns t X = refl
number_taint ns t Z = refl

number_taints : (ns : List ℕ) (t : ShadowTable) (bits : List RawBit) → map (taint_of_source t) (map (source ns) bits) ≡ taint_bits (shadow_in ns t) bits
number_taints ns t [] = refl
number_taints ns t (b ∷ bits) = ap (λ (x : RawBit). x ∷ map (taint_of_source t) (map (source ns) bits)) (number_taint ns t b) ∙ ap (λ (xs : List RawBit). taint_bit (shadow_in ns t) b ∷ xs) (number_taints ns t bits)

pub taints_by_numbers : (ns : List ℕ) (t : ShadowTable) (bits : List RawBit) (sources : List Src) (taints : List RawBit) → taints ≡ map (taint_of_source t) sources → sources ≡ map (source ns) bits → taints ≡ taint_bits (shadow_in ns t) bits
taints_by_numbers ns t bits sources taints are is = are ∙ ap (map (taint_of_source t)) is ∙ number_taints ns t bits

-- ---- the operands of a cell

-- what is read at some ports
abbrev sources_at : List ℕ → RawCell → List PortRow → List (List Src)
sources_at ns c rows = map (λ (r : PortRow). map (source ns) (port_bits c r)) rows

operands_by : (ns : List ℕ) (c : RawCell) (o : Option Kind) → (cell_by ns c o).operands ≡ sources_at ns c (rows_by operands_of o)
operands_by ns c None = refl
operands_by ns c (Some k) = refl

operands_are : (ns : List ℕ) (c : RawCell) → (cell_of ns c).operands ≡ sources_at ns c (rows_by operands_of (kind_of c.kind))
unfolding cell_of
operands_are ns c = operands_by ns c (kind_of c.kind)

-- what is connected at the operands is as much as what is read there
as_many : (ns : List ℕ) (c : RawCell) (ports : List (List RawBit)) (operands : List (List Src)) → ports ≡ bits_at operands_of c → operands ≡ (cell_of ns c).operands → length operands ≡ length ports
as_many ns c ports operands connected read =
    ap length (read ∙ operands_are ns c) ∙ length-map (rows_by operands_of (kind_of c.kind)) (λ (r : PortRow). map (source ns) (port_bits c r))
    ∙ sym (length-map (rows_by operands_of (kind_of c.kind)) (port_bits c)) ∙ ap length (sym connected)

-- the taints of all that is read at some ports
abbrev pub all_taints : ShadowTable → List (List Src) → List (List RawBit)
all_taints t operands = map (λ (sources : List Src). map (taint_of_source t) sources) operands

taints_at : (ns : List ℕ) (t : ShadowTable) (c : RawCell) (rows : List PortRow) → all_taints t (sources_at ns c rows) ≡ map (taint_bits (shadow_in ns t)) (map (port_bits c) rows)
taints_at ns t c [] = refl
taints_at ns t c (r ∷ rows) =
    ap (λ (xs : List RawBit). xs ∷ all_taints t (sources_at ns c rows)) (number_taints ns t (port_bits c r))
    ∙ ap (λ (xs : List (List RawBit)). taint_bits (shadow_in ns t) (port_bits c r) ∷ xs) (taints_at ns t c rows)

operand_taints : (ns : List ℕ) (t : ShadowTable) (c : RawCell) (k : Kind) (operands : List (List Src)) → kind_of c.kind ≡ Some k → operands ≡ (cell_of ns c).operands
    → all_taints t operands ≡ map (taint_bits (shadow_in ns t)) (map (port_bits c) (operands_of k))
operand_taints ns t c k operands is read =
    ap (all_taints t) (read ∙ operands_are ns c ∙ ap (λ (o : Option Kind). sources_at ns c (rows_by operands_of o)) is) ∙ taints_at ns t c (operands_of k)

-- what is read of a list within a loop
pub read_at : {A : Type 0} (xs ys : List A) (i : ℕ) (x y d : A) → i < length xs → x ≡ y → y ≡ get_or xs i y → xs ≡ ys → x ≡ get_or ys i d
read_at xs ys i x y d l e read same = e ∙ read ∙ get_or_default xs i y d l ∙ ap (λ zs. get_or zs i d) same

-- the first i operands are copied with their taints
pub record AreCopied (ports : List (List RawBit)) (operands : List (List Src)) (t : ShadowTable) (i : ℕ) (pairs : List OperandPair) : Type 0 where
  pub as_many : length operands ≡ length ports
  pub values : value_bits pairs ≡ take i ports
  pub taints : taints_among pairs ≡ all_taints t (take i operands)

pub none_copied : (ns : List ℕ) (c : RawCell) (ports : List (List RawBit)) (operands : List (List Src)) (t : ShadowTable) (pairs : List OperandPair) → ports ≡ bits_at operands_of c → operands ≡ (cell_of ns c).operands → pairs ≡ [] → AreCopied ports operands t 0 pairs
none_copied ns c ports operands t pairs connected read none = record {
  as_many = as_many ns c ports operands connected read;
  values = ap value_bits none;
  taints = ap taints_among none;
}

pub copied_more : (ports : List (List RawBit)) (operands : List (List Src)) (t : ShadowTable) (i : ℕ) (pairs new : List OperandPair) (o : OperandPair) → i < length ports → new ≡ pairs ++ o ∷ []
    → o.values ≡ get_or ports i [] → o.taints ≡ map (taint_of_source t) (get_or operands i []) → AreCopied ports operands t i pairs → AreCopied ports operands t (i + 1) new
copied_more ports operands t i pairs new o l pushed values taints before = record {
  as_many = before.as_many;
  values =
      ap value_bits pushed ∙ map_push (λ (p : OperandPair). p.values) pairs o ∙ ap (λ (xs : List (List RawBit)). xs ++ o.values ∷ []) before.values ∙ ap (λ (x : List RawBit). take i ports ++ x ∷ []) values ∙ sym (take_more ports i [] l);
  taints =
      ap taints_among pushed ∙ map_push (λ (p : OperandPair). p.taints) pairs o ∙ ap (λ (xs : List (List RawBit)). xs ++ o.taints ∷ []) before.taints ∙ ap (λ (x : List RawBit). all_taints t (take i operands) ++ x ∷ []) taints
      ∙ sym (map_more (λ (sources : List Src). map (taint_of_source t) sources) operands i [] (omega (arith, before.as_many)));
}

pub all_copied : (ns : List ℕ) (t : ShadowTable) (c : RawCell) (k : Kind) (operands : List (List Src)) (ports : List (List RawBit)) (pairs : List OperandPair) (i : ℕ) → kind_of c.kind ≡ Some k → operands ≡ (cell_of ns c).operands
    → length ports ≤ i → AreCopied ports operands t i pairs → taints_among pairs ≡ map (taint_bits (shadow_in ns t)) (map (port_bits c) (operands_of k))
all_copied ns t c k operands ports pairs i is read past all = all.taints ∙ ap (all_taints t) (take_all i operands (omega (arith, all.as_many))) ∙ operand_taints ns t c k operands is read
