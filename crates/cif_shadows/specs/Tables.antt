-- Which bit holds the taint of each net bit, as a table by net bit.
use Rattle.std.specs.Prelude.{ℕ, ◌<◌, ◌≡◌, Bool, true, false, ◌||◌, List, map, length, get_or, Contains, Option, Some, None}
use Rattle.std.specs.List.{flat_map}
use Rattle.cif_defs.specs.Cells.{Cell}
use Rattle.cif_defs.specs.Accepted.{is_clock, place_of}
use Rattle.cif_defs.specs.RawModule.{net_numbers}
use Rattle.cif_defs.specs.declared.nets.Src.{Src}
use Rattle.cif_defs.specs.declared.nets.Src.TheVariants.{Bit, Zero, One}
use Rattle.cif_defs.specs.declared.raw_module.RawBit.{RawBit}
use Rattle.cif_defs.specs.declared.raw_module.RawBit.TheVariants.{Zero as ZeroBit}
use Rattle.cif_defs.specs.declared.raw_module.Raw.{Raw}
use Rattle.cif_built.specs.Built.{is_cleared}

-- the bits that hold the taints, and which net bits have none: these are barred
pub record ShadowTable : Type 0 where
  pub bits : List RawBit
  pub barred : List Bool

-- a barred net bit keeps the constant 0
pub record IsShadowTable (t : ShadowTable) : Type 0 where
  pub as_many : length t.barred ≡ length t.bits
  pub none : (b : ℕ) → get_or t.barred b false ≡ true → get_or t.bits b ZeroBit ≡ ZeroBit

-- the bit that holds the taint of a net number, where ns are the net numbers of the module
abbrev pub shadow_in : List ℕ → ShadowTable → ℕ → RawBit
shadow_in ns t x = get_or t.bits (place_of ns x) ZeroBit

-- whether the taint of a net number is held nowhere
abbrev pub barred_in : List ℕ → ShadowTable → ℕ → Bool
barred_in ns t x = get_or t.barred (place_of ns x) false

-- the bit that holds the taint of a bit that is read: a constant has none
abbrev pub taint_of_source : ShadowTable → Src → RawBit
taint_of_source t (Bit b) = get_or t.bits b ZeroBit
taint_of_source t Zero = ZeroBit
taint_of_source t One = ZeroBit

-- whether the taint of a net number of n is held nowhere: it is released, or the clock
abbrev pub is_barred : Raw → List ℕ → ℕ → Bool
is_barred n released x = is_cleared n released x || is_clock n x

-- a table for module n, whatever taints it holds
pub record IsTableFor (n : Raw) (released : List ℕ) (t : ShadowTable) : Type 0 where
  pub as_many : length t.bits ≡ length (net_numbers n)
  pub barred : (x : ℕ) → Contains (net_numbers n) x → barred_in (net_numbers n) t x ≡ is_barred n released x

-- one in which no taint is held yet
pub record IsBegun (n : Raw) (released : List ℕ) (t : ShadowTable) : Type 0 where
  pub table : IsTableFor n released t
  pub none : (b : ℕ) → get_or t.bits b ZeroBit ≡ ZeroBit

-- the net bits that the outputs of a cell drive, output by output, and those that stand at an input port
abbrev pub output_targets : Cell → List (Option ℕ)
output_targets c = flat_map (λ (targets : List (Option ℕ)). targets) c.outputs

abbrev pub target_of_source : Src → Option ℕ
target_of_source (Bit b) = Some b
target_of_source Zero = None
target_of_source One = None

abbrev pub input_targets : List Src → List (Option ℕ)
input_targets sources = map target_of_source sources

-- the net bits among some targets took these bits, but for barred ones; all others are as they were
pub record AreSet (targets : List (Option ℕ)) (bits : List RawBit) (before after : ShadowTable) : Type 0 where
  pub barred : after.barred ≡ before.barred
  pub as_many : length after.bits ≡ length before.bits
  pub there : (i b : ℕ) → get_or targets i None ≡ Some b → get_or before.barred b false ≡ false → get_or after.bits b ZeroBit ≡ get_or bits i ZeroBit
  pub elsewhere : (b : ℕ) → ¬ Contains targets (Some b) → get_or after.bits b ZeroBit ≡ get_or before.bits b ZeroBit

-- no net bit stands twice among some targets, and all are below a limit
pub record AreTargets (limit : ℕ) (targets : List (Option ℕ)) : Type 0 where
  pub once : (i j b : ℕ) → get_or targets i None ≡ Some b → get_or targets j None ≡ Some b → i ≡ j
  pub below : (i b : ℕ) → get_or targets i None ≡ Some b → b < limit
