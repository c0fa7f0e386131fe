-- What `init` attributes give for net numbers, digit by digit.
use Rattle.std.specs.Prelude.{ℕ, ◌+◌, ◌==◌, Bool, true, false, not, ◌&&◌, List, [], ◌∷◌, ◌++◌, map, fold, get_or, codes, position, Option, Some, None, option_to_list, if◌then◌else◌}
use Rattle.cif_defs.specs.RawModule.{value_named}
use Rattle.cif_defs.specs.Accepted.{init_at, init_all}
use Rattle.cif_defs.specs.declared.raw_module.ParamValue.{ParamValue}
use Rattle.cif_defs.specs.declared.raw_module.RawBit.{RawBit}
use Rattle.cif_defs.specs.declared.raw_module.RawBit.TheVariants.{Net, Zero, One, X, Z}
use Rattle.cif_defs.specs.declared.raw_module.RawName.{RawName}
use Rattle.cif_checks.specs.Checks.{◌else_by◌, fault_if}
use Rattle.cif_checks.specs.declared.fault.BuildFault.{BuildFault}
use Rattle.cif_checks.specs.declared.fault.BuildFault.TheVariants.{InitConflict}
use Rattle.cif_nets.specs.declared.inits.InitBit.{InitBit}
use Rattle.cif_nets.specs.declared.inits.InitBit.TheVariants.{Nothing, Digit, Both}

-- with one more digit
abbrev pub init_more : InitBit → Bool → InitBit
init_more Nothing d = Digit d
init_more (Digit true) d = if d then Digit true else Both true
init_more (Digit false) d = if d then Both false else Digit false
init_more (Both first) d = Both first

-- whether a digit is given
abbrev pub gives : InitBit → Bool → Bool
gives Nothing d = false
gives (Digit e) d = if d then e else not e
gives (Both first) d = true

-- the first digit that is given, or else 0
abbrev pub start_of : InitBit → Bool
start_of Nothing = false
start_of (Digit d) = d
start_of (Both first) = first

-- what the names of a module give for a net number
abbrev pub init_of : List RawName → ℕ → InitBit
init_of names x = fold init_more Nothing (init_all names x)

-- ---- the digits in order, each with its net number

abbrev pub told_bit : ParamValue → ℕ → RawBit → List (ℕ × Bool)
told_bit v i (Net y) = map (λ d. (y, d)) (option_to_list (init_at v i))
told_bit v i Zero = []
told_bit v i One = []
told_bit v i X = []
told_bit v i Z = []

-- by the bits of a name, from place i on
abbrev pub told_bits : ParamValue → ℕ → List RawBit → List (ℕ × Bool)
told_bits v i [] = []
told_bits v i (b ∷ bs) = told_bit v i b ++ told_bits v (i + 1) bs

abbrev pub told_by : List RawBit → Option ParamValue → List (ℕ × Bool)
told_by bits None = []
told_by bits (Some v) = told_bits v 0 bits

abbrev pub told_by_name : RawName → List (ℕ × Bool)
told_by_name n = told_by n.bits (value_named (codes "init") n.attributes)

-- ---- register bits

-- a number that is told of is marked
abbrev pub marked : Bool → Unit {0} → Bool
marked b u = true

abbrev pub named : List ℕ → List (ℕ × Unit {0})
named xs = map (λ x. (x, tt)) xs

-- the first number that is marked and has both digits
abbrev pub conflict_fault : List ℕ → List Bool → List InitBit → Option BuildFault
conflict_fault [] ms is = None
conflict_fault (n ∷ ns) [] is = None
conflict_fault (n ∷ ns) (m ∷ ms) [] = None
conflict_fault (n ∷ ns) (m ∷ ms) (i ∷ is) = fault_if (m && (gives i false && gives i true)) (InitConflict n) else_by conflict_fault ns ms is

abbrev pub start_at : List InitBit → Option ℕ → Bool
start_at inits None = false
start_at inits (Some i) = start_of (get_or inits i Nothing)

-- the bit with which an output bit starts, where inits says what is given for each number of ns
abbrev pub start_bit : List ℕ → List InitBit → RawBit → Bool
start_bit ns inits (Net x) = start_at inits (position (λ n. n == x) ns)
start_bit ns inits Zero = false
start_bit ns inits One = false
start_bit ns inits X = false
start_bit ns inits Z = false
