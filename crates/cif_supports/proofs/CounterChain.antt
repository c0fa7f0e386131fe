-- A worked example by computation: the way from the enable of the counter to bit 2 of q at cycle 4.
use Rattle.std.specs.Prelude.{ℕ, zero, suc, ◌<◌, ◌≡◌, ◌==◌, true, List, [], ◌∷◌, map, reverse, length, get_or, codes, find, Some, refl}
use Rattle.std.proofs.Common.{arith}
use Rattle.cif_defs.specs.Cells.{Cell, next_by, words_by}
use Rattle.cif_defs.specs.Completions.{can_differ}
use Rattle.cif_defs.specs.Netlist.{Netlist}
use Rattle.cif_defs.specs.Run.{driver_value, driver_value_at_depth_0, settled, state}
use Rattle.cif_defs.specs.Stimulus.{Stimulus, TaintedWord, cycle_line, set_line}
use Rattle.cif_defs.specs.TaintRun.{driver_taint, driver_taint_at_depth_0, settled_taint, taint_state}
use Rattle.cif_defs.specs.Words.{Word}
use Rattle.cif_defs.specs.declared.kinds.Kind.TheVariants.{Add, Sdffe, ScopeInfo}
use Rattle.cif_defs.specs.declared.kinds.Param.TheVariants.{ASigned, BSigned, AWidth, BWidth, YWidth, Width, EnPolarity, SrstPolarity, SrstValue}
use Rattle.cif_defs.specs.declared.nets.Src.TheVariants.{Bit, One}
use Rattle.cif_defs.specs.declared.nets.Driver.TheVariants.{Output, Register, Clock}
use Rattle.cif_defs.specs.declared.nets.Driver.TheVariants.{Input as ByInput}
use Rattle.cif_supports.specs.declared.places.Place.TheVariants.{Input, State, Out}
use Rattle.cif_supports.specs.declared.places.Member.{Member}
use Rattle.cif_supports.specs.Places.{is_tainted}
use Rattle.cif_supports.specs.Supports.{bits_read, shown_support, stored_support}
use Rattle.cif_supports.specs.Chains.{IsFirstChain, at_cycle, no_member, is_tainted_member, support, support_of}
use Rattle.cif_supports.proofs.Lists.{first_is_contained}

abbrev bits : List ℕ → Word
bits cs = map (λ c. c == 49) (reverse cs)

-- net bits: 0 clk, 1 rst, 2 en, 3 to 6 q, 7 to 10 the sum
abbrev adder : Cell
adder = record {
  name = codes "$add$c.v:7$2";
  kind = Add;
  numbers = (ASigned, 0) ∷ (BSigned, 0) ∷ (AWidth, 4) ∷ (BWidth, 1) ∷ (YWidth, 4) ∷ [];
  digits = [];
  operands = (Bit 3 ∷ Bit 4 ∷ Bit 5 ∷ Bit 6 ∷ []) ∷ (One ∷ []) ∷ [];
  outputs = (Some 7 ∷ Some 8 ∷ Some 9 ∷ Some 10 ∷ []) ∷ [];
}

abbrev keeper : Cell
keeper = record {
  name = codes "$procdff$4";
  kind = Sdffe;
  numbers = (Width, 4) ∷ (EnPolarity, 1) ∷ (SrstPolarity, 1) ∷ [];
  digits = (SrstValue, bits (codes "0000")) ∷ [];
  operands = (Bit 7 ∷ Bit 8 ∷ Bit 9 ∷ Bit 10 ∷ []) ∷ (Bit 2 ∷ []) ∷ (Bit 1 ∷ []) ∷ [];
  outputs = (Some 3 ∷ Some 4 ∷ Some 5 ∷ Some 6 ∷ []) ∷ [];
}

abbrev scope : Cell
scope = record { name = codes "u0"; kind = ScopeInfo; numbers = []; digits = []; operands = []; outputs = [] }

abbrev counter : Netlist
counter = record {
  inputs = (record { name = codes "clk"; bits = Bit 0 ∷ [] }) ∷ (record { name = codes "en"; bits = Bit 2 ∷ [] }) ∷ (record { name = codes "rst"; bits = Bit 1 ∷ [] }) ∷ [];
  outputs = (record { name = codes "q"; bits = Bit 3 ∷ Bit 4 ∷ Bit 5 ∷ Bit 6 ∷ [] }) ∷ [];
  cells = adder ∷ keeper ∷ scope ∷ [];
  drivers = Clock ∷ ByInput 2 0 ∷ ByInput 1 0 ∷ Register 1 0 ∷ Register 1 1 ∷ Register 1 2 ∷ Register 1 3 ∷ Output 0 0 0 ∷ Output 0 0 1 ∷ Output 0 0 2 ∷ Output 0 0 3 ∷ [];
  initial = [] ∷ bits (codes "0000") ∷ [] ∷ [];
}

abbrev mark : List ℕ → List ℕ → TaintedWord
mark v t = record { value = bits v; taint = bits t }

-- the enable is 1, and tainted in cycle 2
abbrev counting : Stimulus
counting = record {
  cycles = 5;
  lines =
      cycle_line 0 ∷ set_line (codes "en") (mark (codes "1") (codes "0")) ∷
      cycle_line 2 ∷ set_line (codes "en") (mark (codes "1") (codes "1")) ∷
      cycle_line 3 ∷ set_line (codes "en") (mark (codes "1") (codes "0")) ∷ [];
}

abbrev way : List Member
way =
    at_cycle 2 (Input 1 0) ∷ at_cycle 3 (State 1 0) ∷ at_cycle 3 (Out 1 0 0) ∷
    at_cycle 3 (Out 0 0 2) ∷ at_cycle 4 (State 1 2) ∷ at_cycle 4 (Out 1 0 2) ∷ []

-- the sum's bit 2 at cycle 3 has the first three bits of q as its support; 1 on its other side is no net bit
sum_support : support_of counter counting (at_cycle 3 (Out 0 0 2)) ≡ at_cycle 3 (Out 1 0 0) ∷ at_cycle 3 (Out 1 0 1) ∷ at_cycle 3 (Out 1 0 2) ∷ []
unfolding support shown_support bits_read
sum_support = refl

-- what q stores has the sum, the enable, the reset and its own bit a cycle before
stored_support_is : support_of counter counting (at_cycle 4 (State 1 2)) ≡ at_cycle 3 (Out 0 0 2) ∷ at_cycle 3 (Input 1 0) ∷ at_cycle 3 (Input 2 0) ∷ at_cycle 3 (State 1 2) ∷ []
unfolding support stored_support
stored_support_is = refl

all_tainted : (j : ℕ) → j < length way → is_tainted_member counter counting (get_or way j no_member) ≡ true
unfolding is_tainted words_by next_by can_differ driver_value driver_value_at_depth_0 settled state driver_taint driver_taint_at_depth_0 settled_taint taint_state
all_tainted zero h = refl
all_tainted (suc zero) h = refl
all_tainted (suc (suc zero)) h = refl
all_tainted (suc (suc (suc zero))) h = refl
all_tainted (suc (suc (suc (suc zero)))) h = refl
all_tainted (suc (suc (suc (suc (suc zero))))) h = refl
all_tainted (suc (suc (suc (suc (suc (suc j)))))) h = absurd (omega arith)

takes_first : (j : ℕ) → suc j < length way → find (is_tainted_member counter counting) (support_of counter counting (get_or way (suc j) no_member)) ≡ Some (get_or way j no_member)
unfolding support shown_support stored_support bits_read is_tainted words_by next_by can_differ driver_value driver_value_at_depth_0 settled state driver_taint driver_taint_at_depth_0 settled_taint taint_state
takes_first zero h = refl
takes_first (suc zero) h = refl
takes_first (suc (suc zero)) h = refl
takes_first (suc (suc (suc zero))) h = refl
takes_first (suc (suc (suc (suc zero)))) h = refl
takes_first (suc (suc (suc (suc (suc j))))) h = absurd (omega arith)

-- the chain from the enable in cycle 2, which explains bit 2 of q at cycle 4
explain_counter : IsFirstChain counter counting 5 4 way
explain_counter = record {
  is_chain = record {
    not_empty = omega arith;
    tainted = all_tainted;
    begins = refl;
    follows = λ j l. (first_is_contained (is_tainted_member counter counting) (support_of counter counting (get_or way (suc j) no_member)) (get_or way j no_member) (takes_first j l)).0;
    ends_at = refl;
    ends = refl;
  };
  takes_first = takes_first;
}
