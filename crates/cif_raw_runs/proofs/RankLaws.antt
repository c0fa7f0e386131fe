-- From ranks of the cells to ranks of the net bits; a netlist with an order has them, and one with a loop doesn't.
use Rattle.std.specs.Prelude.{ℕ, ◌<◌, ◌≤◌, ◌≡◌, ◌==◌, true, List, [], ◌∷◌, length, Some, refl}
use Rattle.std.proofs.Common.{arith, ap, ◌∙◌}
use Rattle.std.proofs.lemmas.Bool.Decides.{nat_tests}
use Rattle.cif_defs.specs.Cells.{reset_operand}
use Rattle.cif_defs.specs.Order.{IsInOrder}
use Rattle.cif_defs.specs.Accepted.{netlist_of}
use Rattle.cif_defs.specs.declared.raw_module.Raw.{Raw}
use Rattle.cif_defs.specs.Loop.{DrivesAlong, IsLevelled, IsLoop, counts, is_passing}
use Rattle.cif_defs.specs.Netlist.{IsWired, Netlist, cell_at, driver_of, operand_at, output_at, role_at}
use Rattle.cif_defs.specs.declared.kinds.Role.{Role}
use Rattle.cif_defs.specs.declared.kinds.Role.TheVariants.{CarriedOver, Combinational, MemoryBlock, PlainRegister, ResetRegister}
use Rattle.cif_defs.specs.declared.nets.Driver.{Driver}
use Rattle.cif_defs.specs.declared.nets.Driver.TheVariants.{Input, Output, Register, Read, Clock}
use Rattle.cif_defs.specs.declared.nets.Src.TheVariants.{Bit}
use Rattle.cif_defs.proofs.Levels.{IsRanked, driver_rank, rank_of, register_rank}
use Rattle.cif_defs.proofs.Orders.{driver_before, has_place, length-order, place_in}
use Rattle.cif_checks.specs.Checks.{IsWellFormed}
use Rattle.cif_raw_runs.specs.Ranks.{AreRanks, IsRunnable}

-- ---- ranks of the net bits

reset_rank : (n : Netlist) (r : ℕ → ℕ) (b c i d q j : ℕ) (role : Role) → role_at n c ≡ role → AreRanks n r → output_at (cell_at n c) 0 i ≡ Some b
    → operand_at (cell_at n d) q j ≡ Bit b → counts (role_at n d) (cell_at n d) q ≡ true → register_rank role (r c) ≤ r d
reset_rank n r b c i d q j ResetRegister e h p f k = h.rise c d (record { passing = ap is_passing e; output = 0; from = i; operand = q; to = j; net = b; is_output = p; is_operand = f; operand_counts = k })
reset_rank n r b c i d q j Combinational e h p f k = omega arith
reset_rank n r b c i d q j PlainRegister e h p f k = omega arith
reset_rank n r b c i d q j MemoryBlock e h p f k = omega arith
reset_rank n r b c i d q j CarriedOver e h p f k = omega arith

-- what drives a bit that counts ranks at most as its reader
operand_rank : (n : Netlist) (r : ℕ → ℕ) (b d q j : ℕ) (g : Driver) → driver_of n b ≡ g → IsWired n → AreRanks n r
    → operand_at (cell_at n d) q j ≡ Bit b → counts (role_at n d) (cell_at n d) q ≡ true → driver_rank n r g ≤ r d
operand_rank n r b d q j (Input p i) e w h f k = omega arith
operand_rank n r b d q j Clock e w h f k = omega arith
operand_rank n r b d q j (Output c p i) e w h f k =
    h.rise c d (record { passing = ap is_passing (w.output_role b c p i e); output = p; from = i; operand = q; to = j; net = b; is_output = w.output_place b c p i e; is_operand = f; operand_counts = k })
operand_rank n r b d q j (Read c p i) e w h f k =
    h.rise c d (record { passing = ap is_passing (w.read_role b c p i e); output = 0; from = _; operand = q; to = j; net = b; is_output = (w.read_place b c p i e).1; is_operand = f; operand_counts = k })
operand_rank n r b d q j (Register c i) e w h f k = reset_rank n r b c i d q j (role_at n c) refl h (w.register_place b c i e) f k

counts_reset : (k : ℕ) → (k == k) ≡ true
counts_reset k = grind (arith, nat_tests)

pub ranked : (n : Netlist) (r : ℕ → ℕ) → IsWired n → AreRanks n r → IsRanked n r
ranked n r w h = record {
  by_cell = λ c q j b role f. operand_rank n r b c q j (driver_of n b) refl w h f (ap (λ x. counts x (cell_at n c) q) role);
  by_memory = λ c j b f role. operand_rank n r b c 0 j (driver_of n b) refl w h f (ap (λ x. counts x (cell_at n c) 0) role);
  by_reset = λ c j b f role. operand_rank n r b c (reset_operand (cell_at n c).kind) j (driver_of n b) refl w h f
      (ap (λ x. counts x (cell_at n c) (reset_operand (cell_at n c).kind)) role ∙ counts_reset (reset_operand (cell_at n c).kind));
  output_role = w.output_role;
  read_role = w.read_role;
}

register_low : (n : Netlist) (r : ℕ → ℕ) (c : ℕ) (role : Role) → role_at n c ≡ role → AreRanks n r → register_rank role (r c) ≤ length n.cells
register_low n r c ResetRegister e h = h.low c (ap is_passing e)
register_low n r c Combinational e h = omega arith
register_low n r c PlainRegister e h = omega arith
register_low n r c MemoryBlock e h = omega arith
register_low n r c CarriedOver e h = omega arith

driver_low : (n : Netlist) (r : ℕ → ℕ) (b : ℕ) (g : Driver) → driver_of n b ≡ g → IsWired n → AreRanks n r → driver_rank n r g ≤ length n.cells
driver_low n r b (Input p i) e w h = omega arith
driver_low n r b Clock e w h = omega arith
driver_low n r b (Output c p i) e w h = h.low c (ap is_passing (w.output_role b c p i e))
driver_low n r b (Read c p i) e w h = h.low c (ap is_passing (w.read_role b c p i e))
driver_low n r b (Register c i) e w h = register_low n r c (role_at n c) refl h

-- none passes the number of cells
pub ranks_low : (n : Netlist) (r : ℕ → ℕ) → IsWired n → AreRanks n r → (b : ℕ) → rank_of n r b ≤ length n.cells
ranks_low n r w h b = driver_low n r b (driver_of n b) refl w h

-- ---- an order gives ranks

passing_by : (role : Role) (n : Netlist) (d q : ℕ) → counts role (cell_at n d) q ≡ true → is_passing role ≡ true
passing_by Combinational n d q h = refl
passing_by MemoryBlock n d q h = refl
passing_by ResetRegister n d q h = refl
passing_by PlainRegister n d q h = absurd (cc)
passing_by CarriedOver n d q h = absurd (cc)

pub ranks_from_order : (n : Netlist) (order : List ℕ) → IsWired n → IsLevelled n order → AreRanks n (place_in order)
ranks_from_order n order w o = record {
  rise = λ c d v. driver_before n order c d o (passing_by (role_at n d) n d v.operand v.operand_counts) v;
  low = λ c p. (let inside : place_in order c < length order = (has_place n order c o p).0 in let few : length order ≤ length n.cells = length-order n order o in omega arith);
}

-- ---- a loop leaves no ranks

along : (n : Netlist) (r : ℕ → ℕ) (e c : ℕ) (cells : List ℕ) → AreRanks n r → DrivesAlong n e (c ∷ cells) → r c < r e
along n r e c [] h v = h.rise c e v
along n r e c (d ∷ cells) h v = (let first : r c < r d = h.rise c d v.0 in let rest : r d < r e = along n r e d cells h v.1 in omega arith)

pub no_loop : (n : Netlist) (r : ℕ → ℕ) (cells : List ℕ) → AreRanks n r → IsLoop n cells → ⊥
no_loop n r [] h l = absurd (let q : 0 < 0 = l.not_empty in omega arith)
no_loop n r (c ∷ cells) h l = absurd (let less : r c < r c = along n r c c cells h l.closed in omega arith)

-- ---- modules that have runs

pub runnable : (raw : Raw) (order : List ℕ) → IsWellFormed raw → IsInOrder raw → IsWired (netlist_of raw) → IsLevelled (netlist_of raw) order → IsRunnable raw (place_in order)
runnable raw order form in_order wired levelled = record { form = form; in_order = in_order; wired = wired; ranks = ranks_from_order (netlist_of raw) order wired levelled }
