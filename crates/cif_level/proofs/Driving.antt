-- Feeders and driving: where the drivers are wired, the cells that feed a cell are those that drive it.
use Rattle.std.specs.Prelude.{ℕ, ◌+◌, ◌*◌, ◌/◌, ◌%◌, ◌<◌, ◌≡◌, Bool, true, false, Option, Some, None, refl}
use Rattle.std.proofs.Common.{arith, sym, ap, subst, ◌∙◌, cond, inr}
use Rattle.cif_defs.specs.Cells.{width}
use Rattle.cif_defs.specs.Loop.{Drives, is_passing, counts}
use Rattle.cif_defs.specs.Netlist.{Netlist, IsWired, cell_at, driver_of, role_at, output_at, operand_at}
use Rattle.cif_defs.specs.declared.kinds.Role.{Role}
use Rattle.cif_defs.specs.declared.kinds.Role.TheVariants.{Combinational, PlainRegister, ResetRegister, MemoryBlock, CarriedOver}
use Rattle.cif_defs.specs.declared.nets.Src.{Src}
use Rattle.cif_defs.specs.declared.nets.Src.TheVariants.{Bit, Zero, One}
use Rattle.cif_defs.specs.declared.nets.Driver.{Driver}
use Rattle.cif_defs.specs.declared.nets.Driver.TheVariants.{Input, Output, Register, Read, Clock}
use Rattle.cif_defs.proofs.Orders.{in_range}
use Rattle.std.specs.Prelude.{length}
use Rattle.cif_level.specs.Feeding.{feeder_by, feeder_of, feeder_at}

some_if : (t : Bool) (c x : ℕ) → cond t (Some c) None ≡ Some x → (t ≡ true) × (c ≡ x)
some_if true c x h = (refl, cc)
some_if false c x h = absurd (cc)

-- ---- a feeder drives

by_drives : (n : Netlist) (b : ℕ) (g : Driver) (d p i x : ℕ) → driver_of n b ≡ g → IsWired n → operand_at (cell_at n d) p i ≡ Bit b → counts (role_at n d) (cell_at n d) p ≡ true → feeder_by n g ≡ Some x → Drives n x d
by_drives n b (Input q j) d p i x e w o k h = absurd (cc)
by_drives n b Clock d p i x e w o k h = absurd (cc)
by_drives n b (Output c q j) d p i x e w o k h =
    let same : c ≡ x = cc in
    let found : Drives n c d = record { passing = ap is_passing (w.output_role b c q j e); output = q; from = j; operand = p; to = i; net = b; is_output = w.output_place b c q j e; is_operand = o; operand_counts = k } in
    subst (λ (y : ℕ). Drives n y d) same found
by_drives n b (Read c r j) d p i x e w o k h =
    let same : c ≡ x = cc in
    let found : Drives n c d = record { passing = ap is_passing (w.read_role b c r j e); output = 0; from = _; operand = p; to = i; net = b; is_output = (w.read_place b c r j e).1; is_operand = o; operand_counts = k } in
    subst (λ (y : ℕ). Drives n y d) same found
by_drives n b (Register c j) d p i x e w o k h =
    let both : (is_passing (role_at n c) ≡ true) × (c ≡ x) = some_if (is_passing (role_at n c)) c x h in
    let found : Drives n c d = record { passing = both.0; output = 0; from = j; operand = p; to = i; net = b; is_output = w.register_place b c j e; is_operand = o; operand_counts = k } in
    subst (λ (y : ℕ). Drives n y d) both.1 found

source_drives : (n : Netlist) (s : Src) (d p i x : ℕ) → IsWired n → operand_at (cell_at n d) p i ≡ s → counts (role_at n d) (cell_at n d) p ≡ true → feeder_of n s ≡ Some x → Drives n x d
unfolding feeder_of
source_drives n (Bit b) d p i x w o k h = by_drives n b (driver_of n b) d p i x refl w o k h
source_drives n Zero d p i x w o k h = absurd (cc)
source_drives n One d p i x w o k h = absurd (cc)

if_some : (t : Bool) (o : Option ℕ) (x : ℕ) → cond t o None ≡ Some x → (t ≡ true) × (o ≡ Some x)
if_some true o x h = (refl, h)
if_some false o x h = absurd (cc)

-- what feeds a cell drives it
pub feeder_drives : (n : Netlist) (d p i x : ℕ) → IsWired n → feeder_at n d p i ≡ Some x → Drives n x d
unfolding feeder_at
feeder_drives n d p i x w h =
    let both : (counts (role_at n d) (cell_at n d) p ≡ true) × (feeder_of n (operand_at (cell_at n d) p i) ≡ Some x) =
    if_some (counts (role_at n d) (cell_at n d) p) (feeder_of n (operand_at (cell_at n d) p i)) x h in
    source_drives n (operand_at (cell_at n d) p i) d p i x w refl both.0 both.1

-- ---- feeders are cells

by_passes : (n : Netlist) (b : ℕ) (g : Driver) (x : ℕ) → driver_of n b ≡ g → IsWired n → feeder_by n g ≡ Some x → is_passing (role_at n x) ≡ true
by_passes n b (Input q j) x e w h = absurd (cc)
by_passes n b Clock x e w h = absurd (cc)
by_passes n b (Output c q j) x e w h = let same : c ≡ x = cc in ap (λ (y : ℕ). is_passing (role_at n y)) (sym same) ∙ ap is_passing (w.output_role b c q j e)
by_passes n b (Read c r j) x e w h = let same : c ≡ x = cc in ap (λ (y : ℕ). is_passing (role_at n y)) (sym same) ∙ ap is_passing (w.read_role b c r j e)
by_passes n b (Register c j) x e w h =
    let both : (is_passing (role_at n c) ≡ true) × (c ≡ x) = some_if (is_passing (role_at n c)) c x h in
    ap (λ (y : ℕ). is_passing (role_at n y)) (sym both.1) ∙ both.0

feeder_passes : (n : Netlist) (s : Src) (x : ℕ) → IsWired n → feeder_of n s ≡ Some x → is_passing (role_at n x) ≡ true
unfolding feeder_of
feeder_passes n (Bit b) x w h = by_passes n b (driver_of n b) x refl w h
feeder_passes n Zero x w h = absurd (cc)
feeder_passes n One x w h = absurd (cc)

pub feeder_in_range : (n : Netlist) (s : Src) (x : ℕ) → IsWired n → feeder_of n s ≡ Some x → x < length n.cells
feeder_in_range n s x w h = in_range n x (feeder_passes n s x w h)

-- ---- what drives a cell feeds it

-- a register or memory has one output, and a memory's words have bits
pub record HasOneOutput (n : Netlist) : Type 0 where
  pub only : (c p i b : ℕ) → (role_at n c ≡ Combinational → ⊥) → output_at (cell_at n c) p i ≡ Some b → p ≡ 0
  pub has_bits : (c : ℕ) → role_at n c ≡ MemoryBlock → 0 < width (cell_at n c)

driven_at_0 : (n : Netlist) (c p i b : ℕ) → p ≡ 0 → output_at (cell_at n c) p i ≡ Some b → output_at (cell_at n c) 0 i ≡ Some b
driven_at_0 n c p i b e h = subst (λ (q : ℕ). output_at (cell_at n c) q i ≡ Some b) e h

by_role : (n : Netlist) (x d : ℕ) (role : Role) (v : Drives n x d) → role_at n x ≡ role → IsWired n → HasOneOutput n → feeder_by n (driver_of n v.net) ≡ Some x
by_role n x d Combinational v e w o = ap (feeder_by n) (w.by_output x v.output v.from v.net e v.is_output)
by_role n x d ResetRegister v e w o =
    let at_0 : v.output ≡ 0 = o.only x v.output v.from v.net (λ f. absurd (cc)) v.is_output in
    let named : driver_of n v.net ≡ Register x v.from = w.by_register x v.from v.net (inr e) (driven_at_0 n x v.output v.from v.net at_0 v.is_output) in
    ap (feeder_by n) named ∙ ap (λ (t : Bool). cond t (Some x) None) v.passing
by_role n x d MemoryBlock v e w o =
    let at_0 : v.output ≡ 0 = o.only x v.output v.from v.net (λ f. absurd (cc)) v.is_output in
    let wide : 0 < width (cell_at n x) = o.has_bits x e in
    let k : ℕ = width (cell_at n x) in
    let parts : (v.from / k) * k + v.from % k ≡ v.from = omega arith in
    let low : v.from % k < k = omega arith in
    let placed : output_at (cell_at n x) 0 ((v.from / k) * k + v.from % k) ≡ Some v.net =
    subst (λ (i : ℕ). output_at (cell_at n x) 0 i ≡ Some v.net) (sym parts) (driven_at_0 n x v.output v.from v.net at_0 v.is_output) in
    ap (feeder_by n) (w.by_read x (v.from / k) (v.from % k) v.net e low placed)
by_role n x d PlainRegister v e w o = absurd (let no : is_passing (role_at n x) ≡ false = ap is_passing e in cc)
by_role n x d CarriedOver v e w o = absurd (let no : is_passing (role_at n x) ≡ false = ap is_passing e in cc)

pub drives_feeder : (n : Netlist) (x d : ℕ) (v : Drives n x d) → IsWired n → HasOneOutput n → feeder_at n d v.operand v.to ≡ Some x
unfolding feeder_at feeder_of
drives_feeder n x d v w o =
    ap (λ (t : Bool). cond t (feeder_of n (operand_at (cell_at n d) v.operand v.to)) None) v.operand_counts
    ∙ ap (feeder_of n) v.is_operand
    ∙ by_role n x d (role_at n x) v refl w o
