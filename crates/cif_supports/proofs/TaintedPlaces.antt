-- A tainted operand bit reads a tainted place.
use Rattle.std.specs.Prelude.{ℕ, zero, suc, ◌≡◌, Bool, true, false, List, [], ◌∷◌, length, get_or, Option, Some, None, refl}
use Rattle.std.specs.List.{list_any}
use Rattle.std.proofs.Common.{sym, ap, ◌∙◌, cond, inl, inr}
use Rattle.cif_defs.specs.Cells.{Cell}
use Rattle.cif_defs.specs.Netlist.{Netlist, driver_of, operand_at}
use Rattle.cif_defs.specs.Run.{src_word, state, value, words_under}
use Rattle.cif_defs.specs.Stimulus.{Stimulus, is_released}
use Rattle.cif_defs.specs.TaintRun.{driver_taint, input_taint, operand_taints, src_taint, taint, taint_state, taint_word, taints_under}
use Rattle.cif_defs.specs.Words.{Word, bit, operand}
use Rattle.cif_defs.specs.declared.nets.Src.{Src}
use Rattle.cif_defs.specs.declared.nets.Src.TheVariants.{Bit, Zero, One}
use Rattle.cif_defs.specs.declared.nets.Driver.{Driver}
use Rattle.cif_defs.specs.declared.nets.Driver.TheVariants.{Output, Register, Read, Clock}
use Rattle.cif_defs.specs.declared.nets.Driver.TheVariants.{Input as ByInput}
use Rattle.cif_defs.proofs.Exact.{or_left, or_right, or_true}
use Rattle.cif_defs.proofs.Levels.{operand-words_under}
use Rattle.cif_defs.proofs.Orders.{place_in, rank_bound, ranked_from_levels}
use Rattle.cif_defs.proofs.TaintSettles.{operand-taints_under, taint_is_given}
use Rattle.cif_supports.specs.declared.places.Place.{Place}
use Rattle.cif_supports.specs.Places.{driving_place, is_tainted, net_taint, place_read}
use Rattle.cif_supports.specs.Supports.{OperandBit, places_read}
use Rattle.cif_supports.specs.Dependence.{AreAsLong}
use Rattle.cif_supports.specs.Chains.{IsRunnable}
use Rattle.cif_supports.proofs.TaintedBits.{bit_taint}

-- ---- a tainted net bit is given its taint by its driver

kept : (b x : Bool) → cond b false x ≡ true → x ≡ true
kept true x h = absurd (cc)
kept false x h = h

pub taint_given : (n : Netlist) (order : List ℕ) (s : Stimulus) (k b : ℕ) → IsRunnable n order → taint n s k b ≡ true
    → driver_taint n (state n s k) (value n s k) (taint_state n s k) (input_taint n s k) (taint n s k) (driver_of n b) ≡ true
taint_given n order s k b r h =
    kept (is_released s.lines b) _
    (sym (taint_is_given n (state n s k) (value n s k) (taint_state n s k) (input_taint n s k) (is_released s.lines) (place_in order) (ranked_from_levels n order r.wired r.levelled) (rank_bound n order r.wired r.levelled) b) ∙ h)

-- ---- the place that drives a tainted net bit is tainted

clock_given : (n : Netlist) (s : Stimulus) (k : ℕ) (g : Driver) → g ≡ Clock → driver_taint n (state n s k) (value n s k) (taint_state n s k) (input_taint n s k) (taint n s k) g ≡ false
unfolding driver_taint
clock_given n s k Clock e = refl
clock_given n s k (ByInput p i) e = absurd (cc)
clock_given n s k (Output c p i) e = absurd (cc)
clock_given n s k (Register c i) e = absurd (cc)
clock_given n s k (Read c p i) e = absurd (cc)

abbrev TaintedPlace : Netlist → Stimulus → ℕ → Option Place → Type 0
TaintedPlace n s k o = (q : Place) × (o ≡ Some q) × (is_tainted n s k q ≡ true)

driver_tainted : (n : Netlist) (order : List ℕ) (s : Stimulus) (k b : ℕ) (g : Driver) → driver_of n b ≡ g → IsRunnable n order → taint n s k b ≡ true → TaintedPlace n s k (driving_place n g)
unfolding is_tainted
driver_tainted n order s k b (ByInput p i) e r h = (_, refl, ap (src_taint (taint n s k)) (r.wired.input_place b p i e) ∙ h)
driver_tainted n order s k b (Output c p i) e r h = (_, refl, ap (net_taint (taint n s k)) (r.wired.output_place b c p i e) ∙ h)
driver_tainted n order s k b (Register c i) e r h = (_, refl, ap (net_taint (taint n s k)) (r.wired.register_place b c i e) ∙ h)
driver_tainted n order s k b (Read c p i) e r h = (_, refl, ap (net_taint (taint n s k)) (r.wired.read_place b c p i e).1 ∙ h)
driver_tainted n order s k b Clock e r h = absurd (let on = taint_given n order s k b r h in let off = clock_given n s k (driver_of n b) e in cc)

pub place_tainted : (n : Netlist) (order : List ℕ) (s : Stimulus) (k : ℕ) (src : Src) → IsRunnable n order → src_taint (taint n s k) src ≡ true → TaintedPlace n s k (place_read n src)
place_tainted n order s k (Bit b) r h = driver_tainted n order s k b (driver_of n b) refl r h
place_tainted n order s k Zero r h = absurd (cc)
place_tainted n order s k One r h = absurd (cc)

-- ---- a tainted operand bit reads a tainted place

bit-taint_word : (t : ℕ → Bool) (ss : List Src) (i : ℕ) → bit (taint_word t ss) i ≡ src_taint t (get_or ss i Zero)
bit-taint_word t [] i = refl
bit-taint_word t (s ∷ ss) zero = refl
bit-taint_word t (s ∷ ss) (suc i) = bit-taint_word t ss i

pub operand_taint : (t : ℕ → Bool) (c : Cell) (p i : ℕ) → bit (operand (operand_taints t c) p) i ≡ src_taint t (operand_at c p i)
operand_taint t c p i = ap (λ (w : Word). bit w i) (operand-taints_under t c.operands p) ∙ bit-taint_word t (get_or c.operands p []) i

first_place : (test : Place → Bool) (n : Netlist) (c : Cell) (b : OperandBit) (bits : List OperandBit) (q : Place) → place_read n (operand_at c b.0 b.1) ≡ Some q → test q ≡ true → list_any test (places_read n c (b ∷ bits)) ≡ true
first_place test n c b bits q e h = rw e (or_left (test q) (list_any test (places_read n c bits)) h)

later_place : (test : Place → Bool) (n : Netlist) (c : Cell) (b : OperandBit) (bits : List OperandBit) (o : Option Place) → place_read n (operand_at c b.0 b.1) ≡ o → list_any test (places_read n c bits) ≡ true → list_any test (places_read n c (b ∷ bits)) ≡ true
later_place test n c b bits (Some q) e h = rw e (or_right (test q) (list_any test (places_read n c bits)) h)
later_place test n c b bits None e h = rw e h

pub places_tainted : (n : Netlist) (order : List ℕ) (s : Stimulus) (k : ℕ) (c : Cell) (bits : List OperandBit) → IsRunnable n order → list_any (bit_taint (operand_taints (taint n s k) c)) bits ≡ true
    → list_any (is_tainted n s k) (places_read n c bits) ≡ true
places_tainted n order s k c [] r h = absurd (cc)
places_tainted n order s k c (b ∷ bits) r h = elim (or_true (bit_taint (operand_taints (taint n s k) c) b) (list_any (bit_taint (operand_taints (taint n s k) c)) bits) h) [
  | inl e ↦ (let found = place_tainted n order s k (operand_at c b.0 b.1) r (sym (operand_taint (taint n s k) c b.0 b.1) ∙ e) in
      first_place (is_tainted n s k) n c b bits found.0 found.1 found.2)
  | inr e ↦ later_place (is_tainted n s k) n c b bits (place_read n (operand_at c b.0 b.1)) refl (places_tainted n order s k c bits r e)
]

-- ---- the words at the operands are as long as they

length-src_word : (v : ℕ → Bool) (ss : List Src) → length (src_word v ss) ≡ length ss
length-src_word v [] = refl
length-src_word v (s ∷ ss) = ap suc (length-src_word v ss)

length-taint_word : (t : ℕ → Bool) (ss : List Src) → length (taint_word t ss) ≡ length ss
length-taint_word t [] = refl
length-taint_word t (s ∷ ss) = ap suc (length-taint_word t ss)

pub words_long : (v : ℕ → Bool) (c : Cell) → AreAsLong c (words_under v c.operands)
words_long v c = λ p. ap length (operand-words_under v c.operands p) ∙ length-src_word v (get_or c.operands p [])

pub taints_long : (t : ℕ → Bool) (c : Cell) → AreAsLong c (taints_under t c.operands)
taints_long t c = λ p. ap length (operand-taints_under t c.operands p) ∙ length-taint_word t (get_or c.operands p [])

pub words_many : (v : ℕ → Bool) (ops : List (List Src)) → length (words_under v ops) ≡ length ops
words_many v [] = refl
words_many v (ss ∷ ops) = ap suc (words_many v ops)

pub taints_many : (t : ℕ → Bool) (ops : List (List Src)) → length (taints_under t ops) ≡ length ops
taints_many t [] = refl
taints_many t (ss ∷ ops) = ap suc (taints_many t ops)
