-- The chain that takes the first tainted place of each support is one, and only a tainted net bit has a chain.
use Rattle.std.specs.Prelude.{ℕ, zero, suc, ◌+◌, ◌-◌, ◌*◌, ◌==◌, ◌<◌, ◌≡◌, true, List, length, get_or, find, Option, Some, None, refl}
use Rattle.std.proofs.Common.{arith, sym, ap, ◌∙◌, inl, inr}
use Rattle.std.proofs.lemmas.Bool.Decides.{nat_tests}
use Rattle.std.proofs.lemmas.List.{ext_get_or}
use Rattle.cif_defs.specs.Cells.{width}
use Rattle.cif_defs.specs.Netlist.{IsWired, Netlist, cell_at, driver_of}
use Rattle.cif_defs.specs.Stimulus.{Stimulus}
use Rattle.cif_defs.specs.TaintRun.{src_taint, taint}
use Rattle.cif_defs.specs.declared.nets.Driver.{Driver}
use Rattle.cif_defs.specs.declared.nets.Driver.TheVariants.{Output, Register, Read, Clock}
use Rattle.cif_defs.specs.declared.nets.Driver.TheVariants.{Input as ByInput}
use Rattle.cif_defs.proofs.WordLaws.{le_or_lt}
use Rattle.cif_supports.specs.declared.places.Place.{Place}
use Rattle.cif_supports.specs.declared.places.Place.TheVariants.{Input, State, Word, Flag, Out}
use Rattle.cif_supports.specs.declared.places.Member.{Member}
use Rattle.cif_supports.specs.Places.{driving_place, is_tainted, net_taint}
use Rattle.cif_supports.specs.Supports.{stored_support}
use Rattle.cif_supports.specs.Chains.{IsChain, IsFirstChain, at_cycle, is_beginning, is_tainted_member, no_member, support, support_of}

-- ---- counted from the end, both have the same members

-- the member j places before the last
abbrev from_end : List Member → ℕ → Member
from_end xs j = get_or xs (length xs - 1 - j) no_member

same_member : (m q : Member) (k : ℕ) (o : Option Place) → m.cycle ≡ k → q.cycle ≡ k → o ≡ Some m.place → o ≡ Some q.place → m ≡ q
same_member m q k o e f g h =
    let cycles : m.cycle ≡ q.cycle = e ∙ sym f in
    let places : m.place ≡ q.place = cc in
    ap (λ i. at_cycle i m.place) cycles ∙ ap (at_cycle q.cycle) places

before_of : (n : Netlist) (s : Stimulus) (b k : ℕ) (xs : List Member) (j : ℕ) → IsFirstChain n s b k xs → suc j < length xs → find (is_tainted_member n s) (support_of n s (from_end xs j)) ≡ Some (from_end xs (suc j))
before_of n s b k xs j c l =
    let i : ℕ = length xs - 1 - suc j in
    let at : suc i ≡ length xs - 1 - j = omega arith in
    ap (λ x. find (is_tainted_member n s) (support_of n s (get_or xs x no_member))) (sym at) ∙ c.takes_first i (omega arith)

same_back : (n : Netlist) (s : Stimulus) (b k : ℕ) (xs ys : List Member) (j : ℕ) → IsFirstChain n s b k xs → IsFirstChain n s b k ys → j < length xs → j < length ys → from_end xs j ≡ from_end ys j
same_back n s b k xs ys zero c d l m =
    let x : length xs - 1 - 0 ≡ length xs - 1 = omega arith in
    let y : length ys - 1 - 0 ≡ length ys - 1 = omega arith in
    ap (λ i. get_or xs i no_member) x ∙ same_member (get_or xs (length xs - 1) no_member) (get_or ys (length ys - 1) no_member) k (driving_place n (driver_of n b)) c.is_chain.ends_at d.is_chain.ends_at c.is_chain.ends d.is_chain.ends
    ∙ ap (λ i. get_or ys i no_member) (sym y)
same_back n s b k xs ys (suc j) c d l m =
    let later : from_end xs j ≡ from_end ys j = same_back n s b k xs ys j c d (omega arith) (omega arith) in
    let one : find (is_tainted_member n s) (support_of n s (from_end xs j)) ≡ Some (from_end xs (suc j)) = before_of n s b k xs j c l in
    let two : find (is_tainted_member n s) (support_of n s (from_end ys j)) ≡ Some (from_end ys (suc j)) = before_of n s b k ys j d m in
    let both : Some (from_end xs (suc j)) ≡ Some (from_end ys (suc j)) = sym one ∙ ap (λ (x : Member). find (is_tainted_member n s) (support_of n s x)) later ∙ two in
    cc

-- ---- where a taint begins there is no support

not_first : (k : ℕ) → (suc k == 0) ≡ true → ⊥
not_first k h = let e : suc k ≡ 0 = grind (arith, nat_tests) in absurd (omega arith)

no_support : (n : Netlist) (s : Stimulus) (k : ℕ) (place : Place) → is_beginning k place ≡ true → find (is_tainted_member n s) (support n s k place) ≡ None
unfolding support stored_support
no_support n s zero (Input p i) h = refl
no_support n s zero (State c i) h = refl
no_support n s zero (Word c address i) h = refl
no_support n s zero (Flag c) h = refl
no_support n s zero (Out c p i) h = absurd (cc)
no_support n s (suc k) (Input p i) h = refl
no_support n s (suc k) (State c i) h = absurd (not_first k h)
no_support n s (suc k) (Word c address i) h = absurd (not_first k h)
no_support n s (suc k) (Flag c) h = absurd (cc)
no_support n s (suc k) (Out c p i) h = absurd (cc)

not_shorter : (n : Netlist) (s : Stimulus) (b k : ℕ) (xs ys : List Member) → IsFirstChain n s b k xs → IsFirstChain n s b k ys → length xs < length ys → ⊥
not_shorter n s b k xs ys c d l =
    let some : 0 < length xs = c.is_chain.not_empty in
    let j : ℕ = length xs - 1 in
    let start : j ≡ length xs - 1 = omega arith in
    let first : length xs - 1 - j ≡ 0 = omega arith in
    let same : from_end xs j ≡ from_end ys j = same_back n s b k xs ys j c d (omega arith) (omega arith) in
    let begins : is_beginning (from_end ys j).cycle (from_end ys j).place ≡ true =
    sym (ap (λ (m : Member). is_beginning m.cycle m.place) (ap (λ i. get_or xs i no_member) (sym first) ∙ same)) ∙ c.is_chain.begins in
    let more : find (is_tainted_member n s) (support_of n s (from_end ys j)) ≡ Some (from_end ys (suc j)) = before_of n s b k ys j d (omega arith) in
    let none : find (is_tainted_member n s) (support_of n s (from_end ys j)) ≡ None = no_support n s (from_end ys j).cycle (from_end ys j).place begins in
    absurd (cc)

same_length : (n : Netlist) (s : Stimulus) (b k : ℕ) (xs ys : List Member) → IsFirstChain n s b k xs → IsFirstChain n s b k ys → length xs ≡ length ys
same_length n s b k xs ys c d = elim (le_or_lt (length xs) (length ys)) [
  | inl l ↦ absurd (not_shorter n s b k xs ys c d l)
  | inr l ↦ elim (le_or_lt (length ys) (length xs)) [
    | inl m ↦ absurd (not_shorter n s b k ys xs d c m)
    | inr m ↦ omega arith
  ]
]

pub one_chain : (n : Netlist) (s : Stimulus) (b k : ℕ) (xs ys : List Member) → IsFirstChain n s b k xs → IsFirstChain n s b k ys → xs ≡ ys
one_chain n s b k xs ys c d =
    let long : length xs ≡ length ys = same_length n s b k xs ys c d in
    ext_get_or no_member xs ys long (λ i l.
    let j : ℕ = length xs - 1 - i in
    let x : i ≡ length xs - 1 - j = omega arith in
    let y : i ≡ length ys - 1 - j = omega arith in
    ap (λ p. get_or xs p no_member) x ∙ same_back n s b k xs ys j c d (omega arith) (omega arith) ∙ ap (λ p. get_or ys p no_member) (sym y))

-- ---- only a tainted net bit has a chain

driven_taint : (n : Netlist) (s : Stimulus) (k b : ℕ) (g : Driver) (q : Place) → driver_of n b ≡ g → IsWired n → driving_place n g ≡ Some q → is_tainted n s k q ≡ true → taint n s k b ≡ true
unfolding is_tainted
driven_taint n s k b (ByInput p i) q e w f h = let at : q ≡ Input p i = cc in sym (ap (src_taint (taint n s k)) (w.input_place b p i e)) ∙ (ap (is_tainted n s k) (sym at) ∙ h)
driven_taint n s k b (Output c p i) q e w f h = let at : q ≡ Out c p i = cc in sym (ap (net_taint (taint n s k)) (w.output_place b c p i e)) ∙ (ap (is_tainted n s k) (sym at) ∙ h)
driven_taint n s k b (Register c i) q e w f h = let at : q ≡ Out c 0 i = cc in sym (ap (net_taint (taint n s k)) (w.register_place b c i e)) ∙ (ap (is_tainted n s k) (sym at) ∙ h)
driven_taint n s k b (Read c r i) q e w f h =
    let at : q ≡ Out c 0 (r * width (cell_at n c) + i) = cc in
    sym (ap (net_taint (taint n s k)) (w.read_place b c r i e).1) ∙ (ap (is_tainted n s k) (sym at) ∙ h)
driven_taint n s k b Clock q e w f h = absurd (cc)

pub tainted_by_chain : (n : Netlist) (s : Stimulus) (b k : ℕ) (chain : List Member) → IsWired n → IsChain n s b k chain → taint n s k b ≡ true
tainted_by_chain n s b k chain w c =
    let some : 0 < length chain = c.not_empty in
    let last : Member = get_or chain (length chain - 1) no_member in
    let tainted : is_tainted_member n s last ≡ true = c.tainted (length chain - 1) (omega arith) in
    driven_taint n s k b (driver_of n b) last.place refl w c.ends (ap (λ i. is_tainted n s i last.place) (sym c.ends_at) ∙ tainted)
