-- The search: what a step keeps.
use Rattle.std.specs.Prelude.{ℕ, ◌+◌, ◌<◌, ◌≤◌, ◌≡◌, Bool, true, false, List, [], length, get_or, Option, Some, None}
use Rattle.std.proofs.Common.{arith, sym, ap, subst, ◌∙◌, inl, inr, cond}
use Rattle.std.proofs.lemmas.Bool.{cases_lt}
use Rattle.std.proofs.lemmas.List.{get_or_default, get_or_past}
use Rattle.cif_defs.specs.Cells.{Cell}
use Rattle.cif_defs.specs.Kinds.{role_of}
use Rattle.cif_defs.specs.Loop.{counts}
use Rattle.cif_defs.specs.Netlist.{Netlist, cell_at, role_at, operand_at}
use Rattle.cif_defs.specs.declared.nets.Src.{Src}
use Rattle.cif_defs.specs.declared.nets.Src.TheVariants.{Zero}
use Rattle.cif_level.specs.declared.feeders.OperandPlace.{OperandPlace}
use Rattle.cif_level.specs.declared.feeders.Mark.{Mark}
use Rattle.cif_level.specs.declared.feeders.Mark.TheVariants.{Placed}
use Rattle.cif_level.specs.Feeding.{feeder_of, feeder_at}
use Rattle.cif_level.specs.Searching.{mark_of, next_port, ArePlaced, AreBefore, AreAllPlaced}

-- ---- bits of an operand

pub none_placed : (n : Netlist) (marks : List Mark) (ss : List Src) (from : ℕ) → ArePlaced n marks ss from from
none_placed n marks ss from = record { placed = λ i x l m h. absurd (omega arith) }

pub one_more_placed : (n : Netlist) (marks : List Mark) (ss : List Src) (from i : ℕ) (d : Src) → ArePlaced n marks ss from i → i < length ss → ((x : ℕ) → feeder_of n (get_or ss i d) ≡ Some x → mark_of marks x ≡ Placed)
    → ArePlaced n marks ss from (i + 1)
one_more_placed n marks ss from i d old l here = record {
  placed = λ j x f m h. elim (cases_lt j i) [
    | inl q ↦ old.placed j x f q h
    | inr q ↦ (let same : j ≡ i = omega arith in here x (ap (feeder_of n) (get_or_default ss i d Zero l ∙ ap (λ k. get_or ss k Zero) (sym same)) ∙ h))
  ];
}

-- ---- operands of a cell

at_operand : (n : Netlist) (d p i : ℕ) (t : Bool) → counts (role_at n d) (cell_at n d) p ≡ t → feeder_at n d p i ≡ cond t (feeder_of n (operand_at (cell_at n d) p i)) None
unfolding feeder_at
at_operand n d p i t e = ap (λ (b : Bool). cond b (feeder_of n (operand_at (cell_at n d) p i)) None) e

-- an operand that doesn't count is passed over
port_skipped : (n : Netlist) (marks : List Mark) (d : ℕ) (at : OperandPlace) → AreBefore (feeder_at n d) marks at → counts (role_at n d) (cell_at n d) at.port ≡ false
    → AreBefore (feeder_at n d) marks (next_port at)
port_skipped n marks d at old uncounted = record {
  ports = λ p i x l h. elim (cases_lt p at.port) [
    | inl q ↦ old.ports p i x q h
    | inr q ↦ absurd (let same : p ≡ at.port = omega arith in let none : feeder_at n d p i ≡ None = at_operand n d p i false (ap (counts (role_at n d) (cell_at n d)) same ∙ uncounted) in cc)
  ];
  bits = λ i x l h. absurd (omega arith);
}

-- bits of an operand up to a place are passed over
bits_passed : (n : Netlist) (marks : List Mark) (d k : ℕ) (at : OperandPlace) → AreBefore (feeder_at n d) marks at → counts (role_at n d) (cell_at n d) at.port ≡ true
    → ArePlaced n marks (get_or (cell_at n d).operands at.port []) at.index k → AreBefore (feeder_at n d) marks (record { port = at.port; index = k })
bits_passed n marks d k at old counted more = record {
  ports = old.ports;
  bits = λ i x l h. elim (cases_lt i at.index) [
    | inl q ↦ old.bits i x q h
    | inr q ↦ more.placed i x q l (sym (at_operand n d at.port i true counted) ∙ h)
  ];
}

-- all bits of an operand are passed over
port_passed : (n : Netlist) (marks : List Mark) (d : ℕ) (at : OperandPlace) → AreBefore (feeder_at n d) marks at → counts (role_at n d) (cell_at n d) at.port ≡ true
    → ArePlaced n marks (get_or (cell_at n d).operands at.port []) at.index (length (get_or (cell_at n d).operands at.port [])) → AreBefore (feeder_at n d) marks (next_port at)
unfolding feeder_of
port_passed n marks d at old counted more = record {
  ports = λ p i x l h. elim (cases_lt p at.port) [
    | inl q ↦ old.ports p i x q h
    | inr q ↦ (
        let same : p ≡ at.port = omega arith in
        let here : feeder_at n d at.port i ≡ Some x = ap (λ k. feeder_at n d k i) (sym same) ∙ h in
        let read : feeder_of n (operand_at (cell_at n d) at.port i) ≡ Some x = sym (at_operand n d at.port i true counted) ∙ here in
        elim (cases_lt i (length (get_or (cell_at n d).operands at.port []))) [
          | inl inside ↦ elim (cases_lt i at.index) [
            | inl before ↦ old.bits i x before here
            | inr after ↦ more.placed i x after inside read
          ]
          | inr past ↦ absurd (let none : feeder_of n (operand_at (cell_at n d) at.port i) ≡ None = ap (feeder_of n) (get_or_past (get_or (cell_at n d).operands at.port []) i Zero past) in cc)
        ])
  ];
  bits = λ i x l h. absurd (omega arith);
}

bit_feeds : (n : Netlist) (d p i x : ℕ) → counts (role_at n d) (cell_at n d) p ≡ true → feeder_of n (get_or (get_or (cell_at n d).operands p []) i Zero) ≡ Some x → feeder_at n d p i ≡ Some x
bit_feeds n d p i x counted h = at_operand n d p i true counted ∙ h

-- the same of the cell's data x and the bits ss of its operand

same_counts : (n : Netlist) (d p : ℕ) (x : Cell) (t : Bool) → x ≡ cell_at n d → counts (role_of x.kind) x p ≡ t → counts (role_at n d) (cell_at n d) p ≡ t
same_counts n d p x t e h = ap (λ (y : Cell). counts (role_of y.kind) y p) (sym e) ∙ h

same_operand : (n : Netlist) (d p : ℕ) (x : Cell) (ss : List Src) → x ≡ cell_at n d → ss ≡ get_or x.operands p [] → ss ≡ get_or (cell_at n d).operands p []
same_operand n d p x ss e f = f ∙ ap (λ (y : Cell). get_or y.operands p []) e

pub skipped : (n : Netlist) (marks : List Mark) (d : ℕ) (at : OperandPlace) (x : Cell) → AreBefore (feeder_at n d) marks at → x ≡ cell_at n d → counts (role_of x.kind) x at.port ≡ false → AreBefore (feeder_at n d) marks (next_port at)
skipped n marks d at x old e h = port_skipped n marks d at old (same_counts n d at.port x false e h)

pub passed_to : (n : Netlist) (marks : List Mark) (d k : ℕ) (at : OperandPlace) (x : Cell) (ss : List Src) → AreBefore (feeder_at n d) marks at → x ≡ cell_at n d → counts (role_of x.kind) x at.port ≡ true → ss ≡ get_or x.operands at.port []
    → ArePlaced n marks ss at.index k → AreBefore (feeder_at n d) marks (record { port = at.port; index = k })
passed_to n marks d k at x ss old e h f more =
    bits_passed n marks d k at old (same_counts n d at.port x true e h) (subst (λ (xs : List Src). ArePlaced n marks xs at.index k) (same_operand n d at.port x ss e f) more)

pub passed : (n : Netlist) (marks : List Mark) (d : ℕ) (at : OperandPlace) (x : Cell) (ss : List Src) → AreBefore (feeder_at n d) marks at → x ≡ cell_at n d → counts (role_of x.kind) x at.port ≡ true → ss ≡ get_or x.operands at.port []
    → ArePlaced n marks ss at.index (length ss) → AreBefore (feeder_at n d) marks (next_port at)
passed n marks d at x ss old e h f more =
    port_passed n marks d at old (same_counts n d at.port x true e h) (subst (λ (xs : List Src). ArePlaced n marks xs at.index (length xs)) (same_operand n d at.port x ss e f) more)

pub feeds : (n : Netlist) (d p i k : ℕ) (x : Cell) (ss : List Src) → x ≡ cell_at n d → counts (role_of x.kind) x p ≡ true → ss ≡ get_or x.operands p [] → feeder_of n (get_or ss i Zero) ≡ Some k → feeder_at n d p i ≡ Some k
feeds n d p i k x ss e h f g = bit_feeds n d p i k (same_counts n d p x true e h) (ap (λ (xs : List Src). feeder_of n (get_or xs i Zero)) (sym (same_operand n d p x ss e f)) ∙ g)

-- past the last operand none is left
pub all_passed : (n : Netlist) (marks : List Mark) (d : ℕ) (at : OperandPlace) → AreBefore (feeder_at n d) marks at → length (cell_at n d).operands ≤ at.port → AreAllPlaced (feeder_at n d) marks
unfolding feeder_at feeder_of
all_passed n marks d at old past = record {
  placed = λ p i x h. elim (cases_lt p at.port) [
    | inl q ↦ old.ports p i x q h
    | inr q ↦ absurd (
        let none : operand_at (cell_at n d) p i ≡ Zero = ap (λ (ss : List Src). get_or ss i Zero) (get_or_past (cell_at n d).operands p [] (omega arith)) in
        none_at (counts (role_at n d) (cell_at n d) p) (feeder_of n (operand_at (cell_at n d) p i)) x (ap (feeder_of n) none) h)
  ];
} where
  none_at : (t : Bool) (o : Option ℕ) (x : ℕ) → o ≡ None → cond t o None ≡ Some x → ⊥
  none_at true o x e h = absurd (cc)
  none_at false o x e h = absurd (cc)
