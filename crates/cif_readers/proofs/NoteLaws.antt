-- Marks over several changes of net bits.
use Rattle.std.specs.Prelude.{ℕ, ◌<◌, ◌≤◌, ◌≡◌, Bool, true, false, List, length, slice_set, refl}
use Rattle.std.proofs.Common.{arith, subst, ◌∙◌, inl, inr}
use Rattle.std.proofs.lemmas.Bool.{cases_eq}
use Rattle.std.proofs.lemmas.List.{get_or-set_other}
use Rattle.cif_defs.specs.Words.{bit}
use Rattle.cif_defs.specs.Netlist.{Netlist}
use Rattle.cif_readers.specs.Reads.{Reads, Notes}
use Rattle.cif_readers.proofs.Gathering.{cell_inside}

pub nothing_noted : (n : Netlist) (values taints marks : List Bool) → Notes n values taints values taints marks marks
nothing_noted n values taints marks = record {
  kept = λ c h. h;
  noted = λ c x r h. (refl, refl);
}

unmarked_before : (old new : Bool) → (old ≡ true → new ≡ true) → new ≡ false → old ≡ false
unmarked_before false new kept h = refl
unmarked_before true new kept h = absurd (let t : new ≡ true = kept refl in cc)

pub notes_join : (n : Netlist) (values taints values' taints' values'' taints'' marks marks' marks'' : List Bool) → Notes n values taints values' taints' marks marks' → Notes n values' taints' values'' taints'' marks' marks''
    → Notes n values taints values'' taints'' marks marks''
notes_join n values taints values' taints' values'' taints'' marks marks' marks'' first then = record {
  kept = λ c h. then.kept c (first.kept c h);
  noted = λ c x r h.
      let later = then.noted c x r h in
      let earlier = first.noted c x r (unmarked_before (bit marks' c) (bit marks'' c) (then.kept c) h) in
      (later.0 ∙ earlier.0, later.1 ∙ earlier.1);
}

-- one net bit is set, and each cell that reads it is marked
pub notes_bit : (n : Netlist) (values taints : List Bool) (b : ℕ) (x y : Bool) (marks new_marks : List Bool) → ((c : ℕ) → bit marks c ≡ true → bit new_marks c ≡ true) → ((c : ℕ) → Reads n c b → bit new_marks c ≡ true)
    → Notes n values taints (slice_set values b x) (slice_set taints b y) marks new_marks
notes_bit n values taints b x y marks new_marks kept marked = record {
  kept = kept;
  noted = λ c z r h. elim (cases_eq z b) [
    | inl e ↦ absurd (let m : bit new_marks c ≡ true = marked c (subst (λ (k : ℕ). Reads n c k) e r) in cc)
    | inr d ↦ (get_or-set_other values b z x false d, get_or-set_other taints b z y false d)
  ];
}

-- the same, where a mark is known of the cells that have one
pub set_noted : (n : Netlist) (values taints new_values new_taints : List Bool) (b : ℕ) (x y : Bool) (marks new_marks : List Bool) → new_values ≡ slice_set values b x → new_taints ≡ slice_set taints b y → length n.cells ≤ length marks
    → ((c : ℕ) → bit marks c ≡ true → bit new_marks c ≡ true) → ((c : ℕ) → Reads n c b → c < length marks → bit new_marks c ≡ true) → Notes n values taints new_values new_taints marks new_marks
set_noted n values taints new_values new_taints b x y marks new_marks e f all kept marked =
    rw (e, f) (notes_bit n values taints b x y marks new_marks kept (λ c r. let inside = cell_inside n c b r in marked c r (omega arith)))
