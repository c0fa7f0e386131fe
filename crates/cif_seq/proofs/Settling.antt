-- The steps of a cycle, as the code takes them.
use Rattle.std.specs.Prelude.{ℕ, ◌+◌, ◌<◌, ◌≡◌, Bool, false, not, ◌&&◌, List, length, get_or, slice_set}
use Rattle.std.proofs.Common.{ap, arith, cond, subst, sym, ◌∙◌}
use Rattle.cif_defs.specs.Words.{bit}
use Rattle.cif_defs.specs.Loop.{IsLevelled}
use Rattle.cif_defs.specs.Netlist.{IsWired, Netlist, driver_of}
use Rattle.cif_defs.specs.Run.{driver_value_at_depth_0}
use Rattle.cif_defs.specs.TaintRun.{driver_taint_at_depth_0}
use Rattle.cif_readers.specs.Reads.{Notes}
use Rattle.cif_shown.specs.Evaluates.{EvaluatesTaints, EvaluatesValues, Marks}
use Rattle.cif_shown.specs.Shown.{AreBegun, AreShown, AreSources, CoverBits, Given, is_open}
use Rattle.cif_shown.proofs.Begun.{source_passed, source_set}
use Rattle.cif_shown.proofs.Passes.{cell_evaluated, cell_passed_over}
use Rattle.cif_seq.proofs.Slices.{cleared_by}

-- the cell at a place
pub evaluated_place : (n : Netlist) (g : Given) (order cells : List ℕ) (covered : ℕ → Bool) (i c : ℕ) (values taints new_values new_taints marks new_marks : List Bool) → IsWired n → IsLevelled n order → CoverBits n order cells covered → i < length cells → c ≡ get_or cells i 0
    → EvaluatesValues n g.stored c values new_values → EvaluatesTaints n g.stored values g.state g.released c taints new_taints → Notes n values taints new_values new_taints marks new_marks
    → AreShown covered n g cells i marks values taints → AreShown covered n g cells (i + 1) new_marks new_values new_taints
evaluated_place n g order cells covered i c values taints new_values new_taints marks new_marks w o k l q hv ht m h =
    cell_evaluated n g order cells covered i values taints new_values new_taints marks new_marks w o k l (subst (λ x. EvaluatesValues n g.stored x values new_values) q hv) (subst (λ x. EvaluatesTaints n g.stored values g.state g.released x taints new_taints) q ht) m h

pub passed_place : (n : Netlist) (g : Given) (cells : List ℕ) (covered : ℕ → Bool) (i c : ℕ) (values taints marks : List Bool) → c ≡ get_or cells i 0 → bit marks c ≡ false → AreShown covered n g cells i marks values taints → AreShown covered n g cells (i + 1) marks values taints
passed_place n g cells covered i c values taints marks q clear h = cell_passed_over n g cells covered i values taints marks (ap (bit marks) (sym q) ∙ clear) h

-- a source that can't have changed
pub source_passed_over : (n : Netlist) (g : Given) (cells sources : List ℕ) (covered : ℕ → Bool) (i b : ℕ) (values taints marks : List Bool) (found : Bool) → b ≡ get_or sources i 0 → found ≡ false → found ≡ is_open n marks b → AreBegun covered n g cells sources i marks values taints → AreBegun covered n g cells sources (i + 1) marks values taints
source_passed_over n g cells sources covered i b values taints marks found at shut e h = source_passed n g cells sources covered i b values taints marks at (sym e ∙ shut) h

-- one more source is set, by a mark that clears its taint
pub source_placed : (n : Netlist) (g : Given) (order cells sources : List ℕ) (covered : ℕ → Bool) (i b : ℕ) (x y m t : Bool) (marks_of values taints new_values new_taints marks new_marks : List Bool) → IsWired n → IsLevelled n order → CoverBits n order cells covered → AreSources n sources → i < length sources → b ≡ get_or sources i 0
    → length values ≡ length n.drivers → length taints ≡ length n.drivers → Marks n marks_of g.released → m ≡ bit marks_of b → x ≡ driver_value_at_depth_0 n g.stored g.input (driver_of n b) → t ≡ driver_taint_at_depth_0 n g.state g.taint_input (driver_of n b)
    → y ≡ (not m && t) → new_values ≡ slice_set values b x → new_taints ≡ slice_set taints b y → Notes n values taints new_values new_taints marks new_marks → AreBegun covered n g cells sources i marks values taints
    → AreBegun covered n g cells sources (i + 1) new_marks new_values new_taints
source_placed n g order cells sources covered i b x y m t marks_of values taints new_values new_taints marks new_marks w o k s l at sv st released hm ex et ey ev eq notes h =
    let inside : b < length n.drivers = (let z : get_or sources i 0 < length n.drivers = s.inside i l in omega arith) in
    let masked : y ≡ cond (g.released b) false (driver_taint_at_depth_0 n g.state g.taint_input (driver_of n b)) = ey ∙ cleared_by m (g.released b) t _ (hm ∙ released b inside) et in
    let notes_here : Notes n values taints (slice_set values b x) (slice_set taints b y) marks new_marks = subst (λ (v : List Bool). Notes n values taints v (slice_set taints b y) marks new_marks) ev (subst (λ (v : List Bool). Notes n values taints new_values v marks new_marks) eq notes) in
    let now = source_set n g order cells sources covered i b x y values taints marks new_marks w o k s l at sv st ex masked notes_here h in
    subst (λ (v : List Bool). AreBegun covered n g cells sources (i + 1) new_marks new_values v) (sym eq) (subst (λ (v : List Bool). AreBegun covered n g cells sources (i + 1) new_marks v (slice_set taints b y)) (sym ev) now)
