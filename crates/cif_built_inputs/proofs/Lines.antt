-- What ports hold and what cells start with, by lines that are replaced one by one.
use Rattle.std.specs.Prelude.{ℕ, ◌-◌, nat_le, ◌≡◌, Bool, true, false, not, ◌&&◌, List, [], ◌∷◌, ◌++◌, bytes_eq, refl, if◌then◌else◌}
use Rattle.std.specs.List.{flat_map}
use Rattle.std.proofs.Common.{cond}
use Rattle.std.proofs.lemmas.Bool.{and_parts}
use Rattle.cif_defs.specs.Cells.{Cell, number_of, state_bits, width}
use Rattle.cif_defs.specs.Accepted.{netlist_of}
use Rattle.cif_defs.specs.Stimulus.{StimLine, TaintedWord, cycle_line, held_by, mem_line, reg_line, release_line, set_line, started_by, with_row}
use Rattle.cif_defs.specs.declared.kinds.Param.TheVariants.{Offset}
use Rattle.cif_defs.specs.declared.raw_module.Raw.{Raw}
use Rattle.cif_stimulus.specs.Fitting.{fits_alone, is_again, line_fits, lines_fit}
use Rattle.cif_augment.specs.Names.{stored_name, taint_name}
use Rattle.cif_augment.specs.Stimuli.{augmented_line, input_bits, is_reset_named, unreleased, untainted}

-- ---- lines fit, one by one

pub first_fits : (n : Raw) (before : List StimLine) (line : StimLine) (lines : List StimLine) → lines_fit n before (line ∷ lines) ≡ true → fits_alone n line ≡ true
first_fits n before line lines h = (and_parts (fits_alone n line) (not (is_again line before)) (and_parts (line_fits n before line) (lines_fit n (line ∷ before) lines) h).0).0

pub others_fit : (n : Raw) (before : List StimLine) (line : StimLine) (lines : List StimLine) → lines_fit n before (line ∷ lines) ≡ true → lines_fit n (line ∷ before) lines ≡ true
others_fit n before line lines h = (and_parts (line_fits n before line) (lines_fit n (line ∷ before) lines) h).1

-- ---- what ports hold

by_choice : (R : TaintedWord → TaintedWord → Type 0) (b : Bool) (u v x y : TaintedWord) → R u v → R x y → R (cond b u x) (cond b v y)
by_choice R true u v x y r q = r
by_choice R false u v x y r q = q

no_word : (b : Bool) (name : List ℕ) (w : TaintedWord) (rest : List StimLine) (port : List ℕ) (k : ℕ) (given : TaintedWord) → held_by ((if b then reg_line name w ∷ [] else []) ++ rest) port k given ≡ held_by rest port k given
no_word true name w rest port k given = refl
no_word false name w rest port k given = refl

-- what port `to` holds by the new lines is to what port `from` holds as R says, where a set line keeps to it
pub held_alike : (R : TaintedWord → TaintedWord → Type 0) (n : Raw) (all : List StimLine) (to from : List ℕ) (k : ℕ)
    → ((name : List ℕ) (w u v : TaintedWord) → fits_alone n (set_line name w) ≡ true → R u v
    → R (cond (bytes_eq (taint_name name) to) (untainted (unreleased all (input_bits (netlist_of n) name) w.taint)) (cond (bytes_eq name to) (untainted w.value) u)) (cond (bytes_eq name from) w v))
    → (before lines : List StimLine) (u v : TaintedWord) → lines_fit n before lines ≡ true → R u v → R (held_by (flat_map (augmented_line (netlist_of n) all) lines) to k u) (held_by lines from k v)
held_alike R n all to from k step before [] u v fit r = r
held_alike R n all to from k step before (set_line name w ∷ lines) u v fit r =
    held_alike R n all to from k step (set_line name w ∷ before) lines _ _ (others_fit n before (set_line name w) lines fit) (step name w u v (first_fits n before (set_line name w) lines fit) r)
held_alike R n all to from k step before (cycle_line j ∷ lines) u v fit r =
    by_choice R (nat_le j k) (held_by (flat_map (augmented_line (netlist_of n) all) lines) to k u) (held_by lines from k v) u v (held_alike R n all to from k step (cycle_line j ∷ before) lines u v (others_fit n before (cycle_line j) lines fit) r) r
held_alike R n all to from k step before (reg_line name w ∷ lines) u v fit r =
    let same = no_word (is_reset_named (netlist_of n) name) (stored_name name) (untainted w.value) (flat_map (augmented_line (netlist_of n) all) lines) to k u in
    rw same (held_alike R n all to from k step (reg_line name w ∷ before) lines u v (others_fit n before (reg_line name w) lines fit) r)
held_alike R n all to from k step before (mem_line name address w ∷ lines) u v fit r = held_alike R n all to from k step (mem_line name address w ∷ before) lines u v (others_fit n before (mem_line name address w) lines fit) r
held_alike R n all to from k step before (release_line name bits ∷ lines) u v fit r = held_alike R n all to from k step (release_line name bits ∷ before) lines u v (others_fit n before (release_line name bits) lines fit) r

-- ---- what cells start with

-- w as a row of what was given
abbrev pub with_rows : Cell → ℕ → TaintedWord → TaintedWord → TaintedWord
with_rows c address w given = record {
  value = with_row (state_bits c) (width c) (address - number_of c Offset) w.value given.value;
  taint = with_row (state_bits c) (width c) (address - number_of c Offset) w.taint given.taint;
}

started_stored : (b : Bool) (name : List ℕ) (w : TaintedWord) (rest : List StimLine) (c : Cell) (given : TaintedWord) → started_by ((if b then reg_line name w ∷ [] else []) ++ rest) c given ≡ started_by rest c (cond (b && bytes_eq name c.name) w given)
started_stored true name w rest c given = refl
started_stored false name w rest c given = refl

-- what cell `to` starts with by the new lines is to what cell `from` starts with as R says, where the lines of words keep to it
pub started_alike : (R : TaintedWord → TaintedWord → Type 0) (n : Raw) (all : List StimLine) (to from : Cell)
    → ((name : List ℕ) (w u v : TaintedWord) → fits_alone n (reg_line name w) ≡ true → R u v
    → R (cond (is_reset_named (netlist_of n) name && bytes_eq (stored_name name) to.name) (untainted w.value) (cond (bytes_eq (taint_name name) to.name) (untainted w.taint) (cond (bytes_eq name to.name) (untainted w.value) u)))
    (cond (bytes_eq name from.name) w v))
    → ((name : List ℕ) (address : ℕ) (w u v : TaintedWord) → fits_alone n (mem_line name address w) ≡ true → R u v
    → (x : TaintedWord) → x ≡ cond (bytes_eq name to.name) (with_rows to address (untainted w.value) u) u
    → R (cond (bytes_eq (taint_name name) to.name) (with_rows to address (untainted w.taint) x) x) (cond (bytes_eq name from.name) (with_rows from address w v) v))
    → (before lines : List StimLine) (u v : TaintedWord) → lines_fit n before lines ≡ true → R u v → R (started_by (flat_map (augmented_line (netlist_of n) all) lines) to u) (started_by lines from v)
started_alike R n all to from reg mem before [] u v fit r = r
started_alike R n all to from reg mem before (reg_line name w ∷ lines) u v fit r =
    let u1 = cond (bytes_eq (taint_name name) to.name) (untainted w.taint) (cond (bytes_eq name to.name) (untainted w.value) u) in
    let same = started_stored (is_reset_named (netlist_of n) name) (stored_name name) (untainted w.value) (flat_map (augmented_line (netlist_of n) all) lines) to u1 in
    rw same (started_alike R n all to from reg mem (reg_line name w ∷ before) lines _ _ (others_fit n before (reg_line name w) lines fit) (reg name w u v (first_fits n before (reg_line name w) lines fit) r))
started_alike R n all to from reg mem before (mem_line name address w ∷ lines) u v fit r =
    started_alike R n all to from reg mem (mem_line name address w ∷ before) lines _ _ (others_fit n before (mem_line name address w) lines fit)
    (mem name address w u v (first_fits n before (mem_line name address w) lines fit) r (cond (bytes_eq name to.name) (with_rows to address (untainted w.value) u) u) refl)
started_alike R n all to from reg mem before (set_line name w ∷ lines) u v fit r = started_alike R n all to from reg mem (set_line name w ∷ before) lines u v (others_fit n before (set_line name w) lines fit) r
started_alike R n all to from reg mem before (cycle_line j ∷ lines) u v fit r = started_alike R n all to from reg mem (cycle_line j ∷ before) lines u v (others_fit n before (cycle_line j) lines fit) r
started_alike R n all to from reg mem before (release_line name bits ∷ lines) u v fit r = started_alike R n all to from reg mem (release_line name bits ∷ before) lines u v (others_fit n before (release_line name bits) lines fit) r
