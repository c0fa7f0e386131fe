-- A cursor over the lines of a stimulus, line by line.
use Rattle.std.specs.Prelude.{ℕ, zero, suc, ◌+◌, ◌<◌, ◌≤◌, ◌≡◌, ◌≢◌, ◌⊎◌, nat_le, Bool, true, false, List, [], ◌∷◌, ◌++◌, map, length, get_or, take, drop, replicate, bytes_eq, Option, Some, None, IfSome, refl}
use Rattle.std.proofs.Common.{arith, sym, ap, subst, ◌∙◌, inl, inr, if◌then◌else◌}
use Rattle.std.proofs.Math.ListN.{set}
use Rattle.std.proofs.lemmas.List.{at_drop_more, take_more, take_all, map-append, get_or_default, get_or-set_same, get_or-set_other, length-map, get_or-map}
use Rattle.std.proofs.lemmas.Bool.{false_from_ne_true}
use Rattle.std.proofs.lemmas.Bool.Decides.{nat_tests}
use Rattle.std.proofs.lemmas.Slice.Eq.{bytes_eq-Decides}
use Rattle.cif_defs.specs.declared.nets.Wire.{Wire}
use Rattle.cif_defs.specs.Netlist.{Netlist, no_wire}
use Rattle.cif_defs.specs.Stimulus.{Stimulus, StimLine as LineData, TaintedWord, unset, held_by, input_at, reg_line, mem_line, release_line, cycle_line, set_line}
use Rattle.cif_stimulus.specs.StimulusView.{line_seen}
use Rattle.cif_stimulus.specs.Names.{place_named, port_name, target_of, line_at}
use Rattle.cif_inputs.specs.Cursor.{word_of, word_by, is_later_line, setter_at, setters_after, Passes, Stops, IsMapOf, IsAt, cycle_of}
use Rattle.cif_stimulus.specs.Held.{word_set, word_set_at}
use Rattle.cif_inputs.specs.declared.inputs.InputMap.{InputMap}
use Rattle.cif_inputs.specs.declared.inputs.Inputs.{Inputs}
use Rattle.cif_stimulus.specs.declared.line.StimLine.{StimLine}
use Rattle.cif_stimulus.specs.declared.line.StimLine.TheVariants.{Reg, Mem, Release, Cycle, Set}
use Rattle.cif_defs.proofs.NameOrder.{own_place}
use Rattle.cif_stimulus.proofs.NamePlaces.{named, one_place}

-- ---- a line that begins a later group

later_line : (k : ℕ) (x : LineData) (rest : List LineData) (q : List ℕ) (w : TaintedWord) → is_later_line k x ≡ true → held_by (x ∷ rest) q k w ≡ w
later_line k (cycle_line j) rest q w h =
    let t : nat_le j k ≡ false = grind (arith, nat_tests) in
    ap (λ b. if b then held_by rest q k w else w) t
later_line k (set_line name v) rest q w h = absurd (cc)
later_line k (reg_line name v) rest q w h = absurd (cc)
later_line k (mem_line name a v) rest q w h = absurd (cc)
later_line k (release_line name bits) rest q w h = absurd (cc)

stops_at : (lines : List LineData) (k i : ℕ) (d : LineData) → i < length lines → is_later_line k (get_or lines i d) ≡ true → Stops lines k i
stops_at lines k i d h later = λ q w. at_drop_more (λ xs. held_by xs q k w) lines i d h ∙ later_line k (get_or lines i d) (drop (i + 1) lines) q w later

-- the line that is read
seen_at : (lines : List StimLine) (i : ℕ) (x : StimLine) (d : LineData) → i < length lines → x ≡ get_or lines i x → line_seen x ≡ get_or (map line_seen lines) i d
seen_at lines i x d h is = ap line_seen is ∙ sym (get_or-map line_seen lines i x d h)

pub stops_later : (lines : List StimLine) (k i : ℕ) (x : StimLine) (later : Bool) → i < length lines → x ≡ get_or lines i x → later ≡ is_later_line k (line_seen x) → later ≡ true → Stops (map line_seen lines) k i
stops_later lines k i x later h is test so =
    stops_at (map line_seen lines) k i (line_seen x) (let e : length (map line_seen lines) ≡ length lines = simp length-map in omega arith)
    (ap (is_later_line k) (sym (seen_at lines i x (line_seen x) h is)) ∙ sym test ∙ so)

-- ---- a line that counts

same_or_not : (i j : ℕ) → (i ≡ j) ⊎ (i ≢ j)
same_or_not i j = search arith

other_name : (ports : List Wire) (a b : List ℕ) (p q : Option ℕ) → place_named ports a ≡ p → place_named ports b ≡ q → p ≢ q → bytes_eq a b ≡ false
other_name ports a b p q f g d = false_from_ne_true _ (λ t. d (sym f ∙ ap (place_named ports) ((bytes_eq-Decides a b).0 t) ∙ g))

-- the word of a port once a line sets the port at some place
word_after : (ports : List Wire) (lines : List LineData) (i : ℕ) (setters : List (Option ℕ)) (name q : List ℕ) (v : TaintedWord) (h : ℕ) (target : Option ℕ) → get_or lines i (cycle_line 0) ≡ set_line name v → place_named ports q ≡ Some h → place_named ports name ≡ target → IfSome target (λ t. t < length setters)
    → (if bytes_eq name q then v else word_by lines (setter_at setters h)) ≡ word_by lines (setter_at (setters_after setters target i) h)
word_after ports lines i setters name q v h None is g f inside =
    ap (λ b. if b then v else word_by lines (setter_at setters h)) (other_name ports name q None (Some h) f g (λ e. absurd (cc)))
word_after ports lines i setters name q v h (Some t) is g f inside = word_at (same_or_not h t) where
  word_at : (h ≡ t) ⊎ (h ≢ t) → (if bytes_eq name q then v else word_by lines (setter_at setters h)) ≡ word_by lines (setter_at (set setters t (Some i)) h)
  word_at (inl e) =
      let same : name ≡ q = one_place ports name q h (f ∙ ap (λ k. Some k) (sym e)) g in
      let there : setter_at (set setters t (Some i)) h ≡ Some i = ap (setter_at (set setters t (Some i))) e ∙ get_or-set_same setters t (Some i) None inside in
      ap (λ b. if b then v else word_by lines (setter_at setters h)) ((bytes_eq-Decides name q).1 same)
      ∙ sym (ap (word_by lines) there ∙ ap word_of is)
  word_at (inr d) =
      ap (λ b. if b then v else word_by lines (setter_at setters h)) (other_name ports name q (Some t) (Some h) f g (λ e. d (let s : t ≡ h = cc in sym s)))
      ∙ ap (word_by lines) (sym (get_or-set_other setters t h (Some i) None d))

-- one line more
held_step : (ports : List Wire) (lines : List LineData) (i k : ℕ) (setters : List (Option ℕ)) (x : LineData) (rest : List LineData) (q : List ℕ) (h m : ℕ) → get_or lines i (cycle_line 0) ≡ x → place_named ports q ≡ Some h → k ≤ m → is_later_line k x ≡ false → IfSome (target_of ports x) (λ t. t < length setters)
    → held_by (x ∷ rest) q m (word_by lines (setter_at setters h)) ≡ held_by rest q m (word_by lines (setter_at (setters_after setters (target_of ports x) i) h))
held_step ports lines i k setters (cycle_line j) rest q h m is g l now inside =
    let t : nat_le j m ≡ true = grind (arith, nat_tests) in
    ap (λ b. if b then held_by rest q m (word_by lines (setter_at setters h)) else word_by lines (setter_at setters h)) t
held_step ports lines i k setters (set_line name v) rest q h m is g l now inside =
    ap (held_by rest q m) (word_after ports lines i setters name q v h (place_named ports name) is g refl inside)
held_step ports lines i k setters (reg_line name v) rest q h m is g l now inside = refl
held_step ports lines i k setters (mem_line name a v) rest q h m is g l now inside = refl
held_step ports lines i k setters (release_line name bits) rest q h m is g l now inside = refl

passes_step : (ports : List Wire) (lines : List LineData) (k from i : ℕ) (first setters after : List (Option ℕ)) → Passes ports lines k from first i setters → i < length lines → is_later_line k (get_or lines i (cycle_line 0)) ≡ false → IfSome (target_of ports (get_or lines i (cycle_line 0))) (λ t. t < length setters) → after ≡ setters_after setters (target_of ports (get_or lines i (cycle_line 0))) i → Passes ports lines k from first (i + 1) after
passes_step ports lines k from i first setters after so_far h now inside made = λ q home m g l.
    so_far q home m g l
    ∙ at_drop_more (λ xs. held_by xs q m (word_by lines (setter_at setters home))) lines i (cycle_line 0) h
    ∙ held_step ports lines i k setters (get_or lines i (cycle_line 0)) (drop (i + 1) lines) q home m refl g l now inside
    ∙ ap (λ s. held_by (drop (i + 1) lines) q m (word_by lines (setter_at s home))) (sym made)

pub passes_line : (ports : List Wire) (lines : List StimLine) (targets : List (Option ℕ)) (k from i : ℕ) (first setters after : List (Option ℕ)) (x : StimLine) (later : Bool) → Passes ports (map line_seen lines) k from first i setters → i < length lines → x ≡ get_or lines i x → later ≡ is_later_line k (line_seen x) → later ≡ false
    → targets ≡ map (target_of ports) (map line_seen lines) → IfSome (get_or targets i None) (λ t. t < length setters) → after ≡ setters_after setters (get_or targets i None) i → Passes ports (map line_seen lines) k from first (i + 1) after
passes_line ports lines targets k from i first setters after x later so_far h is test so same inside made =
    let within : i < length (map line_seen lines) = (let e : length (map line_seen lines) ≡ length lines = simp length-map in omega arith) in
    let target : get_or targets i None ≡ target_of ports (get_or (map line_seen lines) i (cycle_line 0)) =
    ap (λ (ts : List (Option ℕ)). get_or ts i None) same ∙ get_or-map (target_of ports) (map line_seen lines) i (cycle_line 0) None within in
    let P : Option ℕ → Type 0 = λ o. IfSome o (λ t. t < length setters) in
    passes_step ports (map line_seen lines) k from i first setters after so_far within
    (ap (is_later_line k) (sym (seen_at lines i x (cycle_line 0) h is)) ∙ sym test ∙ so)
    (subst P target inside)
    (made ∙ ap (λ o. setters_after setters o i) target)

pub if_some : (o : Option ℕ) (n : ℕ) → ((h : ℕ) → o ≡ Some h → h < n) → IfSome o (λ t. t < n)
if_some None n k = tt
if_some (Some h) n k = k h refl

-- ---- the ports of lines, one after another

pub targets_more : (ports : List Wire) (lines : List LineData) (i : ℕ) (before after : List (Option ℕ)) (target : Option ℕ) → i < length lines → before ≡ map (target_of ports) (take i lines) → target ≡ target_of ports (line_at lines i) → after ≡ before ++ target ∷ [] → after ≡ map (target_of ports) (take (i + 1) lines)
targets_more ports lines i before after target h was is made =
    made
    ∙ ap (λ (ts : List (Option ℕ)). ts ++ target ∷ []) was
    ∙ ap (λ (t : Option ℕ). map (target_of ports) (take i lines) ++ t ∷ []) is
    ∙ sym (ap (map (target_of ports)) (take_more lines i (cycle_line 0) h) ∙ map-append (target_of ports) (take i lines) (line_at lines i ∷ []))

pub targets_all : (ports : List Wire) (lines : List LineData) (i : ℕ) (targets : List (Option ℕ)) → length lines ≤ i → targets ≡ map (target_of ports) (take i lines) → targets ≡ map (target_of ports) lines
targets_all ports lines i targets h is = is ∙ ap (map (target_of ports)) (take_all i lines h)

pub as_many_read : (lines : List StimLine) (s : Stimulus) → map line_seen lines ≡ s.lines → length lines ≡ length s.lines
as_many_read lines s seen = sym (length-map lines line_seen) ∙ ap (λ (ls : List LineData). length ls) seen

-- ---- a cursor

-- the places that lines set are places of ports
target_inside : (n : Netlist) (x : LineData) (h : ℕ) → target_of n.inputs x ≡ Some h → h < length n.inputs
target_inside n (set_line name v) h e = (named n.inputs name h e).inside
target_inside n (cycle_line k) h e = absurd (cc)
target_inside n (reg_line name v) h e = absurd (cc)
target_inside n (mem_line name a v) h e = absurd (cc)
target_inside n (release_line name bits) h e = absurd (cc)

targets_inside : (n : Netlist) (lines : List LineData) (i h : ℕ) → get_or (map (target_of n.inputs) lines) i None ≡ Some h → h < length n.inputs
targets_inside n [] i h e = absurd (cc)
targets_inside n (x ∷ xs) zero h e = target_inside n x h e
targets_inside n (x ∷ xs) (suc i) h e = targets_inside n xs i h e

pub places_inside : (n : Netlist) (s : Stimulus) (names : InputMap) (i h : ℕ) → IsMapOf n s names → get_or names.targets.items i None ≡ Some h → h < length n.inputs
places_inside n s names i h known e = targets_inside n s.lines i h (ap (λ (ts : List (Option ℕ)). get_or ts i None) (sym known.targets) ∙ e)

pub as_many_targets : (n : Netlist) (s : Stimulus) (names : InputMap) (lines : List StimLine) → IsMapOf n s names → map line_seen lines ≡ s.lines → length names.targets.items ≡ length lines
as_many_targets n s names lines known seen =
    ap (λ (ts : List (Option ℕ)). length ts) known.targets
    ∙ length-map s.lines (target_of n.inputs)
    ∙ ap (λ (ls : List LineData). length ls) (sym seen)
    ∙ length-map lines line_seen

pub as_many_lines : (lines : List StimLine) (s : Stimulus) (passed : ℕ) → map line_seen lines ≡ s.lines → passed ≤ length s.lines → passed ≤ length lines
as_many_lines lines s passed seen h =
    let e : length s.lines ≡ length lines = ap (λ (ls : List LineData). length ls) (sym seen) ∙ length-map lines line_seen in
    omega arith

pub lines_as_many : (lines : List StimLine) (s : Stimulus) (passed : ℕ) → map line_seen lines ≡ s.lines → passed ≤ length lines → passed ≤ length s.lines
lines_as_many lines s passed seen h =
    let e : length s.lines ≡ length lines = ap (λ (ls : List LineData). length ls) (sym seen) ∙ length-map lines line_seen in
    omega arith

-- what ports hold, by the lines up to a place
abbrev pub SoFar : Netlist → Stimulus → ℕ → ℕ → List (Option ℕ) → Type 0
SoFar n s cycle passed setters = (q : List ℕ) (h m : ℕ) → place_named n.inputs q ≡ Some h → cycle ≤ m → held_by s.lines q m unset ≡ held_by (drop passed s.lines) q m (word_by s.lines (setter_at setters h))

-- before any line
pub so_far_none : (n : Netlist) (s : Stimulus) (count : ℕ) → SoFar n s 0 0 (replicate count None)
so_far_none n s count = λ q h m g l. ap (λ o. held_by s.lines q m (word_by s.lines o)) (sym (none_at count h)) where
  none_at : (count h : ℕ) → setter_at (replicate count None) h ≡ None
  none_at zero h = refl
  none_at (suc count) zero = refl
  none_at (suc count) (suc h) = none_at count h

pub so_far_passed : (n : Netlist) (s : Stimulus) (names : InputMap) (lines : List StimLine) (cycle later from to : ℕ) (before after : List (Option ℕ)) → IsMapOf n s names → map line_seen lines ≡ s.lines → cycle ≤ later → SoFar n s cycle from before
    → ((ports : List Wire) → names.targets.items ≡ map (target_of ports) (map line_seen lines) → Passes ports (map line_seen lines) later from before to after) → SoFar n s later to after
so_far_passed n s names lines cycle later from to before after known seen rise so_far passes = λ q h m g l.
    let P : List LineData → Type 0 = λ ls. Passes n.inputs ls later from before to after in
    let passed = subst P seen (passes n.inputs (known.targets ∙ ap (map (target_of n.inputs)) (sym seen))) in
    so_far q h m g (omega arith) ∙ passed q h m g l

pub stops_seen : (s : Stimulus) (lines : List StimLine) (k to : ℕ) → map line_seen lines ≡ s.lines → Stops (map line_seen lines) k to → Stops s.lines k to
stops_seen s lines k to seen h =
    let P : List LineData → Type 0 = λ ls. Stops ls k to in subst P seen h

-- ---- what a port holds

seen_or : (lines : List StimLine) (i : ℕ) → line_seen (get_or lines i (Cycle 0)) ≡ get_or (map line_seen lines) i (cycle_line 0)
seen_or [] i = refl
seen_or (x ∷ xs) zero = refl
seen_or (x ∷ xs) (suc i) = seen_or xs i

word_seen : (x : StimLine) → word_set x ≡ word_of (line_seen x)
word_seen (Set port value taint) = refl
word_seen (Reg cell value taint) = refl
word_seen (Mem cell a value taint) = refl
word_seen (Release name wire) = refl
word_seen (Cycle k) = refl

word_set_seen : (lines : List StimLine) (o : Option ℕ) → word_set_at lines o ≡ word_by (map line_seen lines) o
word_set_seen lines None = refl
word_set_seen lines (Some i) = word_seen (get_or lines i (Cycle 0)) ∙ ap word_of (seen_or lines i)

pub held_is : (n : Netlist) (s : Stimulus) (names : InputMap) (i : Inputs) (lines : List StimLine) (p : ℕ) (setter : Option ℕ) → IsAt n s names i → map line_seen lines ≡ s.lines → p < length n.inputs → setter ≡ get_or i.setters.items p setter → word_set_at lines setter ≡ input_at n s (cycle_of i) p
held_is n s names i lines p setter at seen h is =
    let inside : p < length i.setters.items = (let b = at.as_many in omega arith) in
    let there : setter ≡ setter_at i.setters.items p = is ∙ get_or_default i.setters.items p setter None inside in
    word_set_seen lines setter
    ∙ ap (λ (ls : List LineData). word_by ls setter) seen
    ∙ ap (word_by s.lines) there
    ∙ sym (at.stops (get_or n.inputs p no_wire).name _)
    ∙ sym (at.so_far (get_or n.inputs p no_wire).name p i.cycle (own_place port_name n.inputs p no_wire at.looked_up.in_order h) (omega arith))

-- the same, of the lists that are lent for the walk
pub so_far_moved : (n : Netlist) (s : Stimulus) (names : InputMap) (lines : List StimLine) (targets : List (Option ℕ)) (cycle later from to : ℕ) (was before after : List (Option ℕ)) → IsMapOf n s names → map line_seen lines ≡ s.lines → targets ≡ names.targets.items → before ≡ was → cycle ≤ later → SoFar n s cycle from was
    → ((ports : List Wire) → targets ≡ map (target_of ports) (map line_seen lines) → Passes ports (map line_seen lines) later from before to after) → SoFar n s later to after
so_far_moved n s names lines targets cycle later from to was before after known seen lent same rise so_far passes =
    let P : List (Option ℕ) → Type 0 = λ b. SoFar n s cycle from b in
    so_far_passed n s names lines cycle later from to before after known seen rise (subst P (sym same) so_far) (λ ports e. passes ports (lent ∙ e))

pub places_lent : (n : Netlist) (s : Stimulus) (names : InputMap) (targets setters was : List (Option ℕ)) → IsMapOf n s names → targets ≡ names.targets.items → setters ≡ was → length was ≡ length n.inputs → (i h : ℕ) → get_or targets i None ≡ Some h → h < length setters
places_lent n s names targets setters was known lent same as_many i h e =
    let inside = places_inside n s names i h known (ap (λ (ts : List (Option ℕ)). get_or ts i None) (sym lent) ∙ e) in
    let long : length setters ≡ length n.inputs = ap (λ (ss : List (Option ℕ)). length ss) same ∙ as_many in
    omega arith

-- a cursor, by the list that was written
pub is_at : (n : Netlist) (s : Stimulus) (names : InputMap) (i : Inputs) (written : List (Option ℕ)) → i.setters.items ≡ written → IsMapOf n s names → length written ≡ length n.inputs → i.passed ≤ length s.lines → SoFar n s i.cycle i.passed written → Stops s.lines i.cycle i.passed → IsAt n s names i
is_at n s names i written same known as_many inside so_far stops = record {
  looked_up = known;
  as_many = ap (λ (ss : List (Option ℕ)). length ss) same ∙ as_many;
  inside = inside;
  so_far = let P : List (Option ℕ) → Type 0 = λ ss. SoFar n s i.cycle i.passed ss in subst P (sym same) so_far;
  stops = stops;
}
