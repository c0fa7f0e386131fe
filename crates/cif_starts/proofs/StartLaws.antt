-- What a cell starts with, line by line of those that name it.
use Rattle.std.specs.Prelude.{ℕ, suc, ◌+◌, ◌-◌, ◌/◌, ◌%◌, ◌<◌, ◌≤◌, ◌≡◌, ◌==◌, Bool, true, false, List, [], ◌∷◌, length, get_or, drop, bytes_eq, Option, Some, if◌then◌else◌, refl}
use Rattle.std.proofs.Common.{arith, ap, sym, ◌∙◌, cond, subst}
use Rattle.std.proofs.lemmas.List.{drop_more, length-drop}
use Rattle.cif_defs.specs.Words.{Word, bit, word}
use Rattle.cif_defs.specs.Cells.{Cell, width, number_of, state_bits}
use Rattle.cif_defs.specs.Stimulus.{StimLine, TaintedWord, reg_line, mem_line, release_line, cycle_line, set_line, started_by, with_row, sized}
use Rattle.cif_defs.specs.declared.kinds.Param.TheVariants.{Offset}
use Rattle.cif_defs.proofs.WordLaws.{length-word, bit-word, same_words}
use Rattle.cif_stimulus.specs.Names.{line_at}
use Rattle.cif_starts.specs.Starts.{starts_named, start_from, rest_from, SameBits, StartsAt, StartedTo}

-- ---- lines that name no cell of a name are passed over

passed_by : (t : Bool) (u w : TaintedWord) → t ≡ false → (if t then u else w) ≡ w
passed_by true u w e = absurd (cc)
passed_by false u w e = refl

-- a line that doesn't name the cell
pub passed_line : (line : StimLine) (lines : List StimLine) (c : Cell) (w : TaintedWord) → starts_named c.name line ≡ false → started_by (line ∷ lines) c w ≡ started_by lines c w
passed_line (reg_line name v) lines c w e = ap (λ u. started_by lines c u) (passed_by (bytes_eq name c.name) _ w e)
passed_line (mem_line name address v) lines c w e = ap (λ u. started_by lines c u) (passed_by (bytes_eq name c.name) _ w e)
passed_line (release_line name bits) lines c w e = refl
passed_line (cycle_line k) lines c w e = refl
passed_line (set_line name v) lines c w e = refl

-- one line, and those after it
pub one_line : (line : StimLine) (lines : List StimLine) (c : Cell) (w : TaintedWord) → started_by (line ∷ lines) c w ≡ started_by lines c (started_by (line ∷ []) c w)
one_line (reg_line name v) lines c w = refl
one_line (mem_line name address v) lines c w = refl
one_line (release_line name bits) lines c w = refl
one_line (cycle_line k) lines c w = refl
one_line (set_line name v) lines c w = refl

next_rest : (line : StimLine) (xs lines : List StimLine) (i : ℕ) → line ∷ xs ≡ drop i lines → i + suc (length xs) ≡ length lines → xs ≡ drop (i + 1) lines
next_rest line xs lines i e h = let m : drop i lines ≡ get_or lines i line ∷ drop (i + 1) lines = drop_more lines i line (omega arith) in cc

passed_to : (lines : List StimLine) (c : Cell) (w : TaintedWord) (i : ℕ) (xs : List StimLine) → xs ≡ drop i lines → i + length xs ≡ length lines → started_by xs c w ≡ started_by (rest_from lines (start_from i xs c.name)) c w
passed_to lines c w i [] e h = refl
passed_to lines c w i (line ∷ xs) e h =
    passed_test lines c w i line xs (starts_named c.name line) refl e (passed_to lines c w (i + 1) xs (next_rest line xs lines i e h) (omega arith)) where
      passed_test : (lines : List StimLine) (c : Cell) (w : TaintedWord) (i : ℕ) (line : StimLine) (xs : List StimLine) (t : Bool) → starts_named c.name line ≡ t → line ∷ xs ≡ drop i lines
          → started_by xs c w ≡ started_by (rest_from lines (start_from (i + 1) xs c.name)) c w
          → started_by (line ∷ xs) c w ≡ started_by (rest_from lines (cond t (Some i) (start_from (i + 1) xs c.name))) c w
      passed_test lines c w i line xs true n e next = ap (λ ls. started_by ls c w) e
      passed_test lines c w i line xs false n e next = passed_line line xs c w n ∙ next

length_rest : (lines : List StimLine) (i : ℕ) → i ≤ length lines → i + length (drop i lines) ≡ length lines
length_rest lines i h = omega (arith, length-drop i lines)

-- from the next line that names the cell on, the same is made of a word as from a place on
pub passed : (lines : List StimLine) (c : Cell) (w : TaintedWord) (i : ℕ) → i ≤ length lines → started_by (drop i lines) c w ≡ started_by (rest_from lines (start_from i (drop i lines) c.name)) c w
passed lines c w i h = passed_to lines c w i (drop i lines) refl (length_rest lines i h)

-- ---- where the next line stands

pub record IsStart (lines : List StimLine) (q : List ℕ) (i p : ℕ) : Type 0 where
  pub from : i ≤ p
  pub inside : p < length lines
  pub named : (d : StimLine) → starts_named q (get_or lines p d) ≡ true

start_at_place : (lines : List StimLine) (q : List ℕ) (i : ℕ) (xs : List StimLine) (p : ℕ) → xs ≡ drop i lines → i + length xs ≡ length lines → start_from i xs q ≡ Some p → IsStart lines q i p
start_at_place lines q i [] p e h f = absurd (cc)
start_at_place lines q i (line ∷ xs) p e h f =
    here_or_later lines q i line xs p (starts_named q line) refl e h f (λ g. start_at_place lines q (i + 1) xs p (next_rest line xs lines i e h) (omega arith) g) where
      later : (lines : List StimLine) (q : List ℕ) (i p : ℕ) → IsStart lines q (i + 1) p → IsStart lines q i p
      later lines q i p s = record { from = (let h = s.from in omega arith); inside = s.inside; named = s.named }

      here_or_later : (lines : List StimLine) (q : List ℕ) (i : ℕ) (line : StimLine) (xs : List StimLine) (p : ℕ) (t : Bool) → starts_named q line ≡ t → line ∷ xs ≡ drop i lines → i + suc (length xs) ≡ length lines
          → cond t (Some i) (start_from (i + 1) xs q) ≡ Some p → (start_from (i + 1) xs q ≡ Some p → IsStart lines q (i + 1) p) → IsStart lines q i p
      here_or_later lines q i line xs p true n e h f next =
          let same : i ≡ p = cc in
          record {
            from = omega arith;
            inside = omega arith;
            named = λ d. (let m : drop i lines ≡ get_or lines i d ∷ drop (i + 1) lines = drop_more lines i d (omega arith) in
                let it : get_or lines i d ≡ line = cc in ap (λ k. starts_named q (get_or lines k d)) (sym same) ∙ ap (starts_named q) it ∙ n);
          }
      here_or_later lines q i line xs p false n e h f next = later lines q i p (next f)

pub is_start : (lines : List StimLine) (q : List ℕ) (i p : ℕ) → i ≤ length lines → start_from i (drop i lines) q ≡ Some p → IsStart lines q i p
is_start lines q i p h f = start_at_place lines q i (drop i lines) p refl (length_rest lines i h) f

-- ---- the same bits make the same bits

pub same_of : (n : ℕ) (u : TaintedWord) → SameBits n u u
same_of n u = record { value = λ i h. refl; taint = λ i h. refl }

same_if : (n : ℕ) (t : Bool) (x u v : TaintedWord) → SameBits n u v → SameBits n (if t then x else u) (if t then x else v)
same_if n true x u v s = same_of n x
same_if n false x u v s = s

same_either : (n : ℕ) (t : Bool) (x y u v : TaintedWord) → SameBits n x y → SameBits n u v → SameBits n (if t then x else u) (if t then y else v)
same_either n true x y u v s z = s
same_either n false x y u v s z = z

row_same : (n w r : ℕ) (x u v : Word) → ((i : ℕ) → i < n → bit u i ≡ bit v i) → (i : ℕ) → i < n → bit (with_row n w r x u) i ≡ bit (with_row n w r x v) i
row_same n w r x u v s i h = bit-word n _ i false h ∙ ap (λ b. if i / w == r then bit x (i % w) else b) (s i h) ∙ sym (bit-word n _ i false h)

abbrev rows_given : Cell → ℕ → TaintedWord → TaintedWord → TaintedWord
rows_given c address w u = record { value = with_row (state_bits c) (width c) (address - number_of c Offset) w.value u.value; taint = with_row (state_bits c) (width c) (address - number_of c Offset) w.taint u.taint }

pub same_started : (lines : List StimLine) (c : Cell) (u v : TaintedWord) → SameBits (state_bits c) u v → SameBits (state_bits c) (started_by lines c u) (started_by lines c v)
same_started [] c u v s = s
same_started (reg_line name w ∷ lines) c u v s = same_started lines c _ _ (same_if (state_bits c) (bytes_eq name c.name) w u v s)
same_started (mem_line name address w ∷ lines) c u v s =
    same_started lines c _ _ (same_either (state_bits c) (bytes_eq name c.name) (rows_given c address w u) (rows_given c address w v) u v
    (record { value = row_same (state_bits c) (width c) (address - number_of c Offset) w.value u.value v.value s.value; taint = row_same (state_bits c) (width c) (address - number_of c Offset) w.taint u.taint v.taint s.taint }) s)
same_started (release_line name bits ∷ lines) c u v s = same_started lines c u v s
same_started (cycle_line k ∷ lines) c u v s = same_started lines c u v s
same_started (set_line name w ∷ lines) c u v s = same_started lines c u v s

pub same_along : (n : ℕ) (u v w : TaintedWord) → SameBits n u v → SameBits n v w → SameBits n u w
same_along n u v w s t = record { value = λ i h. s.value i h ∙ t.value i h; taint = λ i h. s.taint i h ∙ t.taint i h }

-- ---- one line of those that name a cell

place_of : (lines : List StimLine) (q : List ℕ) (i : ℕ) (at : Option ℕ) → i ≤ length lines → at ≡ start_from i (drop i lines) q → (p : ℕ) → at ≡ Some p → StartsAt lines q p
place_of lines q i at h e p f = let s = is_start lines q i p h (sym e ∙ f) in record { inside = s.inside; named = s.named (cycle_line 0) }

pub started_first : (lines : List StimLine) (c : Cell) (given now : TaintedWord) (at : Option ℕ) → at ≡ start_from 0 lines c.name → SameBits (state_bits c) given now → StartedTo lines c given at now
started_first lines c given now at e s =
    let P : TaintedWord → Type 0 = λ u. SameBits (state_bits c) (started_by lines c given) u in
    record {
      place = place_of lines c.name 0 at (omega arith) e;
      same = subst P (passed lines c now 0 (omega arith) ∙ ap (λ o. started_by (rest_from lines o) c now) (sym e)) (same_started lines c given now s);
    }

pub started_next : (lines : List StimLine) (c : Cell) (given now new : TaintedWord) (place : ℕ) (line : StimLine) (next : Option ℕ) → place < length lines → line ≡ line_at lines place → StartedTo lines c given (Some place) now
    → SameBits (state_bits c) (started_by (line ∷ []) c now) new → next ≡ start_from (place + 1) (drop (place + 1) lines) c.name → StartedTo lines c given next new
started_next lines c given now new place line next h is before made e =
    let rest : drop place lines ≡ line ∷ drop (place + 1) lines = drop_more lines place (cycle_line 0) h ∙ ap (λ l. l ∷ drop (place + 1) lines) (sym is) in
    let P : TaintedWord → Type 0 = λ u. SameBits (state_bits c) (started_by lines c given) u in
    let Q : TaintedWord → Type 0 = λ u. SameBits (state_bits c) (started_by (drop (place + 1) lines) c (started_by (line ∷ []) c now)) u in
    let one = subst P (ap (λ ls. started_by ls c now) rest ∙ one_line line (drop (place + 1) lines) c now) before.same in
    let two = subst Q (passed lines c new (place + 1) (omega arith) ∙ ap (λ o. started_by (rest_from lines o) c new) (sym e)) (same_started (drop (place + 1) lines) c _ new made) in
    record { place = place_of lines c.name (place + 1) next (omega arith) e; same = same_along (state_bits c) _ _ _ one two }

-- a word of n bits that has the first n bits of another
pub sized_value : (n : ℕ) (u : TaintedWord) (v : Word) → length v ≡ n → ((i : ℕ) → i < n → bit u.value i ≡ bit v i) → v ≡ (sized n u).value
sized_value n u v e h = same_words v _ (e ∙ sym (length-word n _)) (λ i l. let low : i < n = omega arith in sym (h i low) ∙ sym (bit-word n _ i false low))

pub sized_taint : (n : ℕ) (u : TaintedWord) (v : Word) → length v ≡ n → ((i : ℕ) → i < n → bit u.taint i ≡ bit v i) → v ≡ (sized n u).taint
sized_taint n u v e h = same_words v _ (e ∙ sym (length-word n _)) (λ i l. let low : i < n = omega arith in sym (h i low) ∙ sym (bit-word n _ i false low))

-- ---- what one line makes

abbrev two : Word → Word → TaintedWord
two v t = record { value = v; taint = t }

chosen_word : (b : Bool) (u w : TaintedWord) → b ≡ true → (if b then u else w) ≡ u
chosen_word b u w e = ap (λ x. if x then u else w) e

-- a line of a register gives a whole word
pub reg_taken : (c : Cell) (line : StimLine) (name : List ℕ) (v t old_value old_taint new_value new_taint : Word) → line ≡ reg_line name (two v t) → starts_named c.name line ≡ true
    → length old_value ≡ state_bits c → length old_taint ≡ state_bits c
    → new_value ≡ word (length old_value) (λ i. bit v i) → new_taint ≡ word (length old_taint) (λ i. bit t i)
    → SameBits (state_bits c) (started_by (line ∷ []) c (two old_value old_taint)) (two new_value new_taint)
reg_taken c line name v t old_value old_taint new_value new_taint is named lv lt ev et =
    let hit : bytes_eq name c.name ≡ true = ap (starts_named c.name) (sym is) ∙ named in
    let made : started_by (line ∷ []) c (two old_value old_taint) ≡ two v t = ap (λ l. started_by (l ∷ []) c (two old_value old_taint)) is ∙ chosen_word (bytes_eq name c.name) (two v t) (two old_value old_taint) hit in
    record {
      value = λ i h. ap (λ (u : TaintedWord). bit u.value i) made ∙ sym (ap (λ x. bit x i) ev ∙ bit-word (length old_value) (λ j. bit v j) i false (omega arith));
      taint = λ i h. ap (λ (u : TaintedWord). bit u.taint i) made ∙ sym (ap (λ x. bit x i) et ∙ bit-word (length old_taint) (λ j. bit t j) i false (omega arith));
    }

-- a line of a memory gives a row
pub mem_taken : (c : Cell) (line : StimLine) (name : List ℕ) (address w row : ℕ) (v t old_value old_taint new_value new_taint : Word) → line ≡ mem_line name address (two v t) → starts_named c.name line ≡ true
    → w ≡ width c → row ≡ address - number_of c Offset → length old_value ≡ state_bits c → length old_taint ≡ state_bits c
    → new_value ≡ with_row (length old_value) w row v old_value → new_taint ≡ with_row (length old_taint) w row t old_taint
    → SameBits (state_bits c) (started_by (line ∷ []) c (two old_value old_taint)) (two new_value new_taint)
mem_taken c line name address w row v t old_value old_taint new_value new_taint is named ew er lv lt ev et =
    let hit : bytes_eq name c.name ≡ true = ap (starts_named c.name) (sym is) ∙ named in
    let made : started_by (line ∷ []) c (two old_value old_taint) ≡ rows_given c address (two v t) (two old_value old_taint) =
    ap (λ l. started_by (l ∷ []) c (two old_value old_taint)) is ∙ chosen_word (bytes_eq name c.name) (rows_given c address (two v t) (two old_value old_taint)) (two old_value old_taint) hit in
    let value_is : new_value ≡ with_row (state_bits c) (width c) (address - number_of c Offset) v old_value = ev ∙ ap (λ n. with_row n w row v old_value) lv ∙ ap (λ n. with_row (state_bits c) n row v old_value) ew ∙ ap (λ n. with_row (state_bits c) (width c) n v old_value) er in
    let taint_is : new_taint ≡ with_row (state_bits c) (width c) (address - number_of c Offset) t old_taint = et ∙ ap (λ n. with_row n w row t old_taint) lt ∙ ap (λ n. with_row (state_bits c) n row t old_taint) ew ∙ ap (λ n. with_row (state_bits c) (width c) n t old_taint) er in
    record {
      value = λ i h. ap (λ (u : TaintedWord). bit u.value i) made ∙ sym (ap (λ x. bit x i) value_is);
      taint = λ i h. ap (λ (u : TaintedWord). bit u.taint i) made ∙ sym (ap (λ x. bit x i) taint_is);
    }
