-- Rows that are put into longer words, bit by bit.
use Rattle.std.specs.Prelude.{ℕ, zero, suc, ◌+◌, ◌*◌, ◌/◌, ◌%◌, ◌<◌, ◌≤◌, ◌≡◌, ◌≢◌, Bool, true, false, ◌==◌, length, slice_set, if◌then◌else◌, refl}
use Rattle.std.proofs.Common.{arith, ap, sym, ◌∙◌, cond, subst, inl, inr}
use Rattle.std.proofs.lemmas.Bool.Decides.{nat_tests}
use Rattle.std.proofs.lemmas.List.{length-set, get_or-set_same, get_or-set_other}
use Rattle.std.proofs.lemmas.Nat.{div-add-mod', div_below, row_fits, mod_below}
use Rattle.std.proofs.Math.Nat.{mul-zero}
use Rattle.cif_defs.specs.Words.{Word, bit, word}
use Rattle.cif_defs.specs.Stimulus.{with_row}
use Rattle.cif_defs.proofs.WordLaws.{le_or_lt, length-word, bit-word, same_words}
use Rattle.cif_cycle.specs.Rows.{IsPutAt}

-- one more bit
pub put_more : (place i : ℕ) (f : ℕ → Bool) (old now new : Word) (b : Bool) → IsPutAt place (word i f) old now → place + i < length now → new ≡ slice_set now (place + i) b → b ≡ f i → IsPutAt place (word (i + 1) f) old new
put_more place i f old now new b h l e made =
    let size : length (word i f) ≡ i = length-word i f in
    let more : length (word (i + 1) f) ≡ i + 1 = length-word (i + 1) f in
    record {
      as_long = ap length e ∙ length-set now (place + i) b ∙ h.as_long;
      inside = λ j k. elim (le_or_lt j i) [
        | inl low ↦ (let other : place + j ≢ place + i = omega arith in
            ap (λ w. bit w (place + j)) e ∙ get_or-set_other now (place + i) (place + j) b false other ∙ h.inside j (omega arith) ∙ bit-word i f j false low ∙ sym (bit-word (i + 1) f j false (omega arith)))
        | inr high ↦ (let same : j ≡ i = omega arith in
            ap (λ w. bit w (place + j)) e ∙ ap (λ q. bit (slice_set now (place + i) b) (place + q)) same ∙ get_or-set_same now (place + i) b false l ∙ made ∙ ap f (sym same) ∙ sym (bit-word (i + 1) f j false (omega arith)))
      ];
      below = λ k low. (let other : k ≢ place + i = omega arith in ap (λ w. bit w k) e ∙ get_or-set_other now (place + i) k b false other ∙ h.below k low);
      above = λ k high. (let other : k ≢ place + i = omega arith in ap (λ w. bit w k) e ∙ get_or-set_other now (place + i) k b false other ∙ h.above k (omega arith));
    }

-- a row of the whole width
pub put_whole : (f : ℕ → Bool) (old new : Word) → IsPutAt 0 (word (length old) f) old new → new ≡ word (length old) f
put_whole f old new h =
    let size : length (word (length old) f) ≡ length old = length-word (length old) f in
    same_words new (word (length old) f) (h.as_long ∙ sym size) (λ i l. ap (λ k. bit new k) (omega arith) ∙ h.inside i (let e : length new ≡ length old = h.as_long in omega arith))

-- ---- rows of w bits

-- each bit of a word, once row r is put
abbrev pub with_row_bit : ℕ → ℕ → Word → Word → ℕ → Bool
with_row_bit w r row old k = if k / w == r then bit row (k % w) else bit old k

row_hit : (w r : ℕ) (row old new : Word) (k : ℕ) (t : Bool) → 0 < w → length row ≡ w → IsPutAt (r * w) row old new → k / w ≡ r → t ≡ true → bit new k ≡ cond t (bit row (k % w)) (bit old k)
row_hit w r row old new k t pos long put same e =
    let place : r * w + k % w ≡ k = ap (λ q. q * w + k % w) (sym same) ∙ div-add-mod' k w in
    let low : k % w < length row = (let h = mod_below k w pos in omega arith) in
    ap (λ i. bit new i) (sym place) ∙ put.inside (k % w) low ∙ ap (λ b. cond b (bit row (k % w)) (bit old k)) (sym e)

row_below : (w r k : ℕ) → 0 < w → k / w < r → k < r * w
row_below w r k pos h =
    let whole = div-add-mod' k w in
    let low = mod_below k w pos in
    let fits = row_fits (k / w) w r w h (omega arith) in
    omega arith

row_above : (w r k : ℕ) → r < k / w → r * w + w ≤ k
row_above w r k h =
    let whole = div-add-mod' k w in
    let fits = row_fits r w (k / w) w h (omega arith) in
    omega arith

row_miss : (w r : ℕ) (row old new : Word) (k : ℕ) (t : Bool) → 0 < w → length row ≡ w → IsPutAt (r * w) row old new → k / w ≢ r → t ≡ false → bit new k ≡ cond t (bit row (k % w)) (bit old k)
row_miss w r row old new k t pos long put other e =
    (elim (le_or_lt (k / w) r) [
      | inl h ↦ put.below k (row_below w r k pos h)
      | inr h ↦ put.above k (let past = row_above w r k (omega arith) in omega arith)
    ]) ∙ ap (λ b. cond b (bit row (k % w)) (bit old k)) (sym e)

row_by : (w r : ℕ) (row old new : Word) (k : ℕ) (t : Bool) → 0 < w → length row ≡ w → IsPutAt (r * w) row old new → (k / w == r) ≡ t → bit new k ≡ cond t (bit row (k % w)) (bit old k)
row_by w r row old new k true pos long put e = row_hit w r row old new k true pos long put (grind (arith, nat_tests)) refl
row_by w r row old new k false pos long put e = row_miss w r row old new k false pos long put (grind (arith, nat_tests)) refl

pub put_bit : (w r : ℕ) (row old new : Word) → 0 < w → length row ≡ w → IsPutAt (r * w) row old new → (k : ℕ) → bit new k ≡ with_row_bit w r row old k
put_bit w r row old new pos long put k = row_by w r row old new k (k / w == r) pos long put refl

positive_factor : (s w i : ℕ) → i < s * w → 0 < w
positive_factor s zero i h = absurd (omega (arith, mul-zero s))
positive_factor s (suc w) i h = omega arith

-- a row of a word of whole rows
pub row_put : (rows w r : ℕ) (source old new : Word) → length old ≡ rows * w → IsPutAt (r * w) (word w (λ i. bit source i)) old new → new ≡ with_row (length old) w r source old
row_put rows w r source old new size put =
    let n : ℕ = length old in
    same_words new (with_row n w r source old) (put.as_long ∙ sym (length-word n _)) (λ k l.
    let low : k < n = (let e : length new ≡ n = put.as_long in omega arith) in
    let pos : 0 < w = positive_factor rows w k (omega arith) in
    put_bit w r (word w (λ i. bit source i)) old new pos (length-word w _) put k
    ∙ ap (λ b. if k / w == r then b else bit old k) (bit-word w (λ i. bit source i) (k % w) false (mod_below k w pos))
    ∙ sym (bit-word n _ k false low))

other_row : (w r k : ℕ) (source old : Word) (t : Bool) → (k / w == r) ≡ t → k / w < r → bit old k ≡ cond t (bit source (k % w)) (bit old k)
other_row w r k source old true e h = absurd (let same : k / w ≡ r = grind (arith, nat_tests) in omega arith)
other_row w r k source old false e h = refl

-- a row past the last
pub row_past : (rows w r : ℕ) (source old : Word) → length old ≡ rows * w → rows ≤ r → old ≡ with_row (length old) w r source old
row_past rows w r source old size past =
    let n : ℕ = length old in
    same_words old (with_row n w r source old) (sym (length-word n _)) (λ k l.
    let pos : 0 < w = positive_factor rows w k (omega arith) in
    let low : k / w < rows = div_below k w rows pos (omega arith) in
    other_row w r k source old (k / w == r) refl (omega arith) ∙ sym (bit-word n _ k false l))

-- a row of the rows of a word lies inside it
pub row_inside : (rows w r n : ℕ) → r < rows → n ≡ rows * w → r * w + w ≤ n
row_inside rows w r n h e = let fits = row_fits r w rows w h (omega arith) in omega arith

-- ---- a row that is written, bit by bit

step_hit : (w r : ℕ) (on d : ℕ → Bool) (old changed : Word) (k : ℕ) → 0 < w → changed ≡ word w (λ i. if on i then d i else bit old (r * w + i)) → k / w ≡ r → bit changed (k % w) ≡ (if on (k % w) then d (k % w) else bit old k)
step_hit w r on d old changed k pos e same =
    let place : r * w + k % w ≡ k = ap (λ q. q * w + k % w) (sym same) ∙ div-add-mod' k w in
    ap (λ x. bit x (k % w)) e ∙ bit-word w _ (k % w) false (mod_below k w pos) ∙ ap (λ i. if on (k % w) then d (k % w) else bit old i) place

step_by : (w r : ℕ) (on d : ℕ → Bool) (old changed : Word) (k : ℕ) (t b : Bool) → 0 < w → changed ≡ word w (λ i. if on i then d i else bit old (r * w + i)) → (k / w == r) ≡ t → bit old k ≡ b
    → cond t (bit changed (k % w)) (bit old k) ≡ cond t (if on (k % w) then d (k % w) else b) b
step_by w r on d old changed k true b pos e hit before = step_hit w r on d old changed k pos e (grind (arith, nat_tests)) ∙ ap (λ x. if on (k % w) then d (k % w) else x) before
step_by w r on d old changed k false b pos e hit before = before

-- a word of the bits f becomes one of the bits g, where row r takes d at the places that are on
pub row_step : (n w r : ℕ) (f g on d : ℕ → Bool) (old new changed : Word) → 0 < w → old ≡ word n f → changed ≡ word w (λ i. if on i then d i else bit old (r * w + i)) → IsPutAt (r * w) changed old new
    → ((k : ℕ) → g k ≡ cond (k / w == r) (if on (k % w) then d (k % w) else f k) (f k)) → new ≡ word n g
row_step n w r f g on d old new changed pos before made put after =
    let whole : length old ≡ n = ap length before ∙ length-word n f in
    same_words new (word n g) (put.as_long ∙ whole ∙ sym (length-word n g)) (λ k l.
    let low : k < n = (let e : length new ≡ n = put.as_long ∙ whole in omega arith) in
    put_bit w r changed old new pos (ap length made ∙ length-word w _) put k
    ∙ step_by w r on d old changed k (k / w == r) (f k) pos made refl (ap (λ (x : Word). bit x k) before ∙ bit-word n f k false low)
    ∙ sym (after k) ∙ sym (bit-word n g k false low))

-- the bits of a word are the word
pub word_of_bits : (w : Word) (n : ℕ) → n ≡ length w → word n (λ i. bit w i) ≡ w
word_of_bits w n e = same_words (word n (λ i. bit w i)) w (length-word n _ ∙ e) (λ i l. let low : i < n = (let q : length (word n (λ j. bit w j)) ≡ n = length-word n _ in omega arith) in bit-word n (λ j. bit w j) i false low)

-- all bits of a row are put
pub put_done : (place i : ℕ) (row old new : Word) → IsPutAt place (word i (λ j. bit row j)) old new → i ≡ length row → IsPutAt place row old new
put_done place i row old new h e = subst (λ (x : Word). IsPutAt place x old new) (word_of_bits row i e) h

pub put_all : (place i n : ℕ) (row : ℕ → Word) (old new : Word) → IsPutAt place (row i) old new → i ≡ n → IsPutAt place (row n) old new
put_all place i n row old new h e = subst (λ k. IsPutAt place (row k) old new) e h

-- a bit that is not reached yet
pub put_ahead : (place i : ℕ) (f : ℕ → Bool) (old now : Word) (j : ℕ) → IsPutAt place (word i f) old now → j ≡ i → bit now (place + j) ≡ bit old (place + i)
put_ahead place i f old now j h e = h.above (place + j) (let q : length (word i f) ≡ i = length-word i f in omega arith) ∙ ap (λ k. bit old (place + k)) e

pub put_same : (place : ℕ) (row seen old new : Word) → row ≡ seen → IsPutAt place row old new → IsPutAt place seen old new
put_same place row seen old new e h = subst (λ (x : Word). IsPutAt place x old new) e h
