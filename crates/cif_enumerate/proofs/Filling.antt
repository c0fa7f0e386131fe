-- Writing bits at the places of ones gives the completions.
use Rattle.std.specs.Prelude.{ℕ, suc, ◌+◌, ◌<◌, ◌≤◌, ◌≡◌, Bool, true, false, ◌&&◌, ◌||◌, List, [], ◌∷◌, ◌++◌, length, map, get_or, set, refl}
use Rattle.std.proofs.Common.{arith, sym, ap, ◌∙◌, subst, add-one}
use Rattle.std.proofs.Math.Path.{fun_ext}
use Rattle.std.proofs.lemmas.List.{length-map, length-set, get_or_default, get_or-set_same, set-set, set-get_or, map-append}
use Rattle.std.proofs.Math.Seq.{map-set_same}
use Rattle.cif_defs.specs.Words.{Word, bit, operand}
use Rattle.cif_defs.specs.Completions.{can_differ, some_word, some_words}
use Rattle.cif_enumerate.specs.TaintedPlaces.{AreWithin, is_wanted, places_from, places_in, some_filling, with_bit}
use Rattle.cif_enumerate.specs.declared.places.Place.{Place}

-- ---- one word

-- whether some way to write bits at the places of the ones of a word passes p
abbrev some_ones : ℕ → Word → Word → (Word → Bool) → Bool
some_ones i [] w p = p w
some_ones i (true ∷ t) w p = some_ones (suc i) t (set w i false) p || some_ones (suc i) t (set w i true) p
some_ones i (false ∷ t) w p = some_ones (suc i) t w p

some_ones-cons : (i : ℕ) (t : Word) (b : Bool) (w : Word) (p : Word → Bool) → some_ones (suc i) t (b ∷ w) p ≡ some_ones i t w (λ u. p (b ∷ u))
some_ones-cons i [] b w p = refl
some_ones-cons i (true ∷ t) b w p = rw (some_ones-cons (suc i) t b (set w i false) p, some_ones-cons (suc i) t b (set w i true) p) refl
some_ones-cons i (false ∷ t) b w p = some_ones-cons (suc i) t b w p

some_word-from_ones : (t v : Word) (p : Word → Bool) → length t ≡ length v → some_ones 0 t v p ≡ some_word v t p
some_word-from_ones [] [] p e = refl
some_word-from_ones [] (b ∷ v) p e = absurd (let q : 0 ≡ suc (length v) = e in omega arith)
some_word-from_ones (x ∷ t) [] p e = absurd (let q : suc (length t) ≡ 0 = e in omega arith)
some_word-from_ones (true ∷ t) (b ∷ v) p e =
    let shorter : length t ≡ length v = (let q : suc (length t) ≡ suc (length v) = e in omega arith) in
    let low = some_ones-cons 0 t false v p ∙ some_word-from_ones t v (λ u. p (false ∷ u)) shorter in
    let high = some_ones-cons 0 t true v p ∙ some_word-from_ones t v (λ u. p (true ∷ u)) shorter in
    rw (low, high) refl
some_word-from_ones (false ∷ t) (b ∷ v) p e =
    let shorter : length t ≡ length v = (let q : suc (length t) ≡ suc (length v) = e in omega arith) in
    some_ones-cons 0 t b v p ∙ some_word-from_ones t v (λ u. p (b ∷ u)) shorter

-- ---- words

-- the place of a bit where one more operand stands before
abbrev up : Place → Place
up place = record { port = suc place.port; index = place.index }

places_in-up : (port i : ℕ) (t : Word) → places_in (suc port) i t ≡ map up (places_in port i t)
places_in-up port i [] = refl
places_in-up port i (true ∷ t) = ap (λ (ps : List Place). record { port = suc port; index = i } ∷ ps) (places_in-up port (i + 1) t)
places_in-up port i (false ∷ t) = places_in-up port (i + 1) t

places_from-up : (port : ℕ) (ts : List Word) → places_from (suc port) ts ≡ map up (places_from port ts)
places_from-up port [] = refl
places_from-up port (t ∷ ts) =
    let next : suc port + 1 ≡ suc (port + 1) = omega arith in
    ap (λ (ps : List Place). ps ++ places_from (suc port + 1) ts) (places_in-up port 0 t)
    ∙ ap (λ n. map up (places_in port 0 t) ++ places_from n ts) next
    ∙ ap (λ (ps : List Place). map up (places_in port 0 t) ++ ps) (places_from-up (port + 1) ts)
    ∙ sym (map-append up (places_in port 0 t) (places_from (port + 1) ts))

some_filling-up : (places : List Place) (w : Word) (ws : List Word) (p : List Word → Bool) → some_filling (map up places) (w ∷ ws) p ≡ some_filling places ws (λ us. p (w ∷ us))
some_filling-up [] w ws p = refl
some_filling-up (place ∷ rest) w ws p = rw (some_filling-up rest w (with_bit ws place false) p, some_filling-up rest w (with_bit ws place true) p) refl

some_filling-first : (i : ℕ) (t : Word) (rest : List Place) (w : Word) (ws : List Word) (p : List Word → Bool) → some_filling (places_in 0 i t ++ map up rest) (w ∷ ws) p ≡ some_ones i t w (λ u. some_filling rest ws (λ us. p (u ∷ us)))
some_filling-first i [] rest w ws p = some_filling-up rest w ws p
some_filling-first i (true ∷ t) rest w ws p =
    let low = some_filling-first (i + 1) t rest (set w i false) ws p in
    let high = some_filling-first (i + 1) t rest (set w i true) ws p in
    rw (low, high, add-one i) refl
some_filling-first i (false ∷ t) rest w ws p = some_filling-first (i + 1) t rest w ws p ∙ ap (λ k. some_ones k t w (λ u. some_filling rest ws (λ us. p (u ∷ us)))) (add-one i)

-- writing bits at the places of the ones of the taints gives the completions of the values
pub completions_are_fillings : (vs ts : List Word) (p : List Word → Bool) → map length ts ≡ map length vs → some_filling (places_from 0 ts) vs p ≡ some_words vs ts p
completions_are_fillings [] [] p e = refl
completions_are_fillings [] (t ∷ ts) p e = absurd (cc)
completions_are_fillings (v ∷ vs) [] p e = absurd (cc)
completions_are_fillings (v ∷ vs) (t ∷ ts) p e =
    let first : length t ≡ length v = cc in
    let others : map length ts ≡ map length vs = cc in
    ap (λ (ps : List Place). some_filling (places_in 0 0 t ++ ps) (v ∷ vs) p) (places_from-up 0 ts)
    ∙ some_filling-first 0 t (places_from 0 ts) v vs p
    ∙ some_word-from_ones t v (λ u. some_filling (places_from 0 ts) vs (λ us. p (u ∷ us))) first
    ∙ ap (some_word v t) (fun_ext (λ u. completions_are_fillings vs ts (λ us. p (u ∷ us)) others))

-- ---- the words have the places of their taints

within_both : (n : List ℕ) (ps qs : List Place) → AreWithin n ps → AreWithin n qs → AreWithin n (ps ++ qs)
within_both n [] qs h k = k
within_both n (place ∷ ps) qs h k = (h.0, h.1, within_both n ps qs h.2 k)

within_up : (n : ℕ) (ns : List ℕ) (places : List Place) → AreWithin ns places → AreWithin (n ∷ ns) (map up places)
within_up n ns [] h = tt
within_up n ns (place ∷ rest) h = (omega (arith, h.0), h.1, within_up n ns rest h.2)

within_first : (n : ℕ) (ns : List ℕ) (i : ℕ) (t : Word) → i + length t ≤ n → AreWithin (n ∷ ns) (places_in 0 i t)
within_first n ns i [] h = tt
within_first n ns i (true ∷ t) h = (omega arith, (let k : i + suc (length t) ≤ n = h in omega arith), within_first n ns (i + 1) t (let k : i + suc (length t) ≤ n = h in omega arith))
within_first n ns i (false ∷ t) h = within_first n ns (i + 1) t (let k : i + suc (length t) ≤ n = h in omega arith)

pub places_within : (ts : List Word) → AreWithin (map length ts) (places_from 0 ts)
places_within [] = tt
places_within (t ∷ ts) =
    let whole = length t ∷ map length ts in
    within_both whole (places_in 0 0 t) (places_from 1 ts)
    (within_first (length t) (map length ts) 0 t (omega arith))
    (subst (λ (ps : List Place). AreWithin whole ps) (sym (places_from-up 0 ts)) (within_up (length t) (map length ts) (places_from 0 ts) (places_within ts)))

-- ---- writing at a place

pub widths_kept : (ws : List Word) (place : Place) (b : Bool) → map length (with_bit ws place b) ≡ map length ws
widths_kept ws place b = map-set_same length ws place.port (set (operand ws place.port) place.index b) [] (length-set (operand ws place.port) place.index b)

-- a place that is written twice
rewritten_in : (ws : List Word) (place : Place) (b d : Bool) → place.port < length ws → with_bit (with_bit ws place b) place d ≡ with_bit ws place d
rewritten_in ws place b d h =
    ap (λ (w : Word). set (with_bit ws place b) place.port (set w place.index d)) (get_or-set_same ws place.port (set (operand ws place.port) place.index b) [] h)
    ∙ ap (λ (w : Word). set (with_bit ws place b) place.port w) (set-set (operand ws place.port) place.index b d)
    ∙ set-set ws place.port (set (operand ws place.port) place.index b) (set (operand ws place.port) place.index d)

pub restored : (ws : List Word) (place : Place) (b : Bool) → b ≡ bit (operand ws place.port) place.index → with_bit ws place b ≡ ws
restored ws place b e =
    ap (λ d. with_bit ws place d) e
    ∙ ap (λ (w : Word). set ws place.port w) (set-get_or (operand ws place.port) place.index false)
    ∙ set-get_or ws place.port []

pub next_within : (n m : List ℕ) (place : Place) (places rest : List Place) → AreWithin n places → places ≡ place ∷ rest → m ≡ n → AreWithin m rest
next_within n m place places rest within split same =
    let whole : AreWithin n (place ∷ rest) = subst (λ (ps : List Place). AreWithin n ps) split within in
    subst (λ (k : List ℕ). AreWithin k rest) (sym same) whole.2

port_within : (ws : List Word) (place : Place) (places rest : List Place) → AreWithin (map length ws) places → places ≡ place ∷ rest → place.port < length ws
port_within ws place places rest within split =
    let whole : AreWithin (map length ws) (place ∷ rest) = subst (λ (ps : List Place). AreWithin (map length ws) ps) split within in
    let port : place.port < length (map length ws) = whole.0 in
    omega (arith, length-map ws length)

-- the words ws with both bits written at a place, and then its own bit again: w, u and then v, where the calls between
-- leave w1 and u1
pub record AreWritten (ws : List Word) (place : Place) (w w1 u u1 : List Word) : Type 0 where
  pub low : w ≡ with_bit ws place false
  pub low_kept : w1 ≡ w
  pub high : u ≡ with_bit w1 place true
  pub high_kept : u1 ≡ u

pub found_either : (ws w w1 u u1 : List Word) (place : Place) (places rest : List Place) (p : List Word → Bool) (x y : Bool) → AreWithin (map length ws) places → places ≡ place ∷ rest → AreWritten ws place w w1 u u1 → x ≡ some_filling rest w p → y ≡ some_filling rest u p → (x || y) ≡ some_filling places ws p
found_either ws w w1 u u1 place places rest p x y within split written low high =
    let port = port_within ws place places rest within split in
    let left : x ≡ some_filling rest (with_bit ws place false) p = low ∙ ap (λ (vs : List Word). some_filling rest vs p) written.low in
    let same : u ≡ with_bit ws place true = written.high ∙ ap (λ (vs : List Word). with_bit vs place true) (written.low_kept ∙ written.low) ∙ rewritten_in ws place false true port in
    let right : y ≡ some_filling rest (with_bit ws place true) p = high ∙ ap (λ (vs : List Word). some_filling rest vs p) same in
    ap (λ b. b || y) left ∙ ap (λ b. some_filling rest (with_bit ws place false) p || b) right ∙ ap (λ (ps : List Place). some_filling ps ws p) (sym split)

pub kept_after : (ws w w1 u u1 v : List Word) (place : Place) (places rest : List Place) (was : Bool) (d : Word) → AreWithin (map length ws) places → places ≡ place ∷ rest → AreWritten ws place w w1 u u1 → was ≡ bit (get_or ws place.port d) place.index → v ≡ with_bit u1 place was → v ≡ ws
kept_after ws w w1 u u1 v place places rest was d within split written e last =
    let port = port_within ws place places rest within split in
    let bit_was : was ≡ bit (operand ws place.port) place.index = e ∙ ap (λ (t : Word). bit t place.index) (get_or_default ws place.port d [] port) in
    let at_high : with_bit u1 place was ≡ with_bit (with_bit w1 place true) place was = ap (λ (vs : List Word). with_bit vs place was) (written.high_kept ∙ written.high) in
    let at_low : with_bit (with_bit w1 place true) place was ≡ with_bit (with_bit (with_bit ws place false) place true) place was = ap (λ (vs : List Word). with_bit (with_bit vs place true) place was) (written.low_kept ∙ written.low) in
    let once : with_bit (with_bit (with_bit ws place false) place true) place was ≡ with_bit (with_bit ws place true) place was = ap (λ (vs : List Word). with_bit vs place was) (rewritten_in ws place false true port) in
    last ∙ at_high ∙ at_low ∙ once ∙ rewritten_in ws place true was port ∙ restored ws place was bit_was

-- the same, of the steps that find them
pub found_completion : (vs ts ws : List Word) (places : List Place) (p : List Word → Bool) (b : Bool) → map length ts ≡ map length vs → ws ≡ vs → places ≡ places_from 0 ts → b ≡ some_filling places ws p → b ≡ some_words vs ts p
found_completion vs ts ws places p b shape copied listed found =
    found
    ∙ ap (λ (us : List Word). some_filling places us p) copied
    ∙ ap (λ (ps : List Place). some_filling ps vs p) listed
    ∙ completions_are_fillings vs ts p shape

pub listed_within : (vs ts ws : List Word) (places : List Place) → map length ts ≡ map length vs → ws ≡ vs → places ≡ places_from 0 ts → AreWithin (map length ws) places
listed_within vs ts ws places shape copied listed =
    let same : map length ts ≡ map length ws = shape ∙ sym (ap (map length) copied) in
    subst (λ (ps : List Place). AreWithin (map length ws) ps) (sym listed)
    (subst (λ (n : List ℕ). AreWithin n (places_from 0 ts)) same (places_within ts))

-- both bits are found exactly where the bit can differ
pub differs-from_both : (f : List Word → Bool) (vs ts : List Word) (x y : Bool) → x ≡ some_words vs ts (λ us. is_wanted true (f us)) → y ≡ some_words vs ts (λ us. is_wanted false (f us)) → (x && y) ≡ can_differ f vs ts
unfolding can_differ
differs-from_both f vs ts x y one zero = ap (λ b. b && y) one ∙ ap (λ b. some_words vs ts (λ us. is_wanted true (f us)) && b) zero
