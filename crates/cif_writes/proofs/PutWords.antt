-- What a table of bits holds at a place once words are written.
use Rattle.std.specs.Prelude.{ℕ, zero, suc, ◌+◌, ◌<◌, ◌≡◌, ◌≢◌, Bool, false, List, [], ◌∷◌, length, get_or, drop, Option, Some, None}
use Rattle.std.proofs.Common.{arith, ap, sym, ◌∙◌, refl, add-one, get_or-set_same, get_or-set_other, length-set}
use Rattle.cif_defs.specs.Words.{Word, bit}
use Rattle.cif_writes.specs.Writes.{cleared, put, put_word, put_words}

-- ---- one bit

length-put : (marks : List Bool) (t : Option ℕ) (x : Bool) (bits : List Bool) → length (put marks t x bits) ≡ length bits
length-put marks None x bits = refl
length-put marks (Some b) x bits = length-set bits b (cleared marks b x)

some_is : (a b : ℕ) → (Some a ≡ Some b → ⊥) → b ≢ a
some_is a b h e = h (ap (λ (x : ℕ). Some x) (sym e))

put_other : (marks : List Bool) (t : Option ℕ) (x : Bool) (bits : List Bool) (b : ℕ) → (t ≡ Some b → ⊥) → bit (put marks t x bits) b ≡ bit bits b
put_other marks None x bits b h = refl
put_other marks (Some a) x bits b h = get_or-set_other bits a b (cleared marks a x) false (some_is a b h)

put_here : (marks : List Bool) (x : Bool) (bits : List Bool) (b : ℕ) → b < length bits → bit (put marks (Some b) x bits) b ≡ cleared marks b x
put_here marks x bits b h = get_or-set_same bits b (cleared marks b x) false h

-- ---- one word

pub length-put_word : (marks : List Bool) (ts : List (Option ℕ)) (w : Word) (bits : List Bool) → length (put_word marks ts w bits) ≡ length bits
length-put_word marks [] w bits = refl
length-put_word marks (t ∷ ts) w bits = length-put_word marks ts (drop 1 w) (put marks t (bit w 0) bits) ∙ length-put marks t (bit w 0) bits

pub put_word_other : (marks : List Bool) (ts : List (Option ℕ)) (w : Word) (bits : List Bool) (b : ℕ) → ((i : ℕ) → get_or ts i None ≡ Some b → ⊥) → bit (put_word marks ts w bits) b ≡ bit bits b
put_word_other marks [] w bits b h = refl
put_word_other marks (t ∷ ts) w bits b h = put_word_other marks ts (drop 1 w) (put marks t (bit w 0) bits) b (λ i e. h (suc i) e) ∙ put_other marks t (bit w 0) bits b (λ e. h 0 e)

bit_drop : (w : Word) (i : ℕ) → bit (drop 1 w) i ≡ bit w (suc i)
bit_drop [] i = refl
bit_drop (x ∷ w) i = refl

pub put_word_here : (marks : List Bool) (ts : List (Option ℕ)) (w : Word) (bits : List Bool) (b i : ℕ) → b < length bits → get_or ts i None ≡ Some b → ((j : ℕ) → get_or ts j None ≡ Some b → j ≡ i)
    → bit (put_word marks ts w bits) b ≡ cleared marks b (bit w i)
put_word_here marks [] w bits b i l e one = absurd (cc)
put_word_here marks (t ∷ ts) w bits b zero l e one =
    put_word_other marks ts (drop 1 w) (put marks t (bit w 0) bits) b (λ j q. let z : suc j ≡ 0 = one (suc j) q in absurd (omega arith))
    ∙ ap (λ (x : Option ℕ). bit (put marks x (bit w 0) bits) b) e ∙ put_here marks (bit w 0) bits b l
put_word_here marks (t ∷ ts) w bits b (suc i) l e one =
    put_word_here marks ts (drop 1 w) (put marks t (bit w 0) bits) b i (let k : length (put marks t (bit w 0) bits) ≡ length bits = length-put marks t (bit w 0) bits in omega arith) e
    (λ j q. let z : suc j ≡ suc i = one (suc j) q in omega arith)
    ∙ ap (cleared marks b) (bit_drop w i)

-- ---- the words of a cell

pub length-put_words : (marks : List Bool) (outs : List (List (Option ℕ))) (ws : List Word) (bits : List Bool) → length (put_words marks outs ws bits) ≡ length bits
length-put_words marks [] ws bits = refl
length-put_words marks (ts ∷ outs) ws bits = length-put_words marks outs (drop 1 ws) (put_word marks ts (get_or ws 0 []) bits) ∙ length-put_word marks ts (get_or ws 0 []) bits

pub put_words_other : (marks : List Bool) (outs : List (List (Option ℕ))) (ws : List Word) (bits : List Bool) (b : ℕ) → ((p i : ℕ) → get_or (get_or outs p []) i None ≡ Some b → ⊥) → bit (put_words marks outs ws bits) b ≡ bit bits b
put_words_other marks [] ws bits b h = refl
put_words_other marks (ts ∷ outs) ws bits b h =
    put_words_other marks outs (drop 1 ws) (put_word marks ts (get_or ws 0 []) bits) b (λ p i e. h (suc p) i e) ∙ put_word_other marks ts (get_or ws 0 []) bits b (λ i e. h 0 i e)

word_drop : (ws : List Word) (p : ℕ) → get_or (drop 1 ws) p [] ≡ get_or ws (suc p) []
word_drop [] p = refl
word_drop (w ∷ ws) p = refl

pub put_words_here : (marks : List Bool) (outs : List (List (Option ℕ))) (ws : List Word) (bits : List Bool) (b p i : ℕ) → b < length bits → get_or (get_or outs p []) i None ≡ Some b
    → ((q j : ℕ) → get_or (get_or outs q []) j None ≡ Some b → (q ≡ p) × (j ≡ i)) → bit (put_words marks outs ws bits) b ≡ cleared marks b (bit (get_or ws p []) i)
put_words_here marks [] ws bits b p i l e one = absurd (cc)
put_words_here marks (ts ∷ outs) ws bits b zero i l e one =
    put_words_other marks outs (drop 1 ws) (put_word marks ts (get_or ws 0 []) bits) b (λ q j h. let z : suc q ≡ 0 = (one (suc q) j h).0 in absurd (omega arith))
    ∙ put_word_here marks ts (get_or ws 0 []) bits b i l e (λ j h. (one 0 j h).1)
put_words_here marks (ts ∷ outs) ws bits b (suc p) i l e one =
    put_words_here marks outs (drop 1 ws) (put_word marks ts (get_or ws 0 []) bits) b p i (let k : length (put_word marks ts (get_or ws 0 []) bits) ≡ length bits = length-put_word marks ts (get_or ws 0 []) bits in omega arith) e
    (λ q j h. let z : suc q ≡ suc p = (one (suc q) j h).0 in (omega arith, (one (suc q) j h).1))
    ∙ ap (λ (x : Word). cleared marks b (bit x i)) (word_drop ws p)

-- ---- step by step, as a loop goes

drop_nil : {A : Type 0} (i : ℕ) → drop {A = A} i [] ≡ []
drop_nil zero = refl
drop_nil (suc i) = refl

pub put_word_step : (marks : List Bool) (ts : List (Option ℕ)) (w : Word) (bits : List Bool) (i : ℕ) → i < length ts
    → put_word marks (drop i ts) (drop i w) bits ≡ put_word marks (drop (i + 1) ts) (drop (i + 1) w) (put marks (get_or ts i None) (bit w i) bits)
put_word_step marks ts w bits i h = rw add-one (step marks ts w bits i h) where
  step : (marks : List Bool) (ts : List (Option ℕ)) (w : Word) (bits : List Bool) (i : ℕ) → i < length ts
      → put_word marks (drop i ts) (drop i w) bits ≡ put_word marks (drop (suc i) ts) (drop (suc i) w) (put marks (get_or ts i None) (bit w i) bits)
  step marks [] w bits i h = absurd (omega arith)
  step marks (t ∷ ts) [] bits zero h = refl
  step marks (t ∷ ts) (x ∷ w) bits zero h = refl
  step marks (t ∷ ts) [] bits (suc i) h = sym (ap (λ (x : Word). put_word marks (drop i ts) x bits) (drop_nil i)) ∙ step marks ts [] bits i (omega arith)
  step marks (t ∷ ts) (x ∷ w) bits (suc i) h = step marks ts w bits i (omega arith)

pub put_words_step : (marks : List Bool) (outs : List (List (Option ℕ))) (ws : List Word) (bits : List Bool) (i : ℕ) → i < length outs
    → put_words marks (drop i outs) (drop i ws) bits ≡ put_words marks (drop (i + 1) outs) (drop (i + 1) ws) (put_word marks (get_or outs i []) (get_or ws i []) bits)
put_words_step marks outs ws bits i h = rw add-one (step marks outs ws bits i h) where
  step : (marks : List Bool) (outs : List (List (Option ℕ))) (ws : List Word) (bits : List Bool) (i : ℕ) → i < length outs
      → put_words marks (drop i outs) (drop i ws) bits ≡ put_words marks (drop (suc i) outs) (drop (suc i) ws) (put_word marks (get_or outs i []) (get_or ws i []) bits)
  step marks [] ws bits i h = absurd (omega arith)
  step marks (t ∷ outs) [] bits zero h = refl
  step marks (t ∷ outs) (x ∷ ws) bits zero h = refl
  step marks (t ∷ outs) [] bits (suc i) h = sym (ap (λ (x : List Word). put_words marks (drop i outs) x bits) (drop_nil i)) ∙ step marks outs [] bits i (omega arith)
  step marks (t ∷ outs) (x ∷ ws) bits (suc i) h = step marks outs ws bits i (omega arith)

-- the same, where the rest of a write is what is left to write
pub put_word_next : (marks : List Bool) (ts : List (Option ℕ)) (w : Word) (bits new whole : List Bool) (i : ℕ) (x : Bool) → i < length ts → x ≡ bit w i → new ≡ put marks (get_or ts i None) x bits → put_word marks (drop i ts) (drop i w) bits ≡ whole
    → put_word marks (drop (i + 1) ts) (drop (i + 1) w) new ≡ whole
put_word_next marks ts w bits new whole i x h e k q =
    ap (λ (b : List Bool). put_word marks (drop (i + 1) ts) (drop (i + 1) w) b) (k ∙ ap (λ y. put marks (get_or ts i None) y bits) e) ∙ sym (put_word_step marks ts w bits i h) ∙ q

pub put_words_next : (marks : List Bool) (outs : List (List (Option ℕ))) (ws : List Word) (bits new whole : List Bool) (i : ℕ) (out : List (Option ℕ)) (w : Word) → i < length outs → out ≡ get_or outs i [] → w ≡ get_or ws i [] → new ≡ put_word marks out w bits
    → put_words marks (drop i outs) (drop i ws) bits ≡ whole → put_words marks (drop (i + 1) outs) (drop (i + 1) ws) new ≡ whole
put_words_next marks outs ws bits new whole i out w h eo ew k q =
    ap (λ (b : List Bool). put_words marks (drop (i + 1) outs) (drop (i + 1) ws) b) (k ∙ ap (λ (o : List (Option ℕ)). put_word marks o w bits) eo ∙ ap (λ (u : Word). put_word marks (get_or outs i []) u bits) ew) ∙ sym (put_words_step marks outs ws bits i h) ∙ q
