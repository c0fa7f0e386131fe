-- The pieces of a text between the bytes c, one after another.
use Rattle.std.specs.Prelude.{ℕ, zero, suc, ◌+◌, ◌<◌, ◌≡◌, ◌==◌, nat_lt, Bool, true, false, not, ◌&&◌, ◌||◌, List, [], ◌∷◌, length, get_or, filter, position, Some, None, refl}
use Rattle.std.proofs.Common.{arith, sym, ap, ◌∙◌, cond, take, drop, add-one, if◌then◌else◌}
use Rattle.std.specs.List.{position_from, list_all}
use Rattle.std.proofs.lemmas.List.Quantifiers.{position-Some}
use Rattle.std.proofs.lemmas.Iterator.Adapters.{position_from-zero}
use Rattle.std.proofs.lemmas.Bool.{false≢true}
use Rattle.std.proofs.lemmas.Bool.Decides.{nat_tests}
use Rattle.cif_defs.specs.Text.{pieces, with_first, without_empty_last, lines_of, words_of, is_visible}

pieces-suc : (c : ℕ) (text : List ℕ) (e : ℕ) → e < length text → (get_or text e 0 == c) ≡ true → ((k : ℕ) → k < e → (get_or text k 0 == c) ≡ false) → pieces c text ≡ take e text ∷ pieces c (drop (suc e) text)
pieces-suc c [] e h t f = absurd (omega arith)
pieces-suc c (b ∷ bs) zero h t f = ap (λ s. if s then [] ∷ pieces c bs else with_first b (pieces c bs)) t
pieces-suc c (b ∷ bs) (suc e) h t f =
    ap (λ s. if s then [] ∷ pieces c bs else with_first b (pieces c bs)) (f 0 (omega arith))
    ∙ ap (with_first b) (pieces-suc c bs e (omega arith) t (λ k l. f (suc k) (omega arith)))

-- where the byte stands, the first piece ends
pub pieces-Some : (c : ℕ) (text : List ℕ) (e : ℕ) → position (λ b. b == c) text ≡ Some e → pieces c text ≡ take e text ∷ pieces c (drop (e + 1) text)
pieces-Some c text e h =
    let found = position-Some (λ b. b == c) text e 0 h in
    rw add-one (pieces-suc c text e found.0 found.1 found.2)

none_step : (c i b : ℕ) (bs : List ℕ) (s : Bool) → cond s (Some i) (position_from (λ x. x == c) (i + 1) bs) ≡ None → (position_from (λ x. x == c) (i + 1) bs ≡ None → pieces c bs ≡ bs ∷ []) → (if s then [] ∷ pieces c bs else with_first b (pieces c bs)) ≡ (b ∷ bs) ∷ []
none_step c i b bs true h next = absurd (cc)
none_step c i b bs false h next = ap (with_first b) (next h)

pieces-none_from : (c i : ℕ) (text : List ℕ) → position_from (λ b. b == c) i text ≡ None → pieces c text ≡ text ∷ []
pieces-none_from c i [] h = refl
pieces-none_from c i (b ∷ bs) h = none_step c i b bs (b == c) h (pieces-none_from c (i + 1) bs)

-- where it doesn't stand, all is one piece
pub pieces-None : (c : ℕ) (text : List ℕ) → position (λ b. b == c) text ≡ None → pieces c text ≡ text ∷ []
pieces-None c text h = pieces-none_from c 0 text (sym (position_from-zero (λ b. b == c) text) ∙ h)

first_of_step : (c b : ℕ) (bs : List ℕ) (s : Bool) → (p : List ℕ) × ((ps : List (List ℕ)) × (pieces c bs ≡ p ∷ ps)) → (p : List ℕ) × ((ps : List (List ℕ)) × ((if s then [] ∷ pieces c bs else with_first b (pieces c bs)) ≡ p ∷ ps))
first_of_step c b bs true rest = ([], (pieces c bs, refl))
first_of_step c b bs false (p, (ps, e)) = (b ∷ p, (ps, ap (with_first b) e))

-- a text has a first piece
pieces-first : (c : ℕ) (text : List ℕ) → (p : List ℕ) × ((ps : List (List ℕ)) × (pieces c text ≡ p ∷ ps))
pieces-first c [] = ([], ([], refl))
pieces-first c (b ∷ bs) = first_of_step c b bs (b == c) (pieces-first c bs)

-- only the last piece may be left out
kept_first : (p q : List ℕ) (qs : List (List ℕ)) → without_empty_last (p ∷ q ∷ qs) ≡ p ∷ without_empty_last (q ∷ qs)
kept_first [] q qs = refl
kept_first (b ∷ bs) q qs = refl

kept_before : (p : List ℕ) (ps : List (List ℕ)) → (q : List ℕ) × ((qs : List (List ℕ)) × (ps ≡ q ∷ qs)) → without_empty_last (p ∷ ps) ≡ p ∷ without_empty_last ps
kept_before p ps (q, (qs, e)) = ap (λ rest. without_empty_last (p ∷ rest)) e ∙ kept_first p q qs ∙ ap (λ rest. p ∷ without_empty_last rest) (sym e)

without_last-cons : (p : List ℕ) (c : ℕ) (rest : List ℕ) → without_empty_last (p ∷ pieces c rest) ≡ p ∷ without_empty_last (pieces c rest)
without_last-cons p c rest = kept_before p (pieces c rest) (pieces-first c rest)

pub lines-Some : (text : List ℕ) (e : ℕ) → position (λ b. b == 10) text ≡ Some e → lines_of text ≡ take e text ∷ lines_of (drop (e + 1) text)
unfolding lines_of
lines-Some text e h = ap without_empty_last (pieces-Some 10 text e h) ∙ without_last-cons (take e text) 10 (drop (e + 1) text)

whole_line : (text : List ℕ) → 0 < length text → without_empty_last (text ∷ []) ≡ text ∷ []
whole_line [] h = absurd (omega arith)
whole_line (b ∷ bs) h = refl

pub lines-None : (text : List ℕ) → 0 < length text → position (λ b. b == 10) text ≡ None → lines_of text ≡ text ∷ lines_of []
unfolding lines_of
lines-None text some h = ap without_empty_last (pieces-None 10 text h) ∙ whole_line text some

-- ---- words

abbrev is_word : List ℕ → Bool
is_word word = nat_lt 0 (length word)

no_space : (b : Bool) → not b ≡ false → b ≡ true
no_space true h = refl
no_space false h = absurd (cc)

-- a space at the beginning is passed over
space_first : (b : ℕ) (bs : List ℕ) → (b == 32) ≡ true → words_of (b ∷ bs) ≡ words_of bs
unfolding words_of
space_first b bs h = ap (λ s. filter is_word (if s then [] ∷ pieces 32 bs else with_first b (pieces 32 bs))) h

spaces_first : (text : List ℕ) (e : ℕ) → ((k : ℕ) → k < e → (get_or text k 32 == 32) ≡ true) → words_of (drop e text) ≡ words_of text
spaces_first text zero h = refl
spaces_first [] (suc e) h = refl
spaces_first (b ∷ bs) (suc e) h = spaces_first bs e (λ k l. h (suc k) (omega arith)) ∙ sym (space_first b bs (h 0 (omega arith)))

-- so are all spaces before the first other byte
pub begins_at : (text : List ℕ) (e : ℕ) → position (λ b. not (b == 32)) text ≡ Some e → (words_of (drop e text) ≡ words_of text) × (e < length text) × ((get_or text e 0 == 32) ≡ false)
begins_at text e h =
    let found = position-Some (λ b. not (b == 32)) text e 0 h in
    let spaces = position-Some (λ b. not (b == 32)) text e 32 h in
    (spaces_first text e (λ k l. no_space (get_or text k 32 == 32) (spaces.2 k l)), found.0, other (get_or text e 0 == 32) found.1) where
      other : (b : Bool) → not b ≡ true → b ≡ false
      other true k = absurd (cc)
      other false k = refl

pub begins_other : (text : List ℕ) (e : ℕ) → position (λ b. not (b == 32)) text ≡ Some e → (get_or (drop e text) 0 0 == 32) ≡ false
begins_other text e h = ap (λ b. b == 32) (first_of text e (begins_at text e h).1) ∙ (begins_at text e h).2 where
  first_of : (us : List ℕ) (i : ℕ) → i < length us → get_or (drop i us) 0 0 ≡ get_or us i 0
  first_of [] i l = absurd (omega arith)
  first_of (u ∷ us) zero l = refl
  first_of (u ∷ us) (suc i) l = first_of us i (omega arith)

blank_step : (i b : ℕ) (bs : List ℕ) (s : Bool) → (b == 32) ≡ s → cond (not s) (Some i) (position_from (λ x. not (x == 32)) (i + 1) bs) ≡ None → (position_from (λ x. not (x == 32)) (i + 1) bs ≡ None → words_of bs ≡ []) → words_of (b ∷ bs) ≡ []
blank_step i b bs true e h next = space_first b bs e ∙ next h
blank_step i b bs false e h next = absurd (cc)

blank_from : (i : ℕ) (text : List ℕ) → position_from (λ b. not (b == 32)) i text ≡ None → words_of text ≡ []
unfolding words_of
blank_from i [] h = refl
blank_from i (b ∷ bs) h = blank_step i b bs (b == 32) refl h (blank_from (i + 1) bs)

-- a text of spaces alone
pub no_words : (text : List ℕ) → position (λ b. not (b == 32)) text ≡ None → words_of text ≡ []
no_words text h = blank_from 0 text (sym (position_from-zero (λ b. not (b == 32)) text) ∙ h)

kept_word : (w : List ℕ) (ws : List (List ℕ)) → 0 < length w → filter is_word (w ∷ ws) ≡ w ∷ filter is_word ws
kept_word w ws h = (let t : nat_lt 0 (length w) ≡ true = grind (arith, nat_tests) in ap (λ b. cond b (w ∷ filter is_word ws) (filter is_word ws)) t)

-- the first word ends at a space
pub words-Some : (text : List ℕ) (e : ℕ) → 0 < length text → (get_or text 0 0 == 32) ≡ false → position (λ b. b == 32) text ≡ Some e → words_of text ≡ take e text ∷ words_of (drop (e + 1) text)
unfolding words_of
words-Some text e some begins h =
    let found = position-Some (λ b. b == 32) text e 0 h in
    ap (filter is_word) (pieces-Some 32 text e h) ∙ kept_word (take e text) (pieces 32 (drop (e + 1) text)) (taken text e begins found.0 found.1) where
      taken : (us : List ℕ) (i : ℕ) → (get_or us 0 0 == 32) ≡ false → i < length us → (get_or us i 0 == 32) ≡ true → 0 < length (take i us)
      taken [] i b h t = absurd (omega arith)
      taken (u ∷ us) zero b h t = absurd (cc)
      taken (u ∷ us) (suc i) b h t = omega arith

-- or at the end
pub words-None : (text : List ℕ) → 0 < length text → (get_or text 0 0 == 32) ≡ false → position (λ b. b == 32) text ≡ None → words_of text ≡ text ∷ []
unfolding words_of
words-None text some begins h = ap (filter is_word) (pieces-None 32 text h) ∙ kept_word text [] some

pub no_words_end : words_of [] ≡ []
unfolding words_of
no_words_end = refl

some_word : (b : ℕ) (bs : List ℕ) (ps : List (List ℕ)) → (p : List ℕ) × ((qs : List (List ℕ)) × (ps ≡ p ∷ qs)) → (length (filter is_word (with_first b ps)) == 0) ≡ false
some_word b bs ps (p, (qs, e)) =
    ap (λ (rest : List (List ℕ)). length (filter is_word (with_first b rest)) == 0) e
    ∙ ap (λ (ws : List (List ℕ)). length ws == 0) (kept_word (b ∷ p) qs (omega arith))
    ∙ none_of (length (filter is_word qs)) where
      none_of : (n : ℕ) → (suc n == 0) ≡ false
      none_of n = grind (arith, nat_tests)

blank_by : (b : ℕ) (bs : List ℕ) (s : Bool) → (b == 32) ≡ s → list_all (λ x. x == 32) bs ≡ (length (words_of bs) == 0) → (s && list_all (λ x. x == 32) bs) ≡ (length (words_of (b ∷ bs)) == 0)
unfolding words_of
blank_by b bs true e h = h ∙ ap (λ (ws : List (List ℕ)). length ws == 0) (sym (space_first b bs e))
blank_by b bs false e h = sym (ap (λ s. length (filter is_word (if s then [] ∷ pieces 32 bs else with_first b (pieces 32 bs))) == 0) e ∙ some_word b bs (pieces 32 bs) (pieces-first 32 bs))

-- a text has no words where it has spaces alone
pub is_blank : (text : List ℕ) → list_all (λ x. x == 32) text ≡ (length (words_of text) == 0)
unfolding words_of
is_blank [] = refl
is_blank (b ∷ bs) = blank_by b bs (b == 32) refl (is_blank bs)

-- ---- the bytes of words

and_assoc : (a b c : Bool) → (a && (b && c)) ≡ ((a && b) && c)
and_assoc true b c = refl
and_assoc false b c = refl

visible_first : (b : ℕ) (ps : List (List ℕ)) (rest : Bool) → (p : List ℕ) × ((qs : List (List ℕ)) × (ps ≡ p ∷ qs)) → rest ≡ list_all (list_all is_visible) ps → (is_visible b && rest) ≡ list_all (list_all is_visible) (with_first b ps)
visible_first b ps rest (p, (qs, e)) h =
    ap (λ r. is_visible b && r) (h ∙ ap (list_all (list_all is_visible)) e)
    ∙ and_assoc (is_visible b) (list_all is_visible p) (list_all (list_all is_visible) qs)
    ∙ ap (λ (rs : List (List ℕ)). list_all (list_all is_visible) (with_first b rs)) (sym e)

visible_by : (b : ℕ) (bs : List ℕ) (s : Bool) → list_all (λ x. x == 32 || is_visible x) bs ≡ list_all (list_all is_visible) (pieces 32 bs) → ((s || is_visible b) && list_all (λ x. x == 32 || is_visible x) bs) ≡ list_all (list_all is_visible) (if s then [] ∷ pieces 32 bs else with_first b (pieces 32 bs))
visible_by b bs true h = h
visible_by b bs false h = visible_first b (pieces 32 bs) _ (pieces-first 32 bs) h

visible_pieces : (text : List ℕ) → list_all (λ x. x == 32 || is_visible x) text ≡ list_all (list_all is_visible) (pieces 32 text)
visible_pieces [] = refl
visible_pieces (b ∷ bs) = visible_by b bs (b == 32) (visible_pieces bs)

-- an empty piece has no bytes
kept_bytes : (ps : List (List ℕ)) → list_all (list_all is_visible) (filter is_word ps) ≡ list_all (list_all is_visible) ps
kept_bytes [] = refl
kept_bytes ([] ∷ ps) = kept_bytes ps
kept_bytes ((b ∷ bs) ∷ ps) =
    ap (list_all (list_all is_visible)) (kept_word (b ∷ bs) ps (omega arith))
    ∙ ap (λ r. list_all is_visible (b ∷ bs) && r) (kept_bytes ps)

-- the bytes of a line but its spaces are those of its words
pub are_visible : (text : List ℕ) → list_all (λ x. x == 32 || is_visible x) text ≡ list_all (list_all is_visible) (words_of text)
unfolding words_of
are_visible text = visible_pieces text ∙ sym (kept_bytes (pieces 32 text))

kept_by : (w : List ℕ) (ws : List (List ℕ)) (s : Bool) → is_word w ≡ s → list_all is_word (filter is_word ws) ≡ true → list_all is_word (cond s (w ∷ filter is_word ws) (filter is_word ws)) ≡ true
kept_by w ws true e h = ap (λ b. b && list_all is_word (filter is_word ws)) e ∙ h
kept_by w ws false e h = h

all_kept : (ws : List (List ℕ)) → list_all is_word (filter is_word ws) ≡ true
all_kept [] = refl
all_kept (w ∷ ws) = kept_by w ws (is_word w) refl (all_kept ws)

-- each word has a byte
pub are_words : (text : List ℕ) → list_all (λ word. nat_lt 0 (length word)) (words_of text) ≡ true
unfolding words_of
are_words text = all_kept (pieces 32 text)

-- ---- empty texts

pub empty : (text : List ℕ) → true ≡ (length text == 0) → text ≡ []
empty [] h = refl
empty (b ∷ bs) h = absurd (grind (arith, nat_tests))

pub not_empty : (text : List ℕ) → false ≡ (length text == 0) → 0 < length text
not_empty [] h = absurd (false≢true h)
not_empty (b ∷ bs) h = omega arith

pub no_lines : lines_of [] ≡ []
unfolding lines_of
no_lines = refl
