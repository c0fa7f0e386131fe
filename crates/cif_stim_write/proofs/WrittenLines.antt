-- Lines of words that single spaces join, each ended by LF, can be split into these words again.
use Rattle.std.specs.Prelude.{ℕ, suc, ◌<◌, ◌≡◌, ◌==◌, nat_lt, Bool, true, false, not, ◌||◌, List, [], ◌∷◌, ◌++◌, length, map, get_or, filter, refl, if◌then◌else◌}
use Rattle.std.specs.List.{list_all}
use Rattle.std.proofs.Common.{arith, ap, ◌∙◌, cond}
use Rattle.std.proofs.lemmas.Bool.Decides.{nat_tests}
use Rattle.std.proofs.lemmas.List.Folds.{list_all-append}
use Rattle.cif_defs.specs.Text.{is_visible, space, line_end, number_sign, with_first, pieces, without_empty_last, lines_of, words_of, is_skipped}
use Rattle.cif_stimulus.specs.StimulusText.{NumberedLine, numbered}
use Rattle.cif_text.proofs.BoolTests.{both, and_true, untrue}

-- ---- pieces

-- a text without a byte
abbrev pub lacks : ℕ → List ℕ → Bool
lacks c text = list_all (λ b. not (b == c)) text

same : (c : ℕ) → (c == c) ≡ true
same c = grind (arith, nat_tests)

pieces-whole : (c : ℕ) (text : List ℕ) → lacks c text ≡ true → pieces c text ≡ text ∷ []
pieces-whole c [] h = refl
pieces-whole c (b ∷ bs) h =
    let parts = both (not (b == c)) (lacks c bs) h in
    ap (λ s. if s then [] ∷ pieces c bs else with_first b (pieces c bs)) (untrue (b == c) parts.0)
    ∙ ap (with_first b) (pieces-whole c bs parts.1)

pieces-first : (c : ℕ) (text rest : List ℕ) → lacks c text ≡ true → pieces c (text ++ c ∷ rest) ≡ text ∷ pieces c rest
pieces-first c [] rest h = ap (λ s. if s then [] ∷ pieces c rest else with_first c (pieces c rest)) (same c)
pieces-first c (b ∷ bs) rest h =
    let parts = both (not (b == c)) (lacks c bs) h in
    ap (λ s. if s then [] ∷ pieces c (bs ++ c ∷ rest) else with_first b (pieces c (bs ++ c ∷ rest))) (untrue (b == c) parts.0)
    ∙ ap (with_first b) (pieces-first c bs rest parts.1)

visible_is_other : (c b : ℕ) → c < 33 → is_visible b ≡ true → not (b == c) ≡ true
visible_is_other c b l h = grind (arith, nat_tests)

visible_lacks : (c : ℕ) (text : List ℕ) → c < 33 → list_all is_visible text ≡ true → lacks c text ≡ true
visible_lacks c [] l h = refl
visible_lacks c (b ∷ bs) l h =
    let parts = both (is_visible b) (list_all is_visible bs) h in
    and_true _ _ (visible_is_other c b l parts.0) (visible_lacks c bs l parts.1)

-- ---- words of a line

abbrev pub joined : List (List ℕ) → List ℕ
joined [] = []
joined (w ∷ []) = w
joined (w ∷ v ∷ ws) = w ++ space ∷ joined (v ∷ ws)

abbrev pub has_bytes : List ℕ → Bool
has_bytes w = nat_lt 0 (length w)

-- words of visible bytes, which begin no line that is passed over
pub record IsLine (ws : List (List ℕ)) : Type 0 where
  pub visible : list_all (list_all is_visible) ws ≡ true
  pub some : list_all has_bytes ws ≡ true
  pub counted : (length ws == 0 || get_or (joined ws) 0 space == number_sign) ≡ false

words_kept : (ws : List (List ℕ)) → list_all (list_all is_visible) ws ≡ true → list_all has_bytes ws ≡ true → filter has_bytes (pieces space (joined ws)) ≡ ws
words_kept [] v s = refl
words_kept (w ∷ []) v s =
    let visible = both (list_all is_visible w) true v in
    let some = both (has_bytes w) true s in
    ap (filter has_bytes) (pieces-whole space w (visible_lacks space w (omega arith) visible.0))
    ∙ ap (λ t. cond t (w ∷ []) []) some.0
words_kept (w ∷ u ∷ ws) v s =
    let visible = both (list_all is_visible w) (list_all (list_all is_visible) (u ∷ ws)) v in
    let some = both (has_bytes w) (list_all has_bytes (u ∷ ws)) s in
    ap (filter has_bytes) (pieces-first space w (joined (u ∷ ws)) (visible_lacks space w (omega arith) visible.0))
    ∙ ap (λ t. cond t (w ∷ filter has_bytes (pieces space (joined (u ∷ ws)))) (filter has_bytes (pieces space (joined (u ∷ ws))))) some.0
    ∙ ap (λ rest. w ∷ rest) (words_kept (u ∷ ws) visible.1 some.1)

-- the words are found again
pub words_of-joined : (ws : List (List ℕ)) → IsLine ws → words_of (joined ws) ≡ ws
unfolding words_of
words_of-joined ws h = words_kept ws h.visible h.some

not_skipped : (ws : List (List ℕ)) → IsLine ws → is_skipped (joined ws) ≡ false
not_skipped ws h = ap (λ us. length us == 0 || get_or (joined ws) 0 space == number_sign) (words_of-joined ws h) ∙ h.counted

joined_lacks : (ws : List (List ℕ)) → list_all (list_all is_visible) ws ≡ true → lacks line_end (joined ws) ≡ true
joined_lacks [] h = refl
joined_lacks (w ∷ []) h = visible_lacks line_end w (omega arith) (both (list_all is_visible w) true h).0
joined_lacks (w ∷ u ∷ ws) h =
    let visible = both (list_all is_visible w) (list_all (list_all is_visible) (u ∷ ws)) h in
    list_all-append (λ b. not (b == line_end)) w (space ∷ joined (u ∷ ws))
    ∙ and_true _ _ (visible_lacks line_end w (omega arith) visible.0) (joined_lacks (u ∷ ws) visible.1)

-- ---- lines of a text

-- each line ended by LF
abbrev pub ended : List (List (List ℕ)) → List ℕ
ended [] = []
ended (ws ∷ lines) = joined ws ++ line_end ∷ ended lines

abbrev pub AreLines : List (List (List ℕ)) → Type 0
AreLines [] = Unit {0}
AreLines (ws ∷ lines) = IsLine ws × AreLines lines

pieces-ended : (lines : List (List (List ℕ))) → AreLines lines → pieces line_end (ended lines) ≡ map joined lines ++ [] ∷ []
pieces-ended [] h = refl
pieces-ended (ws ∷ lines) h =
    pieces-first line_end (joined ws) (ended lines) (joined_lacks ws h.0.visible)
    ∙ ap (λ rest. joined ws ∷ rest) (pieces-ended lines h.1)

last_left_out : (texts : List (List ℕ)) → without_empty_last (texts ++ [] ∷ []) ≡ texts
last_left_out [] = refl
last_left_out ([] ∷ []) = refl
last_left_out ((b ∷ bs) ∷ []) = refl
last_left_out ([] ∷ u ∷ texts) = ap (λ rest. [] ∷ rest) (last_left_out (u ∷ texts))
last_left_out ((b ∷ bs) ∷ u ∷ texts) = ap (λ rest. (b ∷ bs) ∷ rest) (last_left_out (u ∷ texts))

lines_of-ended : (lines : List (List (List ℕ))) → AreLines lines → lines_of (ended lines) ≡ map joined lines
unfolding lines_of
lines_of-ended lines h = ap without_empty_last (pieces-ended lines h) ∙ last_left_out (map joined lines)

-- lines by their numbers
abbrev pub rows : ℕ → List (List (List ℕ)) → List NumberedLine
rows n [] = []
rows n (ws ∷ lines) = record { number = n; words = ws } ∷ rows (suc n) lines

row : ℕ → List (List ℕ) → NumberedLine
row n ws = record { number = n; words = ws }

numbered_rows : (n : ℕ) (lines : List (List (List ℕ))) → AreLines lines → numbered n (map joined lines) ≡ rows n lines
unfolding row
numbered_rows n [] h = refl
numbered_rows n (ws ∷ lines) h =
    ap (λ s. if s then numbered (suc n) (map joined lines) else row n (words_of (joined ws)) ∷ numbered (suc n) (map joined lines)) (not_skipped ws h.0)
    ∙ ap (λ us. row n us ∷ numbered (suc n) (map joined lines)) (words_of-joined ws h.0)
    ∙ ap (λ rest. row n ws ∷ rest) (numbered_rows (suc n) lines h.1)

-- no line is passed over, and each has its words
pub numbered-ended : (lines : List (List (List ℕ))) → AreLines lines → numbered 1 (lines_of (ended lines)) ≡ rows 1 lines
numbered-ended lines h = ap (numbered 1) (lines_of-ended lines h) ∙ numbered_rows 1 lines h
