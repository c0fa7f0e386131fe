-- A bit of the next taint of a register without asynchronous reset reads one bit of the stored word and of its taint.
use Rattle.std.specs.Prelude.{ℕ, ◌<◌, ◌≡◌, Bool, false, List, [], ◌∷◌, ◌++◌, map, length}
use Rattle.std.proofs.Common.{sym, ap, ◌∙◌}
use Rattle.cif_defs.specs.Words.{Word, bit}
use Rattle.cif_defs.specs.Kinds.{role_of}
use Rattle.cif_defs.specs.Table.{operands_of}
use Rattle.cif_defs.specs.Cells.{Cell, digits_of, next_by, next_word, width}
use Rattle.cif_defs.specs.Completions.{can_differ}
use Rattle.cif_defs.specs.Fitted.{row_width}
use Rattle.cif_defs.specs.Taint.{next_bit, next_register_taint}
use Rattle.cif_defs.specs.declared.kinds.Kind.{Kind}
use Rattle.cif_defs.specs.declared.kinds.Kind.TheVariants.{Dff, Dffe, Sdff, Sdffe, Sdffce}
use Rattle.cif_defs.specs.declared.kinds.Role.TheVariants.{PlainRegister}
use Rattle.cif_defs.specs.declared.kinds.Param.TheVariants.{SrstPolarity, SrstValue}
use Rattle.cif_defs.proofs.WordLaws.{bit-word}
use Rattle.rule_state.proofs.BitWords.{one_word, three_words, two_words}
use Rattle.rule_state.proofs.RegisterBits.{enabled_taint, enabled_value, reset_taint, reset_value}
use Rattle.rule_state.proofs.RegisterRows.{HasRow, dff_differs, dff_row, dffe_differs, dffe_row, enabling, resetting, sdff_differs, sdff_row, sdffce_differs, sdffce_row, sdffe_differs, sdffe_row}

-- words with their taints, of the same lengths
pub record AreStored (n : ℕ) (s st : Word) : Type 0 where
  pub word : length s ≡ n
  pub taint : length st ≡ n

-- at bit i the taint is the same whatever the other bits of the stored word and its taint are
abbrev pub ReadsOne : Cell → ℕ → List Word → List Word → Type 0
ReadsOne c i vs ts = (s st u ut : Word) → AreStored (width c) s st → AreStored (width c) u ut → bit s i ≡ bit u i → bit st i ≡ bit ut i
    → can_differ (next_bit c (length vs) i) (vs ++ s ∷ []) (ts ++ st ∷ []) ≡ can_differ (next_bit c (length vs) i) (vs ++ u ∷ []) (ts ++ ut ∷ [])

dff_one : (c : Cell) (i : ℕ) (d td : Word) → HasRow c (dff_row c) → i < width c → length d ≡ width c → length td ≡ width c → ReadsOne c i (d ∷ []) (td ∷ [])
dff_one c i d td row h a b s st u ut m n e f =
    let p = m.word in let q = m.taint in let x = n.word in let y = n.taint in
    dff_differs c i d td s st row h (cc) ∙ sym (dff_differs c i d td u ut row h (cc))

dffe_one : (c : Cell) (i : ℕ) (d g td tg : Word) → HasRow c (dffe_row c) → i < width c → length d ≡ width c → length td ≡ width c → length g ≡ 1 → length tg ≡ 1 → ReadsOne c i (d ∷ g ∷ []) (td ∷ tg ∷ [])
dffe_one c i d g td tg row h a b k l s st u ut m n e f =
    let p = m.word in let q = m.taint in let x = n.word in let y = n.taint in
    dffe_differs c i d td g tg s st row h (cc)
    ∙ ap (λ z. enabled_taint (enabling c) (bit d i) (bit td i) (bit g 0) (bit tg 0) z (bit st i)) e
    ∙ ap (λ z. enabled_taint (enabling c) (bit d i) (bit td i) (bit g 0) (bit tg 0) (bit u i) z) f
    ∙ sym (dffe_differs c i d td g tg u ut row h (cc))

sdff_one : (c : Cell) (i : ℕ) (d g td tg : Word) → HasRow c (sdff_row SrstPolarity SrstValue c) → i < width c → length d ≡ width c → length td ≡ width c → length g ≡ 1 → length tg ≡ 1 → ReadsOne c i (d ∷ g ∷ []) (td ∷ tg ∷ [])
sdff_one c i d g td tg row h a b k l s st u ut m n e f =
    let p = m.word in let q = m.taint in let x = n.word in let y = n.taint in
    sdff_differs SrstPolarity SrstValue c i d td g tg s st row h (cc) ∙ sym (sdff_differs SrstPolarity SrstValue c i d td g tg u ut row h (cc))

sdffe_one : (c : Cell) (i : ℕ) (d g r td tg tr : Word) → HasRow c (sdffe_row SrstPolarity SrstValue c) → i < width c → length d ≡ width c → length td ≡ width c → length g ≡ 1 → length tg ≡ 1 → length r ≡ 1 → length tr ≡ 1
    → ReadsOne c i (d ∷ g ∷ r ∷ []) (td ∷ tg ∷ tr ∷ [])
sdffe_one c i d g r td tg tr row h a b k l o z s st u ut m n e f =
    let p = m.word in let q = m.taint in let x = n.word in let y = n.taint in
    let after : Bool → Bool → Bool = λ w t. reset_taint (resetting c SrstPolarity) (bit (digits_of c SrstValue) i) (enabled_value (enabling c) (bit d i) (bit g 0) w) (enabled_taint (enabling c) (bit d i) (bit td i) (bit g 0) (bit tg 0) w t) (bit r 0) (bit tr 0) in
    sdffe_differs SrstPolarity SrstValue c i d td g tg r tr s st row h (cc)
    ∙ ap (λ w. after w (bit st i)) e ∙ ap (after (bit u i)) f
    ∙ sym (sdffe_differs SrstPolarity SrstValue c i d td g tg r tr u ut row h (cc))

sdffce_one : (c : Cell) (i : ℕ) (d g r td tg tr : Word) → HasRow c (sdffce_row SrstPolarity SrstValue c) → i < width c → length d ≡ width c → length td ≡ width c → length g ≡ 1 → length tg ≡ 1 → length r ≡ 1 → length tr ≡ 1
    → ReadsOne c i (d ∷ g ∷ r ∷ []) (td ∷ tg ∷ tr ∷ [])
sdffce_one c i d g r td tg tr row h a b k l o z s st u ut m n e f =
    let p = m.word in let q = m.taint in let x = n.word in let y = n.taint in
    let after : Bool → Bool → Bool = λ w t. enabled_taint (enabling c) (reset_value (resetting c SrstPolarity) (bit (digits_of c SrstValue) i) (bit d i) (bit r 0)) (reset_taint (resetting c SrstPolarity) (bit (digits_of c SrstValue) i) (bit d i) (bit td i) (bit r 0) (bit tr 0)) (bit g 0) (bit tg 0) w t in
    sdffce_differs SrstPolarity SrstValue c i d td g tg r tr s st row h (cc)
    ∙ ap (λ w. after w (bit st i)) e ∙ ap (after (bit u i)) f
    ∙ sym (sdffce_differs SrstPolarity SrstValue c i d td g tg r tr u ut row h (cc))

-- ---- by the widths of the operands

abbrev TwoRead : Cell → ℕ → Type 0
TwoRead c i = (d g td tg : Word) → length d ≡ width c → length td ≡ width c → length g ≡ 1 → length tg ≡ 1 → ReadsOne c i (d ∷ g ∷ []) (td ∷ tg ∷ [])

abbrev ThreeRead : Cell → ℕ → Type 0
ThreeRead c i = (d g r td tg tr : Word) → length d ≡ width c → length td ≡ width c → length g ≡ 1 → length tg ≡ 1 → length r ≡ 1 → length tr ≡ 1 → ReadsOne c i (d ∷ g ∷ r ∷ []) (td ∷ tg ∷ tr ∷ [])

two_read : (c : Cell) (i : ℕ) (vs ts : List Word) → TwoRead c i → map length vs ≡ width c ∷ 1 ∷ [] → map length ts ≡ width c ∷ 1 ∷ [] → ReadsOne c i vs ts
two_read c i vs ts one a b =
    two_words (λ us. ReadsOne c i us ts) (width c) 1
    (λ d g k l. two_words (λ us. ReadsOne c i (d ∷ g ∷ []) us) (width c) 1 (λ td tg p q. one d g td tg k p l q) ts b) vs a

three_read : (c : Cell) (i : ℕ) (vs ts : List Word) → ThreeRead c i → map length vs ≡ width c ∷ 1 ∷ 1 ∷ [] → map length ts ≡ width c ∷ 1 ∷ 1 ∷ [] → ReadsOne c i vs ts
three_read c i vs ts one a b =
    three_words (λ us. ReadsOne c i us ts) (width c) 1 1
    (λ d g r k l m. three_words (λ us. ReadsOne c i (d ∷ g ∷ r ∷ []) us) (width c) 1 1 (λ td tg tr p q o. one d g r td tg tr k p l q m o) ts b) vs a

row_by : (c : Cell) (k : Kind) → c.kind ≡ k → (us : List Word) (s : Word) → next_word c us s ≡ next_by k c us s
row_by c k e us s = ap (λ x. next_by x c us s) e

reads_by_kind : (k : Kind) (c : Cell) (i : ℕ) (vs ts : List Word) → c.kind ≡ k → role_of k ≡ PlainRegister → i < width c → map length vs ≡ map (row_width c) (operands_of k) → map length ts ≡ map (row_width c) (operands_of k) → ReadsOne c i vs ts
unfolding next_by operands_of
reads_by_kind Dff c i vs ts e r h a b =
    one_word (λ us. ReadsOne c i us ts) (width c) (λ d k. one_word (λ us. ReadsOne c i (d ∷ []) us) (width c) (λ td p. dff_one c i d td (row_by c Dff e) h k p) ts b) vs a
reads_by_kind Dffe c i vs ts e r h a b = two_read c i vs ts (λ d g td tg. dffe_one c i d g td tg (row_by c Dffe e) h) a b
reads_by_kind Sdff c i vs ts e r h a b = two_read c i vs ts (λ d g td tg. sdff_one c i d g td tg (row_by c Sdff e) h) a b
reads_by_kind Sdffe c i vs ts e r h a b = three_read c i vs ts (λ d g x td tg tx. sdffe_one c i d g x td tg tx (row_by c Sdffe e) h) a b
reads_by_kind Sdffce c i vs ts e r h a b = three_read c i vs ts (λ d g x td tg tx. sdffce_one c i d g x td tg tx (row_by c Sdffce e) h) a b
reads_by_kind _ c i vs ts e r h a b = absurd (cc)

-- so of two stored words with the same bit i, and taints with the same, bit i of the next taints is the same
pub same_column : (k : Kind) (c : Cell) (i : ℕ) (vs ts : List Word) (s st u ut : Word) → c.kind ≡ k → role_of k ≡ PlainRegister → i < width c → map length vs ≡ map (row_width c) (operands_of k)
    → map length ts ≡ map (row_width c) (operands_of k) → AreStored (width c) s st → AreStored (width c) u ut → bit s i ≡ bit u i → bit st i ≡ bit ut i
    → bit (next_register_taint c vs ts s st) i ≡ bit (next_register_taint c vs ts u ut) i
same_column k c i vs ts s st u ut e r h a b m n x y =
    bit-word (width c) (λ j. can_differ (next_bit c (length vs) j) (vs ++ s ∷ []) (ts ++ st ∷ [])) i false h
    ∙ reads_by_kind k c i vs ts e r h a b s st u ut m n x y
    ∙ sym (bit-word (width c) (λ j. can_differ (next_bit c (length vs) j) (vs ++ u ∷ []) (ts ++ ut ∷ [])) i false h)
