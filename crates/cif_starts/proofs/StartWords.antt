-- The word with which one cell starts, from what its calls say.
use Rattle.std.specs.Prelude.{ℕ, zero, suc, ◌+◌, ◌*◌, ◌<◌, ◌≤◌, ◌≡◌, Bool, true, false, List, [], ◌∷◌, map, length, get_or, drop, replicate, Option, Some, None}
use Rattle.std.proofs.Common.{arith, ap, sym, subst, ◌∙◌}
use Rattle.std.proofs.lemmas.List.{length-replicate, get_or-replicate, length-map, get_or_default}
use Rattle.cif_defs.specs.Words.{Word, bit, word}
use Rattle.cif_defs.specs.Accepted.{netlist_of}
use Rattle.cif_defs.specs.Cells.{Cell, width, state_bits}
use Rattle.cif_defs.specs.Netlist.{Netlist, cell_at, no_cell}
use Rattle.cif_defs.specs.Stimulus.{Stimulus, StimLine as LineData, TaintedWord, started_by, start_at, sized}
use Rattle.cif_defs.specs.declared.raw_module.Raw.{Raw}
use Rattle.cif_defs.proofs.WordLaws.{length-word, bit-word}
use Rattle.cif_checks.specs.Checks.{IsAccepted}
use Rattle.cif_cells.proofs.StateLaws.{few_state_bits}
use Rattle.cif_stimulus.specs.StimulusView.{line_seen, tainted}
use Rattle.cif_stimulus.specs.declared.line.StimLine.{StimLine}
use Rattle.cif_stimulus.specs.Names.{line_at}
use Rattle.cif_starts.specs.Starts.{starts_named, start_from, lines_left, IsChainFrom, IsTableOf, SameBits, StartsAt, StartedTo}
use Rattle.cif_starts.specs.declared.starts.StartLines.{StartLines}
use Rattle.cif_starts.proofs.StartLaws.{same_started, same_along, sized_value, sized_taint, is_start}

-- a cell that was read at its number
pub cell_read : (n : Netlist) (cells : List Cell) (c : ℕ) (x : Cell) → cells ≡ n.cells → x ≡ get_or cells c x → c < length n.cells → x ≡ cell_at n c
cell_read n cells c x e h l = h ∙ ap (λ (xs : List Cell). get_or xs c x) e ∙ get_or_default n.cells c x no_cell l

-- how many bits it stores
pub size_read : (raw : Raw) (c : ℕ) (x : Cell) (rows w : ℕ) → x ≡ cell_at (netlist_of raw) c → rows * width x ≡ state_bits x → w ≡ width x → rows * w ≡ state_bits x
size_read raw c x rows w e size is = ap (λ k. rows * k) is ∙ size

pub few_bits : (raw : Raw) (c : ℕ) (x : Cell) → IsAccepted raw → c < length (netlist_of raw).cells → x ≡ cell_at (netlist_of raw) c → state_bits x ≤ 16777216
few_bits raw c x h l e = (let few : state_bits (cell_at (netlist_of raw) c) ≤ 16777216 = few_state_bits raw h c l in let same : state_bits x ≡ state_bits (cell_at (netlist_of raw) c) = ap state_bits e in omega arith)

pub length_given : (f : ℕ → Bool) (n k : ℕ) (v : Word) → v ≡ word n f → n ≡ k → length v ≡ k
length_given f n k v e h = ap length e ∙ length-word n f ∙ h

pub length_clear : (n k : ℕ) (v : Word) → v ≡ replicate n false → n ≡ k → length v ≡ k
length_clear n k v e h = ap length e ∙ length-replicate n false ∙ h

-- a cell starts with what the netlist gives it, untainted
pub given_same : (n k : ℕ) (w v t : Word) → v ≡ word n (λ i. bit w i) → t ≡ replicate n false → n ≡ k → SameBits k (tainted w []) (tainted v t)
given_same n k w v t ev et h = record {
  value = λ i l. sym (ap (λ x. bit x i) ev ∙ bit-word n (λ j. bit w j) i false (omega arith));
  taint = λ i l. sym (ap (λ x. bit x i) et ∙ get_or-replicate n i false false (omega arith));
}

-- ---- the next line of the cell

-- the lines that name a cell, from the table
pub chain_read : (n : Netlist) (s : Stimulus) (table : StartLines) (lines : List StimLine) (c : ℕ) (x : Cell) (first : Option ℕ) (following : List (Option ℕ)) → IsTableOf n s table → c < length n.cells → x ≡ cell_at n c → map line_seen lines ≡ s.lines
    → first ≡ get_or table.first.items c first → following ≡ table.following.items → IsChainFrom (map line_seen lines) x.name 0 first following
chain_read n s table lines c x first following known inside is seen found same =
    let chain = known.chains c inside in
    let within : c < length table.first.items = (let e = known.as_many_cells in omega arith) in
    let P : List LineData → Type 0 = λ ls. IsChainFrom ls (cell_at n c).name 0 (get_or table.first.items c None) table.following.items in
    let Q : Cell → Type 0 = λ y. IsChainFrom (map line_seen lines) y.name 0 (get_or table.first.items c None) table.following.items in
    let R : Option ℕ → Type 0 = λ o. IsChainFrom (map line_seen lines) x.name 0 o table.following.items in
    let S : List (Option ℕ) → Type 0 = λ ns. IsChainFrom (map line_seen lines) x.name 0 first ns in
    subst S (sym same) (subst R (sym (found ∙ get_or_default table.first.items c first None within)) (subst Q (sym is) (subst P (sym seen) chain)))

pub as_many_following : (n : Netlist) (s : Stimulus) (table : StartLines) (lines : List StimLine) (following : List (Option ℕ)) → IsTableOf n s table → map line_seen lines ≡ s.lines → following ≡ table.following.items → length following ≡ length lines
as_many_following n s table lines following known seen same =
    ap (λ (ns : List (Option ℕ)). length ns) same ∙ known.as_many_lines ∙ sym (ap (λ (ls : List LineData). length ls) seen) ∙ length-map lines line_seen

pub place_inside : (lines : List StimLine) (q : List ℕ) (p : ℕ) → StartsAt (map line_seen lines) q p → p < length lines
place_inside lines q p s = (let e : length (map line_seen lines) ≡ length lines = length-map lines line_seen in let h = s.inside in omega arith)

seen_at : (lines : List StimLine) (p : ℕ) (line : StimLine) → p < length lines → line ≡ get_or lines p line → line_seen line ≡ line_at (map line_seen lines) p
seen_at [] p line h e = absurd (omega arith)
seen_at (l ∷ lines) zero line h e = ap line_seen e
seen_at (l ∷ lines) (suc p) line h e = seen_at lines p line (omega arith) e

pub line_is : (lines : List StimLine) (q : List ℕ) (p : ℕ) (line : StimLine) → StartsAt (map line_seen lines) q p → line ≡ get_or lines p line → line_seen line ≡ line_at (map line_seen lines) p
line_is lines q p line s e = seen_at lines p line (place_inside lines q p s) e

pub line_named : (lines : List StimLine) (q : List ℕ) (p : ℕ) (line : StimLine) → StartsAt (map line_seen lines) q p → line ≡ get_or lines p line → starts_named q (line_seen line) ≡ true
line_named lines q p line s e = ap (starts_named q) (line_is lines q p line s e) ∙ s.named

-- the next line of the cell is a later one
pub next_left : (lines : List LineData) (q : List ℕ) (p n : ℕ) (next : Option ℕ) → n ≡ length lines → p < n → next ≡ start_from (p + 1) (drop (p + 1) lines) q → lines_left n next < lines_left n (Some p)
next_left lines q p n None e h found = omega arith
next_left lines q p n (Some k) e h found = (let s = is_start lines q (p + 1) k (omega arith) (sym found) in let from = s.from in let inside = s.inside in omega arith)

-- ---- no line is left

pub last_value : (n : Netlist) (s : Stimulus) (c : ℕ) (x : Cell) (seen : List LineData) (v t : Word) (new : TaintedWord) (w : Word) → x ≡ cell_at n c → seen ≡ s.lines → SameBits (state_bits x) (tainted (get_or n.initial c []) []) (tainted v t)
    → SameBits (state_bits x) (started_by seen x (tainted v t)) new → w ≡ new.value → length w ≡ state_bits x → w ≡ (start_at n s c).value
last_value n s c x seen v t new w e lines from h is size =
    sized_value (state_bits x) (started_by seen x (tainted (get_or n.initial c []) [])) w size (λ i l. (same_along (state_bits x) _ _ _ (same_started seen x _ _ from) h).value i l ∙ sym (ap (λ u. bit u i) is))
    ∙ ap (λ (ls : List LineData). (sized (state_bits x) (started_by ls x (tainted (get_or n.initial c []) []))).value) lines
    ∙ ap (λ (y : Cell). (sized (state_bits y) (started_by s.lines y (tainted (get_or n.initial c []) []))).value) e

pub last_taint : (n : Netlist) (s : Stimulus) (c : ℕ) (x : Cell) (seen : List LineData) (v t : Word) (new : TaintedWord) (w : Word) → x ≡ cell_at n c → seen ≡ s.lines → SameBits (state_bits x) (tainted (get_or n.initial c []) []) (tainted v t)
    → SameBits (state_bits x) (started_by seen x (tainted v t)) new → w ≡ new.taint → length w ≡ state_bits x → w ≡ (start_at n s c).taint
last_taint n s c x seen v t new w e lines from h is size =
    sized_taint (state_bits x) (started_by seen x (tainted (get_or n.initial c []) [])) w size (λ i l. (same_along (state_bits x) _ _ _ (same_started seen x _ _ from) h).taint i l ∙ sym (ap (λ u. bit u i) is))
    ∙ ap (λ (ls : List LineData). (sized (state_bits x) (started_by ls x (tainted (get_or n.initial c []) []))).taint) lines
    ∙ ap (λ (y : Cell). (sized (state_bits y) (started_by s.lines y (tainted (get_or n.initial c []) []))).taint) e

pub at_none : (lines : List LineData) (c : Cell) (given now : TaintedWord) (at : Option ℕ) → at ≡ None → StartedTo lines c given at now → StartedTo lines c given None now
at_none lines c given now at e h = subst (λ (o : Option ℕ). StartedTo lines c given o now) e h

pub at_some : (lines : List LineData) (c : Cell) (given now : TaintedWord) (at : Option ℕ) (p : ℕ) → at ≡ Some p → StartedTo lines c given at now → StartedTo lines c given (Some p) now
at_some lines c given now at p e h = subst (λ (o : Option ℕ). StartedTo lines c given o now) e h
