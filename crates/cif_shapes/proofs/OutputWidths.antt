-- The widths of the outputs of a fitted combinational cell.
use Rattle.std.specs.Prelude.{ℕ, zero, suc, ◌+◌, ◌<◌, ◌≤◌, ◌≡◌, ◌≢◌, false, List, [], ◌∷◌, ◌++◌, map, length, get_or, take, Option, refl}
use Rattle.std.specs.List.{range_with_len}
use Rattle.std.proofs.Common.{arith, ap, sym, ◌∙◌, lit≤}
use Rattle.std.proofs.lemmas.List.{ext_get_or, get_or-map, get_or_default, length-map, map_push, take_all, take_more}
use Rattle.std.proofs.lemmas.List.FromFn.{get_or-map-range_with_len, length-map-range_with_len}
use Rattle.cif_defs.specs.Words.{Word, zeros}
use Rattle.cif_defs.specs.Kinds.{role_of}
use Rattle.cif_defs.specs.Cells.{Cell}
use Rattle.cif_defs.specs.Fitted.{AllWithin, IsFitted, row_width}
use Rattle.cif_defs.specs.Table.{joined_at, lut_limit, outputs_of, shift_limit, shiftx_limit, width_limit}
use Rattle.cif_defs.specs.declared.kinds.Role.TheVariants.{Combinational}
use Rattle.cif_defs.specs.declared.kinds.CellPort.{CellPort}
use Rattle.cif_defs.specs.declared.kinds.CellPort.TheVariants.{A, B, Y}
use Rattle.cif_defs.specs.declared.kinds.Kind.{Kind}
use Rattle.cif_defs.specs.declared.kinds.Kind.TheVariants.{Shl, Sshl, Shr, Sshr, Shift, Shiftx, Pmux, Bmux, Demux, Mem}
use Rattle.cif_defs.specs.declared.kinds.Kind.TheVariants.{Lut as LutKind}
use Rattle.cif_defs.specs.declared.kinds.PortRow.{PortRow}
use Rattle.cif_defs.proofs.WordLaws.{length-word}
use Rattle.cif_term.specs.CellTaints.{taint_words}
use Rattle.cif_kinds.proofs.OperandWidths.{length-at}
use Rattle.cif_shapes.specs.Untainted.{IsUntainted, untainted_words}
use Rattle.cif_shapes.proofs.NoTaint.{words_are_zeros}

joined_small : (p q : CellPort) → joined_at p q ≤ 65536
joined_small A A = lit≤ tt
joined_small B B = lit≤ tt
joined_small Y Y = lit≤ tt
joined_small _ _ = lit≤ tt

shift_small : (p : CellPort) → shift_limit p ≤ 65536
shift_small B = lit≤ tt
shift_small _ = lit≤ tt

shiftx_small : (p : CellPort) → shiftx_limit p ≤ 65536
shiftx_small A = lit≤ tt
shiftx_small B = lit≤ tt
shiftx_small _ = lit≤ tt

lut_small : (p : CellPort) → lut_limit p ≤ 65536
lut_small A = lit≤ tt
lut_small _ = lit≤ tt

limit_small : (k : Kind) (p : CellPort) → width_limit k p ≤ 65536
unfolding width_limit
limit_small Shl p = shift_small p
limit_small Sshl p = shift_small p
limit_small Shr p = shift_small p
limit_small Sshr p = shift_small p
limit_small Shift p = shift_small p
limit_small Shiftx p = shiftx_small p
limit_small Pmux p = joined_small B p
limit_small Bmux p = joined_small A p
limit_small Demux p = joined_small Y p
limit_small LutKind p = lut_small p
limit_small Mem p = lit≤ tt
limit_small _ p = lit≤ tt

row_small : (c : Cell) (rows : List PortRow) (p : ℕ) → AllWithin c rows → get_or (map (row_width c) rows) p 0 ≤ 65536
row_small c [] p w = omega arith
row_small c (r ∷ rows) zero w = let l : row_width c r ≤ width_limit c.kind r.port = w.0.limit in let s : width_limit c.kind r.port ≤ 65536 = limit_small c.kind r.port in omega arith
row_small c (r ∷ rows) (suc p) w = row_small c rows p w.1

pub no_memory : (k : Kind) → role_of k ≡ Combinational → k ≢ Mem
no_memory k r e = let q : role_of k ≡ role_of Mem = ap role_of e in absurd (cc)

-- an output is narrow
pub narrow_output : (c : Cell) (p : ℕ) → role_of c.kind ≡ Combinational → IsFitted c → length (get_or c.outputs p []) ≤ 65536
narrow_output c p r f =
    let small : get_or (map (row_width c) (outputs_of c.kind)) p 0 ≤ 65536 = row_small c (outputs_of c.kind) p (f.outputs_within (no_memory c.kind r)) in
    let same : length (get_or c.outputs p []) ≡ get_or (map (row_width c) (outputs_of c.kind)) p 0 = length-at c.outputs p ∙ ap (λ ns. get_or ns p 0) f.outputs in
    omega arith

-- ---- words of zeros, output by output

abbrev pub zeros_for : List (List (Option ℕ)) → List Word
zeros_for outputs = map (λ (o : List (Option ℕ)). zeros (length o)) outputs

-- one word more
pub zeros_more : (outputs : List (List (Option ℕ))) (i : ℕ) (o : List (Option ℕ)) (ws us : List Word) (w : Word) → i < length outputs → ws ≡ zeros_for (take i outputs) → us ≡ ws ++ w ∷ [] → o ≡ get_or outputs i o → w ≡ zeros (length o)
    → us ≡ zeros_for (take (i + 1) outputs)
zeros_more outputs i o ws us w l e f g h =
    f ∙ ap (λ (x : List Word). x ++ w ∷ []) e ∙ ap (λ (x : Word). zeros_for (take i outputs) ++ x ∷ []) (h ∙ ap (λ (x : List (Option ℕ)). zeros (length x)) g)
    ∙ sym (ap zeros_for (take_more outputs i o l) ∙ map_push (λ (x : List (Option ℕ)). zeros (length x)) (take i outputs) (get_or outputs i o))

zeros_by_lengths : (outputs : List (List (Option ℕ))) → zeros_for outputs ≡ map zeros (map length outputs)
zeros_by_lengths [] = refl
zeros_by_lengths (o ∷ outputs) = ap (λ (ws : List Word). zeros (length o) ∷ ws) (zeros_by_lengths outputs)

by_places : (ns : List ℕ) → map zeros ns ≡ map (λ p. zeros (get_or ns p 0)) (range_with_len 0 (length ns))
by_places ns = ext_get_or [] (map zeros ns) (map (λ p. zeros (get_or ns p 0)) (range_with_len 0 (length ns)))
    (length-map ns zeros ∙ sym (length-map-range_with_len (λ p. zeros (get_or ns p 0)) 0 (length ns)))
    (λ i h. let inside : i < length ns = (let long : length (map zeros ns) ≡ length ns = length-map ns zeros in omega arith) in
    get_or-map zeros ns i 0 [] inside ∙ sym (get_or-map-range_with_len (λ p. zeros (get_or ns p 0)) 0 (length ns) i i [] inside (omega arith)))

-- they are the words of the cell's rows
pub zeros_are_untainted : (c : Cell) → IsFitted c → zeros_for c.outputs ≡ untainted_words c
zeros_are_untainted c f =
    let ns : List ℕ = map (row_width c) (outputs_of c.kind) in
    let many : length ns ≡ length (outputs_of c.kind) = length-map (outputs_of c.kind) (row_width c) in
    zeros_by_lengths c.outputs ∙ ap (map zeros) f.outputs ∙ by_places ns ∙ ap (λ n. map (λ p. zeros (get_or ns p 0)) (range_with_len 0 n)) many

pub all_zeros : (c : Cell) (outputs : List (List (Option ℕ))) (n : ℕ) (ws : List Word) → IsFitted c → outputs ≡ c.outputs → length outputs ≤ n → ws ≡ zeros_for (take n outputs) → ws ≡ untainted_words c
all_zeros c outputs n ws f q l e = e ∙ ap zeros_for (take_all n outputs l) ∙ ap zeros_for q ∙ zeros_are_untainted c f

pub zeros_are_taints : (c : Cell) (ws : List Word) → ws ≡ untainted_words c → (vs ts : List Word) → IsUntainted ts → ws ≡ taint_words c vs ts
zeros_are_taints c ws e vs ts u = e ∙ sym (words_are_zeros c vs ts u)

-- an output that is read is narrow
pub narrow_read : (c : Cell) (outputs : List (List (Option ℕ))) (i : ℕ) (o bits : List (Option ℕ)) → role_of c.kind ≡ Combinational → IsFitted c → outputs ≡ c.outputs → i < length outputs → o ≡ get_or outputs i o → bits ≡ o → length bits ≤ 65536
narrow_read c outputs i o bits r f q l e g =
    let same : length bits ≡ length (get_or c.outputs i []) = ap length (g ∙ e ∙ get_or_default outputs i o [] l) ∙ ap (λ (x : List (List (Option ℕ))). length (get_or x i [])) q in
    let small : length (get_or c.outputs i []) ≤ 65536 = narrow_output c i r f in
    omega arith

lengths_of_zeros : (ns : List ℕ) → map length (map zeros ns) ≡ ns
lengths_of_zeros [] = refl
lengths_of_zeros (n ∷ ns) = let one : length (zeros n) ≡ n = length-word n (λ i. false) in let rest : map length (map zeros ns) ≡ ns = lengths_of_zeros ns in cc

-- the taint words have the widths of the rows
pub widths_are_rows : (c : Cell) (vs ts : List Word) → IsUntainted ts → map length (taint_words c vs ts) ≡ map (row_width c) (outputs_of c.kind)
widths_are_rows c vs ts u =
    let ns : List ℕ = map (row_width c) (outputs_of c.kind) in
    let many : length ns ≡ length (outputs_of c.kind) = length-map (outputs_of c.kind) (row_width c) in
    ap (map length) (words_are_zeros c vs ts u ∙ sym (by_places ns ∙ ap (λ n. map (λ p. zeros (get_or ns p 0)) (range_with_len 0 n)) many)) ∙ lengths_of_zeros ns
