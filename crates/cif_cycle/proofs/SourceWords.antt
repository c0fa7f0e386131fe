-- The words that a fitted cell reads.
use Rattle.std.specs.Prelude.{ℕ, zero, suc, ◌<◌, ◌≤◌, ◌≡◌, ◌≢◌, Bool, List, [], ◌∷◌, length, map, get_or, refl}
use Rattle.std.proofs.Common.{arith, ap, sym, ◌∙◌}
use Rattle.std.proofs.lemmas.List.{get_or_default}
use Rattle.cif_defs.specs.Words.{Word}
use Rattle.cif_defs.specs.Table.{operands_of, width_limit}
use Rattle.cif_defs.specs.Cells.{Cell}
use Rattle.cif_defs.specs.Fitted.{AllWithin, IsFitted, IsWithin, row_width}
use Rattle.cif_defs.specs.Run.{src_word}
use Rattle.cif_defs.specs.TaintRun.{taint_word as taint_bits}
use Rattle.cif_defs.specs.declared.kinds.Kind.TheVariants.{Mem}
use Rattle.cif_defs.specs.declared.kinds.PortRow.{PortRow}
use Rattle.cif_defs.specs.declared.nets.Src.{Src}
use Rattle.cif_checks.proofs.CellChecks.{limit_small}
use Rattle.cif_register_bits.proofs.SourceWidths.{length-source, length-taint}
use Rattle.cif_cycle.specs.CellWords.{AreNarrow}

row_small : (c : Cell) (rows : List PortRow) (p : ℕ) → AllWithin c rows → get_or (map (row_width c) rows) p 0 ≤ 65536
row_small c [] p w = omega arith
row_small c (r ∷ rows) zero w = let one : IsWithin c r = w.0 in let l : row_width c r ≤ width_limit c.kind r.port = one.limit in let s : width_limit c.kind r.port ≤ 65536 = limit_small c.kind r.port in omega arith
row_small c (r ∷ rows) (suc p) w = row_small c rows p w.1

long_at : (ops : List (List Src)) (p : ℕ) → get_or (map length ops) p 0 ≡ length (get_or ops p [])
long_at [] p = refl
long_at (o ∷ ops) zero = refl
long_at (o ∷ ops) (suc p) = long_at ops p

pub narrow_operands : (c : Cell) → IsFitted c → c.kind ≢ Mem → AreNarrow c.operands
unfolding AreNarrow
narrow_operands c f n = λ p.
    let small : get_or (map (row_width c) (operands_of c.kind)) p 0 ≤ 65536 = row_small c (operands_of c.kind) p (f.operands_within n) in
    let same : length (get_or c.operands p []) ≡ get_or (map (row_width c) (operands_of c.kind)) p 0 = sym (long_at c.operands p) ∙ ap (λ ns. get_or ns p 0) f.operands in
    omega arith

pub narrow_at : (ops : List (List Src)) (p : ℕ) → AreNarrow ops → length (get_or ops p []) ≤ 65536
unfolding AreNarrow
narrow_at ops p h = h p

narrow_source : (ops : List (List Src)) (p : ℕ) (ss us : List Src) → AreNarrow ops → p < length ops → ss ≡ get_or ops p ss → us ≡ ss → length us ≤ 65536
narrow_source ops p ss us h l e f =
    let same : ss ≡ get_or ops p [] = e ∙ get_or_default ops p ss [] l in
    let a : length us ≡ length (get_or ops p []) = ap length (f ∙ same) in
    let b : length (get_or ops p []) ≤ 65536 = narrow_at ops p h in omega arith

pub narrow_word : (v : ℕ → Bool) (ops : List (List Src)) (p : ℕ) (ss us : List Src) (w : Word) → AreNarrow ops → p < length ops → ss ≡ get_or ops p ss → us ≡ ss → w ≡ src_word v us → length w ≤ 65536
narrow_word v ops p ss us w h l e f g =
    let a : length w ≡ length us = ap length g ∙ length-source v us in
    let b : length us ≤ 65536 = narrow_source ops p ss us h l e f in omega arith

pub narrow_taint : (v : ℕ → Bool) (ops : List (List Src)) (p : ℕ) (ss us : List Src) (w : Word) → AreNarrow ops → p < length ops → ss ≡ get_or ops p ss → us ≡ ss → w ≡ taint_bits v us → length w ≤ 65536
narrow_taint v ops p ss us w h l e f g =
    let a : length w ≡ length us = ap length g ∙ length-taint v us in
    let b : length us ≤ 65536 = narrow_source ops p ss us h l e f in omega arith
