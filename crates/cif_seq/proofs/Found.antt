-- What a cell is evaluated to, from what the calls of an evaluation say.
use Rattle.std.specs.Prelude.{ℕ, ◌<◌, ◌≤◌, ◌≡◌, Bool, false, List, [], length, map, get_or}
use Rattle.std.proofs.Common.{arith, ap, refl, sym, ◌∙◌, subst, inl, inr}
use Rattle.std.proofs.lemmas.List.{get_or_past, length-map}
use Rattle.std.proofs.lemmas.List.FromFn.{get_or-map-range_with_len}
use Rattle.cif_defs.specs.Words.{Word, bit, operand}
use Rattle.cif_defs.specs.Cells.{Cell, meaning, number_of, reset_operand, shown_word}
use Rattle.cif_defs.specs.Fitted.{IsFitted, row_width}
use Rattle.cif_defs.specs.Table.{outputs_of}
use Rattle.cif_defs.proofs.WordLaws.{bit-word, le_or_lt}
use Rattle.cif_defs.specs.Taint.{output_taint, shown_taint}
use Rattle.cif_defs.specs.Netlist.{IsWired, Netlist, cell_at, role_at}
use Rattle.cif_defs.specs.Run.{operand_words}
use Rattle.cif_defs.specs.TaintRun.{TaintState, operand_taints}
use Rattle.cif_defs.specs.declared.kinds.Param.TheVariants.{RdPorts}
use Rattle.cif_defs.specs.declared.kinds.Role.TheVariants.{Combinational, MemoryBlock, ResetRegister}
use Rattle.cif_kinds.specs.StateCells.{HasMemoryNumbers}
use Rattle.cif_term.specs.CellTaints.{output_width, taint_word, taint_words}
use Rattle.cif_cycle.specs.CellWords.{read_taints, read_words}
use Rattle.cif_shown.specs.Evaluates.{EvaluatesTaints, EvaluatesValues, Marks}
use Rattle.cif_writes.specs.Writes.{put_word, put_words}
use Rattle.cif_seq.proofs.Evaluated.{memory_taints, memory_values, outputs_taints, outputs_values, register_taints, register_values}
use Rattle.cif_cycle.proofs.MemoryReads.{ports_of_memory}
use Rattle.cif_cycle.proofs.ResetWords.{ports_of_register}

pub outputs_values_found : (n : Netlist) (c : ℕ) (x : Cell) (stored given vs ws written : List Word) (outs : _) (old new : List Bool) → IsWired n → role_at n c ≡ Combinational → length old ≡ length n.drivers → x ≡ cell_at n c
    → outs ≡ x.outputs → given ≡ vs → vs ≡ operand_words (bit old) x → ws ≡ meaning x given → written ≡ ws → new ≡ put_words [] outs written old → EvaluatesValues n stored c old new
outputs_values_found n c x stored given vs ws written outs old new w role size hx ho hg hv hw hs k =
    outputs_values n c stored written old new w role size (hs ∙ hw ∙ ap (λ (us : List Word). meaning x us) (hg ∙ hv) ∙ ap (λ (z : Cell). meaning z (operand_words (bit old) z)) hx)
    (k ∙ ap (λ (ts : _). put_words [] ts written old) (ho ∙ ap (λ (z : Cell). z.outputs) hx))

width_past : (c : Cell) (p : ℕ) → length (outputs_of c.kind) ≤ p → output_width c p ≡ 0
width_past c p h = get_or_past (map (row_width c) (outputs_of c.kind)) p 0 (let e : length (map (row_width c) (outputs_of c.kind)) ≡ length (outputs_of c.kind) = length-map (outputs_of c.kind) (row_width c) in omega arith)

-- the bits of the taint words of a cell
taints_given : (c : Cell) (vs ts given : List Word) (p i : ℕ) → given ≡ taint_words c vs ts → i < output_width c p → bit (operand given p) i ≡ output_taint c p i vs ts
taints_given c vs ts given p i f h = elim (le_or_lt p (length (outputs_of c.kind))) [
  | inl l ↦ ap (λ (ws : List Word). bit (operand ws p) i) f
      ∙ ap (λ (w : Word). bit w i) (get_or-map-range_with_len (taint_word c vs ts) 0 (length (outputs_of c.kind)) p p [] l (omega arith))
      ∙ bit-word (output_width c p) (λ k. output_taint c p k vs ts) i false h
  | inr l ↦ absurd (let z : output_width c p ≡ 0 = width_past c p l in omega arith)
]

pub outputs_taints_found : (n : Netlist) (c : ℕ) (x : Cell) (stored : List Word) (t : TaintState) (released : ℕ → Bool) (marks : List Bool) (given_vs vs ws written : List Word) (outs : _) (values old new : List Bool) → IsWired n → role_at n c ≡ Combinational
    → length old ≡ length n.drivers → Marks n marks released → x ≡ cell_at n c → IsFitted x → outs ≡ x.outputs → given_vs ≡ vs → vs ≡ operand_words (bit values) x
    → ((p i : ℕ) → bit (operand ws p) i ≡ bit (operand (taint_words (cell_at n c) given_vs (operand_taints (bit old) (cell_at n c))) p) i) → written ≡ ws → new ≡ put_words marks outs written old → EvaluatesTaints n stored values t released c old new
outputs_taints_found n c x stored t released marks given_vs vs ws written outs values old new w role size m hx fit ho hgv hv hw hs k =
    outputs_taints n c stored written t released marks values old new w role size m
    (λ p i l.
    let wide : get_or (map length (cell_at n c).outputs) p 0 ≡ output_width (cell_at n c) p = ap (λ ns. get_or ns p 0) (ap (λ (z : Cell). map length z.outputs) (sym hx) ∙ fit.outputs ∙ ap (λ (z : Cell). map (row_width z) (outputs_of z.kind)) hx) in
    ap (λ (us : List Word). bit (operand us p) i) hs ∙ hw p i ∙ taints_given (cell_at n c) given_vs (operand_taints (bit old) (cell_at n c)) (taint_words (cell_at n c) given_vs (operand_taints (bit old) (cell_at n c))) p i refl (omega arith)
    ∙ ap (λ (us : List Word). output_taint (cell_at n c) p i us (operand_taints (bit old) (cell_at n c))) (hgv ∙ hv ∙ ap (operand_words (bit values)) hx))
    (k ∙ ap (λ (us : _). put_words marks us written old) (ho ∙ ap (λ (z : Cell). z.outputs) hx))

-- ---- registers with asynchronous reset

pub register_values_found : (n : Netlist) (c : ℕ) (x : Cell) (stored : List Word) (own w written : Word) (outs : _) (old new : List Bool) → IsWired n → role_at n c ≡ ResetRegister → length old ≡ length n.drivers → x ≡ cell_at n c
    → outs ≡ get_or x.outputs 0 [] → own ≡ get_or stored c [] → w ≡ shown_word x (bit (operand (operand_words (bit old) x) (reset_operand x.kind)) 0) own → written ≡ w → new ≡ put_word [] outs written old → EvaluatesValues n stored c old new
register_values_found n c x stored own w written outs old new wired role size hx ho hs hw hk k =
    register_values n c stored written old new wired role size
    (hk ∙ hw ∙ ap (λ (u : Word). shown_word x (bit (operand (operand_words (bit old) x) (reset_operand x.kind)) 0) u) hs
    ∙ ap (λ (z : Cell). shown_word z (bit (operand (operand_words (bit old) z) (reset_operand z.kind)) 0) (get_or stored c [])) hx)
    (k ∙ ap (λ (ts : _). put_word [] ts written old) (ho ∙ ap (λ (z : Cell). get_or z.outputs 0 []) hx))

pub register_taints_found : (n : Netlist) (c : ℕ) (x : Cell) (stored : List Word) (t : TaintState) (released : ℕ → Bool) (own own_taint w written : Word) (outs : _) (marks values old new : List Bool) → IsWired n → role_at n c ≡ ResetRegister → length old ≡ length n.drivers
    → Marks n marks released → x ≡ cell_at n c → IsFitted x → outs ≡ get_or x.outputs 0 [] → own ≡ get_or stored c [] → own_taint ≡ get_or t.stored c []
    → w ≡ shown_taint x (operand (operand_words (bit values) x) (reset_operand x.kind)) (operand (operand_taints (bit old) x) (reset_operand x.kind)) own own_taint → written ≡ w → new ≡ put_word marks outs written old → EvaluatesTaints n stored values t released c old new
register_taints_found n c x stored t released own own_taint w written outs marks values old new wired role size m hx fit ho hs ht hw hk k =
    let ports = ports_of_register (cell_at n c) (bit values) role (subst (λ (z : Cell). IsFitted z) hx fit) in
    register_taints n c stored written t released marks values old new wired role ports.q size m
    (hk ∙ hw
    ∙ ap (λ (u : Word). shown_taint x (operand (operand_words (bit values) x) (reset_operand x.kind)) (operand (operand_taints (bit old) x) (reset_operand x.kind)) u own_taint) hs
    ∙ ap (λ (u : Word). shown_taint x (operand (operand_words (bit values) x) (reset_operand x.kind)) (operand (operand_taints (bit old) x) (reset_operand x.kind)) (get_or stored c []) u) ht
    ∙ ap (λ (z : Cell). shown_taint z (operand (operand_words (bit values) z) (reset_operand z.kind)) (operand (operand_taints (bit old) z) (reset_operand z.kind)) (get_or stored c []) (get_or t.stored c [])) hx)
    (k ∙ ap (λ (ts : _). put_word marks ts written old) (ho ∙ ap (λ (z : Cell). get_or z.outputs 0 []) hx))

-- ---- memories

pub memory_values_found : (n : Netlist) (c : ℕ) (x : Cell) (stored : List Word) (own w written : Word) (outs : _) (old new : List Bool) → IsWired n → role_at n c ≡ MemoryBlock → length old ≡ length n.drivers → x ≡ cell_at n c → IsFitted x → HasMemoryNumbers x
    → outs ≡ get_or x.outputs 0 [] → own ≡ get_or stored c [] → w ≡ read_words x (number_of x RdPorts) (operand_words (bit old) x) own → written ≡ w → new ≡ put_word [] outs written old → EvaluatesValues n stored c old new
memory_values_found n c x stored own w written outs old new wired role size hx fit numbers ho hs hw hk k =
    let few : HasMemoryNumbers (cell_at n c) = subst (λ (z : Cell). HasMemoryNumbers z) hx numbers in
    let ports = ports_of_memory (cell_at n c) (bit old) role (subst (λ (z : Cell). IsFitted z) hx fit) in
    memory_values n c stored written old new wired role few.some_bits ports.read_data size
    (hk ∙ hw ∙ ap (λ (u : Word). read_words x (number_of x RdPorts) (operand_words (bit old) x) u) hs ∙ ap (λ (z : Cell). read_words z (number_of z RdPorts) (operand_words (bit old) z) (get_or stored c [])) hx)
    (k ∙ ap (λ (ts : _). put_word [] ts written old) (ho ∙ ap (λ (z : Cell). get_or z.outputs 0 []) hx))

pub memory_taints_found : (n : Netlist) (c : ℕ) (x : Cell) (stored : List Word) (t : TaintState) (released : ℕ → Bool) (own_taint w written : Word) (flag : Bool) (outs : _) (marks values old new : List Bool) → IsWired n → role_at n c ≡ MemoryBlock → length old ≡ length n.drivers
    → Marks n marks released → x ≡ cell_at n c → IsFitted x → HasMemoryNumbers x → outs ≡ get_or x.outputs 0 [] → own_taint ≡ get_or t.stored c [] → flag ≡ get_or t.flags c false
    → w ≡ read_taints x (number_of x RdPorts) (operand_words (bit values) x) (operand_taints (bit old) x) flag own_taint → written ≡ w → new ≡ put_word marks outs written old → EvaluatesTaints n stored values t released c old new
memory_taints_found n c x stored t released own_taint w written flag outs marks values old new wired role size m hx fit numbers ho hs hf hw hk k =
    let few : HasMemoryNumbers (cell_at n c) = subst (λ (z : Cell). HasMemoryNumbers z) hx numbers in
    let ports = ports_of_memory (cell_at n c) (bit values) role (subst (λ (z : Cell). IsFitted z) hx fit) in
    memory_taints n c stored written t released marks values old new wired role few.some_bits ports.read_data size m
    (hk ∙ hw ∙ ap (λ (u : Word). read_taints x (number_of x RdPorts) (operand_words (bit values) x) (operand_taints (bit old) x) flag u) hs
    ∙ ap (λ (f : Bool). read_taints x (number_of x RdPorts) (operand_words (bit values) x) (operand_taints (bit old) x) f (get_or t.stored c [])) hf
    ∙ ap (λ (z : Cell). read_taints z (number_of z RdPorts) (operand_words (bit values) z) (operand_taints (bit old) z) (get_or t.flags c false) (get_or t.stored c [])) hx)
    (k ∙ ap (λ (ts : _). put_word marks ts written old) (ho ∙ ap (λ (z : Cell). get_or z.outputs 0 []) hx))
