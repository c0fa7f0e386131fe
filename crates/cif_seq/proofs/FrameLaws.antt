-- From the settled bits of a cycle to its frame, and from a frame to the next.
use Rattle.std.specs.Prelude.{ℕ, ◌+◌, ◌<◌, ◌≡◌, Bool, false, List, length, get_or}
use Rattle.std.proofs.Common.{ap, sym, ◌∙◌, inl, inr, subst, add-one}
use Rattle.std.proofs.lemmas.List.{get_or_past}
use Rattle.cif_defs.specs.Accepted.{netlist_of}
use Rattle.cif_defs.specs.Agreement.{AgreesUpTo}
use Rattle.cif_defs.specs.Loop.{IsLevelled}
use Rattle.cif_defs.specs.Words.{Word, bit}
use Rattle.cif_defs.specs.Netlist.{IsWired, Netlist, driver_of, no_wire}
use Rattle.cif_defs.specs.Stimulus.{Stimulus, is_released}
use Rattle.cif_defs.specs.Run.{input_value, next_stored, state, state, value, value_in}
use Rattle.cif_defs.specs.TaintRun.{IsFrame, TaintState, input_taint, next_taints, settled_taint, state_taint, state_value, taint, taint_state}
use Rattle.cif_defs.specs.declared.nets.Driver.TheVariants.{Input}
use Rattle.cif_defs.specs.declared.nets.Src.TheVariants.{Bit, Zero}
use Rattle.cif_defs.specs.declared.nets.Wire.{Wire}
use Rattle.cif_defs.specs.declared.raw_module.Raw.{Raw}
use Rattle.cif_defs.proofs.Noninterference.{noninterference, state_noninterference}
use Rattle.cif_defs.proofs.WordLaws.{le_or_lt}
use Rattle.cif_inputs.specs.Cursor.{IsAt, cycle_of}
use Rattle.cif_inputs.specs.declared.inputs.InputMap.{InputMap}
use Rattle.cif_inputs.specs.declared.inputs.Inputs.{Inputs}
use Rattle.cif_seq.specs.Cases.{CaseOf, net_of}
use Rattle.cif_seq.specs.FrameView.{HoldsFrame}
use Rattle.cif_seq.specs.Inputs.{StandsAt}
use Rattle.cif_seq.specs.GivenAt.{given_by}
use Rattle.cif_seq.specs.Stored.{given_words}
use Rattle.cif_readers.specs.Reads.{Notes}
use Rattle.cif_shown.specs.Shown.{Shows, WillRest}
use Rattle.cif_shown.proofs.Unique.{taints_unique, values_unique}
use Rattle.cif_seq.proofs.Slices.{same_function}

-- ---- the cursor

pub stands : (n : Netlist) (s : Stimulus) (k : ℕ) (names : InputMap) (inputs : Inputs) → IsAt n s names inputs → cycle_of inputs ≡ k → StandsAt n s k inputs
stands n s k names inputs h e = record {
  cycle = e;
  at = λ other m. record { looked_up = m; as_many = h.as_many; inside = h.inside; so_far = h.so_far; stops = h.stops };
}

-- the port of a driver is an input port
in_inputs : (n : Netlist) (p i b : ℕ) → get_or (get_or n.inputs p no_wire).bits i Zero ≡ Bit b → p < length n.inputs
in_inputs n p i b e = elim (le_or_lt p (length n.inputs)) [
  | inl l ↦ l
  | inr l ↦ absurd (let z : get_or (get_or n.inputs p no_wire).bits i Zero ≡ Zero = ap (λ (x : Wire). get_or x.bits i Zero) (get_or_past n.inputs p no_wire l) in cc)
]

pub port_found : (n : Netlist) (b p i : ℕ) → IsWired n → driver_of n b ≡ Input p i → p < length n.inputs
port_found n b p i w e = in_inputs n p i b (w.input_place b p i e)

-- ---- the bits of a frame

same_state : (t u : TaintState) → t.stored ≡ u.stored → t.flags ≡ u.flags → t ≡ u
same_state t u e q = λ i. record { stored = e i; flags = q i }

frame_values : (n : Netlist) (s : Stimulus) (k : ℕ) (stored : List Word) (bits : List Bool) → stored ≡ state n s k → ((b : ℕ) → bit bits b ≡ value_in n stored (input_value n s k) b) → (b : ℕ) → bit bits b ≡ value n s k b
frame_values n s k stored bits e h = λ b. h b ∙ ap (λ (ws : List Word). value_in n ws (input_value n s k) b) e

frame_taints : (n : Netlist) (s : Stimulus) (k : ℕ) (stored stored_taints : List Word) (flags bits : List Bool) → stored ≡ state n s k → stored_taints ≡ (taint_state n s k).stored → flags ≡ (taint_state n s k).flags
    → ((b : ℕ) → bit bits b ≡ settled_taint n stored (value_in n stored (input_value n s k)) (record { stored = stored_taints; flags = flags }) (input_taint n s k) (is_released s.lines) (length n.cells) b)
    → (b : ℕ) → bit bits b ≡ taint n s k b
frame_taints n s k stored stored_taints flags bits e f g h = λ b.
    h b
    ∙ ap (λ (ws : List Word). settled_taint n ws (value_in n ws (input_value n s k)) (record { stored = stored_taints; flags = flags }) (input_taint n s k) (is_released s.lines) (length n.cells) b) e
    ∙ ap (λ (x : TaintState). settled_taint n (state n s k) (value n s k) x (input_taint n s k) (is_released s.lines) (length n.cells) b) (same_state (record { stored = stored_taints; flags = flags }) (taint_state n s k) f g)

pub holds_frame : (c : CaseOf) (k : ℕ) (values taints : List Bool) (stored stored_taints : List Word) (flags begun begun_taints begun_marks due : List Bool) (inputs : Inputs) → stored ≡ state (net_of c) c.stimulus k → stored_taints ≡ (taint_state (net_of c) c.stimulus k).stored
    → flags ≡ (taint_state (net_of c) c.stimulus k).flags → StandsAt (net_of c) c.stimulus k inputs → IsWired (net_of c) → IsLevelled (net_of c) c.order
    → ((b : ℕ) → Shows (net_of c) (given_by c stored stored_taints flags (input_value (net_of c) c.stimulus (cycle_of inputs)) (input_taint (net_of c) c.stimulus (cycle_of inputs))) values taints b)
    → length values ≡ length (net_of c).drivers → length taints ≡ length (net_of c).drivers → length due ≡ length (net_of c).cells → WillRest (net_of c) (given_words stored stored_taints flags) begun begun_taints begun_marks
    → Notes (net_of c) begun begun_taints values taints begun_marks due → HoldsFrame c k values taints stored stored_taints flags due inputs
unfolding WillRest
holds_frame c k values taints stored stored_taints flags begun begun_taints begun_marks due inputs e f g at w o h sv st sd rest notes =
    let n : Netlist = net_of c in let s : Stimulus = c.stimulus in
    let hv : (b : ℕ) → bit values b ≡ value_in n stored (input_value n s (cycle_of inputs)) b = values_unique n c.order (given_by c stored stored_taints flags (input_value n s (cycle_of inputs)) (input_taint n s (cycle_of inputs))) values taints w o h in
    let ht : (b : ℕ) → bit taints b ≡ settled_taint n stored (value_in n stored (input_value n s (cycle_of inputs))) (record { stored = stored_taints; flags = flags }) (input_taint n s (cycle_of inputs)) (is_released s.lines) (length n.cells) b =
    (λ b. taints_unique n c.order (given_by c stored stored_taints flags (input_value n s (cycle_of inputs)) (input_taint n s (cycle_of inputs))) values taints w o h b
    ∙ ap (λ (v : ℕ → Bool). settled_taint n stored v (record { stored = stored_taints; flags = flags }) (input_taint n s (cycle_of inputs)) (is_released s.lines) (length n.cells) b) (same_function (bit values) _ hv)) in
    record {
      shown = record {
        net_values = frame_values n s k stored values e (subst (λ j. (b : ℕ) → bit values b ≡ value_in n stored (input_value n s j) b) at.cycle hv);
        net_taints = frame_taints n s k stored stored_taints flags taints e f g
            (subst (λ j. (b : ℕ) → bit taints b ≡ settled_taint n stored (value_in n stored (input_value n s j)) (record { stored = stored_taints; flags = flags }) (input_taint n s j) (is_released s.lines) (length n.cells) b) at.cycle ht);
        state_values = e;
        state_taints = f;
        memory_flags = g;
      };
      at = at;
      as_many_values = sv;
      as_many_taints = st;
      as_many_due = sd;
      shows = subst (λ j. (b : ℕ) → Shows n (given_by c stored stored_taints flags (input_value n s j) (input_taint n s j)) values taints b) at.cycle h;
      resting = rest values taints due notes;
    }

-- ---- from frame to frame

next_state : (n : Netlist) (s : Stimulus) (k : ℕ) (stored : List Word) (values : List Bool) → stored ≡ state n s k → ((b : ℕ) → bit values b ≡ value n s k b) → next_stored n stored (bit values) ≡ state n s (k + 1)
unfolding state
next_state n s k stored values e h = rw add-one (ap (λ (ws : List Word). next_stored n ws (bit values)) e ∙ ap (λ (f : ℕ → Bool). next_stored n (state n s k) f) (same_function (bit values) (value n s k) h))

next_taint_state : (n : Netlist) (s : Stimulus) (k : ℕ) (stored : List Word) (t : TaintState) (values taints : List Bool) → stored ≡ state n s k → t ≡ taint_state n s k → ((b : ℕ) → bit values b ≡ value n s k b) → ((b : ℕ) → bit taints b ≡ taint n s k b)
    → next_taints n stored (bit values) t (bit taints) ≡ taint_state n s (k + 1)
unfolding taint_state
next_taint_state n s k stored t values taints e f h g = rw add-one (
    ap (λ (ws : List Word). next_taints n ws (bit values) t (bit taints)) e
    ∙ ap (λ (v : ℕ → Bool). next_taints n (state n s k) v t (bit taints)) (same_function (bit values) (value n s k) h)
    ∙ ap (λ (x : TaintState). next_taints n (state n s k) (value n s k) x (bit taints)) f
    ∙ ap (λ (v : ℕ → Bool). next_taints n (state n s k) (value n s k) (taint_state n s k) v) (same_function (bit taints) (taint n s k) g))

frame_state : (n : Netlist) (s : Stimulus) (k : ℕ) (values taints : List Bool) (stored stored_taints : List Word) (flags : List Bool) → IsFrame n s k values taints stored stored_taints flags → next_stored n stored (bit values) ≡ state n s (k + 1)
frame_state n s k values taints stored stored_taints flags h = next_state n s k stored values h.state_values h.net_values

frame_taint_state : (n : Netlist) (s : Stimulus) (k : ℕ) (values taints : List Bool) (stored stored_taints : List Word) (flags : List Bool) → IsFrame n s k values taints stored stored_taints flags
    → next_taints n stored (bit values) (record { stored = stored_taints; flags = flags }) (bit taints) ≡ taint_state n s (k + 1)
frame_taint_state n s k values taints stored stored_taints flags h =
    next_taint_state n s k stored (record { stored = stored_taints; flags = flags }) values taints h.state_values (same_state _ (taint_state n s k) h.state_taints h.memory_flags) h.net_values h.net_taints

-- the same, as the calls of the code say it: raw is the case's module, and seen are the net bits of the frame
pub next_state_of : (c : CaseOf) (k : ℕ) (raw : Raw) (values taints seen : List Bool) (stored stored_taints new : List Word) (flags : List Bool) → IsFrame (net_of c) c.stimulus k values taints stored stored_taints flags → raw ≡ c.raw → seen ≡ values
    → new ≡ next_stored (netlist_of raw) stored (bit seen) → new ≡ state (net_of c) c.stimulus (k + 1)
next_state_of c k raw values taints seen stored stored_taints new flags h e f g =
    g ∙ ap (λ (x : Raw). next_stored (netlist_of x) stored (bit seen)) e ∙ ap (λ (bits : List Bool). next_stored (net_of c) stored (bit bits)) f ∙ frame_state (net_of c) c.stimulus k values taints stored stored_taints flags h

next_all_of : (c : CaseOf) (k : ℕ) (raw : Raw) (values taints seen seen_taints : List Bool) (stored stored_taints : List Word) (flags : List Bool) → IsFrame (net_of c) c.stimulus k values taints stored stored_taints flags → raw ≡ c.raw → seen ≡ values → seen_taints ≡ taints
    → next_taints (netlist_of raw) stored (bit seen) (record { stored = stored_taints; flags = flags }) (bit seen_taints) ≡ taint_state (net_of c) c.stimulus (k + 1)
next_all_of c k raw values taints seen seen_taints stored stored_taints flags h e f g =
    ap (λ (x : Raw). next_taints (netlist_of x) stored (bit seen) (record { stored = stored_taints; flags = flags }) (bit seen_taints)) e
    ∙ ap (λ (bits : List Bool). next_taints (net_of c) stored (bit bits) (record { stored = stored_taints; flags = flags }) (bit seen_taints)) f
    ∙ ap (λ (bits : List Bool). next_taints (net_of c) stored (bit values) (record { stored = stored_taints; flags = flags }) (bit bits)) g
    ∙ frame_taint_state (net_of c) c.stimulus k values taints stored stored_taints flags h

pub next_taints_of : (c : CaseOf) (k : ℕ) (raw : Raw) (values taints seen seen_taints : List Bool) (stored stored_taints new : List Word) (flags : List Bool) → IsFrame (net_of c) c.stimulus k values taints stored stored_taints flags → raw ≡ c.raw → seen ≡ values → seen_taints ≡ taints
    → new ≡ (next_taints (netlist_of raw) stored (bit seen) (record { stored = stored_taints; flags = flags }) (bit seen_taints)).stored → new ≡ (taint_state (net_of c) c.stimulus (k + 1)).stored
next_taints_of c k raw values taints seen seen_taints stored stored_taints new flags h e f g q = q ∙ ap (λ (x : TaintState). x.stored) (next_all_of c k raw values taints seen seen_taints stored stored_taints flags h e f g)

pub next_flags_of : (c : CaseOf) (k : ℕ) (raw : Raw) (values taints seen seen_taints : List Bool) (stored stored_taints : List Word) (flags new : List Bool) → IsFrame (net_of c) c.stimulus k values taints stored stored_taints flags → raw ≡ c.raw → seen ≡ values → seen_taints ≡ taints
    → new ≡ (next_taints (netlist_of raw) stored (bit seen) (record { stored = stored_taints; flags = flags }) (bit seen_taints)).flags → new ≡ (taint_state (net_of c) c.stimulus (k + 1)).flags
next_flags_of c k raw values taints seen seen_taints stored stored_taints flags new h e f g q = q ∙ ap (λ (x : TaintState). x.flags) (next_all_of c k raw values taints seen seen_taints stored stored_taints flags h e f g)

-- ---- an untainted answer doesn't depend on tainted bits

pub bit_independent : (n : Netlist) (order : List ℕ) (s other : Stimulus) (k b : ℕ) (v t : Bool) → IsWired n → IsLevelled n order → v ≡ value n s k b → t ≡ taint n s k b → AgreesUpTo n k s other → t ≡ false → value n other k b ≡ v
bit_independent n order s other k b v t w o e f g h = noninterference n order s other k w o g b (sym f ∙ h) ∙ sym e

pub state_independent : (n : Netlist) (order : List ℕ) (s other : Stimulus) (k c i : ℕ) (v t : Bool) → IsWired n → IsLevelled n order → v ≡ state_value n s k c i → t ≡ state_taint n s k c i → AgreesUpTo n k s other → t ≡ false → state_value n other k c i ≡ v
state_independent n order s other k c i v t w o e f g h = state_noninterference n order s other k w o g c i (sym f ∙ h) ∙ sym e
