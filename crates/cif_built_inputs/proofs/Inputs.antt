-- What input ports hold under the augmented stimulus: the values, and at the ports of taint the taints.
use Rattle.std.specs.Prelude.{ℕ, zero, suc, ◌≡◌, Bool, true, false, not, ◌&&◌, List, [], ◌∷◌, length, map, get_or, bytes_eq, None, refl}
use Rattle.std.proofs.Common.{sym, ap, ◌∙◌, cond, inl, inr}
use Rattle.std.proofs.lemmas.Bool.{and_parts, and_left}
use Rattle.std.proofs.lemmas.List.{get_or_past}
use Rattle.cif_defs.specs.Words.{Word, bit}
use Rattle.cif_defs.specs.Order.{IsInOrder}
use Rattle.cif_defs.specs.RawModule.{net_numbers}
use Rattle.cif_defs.specs.Accepted.{is_input, netlist_of, no_bit, source}
use Rattle.cif_defs.specs.Stimulus.{StimLine, Stimulus, TaintedWord, set_line, unset}
use Rattle.cif_defs.specs.declared.nets.Src.{Src}
use Rattle.cif_defs.specs.declared.nets.Src.TheVariants.{Zero}
use Rattle.cif_defs.specs.declared.raw_module.RawBit.{RawBit}
use Rattle.cif_defs.specs.declared.raw_module.RawPort.{RawPort}
use Rattle.cif_defs.specs.declared.raw_module.Raw.{Raw}
use Rattle.cif_defs.proofs.WordLaws.{bit-word, le_or_lt, past_word}
use Rattle.cif_stimulus.specs.Fitting.{fits_alone, fits_of, has_address, has_name, has_width}
use Rattle.cif_nets.proofs.Places.{Has, Has-unfilter}
use Rattle.cif_raw_runs.specs.Given.{port_holds}
use Rattle.cif_raw_runs.proofs.Numbers.{has_contained}
use Rattle.cif_augment.specs.Names.{data_ports, is_data_port, taint_name}
use Rattle.cif_augment.specs.Refusals.{names_fault}
use Rattle.cif_augment.specs.Stimuli.{augmented, input_bits, is_released_bit, unreleased, untainted}
use Rattle.cif_built_inputs.specs.Given.{GivesInputs}
use Rattle.cif_built_inputs.proofs.Finds.{other_name, same_name}
use Rattle.cif_built_inputs.proofs.Lines.{held_alike}
use Rattle.cif_built_inputs.proofs.Named.{SetPort, bits_of_port, set_port}
use Rattle.cif_built_inputs.proofs.Names.{no_wanted_stands, port_stands, port_wanted, same_taint_bytes}

line_port : (n : Raw) (name : List ℕ) (w : TaintedWord) → fits_alone n (set_line name w) ≡ true → SetPort n name
line_port n name w h = set_port n name (and_parts (has_name n (set_line name w)) (has_address n (set_line name w)) (and_parts (has_name n (set_line name w) && has_address n (set_line name w)) (has_width n (set_line name w)) h).0).0

-- the name of a taint isn't that of a port that stands
not_standing : (n : Raw) (name : List ℕ) (p : RawPort) → names_fault n ≡ None → SetPort n name → Has n.ports p → bytes_eq (taint_name name) p.name ≡ false
not_standing n name p free set h = other_name (taint_name name) p.name (λ e.
    no_wanted_stands n (taint_name set.port.name) p.name free (port_wanted n set.port set.is_data) (port_stands n p h) (ap taint_name set.named ∙ e))

no_taint_name : (n : Raw) (name : List ℕ) (p : RawPort) → names_fault n ≡ None → SetPort n name → Has (data_ports n) p → bytes_eq name (taint_name p.name) ≡ false
no_taint_name n name p free set h = other_name name (taint_name p.name) (λ e.
    no_wanted_stands n (taint_name p.name) set.port.name free (port_wanted n p h) (port_stands n set.port set.stands) (sym (set.named ∙ e)))

-- ---- values

abbrev AreValuesAt : ℕ → TaintedWord → TaintedWord → Type 0
AreValuesAt i u v = bit u.value i ≡ bit v.value i

value_chosen : (i : ℕ) (a b : Bool) (t w u v : TaintedWord) → a ≡ false → AreValuesAt i u v → AreValuesAt i (cond a t (cond b (untainted w.value) u)) (cond b w v)
value_chosen i a b t w u v e r = rw e (by_test b) where
  by_test : (c : Bool) → AreValuesAt i (cond c (untainted w.value) u) (cond c w v)
  by_test true = refl
  by_test false = r

values_held : (n : Raw) (s : Stimulus) (k i : ℕ) (p : RawPort) → names_fault n ≡ None → fits_of n s ≡ true → Has n.ports p → bit (port_holds (augmented (netlist_of n) s) k p).value i ≡ bit (port_holds s k p).value i
unfolding augmented fits_of
values_held n s k i p free fit h = held_alike (AreValuesAt i) n s.lines p.name p.name k
    (λ name w u v fits r. value_chosen i (bytes_eq (taint_name name) p.name) (bytes_eq name p.name) (untainted (unreleased s.lines (input_bits (netlist_of n) name) w.taint)) w u v (not_standing n name p free (line_port n name w fits) h) r)
    [] s.lines unset unset fit refl

-- ---- taints

abbrev AreTaintsAt : ℕ → Bool → TaintedWord → TaintedWord → Type 0
AreTaintsAt i kept u v = bit u.value i ≡ (bit v.taint i && kept)

unreleased_at : (lines : List StimLine) (bits : List Src) (t : Word) (i : ℕ) → bit (unreleased lines bits t) i ≡ (bit t i && not (is_released_bit lines (get_or bits i Zero)))
unreleased_at lines bits t i = elim (le_or_lt i (length t)) [
  | inl l ↦ bit-word (length t) (λ j. bit t j && not (is_released_bit lines (get_or bits j Zero))) i false l
  | inr m ↦ past_word (length t) (λ j. bit t j && not (is_released_bit lines (get_or bits j Zero))) i false m ∙ sym (and_left (bit t i) (not (is_released_bit lines (get_or bits i Zero))) (get_or_past t i false m))
]

source_at : (ns : List ℕ) (bits : List RawBit) (i : ℕ) → get_or (map (source ns) bits) i Zero ≡ source ns (get_or bits i no_bit)
source_at ns [] i = refl
source_at ns (b ∷ bits) zero = refl
source_at ns (b ∷ bits) (suc i) = source_at ns bits i

taint_chosen : (i : ℕ) (kept a b c : Bool) (t w x u v : TaintedWord) → b ≡ false → a ≡ c → (c ≡ true → AreTaintsAt i kept t w) → AreTaintsAt i kept u v → AreTaintsAt i kept (cond a t (cond b x u)) (cond c w v)
taint_chosen i kept a b c t w x u v e f here r = rw (e, f) (by_test c here) where
  by_test : (d : Bool) → (d ≡ true → AreTaintsAt i kept t w) → AreTaintsAt i kept (cond d t u) (cond d w v)
  by_test true h = h refl
  by_test false h = r

taints_held : (n : Raw) (s : Stimulus) (k i : ℕ) (p q : RawPort) → IsInOrder n → names_fault n ≡ None → fits_of n s ≡ true → Has (data_ports n) p → is_input p ≡ true → q.name ≡ taint_name p.name
    → bit (port_holds (augmented (netlist_of n) s) k q).value i ≡ (bit (port_holds s k p).taint i && not (is_released_bit s.lines (source (net_numbers n) (get_or p.bits i no_bit))))
unfolding augmented fits_of data_ports
taints_held n s k i p q order free fit h input is =
    let kept : Bool = not (is_released_bit s.lines (source (net_numbers n) (get_or p.bits i no_bit))) in
    let stands : Has n.ports p = Has-unfilter (is_data_port n) n.ports p h in
    rw is (held_alike (AreTaintsAt i kept) n s.lines (taint_name p.name) p.name k
    (λ name w u v fits r. taint_chosen i kept (bytes_eq (taint_name name) (taint_name p.name)) (bytes_eq name (taint_name p.name)) (bytes_eq name p.name) (untainted (unreleased s.lines (input_bits (netlist_of n) name) w.taint)) w (untainted w.value) u v
    (no_taint_name n name p free (line_port n name w fits) h)
    (same_taint_bytes name p.name)
    (λ same. let bits = ap (input_bits (netlist_of n)) (same_name name p.name same) ∙ bits_of_port n p order stands input in
    unreleased_at s.lines (input_bits (netlist_of n) name) w.taint i
    ∙ ap (λ (bs : List Src). bit w.taint i && not (is_released_bit s.lines (get_or bs i Zero))) bits
    ∙ ap (λ (b : Src). bit w.taint i && not (is_released_bit s.lines b)) (source_at (net_numbers n) p.bits i))
    r)
    [] s.lines unset unset fit refl)

pub gives_inputs : (n a : Raw) (s : Stimulus) (k : ℕ) → IsInOrder n → names_fault n ≡ None → fits_of n s ≡ true → GivesInputs n a s (augmented (netlist_of n) s) k
gives_inputs n a s k order free fit = record {
  values = λ p i h e. values_held n s k i p free fit (has_contained n.ports p h);
  taints = λ p q i h e is l. taints_held n s k i p q order free fit (has_contained (data_ports n) p h) e is;
}
