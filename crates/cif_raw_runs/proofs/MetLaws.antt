-- Words that stand where cells show them, and so the cells that compute are met.
use Rattle.std.specs.Prelude.{ℕ, ◌≡◌, Bool, List, [], ◌∷◌, get_or, Contains, Option, Some, None, option_map, refl}
use Rattle.std.proofs.Common.{ap, ◌∙◌, inl, inr}
use Rattle.cif_defs.specs.Words.{Word, bit}
use Rattle.cif_defs.specs.Kinds.{role_of}
use Rattle.cif_defs.specs.Table.{kind_of}
use Rattle.cif_defs.specs.Accepted.{cell_of, no_bit}
use Rattle.cif_defs.specs.Stimulus.{Stimulus}
use Rattle.cif_defs.specs.declared.kinds.Kind.{Kind}
use Rattle.cif_defs.specs.declared.kinds.Role.{Role}
use Rattle.cif_defs.specs.declared.kinds.Role.TheVariants.{Combinational}
use Rattle.cif_defs.specs.declared.raw_module.RawBit.{RawBit}
use Rattle.cif_defs.specs.declared.raw_module.RawBit.TheVariants.{Net, Zero, One, X, Z}
use Rattle.cif_defs.specs.declared.raw_module.RawCell.{RawCell}
use Rattle.cif_defs.specs.declared.raw_module.Raw.{Raw}
use Rattle.cif_nets.proofs.Places.{Has}
use Rattle.cif_raw_runs.specs.Assigned.{AreMet, IsMet, IsMetBy, TakesBit, TakesWord, words_read}
use Rattle.cif_raw_runs.specs.Places.{stored_word}
use Rattle.cif_raw_runs.specs.Given.{AreValues, shown_bits, word_given}
use Rattle.cif_raw_runs.proofs.Anywhere.{word_given_anywhere}
use Rattle.cif_raw_runs.proofs.Numbers.{contained_has}

takes_bit : (v : ℕ → Bool) (rb : RawBit) (b : Bool) → ((x : ℕ) → rb ≡ Net x → v x ≡ b) → TakesBit v rb b
takes_bit v (Net x) b h = h x refl
takes_bit v Zero b h = tt
takes_bit v One b h = tt
takes_bit v X b h = tt
takes_bit v Z b h = tt

pub takes_word : (v : ℕ → Bool) (bits : List RawBit) (w : Word) → ((i x : ℕ) → get_or bits i no_bit ≡ Net x → v x ≡ bit w i) → TakesWord v bits w
takes_word v bits w h = λ i l. takes_bit v (get_or bits i X) (bit w i) (λ x e. h i x e)

-- the word that a cell shows stands at its bits
pub shown_word_stands : (ns : List ℕ) (raw : Raw) (s : Stimulus) (k : ℕ) (v : ℕ → Bool) (c : RawCell) (kind : Kind) (p : ℕ) → AreValues ns raw s k v → Contains raw.cells c → kind_of c.kind ≡ Some kind
    → TakesWord v (shown_bits (role_of kind) c kind p) (word_given (role_of kind) (cell_of [] c) (words_read v c kind) (stored_word raw s k c.name) p)
shown_word_stands ns raw s k v c kind p g cell_in e =
    takes_word v (shown_bits (role_of kind) c kind p) (word_given (role_of kind) (cell_of [] c) (words_read v c kind) (stored_word raw s k c.name) p)
    (λ i x at. g.cell c kind p i x cell_in e at ∙ ap (λ (w : Word). bit w i) (word_given_anywhere ns [] c (role_of kind) (words_read v c kind) (stored_word raw s k c.name) p))

met_by_role : (v : ℕ → Bool) (c : RawCell) (kind : Kind) (role : Role) (stored : Word) → role_of kind ≡ role → role ≡ Combinational
    → ((p : ℕ) → TakesWord v (shown_bits role c kind p) (word_given role (cell_of [] c) (words_read v c kind) stored p)) → IsMetBy v c (Some kind)
met_by_role v c kind Combinational stored e f h = λ p l. h p
met_by_role v c kind _ stored e f h = absurd (cc)

met_by : (ns : List ℕ) (raw : Raw) (s : Stimulus) (k : ℕ) (v : ℕ → Bool) (c : RawCell) (o : Option Kind) → AreValues ns raw s k v → Contains raw.cells c → kind_of c.kind ≡ o → option_map role_of o ≡ Some Combinational → IsMetBy v c o
met_by ns raw s k v c None g cell_in e f = absurd (cc)
met_by ns raw s k v c (Some kind) g cell_in e f = met_by_role v c kind (role_of kind) (stored_word raw s k c.name) refl (cc) (λ p. shown_word_stands ns raw s k v c kind p g cell_in e)

pub is_met : (ns : List ℕ) (raw : Raw) (s : Stimulus) (k : ℕ) (v : ℕ → Bool) (c : RawCell) → AreValues ns raw s k v → Contains raw.cells c → option_map role_of (kind_of c.kind) ≡ Some Combinational → IsMet v c
unfolding IsMet
is_met ns raw s k v c g cell_in f = met_by ns raw s k v c (kind_of c.kind) g cell_in refl f

met_each : (v : ℕ → Bool) (cells : List RawCell) → ((c : RawCell) → Has cells c → IsMet v c) → AreMet v cells
met_each v [] h = tt
met_each v (c ∷ cells) h = (h c (inl refl), met_each v cells (λ d k. h d (inr k)))

-- cells that compute, among those of the module
pub are_met : (ns : List ℕ) (raw : Raw) (s : Stimulus) (k : ℕ) (v : ℕ → Bool) (cells : List RawCell) → AreValues ns raw s k v
    → ((c : RawCell) → Contains cells c → Contains raw.cells c × (option_map role_of (kind_of c.kind) ≡ Some Combinational)) → AreMet v cells
are_met ns raw s k v cells g h = met_each v cells (λ c k'. (let here = h c (contained_has cells c k') in is_met ns raw s k v c g here.0 here.1))
