-- Every narrow combinational cell has a form, but for wide tables.
use Rattle.std.specs.Prelude.{◌≤◌, ◌≡◌, ◌≢◌, true, false, length}
use Rattle.std.proofs.Common.{arith, ap, sym, ◌∙◌}
use Rattle.std.proofs.lemmas.List.{length-map}
use Rattle.cif_defs.specs.Cells.{Cell}
use Rattle.cif_defs.specs.Fitted.{IsFitted, row_width}
use Rattle.cif_defs.specs.Kinds.{role_of}
use Rattle.cif_defs.specs.Table.{operands_of, outputs_of}
use Rattle.cif_defs.specs.declared.kinds.Kind.{Kind}
use Rattle.cif_defs.specs.declared.kinds.Kind.TheVariants.{Adff, Adffe, Alu, Dff, Dffe, Lut, Mem, ScopeInfo, Sdff, Sdffce, Sdffe}
use Rattle.cif_defs.specs.declared.kinds.Role.TheVariants.{Combinational}
use Rattle.word_numbers.specs.NarrowCells.{IsNarrow}
use Rattle.word_sums.specs.Covered.{covers_numbers}
use Rattle.cif_words.specs.Forms.{HasForm, SaysOf, StandsFor}
use Rattle.cif_words.specs.declared.form.WordForm.{WordForm}

-- ---- ports

few_operands : (k : Kind) → role_of k ≡ Combinational → length (operands_of k) ≤ 4
unfolding operands_of
few_operands Dff h = absurd (cc)
few_operands Dffe h = absurd (cc)
few_operands Sdff h = absurd (cc)
few_operands Sdffe h = absurd (cc)
few_operands Sdffce h = absurd (cc)
few_operands Adff h = absurd (cc)
few_operands Adffe h = absurd (cc)
few_operands Mem h = absurd (cc)
few_operands ScopeInfo h = absurd (cc)
few_operands _ h = omega arith

few_outputs : (k : Kind) → role_of k ≡ Combinational → length (outputs_of k) ≤ 4
unfolding outputs_of
few_outputs Dff h = absurd (cc)
few_outputs Dffe h = absurd (cc)
few_outputs Sdff h = absurd (cc)
few_outputs Sdffe h = absurd (cc)
few_outputs Sdffce h = absurd (cc)
few_outputs Adff h = absurd (cc)
few_outputs Adffe h = absurd (cc)
few_outputs Mem h = absurd (cc)
few_outputs ScopeInfo h = absurd (cc)
few_outputs _ h = omega arith

stands : (f : WordForm) (c : Cell) → IsFitted c → role_of c.kind ≡ Combinational → IsNarrow c → SaysOf f c → StandsFor f c
stands f c fit r n s =
    let ins : length c.operands ≡ length (operands_of c.kind) = sym (length-map c.operands length) ∙ ap length fit.operands ∙ length-map (operands_of c.kind) (row_width c) in
    let outs : length c.outputs ≡ length (outputs_of c.kind) = sym (length-map c.outputs length) ∙ ap length fit.outputs ∙ length-map (outputs_of c.kind) (row_width c) in
    let few : length (operands_of c.kind) ≤ 4 = few_operands c.kind r in
    let few_out : length (outputs_of c.kind) ≤ 4 = few_outputs c.kind r in
    record { narrow = n; few = omega arith; few_outputs = omega arith; says = s }

-- ---- kinds

plain : (f : WordForm) (c : Cell) → IsFitted c → role_of c.kind ≡ Combinational → IsNarrow c → c.kind ≢ Lut → SaysOf f c → HasForm c × StandsFor f c
plain f c fit r n other s = (record { role = r; narrow = n; table = λ e. absurd (other e) }, stands f c fit r n s)

pub number_form : (f : WordForm) (c : Cell) → IsFitted c → (role_of c.kind ≡ Combinational) × IsNarrow c → covers_numbers c.kind ≡ true → SaysOf f c → HasForm c × StandsFor f c
number_form f c fit n h s = plain f c fit n.0 n.1 (λ e. absurd (let no : false ≡ true = sym (ap covers_numbers e) ∙ h in cc)) s

pub adder_form : (f : WordForm) (c : Cell) → IsFitted c → (role_of c.kind ≡ Combinational) × IsNarrow c → c.kind ≡ Alu → SaysOf f c → HasForm c × StandsFor f c
adder_form f c fit n h s = plain f c fit n.0 n.1 (λ e. absurd (let no : Alu ≡ Lut = sym h ∙ e in cc)) s
