-- The copy of a register with asynchronous reset stores what the register stores.
use Rattle.std.specs.Prelude.{ℕ, ◌≡◌, Bool, true, List, [], ◌∷◌, map, length, Some, None, refl}
use Rattle.std.proofs.Common.{sym, ap, ◌∙◌}
use Rattle.std.proofs.lemmas.List.Folds.{flat_map-map}
use Rattle.cif_defs.specs.Words.{Word, bit, operand}
use Rattle.cif_defs.specs.Kinds.{role_of}
use Rattle.cif_defs.specs.Table.{kind_of, operands_of, parameters_of, type_text}
use Rattle.cif_defs.specs.RawModule.{bits_by, digits_given, operand_bits, port_bits}
use Rattle.cif_defs.specs.Cells.{Cell, next_by, next_word, number_of, width}
use Rattle.cif_defs.specs.Registers.{is_active, sdff_next, sdffe_next}
use Rattle.cif_defs.specs.Accepted.{cell_by, cell_of}
use Rattle.cif_defs.specs.declared.kinds.Kind.{Kind}
use Rattle.cif_defs.specs.declared.kinds.Kind.TheVariants.{Sdff, Sdffe, Adff, Adffe}
use Rattle.cif_defs.specs.declared.kinds.Role.TheVariants.{PlainRegister, ResetRegister}
use Rattle.cif_defs.specs.declared.kinds.Param.{Param}
use Rattle.cif_defs.specs.declared.kinds.Param.TheVariants.{Width, EnPolarity, SrstPolarity, SrstValue, ArstPolarity, ArstValue}
use Rattle.cif_defs.specs.declared.raw_module.RawBit.{RawBit}
use Rattle.cif_defs.specs.declared.raw_module.RawCell.{RawCell}
use Rattle.cif_checks.specs.Checks.{cell_fault, number_or_0}
use Rattle.cif_cells.proofs.FittedCells.{is_asked, number_kept}
use Rattle.cif_raw_runs.specs.Assigned.{raw_words, words_read}
use Rattle.cif_augment.specs.Additions.{IsCopy, copy_kind}
use Rattle.cif_built_runs.proofs.Lists.{same_parts}
use Rattle.cif_built_runs.proofs.Cells.{Passes, cell_as, digits_alike, number_alike, operand_lengths}

-- a register without asynchronous reset that stores what another one stores
pub record GoesAlike (c v : RawCell) (k : Kind) : Type 0 where
  pub kind : Kind
  pub is_kind : kind_of v.kind ≡ Some kind
  pub plain : role_of kind ≡ PlainRegister
  pub goes : (w : ℕ → Bool) (stored : Word) → next_word (cell_of [] v) (words_read w v kind) stored ≡ next_word (cell_of [] c) (words_read w c k) stored

-- ---- their operands

rows_same : (c v : RawCell) (k j : Kind) → kind_of c.kind ≡ Some k → kind_of v.kind ≡ Some j → operand_bits v ≡ operand_bits c
    → map length (map (port_bits v) (operands_of j)) ≡ map length (map (port_bits c) (operands_of k)) → map (port_bits v) (operands_of j) ≡ map (port_bits c) (operands_of k)
rows_same c v k j e f same long =
    same_parts (map (port_bits v) (operands_of j)) (map (port_bits c) (operands_of k)) long
    (flat_map-map (λ (bits : List RawBit). bits) (port_bits v) (operands_of j) ∙ sym (ap (bits_by operands_of v) f) ∙ same ∙ ap (bits_by operands_of c) e ∙ sym (flat_map-map (λ (bits : List RawBit). bits) (port_bits c) (operands_of k)))

kept_alike : (c v : RawCell) (k j : Kind) (p q : Param) → is_asked (parameters_of k) p ≡ true → is_asked (parameters_of j) q ≡ true → number_or_0 v q ≡ number_or_0 c p
    → number_of (cell_by [] v (Some j)) q ≡ number_of (cell_by [] c (Some k)) p
kept_alike c v k j p q asked_k asked_j e = number_kept [] v j q asked_j ∙ e ∙ sym (number_kept [] c k p asked_k)

-- ---- $adff, and $sdff for it

abbrev by_reset : ℕ → ℕ → Word → List Word → Word
by_reset w polarity value us = sdff_next w (is_active polarity (bit (operand us 1) 0)) value (operand us 0)

adff_next : (c : RawCell) (us : List Word) (stored : Word) → kind_of c.kind ≡ Some Adff
    → next_word (cell_of [] c) us stored ≡ by_reset (width (cell_by [] c (Some Adff))) (number_of (cell_by [] c (Some Adff)) ArstPolarity) (digits_given c ArstValue) us
unfolding next_by parameters_of
adff_next c us stored e = ap (λ (d : Cell). next_by d.kind d us stored) (cell_as c Adff e)

sdff_goes : (v : RawCell) (us : List Word) (stored : Word) → kind_of v.kind ≡ Some Sdff
    → next_word (cell_of [] v) us stored ≡ by_reset (width (cell_by [] v (Some Sdff))) (number_of (cell_by [] v (Some Sdff)) SrstPolarity) (digits_given v SrstValue) us
unfolding next_by parameters_of
sdff_goes v us stored e = ap (λ (d : Cell). next_by d.kind d us stored) (cell_as v Sdff e)

adff_alike : (c v : RawCell) → Passes c Adff → Passes v Sdff → IsCopy c v → (w : ℕ → Bool) (stored : Word) → next_word (cell_of [] v) (words_read w v Sdff) stored ≡ next_word (cell_of [] c) (words_read w c Adff) stored
unfolding parameters_of operands_of
adff_alike c v p r is w stored =
    let wide : width (cell_by [] v (Some Sdff)) ≡ width (cell_by [] c (Some Adff)) = kept_alike c v Adff Sdff Width Width refl refl (number_alike c v Width Width is.width) in
    let polarity : number_of (cell_by [] v (Some Sdff)) SrstPolarity ≡ number_of (cell_by [] c (Some Adff)) ArstPolarity =
    kept_alike c v Adff Sdff ArstPolarity SrstPolarity refl refl (number_alike c v ArstPolarity SrstPolarity is.reset) in
    let value : digits_given v SrstValue ≡ digits_given c ArstValue = digits_alike c v ArstValue SrstValue is.reset_value in
    let rows : map (port_bits v) (operands_of Sdff) ≡ map (port_bits c) (operands_of Adff) =
    rows_same c v Adff Sdff p.kind r.kind is.operands (operand_lengths v Sdff r ∙ ap (λ (n : ℕ). n ∷ 1 ∷ []) wide ∙ sym (operand_lengths c Adff p)) in
    let us : List Word = words_read w v Sdff in
    sdff_goes v us stored r.kind
    ∙ ap (λ n. by_reset n (number_of (cell_by [] v (Some Sdff)) SrstPolarity) (digits_given v SrstValue) us) wide
    ∙ ap (λ n. by_reset (width (cell_by [] c (Some Adff))) n (digits_given v SrstValue) us) polarity
    ∙ ap (λ (x : Word). by_reset (width (cell_by [] c (Some Adff))) (number_of (cell_by [] c (Some Adff)) ArstPolarity) x us) value
    ∙ ap (λ (bits : List (List RawBit)). by_reset (width (cell_by [] c (Some Adff))) (number_of (cell_by [] c (Some Adff)) ArstPolarity) (digits_given c ArstValue) (raw_words w bits)) rows
    ∙ sym (adff_next c (words_read w c Adff) stored p.kind)

-- ---- $adffe, and $sdffe for it

abbrev by_both : ℕ → ℕ → ℕ → Word → List Word → Word → Word
by_both w enable polarity value us stored = sdffe_next w (is_active enable (bit (operand us 1) 0)) (is_active polarity (bit (operand us 2) 0)) value (operand us 0) stored

adffe_next : (c : RawCell) (us : List Word) (stored : Word) → kind_of c.kind ≡ Some Adffe
    → next_word (cell_of [] c) us stored
    ≡ by_both (width (cell_by [] c (Some Adffe))) (number_of (cell_by [] c (Some Adffe)) EnPolarity) (number_of (cell_by [] c (Some Adffe)) ArstPolarity) (digits_given c ArstValue) us stored
unfolding next_by parameters_of
adffe_next c us stored e = ap (λ (d : Cell). next_by d.kind d us stored) (cell_as c Adffe e)

sdffe_goes : (v : RawCell) (us : List Word) (stored : Word) → kind_of v.kind ≡ Some Sdffe
    → next_word (cell_of [] v) us stored
    ≡ by_both (width (cell_by [] v (Some Sdffe))) (number_of (cell_by [] v (Some Sdffe)) EnPolarity) (number_of (cell_by [] v (Some Sdffe)) SrstPolarity) (digits_given v SrstValue) us stored
unfolding next_by parameters_of
sdffe_goes v us stored e = ap (λ (d : Cell). next_by d.kind d us stored) (cell_as v Sdffe e)

adffe_alike : (c v : RawCell) → Passes c Adffe → Passes v Sdffe → IsCopy c v → (w : ℕ → Bool) (stored : Word) → next_word (cell_of [] v) (words_read w v Sdffe) stored ≡ next_word (cell_of [] c) (words_read w c Adffe) stored
unfolding parameters_of operands_of
adffe_alike c v p r is w stored =
    let wide : width (cell_by [] v (Some Sdffe)) ≡ width (cell_by [] c (Some Adffe)) = kept_alike c v Adffe Sdffe Width Width refl refl (number_alike c v Width Width is.width) in
    let enable : number_of (cell_by [] v (Some Sdffe)) EnPolarity ≡ number_of (cell_by [] c (Some Adffe)) EnPolarity =
    kept_alike c v Adffe Sdffe EnPolarity EnPolarity refl refl (number_alike c v EnPolarity EnPolarity (is.enable p.kind)) in
    let polarity : number_of (cell_by [] v (Some Sdffe)) SrstPolarity ≡ number_of (cell_by [] c (Some Adffe)) ArstPolarity =
    kept_alike c v Adffe Sdffe ArstPolarity SrstPolarity refl refl (number_alike c v ArstPolarity SrstPolarity is.reset) in
    let value : digits_given v SrstValue ≡ digits_given c ArstValue = digits_alike c v ArstValue SrstValue is.reset_value in
    let rows : map (port_bits v) (operands_of Sdffe) ≡ map (port_bits c) (operands_of Adffe) =
    rows_same c v Adffe Sdffe p.kind r.kind is.operands (operand_lengths v Sdffe r ∙ ap (λ (n : ℕ). n ∷ 1 ∷ 1 ∷ []) wide ∙ sym (operand_lengths c Adffe p)) in
    let us : List Word = words_read w v Sdffe in
    let n : ℕ = width (cell_by [] c (Some Adffe)) in
    let e : ℕ = number_of (cell_by [] c (Some Adffe)) EnPolarity in
    let x : ℕ = number_of (cell_by [] c (Some Adffe)) ArstPolarity in
    sdffe_goes v us stored r.kind
    ∙ ap (λ m. by_both m (number_of (cell_by [] v (Some Sdffe)) EnPolarity) (number_of (cell_by [] v (Some Sdffe)) SrstPolarity) (digits_given v SrstValue) us stored) wide
    ∙ ap (λ m. by_both n m (number_of (cell_by [] v (Some Sdffe)) SrstPolarity) (digits_given v SrstValue) us stored) enable
    ∙ ap (λ m. by_both n e m (digits_given v SrstValue) us stored) polarity
    ∙ ap (λ (y : Word). by_both n e x y us stored) value
    ∙ ap (λ (bits : List (List RawBit)). by_both n e x (digits_given c ArstValue) (raw_words w bits) stored) rows
    ∙ sym (adffe_next c (words_read w c Adffe) stored p.kind)

-- ---- so by kind

sdff_kind : kind_of (type_text Sdff) ≡ Some Sdff
sdff_kind = refl

sdffe_kind : kind_of (type_text Sdffe) ≡ Some Sdffe
sdffe_kind = refl

pub copy_goes : (c v : RawCell) (k : Kind) → Passes c k → role_of k ≡ ResetRegister → cell_fault v ≡ None → IsCopy c v → GoesAlike c v k
copy_goes c v Adff p r h is =
    let e : kind_of v.kind ≡ Some Sdff = ap kind_of (is.is_new.kind ∙ ap copy_kind p.kind) ∙ sdff_kind in
    record { kind = Sdff; is_kind = e; plain = refl; goes = adff_alike c v p (record { kind = e; passes = h }) is }
copy_goes c v Adffe p r h is =
    let e : kind_of v.kind ≡ Some Sdffe = ap kind_of (is.is_new.kind ∙ ap copy_kind p.kind) ∙ sdffe_kind in
    record { kind = Sdffe; is_kind = e; plain = refl; goes = adffe_alike c v p (record { kind = e; passes = h }) is }
copy_goes c v _ p r h is = absurd (cc)
