-- Each use of the clock is a use in the first module.
use Rattle.std.specs.Prelude.{ℕ, zero, suc, ◌+◌, ◌≡◌, ◌≢◌, ◌⊎◌, Bool, true, false, List, [], ◌∷◌, ◌++◌, take, codes, bytes_eq, nat_lt, Option, Some, None, option_and_then, option_map, option_to_list, unwrap_or, IsSomeAnd, MatchBool, IsNone, refl}
use Rattle.std.specs.List.{flat_map}
use Rattle.std.proofs.Common.{arith, sym, ap, ◌∙◌, inl, inr, subst}
use Rattle.std.proofs.lemmas.Bool.{and_parts}
use Rattle.cif_defs.specs.Words.{bit}
use Rattle.cif_defs.specs.Kinds.{role_of, is_register, is_memory}
use Rattle.cif_defs.specs.Table.{clocks_of, kind_of, param_text, type_text}
use Rattle.cif_defs.specs.RawModule.{bits_by, clock_bits, digits_given, digits_read, needed_number, port_bits}
use Rattle.cif_defs.specs.declared.kinds.Kind.{Kind}
use Rattle.cif_defs.specs.declared.kinds.Kind.TheVariants.{Adff, Adffe, Dff, Dffe, Mem, Sdff, Sdffe, Sdffce}
use Rattle.cif_defs.specs.declared.kinds.Param.TheVariants.{ClkPolarity, Init, WrClkPolarity, WrPorts}
use Rattle.cif_defs.specs.declared.kinds.Role.{Role}
use Rattle.cif_defs.specs.declared.kinds.Role.TheVariants.{Combinational, PlainRegister, ResetRegister, MemoryBlock, CarriedOver}
use Rattle.cif_defs.specs.declared.raw_module.RawBit.{RawBit}
use Rattle.cif_defs.specs.declared.raw_module.RawCell.{RawCell}
use Rattle.cif_defs.specs.declared.raw_module.Raw.{Raw}
use Rattle.cif_checks.specs.Checks.{ClockUse, clock_uses, clock_uses_by, digit_number, number_or_0, polarity_by, uses_from}
use Rattle.cif_nets.proofs.Places.{At, Has, Has-append}
use Rattle.cif_augment.specs.Names.{has_flag, has_role, has_role_by, is_reset_register}
use Rattle.cif_augment.specs.Additions.{IsCopy, IsFlag, IsTaintMemory, IsTaintRegister, copy_kind}
use Rattle.cif_emit.specs.Emitted.{IsPlainCell}
use Rattle.cif_built.specs.Makings.{state_cells}
use Rattle.cif_built.specs.Built.{IsBuilt}
use Rattle.cif_built_form.proofs.Lists.{each_has, from_flat_map, in_flat_map, in_option}
use Rattle.cif_built_form.proofs.New.{IsNew, old_or_new}

-- ---- the uses of a cell

-- place i among the clock bits of a cell of a kind
pub record IsUse (c : RawCell) (u : ClockUse) : Type 0 where
  pub kind : Kind
  pub is_kind : kind_of c.kind ≡ Some kind
  pub place : ℕ
  pub at_bit : At (clock_bits c) place u.bit
  pub polarity : u.polarity ≡ polarity_by c (role_of kind) place

use_at : (c : RawCell) (role : Role) (i : ℕ) (bits : List RawBit) (u : ClockUse) → Has (uses_from c role i bits) u → (j : ℕ) × At bits j u.bit × (u.polarity ≡ polarity_by c role (i + j))
use_at c role i [] u h = absurd h
use_at c role i (b ∷ bits) u (inl e) = (0, ap (λ (v : ClockUse). v.bit) e, sym (ap (λ (v : ClockUse). v.polarity) e) ∙ ap (polarity_by c role) (let z : i ≡ i + 0 = omega arith in z))
use_at c role i (b ∷ bits) u (inr h) = (let r = use_at c role (i + 1) bits u h in (suc r.0, r.1, r.2 ∙ ap (polarity_by c role) (let z : i + 1 + r.0 ≡ i + suc r.0 = omega arith in z)))

use_by_kind : (c : RawCell) (o : Option Kind) (u : ClockUse) → kind_of c.kind ≡ o → Has (clock_uses_by c o) u → IsUse c u
use_by_kind c None u e h = absurd h
use_by_kind c (Some k) u e h = (let r = use_at c (role_of k) 0 (clock_bits c) u h in record { kind = k; is_kind = e; place = r.0; at_bit = r.1; polarity = r.2 ∙ ap (polarity_by c (role_of k)) (let z : 0 + r.0 ≡ r.0 = omega arith in z) })

-- a use of a cell, with the bit and the polarity at a place
uses_at : (c : RawCell) (role : Role) (i j : ℕ) (bits : List RawBit) (b : RawBit) → At bits j b → (u : ClockUse) × Has (uses_from c role i bits) u × (u.bit ≡ b) × (u.polarity ≡ polarity_by c role (i + j))
uses_at c role i j [] b h = absurd h
uses_at c role i zero (d ∷ bits) b h = (record { user = c; bit = d; polarity = polarity_by c role i }, inl refl, h, ap (polarity_by c role) (let z : i ≡ i + 0 = omega arith in z))
uses_at c role i (suc j) (d ∷ bits) b h = (let r = uses_at c role (i + 1) j bits b h in (r.0, inr r.1, r.2, r.3 ∙ ap (polarity_by c role) (let z : i + 1 + j ≡ i + suc j = omega arith in z)))

-- no clock where nothing is stored
no_clocks : (k : Kind) → role_of k ≡ Combinational → clocks_of k ≡ []
unfolding clocks_of
no_clocks Dff e = absurd (cc)
no_clocks Dffe e = absurd (cc)
no_clocks Sdff e = absurd (cc)
no_clocks Sdffe e = absurd (cc)
no_clocks Sdffce e = absurd (cc)
no_clocks Adff e = absurd (cc)
no_clocks Adffe e = absurd (cc)
no_clocks Mem e = absurd (cc)
no_clocks _ e = refl

-- ---- a use in the first module

-- a use of the first module with the same bit and the same polarity
pub record HasSameUse (n : Raw) (u : ClockUse) : Type 0 where
  pub other : ClockUse
  pub has_other : Has (clock_uses n) other
  pub same_bit : other.bit ≡ u.bit
  pub same_polarity : other.polarity ≡ u.polarity

use_of_cell : (c : RawCell) (k : Kind) (u : ClockUse) → kind_of c.kind ≡ Some k → Has (uses_from c (role_of k) 0 (clock_bits c)) u → Has (clock_uses_by c (kind_of c.kind)) u
use_of_cell c k u e h = subst (λ o. Has (clock_uses_by c o) u) (sym e) h

same_use : (n : Raw) (c : RawCell) (k : Kind) (j : ℕ) (u : ClockUse) → Has n.cells c → kind_of c.kind ≡ Some k → At (clock_bits c) j u.bit → u.polarity ≡ polarity_by c (role_of k) j → HasSameUse n u
same_use n c k j u h e at p =
    let found = uses_at c (role_of k) 0 j (clock_bits c) u.bit at in
    let z : 0 + j ≡ j = omega arith in
    let here : Has (clock_uses_by c (kind_of c.kind)) found.0 = use_of_cell c k found.0 e found.1 in
    record { other = found.0; has_other = in_flat_map (λ (d : RawCell). clock_uses_by d (kind_of d.kind)) n.cells c found.0 h here; same_bit = found.2; same_polarity = found.3 ∙ ap (polarity_by c (role_of k)) z ∙ sym p }

-- ---- polarities

register_polarity : (c : RawCell) (role : Role) (j : ℕ) → is_register role ≡ true → polarity_by c role j ≡ number_or_0 c ClkPolarity
register_polarity c PlainRegister j e = refl
register_polarity c ResetRegister j e = refl
register_polarity c MemoryBlock j e = absurd (cc)
register_polarity c Combinational j e = absurd (cc)
register_polarity c CarriedOver j e = absurd (cc)

memory_polarity : (c : RawCell) (role : Role) (j : ℕ) → is_memory role ≡ true → polarity_by c role j ≡ digit_number (bit (digits_given c WrClkPolarity) j)
memory_polarity c MemoryBlock j e = refl
memory_polarity c PlainRegister j e = absurd (cc)
memory_polarity c ResetRegister j e = absurd (cc)
memory_polarity c Combinational j e = absurd (cc)
memory_polarity c CarriedOver j e = absurd (cc)

role_given : (test : Role → Bool) (c : RawCell) (o : Option Kind) → kind_of c.kind ≡ o → has_role_by test o ≡ true → (k : Kind) × (kind_of c.kind ≡ Some k) × (test (role_of k) ≡ true)
role_given test c None e h = absurd (cc)
role_given test c (Some k) e h = (k, e, h)

with_role : (test : Role → Bool) (c : RawCell) → has_role test c ≡ true → (k : Kind) × (kind_of c.kind ≡ Some k) × (test (role_of k) ≡ true)
with_role test c h = role_given test c (kind_of c.kind) refl h

-- a cell of a known type
is_kind_of : (d : RawCell) (k kind : Kind) (text : List ℕ) → d.kind ≡ text → kind_of text ≡ Some kind → kind_of d.kind ≡ Some k → k ≡ kind
is_kind_of d k kind text t e f = some_same k kind (sym f ∙ ap kind_of t ∙ e) where
  some_same : (k kind : Kind) → Some k ≡ Some kind → k ≡ kind
  some_same k kind e = ap (λ (o : Option Kind). unwrap_or o k) e

-- ---- new cells that store

register_use : (n : Raw) (c d : RawCell) (u : ClockUse) → Has n.cells c → has_role is_register c ≡ true → IsTaintRegister c d → IsUse d u → HasSameUse n u
register_use n c d u h e t is =
    let k = with_role is_register c e in
    let kind : is.kind ≡ Dff = is_kind_of d is.kind Dff (type_text Dff) t.is_new.kind refl is.is_kind in
    let new : polarity_by d (role_of is.kind) is.place ≡ number_or_0 d ClkPolarity = register_polarity d (role_of is.kind) is.place (ap (λ (q : Kind). is_register (role_of q)) kind) in
    let edge : number_or_0 d ClkPolarity ≡ number_or_0 c ClkPolarity = ap (λ v. unwrap_or (option_and_then needed_number v) 0) t.edge in
    same_use n c k.0 is.place u h k.1 (rw t.clock at is.at_bit) (is.polarity ∙ new ∙ edge ∙ sym (register_polarity c (role_of k.0) is.place k.2))

polarity_isnt_init : param_text WrClkPolarity ≢ param_text Init
polarity_isnt_init e = (let f : false ≡ true = ap (λ text. bytes_eq text (param_text Init)) e in cc)

polarity_isnt_identity : param_text WrClkPolarity ≢ codes "MEMID"
polarity_isnt_identity e = (let f : false ≡ true = ap (λ text. bytes_eq text (codes "MEMID")) e in cc)

memory_use : (n : Raw) (c d : RawCell) (u : ClockUse) → Has n.cells c → has_role is_memory c ≡ true → IsTaintMemory c d → IsUse d u → HasSameUse n u
memory_use n c d u h e t is =
    let k = with_role is_memory c e in
    let kind : is.kind ≡ Mem = is_kind_of d is.kind Mem (type_text Mem) t.is_new.kind refl is.is_kind in
    let new = memory_polarity d (role_of is.kind) is.place (ap (λ (q : Kind). is_memory (role_of q)) kind) in
    let edge : digit_number (bit (digits_given d WrClkPolarity) is.place) ≡ digit_number (bit (digits_given c WrClkPolarity) is.place) =
    ap (λ v. digit_number (bit (unwrap_or (option_map digits_read v) []) is.place)) (t.parameters (param_text WrClkPolarity) polarity_isnt_init polarity_isnt_identity) in
    same_use n c k.0 is.place u h k.1 (rw t.clock at is.at_bit) (is.polarity ∙ new ∙ edge ∙ sym (memory_polarity c (role_of k.0) is.place k.2))

first_alone : (bits : List RawBit) (j : ℕ) (b : RawBit) → At (take 1 bits) j b → (j ≡ 0) × At bits 0 b
first_alone [] j b h = absurd h
first_alone (c ∷ bits) zero b h = (refl, h)
first_alone (c ∷ bits) (suc j) b h = absurd h

flag_use : (n : Raw) (c d : RawCell) (u : ClockUse) → Has n.cells c → has_role is_memory c ≡ true → IsFlag c d → IsUse d u → HasSameUse n u
flag_use n c d u h e t is =
    let k = with_role is_memory c e in
    let kind : is.kind ≡ Dff = is_kind_of d is.kind Dff (type_text Dff) t.is_new.kind refl is.is_kind in
    let new : polarity_by d (role_of is.kind) is.place ≡ number_or_0 d ClkPolarity = register_polarity d (role_of is.kind) is.place (ap (λ (q : Kind). is_register (role_of q)) kind) in
    let edge : number_or_0 d ClkPolarity ≡ digit_number (bit (digits_given c WrClkPolarity) 0) = ap (λ v. unwrap_or v 0) t.edge in
    let first = first_alone (clock_bits c) is.place u.bit (rw t.clock at is.at_bit) in
    same_use n c k.0 0 u h k.1 first.1 (is.polarity ∙ new ∙ edge ∙ sym (memory_polarity c (role_of k.0) 0 k.2))

reset_is_register : (k : Kind) → is_reset_register (role_of k) ≡ true → is_register (role_of k) ≡ true
reset_is_register Adff e = refl
reset_is_register Adffe e = refl
reset_is_register _ e = absurd (cc)

copy_is_register : (k : Kind) → is_reset_register (role_of k) ≡ true → has_role_by is_register (kind_of (copy_kind (Some k))) ≡ true
copy_is_register Adff e = refl
copy_is_register Adffe e = refl
copy_is_register _ e = absurd (cc)

copy_use : (n : Raw) (c d : RawCell) (u : ClockUse) → Has n.cells c → has_role is_reset_register c ≡ true → IsCopy c d → IsUse d u → HasSameUse n u
copy_use n c d u h e t is =
    let k = with_role is_reset_register c e in
    let type : d.kind ≡ copy_kind (Some k.0) = t.is_new.kind ∙ ap copy_kind k.1 in
    let register : has_role_by is_register (Some is.kind) ≡ true = ap (has_role_by is_register) (sym is.is_kind ∙ ap kind_of type) ∙ copy_is_register k.0 k.2 in
    let new : polarity_by d (role_of is.kind) is.place ≡ number_or_0 d ClkPolarity = register_polarity d (role_of is.kind) is.place register in
    let edge : number_or_0 d ClkPolarity ≡ number_or_0 c ClkPolarity = ap (λ v. unwrap_or (option_and_then needed_number v) 0) t.edge in
    same_use n c k.0 is.place u h k.1 (rw t.clock at is.at_bit) (is.polarity ∙ new ∙ edge ∙ sym (register_polarity c (role_of k.0) is.place (reset_is_register k.0 k.2)))

-- ---- any new cell

taint_cases : (p q : Bool) (o : Option RawCell) (P Q : RawCell → Type 0) (d : RawCell) → o ≡ Some d → MatchBool p (IsSomeAnd o P) (MatchBool q (IsSomeAnd o Q) (IsNone o)) → ((p ≡ true) × P d) ⊎ ((q ≡ true) × Q d)
taint_cases true q (Some c) P Q d e h = inl (refl, subst P (ap (λ (o : Option RawCell). unwrap_or o c) e) h)
taint_cases false true (Some c) P Q d e h = inr (refl, subst Q (ap (λ (o : Option RawCell). unwrap_or o c) e) h)
taint_cases false false (Some c) P Q d e h = absurd (cc)
taint_cases p q None P Q d e h = absurd (cc)

one_case : (p : Bool) (o : Option RawCell) (P : RawCell → Type 0) (d : RawCell) → o ≡ Some d → MatchBool p (IsSomeAnd o P) (IsNone o) → (p ≡ true) × P d
one_case true (Some c) P d e h = (refl, subst P (ap (λ (o : Option RawCell). unwrap_or o c) e) h)
one_case false (Some c) P d e h = absurd (cc)
one_case p None P d e h = absurd (cc)

combinational_kind : (k : Kind) (o : Option Kind) → o ≡ Some k → option_map role_of o ≡ Some Combinational → role_of k ≡ Combinational
combinational_kind k o e h = ap (λ (r : Option Role). unwrap_or r (role_of k)) (sym (ap (option_map role_of) e) ∙ h)

plain_use : (d : RawCell) (u : ClockUse) → option_map role_of (kind_of d.kind) ≡ Some Combinational → IsUse d u → ⊥
plain_use d u e is =
    let none : clock_bits d ≡ [] = ap (bits_by clocks_of d) is.is_kind ∙ ap (flat_map (port_bits d)) (no_clocks is.kind (combinational_kind is.kind (kind_of d.kind) is.is_kind e)) in
    let bad : At [] is.place u.bit = rw none at is.at_bit in
    bad

module _ (n : Raw) (released : List ℕ) (a : Raw) (b : IsBuilt n released a) where
  state_use : (d : RawCell) (u : ClockUse) (is : IsNew n released a b d) → Has (state_cells is.making) d → IsUse d u → HasSameUse n u
  state_use d u is h use_of =
      let c = is.cell in
      let m = is.making in
      let block = is.is_making.block in
      elim (Has-append (option_to_list m.taint ++ option_to_list m.flag) (option_to_list m.copy) d h) [
        | inl first ↦ elim (Has-append (option_to_list m.taint) (option_to_list m.flag) d first) [
          | inl taint ↦ elim (taint_cases (has_role is_register c) (has_role is_memory c) m.taint (IsTaintRegister c) (IsTaintMemory c) d (in_option m.taint d taint) block.taint) [
            | inl r ↦ register_use n c d u is.has_cell r.0 r.1 use_of
            | inr r ↦ memory_use n c d u is.has_cell r.0 r.1 use_of
          ]
          | inr flag ↦ (let r = one_case (has_flag c) m.flag (IsFlag c) d (in_option m.flag d flag) block.flag in
              flag_use n c d u is.has_cell (and_parts (has_role is_memory c) (nat_lt 0 (number_or_0 c WrPorts)) r.0).0 r.1 use_of)
        ]
        | inr copy ↦ (let r = one_case (has_role is_reset_register c) m.copy (IsCopy c) d (in_option m.copy d copy) block.copy in copy_use n c d u is.has_cell r.0 r.1 use_of)
      ]

  new_use : (d : RawCell) (u : ClockUse) → IsNew n released a b d → IsUse d u → HasSameUse n u
  new_use d u is use_of = elim is.place [
    | inl h ↦ state_use d u is h use_of
    | inr h ↦ absurd (plain_use d u (each_has IsPlainCell (is.making.showing ++ is.making.storing) d is.is_making.plain h).computes use_of)
  ]

  pub each_use : (u : ClockUse) → Has (clock_uses a) u → HasSameUse n u
  each_use u h =
      let found = from_flat_map (λ (d : RawCell). clock_uses_by d (kind_of d.kind)) a.cells u h in
      elim (old_or_new n released a b found.0 found.1) [
        | inl old ↦ record { other = u; has_other = in_flat_map (λ (d : RawCell). clock_uses_by d (kind_of d.kind)) n.cells found.0 u old found.2; same_bit = refl; same_polarity = refl }
        | inr is ↦ new_use found.0 u is (use_by_kind found.0 (kind_of found.0.kind) u refl found.2)
      ]
