-- Readings that a walk over cells, operands and bits gathers.
use Rattle.std.specs.Prelude.{ℕ, ◌+◌, ◌<◌, ◌≡◌, ◌⊎◌, List, [], ◌∷◌, ◌++◌, length, get_or, refl}
use Rattle.std.proofs.Common.{arith, sym, ap, subst, ◌∙◌, inl, inr}
use Rattle.std.proofs.lemmas.Bool.{cases_lt}
use Rattle.std.proofs.lemmas.List.{get_or_append_left, get_or_push, get_or_default, get_or_past, length_push}
use Rattle.cif_defs.specs.Cells.{Cell}
use Rattle.cif_defs.specs.Netlist.{Netlist, no_cell, cell_at, operand_at}
use Rattle.cif_defs.specs.declared.nets.Src.{Src}
use Rattle.cif_defs.specs.declared.nets.Src.TheVariants.{Bit, Zero}
use Rattle.cif_readers.specs.declared.readings.Reading.{Reading}
use Rattle.cif_readers.specs.Reads.{Reads}
use Rattle.cif_readers.specs.Readings.{no_reading, IsReading, Gathers, IsSource, IsAmongBits, IsAmongOperands, IsAmongCells}

-- what was gathered twice in turn
join : (a b d : List Reading) (P Q R : ℕ → ℕ → Type 0) → Gathers a b P → Gathers b d Q → ((c x : ℕ) → R c x → (P c x) ⊎ (Q c x)) → ((c x : ℕ) → P c x → R c x) → ((c x : ℕ) → Q c x → R c x) → Gathers a d R
join a b d P Q R first then split left right = record {
  kept = λ c x h. then.kept c x (first.kept c x h);
  added = λ c x h. elim (split c x h) [
    | inl p ↦ then.kept c x (first.added c x p)
    | inr q ↦ then.added c x q
  ];
  only = λ c x h. elim (then.only c x h) [
    | inl r ↦ elim (first.only c x r) [ inl o ↦ inl o | inr p ↦ inr (left c x p) ]
    | inr q ↦ inr (right c x q)
  ];
}

-- nothing fits, and nothing is gathered
pub none : (a : List Reading) (P : ℕ → ℕ → Type 0) → ((c x : ℕ) → P c x → ⊥) → Gathers a a P
none a P never = record {
  kept = λ c x h. h;
  added = λ c x h. absurd (never c x h);
  only = λ c x h. inl h;
}

-- ---- one bit

pub one_source : (a d : List Reading) (k b : ℕ) → d ≡ a ++ record { cell = k; net = b } ∷ [] → Gathers a d (IsSource k (Bit b))
one_source a d k b is = subst (λ (rs : List Reading). Gathers a rs (IsSource k (Bit b))) (sym is) (pushed a k b) where
  pushed : (a : List Reading) (k b : ℕ) → Gathers a (a ++ record { cell = k; net = b } ∷ []) (IsSource k (Bit b))
  pushed a k b =
      let x : Reading = record { cell = k; net = b } in
      let long : length (a ++ x ∷ []) ≡ length a + 1 = length_push a x in
      let last : get_or (a ++ x ∷ []) (length a) no_reading ≡ x = get_or_push a x no_reading (length a) refl in
      record {
        kept = λ c y h.
            let l : h.place < length a = h.inside in
            let same : get_or (a ++ x ∷ []) h.place no_reading ≡ get_or a h.place no_reading = get_or_append_left a (x ∷ []) no_reading h.place l in
            record {
              place = h.place;
              inside = omega arith;
              is_cell = ap (λ (r : Reading). r.cell) same ∙ h.is_cell;
              is_net = ap (λ (r : Reading). r.net) same ∙ h.is_net;
            };
        added = λ c y h. record {
          place = length a;
          inside = omega arith;
          is_cell = ap (λ (r : Reading). r.cell) last ∙ sym h.same;
          is_net = ap (λ (r : Reading). r.net) last ∙ (let e : Bit b ≡ Bit y = h.is in cc);
        };
        only = λ c y h. elim (cases_lt h.place (length a)) [
          | inl l ↦ (
              let same : get_or (a ++ x ∷ []) h.place no_reading ≡ get_or a h.place no_reading = get_or_append_left a (x ∷ []) no_reading h.place l in
              inl (record {
                place = h.place;
                inside = l;
                is_cell = sym (ap (λ (r : Reading). r.cell) same) ∙ h.is_cell;
                is_net = sym (ap (λ (r : Reading). r.net) same) ∙ h.is_net;
              }))
          | inr l ↦ (
              let inside : h.place < length (a ++ x ∷ []) = h.inside in
              let e : length a ≡ h.place = omega arith in
              let there : x ≡ get_or (a ++ x ∷ []) h.place no_reading = sym last ∙ ap (λ j. get_or (a ++ x ∷ []) j no_reading) e in
              inr (record {
                same = sym (ap (λ (r : Reading). r.cell) there ∙ h.is_cell);
                is = ap (λ y. Bit y) (ap (λ (r : Reading). r.net) there ∙ h.is_net);
              }))
        ];
      }

pub no_source : (a d : List Reading) (k : ℕ) (s : Src) → ((b : ℕ) → s ≡ Bit b → ⊥) → d ≡ a → Gathers a d (IsSource k s)
no_source a d k s constant is = subst (λ (rs : List Reading). Gathers a rs (IsSource k s)) (sym is) (none a (IsSource k s) (λ c x h. constant x h.is))

-- ---- the bits of an operand

pub more_bits : (a b d : List Reading) (k i : ℕ) (sources : List Src) (e : Src) → i < length sources → Gathers a b (IsAmongBits k sources i) → Gathers b d (IsSource k (get_or sources i e)) → Gathers a d (IsAmongBits k sources (i + 1))
more_bits a b d k i sources e l first then =
    join a b d (IsAmongBits k sources i) (IsSource k (get_or sources i e)) (IsAmongBits k sources (i + 1)) first then
    (λ c x h. elim (cases_lt h.place i) [
      | inl q ↦ inl (record { same = h.same; place = h.place; before = q; is = h.is })
      | inr q ↦ (
          let before : h.place < i + 1 = h.before in
          let same : i ≡ h.place = omega arith in
          inr (record { same = h.same; is = get_or_default sources i e Zero l ∙ ap (λ j. get_or sources j Zero) same ∙ h.is }))
    ])
    (λ c x h. let before : h.place < i = h.before in record { same = h.same; place = h.place; before = omega arith; is = h.is })
    (λ c x h. record { same = h.same; place = i; before = omega arith; is = get_or_default sources i Zero e l ∙ h.is })

-- ---- the operands of a cell

bit_inside : (sources : List Src) (i b : ℕ) → get_or sources i Zero ≡ Bit b → i < length sources
bit_inside sources i b h = elim (cases_lt i (length sources)) [
  | inl l ↦ l
  | inr l ↦ absurd (let past : get_or sources i Zero ≡ Zero = get_or_past sources i Zero l in cc)
]

operand_inside : (operands : List (List Src)) (p i b : ℕ) → get_or (get_or operands p []) i Zero ≡ Bit b → p < length operands
operand_inside operands p i b h = elim (cases_lt p (length operands)) [
  | inl l ↦ l
  | inr l ↦ absurd (
      let past : get_or operands p [] ≡ [] = get_or_past operands p [] l in
      let zero_there : get_or (get_or operands p []) i Zero ≡ Zero = ap (λ (ss : List Src). get_or ss i Zero) past in
      cc)
]

pub more_operands : (a b d : List Reading) (k i : ℕ) (operands : List (List Src)) (item sources : List Src) → i < length operands → Gathers a b (IsAmongOperands k operands i) → Gathers b d (IsAmongBits k sources (length sources))
    → item ≡ get_or operands i item → sources ≡ item → Gathers a d (IsAmongOperands k operands (i + 1))
more_operands a b d k i operands item sources l first then at lent =
    let there : sources ≡ get_or operands i [] = lent ∙ at ∙ get_or_default operands i item [] l in
    join a b d (IsAmongOperands k operands i) (IsAmongBits k sources (length sources)) (IsAmongOperands k operands (i + 1)) first then
    (λ c x h. elim (cases_lt h.operand i) [
      | inl q ↦ inl (record { same = h.same; operand = h.operand; before = q; place = h.place; is = h.is })
      | inr q ↦ (
          let before : h.operand < i + 1 = h.before in
          let same : h.operand ≡ i = omega arith in
          let is : get_or sources h.place Zero ≡ Bit x = ap (λ (ss : List Src). get_or ss h.place Zero) there ∙ sym (ap (λ p. get_or (get_or operands p []) h.place Zero) same) ∙ h.is in
          inr (record { same = h.same; place = h.place; before = bit_inside sources h.place x is; is = is }))
    ])
    (λ c x h. let before : h.operand < i = h.before in record { same = h.same; operand = h.operand; before = omega arith; place = h.place; is = h.is })
    (λ c x h. record { same = h.same; operand = i; before = omega arith; place = h.place; is = sym (ap (λ (ss : List Src). get_or ss h.place Zero) there) ∙ h.is })

-- ---- the cells

pub more_cells : (a b d : List Reading) (i : ℕ) (cells : List Cell) (item : Cell) (operands : List (List Src)) → i < length cells → Gathers a b (IsAmongCells cells i) → Gathers b d (IsAmongOperands i operands (length operands))
    → item ≡ get_or cells i item → operands ≡ item.operands → Gathers a d (IsAmongCells cells (i + 1))
more_cells a b d i cells item operands l first then at lent =
    let there : operands ≡ (get_or cells i no_cell).operands = lent ∙ ap (λ (c : Cell). c.operands) (at ∙ get_or_default cells i item no_cell l) in
    join a b d (IsAmongCells cells i) (IsAmongOperands i operands (length operands)) (IsAmongCells cells (i + 1)) first then
    (λ c x h. elim (cases_lt c i) [
      | inl q ↦ inl (record { before = q; operand = h.operand; place = h.place; is = h.is })
      | inr q ↦ (
          let before : c < i + 1 = h.before in
          let same : c ≡ i = omega arith in
          let is : get_or (get_or operands h.operand []) h.place Zero ≡ Bit x =
          ap (λ (os : List (List Src)). get_or (get_or os h.operand []) h.place Zero) there ∙ sym (ap (λ j. operand_at (get_or cells j no_cell) h.operand h.place) same) ∙ h.is in
          inr (record { same = same; operand = h.operand; before = operand_inside operands h.operand h.place x is; place = h.place; is = is }))
    ])
    (λ c x h. let before : c < i = h.before in record { before = omega arith; operand = h.operand; place = h.place; is = h.is })
    (λ c x h.
    let same : c ≡ i = h.same in
    record {
      before = omega arith;
      operand = h.operand;
      place = h.place;
      is = ap (λ j. operand_at (get_or cells j no_cell) h.operand h.place) same ∙ sym (ap (λ (os : List (List Src)). get_or (get_or os h.operand []) h.place Zero) there) ∙ h.is;
    })

-- ---- all cells of a netlist

pub cell_inside : (n : Netlist) (c b : ℕ) → Reads n c b → c < length n.cells
cell_inside n c b r = elim (cases_lt c (length n.cells)) [
  | inl l ↦ l
  | inr l ↦ absurd (
      let past : cell_at n c ≡ no_cell = get_or_past n.cells c no_cell l in
      let zero_there : operand_at (cell_at n c) r.operand r.place ≡ Zero = ap (λ (x : Cell). operand_at x r.operand r.place) past in
      let is : operand_at (cell_at n c) r.operand r.place ≡ Bit b = r.is_operand in
      cc)
]

pub reading_of_reads : (n : Netlist) (readings : List Reading) (c b : ℕ) → Gathers [] readings (IsAmongCells n.cells (length n.cells)) → Reads n c b → IsReading readings c b
reading_of_reads n readings c b all r = all.added c b (record { before = cell_inside n c b r; operand = r.operand; place = r.place; is = r.is_operand })

no_reading_in_none : (c b : ℕ) → IsReading [] c b → ⊥
no_reading_in_none c b h = let l : h.place < 0 = h.inside in absurd (omega arith)

pub reads_of_reading : (n : Netlist) (readings : List Reading) (c b : ℕ) → Gathers [] readings (IsAmongCells n.cells (length n.cells)) → IsReading readings c b → Reads n c b
reads_of_reading n readings c b all h = elim (all.only c b h) [
  | inl old ↦ absurd (no_reading_in_none c b old)
  | inr fits ↦ record { operand = fits.operand; place = fits.place; is_operand = fits.is }
]
