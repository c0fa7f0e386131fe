-- The names of further cells: each is the name of one cell, and no name that is wanted of a cell.
use Rattle.std.specs.Prelude.{ℕ, suc, ◌+◌, ◌^◌, ◌<◌, ◌≤◌, ◌≡◌, Bool, true, false, ◌||◌, List, [], ◌∷◌, ◌++◌, length, get_or, refl}
use Rattle.std.specs.List.{flat_map, AllZip}
use Rattle.std.specs.List.Sorted.{IsStrictlySortedBy}
use Rattle.std.proofs.Common.{arith, sym, ap, ◌∙◌, inl, inr}
use Rattle.std.proofs.lemmas.Bool.{cases_lt}
use Rattle.cif_defs.specs.Kinds.{is_register, is_memory}
use Rattle.cif_defs.specs.Order.{AreInOrder, cell_names}
use Rattle.cif_defs.specs.declared.raw_module.RawCell.{RawCell}
use Rattle.cif_nets.proofs.Places.{Has, At-get, At-has, At-below, Has-append}
use Rattle.cif_augment.specs.Names.{taint_name, flag_name, stored_name, numbered_name, has_role, has_flag, is_reset_register}
use Rattle.cif_augment.specs.Refusals.{name_if, wanted_for}
use Rattle.cif_augment.specs.Additions.{Block}
use Rattle.cif_built_names.proofs.BlockNames.{cell_name, further_cells}
use Rattle.cif_built_names.proofs.NameCounts.{hit, hit_once, hit_same, named, no_time, once, either_once, same_hit, some_time, times, times-append}
use Rattle.cif_built_names.proofs.NumberedNames.{numbered_no_flag, numbered_no_stored, numbered_no_taint, numbered_same}

-- the further cells of a block bear the numbered names of a cell, and are few enough for numbers of 64 digits
pub record AreNumbered (c : RawCell) (b : Block) : Type 0 where
  pub few : length b.further < 10 ^ 64
  pub names : (i : ℕ) (d : RawCell) → i < length b.further → (get_or b.further i d).name ≡ numbered_name c.name i

-- the name of a further cell of one of some cells
pub record IsFurther (name : List ℕ) (cells : List RawCell) : Type 0 where
  pub cell : RawCell
  pub has : Has cells cell
  pub number : ℕ
  pub few : number < 10 ^ 64
  pub is : name ≡ numbered_name cell.name number

-- ---- one block

-- cells that bear the numbered names from k on
abbrev AreNumberedFrom : List ℕ → ℕ → List RawCell → Type 0
AreNumberedFrom called k [] = Unit {0}
AreNumberedFrom called k (d ∷ ds) = (d.name ≡ numbered_name called k) × AreNumberedFrom called (suc k) ds

numbered_from : (called : List ℕ) (k : ℕ) (ds : List RawCell) → ((i : ℕ) (d : RawCell) → i < length ds → (get_or ds i d).name ≡ numbered_name called (k + i)) → AreNumberedFrom called k ds
numbered_from called k [] h = tt
numbered_from called k (d ∷ ds) h = (
  h 0 d (omega arith) ∙ ap (numbered_name called) (let e : k + 0 ≡ k = omega arith in e),
  numbered_from called (suc k) ds (λ i e l. h (suc i) e (omega arith) ∙ ap (numbered_name called) (let f : k + suc i ≡ suc k + i = omega arith in f)),
)

-- the number of one of them
place_from : (called : List ℕ) (k : ℕ) (ds : List RawCell) (d : RawCell) → AreNumberedFrom called k ds → Has ds d → (i : ℕ) × (k ≤ i) × (i < k + length ds) × (d.name ≡ numbered_name called i)
place_from called k [] d h has = absurd has
place_from called k (x ∷ xs) d h (inl e) = (k, omega arith, omega arith, sym (ap cell_name e) ∙ h.0)
place_from called k (x ∷ xs) d h (inr has) = (let rest = place_from called (suc k) xs d h.1 has in (rest.0, omega (arith, rest.1), omega (arith, rest.2), rest.3))

numbered_once : (name called : List ℕ) (k : ℕ) (ds : List RawCell) → AreNumberedFrom called k ds → k + length ds ≤ 10 ^ 64 → times cell_name name ds ≤ 1
unfolding times
numbered_once name called k [] h few = omega arith
numbered_once name called k (d ∷ ds) h few =
    either_once (hit name d.name) (times cell_name name ds) (hit_once name d.name) (numbered_once name called (suc k) ds h.1 (omega arith))
    (λ l. no_time cell_name name ds (λ x has e.
    let at = place_from called (suc k) ds x h.1 has in
    let same : k ≡ at.0 = (numbered_same called called k at.0 (omega arith) (omega (arith, at.2)) (sym h.0 ∙ sym (same_hit name d.name l) ∙ e ∙ at.3)).1 in
    absurd (omega (arith, at.1))))

block_once : (name : List ℕ) (c : RawCell) (b : Block) → AreNumbered c b → times cell_name name b.further ≤ 1
block_once name c b h = numbered_once name c.name 0 b.further (numbered_from c.name 0 b.further (λ i d l. h.names i d l ∙ ap (numbered_name c.name) (let e : i ≡ 0 + i = omega arith in e))) (let few = h.few in omega arith)

block_further : (name : List ℕ) (c : RawCell) (b : Block) → AreNumbered c b → 0 < times cell_name name b.further → (i : ℕ) × (i < 10 ^ 64) × (name ≡ numbered_name c.name i)
block_further name c b h l =
    let found = named cell_name name b.further l in
    let at = At-has b.further found.thing found.has in
    let below = At-below b.further at.0 found.thing at.1 in
    let here : get_or b.further at.0 found.thing ≡ found.thing = At-get b.further at.0 found.thing found.thing at.1 in
    (at.0, (let few = h.few in omega arith), found.is ∙ sym (ap cell_name here) ∙ h.names at.0 found.thing below)

-- ---- all blocks

pub further_found : (name : List ℕ) (cells : List RawCell) (blocks : List Block) → AllZip AreNumbered cells blocks → 0 < times cell_name name (further_cells blocks) → IsFurther name cells
unfolding times
further_found name [] [] h l = absurd (omega arith)
further_found name [] (b ∷ blocks) h l = absurd h
further_found name (c ∷ cells) [] h l = absurd h
further_found name (c ∷ cells) (b ∷ blocks) h l = elim (cases_lt 0 (times cell_name name b.further)) [
  | inl first ↦ (let found = block_further name c b h.0 first in record { cell = c; has = inl refl; number = found.0; few = found.1; is = found.2 })
  | inr none ↦ (let rest = further_found name cells blocks h.1 (omega (arith, times-append cell_name name b.further (further_cells blocks))) in
      record { cell = rest.cell; has = inr rest.has; number = rest.number; few = rest.few; is = rest.is })
]

-- a further cell of one cell has no name of a further cell of another
names_apart : (c : RawCell) (cells : List RawCell) → AreInOrder (cell_names (c ∷ cells)) → (name : List ℕ) → (i : ℕ) × (i < 10 ^ 64) × (name ≡ numbered_name c.name i) → IsFurther name cells → ⊥
unfolding times
names_apart c cells order name at f =
    let same : c.name ≡ f.cell.name = (numbered_same c.name f.cell.name at.0 f.number at.1 f.few (sym at.2 ∙ f.is)).0 in
    let few : times cell_name c.name (c ∷ cells) ≤ 1 = once cell_name c.name (c ∷ cells) order in
    let first : hit c.name c.name ≡ 1 = hit_same c.name c.name refl in
    let second : 0 < times cell_name c.name cells = some_time cell_name c.name cells f.cell f.has same in
    omega arith

pub further_once : (name : List ℕ) (cells : List RawCell) (blocks : List Block) → AreInOrder (cell_names cells) → AllZip AreNumbered cells blocks → times cell_name name (further_cells blocks) ≤ 1
unfolding times IsStrictlySortedBy
further_once name [] [] order h = omega arith
further_once name [] (b ∷ blocks) order h = absurd h
further_once name (c ∷ cells) [] order h = absurd h
further_once name (c ∷ cells) (b ∷ blocks) order h =
    let all = times-append cell_name name b.further (further_cells blocks) in
    let first : times cell_name name b.further ≤ 1 = block_once name c b h.0 in
    let rest : times cell_name name (further_cells blocks) ≤ 1 = further_once name cells blocks order.1 h.1 in
    let alone : 0 < times cell_name name b.further → times cell_name name (further_cells blocks) ≡ 0 = λ l.
    (let none : 0 < times cell_name name (further_cells blocks) → ⊥ = λ m. names_apart c cells order name (block_further name c b h.0 l) (further_found name cells blocks h.1 m) in omega arith) in
    let both = either_once (times cell_name name b.further) (times cell_name name (further_cells blocks)) first rest alone in
    omega arith

-- ---- names that are wanted

wanted_if : (b : Bool) (name called : List ℕ) → Has (name_if b called) name → name ≡ called
wanted_if true name called (inl e) = sym e
wanted_if true name called (inr h) = absurd h
wanted_if false name called h = absurd h

wanted_no_further : (name : List ℕ) (c d : RawCell) (i : ℕ) → Has (wanted_for c) name → i < 10 ^ 64 → name ≡ numbered_name d.name i → ⊥
wanted_no_further name c d i h l e = elim (Has-append (name_if (has_role is_register c || has_role is_memory c) (taint_name c.name) ++ name_if (has_role is_reset_register c) (stored_name c.name)) (name_if (has_flag c) (flag_name c.name)) name h) [
  | inl k ↦ elim (Has-append (name_if (has_role is_register c || has_role is_memory c) (taint_name c.name)) (name_if (has_role is_reset_register c) (stored_name c.name)) name k) [
    | inl t ↦ numbered_no_taint c.name d.name i l (sym (wanted_if (has_role is_register c || has_role is_memory c) name (taint_name c.name) t) ∙ e)
    | inr s ↦ numbered_no_stored c.name d.name i l (sym (wanted_if (has_role is_reset_register c) name (stored_name c.name) s) ∙ e)
  ]
  | inr f ↦ numbered_no_flag c.name d.name i l (sym (wanted_if (has_flag c) name (flag_name c.name) f) ∙ e)
]

-- no name that is wanted of a cell is one of a further cell
pub wanted_apart : (name : List ℕ) (cells others : List RawCell) → Has (flat_map wanted_for cells) name → IsFurther name others → ⊥
wanted_apart name [] others h f = absurd h
wanted_apart name (c ∷ cells) others h f = elim (Has-append (wanted_for c) (flat_map wanted_for cells) name h) [
  | inl k ↦ wanted_no_further name c f.cell f.number k f.few f.is
  | inr k ↦ wanted_apart name cells others k f
]
