-- The table of the lines of each cell, line by line from the last.
use Rattle.std.specs.Prelude.{ℕ, ◌+◌, ◌<◌, ◌≤◌, ◌≡◌, ◌≢◌, ◌⊎◌, Bool, true, false, List, length, get_or, slice_set, drop, replicate, bytes_eq, Option, Some, None, IfSome, refl}
use Rattle.std.proofs.Common.{arith, ap, sym, ◌∙◌, cond, subst, inl, inr}
use Rattle.std.proofs.lemmas.List.{at_drop_more, at_drop_all, get_or_past, get_or_default, get_or-replicate, get_or-set_same, get_or-set_other, length-set, length-replicate}
use Rattle.std.proofs.lemmas.Bool.{false≢true}
use Rattle.std.proofs.lemmas.Slice.Eq.{bytes_eq-Decides}
use Rattle.cif_defs.specs.Cells.{Cell}
use Rattle.cif_defs.specs.Netlist.{no_cell}
use Rattle.cif_defs.specs.Order.{AreCellsInOrder, place_among}
use Rattle.cif_defs.specs.Stimulus.{StimLine, reg_line, mem_line, release_line, cycle_line, set_line}
use Rattle.cif_defs.proofs.NameOrder.{own_place}
use Rattle.cif_stimulus.specs.Names.{cell_name, owner_of, line_at}
use Rattle.cif_stimulus.proofs.NamePlaces.{named_among}
use Rattle.cif_starts.specs.Starts.{starts_named, start_from, IsChainFrom, IsTableFrom}
use Rattle.cif_starts.specs.declared.starts.StartLines.{StartLines}

-- ---- a line names a cell by its name alone

abbrev name_at : List Cell → ℕ → List ℕ
name_at cells c = (get_or cells c no_cell).name

-- a name that is a cell's has its place
place_of_name : (cells : List Cell) (c : ℕ) (name : List ℕ) → AreCellsInOrder cells → c < length cells → bytes_eq name (name_at cells c) ≡ true → place_among cell_name cells name ≡ Some c
place_of_name cells c name order h same =
    ap (λ (q : List ℕ). place_among cell_name cells q) ((bytes_eq-Decides name (name_at cells c)).0 same)
    ∙ own_place cell_name cells c no_cell order h

owner_by_name : (cells : List Cell) (line : StimLine) (c : ℕ) → AreCellsInOrder cells → c < length cells → starts_named (name_at cells c) line ≡ true → owner_of cells line ≡ Some c
owner_by_name cells (reg_line name w) c order h same = place_of_name cells c name order h same
owner_by_name cells (mem_line name address w) c order h same = place_of_name cells c name order h same
owner_by_name cells (release_line name bits) c order h same = absurd (false≢true same)
owner_by_name cells (cycle_line k) c order h same = absurd (false≢true same)
owner_by_name cells (set_line name w) c order h same = absurd (false≢true same)

-- the owner of a line is there, and the line names it
pub record IsOwner (cells : List Cell) (line : StimLine) (c : ℕ) : Type 0 where
  pub inside : c < length cells
  pub named : starts_named (name_at cells c) line ≡ true

owner_found : (cells : List Cell) (line : StimLine) (name : List ℕ) (c : ℕ) → ((q : List ℕ) → starts_named q line ≡ bytes_eq name q) → place_among cell_name cells name ≡ Some c → IsOwner cells line c
owner_found cells line name c names e =
    let there = named_among cell_name cells no_cell name c e in
    record { inside = there.inside; named = names (name_at cells c) ∙ (bytes_eq-Decides name (name_at cells c)).1 (sym there.same) }

owner_is : (cells : List Cell) (line : StimLine) (c : ℕ) → owner_of cells line ≡ Some c → IsOwner cells line c
owner_is cells (reg_line name w) c e = owner_found cells (reg_line name w) name c (λ q. refl) e
owner_is cells (mem_line name address w) c e = owner_found cells (mem_line name address w) name c (λ q. refl) e
owner_is cells (release_line name bits) c e = absurd (cc)
owner_is cells (cycle_line k) c e = absurd (cc)
owner_is cells (set_line name w) c e = absurd (cc)

-- a cell that isn't the owner isn't named
unnamed_by : (cells : List Cell) (line : StimLine) (c : ℕ) (b : Bool) → AreCellsInOrder cells → c < length cells → owner_of cells line ≢ Some c → starts_named (name_at cells c) line ≡ b → starts_named (name_at cells c) line ≡ false
unnamed_by cells line c false order h other e = e
unnamed_by cells line c true order h other e = absurd (other (owner_by_name cells line c order h e))

unnamed : (cells : List Cell) (line : StimLine) (c : ℕ) → AreCellsInOrder cells → c < length cells → owner_of cells line ≢ Some c → starts_named (name_at cells c) line ≡ false
unnamed cells line c order h other = unnamed_by cells line c (starts_named (name_at cells c) line) order h other refl

-- ---- one line more

line_step : (lines : List StimLine) (place : ℕ) (q : List ℕ) → place < length lines → start_from place (drop place lines) q ≡ cond (starts_named q (line_at lines place)) (Some place) (start_from (place + 1) (drop (place + 1) lines) q)
line_step lines place q h = at_drop_more (λ xs. start_from place xs q) lines place (cycle_line 0) h

here_or_later : (place j : ℕ) → place ≤ j → (j ≡ place) ⊎ (place + 1 ≤ j)
here_or_later place j h = search arith

same_or_not : (i j : ℕ) → (i ≡ j) ⊎ (i ≢ j)
same_or_not i j = search arith

-- a line that doesn't have the name is passed over
chain_past : (lines : List StimLine) (q : List ℕ) (place : ℕ) (first : Option ℕ) (old new : List (Option ℕ)) → place < length lines → starts_named q (line_at lines place) ≡ false → ((j : ℕ) → place + 1 ≤ j → get_or new j None ≡ get_or old j None)
    → IsChainFrom lines q (place + 1) first old → IsChainFrom lines q place first new
chain_past lines q place first old new h other kept chain = record {
  found = chain.found ∙ sym (line_step lines place q h ∙ ap (λ b. cond b (Some place) (start_from (place + 1) (drop (place + 1) lines) q)) other);
  chained = λ j from hit. elim (here_or_later place j from) [
    | inl e ↦ absurd (false≢true (sym other ∙ ap (λ k. starts_named q (line_at lines k)) (sym e) ∙ hit))
    | inr l ↦ kept j l ∙ chain.chained j l hit
  ];
}

-- a line that has the name is the first, and what was the first follows it
chain_more : (lines : List StimLine) (q : List ℕ) (place : ℕ) (first : Option ℕ) (old new : List (Option ℕ)) → place < length lines → starts_named q (line_at lines place) ≡ true → get_or new place None ≡ first → ((j : ℕ) → place + 1 ≤ j → get_or new j None ≡ get_or old j None)
    → IsChainFrom lines q (place + 1) first old → IsChainFrom lines q place (Some place) new
chain_more lines q place first old new h named here kept chain = record {
  found = sym (line_step lines place q h ∙ ap (λ b. cond b (Some place) (start_from (place + 1) (drop (place + 1) lines) q)) named);
  chained = λ j from hit. elim (here_or_later place j from) [
    | inl e ↦ (let P : ℕ → Type 0 = λ k. get_or new k None ≡ start_from (k + 1) (drop (k + 1) lines) q in subst P (sym e) (here ∙ chain.found))
    | inr l ↦ kept j l ∙ chain.chained j l hit
  ];
}

-- a line of no cell changes no chain
pub noted_none : (cells : List Cell) (lines : List StimLine) (place : ℕ) (table : StartLines) → AreCellsInOrder cells → place < length lines → owner_of cells (line_at lines place) ≡ None → IsTableFrom cells lines (place + 1) table → IsTableFrom cells lines place table
noted_none cells lines place table order h none known = record {
  as_many_cells = known.as_many_cells;
  as_many_lines = known.as_many_lines;
  chains = λ c inside. chain_past lines (name_at cells c) place (get_or table.first.items c None) table.following.items table.following.items h
      (unnamed cells (line_at lines place) c order inside (λ e. (let other : None ≡ Some c = sym none ∙ e in absurd (cc)))) (λ j l. refl) (known.chains c inside);
}

-- a line of a cell
pub noted_some : (cells : List Cell) (lines : List StimLine) (place c : ℕ) (was : Option ℕ) (old new : StartLines) → AreCellsInOrder cells → place < length lines → owner_of cells (line_at lines place) ≡ Some c → IsTableFrom cells lines (place + 1) old
    → was ≡ get_or old.first.items c was → new.first.items ≡ slice_set old.first.items c (Some place) → new.following.items ≡ slice_set old.following.items place was → IsTableFrom cells lines place new
noted_some cells lines place c was old new order h owner known is first_is following_is = record {
  as_many_cells = ap (λ (ns : List (Option ℕ)). length ns) first_is ∙ length-set old.first.items c (Some place) ∙ known.as_many_cells;
  as_many_lines = ap (λ (ns : List (Option ℕ)). length ns) following_is ∙ length-set old.following.items place was ∙ known.as_many_lines;
  chains = λ d inside. elim (same_or_not d c) [
    | inl e ↦ (let P : ℕ → Type 0 = λ k. IsChainFrom lines (name_at cells k) place (get_or new.first.items k None) new.following.items in subst P (sym e) own)
    | inr e ↦ (let P : Option ℕ → Type 0 = λ o. IsChainFrom lines (name_at cells d) place o new.following.items in
        subst P (sym (ap (λ (ns : List (Option ℕ)). get_or ns d None) first_is ∙ get_or-set_other old.first.items c d (Some place) None (λ s. e s)))
        (chain_past lines (name_at cells d) place (get_or old.first.items d None) old.following.items new.following.items h
        (unnamed cells (line_at lines place) d order inside (λ s. e (let same : Some c ≡ Some d = sym owner ∙ s in cc))) kept (known.chains d inside)))
  ];
} where
  there : IsOwner cells (line_at lines place) c
  there = owner_is cells (line_at lines place) c owner

  within : c < length old.first.items
  within = (let i = there.inside in let e = known.as_many_cells in omega arith)

  line_within : place < length old.following.items
  line_within = (let e = known.as_many_lines in omega arith)

  kept : (j : ℕ) → place + 1 ≤ j → get_or new.following.items j None ≡ get_or old.following.items j None
  kept j l = (let other : j ≢ place = omega arith in ap (λ (ns : List (Option ℕ)). get_or ns j None) following_is ∙ get_or-set_other old.following.items place j was None other)

  here : get_or new.following.items place None ≡ get_or old.first.items c None
  here = ap (λ (ns : List (Option ℕ)). get_or ns place None) following_is ∙ get_or-set_same old.following.items place was None line_within ∙ is ∙ get_or_default old.first.items c was None within

  own : IsChainFrom lines (name_at cells c) place (get_or new.first.items c None) new.following.items
  own = (let P : Option ℕ → Type 0 = λ o. IsChainFrom lines (name_at cells c) place o new.following.items in
      subst P (sym (ap (λ (ns : List (Option ℕ)). get_or ns c None) first_is ∙ get_or-set_same old.first.items c (Some place) None within))
      (chain_more lines (name_at cells c) place (get_or old.first.items c None) old.following.items new.following.items h there.named here kept (known.chains c there.inside)))

-- ---- before any line

no_chain : (lines : List StimLine) (q : List ℕ) (n k : ℕ) (first : Option ℕ) → length lines ≤ n → first ≡ None → IsChainFrom lines q n first (replicate k None)
no_chain lines q n k first h none = record {
  found = none ∙ sym (at_drop_all (λ (xs : List StimLine). start_from n xs q) lines n h);
  chained = λ j from hit. absurd (false≢true (ap (starts_named q) (sym (get_or_past lines j (cycle_line 0) (omega arith))) ∙ hit));
}

pub no_line : (cells : List Cell) (lines : List StimLine) (n : ℕ) (table : StartLines) → n ≡ length lines → table.first.items ≡ replicate (length cells) None → table.following.items ≡ replicate n None → IsTableFrom cells lines n table
no_line cells lines n table count first following = record {
  as_many_cells = ap (λ (ns : List (Option ℕ)). length ns) first ∙ length-replicate (length cells) None;
  as_many_lines = ap (λ (ns : List (Option ℕ)). length ns) following ∙ length-replicate n None ∙ count;
  chains = λ c inside. (let P : List (Option ℕ) → Type 0 = λ ns. IsChainFrom lines (name_at cells c) n (get_or table.first.items c None) ns in
      subst P (sym following) (no_chain lines (name_at cells c) n n (get_or table.first.items c None) (omega arith) (ap (λ (ns : List (Option ℕ)). get_or ns c None) first ∙ get_or-replicate (length cells) c None None inside)));
}

-- the owner of a line has a place in the table
pub owner_inside : (cells : List Cell) (lines : List StimLine) (place i : ℕ) (table : StartLines) (owner : Option ℕ) → owner ≡ owner_of cells (line_at lines place) → IsTableFrom cells lines i table → IfSome owner (λ c. c < length table.first.items)
owner_inside cells lines place i table None is known = tt
owner_inside cells lines place i table (Some c) is known = (let there = owner_is cells (line_at lines place) c (sym is) in let i = there.inside in let e = known.as_many_cells in omega arith)

pub at_first : (cells : List Cell) (lines : List StimLine) (i : ℕ) (table : StartLines) → i ≤ 0 → IsTableFrom cells lines i table → IsTableFrom cells lines 0 table
at_first cells lines i table h known = (let first : i ≡ 0 = omega arith in let P : ℕ → Type 0 = λ k. IsTableFrom cells lines k table in subst P first known)
