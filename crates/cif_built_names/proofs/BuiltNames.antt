-- In a module that is built to augment another each name is one port's, one cell's, or one netname's.
use Rattle.std.specs.Prelude.{ℕ, ◌+◌, ◌^◌, ◌<◌, ◌≤◌, ◌≡◌, true, List, [], ◌∷◌, ◌++◌, map, length, refl}
use Rattle.std.specs.List.{flat_map, zip, AllZip}
use Rattle.std.proofs.Common.{arith, sym, ap, ◌∙◌, subst, inl, inr}
use Rattle.std.proofs.lemmas.Bool.{cases_lt}
use Rattle.std.proofs.lemmas.List.{length-append}
use Rattle.cif_defs.specs.Order.{IsInOrder}
use Rattle.cif_defs.specs.RawModule.{net_numbers}
use Rattle.cif_defs.specs.Accepted.{cell_of}
use Rattle.cif_defs.specs.Weights.{weight}
use Rattle.cif_defs.specs.declared.raw_module.RawBit.{RawBit}
use Rattle.cif_defs.specs.declared.raw_module.RawPort.{RawPort}
use Rattle.cif_defs.specs.declared.raw_module.RawCell.{RawCell}
use Rattle.cif_defs.specs.declared.raw_module.Raw.{Raw}
use Rattle.cif_checks.specs.Checks.{IsAccepted, cell_fault}
use Rattle.cif_nets.proofs.Passed.{each_passes, passed}
use Rattle.cif_nets.proofs.Places.{Has}
use Rattle.cif_augment.specs.Names.{data_ports}
use Rattle.cif_augment.specs.Refusals.{wanted_for, wanted_names, standing_names, is_numbered}
use Rattle.cif_augment.specs.Additions.{Block, IsBlock, block_cells, net_of_port, nets_of_block}
use Rattle.cif_built.specs.Makings.{Making, block_of}
use Rattle.cif_built.specs.Built.{IsBuilt, IsMaking, IsShadowPort}
use Rattle.cif_built_names.proofs.NameCounts.{either_once, hit, named, no_time, once, times, times-append, times-map, times-permutation}
use Rattle.cif_built_names.proofs.NumberedNames.{numbered}
use Rattle.cif_built_names.proofs.WeightBounds.{light_cell}
use Rattle.cif_built_names.proofs.WantedNames.{AreFree, cell_stands, net_stands, port_stands, port_taint_name, times_wanted}
use Rattle.cif_built_names.proofs.BlockNames.{cell_name, cells_times, further_cells, net_name, nets_times, times_in}
use Rattle.cif_built_names.proofs.FurtherNames.{AreNumbered, further_found, further_once, wanted_apart}
use Rattle.cif_built_names.proofs.Zips.{zip_mapped, zip_weaker}

abbrev pub port_name : RawPort → List ℕ
port_name p = p.name

-- ---- the blocks

pub blocks_are : (n : Raw) (released : List ℕ) (shadow : ℕ → RawBit) (makings : List Making) → AllZip (IsMaking n released shadow) n.cells makings → AllZip (IsBlock n) n.cells (map block_of makings)
blocks_are n released shadow makings h =
    zip_mapped (IsBlock n) block_of n.cells makings (zip_weaker (IsMaking n released shadow) (λ c m. IsBlock n c (block_of m)) n.cells makings (λ c m has k. k.block) h)

numbered_block : (n : Raw) (c : RawCell) (b : Block) → IsAccepted n → Has n.cells c → IsBlock n c b → AreNumbered c b
numbered_block n c b accepted has h = record {
  few =
      let count : length (block_cells b) ≤ weight (cell_of (net_numbers n) c) = h.count in
      let limit : weight (cell_of (net_numbers n) c) < 10 ^ 64 = light_cell (net_numbers n) c (each_passes cell_fault n.cells c (passed n accepted).cells has) in
      omega (arith, length-append {A = RawCell});
  names = λ i d l. (h.further i d l).is_new.name;
}

pub blocks_numbered : (n : Raw) (blocks : List Block) → IsAccepted n → AllZip (IsBlock n) n.cells blocks → AllZip AreNumbered n.cells blocks
blocks_numbered n blocks accepted h = zip_weaker (IsBlock n) AreNumbered n.cells blocks (λ c b has k. numbered_block n c b accepted has k) h

-- ---- the ports of taint

shadow_times : (name : List ℕ) (n : Raw) (released : List ℕ) (shadow : ℕ → RawBit) (ps qs : List RawPort) → AllZip (IsShadowPort n released shadow) ps qs → times port_name name qs ≡ times port_taint_name name ps
unfolding times
shadow_times name n released shadow [] [] h = refl
shadow_times name n released shadow [] (q ∷ qs) h = absurd h
shadow_times name n released shadow (p ∷ ps) [] h = absurd h
shadow_times name n released shadow (p ∷ ps) (q ∷ qs) h =
    let first : hit name q.name ≡ hit name (port_taint_name p) = ap (hit name) h.0.port.name in
    let rest = shadow_times name n released shadow ps qs h.1 in
    omega arith

-- ---- what stands has no wanted name

none_stands : {A : Type 0} (name_of : A → List ℕ) (name : List ℕ) (n : Raw) (xs : List A) → AreFree n → ((x : A) → Has xs x → Has (standing_names n) (name_of x)) → 0 < times_in name (wanted_names n) → times name_of name xs ≡ 0
none_stands name_of name n xs free stands l =
    let found = named (λ x. x) name (wanted_names n) l in
    no_time name_of name xs (λ x has e. free.apart name (subst (Has (wanted_names n)) (sym found.is) found.has) (subst (Has (standing_names n)) (sym e) (stands x has)))

-- a name that is one of some, or one of others that stand
joined_once : (old new total : ℕ) → total ≡ old + new → old ≤ 1 → new ≤ 1 → (0 < new → old ≡ 0) → total ≤ 1
joined_once old new total e h k apart = (let both = either_once new old k h apart in omega arith)

-- ---- each name is one port's, one cell's, one netname's

pub ports_once : (n a : Raw) (released : List ℕ) → IsInOrder n → AreFree n → IsBuilt n released a → (name : List ℕ) → times port_name name a.ports ≤ 1
ports_once n a released order free h name =
    let moved = times-permutation port_name name (n.ports ++ h.ports) a.ports h.has_ports in
    let parts = times-append port_name name n.ports h.ports in
    let taints = shadow_times name n released h.shadow (data_ports n) h.ports h.are_ports in
    let wanted = times_wanted n name in
    let few = free.once name in
    joined_once (times port_name name n.ports) (times port_name name h.ports) (times port_name name a.ports) (moved ∙ parts) (once port_name name n.ports order.ports) (omega arith)
    (λ l. none_stands port_name name n n.ports free (port_stands n) (omega arith))

pub names_once : (n a : Raw) (released : List ℕ) → IsInOrder n → AreFree n → IsBuilt n released a → (name : List ℕ) → times net_name name a.names ≤ 1
names_once n a released order free h name =
    let blocks = map block_of h.makings in
    let nets = flat_map (nets_of_block n) (zip n.cells blocks) in
    let moved = times-permutation net_name name (n.names ++ map net_of_port h.ports ++ nets) a.names h.has_names in
    let parts2 = times-append net_name name (n.names ++ map net_of_port h.ports) nets in
    let parts1 = times-append net_name name n.names (map net_of_port h.ports) in
    let same : times net_name name (map net_of_port h.ports) ≡ times port_name name h.ports = times-map net_name net_of_port name h.ports in
    let taints = shadow_times name n released h.shadow (data_ports n) h.ports h.are_ports in
    let copies = nets_times name n n.cells blocks (blocks_are n released h.shadow h.makings h.are_makings) in
    let wanted = times_wanted n name in
    let few = free.once name in
    joined_once (times net_name name n.names) (times port_name name h.ports + times net_name name nets) (times net_name name a.names) (omega arith) (once net_name name n.names order.nets) (omega arith)
    (λ l. none_stands net_name name n n.names free (net_stands n) (omega arith))

storing_no_further : (name : List ℕ) (n : Raw) (blocks : List Block) → AllZip AreNumbered n.cells blocks → 0 < times_in name (flat_map wanted_for n.cells) → 0 < times cell_name name (further_cells blocks) → ⊥
storing_no_further name n blocks h l m =
    let found = named (λ x. x) name (flat_map wanted_for n.cells) l in
    wanted_apart name n.cells n.cells (subst (Has (flat_map wanted_for n.cells)) (sym found.is) found.has) (further_found name n.cells blocks h m)

-- no cell that stands has the name of a further cell
further_stands : (name : List ℕ) (n : Raw) (blocks : List Block) → AreFree n → AllZip AreNumbered n.cells blocks → 0 < times cell_name name (further_cells blocks) → times cell_name name n.cells ≡ 0
further_stands name n blocks free h l =
    let found = further_found name n.cells blocks h l in
    let is : is_numbered n name ≡ true = ap (is_numbered n) found.is ∙ numbered n found.cell found.number found.has found.few in
    no_time cell_name name n.cells (λ x has e. free.unnumbered name (subst (Has (standing_names n)) (sym e) (cell_stands n x has)) is)

pub cells_once : (n a : Raw) (released : List ℕ) → IsInOrder n → IsAccepted n → AreFree n → IsBuilt n released a → (name : List ℕ) → times cell_name name a.cells ≤ 1
cells_once n a released order accepted free h name =
    let blocks = map block_of h.makings in
    let are_blocks = blocks_are n released h.shadow h.makings h.are_makings in
    let numbered = blocks_numbered n blocks accepted are_blocks in
    let moved = times-permutation cell_name name (n.cells ++ flat_map block_cells blocks) a.cells h.has_cells in
    let parts = times-append cell_name name n.cells (flat_map block_cells blocks) in
    let made = cells_times name n n.cells blocks are_blocks in
    let wanted = times_wanted n name in
    let few = free.once name in
    let further = further_once name n.cells blocks order.cells numbered in
    let storing_apart : 0 < times_in name (flat_map wanted_for n.cells) → times cell_name name (further_cells blocks) ≡ 0 = λ l.
    (let none : 0 < times cell_name name (further_cells blocks) → ⊥ = λ m. storing_no_further name n blocks numbered l m in omega arith) in
    let new = either_once (times_in name (flat_map wanted_for n.cells)) (times cell_name name (further_cells blocks)) (omega arith) further storing_apart in
    joined_once (times cell_name name n.cells) (times_in name (flat_map wanted_for n.cells) + times cell_name name (further_cells blocks)) (times cell_name name a.cells) (omega arith) (once cell_name name n.cells order.cells) new
    (λ l. elim (cases_lt 0 (times_in name (flat_map wanted_for n.cells))) [
      | inl some ↦ none_stands cell_name name n n.cells free (cell_stands n) (omega arith)
      | inr none ↦ further_stands name n blocks free numbered (omega arith)
    ])
