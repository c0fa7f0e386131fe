-- A piece is taken over: what its plan lists is what its part owns.
use Rattle.std.specs.Prelude.{ℕ, ◌+◌, ◌<◌, ◌≡◌, List, [], length, get_or}
use Rattle.std.proofs.Common.{arith, ap, ◌∙◌, subst}
use Rattle.cif_cells.specs.NetlistView.{AreFitted}
use Rattle.cif_defs.specs.Accepted.{netlist_of}
use Rattle.cif_defs.specs.Cells.{Cell}
use Rattle.cif_defs.specs.Netlist.{IsWired, cell_at}
use Rattle.cif_defs.specs.declared.raw_module.Raw.{Raw}
use Rattle.cif_level.proofs.Driving.{HasOneOutput}
use Rattle.cif_seq.specs.Cases.{CaseOf, net_of}
use Rattle.cif_pieces.specs.Parts.{OwnsCell}
use Rattle.cif_pieces.specs.Pieces.{HoldsPiece, PieceOf, piece_of}
use Rattle.cif_pieces.specs.Plans.{IsPlanOf, Lists, PlanOf}
use Rattle.cif_pieces.specs.declared.piece.OwnedBits.{OwnedBits}
use Rattle.cif_parts.specs.Joining.{IsTaking, TakesCell}
use Rattle.cif_parts.proofs.Outputs.{AreDriven, are_driven}
use Rattle.cif_parts.proofs.Taking.{taking_more}

pub driven_case : (c : CaseOf) (raw : Raw) (cells : List Cell) → raw ≡ c.raw → HasOneOutput (netlist_of raw) → IsWired (netlist_of raw) → cells ≡ (netlist_of raw).cells → AreFitted cells → AreDriven (net_of c)
driven_case c raw cells e o w ec f = subst (λ (x : Raw). AreDriven (netlist_of x)) e (are_driven (netlist_of raw) w o (subst AreFitted ec f))

pub lists_planned : (c : CaseOf) (p : PlanOf) (parts part q : ℕ) (owned : List ℕ) → IsPlanOf c p → part < parts → parts ≡ p.parts → q ≡ part → owned ≡ get_or p.owned q [] → Lists c.order (OwnsCell (net_of c) parts part) owned
lists_planned c p parts part q owned h l ep eq eo = rw (ep, eo ∙ ap (λ (z : ℕ). get_or p.owned z []) eq) (h.owned part (omega arith))

pub piece_of_case : (c : CaseOf) (p : PieceOf) (bits : OwnedBits) → p.case ≡ c → HoldsPiece p bits → HoldsPiece (piece_of c p.cycle p.part p.parts) bits
piece_of_case c p bits e h = subst (λ (x : CaseOf). HoldsPiece (piece_of x p.cycle p.part p.parts) bits) e h

pub taking_step : (c : CaseOf) (raw : Raw) (k parts part i x : ℕ) (owned : List ℕ) (from left old new : OwnedBits) → raw ≡ c.raw → AreDriven (net_of c) → Lists c.order (OwnsCell (net_of c) parts part) owned → i < length owned → x ≡ get_or owned i 0
    → TakesCell (cell_at (netlist_of raw) x) x from left old new → IsTaking c k parts part owned i from old → IsTaking c k parts part owned (i + 1) left new
taking_step c raw k parts part i x owned from left old new e d lists l at t h =
    taking_more c k parts part i x owned from left old new d lists l at (subst (λ (r : Raw). TakesCell (cell_at (netlist_of r) x) x from left old new) e t) h
